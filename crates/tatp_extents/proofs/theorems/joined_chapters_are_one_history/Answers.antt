use Rattle.tatp_extents.proofs.ChapterLaws.{joined_lead, joined_homeless, joined_rise, parts_join}
use Rattle.tatp_extents.proofs.theorems.joined_chapters_are_one_history.Goals as goal

pub returns : goal.returns
returns c = record { leads = joined_lead; homeless = joined_homeless; rise = joined_rise; join = parts_join }
