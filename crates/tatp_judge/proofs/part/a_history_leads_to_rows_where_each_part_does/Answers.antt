use Rattle.tatp_judge.specs.Parts.{part_of}
use Rattle.tatp_judge.proofs.PartLaws.{leads_here, leads_in_parts}
use Rattle.tatp_judge.proofs.part.a_history_leads_to_rows_where_each_part_does.Goals as goal

pub returns-clause-leads : goal.returns-clause-leads
returns-clause-leads c = λ u after count lines. leads_in_parts u after count lines

pub returns-clause-part : goal.returns-clause-part
returns-clause-part c = λ u after count number lines. leads_here u (part_of count number) after lines
