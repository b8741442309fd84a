use Rattle.tatp_history.proofs.LeadLaws.{leads, led}
use Rattle.tatp_history.proofs.theorems.the_search_leads_to_configurations.Goals as goal

pub returns : goal.returns
returns c = λ events d. (λ h. leads events d h, λ h. led events d h.0 h.1)
