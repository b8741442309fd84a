use Rattle.std.proofs.Common.{sym, ◌∙◌}
use Rattle.tatp_numbers.specs.Listing.{answer}
use Rattle.tatp_numbers.proofs.HomeLaws.{get-from_entries}
use Rattle.tatp_numbers.proofs.directory.Directory.home_of.Goals as goal

pub returns-in-Number : goal.returns-in-Number
returns-in-Number c = c.copied.ensures ∙ c.get.ensures.value ∙ sym (get-from_entries c.self.inside.s_ids.entries c.in-Number.number) ∙ (λ i. answer (c.self.view_is i) (sym c.in-Number.is i))
