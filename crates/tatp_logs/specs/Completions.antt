-- Completed calls, as contracts see them.
use Rattle.std.specs.Prelude.{ℕ, List, refl}
use Rattle.std.specs.Coded.{Coded, code_by, coded×, coded_ℕ, coded_list}
use Rattle.tatp_calls.specs.declared.entry.Entry.{Entry}
use Rattle.tatp_calls.specs.contracts.entry.Entry as entry

-- what contracts see of completed calls: those, and for how many more memory is reserved
pub record CompletionsState : Type 0 where
  pub entries : List Entry
  pub room : ℕ

abbrev pub completions_state_code : Coded CompletionsState
completions_state_code =
    code_by (List Entry × ℕ)
    (coded× (coded_list entry.the_row.coded) coded_ℕ)
    (λ x. (x.entries, x.room))
    (λ p. record { entries = p.0; room = p.1 })
    (λ _. refl)
