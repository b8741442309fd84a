use Rattle.std.proofs.Common.{◌≡◌, true, ℕ, ◌<◌}
use Rattle.tatp_explanations.specs.Names.{name_of}
use Rattle.tatp_explanations.specs.Numbers.{is_explained}
use Rattle.tatp_explanations.proofs.search.explanation_named.Given as goal

abbrev pub invariant-numbers : goal.invariant-numbers
invariant-numbers l = (n : ℕ) → is_explained n ≡ true → n < l.number → l.word ≡ name_of n → ⊥
