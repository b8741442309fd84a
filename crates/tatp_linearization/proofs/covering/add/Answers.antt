use Rattle.std.proofs.Common.{◌≡◌, List, Some, slice_get, sym, ◌∙◌, subst, true≢false}
use Rattle.tatp_linearization.specs.declared.configuration.Configuration.{Configuration as Held}
use Rattle.tatp_linearization.proofs.covering.add.Goals as goal

pub add_uncovered-requires-clause-other : goal.add_uncovered-requires-clause-other
add_uncovered-requires-clause-other c = λ i b at own same less. true≢false (sym (c.is_covered.ensures.other i b (subst (λ (cs : List Held). slice_get cs i ≡ Some b) (sym c.as_slice.ensures.value) at) own same less) ∙ c.if-is_covered.false)
