use Rattle.std.proofs.Common.{◌≡◌, ◌≤◌, List, Some, slice_get, sym, ◌∙◌, subst, true≢false}
use Rattle.tatp_linearization.specs.declared.configuration.Configuration.{Configuration as Held}
use Rattle.tatp_linearization.proofs.effects.add_untried.Goals as goal

pub add_uncovered-requires-clause-other : goal.add_uncovered-requires-clause-other
add_uncovered-requires-clause-other c = λ i b at own same less.
    let copied = c.in_ok-copy.ensures in
    let there : slice_get c.as_slice.result.now i ≡ Some b = subst (λ (cs : List Held). slice_get cs i ≡ Some b) (sym c.as_slice.ensures.value) at in
    true≢false (sym (c.is_covered.ensures.other i b there (own ∙ copied.own) (same ∙ copied.same) (subst (λ n. n ≤ b.overwritten) copied.overwritten less)) ∙ c.if-is_covered.false)
