use Rattle.std.proofs.Common.{◌≡◌, ◌+◌, ◌<◌, ◌^◌, ◌∙◌, ap, arith, List, [], ◌∷◌, ◌++◌, length, length-append, Option, Some, None, Ok, refl}
use Rattle.tatp_judge.specs.declared.judge.Verdict.{Verdict}
use Rattle.tatp_judge_tests.proofs.tests.histories.first_undecided.Goals as goal

none_is : (found : Option Verdict) → ((verdict : Verdict) → found ≡ Some verdict → ⊥) → found ≡ None
none_is None h = refl
none_is (Some verdict) h = absurd (h verdict refl)

pub follow-requires-clause-followed : goal.follow-requires-clause-followed
follow-requires-clause-followed c = let s = c.lines.invariant in (s.0, s.1, s.2, s.3, omega (arith, s.4, c.lines-test.true, c.requires.short))

pub lines-preserved : goal.lines-preserved
lines-preserved c =
    let s = c.lines.invariant in
    let line = c.index-lines-i.result in
    (s.0, s.1, s.2 ++ line ∷ [], c.in_ok-follow.ensures.followed (ap Ok (none_is c.in_ok-follow.field-0 c.in_default.not-Some)) s.0 s.1 s.2 s.3, length-append s.2 (line ∷ []) ∙ ap (λ n. n + 1) s.4)
