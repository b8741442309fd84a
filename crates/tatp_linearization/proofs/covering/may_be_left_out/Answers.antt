use Rattle.std.proofs.Common.{◌≡◌, ℕ, ◌<◌, Some, slice_get, nat_lt, true, arith, ltb-true}
use Rattle.tatp_history.specs.declared.observed.Observed.{Observed}
use Rattle.tatp_linearization.proofs.PlaceLaws.{get_at}
use Rattle.tatp_linearization.proofs.covering.may_be_left_out.Goals as goal

pub returns-else-index-c : goal.returns-else-index-c
returns-else-index-c c =
    let x : Observed = c.index.result.now in
    let before : ℕ = c.args.c.now.overwritten in
    let late : x.asked < before → ⊥ = λ early. omega (arith, early, c.if-index-c.false) in (
      λ yes. absurd (late (ltb-true x.asked before yes)),
      λ h. absurd (late (h x (get_at _ _ _ c.requires.inside c.index.ensures)).0),
    )
