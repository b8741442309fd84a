use Rattle.std.specs.Prelude.{IfOk}
use Rattle.std.proofs.Common.{◌≡◌, Some, Ok, Err, slice_get, sym, ◌∙◌, subst, true≢false}
use Rattle.tatp_history.specs.declared.observed.Observed.{Observed}
use Rattle.tatp_linearization.specs.Kinds.{IsTried}
use Rattle.tatp_linearization.specs.Ahead.{LooksAhead}
use Rattle.tatp_linearization.specs.Turns.{TakesAhead, TakesTried}
use Rattle.tatp_linearization.proofs.TurnLaws.{ahead_tried}
use Rattle.tatp_linearization.proofs.LaterLaws.{later_never}
use Rattle.tatp_linearization.proofs.PlaceLaws.{get_at, same_item}
use Rattle.tatp_linearization.proofs.effects.take_tried.Goals as goal

pub returns-then-not-is_tried : goal.returns-then-not-is_tried
returns-then-not-is_tried c = λ at rest after e known there tried on.
    let x : Observed = c.index.result.now in
    let place : slice_get c.args.c.now.opened.items c.args.i ≡ Some x = get_at _ _ _ c.requires.inside c.index.ensures in
    let one : there.call ≡ x = same_item c.args.c.now.opened.items c.args.i there.call x there.at place in
    true≢false (sym (c.is_tried.ensures.1 (subst (λ (y : Observed). IsTried c.args.kind y.call) one tried)) ∙ c.if-not-is_tried.true)

pub returns-then-comes_later : goal.returns-then-comes_later
returns-then-comes_later c =
    let k = c.comes_later.ensures c.if-comes_later.true in
    λ at rest after e known there tried on. later_never c.args.c.now c.args.i c.args.asked c.args.ahead.now c.args.now k.0 c.what_holds_of_every_home.ensures k.1 at rest after e known there on

pub returns : goal.returns
returns c = elim c.take_ahead.result as (λ r. IfOk r (TakesAhead (LooksAhead c.args.ahead.now c.args.now) c.args.c.now c.args.i) → IfOk r (TakesTried (LooksAhead c.args.ahead.now c.args.now) c.args.kind c.args.asked c.args.c.now c.args.i)) [
  | Ok d ↦ λ h. ahead_tried (LooksAhead c.args.ahead.now c.args.now) c.args.kind c.args.asked c.args.c.now c.args.i d h
  | Err e ↦ λ h. tt
] c.take_ahead.ensures
