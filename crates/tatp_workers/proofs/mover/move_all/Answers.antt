use Rattle.std.proofs.Common.{◌≡◌, Some, get_or, slice_get, refl, ap, ◌∙◌, ◌++◌, ◌∷◌, [], List, arith}
use Rattle.std.proofs.lemmas.Option.{slice_get-get_or}
use Rattle.tatp_extents.specs.Extents.{ExtentState}
use Rattle.tatp_workers.specs.Carrying.{IsMade}
use Rattle.tatp_workers.proofs.GrowthLaws.{none_dealt, one_more_dealt}
use Rattle.tatp_workers.proofs.MoverLaws.{all_moved, last_moved}
use Rattle.tatp_workers.proofs.mover.move_all.Goals as goal

pub loop-number-init : goal.loop-number-init
loop-number-init g c = record {
  made = none_dealt IsMade c.args.moves.now (g.C.Carrying.effects c.args.carrying.now);
  same = refl;
  room = c.requires.room;
}

pub returns-in-Some : goal.returns-in-Some
returns-in-Some g c =
    let move = get_or c.args.moves.now c.loop-number.number (0, 0) in
    let at : slice_get c.args.moves.now c.loop-number.number ≡ Some move = slice_get-get_or c.args.moves.now c.loop-number.number (0, 0) (omega arith) in
    last_moved c.args.moves.now c.loop-number.number move c.in-Some.parcel
    (g.C.Carrying.effects c.args.carrying.now) (g.C.Carrying.effects c.loop-number.carrying) (g.C.Carrying.effects c.make_move.new.carrying)
    c.args.hand.now.items c.push_reserved.new.self.items
    c.loop-number.invariant.made at c.in-Some.ensures
    (c.push_reserved.ensures.items ∙ ap (λ (l : List ExtentState). l ++ c.in-Some.parcel ∷ []) c.loop-number.invariant.same)

pub loop-number-preserved : goal.loop-number-preserved
loop-number-preserved g c =
    let move = get_or c.args.moves.now c.loop-number.number (0, 0) in
    let at : slice_get c.args.moves.now c.loop-number.number ≡ Some move = slice_get-get_or c.args.moves.now c.loop-number.number (0, 0) (omega arith) in
    record {
      made = one_more_dealt IsMade c.args.moves.now c.loop-number.number
          (g.C.Carrying.effects c.args.carrying.now) (g.C.Carrying.effects c.loop-number.carrying) (g.C.Carrying.effects c.make_move.new.carrying)
          move c.in_default.ensures.0 c.loop-number.invariant.made at c.in_default.ensures.1 c.in_default.ensures.2;
      same = c.loop-number.invariant.same;
      room = c.loop-number.invariant.room;
    }

pub returns : goal.returns
returns g c =
    all_moved c.args.moves.now c.loop-number.number (g.C.Carrying.effects c.args.carrying.now) (g.C.Carrying.effects c.loop-number.carrying)
    c.args.hand.now.items c.loop-number.hand.items
    c.loop-number.invariant.made (omega arith) c.loop-number.invariant.same
