use Rattle.std.proofs.Common.{◌≡◌, true, false, not, Some, slice_get, length, refl, ap, ◌∙◌}
use Rattle.std.proofs.lemmas.Option.{slice_get_read}
use Rattle.tatp_run_history.specs.Parts.{is_done, rests_of}
use Rattle.tatp_run_history.proofs.PartLaws.{rest_at, none_left, first_at, found_none, none_further}
use Rattle.tatp_run_history.proofs.MergeLaws.{one_more_empty}
use Rattle.tatp_run_history.proofs.history.earliest.Goals as goal
use Rattle.tatp_run_history.proofs.history.earliest.Goals.{then-not-is_done+then-is_none, then-is_none-via-then-is_none, then-is_none-via-else-is_none+then-number-least, then-not-is_done+else-is_none+else-number-least, else-not-is_done}

pub loop-place-preserved : goal.loop-place-preserved
loop-place-preserved c =
    let parts = c.args.parts.now in
    let place = c.loop-place.place in
    let part = c.index-parts-place.result in
    let at : slice_get parts place ≡ Some part = slice_get_read parts (length parts) place part refl c.loop-place-test.true c.index-parts-place.is in
    elim c.if-not-is_done.branch [
      | then-not-is_done+then-is_none w ↦
          let left : is_done part ≡ false = cc in
          rw w.found-is (record { some = first_at parts place part at left; none = tt })
      | then-not-is_done+else-is_none+else-number-least w ↦
          rw w.found-is (record { some = c.loop-place.invariant.some; none = found_none _ c.loop-place.found (ap not (w.is_none.ensures ∙ ap not w.if-is_none.false)) })
      | else-not-is_done w ↦
          let done : is_done part ≡ true = cc in
          rw w.found-is (record {
            some = c.loop-place.invariant.some;
            none = none_further _ _ c.loop-place.found (λ none. one_more_empty (rests_of parts) place none (rest_at parts place part at ∙ ap Some (none_left part done))) c.loop-place.invariant.none;
          })
    ]
