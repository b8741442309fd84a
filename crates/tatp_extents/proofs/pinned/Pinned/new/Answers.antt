use Rattle.std.proofs.Common.{◌≡◌, ◌-◌, sym, ap, subst, arith}
use Rattle.tatp_extents.specs.Pinning.{IsPinned}
use Rattle.tatp_extents.specs.Parts.{pinned_state_of, pinned_in}
use Rattle.tatp_extents.proofs.HistoryLaws.{pins}
use Rattle.tatp_extents.proofs.pinned.Pinned.new.Goals as goal

in_its_place : (c : goal.After-first_subscriber) → pinned_in c.args.parts (c.args.s_id - c.first_subscriber.result) ≡ pinned_state_of c.args.parts c.args.s_id
in_its_place c = ap (pinned_state_of c.args.parts) (omega (arith, c.requires.lies.0, c.first_subscriber.ensures))

pub invariant_of-result : goal.invariant_of-result
invariant_of-result c = (subst IsPinned (sym (in_its_place c)) (pins (pinned_state_of c.args.parts c.args.s_id) c.requires.extent c.requires.lies), c.requires.room)

pub returns : goal.returns
returns c = in_its_place c
