use Rattle.std.proofs.Common.{◌≡◌, ◌<◌, ◌≤◌, ◌+◌, ℕ, List, length, Some, Vec, Global, slice_get, sym, subst, arith}
use Rattle.std.proofs.lemmas.Result.{err_from_is_err_and}
use Rattle.tatp_linearization.specs.declared.configuration.Configuration.{Configuration as Held}
use Rattle.tatp_linearization.specs.Held.{AreApart}
use Rattle.tatp_linearization.specs.Covering.{FromOne, MayBeTried}
use Rattle.tatp_linearization.specs.Turns.{FollowSet}
use Rattle.tatp_linearization.specs.Ahead.{IsSeenAhead}
use Rattle.tatp_linearization.specs.Possible.{AreMoreThan}
use Rattle.tatp_linearization.proofs.PlaceLaws.{get_at}
use Rattle.tatp_linearization.proofs.AheadLaws.{seen_ahead}
use Rattle.tatp_linearization.proofs.FollowLaws.{IsFollowed, followed_none, followed_more, followed_less, followed_all, followed_many}
use Rattle.tatp_linearization.proofs.explanations.after_events.Goals as goal
use Rattle.tatp_linearization.proofs.explanations.after_events.Goals.{then-not-leaves_all+in_ok-next, else-not-leaves_all}

pub events-init : goal.events-init
events-init c =
    let at : slice_get c.args.events.now 0 ≡ Some c.index-events-0.result = get_at c.args.events.now 0 c.index-events-0.result c.requires.some c.index-events-0.is in
    followed_more (IsSeenAhead c.in_ok-ahead.ahead) c.args.set.now c.args.events.now 0 c.index-events-0.result c.args.set.now c.in_ok-after.after.items at (followed_none c.args.set.now c.args.events.now c.requires.ready)
    (seen_ahead c.in_ok-ahead.ahead c.args.events.now 0 c.index-events-0.result c.in_ok-ahead.ensures at) c.in_ok-after.ensures.followed c.in_ok-after.ensures.ready c.in_ok-after.ensures.apart

pub events-preserved : goal.events-preserved
events-preserved c =
    let set = c.args.set.now in
    let events = c.args.events.now in
    let i = c.events.i in
    let event = c.index-events-i.result in
    let before = c.events.after.items in
    let inv = c.events.invariant in
    let lt : c.events.i < length c.args.events.now = omega (arith, c.events-test.true) in
    let at : slice_get c.args.events.now c.events.i ≡ Some event = get_at events i event lt c.index-events-i.is in
    let known = seen_ahead c.in_ok-ahead.ahead events i event c.in_ok-ahead.ensures at in
    elim c.if-not-leaves_all.branch [
      | then-not-leaves_all+in_ok-next w ↦
          subst (λ (v : Vec Held Global). IsFollowed set events (i + 1) v.items) (sym w.after-is)
          (followed_less set events (i + 1) w.in_ok-next.next.items w.drop_doomed.new.set.items (followed_more (IsSeenAhead c.in_ok-ahead.ahead) set events i event before w.in_ok-next.next.items at inv known
          (subst (λ cs. FollowSet (IsSeenAhead c.in_ok-ahead.ahead) event cs w.in_ok-next.next.items) w.as_slice-then-not-leaves_all.ensures.value w.in_ok-next.ensures.followed) w.in_ok-next.ensures.ready
          (subst (λ (cs : List Held). (s : ℕ) → AreApart s cs → AreApart s w.in_ok-next.next.items) w.as_slice-then-not-leaves_all.ensures.value w.in_ok-next.ensures.apart)) w.drop_doomed.ensures.kept w.drop_doomed.ensures.found w.drop_doomed.ensures.ready w.drop_doomed.ensures.apart)
      | else-not-leaves_all w ↦
          subst (λ (v : Vec Held Global). IsFollowed set events (i + 1) v.items) (sym w.after-is)
          (followed_more (IsSeenAhead c.in_ok-ahead.ahead) set events i event before before at inv known (subst (λ cs. FollowSet (IsSeenAhead c.in_ok-ahead.ahead) event cs cs) c.as_slice.ensures.value (c.leaves_all.ensures w.if-not-leaves_all.false c.in_ok-ahead.ahead)) inv.ready (λ s h. h))
    ]

pub returns-clause-kept : goal.returns-clause-kept
returns-clause-kept c = λ u past kept.
    let all : length c.args.events.now ≤ c.events.i = omega (arith, c.events-test.false) in
    followed_all c.args.set.now c.args.events.now c.events.i c.events.after.items c.events.invariant all u past kept

pub returns-in_err-after-clause-many : goal.returns-in_err-after-clause-many
returns-in_err-after-clause-many c =
    let p = err_from_is_err_and c.from_residual-in_err-after.result c.from_residual-in_err-after.ensures.1 in
    let at : slice_get c.args.events.now 0 ≡ Some c.index-events-0.result = get_at c.args.events.now 0 c.index-events-0.result c.requires.some c.index-events-0.is in
    rw (p.1, p.2) (λ is. followed_many c.args.most c.args.set.now c.args.events.now 0 c.index-events-0.result c.args.set.now at (followed_none c.args.set.now c.args.events.now c.requires.ready) (c.in_err-after.ensures.many is))

pub returns-in_err-next-clause-many : goal.returns-in_err-next-clause-many
returns-in_err-next-clause-many c =
    let p = err_from_is_err_and c.from_residual-in_err-next.result c.from_residual-in_err-next.ensures.1 in
    let lt : c.events.i < length c.args.events.now = omega (arith, c.events-test.true) in
    let at : slice_get c.args.events.now c.events.i ≡ Some c.index-events-i.result = get_at c.args.events.now c.events.i c.index-events-i.result lt c.index-events-i.is in
    rw (p.1, p.2) (λ is. followed_many c.args.most c.args.set.now c.args.events.now c.events.i c.index-events-i.result c.events.after.items at c.events.invariant
    (subst (λ (set : List Held). (s : ℕ) → AreApart s set → AreMoreThan c.args.most (FromOne (MayBeTried c.index-events-i.result) set)) c.as_slice-then-not-leaves_all.ensures.value (c.in_err-next.ensures.many is)))
