use Rattle.std.proofs.Common.{◌+◌, ◌≤◌, length, Some, None, Vec, Global, sym, subst, arith}
use Rattle.std.proofs.lemmas.Result.{err_from_is_err_and}
use Rattle.tatp_linearization.specs.declared.configuration.Configuration.{Configuration as Held}
use Rattle.tatp_linearization.specs.Held.{AreApart, Takes}
use Rattle.tatp_linearization.proofs.HeldLaws.{ready_after}
use Rattle.tatp_linearization.proofs.GatheringLaws.{Taking, taking_none, taking_refused, taking_added, taking_all, taking_many}
use Rattle.tatp_linearization.proofs.to_rows.add_taken.Goals as goal
use Rattle.tatp_linearization.proofs.to_rows.add_taken.Goals.{in-Some+in_ok-add-in-Some, in-None}

pub calls-init : goal.calls-init
calls-init c = taking_none c.args.c.now c.args.after.now.items

pub calls-preserved : goal.calls-preserved
calls-preserved c =
    let k = c.args.c.now in
    let i = c.calls.i in
    let old = c.args.after.now.items in
    let inv = c.calls.invariant in
    elim c.match-branch-2.branch [
      | in-Some+in_ok-add-in-Some w ↦
          let taken : Takes c.args.c.now c.calls.i (Some w.in-Some.d) = subst (Takes c.args.c.now c.calls.i) w.in-Some.is c.in_ok-d.ensures in
          subst (λ (v : Vec Held Global). Taking k old (i + 1) v.items) (sym w.after-is)
          (taking_added k w.in-Some.d old i c.calls.after.items w.add.new.set.items taken c.requires.accepted inv w.in_ok-add-in-Some.ensures.gained w.in_ok-add-in-Some.ensures.ready w.in_ok-add-in-Some.ensures.apart)
      | in-None w ↦
          let none : Takes c.args.c.now c.calls.i None = subst (Takes c.args.c.now c.calls.i) w.in-None.is c.in_ok-d.ensures in
          subst (λ (v : Vec Held Global). Taking k old (i + 1) v.items) (sym w.after-is) (taking_refused k old i c.calls.after.items inv none)
    ]

pub add-requires : goal.add-requires
add-requires c = record { accepted = ready_after c.args.c.now c.in-Some.d c.calls.i (subst (Takes c.args.c.now c.calls.i) c.in-Some.is c.in_ok-d.ensures) c.requires.accepted }

pub returns-clause-gained : goal.returns-clause-gained
returns-clause-gained c =
    let all : length c.args.c.now.opened.items ≤ c.calls.i = omega (arith, c.calls-test.false, c.len-i-end.ensures, c.args.c.now.opened.ok.0) in
    taking_all c.args.c.now c.args.after.now.items c.calls.i c.calls.after.items c.calls.invariant all

pub returns-clause-ready : goal.returns-clause-ready
returns-clause-ready c = c.calls.invariant.ready

pub returns-clause-apart : goal.returns-clause-apart
returns-clause-apart c = c.calls.invariant.apart

pub returns-in_err-add-in-Some-clause-many : goal.returns-in_err-add-in-Some-clause-many
returns-in_err-add-in-Some-clause-many c =
    let p = err_from_is_err_and c.from_residual-in_err-add-in-Some.result c.from_residual-in_err-add-in-Some.ensures.1 in
    let k = c.args.c.now in
    let d : Held = c.in-Some.d in
    let taken : Takes c.args.c.now c.calls.i (Some d) = subst (Takes c.args.c.now c.calls.i) c.in-Some.is c.in_ok-d.ensures in
    rw (p.1, p.2) (λ is before.
    let apart : AreApart d.home.s_id c.calls.after.items = subst (λ s. AreApart s c.calls.after.items) (sym taken.1.own) (c.calls.invariant.apart before) in
    taking_many c.args.most k d c.args.after.now.items c.calls.i c.calls.after.items taken c.requires.accepted c.calls.invariant (c.in_err-add-in-Some.ensures.many is apart))
