use Rattle.std.proofs.Common.{◌+◌, ◌≤◌, List, length, None, Vec, Global, sym, subst, true≢false, arith, ◌∙◌, inl, inr}
use Rattle.std.proofs.lemmas.Result.{err_from_is_err_and}
use Rattle.tatp_history.specs.declared.event.Event.{Event}
use Rattle.tatp_history.specs.JustInTime.{NoneAskedAt}
use Rattle.tatp_linearization.specs.declared.configuration.Configuration.{Configuration as Held}
use Rattle.tatp_linearization.specs.Held.{AreApart}
use Rattle.tatp_linearization.specs.Ahead.{LooksAhead}
use Rattle.tatp_linearization.specs.Turns.{TakesOn, TakesTried, Lists}
use Rattle.tatp_linearization.proofs.TurnLaws.{Trying, trying_none, trying_refused, trying_answered, trying_going, trying_all, trying_many}
use Rattle.tatp_linearization.proofs.effects.try_each.Goals as goal
use Rattle.tatp_linearization.proofs.effects.try_each.Goals.{in-Some+then-none_asked+in_ok-add-in-Some, in-Some+else-none_asked+in_ok-add_untried-in-Some, in-None}

pub calls-init : goal.calls-init
calls-init c = trying_none (LooksAhead c.args.ahead.now c.args.now) c.kind_at-kind.result c.args.c.now c.args.asked (record { answered = c.args.answered.now.items; tried = c.args.tried.now.items; going = c.args.going.now.items })

pub calls-preserved : goal.calls-preserved
calls-preserved c =
    let K : List Event → Type 0 = LooksAhead c.args.ahead.now c.args.now in
    let kind = c.kind_at-kind.result in
    let k = c.args.c.now in
    let i = c.calls.i in
    let asked = c.args.asked in
    let old : Lists = record { answered = c.args.answered.now.items; tried = c.args.tried.now.items; going = c.args.going.now.items } in
    let before : Lists = record { answered = c.calls.answered.items; tried = c.calls.tried.items; going = c.calls.going.items } in
    let inv = c.calls.invariant in
    let All : Vec Held Global → Vec Held Global → Vec Held Global → Type 0 = λ a t g. Trying (LooksAhead c.args.ahead.now c.args.now) c.kind_at-kind.result c.args.c.now c.args.asked (record { answered = c.args.answered.now.items; tried = c.args.tried.now.items; going = c.args.going.now.items }) (c.calls.i + 1) (record { answered = a.items; tried = t.items; going = g.items }) in
    elim c.match-branch-2.branch [
      | in-Some+then-none_asked+in_ok-add-in-Some w ↦
          let taken : TakesOn (LooksAhead c.args.ahead.now c.args.now) c.args.c.now c.calls.i w.in-Some.d = subst (TakesTried (LooksAhead c.args.ahead.now c.args.now) c.kind_at-kind.result c.args.asked c.args.c.now c.calls.i) w.in-Some.is c.in_ok-d.ensures in
          let last : NoneAskedAt c.args.asked w.in-Some.d.opened.items = w.none_asked.ensures.0 w.if-none_asked.true in
          subst (λ (a : Vec Held Global). All a c.match-branch-2.tried c.match-branch-2.going) (sym w.answered-is)
          (subst (λ (t : Vec Held Global). All w.add.new.set t c.match-branch-2.going) (sym w.tried-is)
          (subst (λ (g : Vec Held Global). All w.add.new.set c.calls.tried g) (sym w.going-is)
          (trying_answered K kind k w.in-Some.d asked i old before taken inv w.add.new.set.items last w.in_ok-add-in-Some.ensures.gained w.in_ok-add-in-Some.ensures.ready w.in_ok-add-in-Some.ensures.apart)))
      | in-Some+else-none_asked+in_ok-add_untried-in-Some w ↦
          let taken : TakesOn (LooksAhead c.args.ahead.now c.args.now) c.args.c.now c.calls.i w.in-Some.d = subst (TakesTried (LooksAhead c.args.ahead.now c.args.now) c.kind_at-kind.result c.args.asked c.args.c.now c.calls.i) w.in-Some.is c.in_ok-d.ensures in
          let other : NoneAskedAt c.args.asked w.in-Some.d.opened.items → ⊥ = λ last. true≢false (sym (w.none_asked.ensures.1 last) ∙ w.if-none_asked.false) in
          subst (λ (a : Vec Held Global). All a c.match-branch-2.tried c.match-branch-2.going) (sym w.answered-is)
          (subst (λ (t : Vec Held Global). All c.calls.answered t c.match-branch-2.going) (sym w.tried-is)
          (subst (λ (g : Vec Held Global). All c.calls.answered w.add_untried.new.tried g) (sym w.going-is)
          (trying_going K kind k w.in-Some.d asked i old before taken inv w.add_untried.new.tried.items w.add_untried.new.going.items other w.in_ok-add_untried-in-Some.ensures.gained w.in_ok-add_untried-in-Some.ensures.goes w.in_ok-add_untried-in-Some.ensures.ready w.in_ok-add_untried-in-Some.ensures.apart)))
      | in-None w ↦
          let none : TakesTried (LooksAhead c.args.ahead.now c.args.now) c.kind_at-kind.result c.args.asked c.args.c.now c.calls.i None = subst (TakesTried (LooksAhead c.args.ahead.now c.args.now) c.kind_at-kind.result c.args.asked c.args.c.now c.calls.i) w.in-None.is c.in_ok-d.ensures in
          subst (λ (a : Vec Held Global). All a c.match-branch-2.tried c.match-branch-2.going) (sym w.answered-is)
          (subst (λ (t : Vec Held Global). All c.calls.answered t c.match-branch-2.going) (sym w.tried-is)
          (subst (λ (g : Vec Held Global). All c.calls.answered c.calls.tried g) (sym w.going-is)
          (trying_refused K kind k asked old i before inv none)))
    ]

pub add-requires : goal.add-requires
add-requires c =
    let taken : TakesOn (LooksAhead c.args.ahead.now c.args.now) c.args.c.now c.calls.i c.in-Some.d = subst (TakesTried (LooksAhead c.args.ahead.now c.args.now) c.kind_at-kind.result c.args.asked c.args.c.now c.calls.i) c.in-Some.is c.in_ok-d.ensures in
    record { accepted = taken.less.accepted c.requires.accepted }

pub add_untried-requires : goal.add_untried-requires
add_untried-requires c =
    let taken : TakesOn (LooksAhead c.args.ahead.now c.args.now) c.args.c.now c.calls.i c.in-Some.d = subst (TakesTried (LooksAhead c.args.ahead.now c.args.now) c.kind_at-kind.result c.args.asked c.args.c.now c.calls.i) c.in-Some.is c.in_ok-d.ensures in
    record { accepted = taken.less.accepted c.requires.accepted }

pub returns-clause-grown : goal.returns-clause-grown
returns-clause-grown c = c.calls.invariant.grown

pub returns-clause-served : goal.returns-clause-served
returns-clause-served c =
    let all : length c.args.c.now.opened.items ≤ c.calls.i = omega (arith, c.calls-test.false, c.len-i-end.ensures, c.args.c.now.opened.ok.0) in
    trying_all (LooksAhead c.args.ahead.now c.args.now) c.kind_at-kind.result c.args.c.now c.args.asked (record { answered = c.args.answered.now.items; tried = c.args.tried.now.items; going = c.args.going.now.items }) c.calls.i
    (record { answered = c.calls.answered.items; tried = c.calls.tried.items; going = c.calls.going.items }) c.calls.invariant all c.what_holds_of_every_home.ensures c.requires.accepted c.kind_at-kind.ensures

pub returns-clause-ready : goal.returns-clause-ready
returns-clause-ready c = c.calls.invariant.ready

pub returns-clause-left : goal.returns-clause-left
returns-clause-left c = c.calls.invariant.left

pub returns-clause-apart : goal.returns-clause-apart
returns-clause-apart c = c.calls.invariant.apart

pub returns-clause-distinct : goal.returns-clause-distinct
returns-clause-distinct c = c.calls.invariant.distinct

pub returns-clause-went : goal.returns-clause-went
returns-clause-went c = c.calls.invariant.went

pub returns-in_err-add-in-Some-clause-many : goal.returns-in_err-add-in-Some-clause-many
returns-in_err-add-in-Some-clause-many c =
    let p = err_from_is_err_and c.from_residual-in_err-add-in-Some.result c.from_residual-in_err-add-in-Some.ensures.1 in
    let k = c.args.c.now in
    let d : Held = c.in-Some.d in
    let old : Lists = record { answered = c.args.answered.now.items; tried = c.args.tried.now.items; going = c.args.going.now.items } in
    let before : Lists = record { answered = c.calls.answered.items; tried = c.calls.tried.items; going = c.calls.going.items } in
    let taken : TakesOn (LooksAhead c.args.ahead.now c.args.now) c.args.c.now c.calls.i d = subst (TakesTried (LooksAhead c.args.ahead.now c.args.now) c.kind_at-kind.result c.args.asked c.args.c.now c.calls.i) c.in-Some.is c.in_ok-d.ensures in
    rw (p.1, p.2) (λ is answered tried.
    let apart : AreApart d.home.s_id c.calls.answered.items = subst (λ s. AreApart s c.calls.answered.items) (sym taken.less.own) (c.calls.invariant.apart answered) in
    inl ((trying_many (LooksAhead c.args.ahead.now c.args.now) c.kind_at-kind.result c.args.most k d c.args.asked c.calls.i old before taken c.calls.invariant).0 (c.in_err-add-in-Some.ensures.many is apart)))

pub returns-in_err-add_untried-in-Some-clause-many : goal.returns-in_err-add_untried-in-Some-clause-many
returns-in_err-add_untried-in-Some-clause-many c =
    let p = err_from_is_err_and c.from_residual-in_err-add_untried-in-Some.result c.from_residual-in_err-add_untried-in-Some.ensures.1 in
    let k = c.args.c.now in
    let d : Held = c.in-Some.d in
    let old : Lists = record { answered = c.args.answered.now.items; tried = c.args.tried.now.items; going = c.args.going.now.items } in
    let before : Lists = record { answered = c.calls.answered.items; tried = c.calls.tried.items; going = c.calls.going.items } in
    let taken : TakesOn (LooksAhead c.args.ahead.now c.args.now) c.args.c.now c.calls.i d = subst (TakesTried (LooksAhead c.args.ahead.now c.args.now) c.kind_at-kind.result c.args.asked c.args.c.now c.calls.i) c.in-Some.is c.in_ok-d.ensures in
    rw (p.1, p.2) (λ is answered tried.
    let apart : AreApart d.home.s_id c.calls.tried.items = subst (λ s. AreApart s c.calls.tried.items) (sym taken.less.own) (c.calls.invariant.distinct tried) in
    inr ((trying_many (LooksAhead c.args.ahead.now c.args.now) c.kind_at-kind.result c.args.most k d c.args.asked c.calls.i old before taken c.calls.invariant).1 (c.in_err-add_untried-in-Some.ensures.many is apart)))
