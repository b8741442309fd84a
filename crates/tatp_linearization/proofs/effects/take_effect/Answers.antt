use Rattle.std.proofs.lemmas.Result.{err_from_is_err_and}
use Rattle.std.proofs.Common.{◌≡◌, ◌+◌, ℕ, List, [], ◌∷◌, Err, sym, ap, subst, arith, ◌⊎◌}
use Rattle.tatp_history.specs.declared.event.Event.{Event}
use Rattle.tatp_history.specs.declared.event.Event.TheVariants.{Ends}
use Rattle.tatp_linearization.specs.declared.stopped.Stopped.TheVariants.{MoreThanMost}
use Rattle.tatp_linearization.specs.declared.configuration.Configuration.{Configuration as Held}
use Rattle.tatp_linearization.specs.Held.{AreReady, AreApart}
use Rattle.tatp_linearization.specs.Covering.{From, FromOne, MayCome, IsRepresentedOr, AreEachApart, AreOf}
use Rattle.tatp_linearization.specs.Ahead.{LooksAhead}
use Rattle.tatp_linearization.specs.Turns.{Lists, Grow, AreAllServed, WentFrom, WentFromOne}
use Rattle.tatp_linearization.specs.Possible.{AreMoreThan}
use Rattle.tatp_linearization.proofs.TurnLaws.{turned_first, turned_more, turned_answered, turned_sound, turned_out, turned_many, less_ready, less_own}
use Rattle.tatp_linearization.proofs.effects.take_effect.Goals as goal

pub turns-init : goal.turns-init
turns-init c =
    let k = c.args.c.now in
    let old = c.args.answered.now.items in
    let first = c.args.tried.now.items in
    let nothing : c.new-going.result.items ≡ [] = c.new-going.ensures.items in
    let new : Lists = record { answered = c.try_each.new.answered.items; tried = c.try_each.new.tried.items; going = c.try_each.new.going.items } in
    turned_first (LooksAhead c.args.ahead.now c.args.now) old first k c.args.asked c.try_each.new.answered.items c.try_each.new.tried.items c.try_each.new.going.items c.requires.accepted
    (subst (λ (xs : List Held). Grow (From MayCome k) c.args.asked (record { answered = old; tried = first; going = xs }) new) nothing c.in_ok-try_each.ensures.grown)
    c.in_ok-try_each.ensures.served
    (subst (λ (xs : List Held). WentFrom k xs c.try_each.new.going.items) nothing c.in_ok-try_each.ensures.went)
    c.in_ok-try_each.ensures.ready c.in_ok-try_each.ensures.apart c.in_ok-try_each.ensures.distinct

pub turns-preserved : goal.turns-preserved
turns-preserved c =
    let k = c.args.c.now in
    let asked : ℕ = c.args.asked in
    let going : List Held = c.turns.going.items in
    let same : c.as_slice.result.now ≡ c.turns.going.items = c.as_slice.ensures.value in
    let answered' = c.try_all.new.answered.items in
    let tried' = c.try_all.new.tried.items in
    let before : Lists = record { answered = c.turns.answered.items; tried = c.turns.tried.items; going = [] } in
    let new : Lists = record { answered = c.try_all.new.answered.items; tried = c.try_all.new.tried.items; going = c.in_ok-next.next.items } in
    turned_more (LooksAhead c.args.ahead.now c.args.now) c.args.answered.now.items c.args.tried.now.items k c.args.asked c.turns.i c.turns.answered.items c.turns.tried.items going answered' tried' c.in_ok-next.next.items c.turns.invariant
    (subst (λ (set : List Held). Grow (FromOne MayCome set) asked before new) same c.in_ok-next.ensures.grown)
    (subst (λ (set : List Held). AreEachApart set → (at : ℕ) (rest : List Event) → LooksAhead c.args.ahead.now c.args.now (Ends asked at ∷ rest) → AreAllServed asked at rest set answered' tried') same c.in_ok-next.ensures.served)
    (subst (λ (set : List Held). WentFromOne set c.in_ok-next.next.items) same c.in_ok-next.ensures.went)
    c.in_ok-next.ensures.ready
    (subst (λ (set : List Held). (s : ℕ) → AreApart s c.turns.answered.items → AreOf s set → AreApart s answered') same c.in_ok-next.ensures.apart)
    (subst (λ (set : List Held). (s : ℕ) → AreApart s c.turns.tried.items → AreOf s set → AreApart s tried') same c.in_ok-next.ensures.distinct)

pub try_all-requires : goal.try_all-requires
try_all-requires c = record { ready = subst AreReady (sym c.as_slice.ensures.value) (less_ready c.args.c.now (c.turns.i + 1) c.turns.going.items c.turns.invariant.less) }

pub returns-in_err-next-clause-many : goal.returns-in_err-next-clause-many
returns-in_err-next-clause-many c =
    let p = err_from_is_err_and c.from_residual-in_err-next.result c.from_residual-in_err-next.ensures.1 in
    let k = c.args.c.now in
    let s : ℕ = c.args.c.now.home.s_id in
    let inv = c.turns.invariant in
    let going : List Held = c.turns.going.items in
    rw (p.1, p.2) (λ is apart distinct.
    let e : c.in_err-next.field-0.0 ≡ MoreThanMost = cc in
    let own = less_own k (c.turns.i + 1) going inv.less in
    let many = subst (λ (set : List Held). (t : ℕ) → AreOf t set → AreApart t c.turns.answered.items → AreApart t c.turns.tried.items
    → AreMoreThan c.args.most (IsRepresentedOr c.turns.answered.items (FromOne MayCome set)) ⊎ AreMoreThan c.args.most (IsRepresentedOr c.turns.tried.items (FromOne MayCome set))) c.as_slice.ensures.value (c.in_err-next.ensures.many (ap Err e)) in
    turned_many (LooksAhead c.args.ahead.now c.args.now) c.args.most c.args.answered.now.items c.args.tried.now.items k c.args.asked c.turns.i c.turns.answered.items c.turns.tried.items going inv (many s own (inv.apart apart) (inv.distinct distinct)))

pub returns-clause-kept : goal.returns-clause-kept
returns-clause-kept c = c.turns.invariant.kept

pub returns-clause-sound : goal.returns-clause-sound
returns-clause-sound c =
    turned_sound (LooksAhead c.args.ahead.now c.args.now) c.args.answered.now.items c.args.tried.now.items c.args.c.now c.args.asked c.turns.i c.turns.answered.items c.turns.tried.items c.turns.going.items c.turns.invariant
    (omega (arith, c.turns-test.false, c.len-i-end.ensures, c.args.c.now.opened.ok.0))

pub returns-clause-answered : goal.returns-clause-answered
returns-clause-answered c =
    turned_answered (LooksAhead c.args.ahead.now c.args.now) c.args.answered.now.items c.args.tried.now.items c.args.c.now c.args.asked c.turns.i c.turns.answered.items c.turns.tried.items c.turns.going.items c.turns.invariant
    (omega (arith, c.turns-test.false, c.len-i-end.ensures, c.args.c.now.opened.ok.0))

pub returns-clause-done : goal.returns-clause-done
returns-clause-done c =
    turned_out (LooksAhead c.args.ahead.now c.args.now) c.args.answered.now.items c.args.tried.now.items c.args.c.now c.args.asked c.turns.i c.turns.answered.items c.turns.tried.items c.turns.going.items c.turns.invariant
    (omega (arith, c.turns-test.false, c.len-i-end.ensures, c.args.c.now.opened.ok.0))

pub returns-clause-tried : goal.returns-clause-tried
returns-clause-tried c = c.turns.invariant.tries

pub returns-clause-distinct : goal.returns-clause-distinct
returns-clause-distinct c = c.turns.invariant.distinct

pub returns-clause-ready : goal.returns-clause-ready
returns-clause-ready c = c.turns.invariant.ready

pub returns-clause-apart : goal.returns-clause-apart
returns-clause-apart c = c.turns.invariant.apart
