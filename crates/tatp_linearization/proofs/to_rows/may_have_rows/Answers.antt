use Rattle.std.proofs.Common.{◌≡◌, ◌+◌, ◌≤◌, ℕ, suc, List, [], Err, sym, ap, ◌∙◌, subst, arith, true≢false}
use Rattle.std.proofs.lemmas.Result.{err_from_is_err_and}
use Rattle.tatp_linearization.specs.declared.stopped.Stopped.TheVariants.{MoreThanMost}
use Rattle.tatp_linearization.specs.declared.configuration.Configuration.{Configuration as Held}
use Rattle.tatp_linearization.specs.AtOnce.{TakesOne}
use Rattle.tatp_linearization.specs.Held.{AreApart}
use Rattle.tatp_linearization.specs.Covering.{OneStandsFor, FromOne, MayCome, Gains}
use Rattle.tatp_linearization.specs.Possible.{AreMoreThan}
use Rattle.tatp_linearization.proofs.PossibleLaws.{come_none}
use Rattle.tatp_linearization.proofs.ToRowsLaws.{Tried, tried_first, tried_more, tried_all, tried_many}
use Rattle.tatp_linearization.proofs.to_rows.may_have_rows.Goals as goal

pub returns-then-have_rows-clause-there : goal.returns-then-have_rows-clause-there
returns-then-have_rows-clause-there c = let t = c.have_rows.ensures.there c.if-have_rows.true in λ _. (t.0, (t.0, t.1, come_none t.0), t.2)

pub returns-in_err-going-clause-many : goal.returns-in_err-going-clause-many
returns-in_err-going-clause-many c =
    let p = err_from_is_err_and c.from_residual.result c.from_residual.ensures.1 in
    rw (p.1, p.2) (λ is.
    let e : c.in_err-going.field-0.0 ≡ MoreThanMost = cc in
    c.in_err-going.ensures.many (ap Err e) c.args.rows.now.s_id c.requires.apart)

pub turns-init : goal.turns-init
turns-init c = tried_first c.args.rows.now.s_id c.args.set.now c.args.rows.now.tables c.in_ok-going.going.items (λ d h e. true≢false (sym (c.have_rows.ensures.other c.requires.apart d h e) ∙ c.if-have_rows.false))
    c.in_ok-going.ensures.gained c.in_ok-going.ensures.ready (c.in_ok-going.ensures.apart c.args.rows.now.s_id c.requires.apart)

pub returns-then-have_rows-2-clause-there : goal.returns-then-have_rows-2-clause-there
returns-then-have_rows-2-clause-there c =
    let t = c.have_rows-in-turns.ensures.there c.if-have_rows-2.true in
    let has : OneStandsFor c.turns.going.items t.0 = subst (λ cs. OneStandsFor cs t.0) c.as_slice.ensures.value t.1 in
    λ _. (t.0, c.turns.invariant.sound t.0 has, t.2)

pub turns-preserved : goal.turns-preserved
turns-preserved c =
    let s : ℕ = c.args.rows.now.s_id in
    let going : List Held = c.turns.going.items in
    let inv = c.turns.invariant in
    let next : suc (suc c.turns.i) ≡ suc (c.turns.i + 1) = omega arith in
    let apart : AreApart c.args.rows.now.s_id c.as_slice.result.now = subst (AreApart s) (sym c.as_slice.ensures.value) inv.apart in
    subst (λ n. Tried s c.args.set.now c.args.rows.now.tables n c.in_ok-next.next.items) next
    (tried_more s c.args.set.now c.args.rows.now.tables (suc c.turns.i) going c.in_ok-next.next.items inv
    (λ d h e. true≢false (sym (c.have_rows-in-turns.ensures.other apart d (subst (λ cs. OneStandsFor cs d) (sym c.as_slice.ensures.value) h) e) ∙ c.if-have_rows-2.false))
    (subst (λ (set : List Held). Gains (FromOne MayCome set) (FromOne TakesOne set) [] c.in_ok-next.next.items) c.as_slice-in-turns.ensures.value c.in_ok-next.ensures.gained)
    c.in_ok-next.ensures.ready
    (subst (λ (set : List Held). AreApart s set → AreApart s c.in_ok-next.next.items) c.as_slice-in-turns.ensures.value (c.in_ok-next.ensures.apart s)))

pub returns-in_err-next-clause-many : goal.returns-in_err-next-clause-many
returns-in_err-next-clause-many c =
    let p = err_from_is_err_and c.from_residual-in_err-next.result c.from_residual-in_err-next.ensures.1 in
    let s : ℕ = c.args.rows.now.s_id in
    let inv = c.turns.invariant in
    rw (p.1, p.2) (λ is.
    let e : c.in_err-next.field-0.0 ≡ MoreThanMost = cc in
    let many = subst (λ (set : List Held). (t : ℕ) → AreApart t set → AreMoreThan c.args.most (FromOne MayCome set)) c.as_slice-in-turns.ensures.value (c.in_err-next.ensures.many (ap Err e)) in
    tried_many s c.args.set.now c.args.rows.now.tables (suc c.turns.i) c.args.most c.turns.going.items inv (many s inv.apart))

pub returns-clause-other : goal.returns-clause-other
returns-clause-other c =
    let enough : c.most_open-i-end.result ≤ c.turns.i = omega (arith, c.turns-test.false) in
    λ d h same. absurd (tried_all c.args.rows.now.s_id c.args.set.now c.args.rows.now.tables c.turns.i c.most_open-i-end.result c.turns.going.items c.turns.invariant c.most_open-i-end.ensures enough d h same)
