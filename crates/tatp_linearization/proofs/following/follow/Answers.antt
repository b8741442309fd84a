use Rattle.std.proofs.Common.{◌⊎◌, List, ◌∷◌, sym, ◌∙◌, subst, true≢false, inl}
use Rattle.std.proofs.lemmas.Result.{err_from_is_err_and}
use Rattle.tatp_history.specs.declared.event.Event.{Event}
use Rattle.tatp_history.specs.Configurations.{Configuration}
use Rattle.tatp_linearization.specs.declared.configuration.Configuration.{Configuration as Held}
use Rattle.tatp_linearization.specs.Held.{AreApart}
use Rattle.tatp_linearization.specs.Possible.{AreMoreThan}
use Rattle.tatp_linearization.specs.Covering.{OneStandsFor, IsApart, IsLater, From, IsRepresentedOr, MayFollow, MayBeTried}
use Rattle.tatp_linearization.specs.Ahead.{IsSeenAhead}
use Rattle.tatp_linearization.specs.Turns.{AreTriedOutAt, AreFollowed}
use Rattle.tatp_linearization.proofs.CoveringLaws.{asked_followed, asked_sound, same_followed, same_sound, alike_stands, asked_many, covered_many, out_on}
use Rattle.tatp_linearization.proofs.following.follow.Goals as goal

-- what the clauses say, of any event
abbrev Sounds : Held → List Held → List Held → Event → Type 0
Sounds c old new event = (d : Configuration) → OneStandsFor new d → IsRepresentedOr old (From (MayFollow event) c) d

abbrev Follows : (List Event → Type 0) → Held → List Held → List Held → List Held → Event → Type 0
Follows Known c old first new event = IsApart c → IsLater event c → (rest : List Event) → Known (event ∷ rest) → AreTriedOutAt event rest old first → AreFollowed event rest c new

abbrev AreDoneAt : (List Event → Type 0) → Held → List Held → List Held → List Held → List Held → Event → Type 0
AreDoneAt Known c old first new tried event = IsApart c → (rest : List Event) → Known (event ∷ rest) → AreTriedOutAt event rest old first → AreTriedOutAt event rest new tried

-- ---- a call is asked
pub returns-in_ok-add-in-Asks-clause-sound : goal.returns-in_ok-add-in-Asks-clause-sound
returns-in_ok-add-in-Asks-clause-sound c =
    subst (Sounds c.args.c.now c.args.after.now.items c.add.new.set.items) (sym c.in-Asks.is) (asked_sound c.args.c.now c.in_ok-ask-in-Asks.field-0 c.in-Asks.x c.args.after.now.items c.add.new.set.items c.in_ok-ask-in-Asks.ensures.asked c.in_ok-ask-in-Asks.ensures.overwritten c.in_ok-add-in-Asks.ensures.gained)

pub returns-in_ok-add-in-Asks-clause-followed : goal.returns-in_ok-add-in-Asks-clause-followed
returns-in_ok-add-in-Asks-clause-followed c =
    subst (Follows (IsSeenAhead c.args.ahead.now) c.args.c.now c.args.after.now.items c.args.tried.now.items c.add.new.set.items) (sym c.in-Asks.is)
    (λ apart later rest coming out. asked_followed c.args.c.now c.in_ok-ask-in-Asks.field-0 c.in-Asks.x rest c.args.after.now.items c.add.new.set.items later c.in_ok-ask-in-Asks.ensures.asked c.in_ok-ask-in-Asks.ensures.overwritten c.in_ok-add-in-Asks.ensures.gained)

pub returns-in_ok-add-in-Asks-clause-done : goal.returns-in_ok-add-in-Asks-clause-done
returns-in_ok-add-in-Asks-clause-done c =
    subst (AreDoneAt (IsSeenAhead c.args.ahead.now) c.args.c.now c.args.after.now.items c.args.tried.now.items c.add.new.set.items c.args.tried.now.items) (sym c.in-Asks.is) (λ apart rest coming out. tt)

pub returns-in_err-add-in-Asks-clause-many : goal.returns-in_err-add-in-Asks-clause-many
returns-in_err-add-in-Asks-clause-many c =
    let p = err_from_is_err_and c.from_residual-in_err-add-in-Asks.result c.from_residual-in_err-add-in-Asks.ensures.1 in
    let old = c.args.after.now.items in
    rw (p.1, p.2) (λ is apart distinct. inl (
    subst (λ (v : Event). AreMoreThan c.args.most (IsRepresentedOr old (From (MayBeTried v) c.args.c.now))) (sym c.in-Asks.is)
    (asked_many c.args.most c.args.c.now c.in_ok-ask-in-Asks.field-0 c.in-Asks.x old c.in_ok-ask-in-Asks.ensures.asked c.in_ok-ask-in-Asks.ensures.overwritten
    (c.in_err-add-in-Asks.ensures.many is (subst (λ s. AreApart s old) (sym c.in_ok-ask-in-Asks.ensures.asked.own) apart)))))

-- ---- a call ends that isn't open
pub returns-in_ok-add-in-Ends-clause-sound : goal.returns-in_ok-add-in-Ends-clause-sound
returns-in_ok-add-in-Ends-clause-sound c =
    subst (Sounds c.args.c.now c.args.after.now.items c.add-then-none_asked.new.set.items) (sym c.in-Ends.is)
    (same_sound c.args.c.now c.in_ok-copy-in-Ends.field-0 c.in-Ends.asked c.in-Ends.at c.args.after.now.items c.add-then-none_asked.new.set.items (c.none_asked.ensures.0 c.if-none_asked.true)
    (alike_stands c.args.c.now c.in_ok-copy-in-Ends.field-0 c.in_ok-copy-in-Ends.ensures.same c.in_ok-copy-in-Ends.ensures.overwritten) c.in_ok-add-in-Ends.ensures.gained)

pub returns-in_ok-add-in-Ends-clause-followed : goal.returns-in_ok-add-in-Ends-clause-followed
returns-in_ok-add-in-Ends-clause-followed c =
    subst (Follows (IsSeenAhead c.args.ahead.now) c.args.c.now c.args.after.now.items c.args.tried.now.items c.add-then-none_asked.new.set.items) (sym c.in-Ends.is)
    (λ apart later rest coming out. same_followed c.args.c.now c.in_ok-copy-in-Ends.field-0 c.in-Ends.asked c.in-Ends.at rest c.args.after.now.items c.add-then-none_asked.new.set.items (c.none_asked.ensures.0 c.if-none_asked.true)
    (alike_stands c.args.c.now c.in_ok-copy-in-Ends.field-0 c.in_ok-copy-in-Ends.ensures.same c.in_ok-copy-in-Ends.ensures.overwritten) c.in_ok-add-in-Ends.ensures.gained)

pub returns-in_ok-add-in-Ends-clause-done : goal.returns-in_ok-add-in-Ends-clause-done
returns-in_ok-add-in-Ends-clause-done c =
    subst (AreDoneAt (IsSeenAhead c.args.ahead.now) c.args.c.now c.args.after.now.items c.args.tried.now.items c.add-then-none_asked.new.set.items c.args.tried.now.items) (sym c.in-Ends.is)
    (λ apart rest coming out. out_on c.in-Ends.asked c.in-Ends.at rest c.args.after.now.items c.add-then-none_asked.new.set.items c.args.tried.now.items c.in_ok-add-in-Ends.ensures.gained.kept out)

pub returns-in_err-add-in-Ends-clause-many : goal.returns-in_err-add-in-Ends-clause-many
returns-in_err-add-in-Ends-clause-many c =
    let p = err_from_is_err_and c.from_residual-in_err-add-in-Ends.result c.from_residual-in_err-add-in-Ends.ensures.1 in
    let old = c.args.after.now.items in
    rw (p.1, p.2) (λ is apart distinct. inl (
    subst (λ (v : Event). AreMoreThan c.args.most (IsRepresentedOr old (From (MayBeTried v) c.args.c.now))) (sym c.in-Ends.is)
    (covered_many c.args.most c.args.c.now c.in_ok-copy-in-Ends.field-0 old (λ e. (alike_stands c.args.c.now c.in_ok-copy-in-Ends.field-0 c.in_ok-copy-in-Ends.ensures.same c.in_ok-copy-in-Ends.ensures.overwritten e).0)
    (c.in_err-add-in-Ends.ensures.many is (subst (λ s. AreApart s old) (sym c.in_ok-copy-in-Ends.ensures.own) apart)))))

-- ---- an open call ends
pub end-requires-clause-open : goal.end-requires-clause-open
end-requires-clause-open c = λ none. true≢false (sym (c.none_asked.ensures.1 none) ∙ c.if-none_asked.false)

pub returns-in_ok-end-in-Ends-clause-sound : goal.returns-in_ok-end-in-Ends-clause-sound
returns-in_ok-end-in-Ends-clause-sound c =
    subst (Sounds c.args.c.now c.args.after.now.items c.end.new.after.items) (sym c.in-Ends.is) c.in_ok-end-in-Ends.ensures.sound

pub returns-in_ok-end-in-Ends-clause-followed : goal.returns-in_ok-end-in-Ends-clause-followed
returns-in_ok-end-in-Ends-clause-followed c =
    subst (Follows (IsSeenAhead c.args.ahead.now) c.args.c.now c.args.after.now.items c.args.tried.now.items c.end.new.after.items) (sym c.in-Ends.is) (λ apart later rest. c.in_ok-end-in-Ends.ensures.followed apart c.in-Ends.at rest)

pub returns-in_ok-end-in-Ends-clause-done : goal.returns-in_ok-end-in-Ends-clause-done
returns-in_ok-end-in-Ends-clause-done c =
    subst (AreDoneAt (IsSeenAhead c.args.ahead.now) c.args.c.now c.args.after.now.items c.args.tried.now.items c.end.new.after.items c.end.new.tried.items) (sym c.in-Ends.is) (λ apart rest. c.in_ok-end-in-Ends.ensures.done apart c.in-Ends.at rest)

pub returns-in_ok-end-in-Ends-clause-tried : goal.returns-in_ok-end-in-Ends-clause-tried
returns-in_ok-end-in-Ends-clause-tried c =
    let first = c.args.tried.now.items in
    let tried = c.end.new.tried.items in
    subst (λ (v : Event). (d : Configuration) → OneStandsFor tried d → IsRepresentedOr first (From (MayBeTried v) c.args.c.now) d) (sym c.in-Ends.is) c.in_ok-end-in-Ends.ensures.tried

pub returns-in_err-end-in-Ends-clause-many : goal.returns-in_err-end-in-Ends-clause-many
returns-in_err-end-in-Ends-clause-many c =
    let p = err_from_is_err_and c.from_residual-in_err-end-in-Ends.result c.from_residual-in_err-end-in-Ends.ensures.1 in
    let old = c.args.after.now.items in
    let first = c.args.tried.now.items in
    rw (p.1, p.2) (λ is apart distinct.
    subst (λ (v : Event). AreMoreThan c.args.most (IsRepresentedOr old (From (MayBeTried v) c.args.c.now)) ⊎ AreMoreThan c.args.most (IsRepresentedOr first (From (MayBeTried v) c.args.c.now))) (sym c.in-Ends.is) (c.in_err-end-in-Ends.ensures.many is apart distinct))
