-- A location that is gone, and that nobody sets any more, can't have been seen: there is no order.
use Rattle.std.proofs.Common.{◌≡◌, ℕ, ◌⊎◌, true, false, cond, List, [], ◌∷◌, ◌++◌, sym, ap, subst, inl, inr}
use Rattle.std.specs.List.{AllByRecursion}
use Rattle.tatp_tables.specs.Database.{Database}
use Rattle.tatp_calls.specs.Transactions.{transaction}
use Rattle.tatp_history.specs.declared.event.Event.{Event}
use Rattle.tatp_history.specs.declared.event.Event.TheVariants.{Asks, Ends}
use Rattle.tatp_history.specs.declared.observed.Observed.{Observed}
use Rattle.tatp_history.specs.Histories.{IsIn, IsAnswered, Precedes, KeepsRealTime, AreAnsweredInOrder}
use Rattle.tatp_history.specs.Changes.{only_reads, has_failed, changes_nothing}
use Rattle.tatp_history.specs.Events.{asked_in, TimesRise, EndsFit}
use Rattle.tatp_history.specs.JustInTime.{AreOpen}
use Rattle.tatp_history.specs.Configurations.{Configuration}
use Rattle.tatp_history.proofs.OrderLaws.{all_map, in_all}
use Rattle.tatp_history.proofs.EventLaws.{is_before, asked_after}
use Rattle.tatp_history.specs.Remaining.{IsLeft, HasOrder}
use Rattle.tatp_linearization.specs.Unseen.{SetAfter}
use Rattle.tatp_linearization.specs.Doomed.{NoneHasLocation, sets_location, SawLocation, NoneSetsUntil, NoneSets, IsDoomed}
use Rattle.tatp_linearization.specs.Going.{LeadsOn}
use Rattle.tatp_linearization.proofs.DoomedLaws.{none_after, misfits}

-- the call doesn't set the location, or is asked after the end of the read
abbrev pub IsPast : ℕ → Observed → Observed → Type 0
IsPast location read z = (sets_location location z.call ≡ false) ⊎ Precedes read z

pub was_answered : (location : ℕ) (read : Observed) → SawLocation location read → IsAnswered read.outcome
was_answered location read saw = subst IsAnswered (sym saw.answered) tt

-- nobody sets the location before the read
pub never : (location : ℕ) (read : Observed) → SawLocation location read → (order : List Observed) (u : Database) → NoneHasLocation location u → AllByRecursion (IsPast location read) order → KeepsRealTime order → IsIn read order → AreAnsweredInOrder u order → ⊥
never location read saw [] u none past time there runs = absurd there
never location read saw (z ∷ zs) u none past time there runs = elim there [
  | inl is ↦
      let reads : changes_nothing read ≡ true = ap (λ call. cond (only_reads call) true (has_failed read.outcome)) saw.reads in
      absurd (misfits location z u (subst (SawLocation location) is saw) none (subst (λ (k : Observed). changes_nothing k ≡ true) is reads, runs.0))
  | inr later ↦ elim past.0 [
    | inl other ↦ never location read saw zs (transaction z.call u).database (none_after z.call location u other none) past.1 time.1 later runs.1
    | inr after ↦ absurd (in_all (λ (k : Observed). Precedes k z → ⊥) read zs time.0 later after)
  ]
]

-- ---- no call that is left sets it before the end of the read
pub none_lost : (Q : Database → Type 0) (location : ℕ) (u : Database) (events : List Event) (opened : List Observed) → NoneHasLocation location u → NoneSets location opened
    → (read : Observed) → SetAfter read location (asked_in events) → IsLeft events opened read → SawLocation location read → HasOrder Q u events opened → ⊥
none_lost Q location u events opened none sets read later left saw h =
    never location read saw h.0 u none
    (all_map (IsLeft events opened) (IsPast location read) (λ z k. elim k [
      | inl q ↦ inl (in_all (λ (x : Observed). sets_location location x.call ≡ false) z opened sets q)
      | inr q ↦ in_all (IsPast location read) z (asked_in events) later q
    ]) h.0 h.1.made)
    h.1.real_time (h.1.all read left (was_answered location read saw)) h.1.replies

-- ---- doomed configurations
until_past : (location : ℕ) (read : Observed) (events : List Event) → TimesRise events → NoneSetsUntil location read.asked events → EndsFit read events → (z : Observed) → IsIn z (asked_in events) → IsPast location read z
until_past location read [] rise until fit z there = absurd there
until_past location read (Asks x ∷ more) rise until fit z there = elim there [
  | inl is ↦ inl (subst (λ (k : Observed). sets_location location k.call ≡ false) (sym is) until.0)
  | inr k ↦ until_past location read more rise.1 until.1 fit z k
]
until_past location read (Ends other at ∷ more) rise until fit z there = elim until [
  | inl is ↦ inr (is_before read.outcome at z.asked (fit.0 (sym is)) (asked_after at more z rise.0 there))
  | inr k ↦ until_past location read more rise.1 k fit.1 z there
]

-- a doomed configuration has no order
none_from_doomed : (Q : Database → Type 0) (events : List Event) (c : Configuration) → TimesRise events → AreOpen events c.opened → IsDoomed events c → HasOrder Q c.rows events c.opened → ⊥
none_from_doomed Q events c rise are doomed h =
    let read = doomed.0 in
    let location = doomed.1 in
    let stuck = doomed.2 in
    never location read stuck.saw h.0 c.rows stuck.rows
    (all_map (IsLeft events c.opened) (IsPast location read) (λ z k. elim k [
      | inl q ↦ inl (in_all (λ (x : Observed). sets_location location x.call ≡ false) z c.opened stuck.opened q)
      | inr q ↦ until_past location read events rise stuck.later (are.fit read stuck.there) z q
    ]) h.0 h.1.made)
    h.1.real_time (h.1.all read (inl stuck.there) (was_answered location read stuck.saw)) h.1.replies

-- so no order leads on from one over the rest of its window, and events after that
until_more : (location asked : ℕ) (rest more : List Event) → NoneSetsUntil location asked rest → NoneSetsUntil location asked (rest ++ more)
until_more location asked [] more h = absurd h
until_more location asked (Asks x ∷ rest) more h = (h.0, until_more location asked rest more h.1)
until_more location asked (Ends other at ∷ rest) more h = elim h [ inl e ↦ inl e | inr k ↦ inr (until_more location asked rest more k) ]

pub none_doomed : (after : Database) (rest more : List Event) (c : Configuration) → IsDoomed rest c → LeadsOn after (rest ++ more) c → ⊥
none_doomed after rest more c doomed on =
    let stuck = doomed.2 in
    none_from_doomed (λ v. v ≡ after) (rest ++ more) c on.rise on.waiting
    (doomed.0, doomed.1, record { there = stuck.there; saw = stuck.saw; rows = stuck.rows; opened = stuck.opened; later = until_more doomed.1 doomed.0.asked rest more stuck.later }) on.order
