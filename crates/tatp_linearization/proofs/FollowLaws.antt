-- What follows on configurations at an event, and after all events.
use Rattle.std.proofs.Common.{◌≡◌, ℕ, zero, suc, ◌+◌, ◌<◌, ◌==◌, ◌↔◌, false, List, [], ◌∷◌, ◌++◌, take, drop, length, Some, slice_get, refl, sym, ◌∙◌, ap, subst, arith, true≢false, inl, inr, ◌⊎◌, ◌≤◌}
use Rattle.std.proofs.lemmas.List.{append-nil, append_assoc, take_all, take-append-drop}
use Rattle.tatp_tables.specs.Database.{Database}
use Rattle.tatp_history.specs.declared.observed.Observed.{Observed}
use Rattle.tatp_history.specs.declared.event.Event.{Event}
use Rattle.tatp_history.specs.declared.event.Event.TheVariants.{Asks, Ends}
use Rattle.tatp_history.specs.Locality.{AreAccepted}
use Rattle.tatp_history.specs.Events.{asked_in, time_of, AreAfter, TimesRise, HaveEnds}
use Rattle.tatp_history.specs.JustInTime.{NoneAskedAt}
use Rattle.tatp_history.specs.Histories.{IsStrictlySerializable}
use Rattle.tatp_history.specs.Configurations.{Configuration, starting}
use Rattle.tatp_linearization.specs.declared.configuration.Configuration.{Configuration as Held}
use Rattle.tatp_linearization.specs.AtOnce.{FollowsAtOnce}
use Rattle.tatp_linearization.specs.Doomed.{IsDoomed}
use Rattle.tatp_linearization.specs.Possible.{AreMoreThan, IsPossible, NeedMore}
use Rattle.tatp_linearization.specs.Held.{seen, AreReady, AreApart}
use Rattle.tatp_linearization.specs.Covering.{OneStandsFor, AreEachApart, AreEachLater, FromOne, MayBeTried}
use Rattle.tatp_linearization.specs.Going.{LeadsOn, OneLeadsOn}
use Rattle.tatp_linearization.specs.Turns.{FollowSet}
use Rattle.tatp_linearization.specs.Reached.{AreKept}
use Rattle.tatp_linearization.proofs.SettlingLaws.{shift}
use Rattle.tatp_linearization.proofs.GoingLaws.{serial_to, serial_leads_on}
use Rattle.tatp_linearization.proofs.PossibleLaws.{ArePossible, follow_possible, need_more}
use Rattle.tatp_linearization.proofs.SerialLaws.{possible_serial, possible_apart, possible_later}
use Rattle.tatp_linearization.proofs.CoveringLaws.{seen_stands, bare_stands}
use Rattle.tatp_linearization.proofs.AheadLaws.{rises_on}
use Rattle.tatp_linearization.proofs.LostLaws.{none_doomed}
use Rattle.tatp_linearization.proofs.PlaceLaws.{take_more, drop_at}

-- ---- one configuration
-- what follows where a call is asked is one
pub asked_same : (c d : Configuration) (x : Observed) → FollowsAtOnce (Asks x) c d → (e : Configuration) → (e ≡ d) ↔ FollowsAtOnce (Asks x) c e
asked_same c d x f e = (
  λ same. subst (FollowsAtOnce (Asks x) c) (sym same) f,
  λ h. elim f [
    | inl k ↦ elim h [ inl q ↦ q.1 ∙ sym k.1 | inr q ↦ absurd (q.0 k.0) ]
    | inr k ↦ elim h [ inl q ↦ absurd (k.0 q.0) | inr q ↦ q.1 ∙ sym k.1 ]
  ],
)

pub none_same : (c d : Configuration) (asked at : ℕ) → NoneAskedAt asked c.opened → d ≡ c → (e : Configuration) → (e ≡ d) ↔ FollowsAtOnce (Ends asked at) c e
none_same c d asked at none same e = (
  λ h. inl (none, h ∙ same),
  λ h. elim h [ inl k ↦ k.1 ∙ sym same | inr k ↦ absurd (k.0 none) ],
)

-- ---- explanations
pub kept_none : (u : Database) (cs : List Held) (c : Held) → cs ≡ c ∷ [] → c.home.tables ≡ u → c.opened.items ≡ [] → AreKept u [] cs
kept_none u cs c is rows none =
    let there : seen c ≡ starting u = λ k. record { rows = rows k; opened = none k } in
    record {
      complete = λ after more on. (starting u, subst (λ bs. OneStandsFor bs (starting u)) (sym is) (inl ((bare_stands c (starting u) none).1 (sym there))), on);
      sound = λ d h.
          let k : OneStandsFor (c ∷ []) d = subst (λ bs. OneStandsFor bs d) is h in
          elim k [
            | inl q ↦ subst (IsPossible u []) (sym ((bare_stands c d none).0 q ∙ there)) ((0, refl), tt)
            | inr q ↦ absurd q
          ];
      ready = subst AreReady (sym is) (subst AreAccepted (sym none) tt, tt);
      apart = (c.home.s_id, subst (AreApart c.home.s_id) (sym is) (record { own = (refl, tt); distinct = (tt, tt) }));
    }

-- the open calls of each were asked apart
pub each_apart : (u : Database) (past : List Event) (cs : List Held) → TimesRise past → ArePossible u past cs → AreEachApart cs
each_apart u past [] rise all = tt
each_apart u past (c ∷ cs) rise all = (possible_apart u past (seen c) rise (all (seen c) (inl (seen_stands c))).0, each_apart u past cs rise (λ d h. all d (inr h)))

-- a call that is asked next is asked after those that are open in each
pub each_later : (u : Database) (past : List Event) (event : Event) (more : List Event) (cs : List Held) → TimesRise (past ++ event ∷ more) → ArePossible u past cs → AreEachLater event cs
each_later u past event more [] rise all = tt
each_later u past (Asks x) more (c ∷ cs) rise all = (possible_later u past more x (seen c) rise (all (seen c) (inl (seen_stands c))).0, each_later u past (Asks x) more cs rise (λ d h. all d (inr h)))
each_later u past (Ends asked at) more (c ∷ cs) rise all = (tt, each_later u past (Ends asked at) more cs rise (λ d h. all d (inr h)))

-- these are kept where the events go on with the rest of a window
pub record AreKeptBefore (u : Database) (past rest : List Event) (cs : List Held) : Type 0 where
  pub sound : ArePossible u past cs
  pub complete : (after : Database) (more : List Event) → LeadsOn after (past ++ (rest ++ more)) (starting u) → OneLeadsOn after (rest ++ more) cs
  pub ready : AreReady cs
  pub apart : (s : ℕ) × AreApart s cs

pub kept_before : (u : Database) (past rest : List Event) (cs : List Held) → AreKept u past cs → AreKeptBefore u past rest cs
kept_before u past rest cs kept = record { sound = kept.sound; complete = λ after more on. kept.complete after (rest ++ more) on; ready = kept.ready; apart = kept.apart }

pub kept_at_end : (u : Database) (past : List Event) (cs : List Held) → AreKeptBefore u past [] cs → AreKept u past cs
kept_at_end u past cs kept = record { complete = kept.complete; sound = kept.sound; ready = kept.ready; apart = kept.apart }

pub first_rise : (past more : List Event) → TimesRise (past ++ more) → TimesRise past
first_rise [] more h = tt
first_rise (event ∷ past) more h = (after past h.0, first_rise past more h.1)
  where
    after : (es : List Event) → AreAfter (time_of event) (es ++ more) → AreAfter (time_of event) es
    after [] k = tt
    after (e ∷ es) k = (k.0, after es k.1)

pub kept_more : (Known : List Event → Type 0) (u : Database) (past : List Event) (event : Event) (rest : List Event) (before after : List Held)
    → ((more : List Event) → TimesRise (past ++ event ∷ (rest ++ more)) → Known (event ∷ (rest ++ more))) → FollowSet Known event before after → AreReady after → ((s : ℕ) → AreApart s before → AreApart s after) → AreKeptBefore u past (event ∷ rest) before → AreKeptBefore u (past ++ event ∷ []) rest after
kept_more Known u past event rest before after known all ready apart kept = record {
  sound = λ d h. let k = all.sound d h in follow_possible u past event k.0 d (kept.sound k.0 k.1) k.2;
  complete = λ to more on.
      let whole : LeadsOn to (past ++ event ∷ (rest ++ more)) (starting u) = subst (λ es. LeadsOn to es (starting u)) (sym (shift past event (rest ++ more))) on in
      let one = kept.complete to more whole in
      all.found (each_apart u past before (first_rise past (event ∷ (rest ++ more)) whole.rise) kept.sound) (each_later u past event (rest ++ more) before whole.rise kept.sound) to (rest ++ more) (known more whole.rise) one;
  ready = ready;
  apart = (kept.apart.0, apart kept.apart.0 kept.apart.1);
}

pub kept_less : (u : Database) (past rest : List Event) (before after : List Held) → ((d : Configuration) → OneStandsFor after d → OneStandsFor before d) → ((d : Configuration) → OneStandsFor before d → OneStandsFor after d ⊎ IsDoomed rest d) → (AreReady before → AreReady after)
    → ((s : ℕ) → AreApart s before → AreApart s after) → AreKeptBefore u past rest before → AreKeptBefore u past rest after
kept_less u past rest before after less found ready apart kept = record {
  sound = λ d h. kept.sound d (less d h);
  complete = λ to more on.
      let one = kept.complete to more on in
      elim (found one.0 one.1) [ inl k ↦ (one.0, k, one.2) | inr doomed ↦ absurd (none_doomed to rest more one.0 doomed one.2) ];
  ready = ready kept.ready;
  apart = (kept.apart.0, apart kept.apart.0 kept.apart.1);
}

pub positive : (n : ℕ) → (n == 0) ≡ false → 0 < n
positive zero e = absurd (true≢false e)
positive (suc n) e = omega arith

-- where none is kept there is no order, and where some are there is one
pub none_explains : (u : Database) (past : List Event) (cs : List Held) → AreKept u past cs → TimesRise past → HaveEnds past → length cs ≡ 0 → IsStrictlySerializable u (asked_in past) → ⊥
none_explains u past cs kept rise have none s =
    let to = serial_to u past s in
    let one = kept.complete to.0 [] (serial_leads_on u to.0 past rise have to.1) in
    not_there cs one.0 none one.1
  where
    not_there : (bs : List Held) (d : Configuration) → length bs ≡ 0 → OneStandsFor bs d → ⊥
    not_there [] d e h = h
    not_there (b ∷ bs) d e h = omega (arith, e)

pub some_explain : (u : Database) (past : List Event) (cs : List Held) → AreKept u past cs → TimesRise past → HaveEnds past → 0 < length cs → IsStrictlySerializable u (asked_in past)
some_explain u past cs kept rise have some = let first = first_of cs some in possible_serial u past (seen first.0) rise have (kept.sound (seen first.0) first.1).0
  where
    first_of : (bs : List Held) → 0 < length bs → (c : Held) × OneStandsFor bs (seen c)
    first_of [] lt = absurd (omega (arith, lt))
    first_of (b ∷ bs) lt = (b, inl (seen_stands b))

-- ---- windows
-- events up to a place, and the one there
window_more : (past events : List Event) (i : ℕ) (event : Event) → slice_get events i ≡ Some event → past ++ take (i + 1) events ≡ (past ++ take i events) ++ event ∷ []
window_more past events i event at = ap (λ es. past ++ es) (take_more events i event at) ∙ sym (append_assoc past (take i events) (event ∷ []))

window_whole : (past events : List Event) (i : ℕ) (event : Event) → slice_get events i ≡ Some event → past ++ events ≡ (past ++ take i events) ++ event ∷ drop (suc i) events
window_whole past events i event at = ap (λ es. past ++ es) (both events i event at) ∙ sym (append_assoc past (take i events) (event ∷ drop (suc i) events))
  where
    both : (es : List Event) (j : ℕ) (e : Event) → slice_get es j ≡ Some e → es ≡ take j es ++ e ∷ drop (suc j) es
    both [] j e h = absurd cc
    both (d ∷ es) zero e h = let is : d ≡ e = cc in ap (λ v. v ∷ es) is
    both (d ∷ es) (suc j) e h = ap (λ vs. d ∷ vs) (both es j e h)

-- the configurations after the first of a window's events, but for some that are doomed
pub record IsFollowed (set : List Held) (events : List Event) (i : ℕ) (after : List Held) : Type 0 where
  pub kept : (u : Database) (past : List Event) → AreKept u past set → AreKeptBefore u (past ++ take i events) (drop i events) after
  pub ready : AreReady after
  pub apart : (s : ℕ) → AreApart s set → AreApart s after

pub followed_none : (set : List Held) (events : List Event) → AreReady set → IsFollowed set events 0 set
followed_none set events ready = record { kept = λ u past k. subst (λ es. AreKeptBefore u es events set) (sym (append-nil past)) (kept_before u past events set k); ready = ready; apart = λ s h. h }

pub followed_more : (Known : List Event → Type 0) (set : List Held) (events : List Event) (i : ℕ) (event : Event) (before after : List Held) → slice_get events i ≡ Some event → IsFollowed set events i before
    → ((more : List Event) → TimesRise (events ++ more) → Known (event ∷ (drop (i + 1) events ++ more))) → FollowSet Known event before after → AreReady after → ((s : ℕ) → AreApart s before → AreApart s after) → IsFollowed set events (i + 1) after
followed_more Known set events i event before after at f known all ready apart = record {
  kept = λ u past k. subst (λ es. AreKeptBefore u es (drop (i + 1) events) after) (sym (window_more past events i event at))
      (kept_more Known u (past ++ take i events) event (drop (i + 1) events) before after (λ more rise. known more (window_rises past more rise)) all ready apart
      (subst (λ es. AreKeptBefore u (past ++ take i events) es before) here (f.kept u past k)));
  ready = ready;
  apart = λ s h. apart s (f.apart s h);
}
  where
    next : (n : ℕ) → suc n ≡ n + 1
    next n = omega arith

    here : drop i events ≡ event ∷ drop (i + 1) events
    here = drop_at events i event at ∙ ap (λ n. event ∷ drop n events) (next i)

    whole : (past more : List Event) → (past ++ take i events) ++ event ∷ (drop (i + 1) events ++ more) ≡ past ++ (events ++ more)
    whole past more = ap (λ zs. (past ++ take i events) ++ (zs ++ more)) (sym here) ∙ (append_assoc past (take i events) (drop i events ++ more)
        ∙ (ap (λ zs. past ++ zs) (sym (append_assoc (take i events) (drop i events) more)) ∙ ap (λ zs. past ++ (zs ++ more)) (take-append-drop i events)))

    window_rises : (past more : List Event) → TimesRise ((past ++ take i events) ++ event ∷ (drop (i + 1) events ++ more)) → TimesRise (events ++ more)
    window_rises past more rise = rises_on past (events ++ more) (subst TimesRise (whole past more) rise)

-- without some that are doomed
pub followed_less : (set : List Held) (events : List Event) (i : ℕ) (before after : List Held) → IsFollowed set events i before → ((d : Configuration) → OneStandsFor after d → OneStandsFor before d)
    → ((d : Configuration) → OneStandsFor before d → OneStandsFor after d ⊎ IsDoomed (drop i events) d) → (AreReady before → AreReady after) → ((s : ℕ) → AreApart s before → AreApart s after) → IsFollowed set events i after
followed_less set events i before after f less found ready apart = record {
  kept = λ u past k. kept_less u (past ++ take i events) (drop i events) before after less found ready apart (f.kept u past k);
  ready = ready f.ready;
  apart = λ s h. apart s (f.apart s h);
}

pub followed_all : (set : List Held) (events : List Event) (i : ℕ) (after : List Held) → IsFollowed set events i after → length events ≤ i → (u : Database) (past : List Event) → AreKept u past set → AreKept u (past ++ events) after
followed_all set events i after f all u past k =
    subst (λ es. AreKept u (past ++ es) after) (take_all i events all)
    (kept_at_end u (past ++ take i events) after (subst (λ es. AreKeptBefore u (past ++ take i events) es after) (nothing_left events i all) (f.kept u past k)))
  where
    nothing_left : (es : List Event) (n : ℕ) → length es ≤ n → drop n es ≡ []
    nothing_left [] zero le = refl
    nothing_left [] (suc n) le = refl
    nothing_left (e ∷ es) zero le = absurd (omega (arith, le))
    nothing_left (e ∷ es) (suc n) le = nothing_left es n (omega (arith, le))

pub followed_many : (most : ℕ) (set : List Held) (events : List Event) (i : ℕ) (event : Event) (before : List Held) → slice_get events i ≡ Some event → IsFollowed set events i before
    → ((s : ℕ) → AreApart s before → AreMoreThan most (FromOne (MayBeTried event) before)) → (u : Database) (past : List Event) → AreKept u past set → NeedMore most u (past ++ events)
followed_many most set events i event before at f many u past k =
    let own = f.kept u past k in
    subst (NeedMore most u) (sym (window_whole past events i event at))
    (need_more u (past ++ take i events) event (drop (suc i) events) most before own.sound (many own.apart.0 own.apart.1))
