-- What follows on the configurations of a list, and what their open calls make of them.
use Rattle.std.proofs.Common.{◌≡◌, ℕ, ◌+◌, ◌<◌, ◌≤◌, ◌⊎◌, List, [], ◌∷◌, length, Some, None, slice_get, sym, subst, arith, inl, inr}
use Rattle.tatp_history.specs.declared.observed.Observed.{Observed}
use Rattle.tatp_history.specs.Locality.{AreAccepted}
use Rattle.tatp_history.specs.declared.event.Event.{Event}
use Rattle.tatp_history.specs.declared.event.Event.TheVariants.{Asks, Ends}
use Rattle.tatp_history.specs.JustInTime.{NoneAskedAt}
use Rattle.tatp_history.specs.Configurations.{Configuration}
use Rattle.tatp_linearization.specs.declared.configuration.Configuration.{Configuration as Held}
use Rattle.tatp_linearization.specs.AtOnce.{TakesOne, FollowsAtOnce}
use Rattle.tatp_linearization.specs.Possible.{AreMoreThan}
use Rattle.tatp_linearization.specs.Held.{Has, AreReady, AreApart, Takes}
use Rattle.tatp_linearization.specs.Overwritten.{IsBlind}
use Rattle.tatp_linearization.specs.Covering.{StandsFor, OneStandsFor, IsApart, From, FromOne, MayCome, MayFollow, MayBeTried, IsRepresentedOr, Gains, AreEachApart, IsLater, AreEachLater}
use Rattle.tatp_linearization.specs.Turns.{IsThere, AreTriedOutAt, AreFollowed, FollowSet}
use Rattle.tatp_linearization.proofs.PlaceLaws.{all_get, same_item, below_or_is}
use Rattle.tatp_linearization.proofs.PossibleLaws.{come_none, until_takes, more_than}
use Rattle.tatp_linearization.proofs.AtOnceLaws.{until_settled}
use Rattle.tatp_linearization.proofs.ButSomeLaws.{but_map}
use Rattle.tatp_linearization.proofs.CoveringLaws.{stands_get, from_one, one_from, there_some, there_none, taken_there, taken_from}

-- ---- what follows just in time may follow
pub follows_may : (event : Event) (c d : Configuration) → FollowsAtOnce event c d → MayFollow event c d
follows_may (Asks x) c d h = h
follows_may (Ends asked at) c d h = elim h [
  | inl q ↦ subst (λ (b : Configuration). MayCome c b × NoneAskedAt asked b.opened) (sym q.1) (come_none c, q.0)
  | inr q ↦ let takes = until_takes (length c.opened) asked c d q.1 in (record { calls = takes.0; settled = λ _. until_settled (length c.opened) asked c d q.1 }, takes.1)
]

pub may_tried : (event : Event) (c d : Configuration) → MayFollow event c d → MayBeTried event c d
may_tried (Asks x) c d h = h
may_tried (Ends asked at) c d h = h.0

-- ---- the configurations before a place
pub record Gathering (May Has : Held → Configuration → Type 0) (set old : List Held) (i : ℕ) (new : List Held) : Type 0 where
  pub kept : (d : Configuration) → OneStandsFor old d → OneStandsFor new d
  pub sound : (d : Configuration) → OneStandsFor new d → OneStandsFor old d ⊎ ((j : ℕ) × (c : Held) × (slice_get set j ≡ Some c) × May c d)
  pub found : (d : Configuration) (j : ℕ) (c : Held) → j < i → slice_get set j ≡ Some c → Has c d → OneStandsFor new d
  pub ready : AreReady old → AreReady new
  pub apart : (s : ℕ) → AreApart s set → AreApart s old → AreApart s new

pub gathering_none : (May Has : Held → Configuration → Type 0) (set old : List Held) → Gathering May Has set old 0 old
gathering_none May Has set old = record { kept = λ d h. h; sound = λ d h. inl h; found = λ d j c lt at h. absurd (omega (arith, lt)); ready = λ h. h; apart = λ s h k. k }

pub gathering_more : (May Has : Held → Configuration → Type 0) (set old : List Held) (i : ℕ) (c : Held) (before new : List Held) → Gathering May Has set old i before → slice_get set i ≡ Some c → Gains (May c) (Has c) before new
    → (AreReady before → AreReady new) → (AreApart c.home.s_id before → AreApart c.home.s_id new) → Gathering May Has set old (i + 1) new
gathering_more May Has set old i c before new p at gains readies aparts = record {
  kept = λ d h. gains.kept d (p.kept d h);
  sound = λ d h. elim (gains.sound d h) [ inl k ↦ p.sound d k | inr k ↦ inr (i, c, at, k) ];
  found = λ d j b lt there h. elim (below_or_is j i lt) [
    | inl k ↦ gains.kept d (p.found d j b k there h)
    | inr e ↦ let one : b ≡ c = same_item set i b c (subst (λ k. slice_get set k ≡ Some b) e there) at in gains.found d (subst (λ (q : Held). Has q d) one h)
  ];
  ready = λ h. readies (p.ready h);
  apart = λ s h k. subst (λ t. AreApart t before → AreApart t new) (all_get (λ (b : Held). b.home.s_id ≡ s) set i c h.own at) aparts (p.apart s h k);
}

pub gathering_many : (most : ℕ) (May Tried Has : Held → Configuration → Type 0) → ((c : Held) (d : Configuration) → May c d → Tried c d) → (set old : List Held) (i : ℕ) (c : Held) (before : List Held) → Gathering May Has set old i before → slice_get set i ≡ Some c
    → AreMoreThan most (IsRepresentedOr before (Tried c)) → AreMoreThan most (IsRepresentedOr old (λ d. (j : ℕ) × (b : Held) × (slice_get set j ≡ Some b) × Tried b d))
gathering_many most May Tried Has f set old i c before p at many = more_than most (IsRepresentedOr before (Tried c)) (IsRepresentedOr old (λ d. (j : ℕ) × (b : Held) × (slice_get set j ≡ Some b) × Tried b d)) (λ e h. elim h [
  | inl k ↦ elim (p.sound e k) [ inl q ↦ inl q | inr q ↦ inr (q.0, q.1, q.2, f q.1 e q.3) ]
  | inr k ↦ inr (i, c, at, k)
]) many

pub none_and : (most : ℕ) (R : Configuration → Configuration → Type 0) (set : List Held) → AreMoreThan most (IsRepresentedOr [] (λ d. (j : ℕ) × (b : Held) × (slice_get set j ≡ Some b) × From R b d)) → AreMoreThan most (FromOne R set)
none_and most R set many = more_than most (IsRepresentedOr [] (λ d. (j : ℕ) × (b : Held) × (slice_get set j ≡ Some b) × From R b d)) (FromOne R set) (λ e h. elim h [
  | inl k ↦ absurd k
  | inr k ↦ from_one R set k.0 k.1 e k.2 k.3
]) many

-- what follows on each of a set, and what was tried there
pub record Sharing (Known : List Event → Type 0) (event : Event) (set : List Held) (i : ℕ) (after tried : List Held) : Type 0 where
  pub sound : (d : Configuration) → OneStandsFor after d → FromOne (MayFollow event) set d
  pub followed : AreEachApart set → AreEachLater event set → (rest : List Event) → Known (event ∷ rest) → (j : ℕ) (c : Held) → j < i → slice_get set j ≡ Some c → AreFollowed event rest c after
  pub done : AreEachApart set → (rest : List Event) → Known (event ∷ rest) → AreTriedOutAt event rest after tried
  pub tries : (d : Configuration) → OneStandsFor tried d → FromOne (MayBeTried event) set d
  pub ready : AreReady after
  pub apart : (s : ℕ) → AreApart s set → AreApart s after
  pub distinct : (s : ℕ) → AreApart s set → AreApart s tried

pub sharing_none : (Known : List Event → Type 0) (event : Event) (set after tried : List Held) → after ≡ [] → tried ≡ [] → Sharing Known event set 0 after tried
sharing_none Known event set after tried is none = record {
  sound = λ d h. let k : OneStandsFor [] d = subst (λ cs. OneStandsFor cs d) is h in absurd k;
  followed = λ aparts laters rest known j c lt at. absurd (omega (arith, lt));
  done = λ aparts rest known. nothing event rest;
  tries = λ d h. let k : OneStandsFor [] d = subst (λ cs. OneStandsFor cs d) none h in absurd k;
  ready = subst AreReady (sym is) tt;
  apart = λ s h. subst (AreApart s) (sym is) (record { own = tt; distinct = tt });
  distinct = λ s h. subst (AreApart s) (sym none) (record { own = tt; distinct = tt });
}
  where
    nothing : (e : Event) (rest : List Event) → AreTriedOutAt e rest after tried
    nothing (Asks x) rest = tt
    nothing (Ends asked at) rest = λ d h. let k : OneStandsFor [] d = subst (λ cs. OneStandsFor cs d) none h in absurd k

pub sharing_more : (Known : List Event → Type 0) (event : Event) (set : List Held) (i : ℕ) (c : Held) (before after first tried : List Held) → slice_get set i ≡ Some c → Sharing Known event set i before first
    → ((d : Configuration) → OneStandsFor before d → OneStandsFor after d) → ((d : Configuration) → OneStandsFor after d → IsRepresentedOr before (From (MayFollow event) c) d)
    → (IsApart c → IsLater event c → (rest : List Event) → Known (event ∷ rest) → AreTriedOutAt event rest before first → AreFollowed event rest c after)
    → (IsApart c → (rest : List Event) → Known (event ∷ rest) → AreTriedOutAt event rest before first → AreTriedOutAt event rest after tried) → ((d : Configuration) → OneStandsFor tried d → IsRepresentedOr first (From (MayBeTried event) c) d)
    → (AreReady before → AreReady after) → (AreApart c.home.s_id before → AreApart c.home.s_id after) → (AreApart c.home.s_id first → AreApart c.home.s_id tried) → Sharing Known event set (i + 1) after tried
sharing_more Known event set i c before after first tried there p kept sound followed done tries readies aparts distincts = record {
  sound = λ d h. elim (sound d h) [ inl k ↦ p.sound d k | inr k ↦ from_one (MayFollow event) set i c d there k ];
  followed = λ all later rest known j b lt get. elim (below_or_is j i lt) [
    | inl k ↦ λ to d stands on. let one = p.followed all later rest known j b k get to d stands on in (one.0, kept one.0 one.1, one.2)
    | inr e ↦
        let is : b ≡ c = same_item set i b c (subst (λ k. slice_get set k ≡ Some b) e get) there in
        subst (λ (q : Held). AreFollowed event rest q after) (sym is) (followed (all_get IsApart set i c all there) (all_get (IsLater event) set i c later there) rest known (p.done all rest known))
  ];
  done = λ all rest known. done (all_get IsApart set i c all there) rest known (p.done all rest known);
  tries = λ d h. elim (tries d h) [ inl k ↦ p.tries d k | inr k ↦ from_one (MayBeTried event) set i c d there k ];
  ready = readies p.ready;
  apart = λ s h. subst (λ t. AreApart t before → AreApart t after) (all_get (λ (b : Held). b.home.s_id ≡ s) set i c h.own there) aparts (p.apart s h);
  distinct = λ s h. subst (λ t. AreApart t first → AreApart t tried) (all_get (λ (b : Held). b.home.s_id ≡ s) set i c h.own there) distincts (p.distinct s h);
}

pub sharing_all : (Known : List Event → Type 0) (event : Event) (set : List Held) (i : ℕ) (after tried : List Held) → Sharing Known event set i after tried → length set ≤ i → FollowSet Known event set after
sharing_all Known event set i after tried p le = record {
  sound = p.sound;
  found = λ all later to rest known one.
      let there = stands_get set one.0 one.1 in
      let lt = there.1 in
      p.followed all later rest known there.0 there.2 (omega (arith, lt, le)) there.3 to one.0 there.4 one.2;
}

-- too much of what was tried
pub sharing_many : (Known : List Event → Type 0) (most : ℕ) (event : Event) (set : List Held) (i : ℕ) (c : Held) (after tried : List Held) → slice_get set i ≡ Some c → Sharing Known event set i after tried
    → AreMoreThan most (IsRepresentedOr after (From (MayBeTried event) c)) ⊎ AreMoreThan most (IsRepresentedOr tried (From (MayBeTried event) c)) → AreMoreThan most (FromOne (MayBeTried event) set)
sharing_many Known most event set i c after tried at p many =
    let own : (e : Configuration) → From (MayBeTried event) c e → FromOne (MayBeTried event) set e = λ e h. from_one (MayBeTried event) set i c e at h in
    elim many [
      | inl k ↦ more_than most (IsRepresentedOr after (From (MayBeTried event) c)) (FromOne (MayBeTried event) set) (λ e h. elim h [
        | inl q ↦ let r = p.sound e q in (r.0, r.1, may_tried event r.0 e r.2)
        | inr q ↦ own e q
      ]) k
      | inr k ↦ more_than most (IsRepresentedOr tried (From (MayBeTried event) c)) (FromOne (MayBeTried event) set) (λ e h. elim h [
        | inl q ↦ p.tries e q
        | inr q ↦ own e q
      ]) k
    ]

-- what one open call makes of each of a set
pub gathered_one : (set : List Held) (i : ℕ) (new : List Held) → Gathering (From MayCome) (From TakesOne) set [] i new → length set ≤ i → Gains (FromOne MayCome set) (FromOne TakesOne set) [] new
gathered_one set i new p le = record {
  kept = λ d h. absurd h;
  sound = λ d h. elim (p.sound d h) [ inl k ↦ absurd k | inr k ↦ inr (from_one MayCome set k.0 k.1 d k.2 k.3) ];
  found = λ d h.
      let there = one_from TakesOne set d h in
      let lt = there.1 in
      p.found d there.0 there.2 (omega (arith, lt, le)) there.3 there.4;
}

-- ---- the open calls before a place took effect
abbrev Anything : Observed → Type 0
Anything x = Unit {0}

pub record Taking (c : Held) (old : List Held) (i : ℕ) (new : List Held) : Type 0 where
  pub kept : (d : Configuration) → OneStandsFor old d → OneStandsFor new d
  pub sound : (d : Configuration) → OneStandsFor new d → IsRepresentedOr old (From MayCome c) d
  pub found : (d : Configuration) (j : ℕ) → j < i → IsThere Anything c j d → OneStandsFor new d
  pub ready : AreReady old → AreReady new
  pub apart : AreApart c.home.s_id old → AreApart c.home.s_id new

pub taking_none : (c : Held) (old : List Held) → Taking c old 0 old
taking_none c old = record { kept = λ d h. h; sound = λ d h. inl h; found = λ d j lt there. absurd (omega (arith, lt)); ready = λ h. h; apart = λ h. h }

pub taking_refused : (c : Held) (old : List Held) (i : ℕ) (new : List Held) → Taking c old i new → Takes c i None → Taking c old (i + 1) new
taking_refused c old i new p none = record {
  kept = p.kept;
  sound = p.sound;
  found = λ d j lt there. elim (below_or_is j i lt) [
    | inl k ↦ p.found d j k there
    | inr e ↦ absurd (there_none Anything c i d none (subst (λ k. IsThere Anything c k d) e there))
  ];
  ready = p.ready;
  apart = p.apart;
}

pub taking_added : (c d : Held) (old : List Held) (i : ℕ) (before new : List Held) (taken : Takes c i (Some d)) → AreAccepted c.opened.items → Taking c old i before → Gains (StandsFor d) (StandsFor d) before new
    → (AreReady before → AreReady new) → (AreApart d.home.s_id before → AreApart d.home.s_id new) → Taking c old (i + 1) new
taking_added c d old i before new taken accepted p gains readies aparts = record {
  kept = λ e h. gains.kept e (p.kept e h);
  sound = λ e h. elim (gains.sound e h) [ inl k ↦ p.sound e k | inr k ↦ inr (taken_from c d i taken accepted e k) ];
  found = λ e j lt there. elim (below_or_is j i lt) [
    | inl k ↦ gains.kept e (p.found e j k there)
    | inr same ↦
        let k = taken_there c d i taken accepted Anything e (subst (λ k. IsThere Anything c k e) same there) in
        gains.found e (record { rows = k.0; opened = but_map (λ x. IsBlind d.home.tables x × Anything x) (IsBlind d.home.tables) (λ x f. f.0) d.overwritten d.overwritten (omega arith) d.opened.items e.opened k.1 })
  ];
  ready = λ h. readies (p.ready h);
  apart = λ h. subst (λ s. AreApart s before → AreApart s new) taken.1.own aparts (p.apart h);
}

pub taking_all : (c : Held) (old : List Held) (i : ℕ) (new : List Held) → Taking c old i new → length c.opened.items ≤ i → Gains (From MayCome c) (From TakesOne c) old new
taking_all c old i new p le = record {
  kept = p.kept;
  sound = p.sound;
  found = λ d h.
      let but = but_map (IsBlind c.home.tables) (λ x. IsBlind c.home.tables x × Anything x) (λ x f. (f, tt)) c.overwritten c.overwritten (omega arith) c.opened.items h.0.opened h.1.opened in
      let there = there_some Anything c h.0 d h.1.rows but h.2 in
      let lt = there.1 in
      p.found d there.0 (omega (arith, lt, le)) there.2;
}

pub taking_many : (most : ℕ) (c d : Held) (old : List Held) (i : ℕ) (before : List Held) → Takes c i (Some d) → AreAccepted c.opened.items → Taking c old i before → AreMoreThan most (IsRepresentedOr before (StandsFor d)) → AreMoreThan most (IsRepresentedOr old (From MayCome c))
taking_many most c d old i before taken accepted p many = more_than most (IsRepresentedOr before (StandsFor d)) (IsRepresentedOr old (From MayCome c)) (λ e h. elim h [
  | inl k ↦ p.sound e k
  | inr k ↦ inr (taken_from c d i taken accepted e k)
]) many
