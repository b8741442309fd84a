-- Turns in which open calls take effect, one call more in each.
use Rattle.std.proofs.Common.{◌≡◌, ℕ, zero, suc, ◌+◌, ◌<◌, ◌≤◌, ◌⊎◌, List, [], ◌∷◌, ◌++◌, length, Option, Some, None, Ok, slice_get, remove, refl, sym, ◌∙◌, ap, subst, arith, inl, inr}
use Rattle.std.specs.List.{AllByRecursion}
use Rattle.tatp_tables.specs.Database.{Database}
use Rattle.tatp_history.specs.declared.event.Event.{Event}
use Rattle.tatp_history.specs.declared.event.Event.TheVariants.{Ends}
use Rattle.tatp_history.specs.declared.observed.Observed.{Observed}
use Rattle.tatp_history.specs.Locality.{AreAccepted}
use Rattle.tatp_homes.specs.Home.{IsHome}
use Rattle.tatp_calls.specs.declared.call.Call.{Call}
use Rattle.tatp_calls.specs.Arguments.{arguments_accepted}
use Rattle.tatp_procs.specs.Consistent.{IsConsistent}
use Rattle.tatp_procs.proofs.ConsistentLaws.{IsConsistent-home}
use Rattle.tatp_linearization.specs.declared.kinds.Kind.{Kind}
use Rattle.tatp_linearization.specs.Kinds.{kind_of, IsTried}
use Rattle.tatp_history.specs.JustInTime.{NoneAskedAt}
use Rattle.tatp_history.specs.Configurations.{Configuration}
use Rattle.tatp_history.proofs.ChoiceLaws.{find_asked}
use Rattle.tatp_linearization.specs.declared.configuration.Configuration.{Configuration as Held}
use Rattle.tatp_linearization.specs.AtOnce.{TakesOne}
use Rattle.tatp_linearization.specs.Possible.{AreMoreThan}
use Rattle.tatp_linearization.specs.Held.{AreReady, AreApart, TakeMany}
use Rattle.tatp_linearization.specs.Overwritten.{IsBlind, AreButSome}
use Rattle.tatp_linearization.specs.Covering.{StandsFor, OneStandsFor, Opens, IsApart, AreEachApart, From, FromOne, MayCome, MayAnswer, IsRepresentedOr, Gains, AreOf}
use Rattle.tatp_linearization.specs.Going.{LeadsOn, OneLeadsOn}
use Rattle.tatp_linearization.specs.Turns.{IsOtherTime, IsThere, IsFewer, TakesOn, TakesAhead, TakesTried, IsKindAt, Lists, LeadsFurther, IsServed, AreServed, AreAllServed, AreTriedOut, Grow, WentFrom, WentFromOne, IsTriedNext, AreAnswered}
use Rattle.tatp_linearization.proofs.PossibleLaws.{more_than, come_on}
use Rattle.tatp_linearization.proofs.PlaceLaws.{all_get, all_of_get, below_or_is, same_item}
use Rattle.tatp_linearization.proofs.AtOnceLaws.{one_shorter}
use Rattle.tatp_linearization.proofs.GoingLaws.{end_on}
use Rattle.tatp_linearization.proofs.KindOrderLaws.{kind_on}
use Rattle.tatp_linearization.proofs.ButSomeLaws.{but_all, but_in, but_none, but_apart}
use Rattle.tatp_linearization.proofs.CoveringLaws.{stands_get, stands_more, from_one, there_some, but_stands}

-- ---- so many calls, and one
pub many_one : (n : ℕ) (c d e : Configuration) → TakeMany n c d → TakesOne d e → TakeMany (suc n) c e
many_one zero c d e h one = (e, subst (λ (b : Configuration). TakesOne b e) h one, refl)
many_one (suc n) c d e h one = (h.0, h.1, many_one n h.0 d e h.2 one)

-- ---- places
pub get_more : (xs : List Held) (c : Held) (k : ℕ) (d : Held) → slice_get (xs ++ c ∷ []) k ≡ Some d → (slice_get xs k ≡ Some d) ⊎ (d ≡ c)
get_more [] c zero d at = let is : c ≡ d = cc in inr (sym is)
get_more [] c (suc k) d at = absurd cc
get_more (x ∷ xs) c zero d at = inl at
get_more (x ∷ xs) c (suc k) d at = get_more xs c k d at

-- ---- the lists grow
pub grow_none : (Holds : Configuration → Type 0) (asked : ℕ) (old : Lists) → Grow Holds asked old old
grow_none Holds asked old = record {
  answers = λ d h. h;
  tries = λ d h. h;
  goes = λ d h. h;
  answered = λ d h. inl h;
  tried = λ d h. inl h;
  went = λ d h. inl h;
  next = λ d h. inl h;
}

pub grow_on : (Holds : Configuration → Type 0) (asked : ℕ) (old mid new : Lists) → Grow Holds asked old mid → Grow Holds asked mid new → Grow Holds asked old new
grow_on Holds asked old mid new p q = record {
  answers = λ d h. q.answers d (p.answers d h);
  tries = λ d h. q.tries d (p.tries d h);
  goes = λ d h. q.goes d (p.goes d h);
  answered = λ d h. elim (q.answered d h) [ inl k ↦ p.answered d k | inr k ↦ inr k ];
  tried = λ d h. elim (q.tried d h) [ inl k ↦ p.tried d k | inr k ↦ inr k ];
  went = λ d h. elim (q.went d h) [ inl k ↦ p.went d k | inr k ↦ inr k ];
  next = λ d h. elim (q.next d h) [
    | inl k ↦ elim (p.next d k) [ inl r ↦ inl r | inr r ↦ inr (q.goes d r) ]
    | inr k ↦ inr k
  ];
}

pub grow_map : (P R : Configuration → Type 0) → ((d : Configuration) → P d → R d) → (asked : ℕ) (old new : Lists) → Grow P asked old new → Grow R asked old new
grow_map P R f asked old new p = record {
  answers = p.answers;
  tries = p.tries;
  goes = p.goes;
  answered = λ d h. elim (p.answered d h) [ inl k ↦ inl k | inr k ↦ inr (f d k.0, k.1) ];
  tried = λ d h. elim (p.tried d h) [ inl k ↦ inl k | inr k ↦ inr (f d k) ];
  went = λ d h. elim (p.went d h) [ inl k ↦ inl k | inr k ↦ inr (f d k) ];
  next = p.next;
}

pub further_on : (Holds : Configuration → Type 0) (asked : ℕ) (old new : Lists) (at : ℕ) (rest : List Event) (many : ℕ) (after : Database) → Grow Holds asked old new → LeadsFurther asked at rest many old.answered old.tried after → LeadsFurther asked at rest many new.answered new.tried after
further_on Holds asked old new at rest many after p h = elim h [
  | inl k ↦ inl (k.0, p.answers k.0 k.1, k.2)
  | inr k ↦ inr (k.0, p.tries k.0 k.1, k.2, k.3, k.4)
]

-- fewer than these are fewer than more
further_more : (asked at : ℕ) (rest : List Event) (few many : ℕ) (answered tried : List Held) (after : Database) → few ≤ many → LeadsFurther asked at rest few answered tried after → LeadsFurther asked at rest many answered tried after
further_more asked at rest few many answered tried after le h = elim h [
  | inl k ↦ inl k
  | inr k ↦ let lt = k.3 in inr (k.0, k.1, k.2, omega (arith, lt, le), k.4)
]

-- ---- the open calls before a place took effect
pub record Trying (Known : List Event → Type 0) (kind : Option Kind) (c : Held) (asked : ℕ) (old : Lists) (i : ℕ) (new : Lists) : Type 0 where
  pub grown : Grow (From MayCome c) asked old new
  pub served : IsApart c → (at : ℕ) (rest : List Event) (after : Database) (e : Configuration) (j : ℕ) → Known (Ends asked at ∷ rest) → j < i → (there : IsThere (IsOtherTime asked) c j e) → IsTried kind there.call.call → LeadsOn after (Ends asked at ∷ rest) e
      → LeadsFurther asked at rest (suc (length e.opened)) new.answered new.tried after
  pub went : WentFrom c old.going new.going
  pub ready : AreReady old.answered → AreReady new.answered
  pub left : AreReady old.tried → AreReady new.tried
  pub apart : AreApart c.home.s_id old.answered → AreApart c.home.s_id new.answered
  pub distinct : AreApart c.home.s_id old.tried → AreApart c.home.s_id new.tried

-- what the call at a place makes, where the place is another's
abbrev there_at : (c : Held) (asked j i : ℕ) (e : Configuration) → j ≡ i → IsThere (IsOtherTime asked) c j e → IsThere (IsOtherTime asked) c i e
there_at c asked j i e is there = record {
  before = there.before;
  call = there.call;
  left = there.left;
  rows = there.rows;
  takes = there.takes;
  at = subst (λ k. slice_get c.opened.items k ≡ Some there.call) is there.at;
  opened = subst (λ k. AreButSome (λ x. IsBlind c.home.tables x × IsOtherTime asked x) c.overwritten (remove c.opened.items k) there.left) is there.opened;
}

pub trying_none : (Known : List Event → Type 0) (kind : Option Kind) (c : Held) (asked : ℕ) (old : Lists) → Trying Known kind c asked old 0 old
trying_none Known kind c asked old = record {
  grown = grow_none (From MayCome c) asked old;
  served = λ own at rest after e j known lt there tried on. absurd (omega (arith, lt));
  went = λ k d at. inl (k, at);
  ready = λ h. h;
  left = λ h. h;
  apart = λ h. h;
  distinct = λ h. h;
}

pub trying_refused : (Known : List Event → Type 0) (kind : Option Kind) (c : Held) (asked : ℕ) (old : Lists) (i : ℕ) (new : Lists) → Trying Known kind c asked old i new → TakesTried Known kind asked c i None → Trying Known kind c asked old (i + 1) new
trying_refused Known kind c asked old i new p none = record {
  grown = p.grown;
  served = λ own at rest after e j known lt there tried on. elim (below_or_is j i lt) [
    | inl k ↦ p.served own at rest after e j known k there tried on
    | inr is ↦ absurd (none at rest after e known (there_at c asked j i e is there) tried on)
  ];
  went = p.went;
  ready = p.ready;
  left = p.left;
  apart = p.apart;
  distinct = p.distinct;
}

module _ (Known : List Event → Type 0) (kind : Option Kind) (c d : Held) (asked i : ℕ) (old before : Lists) (taken : TakesOn Known c i d) (p : Trying Known kind c asked old i before) where
  pub trying_answered : (answered : List Held) → NoneAskedAt asked d.opened.items → Gains (StandsFor d) (StandsFor d) before.answered answered
      → (AreReady before.answered → AreReady answered) → (AreApart d.home.s_id before.answered → AreApart d.home.s_id answered) → Trying Known kind c asked old (i + 1) (record { answered = answered; tried = before.tried; going = before.going })
  trying_answered answered none gains readies aparts =
      let new : Lists = record { answered = answered; tried = before.tried; going = before.going } in
      let none_of : (e : Configuration) → StandsFor d e → NoneAskedAt asked e.opened = λ e h. but_all (IsBlind d.home.tables) d.overwritten (λ (x : Observed). x.asked ≡ asked → ⊥) d.opened.items e.opened h.opened none in
      let step : Grow (From MayCome c) asked before new = record {
        answers = gains.kept;
        tries = λ e h. h;
        goes = λ e h. h;
        answered = λ e h. elim (gains.sound e h) [ inl k ↦ inl k | inr k ↦ inr (taken.sound e k, none_of e k) ];
        tried = λ e h. inl h;
        went = λ e h. inl h;
        next = λ e h. inl h;
      } in
      record {
        grown = grow_on (From MayCome c) asked old before new p.grown step;
        served = λ own at rest after e j known lt there tried on. elim (below_or_is j i lt) [
          | inl k ↦ further_on (From MayCome c) asked before new at rest (suc (length e.opened)) after step (p.served own at rest after e j known k there tried on)
          | inr is ↦
              let b = taken.served asked after (Ends asked at ∷ rest) e known own (there_at c asked j i e is there) on in
              let stands = but_stands asked d b.0 b.1 in
              inl (b.0, gains.found b.0 stands, end_on after asked at rest b.0 (none_of b.0 stands) b.3)
        ];
        went = p.went;
        ready = λ h. readies (p.ready h);
        left = p.left;
        apart = λ h. subst (λ s. AreApart s before.answered → AreApart s answered) taken.less.own aparts (p.apart h);
        distinct = p.distinct;
      }

  pub trying_going : (tried going : List Held) → (NoneAskedAt asked d.opened.items → ⊥) → Gains (StandsFor d) (StandsFor d) before.tried tried → IsTriedNext d before.tried before.going going
      → (AreReady before.tried → AreReady tried) → (AreApart d.home.s_id before.tried → AreApart d.home.s_id tried) → Trying Known kind c asked old (i + 1) (record { answered = before.answered; tried = tried; going = going })
  trying_going tried going some gains goes readies aparts =
      let new : Lists = record { answered = before.answered; tried = tried; going = going } in
      let went : (e : Configuration) → (OneStandsFor before.going e → OneStandsFor going e) × ((OneStandsFor going e → IsRepresentedOr before.going (StandsFor d) e) × (StandsFor d e → OneStandsFor before.tried e ⊎ OneStandsFor going e))
      = λ e. elim goes [
        | inl k ↦ ((λ h. subst (λ cs. OneStandsFor cs e) (sym k.0) h), ((λ h. inl (subst (λ cs. OneStandsFor cs e) k.0 h)), (λ h. inl (k.1 e h))))
        | inr k ↦ (
          (λ h. subst (λ cs. OneStandsFor cs e) (sym k) ((stands_more before.going d e).1 (inl h))),
          (
            (λ h. (stands_more before.going d e).0 (subst (λ cs. OneStandsFor cs e) k h)),
            (λ h. inr (subst (λ cs. OneStandsFor cs e) (sym k) ((stands_more before.going d e).1 (inr h)))),
          ),
        )
      ] in
      let step : Grow (From MayCome c) asked before new = record {
        answers = λ e h. h;
        tries = gains.kept;
        goes = λ e h. (went e).0 h;
        answered = λ e h. inl h;
        tried = λ e h. elim (gains.sound e h) [ inl k ↦ inl k | inr k ↦ inr (taken.sound e k) ];
        went = λ e h. elim ((went e).1.0 h) [ inl k ↦ inl k | inr k ↦ inr (taken.sound e k) ];
        next = λ e h. elim (gains.sound e h) [ inl k ↦ inl k | inr k ↦ (went e).1.1 k ];
      } in
      record {
        grown = grow_on (From MayCome c) asked old before new p.grown step;
        served = λ own at rest after e j known lt there tried on. elim (below_or_is j i lt) [
          | inl k ↦ further_on (From MayCome c) asked before new at rest (suc (length e.opened)) after step (p.served own at rest after e j known k there tried on)
          | inr is ↦
              let b = taken.served asked after (Ends asked at ∷ rest) e known own (there_at c asked j i e is there) on in
              let few = b.2 in
              inr (b.0, gains.found b.0 (but_stands asked d b.0 b.1), (λ none. some (but_none (IsBlind d.home.tables) d.overwritten asked d.opened.items b.0.opened b.1.opened none)), omega (arith, few), b.3)
        ];
        went = λ k e at. elim goes [
          | inl q ↦ p.went k e (subst (λ cs. slice_get cs k ≡ Some e) q.0 at)
          | inr q ↦ elim (get_more before.going d k e (subst (λ cs. slice_get cs k ≡ Some e) q at)) [
            | inl there ↦ p.went k e there
            | inr is ↦ inr (subst (IsFewer c) (sym is) taken.less)
          ]
        ];
        ready = p.ready;
        left = λ h. readies (p.left h);
        apart = p.apart;
        distinct = λ h. subst (λ s. AreApart s before.tried → AreApart s tried) taken.less.own aparts (p.distinct h);
      }

-- what a call makes where it is of the kind
pub ahead_tried : (Known : List Event → Type 0) (kind : Option Kind) (asked : ℕ) (c : Held) (i : ℕ) (d : Option Held) → TakesAhead Known c i d → TakesTried Known kind asked c i d
ahead_tried Known kind asked c i (Some d) h = h
ahead_tried Known kind asked c i None h = λ at rest after e known there tried on. h asked after (Ends asked at ∷ rest) e known there on

-- what is of the kind of a call that is tried is tried
tried_as : (kind : Option Kind) (x y : Call) → kind_of y ≡ kind_of x → IsTried kind x → IsTried kind y
tried_as None x y same h = tt
tried_as (Some kind) x y same h = same ∙ h

pub trying_all : (Known : List Event → Type 0) (kind : Option Kind) (c : Held) (asked : ℕ) (old : Lists) (i : ℕ) (new : Lists) → Trying Known kind c asked old i new → length c.opened.items ≤ i → IsHome c.home → AreAccepted c.opened.items → IsKindAt asked c kind → IsApart c
    → (at : ℕ) (rest : List Event) → Known (Ends asked at ∷ rest) → AreServed asked at rest c new.answered new.tried
trying_all Known kind c asked old i new p le home accepted kind_is apart at rest known d stands opens after on = elim (find_asked asked d.opened) [
  | inl none ↦ absurd (opens none)
  | inr some ↦
      let F : Observed → Type 0 = IsBlind c.home.tables in
      let but = but_apart (IsBlind c.home.tables) c.overwritten asked some.0 some.2 c.opened.items d.opened apart some.1 stands.opened in
      let next = kind_on after asked at rest d (subst IsConsistent (sym stands.rows) (IsConsistent-home c.home home)) (but_all F c.overwritten (λ (x : Observed). arguments_accepted x.call ≡ Ok tt) c.opened.items d.opened stands.opened accepted) some.0 some.1 some.2 on in
      let there = there_some (IsOtherTime asked) c d next.0 stands.rows but next.1 in
      let lt = there.1 in
      let own : IsTried kind some.0.call = kind_is apart some.0 (but_in F c.overwritten c.opened.items d.opened stands.opened some.0 some.1) some.2 in
      further_more asked at rest (suc (length next.0.opened)) (length d.opened) new.answered new.tried after (one_shorter d next.0 next.1)
      (p.served apart at rest after next.0 there.0 known (omega (arith, lt, le)) there.2 (tried_as kind some.0.call there.2.call.call (ap (λ (w : Observed). kind_of w.call) there.3 ∙ next.2) own) next.3)
]

-- what was too much
pub trying_many : (Known : List Event → Type 0) (kind : Option Kind) (most : ℕ) (c d : Held) (asked i : ℕ) (old before : Lists) → TakesOn Known c i d → Trying Known kind c asked old i before
    → (AreMoreThan most (IsRepresentedOr before.answered (StandsFor d)) → AreMoreThan most (IsRepresentedOr old.answered (From MayCome c)))
    × (AreMoreThan most (IsRepresentedOr before.tried (StandsFor d)) → AreMoreThan most (IsRepresentedOr old.tried (From MayCome c)))
trying_many Known kind most c d asked i old before taken p = (
  more_than most (IsRepresentedOr before.answered (StandsFor d)) (IsRepresentedOr old.answered (From MayCome c)) (λ e h. elim h [
    | inl k ↦ elim (p.grown.answered e k) [ inl q ↦ inl q | inr q ↦ inr q.0 ]
    | inr k ↦ inr (taken.sound e k)
  ]),
  more_than most (IsRepresentedOr before.tried (StandsFor d)) (IsRepresentedOr old.tried (From MayCome c)) (λ e h. elim h [
    | inl k ↦ p.grown.tried e k
    | inr k ↦ inr (taken.sound e k)
  ]),
)

-- ---- the configurations before a place were tried
pub record TryingAll (Known : List Event → Type 0) (set : List Held) (asked : ℕ) (old : Lists) (i : ℕ) (new : Lists) : Type 0 where
  pub grown : Grow (FromOne MayCome set) asked old new
  pub served : (j : ℕ) (c : Held) → j < i → slice_get set j ≡ Some c → IsApart c → (at : ℕ) (rest : List Event) → Known (Ends asked at ∷ rest) → AreServed asked at rest c new.answered new.tried
  pub went : (k : ℕ) (d : Held) → slice_get new.going k ≡ Some d → ((j : ℕ) × (slice_get old.going j ≡ Some d)) ⊎ ((j : ℕ) × (c : Held) × (slice_get set j ≡ Some c) × IsFewer c d)
  pub ready : AreReady old.answered → AreReady new.answered
  pub left : AreReady old.tried → AreReady new.tried
  pub apart : (s : ℕ) → AreApart s old.answered → AreOf s set → AreApart s new.answered
  pub distinct : (s : ℕ) → AreApart s old.tried → AreOf s set → AreApart s new.tried

pub trying_all_none : (Known : List Event → Type 0) (set : List Held) (asked : ℕ) (old : Lists) → TryingAll Known set asked old 0 old
trying_all_none Known set asked old = record {
  grown = grow_none (FromOne MayCome set) asked old;
  served = λ j c lt at. absurd (omega (arith, lt));
  went = λ k d at. inl (k, at);
  ready = λ h. h;
  left = λ h. h;
  apart = λ s h k. h;
  distinct = λ s h k. h;
}

pub trying_all_more : (Known : List Event → Type 0) (set : List Held) (asked : ℕ) (old : Lists) (i : ℕ) (c : Held) (before new : Lists) → slice_get set i ≡ Some c → TryingAll Known set asked old i before → Grow (From MayCome c) asked before new
    → (IsApart c → (at : ℕ) (rest : List Event) → Known (Ends asked at ∷ rest) → AreServed asked at rest c new.answered new.tried)
    → WentFrom c before.going new.going → (AreReady before.answered → AreReady new.answered) → (AreReady before.tried → AreReady new.tried)
    → (AreApart c.home.s_id before.answered → AreApart c.home.s_id new.answered) → (AreApart c.home.s_id before.tried → AreApart c.home.s_id new.tried) → TryingAll Known set asked old (i + 1) new
trying_all_more Known set asked old i c before new there p grown served went readies lefts aparts distincts =
    let step : Grow (FromOne MayCome set) asked before new = grow_map (From MayCome c) (FromOne MayCome set) (λ d h. from_one MayCome set i c d there h) asked before new grown in
    record {
      grown = grow_on (FromOne MayCome set) asked old before new p.grown step;
      served = λ j b lt get apart at rest known. elim (below_or_is j i lt) [
        | inl k ↦ λ d stands opens after on. further_on (FromOne MayCome set) asked before new at rest (length d.opened) after step (p.served j b k get apart at rest known d stands opens after on)
        | inr is ↦
            let one : b ≡ c = same_item set i b c (subst (λ k. slice_get set k ≡ Some b) is get) there in
            subst (λ (q : Held). AreServed asked at rest q new.answered new.tried) (sym one) (served (subst IsApart one apart) at rest known)
      ];
      went = λ k d get. elim (went k d get) [
        | inl q ↦ p.went q.0 d q.1
        | inr q ↦ inr (i, c, there, q)
      ];
      ready = λ h. readies (p.ready h);
      left = λ h. lefts (p.left h);
      apart = λ s h own. subst (λ t. AreApart t before.answered → AreApart t new.answered) (all_get (λ (b : Held). b.home.s_id ≡ s) set i c own there) aparts (p.apart s h own);
      distinct = λ s h own. subst (λ t. AreApart t before.tried → AreApart t new.tried) (all_get (λ (b : Held). b.home.s_id ≡ s) set i c own there) distincts (p.distinct s h own);
    }

pub trying_all_done : (Known : List Event → Type 0) (set : List Held) (asked : ℕ) (old : Lists) (i : ℕ) (new : Lists) → TryingAll Known set asked old i new → length set ≤ i → AreEachApart set
    → (at : ℕ) (rest : List Event) → Known (Ends asked at ∷ rest) → AreAllServed asked at rest set new.answered new.tried
trying_all_done Known set asked old i new p le aparts at rest known d stands opens =
    let there = stands_get set d stands in
    let lt = there.1 in
    p.served there.0 there.2 (omega (arith, lt, le)) there.3 (all_get IsApart set there.0 there.2 aparts there.3) at rest known d there.4 opens

pub trying_all_went : (Known : List Event → Type 0) (set : List Held) (asked : ℕ) (answered tried : List Held) (i : ℕ) (new : Lists) → TryingAll Known set asked (record { answered = answered; tried = tried; going = [] }) i new → WentFromOne set new.going
trying_all_went Known set asked answered tried i new p = λ k d at. elim (p.went k d at) [
  | inl q ↦ let none = q.1 in absurd cc
  | inr q ↦ q
]

pub trying_all_many : (Known : List Event → Type 0) (most : ℕ) (set : List Held) (asked : ℕ) (old : Lists) (i : ℕ) (c : Held) (before : Lists) → slice_get set i ≡ Some c → TryingAll Known set asked old i before
    → AreMoreThan most (IsRepresentedOr before.answered (From MayCome c)) ⊎ AreMoreThan most (IsRepresentedOr before.tried (From MayCome c))
    → AreMoreThan most (IsRepresentedOr old.answered (FromOne MayCome set)) ⊎ AreMoreThan most (IsRepresentedOr old.tried (FromOne MayCome set))
trying_all_many Known most set asked old i c before at p many = elim many [
  | inl k ↦ inl (more_than most (IsRepresentedOr before.answered (From MayCome c)) (IsRepresentedOr old.answered (FromOne MayCome set)) (λ e h. elim h [
    | inl q ↦ elim (p.grown.answered e q) [ inl r ↦ inl r | inr r ↦ inr r.0 ]
    | inr q ↦ inr (from_one MayCome set i c e at q)
  ]) k)
  | inr k ↦ inr (more_than most (IsRepresentedOr before.tried (From MayCome c)) (IsRepresentedOr old.tried (FromOne MayCome set)) (λ e h. elim h [
    | inl q ↦ p.grown.tried e q
    | inr q ↦ inr (from_one MayCome set i c e at q)
  ]) k)
]

-- ---- turns
-- what came of the first configuration by so many calls
pub record IsLess (c : Held) (n : ℕ) (d : Held) : Type 0 where
  pub few : length d.opened.items + n ≤ length c.opened.items
  pub own : d.home.s_id ≡ c.home.s_id
  pub accepted : AreAccepted d.opened.items
  pub apart : IsApart c → IsApart d

pub less_first : (c : Held) → AreAccepted c.opened.items → IsLess c 0 c
less_first c accepted = record { few = omega arith; own = refl; accepted = accepted; apart = λ h. h }

less_taken : (c : Held) (n : ℕ) (b d : Held) → IsLess c n b → IsFewer b d → IsLess c (n + 1) d
less_taken c n b d p q =
    let few = p.few in
    let fewer = q.few in
    record {
      few = omega (arith, few, fewer);
      own = q.own ∙ p.own;
      accepted = q.accepted p.accepted;
      apart = λ h. q.apart (p.apart h);
    }

pub record Turned (Known : List Event → Type 0) (old first : List Held) (c : Held) (asked i : ℕ) (answered tried going : List Held) : Type 0 where
  pub kept : (d : Configuration) → OneStandsFor old d → OneStandsFor answered d
  pub answers : (d : Configuration) → OneStandsFor answered d → IsRepresentedOr old (λ e. From MayCome c e × NoneAskedAt asked e.opened) d
  pub tries : (d : Configuration) → OneStandsFor tried d → IsRepresentedOr first (From MayCome c) d
  pub goes : (d : Configuration) → OneStandsFor going d → From MayCome c d
  pub own : IsApart c → (at : ℕ) (rest : List Event) → Known (Ends asked at ∷ rest) → AreServed asked at rest c answered tried
  pub done : IsApart c → (at : ℕ) (rest : List Event) → Known (Ends asked at ∷ rest) → AreTriedOut asked at rest old first → (d : Configuration) → OneStandsFor tried d → Opens asked d
      → OneStandsFor going d ⊎ IsServed asked at rest answered tried d
  pub less : AllByRecursion (IsLess c (i + 1)) going
  pub ready : AreReady old → AreReady answered
  pub apart : AreApart c.home.s_id old → AreApart c.home.s_id answered
  pub distinct : AreApart c.home.s_id first → AreApart c.home.s_id tried

pub turned_first : (Known : List Event → Type 0) (old first : List Held) (c : Held) (asked : ℕ) (answered tried going : List Held) → AreAccepted c.opened.items
    → Grow (From MayCome c) asked (record { answered = old; tried = first; going = [] }) (record { answered = answered; tried = tried; going = going })
    → (IsApart c → (at : ℕ) (rest : List Event) → Known (Ends asked at ∷ rest) → AreServed asked at rest c answered tried) → WentFrom c [] going → (AreReady old → AreReady answered) → (AreApart c.home.s_id old → AreApart c.home.s_id answered)
    → (AreApart c.home.s_id first → AreApart c.home.s_id tried) → Turned Known old first c asked 0 answered tried going
turned_first Known old first c asked answered tried going accepted grown served went ready apart distinct = record {
  kept = grown.answers;
  answers = grown.answered;
  tries = grown.tried;
  goes = λ d h. elim (grown.went d h) [ inl k ↦ absurd k | inr k ↦ k ];
  own = served;
  done = λ own at rest known out d h opens. elim (grown.next d h) [
    | inl k ↦ inr (λ after on. further_on (From MayCome c) asked (record { answered = old; tried = first; going = [] }) (record { answered = answered; tried = tried; going = going }) at rest (length d.opened) after grown (out d k opens after on))
    | inr k ↦ inl k
  ];
  less = all_of_get (IsLess c 1) going (λ k d at. elim (went k d at) [
    | inl q ↦ let none = q.1 in absurd cc
    | inr q ↦ less_taken c 0 c d (less_first c accepted) q
  ]);
  ready = ready;
  apart = apart;
  distinct = distinct;
}

pub less_ready : (c : Held) (n : ℕ) (going : List Held) → AllByRecursion (IsLess c n) going → AreReady going
less_ready c n [] h = tt
less_ready c n (d ∷ more) h = (h.0.accepted, less_ready c n more h.1)

pub less_own : (c : Held) (n : ℕ) (going : List Held) → AllByRecursion (IsLess c n) going → AreOf c.home.s_id going
less_own c n [] h = tt
less_own c n (d ∷ more) h = (h.0.own, less_own c n more h.1)

less_apart : (c : Held) (n : ℕ) (going : List Held) → AllByRecursion (IsLess c n) going → IsApart c → AreEachApart going
less_apart c n [] h apart = tt
less_apart c n (d ∷ more) h apart = (h.0.apart apart, less_apart c n more h.1 apart)

pub turned_more : (Known : List Event → Type 0) (old first : List Held) (c : Held) (asked i : ℕ) (answered tried going answered' tried' next : List Held) → Turned Known old first c asked i answered tried going
    → Grow (FromOne MayCome going) asked (record { answered = answered; tried = tried; going = [] }) (record { answered = answered'; tried = tried'; going = next })
    → (AreEachApart going → (at : ℕ) (rest : List Event) → Known (Ends asked at ∷ rest) → AreAllServed asked at rest going answered' tried') → WentFromOne going next → (AreReady answered → AreReady answered')
    → ((s : ℕ) → AreApart s answered → AreOf s going → AreApart s answered') → ((s : ℕ) → AreApart s tried → AreOf s going → AreApart s tried') → Turned Known old first c asked (i + 1) answered' tried' next
turned_more Known old first c asked i answered tried going answered' tried' next p grown served went readies aparts distincts =
    let goes : (d : Configuration) → FromOne MayCome going d → From MayCome c d = λ d h. let before = p.goes h.0 h.1 in (before.0, before.1, come_on before.0 h.0 d before.2 h.2) in
    let own = less_own c (i + 1) going p.less in
    record {
      kept = λ d h. grown.answers d (p.kept d h);
      answers = λ d h. elim (grown.answered d h) [ inl k ↦ p.answers d k | inr k ↦ inr (goes d k.0, k.1) ];
      tries = λ d h. elim (grown.tried d h) [ inl k ↦ p.tries d k | inr k ↦ inr (goes d k) ];
      goes = λ d h. elim (grown.went d h) [ inl k ↦ absurd k | inr k ↦ goes d k ];
      own = λ apart at rest known d stands opens after on.
          further_on (FromOne MayCome going) asked (record { answered = answered; tried = tried; going = [] }) (record { answered = answered'; tried = tried'; going = next }) at rest (length d.opened) after grown (p.own apart at rest known d stands opens after on);
      done = λ apart at rest known out d h opens. elim (grown.next d h) [
        | inl k ↦ elim (p.done apart at rest known out d k opens) [
          | inl q ↦ inr (served (less_apart c (i + 1) going p.less apart) at rest known d q opens)
          | inr q ↦ inr (λ after on. further_on (FromOne MayCome going) asked (record { answered = answered; tried = tried; going = [] }) (record { answered = answered'; tried = tried'; going = next }) at rest (length d.opened) after grown (q after on))
        ]
        | inr k ↦ inl k
      ];
      less = all_of_get (IsLess c (i + 1 + 1)) next (λ k d at.
          let from = went k d at in
          less_taken c (i + 1) from.1 d (all_get (IsLess c (i + 1)) going from.0 from.1 p.less from.2) from.3);
      ready = λ h. readies (p.ready h);
      apart = λ h. aparts c.home.s_id (p.apart h) own;
      distinct = λ h. distincts c.home.s_id (p.distinct h) own;
    }

-- where all that was tried is served, each order leads on from one where the call was answered
tried_answered : (asked at : ℕ) (rest : List Event) (answered tried : List Held) → AreTriedOut asked at rest answered tried → (after : Database) (many : ℕ) → LeadsFurther asked at rest many answered tried after → OneLeadsOn after rest answered
tried_answered asked at rest answered tried out after zero h = elim h [
  | inl k ↦ k
  | inr k ↦ let none = k.3 in absurd (omega (arith, none))
]
tried_answered asked at rest answered tried out after (suc many) h = elim h [
  | inl k ↦ k
  | inr k ↦
      let few = k.3 in
      tried_answered asked at rest answered tried out after many (further_more asked at rest (length k.0.opened) many answered tried after (omega (arith, few)) (out k.0 k.1 k.2 after k.4))
]

none_less : (c : Held) (n : ℕ) (going : List Held) → length c.opened.items ≤ n → AllByRecursion (IsLess c (n + 1)) going → (d : Configuration) → OneStandsFor going d → ⊥
none_less c n [] le h d k = k
none_less c n (b ∷ more) le h d k = let few = h.0.few in omega (arith, few, le)

module _ (Known : List Event → Type 0) (old first : List Held) (c : Held) (asked i : ℕ) (answered tried going : List Held) (p : Turned Known old first c asked i answered tried going) (le : length c.opened.items ≤ i) where
  pub turned_out : IsApart c → (at : ℕ) (rest : List Event) → Known (Ends asked at ∷ rest) → AreTriedOut asked at rest old first → AreTriedOut asked at rest answered tried
  turned_out apart at rest known out d h opens = elim (p.done apart at rest known out d h opens) [
    | inl q ↦ absurd (none_less c i going le p.less d q)
    | inr q ↦ q
  ]

  pub turned_answered : IsApart c → (at : ℕ) (rest : List Event) → Known (Ends asked at ∷ rest) → AreTriedOut asked at rest old first → AreAnswered asked at rest c answered
  turned_answered apart at rest known out after d stands opens on =
      tried_answered asked at rest answered tried (turned_out apart at rest known out) after (length d.opened) (p.own apart at rest known d stands opens after on)

  pub turned_sound : (d : Configuration) → OneStandsFor answered d → IsRepresentedOr old (From (MayAnswer asked) c) d
  turned_sound d h = elim (p.answers d h) [ inl k ↦ inl k | inr k ↦ inr (k.0.0, k.0.1, (k.0.2, k.1)) ]

pub turned_many : (Known : List Event → Type 0) (most : ℕ) (old first : List Held) (c : Held) (asked i : ℕ) (answered tried going : List Held) → Turned Known old first c asked i answered tried going
    → AreMoreThan most (IsRepresentedOr answered (FromOne MayCome going)) ⊎ AreMoreThan most (IsRepresentedOr tried (FromOne MayCome going)) → AreMoreThan most (IsRepresentedOr old (From MayCome c)) ⊎ AreMoreThan most (IsRepresentedOr first (From MayCome c))
turned_many Known most old first c asked i answered tried going p many =
    let goes : (d : Configuration) → FromOne MayCome going d → From MayCome c d = λ d h. let before = p.goes h.0 h.1 in (before.0, before.1, come_on before.0 h.0 d before.2 h.2) in
    elim many [
      | inl k ↦ inl (more_than most (IsRepresentedOr answered (FromOne MayCome going)) (IsRepresentedOr old (From MayCome c)) (λ e h. elim h [
        | inl q ↦ elim (p.answers e q) [ inl r ↦ inl r | inr r ↦ inr r.0 ]
        | inr q ↦ inr (goes e q)
      ]) k)
      | inr k ↦ inr (more_than most (IsRepresentedOr tried (FromOne MayCome going)) (IsRepresentedOr first (From MayCome c)) (λ e h. elim h [
        | inl q ↦ p.tries e q
        | inr q ↦ inr (goes e q)
      ]) k)
    ]
