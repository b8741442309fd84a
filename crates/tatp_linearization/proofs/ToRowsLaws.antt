-- Rows that orders leave: open calls that write take effect last, one after another, or never.
use Rattle.std.proofs.Common.{◌≡◌, ℕ, zero, suc, ◌≤◌, ◌⊎◌, List, [], ◌∷◌, length, refl, sym, subst, arith, inl, inr}
use Rattle.std.specs.List.{AllByRecursion}
use Rattle.tatp_tables.specs.Database.{Database}
use Rattle.tatp_history.specs.declared.event.Event.{Event}
use Rattle.tatp_history.specs.declared.observed.Observed.{Observed}
use Rattle.tatp_history.specs.Histories.{IsIn, IsStrictlySerializableTo, rows_after}
use Rattle.tatp_history.specs.Events.{asked_in, TimesRise, HaveEnds}
use Rattle.tatp_history.specs.JustInTime.{AreOpen}
use Rattle.tatp_history.specs.Configurations.{Configuration}
use Rattle.tatp_history.specs.Remaining.{IsOrderFrom}
use Rattle.tatp_history.proofs.ChoiceLaws.{chooses_some, chooses_length}
use Rattle.tatp_linearization.specs.declared.configuration.Configuration.{Configuration as Held}
use Rattle.tatp_linearization.specs.AtOnce.{IsSettled, TakesOne}
use Rattle.tatp_linearization.specs.Possible.{AreMoreThan}
use Rattle.tatp_linearization.specs.Held.{AreReady, AreApart, TakeMany, TakeSome}
use Rattle.tatp_linearization.specs.Overwritten.{IsBlind}
use Rattle.tatp_linearization.specs.Covering.{OneStandsFor, FromOne, MayCome, Gains}
use Rattle.tatp_linearization.specs.Reached.{AreKept}
use Rattle.tatp_linearization.proofs.AtOnceLaws.{one_open, one_settled, one_shorter, first_takes}
use Rattle.tatp_linearization.proofs.GoingLaws.{serial_leads_on}
use Rattle.tatp_linearization.proofs.PossibleLaws.{more_than, come_on, come_possible}
use Rattle.tatp_linearization.proofs.SerialLaws.{possible_to}
use Rattle.tatp_linearization.proofs.CoveringLaws.{stands_get}
use Rattle.tatp_linearization.proofs.ButSomeLaws.{but_length}
use Rattle.tatp_linearization.proofs.PlaceLaws.{all_get}

-- ---- orders of open calls
module _ (Q : Database → Type 0) where
  some_complete : (n : ℕ) (order : List Observed) (c : Configuration) → length c.opened ≤ n → IsSettled c → AreOpen [] c.opened → IsOrderFrom c.rows [] c.opened order → Q (rows_after c.rows order) → (d : Configuration) × TakeSome c d × Q d.rows
  some_complete n [] c few settled are ok q = (c, (0, refl), q)
  some_complete zero (x ∷ order) c few settled are ok q =
      let opens : IsIn x c.opened = elim ok.made.0 [ inl k ↦ k | inr k ↦ absurd k ] in
      let some = chooses_some c.opened x opens in
      let size : length c.opened ≡ suc (length some.0) = chooses_length c.opened x some.0 some.1 in
      absurd (omega (arith, few, size))
  some_complete (suc n) (x ∷ order) c few settled are ok q =
      let opens : IsIn x c.opened = elim ok.made.0 [ inl k ↦ k | inr k ↦ absurd k ] in
      let next = first_takes Q [] tt c settled are x opens order ok q in
      let less = one_shorter c next.0 next.1 in
      let rest = next.3 in
      let go = some_complete n rest.0 next.0 (omega (arith, few, less)) (one_settled c next.0 next.1) (one_open [] c next.0 next.1 are) rest.1 rest.2 in
      (go.0, (suc go.1.0, (next.0, next.1, go.1.1)), go.2)

-- ---- turns
many_shorter : (n : ℕ) (c d : Configuration) → TakeMany n c d → n ≤ length c.opened
many_shorter zero c d h = omega arith
many_shorter (suc n) c d h = let less = many_shorter n h.0 d h.2 in let one = one_shorter c h.0 h.1 in omega (arith, less, one)

-- the last of so many
many_last : (n : ℕ) (c d : Configuration) → TakeMany (suc n) c d → (e : Configuration) × TakeMany n c e × TakesOne e d
many_last zero c d h = (c, refl, subst (TakesOne c) (sym h.2) h.1)
many_last (suc n) c d h = let rest = many_last n h.0 d h.2 in (rest.0, (h.0, h.1, rest.1), rest.2)

abbrev pub HaveNone : List Held → Database → ℕ → Type 0
HaveNone set after n = (d : Configuration) → FromOne (TakeMany n) set d → d.rows ≡ after → ⊥

-- so many calls took effect, and fewer never leave the rows
pub record Tried (s : ℕ) (set : List Held) (after : Database) (n : ℕ) (going : List Held) : Type 0 where
  pub sound : (d : Configuration) → OneStandsFor going d → FromOne MayCome set d
  pub found : (d : Configuration) → FromOne (TakeMany n) set d → OneStandsFor going d
  pub none : (m : ℕ) → suc m ≤ n → HaveNone set after m
  pub ready : AreReady going
  pub apart : AreApart s going

pub tried_first : (s : ℕ) (set : List Held) (after : Database) (going : List Held) → ((d : Configuration) → OneStandsFor set d → d.rows ≡ after → ⊥) → Gains (FromOne MayCome set) (FromOne TakesOne set) [] going → AreReady going → AreApart s going → Tried s set after 1 going
tried_first s set after going none gains ready apart = record {
  sound = λ d h. elim (gains.sound d h) [ inl k ↦ absurd k | inr k ↦ k ];
  found = λ d h. gains.found d (h.0, h.1, subst (TakesOne h.0) (sym h.2.2) h.2.1);
  none = λ m le. elim m as (λ k. suc k ≤ 1 → HaveNone set after k) [
    | zero ↦ λ _ d h e. none d (subst (OneStandsFor set) (sym h.2) h.1) e
    | suc k ↦ λ more. absurd (omega (arith, more))
  ] le;
  ready = ready;
  apart = apart;
}

come_one : (set going : List Held) → ((d : Configuration) → OneStandsFor going d → FromOne MayCome set d) → (d : Configuration) → FromOne MayCome going d → FromOne MayCome set d
come_one set going sound d h = let q = sound h.0 h.1 in (q.0, q.1, come_on q.0 h.0 d q.2 h.2)

pub tried_more : (s : ℕ) (set : List Held) (after : Database) (n : ℕ) (going next : List Held) → Tried s set after n going → ((d : Configuration) → OneStandsFor going d → d.rows ≡ after → ⊥)
    → Gains (FromOne MayCome going) (FromOne TakesOne going) [] next → AreReady next → (AreApart s going → AreApart s next) → Tried s set after (suc n) next
tried_more s set after n going next p none gains ready apart = record {
  sound = λ d h. elim (gains.sound d h) [ inl k ↦ absurd k | inr k ↦ come_one set going p.sound d k ];
  found = λ d h.
      let last = many_last n h.0 d h.2 in
      gains.found d (last.0, p.found last.0 (h.0, h.1, last.1), last.2);
  none = λ m le d h e. elim (below m n le) [
    | inl less ↦ p.none m less d h e
    | inr is ↦ none d (p.found d (subst (λ k. FromOne (TakeMany k) set d) is h)) e
  ];
  ready = ready;
  apart = apart p.apart;
}
  where
    below : (m k : ℕ) → suc m ≤ suc k → (suc m ≤ k) ⊎ (m ≡ k)
    below zero zero le = inr refl
    below zero (suc k) le = inl (omega arith)
    below (suc m) zero le = absurd (omega (arith, le))
    below (suc m) (suc k) le = elim (below m k (omega (arith, le))) [ inl less ↦ inl (omega (arith, less)) | inr e ↦ inr (λ i. suc (e i)) ]

-- after so many turns as calls are open none is left to take effect
pub tried_all : (s : ℕ) (set : List Held) (after : Database) (n most : ℕ) (going : List Held) → Tried s set after (suc n) going → AllByRecursion (λ (c : Held). length c.opened.items ≤ most) set → most ≤ n
    → (d : Configuration) → FromOne TakeSome set d → d.rows ≡ after → ⊥
tried_all s set after n most going p opened enough d h e =
    let there = stands_get set h.0 h.1 in
    let few : length there.2.opened.items ≤ most = all_get (λ (c : Held). length c.opened.items ≤ most) set there.0 there.2 opened there.3 in
    let less : h.2.0 ≤ length h.0.opened = many_shorter h.2.0 h.0 d h.2.1 in
    let within = but_length (IsBlind there.2.home.tables) there.2.overwritten there.2.opened.items h.0.opened there.4.opened in
    p.none h.2.0 (omega (arith, few, less, within, enough)) d (h.0, h.1, h.2.1) e

pub tried_many : (s : ℕ) (set : List Held) (after : Database) (n most : ℕ) (going : List Held) → Tried s set after n going → AreMoreThan most (FromOne MayCome going) → AreMoreThan most (FromOne MayCome set)
tried_many s set after n most going p many = more_than most (FromOne MayCome going) (FromOne MayCome set) (come_one set going p.sound) many

-- ---- explanations
module _ (u : Database) (past : List Event) (cs : List Held) (kept : AreKept u past cs) where
  pub kept_to : (after : Database) → TimesRise past → HaveEnds past → (d : Configuration) × FromOne MayCome cs d × (d.rows ≡ after) → IsStrictlySerializableTo u (asked_in past) after
  kept_to after rise have h = possible_to u after past h.0 rise have (come_possible u past h.1.0 h.0 (kept.sound h.1.0 h.1.1) h.1.2).0 h.2

  pub to_kept : (after : Database) → TimesRise past → HaveEnds past → IsStrictlySerializableTo u (asked_in past) after → (d : Configuration) × FromOne TakeSome cs d × (d.rows ≡ after)
  to_kept after rise have s =
      let one = kept.complete after [] (serial_leads_on u after past rise have s) in
      let on = one.2 in
      let last = some_complete (λ v. v ≡ after) (length one.0.opened) on.order.0 one.0 (omega arith) on.settled on.waiting on.order.1 on.order.2 in
      (last.0, (one.0, one.1, last.1), last.2)
