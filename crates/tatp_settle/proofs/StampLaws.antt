-- The stamps of a client's receipts, one after another.
use Rattle.std.proofs.Common.{◌≡◌, ℕ, ◌<◌, ◌≤◌, ◌+◌, true, false, List, Option, Some, None, refl, sym, ◌∙◌, arith, subst, ◌⊎◌, inl, inr}
use Rattle.std.proofs.lemmas.Grind.{common_steps}
use Rattle.std.proofs.lemmas.Option.{same_Some}
use Rattle.tatp_calls.specs.declared.reply.Reply.{Reply}
use Rattle.tatp_logs.specs.declared.receipt.Receipt.{Receipt}
use Rattle.tatp_logs.specs.declared.receipt.Receipt.TheVariants.{Done, Refused}
use Rattle.tatp_settle.specs.Receipts.{IsLater}
use Rattle.tatp_settle.specs.Runs.{at_call}
use Rattle.tatp_settle.specs.Causes.{StampFalls}
use Rattle.tatp_settle.specs.Stamping.{is_above}

-- the receipt's stamp is at most the last one
abbrev pub StampAtMost : Receipt → Option ℕ → Type 0
StampAtMost (Done client number reply extent stamp) (Some last) = stamp ≤ last
StampAtMost (Done client number reply extent stamp) None = ⊥
StampAtMost (Refused client number) last = Unit {0}

abbrev pub HasStamp : Receipt → ℕ → Type 0
HasStamp (Done client number reply extent stamp) last = stamp ≡ last
HasStamp (Refused client number) last = ⊥

-- a receipt of the client before this call has the stamp
pub record LastAt (receipts : List (List Receipt)) (client number last : ℕ) : Type 0 where
  pub earlier : ℕ
  pub receipt : Receipt
  pub below : earlier < number
  pub at : at_call receipts client earlier ≡ Some receipt
  pub stamp : HasStamp receipt last

-- this is the greatest stamp of the client's receipts before this call, none where there is none
pub record IsLast (receipts : List (List Receipt)) (client number : ℕ) (last : Option ℕ) : Type 0 where
  pub seen : (earlier : ℕ) (r : Receipt) → earlier < number → at_call receipts client earlier ≡ Some r → StampAtMost r last
  pub from : (stamp : ℕ) → last ≡ Some stamp → LastAt receipts client number stamp

pub falls_none : (receipts : List (List Receipt)) (c n : ℕ) → at_call receipts c n ≡ None → StampFalls receipts c n → ⊥
falls_none receipts c n none f = let t : at_call receipts c n ≡ Some f.second = f.got_second in cc

later_refused : (r : Receipt) (c n : ℕ) → IsLater r (Refused c n)
later_refused (Done a b d e f) c n = tt
later_refused (Refused a b) c n = tt

pub falls_refused : (receipts : List (List Receipt)) (c n c' n' : ℕ) → at_call receipts c n ≡ Some (Refused c' n') → StampFalls receipts c n → ⊥
falls_refused receipts c n c' n' is f =
    f.falls (subst (λ (r : Receipt). IsLater f.first r) (same_Some (Refused c' n') f.second (sym is ∙ f.got_second)) (later_refused f.first c' n'))

later_above : (r : Receipt) (o : Option ℕ) (c n : ℕ) (y : Reply) (x s : ℕ) → StampAtMost r o → is_above o s ≡ true → IsLater r (Done c n y x s)
later_above (Done a b d e f) (Some t) c n y x s m g = grind (arith, common_steps, m)
later_above (Done a b d e f) None c n y x s m g = absurd m
later_above (Refused a b) o c n y x s m g = tt

pub falls_above : (receipts : List (List Receipt)) (c n c' n' : ℕ) (y : Reply) (x s : ℕ) (last : Option ℕ) → IsLast receipts c n last → at_call receipts c n ≡ Some (Done c' n' y x s) → is_above last s ≡ true → StampFalls receipts c n → ⊥
falls_above receipts c n c' n' y x s last h is g f =
    f.falls (subst (λ (r : Receipt). IsLater f.first r) (same_Some (Done c' n' y x s) f.second (sym is ∙ f.got_second)) (later_above f.first last c' n' y x s (h.seen f.earlier f.first f.before f.got_first) g))

not_later : (r : Receipt) (t c n : ℕ) (y : Reply) (x s : ℕ) → HasStamp r t → s ≤ t → IsLater r (Done c n y x s) → ⊥
not_later (Done a b d e f) t c n y x s h l g = let i : f ≡ t = h in let j : f < s = g in omega arith
not_later (Refused a b) t c n y x s h l g = h

pub falls_here : (receipts : List (List Receipt)) (c n c' n' : ℕ) (y : Reply) (x s : ℕ) (last : Option ℕ) → IsLast receipts c n last → at_call receipts c n ≡ Some (Done c' n' y x s) → is_above last s ≡ false → StampFalls receipts c n
falls_here receipts c n c' n' y x s None h is g = absurd cc
falls_here receipts c n c' n' y x s (Some t) h is g =
    let w : LastAt receipts c n t = h.from t refl in
    record { earlier = w.earlier; first = w.receipt; second = Done c' n' y x s; before = w.below; got_first = w.at; got_second = is; falls = not_later w.receipt t c' n' y x s w.stamp (grind (arith, common_steps, g)) }

at_most_above : (r : Receipt) (o : Option ℕ) (s : ℕ) → StampAtMost r o → is_above o s ≡ true → StampAtMost r (Some s)
at_most_above (Done a b d e f) (Some t) s m g = grind (arith, common_steps, m)
at_most_above (Done a b d e f) None s m g = absurd m
at_most_above (Refused a b) o s m g = tt

below_or : (j k : ℕ) → j < k + 1 → (j < k) ⊎ (j ≡ k)
below_or j k l = grind arith

pub last_done : (receipts : List (List Receipt)) (c n c' n' : ℕ) (y : Reply) (x s : ℕ) (last : Option ℕ) → IsLast receipts c n last → at_call receipts c n ≡ Some (Done c' n' y x s) → is_above last s ≡ true → IsLast receipts c (n + 1) (Some s)
last_done receipts c n c' n' y x s last h is g = record {
  seen = λ j r l e. elim (below_or j n l) as (λ _. StampAtMost r (Some s)) [
    | inl m ↦ at_most_above r last s (h.seen j r m e) g
    | inr m ↦ subst (λ (q : Receipt). StampAtMost q (Some s)) (same_Some (Done c' n' y x s) r (sym is ∙ (subst (λ (k : ℕ). at_call receipts c k ≡ Some r) m e))) same
  ];
  from = λ t e. record { earlier = n; receipt = Done c' n' y x s; below = omega arith; at = is; stamp = (let i : s ≡ t = cc in i) };
}
  where
    same : s ≤ s
    same = omega arith

last_kept : (receipts : List (List Receipt)) (c n : ℕ) (last : Option ℕ) → IsLast receipts c n last → ((r : Receipt) → at_call receipts c n ≡ Some r → StampAtMost r last) → IsLast receipts c (n + 1) last
last_kept receipts c n last h new = record {
  seen = λ j r l e. elim (below_or j n l) as (λ _. StampAtMost r last) [
    | inl m ↦ h.seen j r m e
    | inr m ↦ new r (subst (λ (k : ℕ). at_call receipts c k ≡ Some r) m e)
  ];
  from = λ t e. (let w : LastAt receipts c n t = h.from t e in record { earlier = w.earlier; receipt = w.receipt; below = omega (arith, w.below); at = w.at; stamp = w.stamp });
}

pub last_refused : (receipts : List (List Receipt)) (c n c' n' : ℕ) (last : Option ℕ) → IsLast receipts c n last → at_call receipts c n ≡ Some (Refused c' n') → IsLast receipts c (n + 1) last
last_refused receipts c n c' n' last h is = last_kept receipts c n last h (λ r e. subst (λ (q : Receipt). StampAtMost q last) (same_Some (Refused c' n') r (sym is ∙ e)) tt)

pub last_none : (receipts : List (List Receipt)) (c n : ℕ) (last : Option ℕ) → IsLast receipts c n last → at_call receipts c n ≡ None → IsLast receipts c (n + 1) last
last_none receipts c n last h none = last_kept receipts c n last h (λ r e. absurd (let t : at_call receipts c n ≡ Some r = e in cc))
