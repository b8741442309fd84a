-- A merged history stands in rising (stamp, extent). So where each entry has its receipt, and each client's stamps rise with its call numbers, its entries stand in turn.
use Rattle.std.proofs.Common.{◌≡◌, ◌≢◌, ℕ, zero, suc, ◌<◌, ◌==◌, ◌&&◌, ◌||◌, nat_lt, true, false, List, [], ◌∷◌, Some, slice_get, refl, sym, ◌∙◌, subst, arith, inl, inr}
use Rattle.std.proofs.lemmas.Bool.{cases_order}
use Rattle.std.proofs.lemmas.Bool.Decides.{nat_tests}
use Rattle.std.proofs.lemmas.Grind.{common_steps}
use Rattle.tatp_calls.specs.declared.entry.Entry.{Entry}
use Rattle.tatp_extents.specs.Histories.{StampsRise}
use Rattle.tatp_logs.specs.declared.receipt.Receipt.{Receipt}
use Rattle.tatp_settle.specs.Merging.{PlacedEntry, is_before, Begins, IsNext, without_first, Merges, ClientsAreInTurn}
use Rattle.tatp_settle.specs.Runs.{at_call}
use Rattle.tatp_settle.specs.Answering.{receipt_of, HasReceipt}
use Rattle.tatp_settle.specs.CallPlaces.{HoldsNowhere}
use Rattle.tatp_settle.specs.Causes.{StampFalls}
use Rattle.tatp_settle.proofs.MergeLaws.{get_without}

-- ---- stamps and extents
stamp_before : (a x b y : ℕ) → a < b → (nat_lt a b || ((a == b) && nat_lt x y)) ≡ true
stamp_before a x b y h = grind (arith, nat_tests, common_steps, h)

turned : (a x b y : ℕ) → (nat_lt b a || ((b == a) && nat_lt y x)) ≡ false → y ≢ x → (nat_lt a b || ((a == b) && nat_lt x y)) ≡ true
turned a x b y h n = grind (arith, nat_tests, common_steps, h, n)

before_both : (a x b y c z : ℕ) → (nat_lt a b || ((a == b) && nat_lt x y)) ≡ true → (nat_lt b c || ((b == c) && nat_lt y z)) ≡ true → (nat_lt a c || ((a == c) && nat_lt x z)) ≡ true
before_both a x b y c z h k = grind (arith, nat_tests, common_steps, h, k)

not_before_same : (a x b y : ℕ) → (nat_lt a b || ((a == b) && nat_lt x y)) ≡ true → a ≡ b → x ≡ y → ⊥
not_before_same a x b y h s e = grind (arith, nat_tests, common_steps, h, s, e)

not_before_lower : (a x b y : ℕ) → (nat_lt a b || ((a == b) && nat_lt x y)) ≡ true → b < a → ⊥
not_before_lower a x b y h l = grind (arith, nat_tests, common_steps, h, l)

-- ---- the order of a history
-- the stamps of a log rise
abbrev pub Rises : List Entry → Type 0
Rises log = (least : ℕ) × StampsRise least log

abbrev pub EachRises : List (List Entry) → Type 0
EachRises logs = (e : ℕ) (log : List Entry) → slice_get logs e ≡ Some log → Rises log

rest_rises : (logs : List (List Entry)) (p : PlacedEntry) → EachRises logs → Begins logs p → EachRises (without_first logs p.extent)
rest_rises logs p all b e log g = elim (get_without logs p.extent p.entry b.0 b.1 e log g) [
  | inl q ↦ let first : Rises (p.entry ∷ b.0) = all p.extent (p.entry ∷ b.0) b.1 in subst Rises (sym q.1) (p.entry.stamp, first.1.1)
  | inr q ↦ all e log q.1
]

-- what begins the logs after the least of their first entries was taken is later
behind_next : (logs : List (List Entry)) (p q : PlacedEntry) → EachRises logs → IsNext logs p → Begins (without_first logs p.extent) q → is_before p q ≡ true
behind_next logs p q all next b = elim (get_without logs p.extent p.entry next.begins.0 next.begins.1 q.extent (q.entry ∷ b.0) b.1) [
  | inl same ↦
      let log : Rises (p.entry ∷ next.begins.0) = all p.extent (p.entry ∷ next.begins.0) next.begins.1 in
      let rises : StampsRise p.entry.stamp (q.entry ∷ b.0) = subst (StampsRise p.entry.stamp) (sym same.1) log.1.1 in
      stamp_before p.entry.stamp p.extent q.entry.stamp q.extent rises.0
  | inr other ↦ turned p.entry.stamp p.extent q.entry.stamp q.extent (next.least q (b.0, other.1)) other.0
]

before_next : (logs : List (List Entry)) (p first q : PlacedEntry) → EachRises logs → IsNext logs first → is_before p first ≡ true → Begins (without_first logs first.extent) q → is_before p q ≡ true
before_next logs p first q all next h b = before_both p.entry.stamp p.extent first.entry.stamp first.extent q.entry.stamp q.extent h (behind_next logs first q all next b)

-- what is before each log's first entry is before each entry of the history
before_all : (history : List PlacedEntry) (logs : List (List Entry)) (p : PlacedEntry) → EachRises logs → Merges logs history → ((q : PlacedEntry) → Begins logs q → is_before p q ≡ true)
    → (i : ℕ) (q : PlacedEntry) → slice_get history i ≡ Some q → is_before p q ≡ true
before_all [] logs p all m first i q g = absurd cc
before_all (x ∷ more) logs p all m first zero q g = let same : x ≡ q = cc in subst (λ (r : PlacedEntry). is_before p r ≡ true) same (first x m.0.begins)
before_all (x ∷ more) logs p all m first (suc i) q g =
    before_all more (without_first logs x.extent) p (rest_rises logs x all m.0.begins) m.1 (λ r b. before_next logs p x r all m.0 (first x m.0.begins) b) i q g

in_rising_order : (history : List PlacedEntry) (logs : List (List Entry)) → EachRises logs → Merges logs history
    → (i j : ℕ) (p q : PlacedEntry) → i < j → slice_get history i ≡ Some p → slice_get history j ≡ Some q → is_before p q ≡ true
in_rising_order [] logs all m i j p q l g h = absurd cc
in_rising_order (x ∷ more) logs all m zero zero p q l g h = absurd (omega (arith, l))
in_rising_order (x ∷ more) logs all m zero (suc j) p q l g h =
    let same : x ≡ p = cc in
    subst (λ (r : PlacedEntry). is_before r q ≡ true) same (before_all more (without_first logs x.extent) x (rest_rises logs x all m.0.begins) m.1 (λ r b. behind_next logs x r all m.0 b) j q h)
in_rising_order (x ∷ more) logs all m (suc i) zero p q l g h = absurd (omega (arith, l))
in_rising_order (x ∷ more) logs all m (suc i) (suc j) p q l g h = in_rising_order more (without_first logs x.extent) (rest_rises logs x all m.0.begins) m.1 i j p q (omega (arith, l)) g h

-- ---- where its entries stand
-- the entry stands in the log of its extent
pub record StandsIn (logs : List (List Entry)) (p : PlacedEntry) : Type 0 where
  pub log : List Entry
  pub place : ℕ
  pub at_extent : slice_get logs p.extent ≡ Some log
  pub at_place : slice_get log place ≡ Some p.entry

stood_before : (logs : List (List Entry)) (first p : PlacedEntry) → Begins logs first → StandsIn (without_first logs first.extent) p → StandsIn logs p
stood_before logs first p b s = elim (get_without logs first.extent first.entry b.0 b.1 p.extent s.log s.at_extent) [
  | inl same ↦ record {
    log = first.entry ∷ b.0;
    place = suc s.place;
    at_extent = subst (λ (e : ℕ). slice_get logs e ≡ Some (first.entry ∷ b.0)) (sym same.0) b.1;
    at_place = subst (λ (l : List Entry). slice_get l s.place ≡ Some p.entry) same.1 s.at_place;
  }
  | inr other ↦ record { log = s.log; place = s.place; at_extent = other.1; at_place = s.at_place }
]

stands_in_logs : (history : List PlacedEntry) (logs : List (List Entry)) → Merges logs history → (i : ℕ) (p : PlacedEntry) → slice_get history i ≡ Some p → StandsIn logs p
stands_in_logs [] logs m i p g = absurd cc
stands_in_logs (x ∷ more) logs m zero p g =
    let same : x ≡ p = cc in
    subst (StandsIn logs) same (record { log = x.entry ∷ m.0.begins.0; place = 0; at_extent = m.0.begins.1; at_place = refl })
stands_in_logs (x ∷ more) logs m (suc i) p g = stood_before logs x p m.0.begins (stands_in_logs more (without_first logs x.extent) m.1 i p g)

-- ---- clients
-- two entries of one client, the first before the second
in_turn : (receipts : List (List Receipt)) → HoldsNowhere (StampFalls receipts) → (p q : PlacedEntry) → HasReceipt receipts p → HasReceipt receipts q → is_before p q ≡ true → p.entry.client ≡ q.entry.client → p.entry.number < q.entry.number
in_turn receipts rise p q a b before c = elim (cases_order p.entry.number q.entry.number) [
  | inr (inl l) ↦ l
  | inl e ↦
      let same : at_call receipts p.entry.client p.entry.number ≡ at_call receipts q.entry.client q.entry.number = λ i. at_call receipts (c i) (e i) in
      let one : Some (receipt_of p) ≡ Some (receipt_of q) = sym a ∙ same ∙ b in
      let x : p.extent ≡ q.extent = cc in
      let s : p.entry.stamp ≡ q.entry.stamp = cc in
      absurd (not_before_same p.entry.stamp p.extent q.entry.stamp q.extent before s x)
  | inr (inr g) ↦ absurd (rise p.entry.client p.entry.number (record {
    earlier = q.entry.number;
    first = receipt_of q;
    second = receipt_of p;
    before = g;
    got_first = (λ i. at_call receipts (c i) q.entry.number) ∙ b;
    got_second = a;
    falls = not_before_lower p.entry.stamp p.extent q.entry.stamp q.extent before;
  }))
]

-- each client's entries stand once, in rising call number
pub clients_are_in_turn : (receipts : List (List Receipt)) (logs : List (List Entry)) (history : List PlacedEntry) → EachRises logs → HoldsNowhere (StampFalls receipts) → ((p : PlacedEntry) → StandsIn logs p → HasReceipt receipts p)
    → Merges logs history → ClientsAreInTurn history
clients_are_in_turn receipts logs history all rise known m i j p q l g h c =
    in_turn receipts rise p q (known p (stands_in_logs history logs m i p g)) (known q (stands_in_logs history logs m j q h)) (in_rising_order history logs all m i j p q l g h) c
