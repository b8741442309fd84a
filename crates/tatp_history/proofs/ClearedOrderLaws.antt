-- Serial orders of calls and of the calls with data_a cleared.
use Rattle.std.proofs.Common.{◌≡◌, ◌↔◌, List, [], ◌∷◌, map, refl, sym, ap, subst}
use Rattle.std.specs.List.{AllByRecursion}
use Rattle.tatp_tables.specs.Tuples.{Tuples}
use Rattle.tatp_tables.specs.Database.{Database}
use Rattle.tatp_calls.specs.Transactions.{Answer, transaction}
use Rattle.tatp_history.specs.declared.observed.Observed.{Observed}
use Rattle.tatp_history.specs.Histories.{IsIn, IsAnswered, Precedes, AreAskedApart, KeepsRealTime, MayHaveReply, AreAnsweredInOrder, IsSerialOrder, IsStrictlySerializable}
use Rattle.tatp_history.specs.Cleared.{cleared, cleared_calls, with_facilities, AreCleared, IsCleared}
use Rattle.tatp_history.proofs.OrderLaws.{all_map, in_all, apart_is}
use Rattle.tatp_history.proofs.PrefixLaws.{in_map, of_map}
use Rattle.tatp_history.proofs.ClearedLaws.{answer_with, cleared_answer, cleared_after}

-- ---- lists of calls, each changed
pub all_mapped : {X Y : Type 0} (f : X → Y) (P : Y → Type 0) (xs : List X) → AllByRecursion (λ x. P (f x)) xs → AllByRecursion P (map f xs)
all_mapped f P [] h = tt
all_mapped f P (x ∷ xs) h = (h.0, all_mapped f P xs h.1)

pub mapped_all : {X Y : Type 0} (f : X → Y) (P : Y → Type 0) (xs : List X) → AllByRecursion P (map f xs) → AllByRecursion (λ x. P (f x)) xs
mapped_all f P [] h = tt
mapped_all f P (x ∷ xs) h = (h.0, mapped_all f P xs h.1)

-- what they come from
unmapped : (f : Observed → Observed) (xs ys : List Observed) → AllByRecursion (λ y. IsIn y (map f xs)) ys → (zs : List Observed) × (ys ≡ map f zs) × AllByRecursion (λ z. IsIn z xs) zs
unmapped f xs [] h = ([], refl, tt)
unmapped f xs (y ∷ ys) h =
    let first = of_map f y xs h.0 in
    let rest = unmapped f xs ys h.1 in
    (first.0 ∷ rest.0, (λ i. first.2 i ∷ rest.1 i), (first.1, rest.2))

-- a call was answered so, and then the cleared calls
abbrev AnsweredOn : Tuples → Observed → List Observed → Answer → Type 0
AnsweredOn others z zs a = MayHaveReply z.outcome a.reply × AreAnsweredInOrder a.database (cleared_calls others zs)

module _ (others : Tuples) where
  -- ---- times
  pub apart_cleared : (xs : List Observed) → AreAskedApart xs → AreAskedApart (cleared_calls others xs)
  apart_cleared [] h = tt
  apart_cleared (x ∷ xs) h = (all_mapped (cleared others) (λ (y : Observed). x.asked ≡ y.asked → ⊥) xs h.0, apart_cleared xs h.1)

  apart_back : (xs : List Observed) → AreAskedApart (cleared_calls others xs) → AreAskedApart xs
  apart_back [] h = tt
  apart_back (x ∷ xs) h = (mapped_all (cleared others) (λ (y : Observed). x.asked ≡ y.asked → ⊥) xs h.0, apart_back xs h.1)

  real_time_cleared : (xs : List Observed) → KeepsRealTime xs → KeepsRealTime (cleared_calls others xs)
  real_time_cleared [] h = tt
  real_time_cleared (x ∷ xs) h = (all_mapped (cleared others) (λ (y : Observed). Precedes y x → ⊥) xs h.0, real_time_cleared xs h.1)

  real_time_back : (xs : List Observed) → KeepsRealTime (cleared_calls others xs) → KeepsRealTime xs
  real_time_back [] h = tt
  real_time_back (x ∷ xs) h = (mapped_all (cleared others) (λ (y : Observed). Precedes y x → ⊥) xs h.0, real_time_back xs h.1)

  -- ---- replies
  pub answered_cleared : (order : List Observed) (u : Database) → AreCleared u.facilities others → AreAnsweredInOrder u order → AreAnsweredInOrder (with_facilities u others) (cleared_calls others order)
  answered_cleared [] u c h = tt
  answered_cleared (z ∷ zs) u c h = subst (AnsweredOn others z zs) (sym (cleared_answer z.call u others c)) (h.0, answered_cleared zs (transaction z.call u).database (cleared_after z.call u others c) h.1)

  pub answered_back : (order : List Observed) (u : Database) → AreCleared u.facilities others → AreAnsweredInOrder (with_facilities u others) (cleared_calls others order) → AreAnsweredInOrder u order
  answered_back [] u c h = tt
  answered_back (z ∷ zs) u c h =
      let k : AnsweredOn others z zs (answer_with others (transaction z.call u)) = subst (AnsweredOn others z zs) (cleared_answer z.call u others c) h in
      (k.0, answered_back zs (transaction z.call u).database (cleared_after z.call u others c) k.1)

  -- ---- orders
  order_cleared : (u : Database) (calls order : List Observed) → AreCleared u.facilities others → IsSerialOrder u calls order → IsSerialOrder (with_facilities u others) (cleared_calls others calls) (cleared_calls others order)
  order_cleared u calls order c is = record {
    made = all_mapped (cleared others) (λ x. IsIn x (cleared_calls others calls)) order
        (all_map (λ x. IsIn x calls) (λ x. IsIn (cleared others x) (cleared_calls others calls)) (λ x h. in_map (cleared others) x calls h) order is.made);
    once = apart_cleared order is.once;
    all = λ x there answered.
        let found = of_map (cleared others) x calls there in
        subst (λ z. IsIn z (cleared_calls others order)) (sym found.2)
        (in_map (cleared others) found.0 order (is.all found.0 found.1 (subst (λ (z : Observed). IsAnswered z.outcome) found.2 answered)));
    real_time = real_time_cleared order is.real_time;
    replies = answered_cleared order u c is.replies;
  }

  order_back : (u : Database) (calls order : List Observed) → AreCleared u.facilities others → AreAskedApart calls → AllByRecursion (λ z. IsIn z calls) order
      → IsSerialOrder (with_facilities u others) (cleared_calls others calls) (cleared_calls others order) → IsSerialOrder u calls order
  order_back u calls order c apart made is = record {
    made = made;
    once = apart_back order is.once;
    all = λ x there answered.
        let found = of_map (cleared others) (cleared others x) order (is.all (cleared others x) (in_map (cleared others) x calls there) answered) in
        let same : x ≡ found.0 = apart_is calls x found.0 apart there (in_all (λ z. IsIn z calls) found.0 order made found.1) (ap (λ (z : Observed). z.asked) found.2) in
        subst (λ z. IsIn z order) (sym same) found.1;
    real_time = real_time_back order is.real_time;
    replies = answered_back order u c is.replies;
  }

pub serializable_cleared : (u v : Database) (calls : List Observed) → IsCleared u v → AreAskedApart calls → IsStrictlySerializable v (cleared_calls v.facilities calls) ↔ IsStrictlySerializable u calls
serializable_cleared u v calls is apart =
    let others : Tuples = v.facilities in (
      λ h.
          let k : IsStrictlySerializable (with_facilities u others) (cleared_calls others calls) = subst (λ w. IsStrictlySerializable w (cleared_calls others calls)) is.rows h in
          let from = unmapped (cleared others) calls k.0 k.1.made in
          (from.0, order_back others u calls from.0 is.facilities apart from.2 (subst (λ order. IsSerialOrder (with_facilities u others) (cleared_calls others calls) order) from.1 k.1)),
      λ h. subst (λ w. IsStrictlySerializable w (cleared_calls others calls)) (sym is.rows) (cleared_calls others h.0, order_cleared others u calls h.0 is.facilities h.1),
    )
