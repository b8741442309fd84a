-- Windows by place.
use Rattle.std.proofs.Common.{◌≡◌, ◌≢◌, ℕ, Bool, zero, suc, ◌+◌, ◌<◌, ◌⊎◌, ◌∙◌, sym, ap, subst, false, List, [], ◌∷◌, ◌++◌, length, set, get_or, slice_get, refl, arith, Some, inl, inr}
use Rattle.std.proofs.lemmas.List.{length-append, length-set}
use Rattle.std.proofs.lemmas.Option.{none-some, same_Some}
use Rattle.tatp_tables.specs.Database.{Database, of_subscriber}
use Rattle.tatp_homes.specs.Home.{SubscriberRows}
use Rattle.std.specs.List.{AllByRecursion}
use Rattle.tatp_history.specs.Events.{AreAfter}
use Rattle.tatp_linearization.specs.Held.{IsAcceptedEvent}
use Rattle.tatp_history.proofs.SubscriberEventLaws.{same_or_not}
use Rattle.tatp_linearization.specs.Reached.{AreOfSubscriber, AreReached}
use Rattle.tatp_judge.specs.declared.window.Window.{Window}
use Rattle.tatp_judge.specs.Searched.{AreHomesOf}
use Rattle.tatp_judge.specs.Steps.{AreEach}
use Rattle.tatp_judge.specs.Windows.{IsForgotten, IsWindowAfter}
use Rattle.tatp_judge.proofs.NumberLaws.{kept_new}
use Rattle.tatp_judge.proofs.SearchLaws.{home_at, home_own}

-- ---- one of several
pub found_at : {X : Type 0} (xs : List X) (k : ℕ) (x : X) → k < length xs → x ≡ get_or xs k x → slice_get xs k ≡ Some x
found_at [] k x lt at = absurd (omega (arith, lt))
found_at (y ∷ ys) zero x lt at = ap Some (sym at)
found_at (y ∷ ys) (suc k) x lt at = found_at ys k x (omega (arith, lt)) at

-- the same is found again
pub same_at : {X : Type 0} (xs : List X) (k : ℕ) (x y : X) → k < length xs → x ≡ get_or xs k x → y ≡ get_or xs k y → x ≡ y
same_at xs k x y lt at there = same_Some x y (sym (found_at xs k x lt at) ∙ found_at xs k y lt there)

pub got : {X : Type 0} (xs : List X) (k : ℕ) → k < length xs → (x : X) × (slice_get xs k ≡ Some x)
got [] k lt = absurd (omega (arith, lt))
got (x ∷ xs) zero lt = (x, refl)
got (x ∷ xs) (suc k) lt = got xs k (omega (arith, lt))

got_same : {X : Type 0} (xs : List X) (k : ℕ) (x y : X) → slice_get (set xs k y) k ≡ Some x → x ≡ y
got_same [] k x y h = absurd (none-some x h)
got_same (z ∷ zs) zero x y h = sym (same_Some y x h)
got_same (z ∷ zs) (suc k) x y h = got_same zs k x y h

pub got_other : {X : Type 0} (xs : List X) (k j : ℕ) (y : X) → j ≢ k → slice_get (set xs k y) j ≡ slice_get xs j
got_other [] k j y n = refl
got_other (z ∷ zs) zero zero y n = absurd (n refl)
got_other (z ∷ zs) zero (suc j) y n = refl
got_other (z ∷ zs) (suc k) zero y n = refl
got_other (z ∷ zs) (suc k) (suc j) y n = got_other zs k j y (λ e. n (ap suc e))

pub each_same : (Stands : ℕ → Window → Window → Type 0) (ws : List Window) → ((place : ℕ) (w : Window) → Stands place w w) → AreEach Stands ws ws
each_same Stands ws same = record { count = refl; each = λ place w h. (w, h, same place w) }

-- one was replaced
pub each_set : (Stands : ℕ → Window → Window → Type 0) (ws : List Window) (k : ℕ) (old new : Window) → k < length ws → old ≡ get_or ws k old → Stands k old new → ((place : ℕ) (w : Window) → place ≢ k → Stands place w w) → AreEach Stands ws (set ws k new)
each_set Stands ws k old new lt at stands others = record {
  count = length-set ws k new;
  each = λ place w h. elim (same_or_not place k) [
    | inl e ↦ (
      old,
      ap (slice_get ws) e ∙ found_at ws k old lt at,
      subst (λ p. Stands p old w) (sym e)
          (subst (Stands k old) (sym (got_same ws k w new (subst (λ p. slice_get (set ws k new) p ≡ Some w) e h))) stands),
    )
    | inr n ↦ (w, sym (got_other ws k place new n) ∙ h, others place w n)
  ];
}

-- ---- before any line
pub window_new : (u : Database) (most s : ℕ) (w : Window) (rows : Database) → rows ≡ of_subscriber u s → AreReached rows [] w.explanations → AreOfSubscriber s w.explanations → w.explanations.most ≡ most → w.from ≡ 0 → w.events.items ≡ [] → w.numbers.items ≡ [] → w.waiting ≡ 0 → IsWindowAfter u most s [] w
window_new u most s w rows is reached own most_is from_is events_are numbers_are waiting_is = record {
  before = [];
  all = sym events_are;
  accepted = subst (AllByRecursion IsAcceptedEvent) (sym events_are) tt;
  reached = subst (λ v. AreReached v [] w.explanations) is reached;
  own = own;
  most_is = most_is;
  ends = tt;
  past = refl;
  after = subst (AreAfter w.from) (sym events_are) tt;
  from_within = omega (arith, from_is);
  since = λ client asked h. absurd (none-some asked h);
  counted = record { clients = []; count = sym waiting_is; once = tt; all = λ client. inl refl; still = λ client k. absurd k };
  few = omega (arith, waiting_is);
  numbers = kept_new u s w from_is numbers_are;
}

-- those of the first homes
pub record AreWindowsTo (most : ℕ) (exact : Bool) (homes : List SubscriberRows) (i : ℕ) (ws : List Window) : Type 0 where
  pub count : length ws ≡ i
  pub none : (place : ℕ) (w : Window) → slice_get ws place ≡ Some w → IsForgotten w
  pub unmarked : (place : ℕ) (w : Window) → slice_get ws place ≡ Some w → w.aside ≡ false
  pub exact_are : (place : ℕ) (w : Window) → slice_get ws place ≡ Some w → w.explanations.exact ≡ exact
  pub each : (u : Database) → AreHomesOf u homes → (place : ℕ) (w : Window) → slice_get ws place ≡ Some w → IsWindowAfter u most (suc place) [] w

last_or_before : (ws : List Window) (new : Window) (place : ℕ) (w : Window) → slice_get (ws ++ new ∷ []) place ≡ Some w → (slice_get ws place ≡ Some w) ⊎ ((place ≡ length ws) × (w ≡ new))
last_or_before [] new zero w h = inr (refl, sym (same_Some new w h))
last_or_before [] new (suc place) w h = absurd (none-some w h)
last_or_before (x ∷ ws) new zero w h = inl h
last_or_before (x ∷ ws) new (suc place) w h = elim (last_or_before ws new place w h) [ inl k ↦ inl k | inr k ↦ inr (ap suc k.0, k.1) ]

pub none_yet : (most : ℕ) (exact : Bool) (homes : List SubscriberRows) (ws : List Window) → ws ≡ [] → AreWindowsTo most exact homes 0 ws
none_yet most exact homes ws none = record {
  count = ap length none;
  none = λ place w h. absurd (none-some w (ap (λ xs. slice_get xs place) (sym none) ∙ h));
  unmarked = λ place w h. absurd (none-some w (ap (λ xs. slice_get xs place) (sym none) ∙ h));
  exact_are = λ place w h. absurd (none-some w (ap (λ xs. slice_get xs place) (sym none) ∙ h));
  each = λ u are place w h. absurd (none-some w (ap (λ xs. slice_get xs place) (sym none) ∙ h));
}

pub one_window_more : (most : ℕ) (exact : Bool) (homes : List SubscriberRows) (i : ℕ) (ws longer : List Window) (home : SubscriberRows) (new : Window) → AreWindowsTo most exact homes i ws → i < length homes → home ≡ get_or homes i home → longer ≡ ws ++ new ∷ []
    → AreReached home.tables [] new.explanations → AreOfSubscriber home.s_id new.explanations → new.explanations.most ≡ most → new.explanations.exact ≡ exact → new.from ≡ 0 → new.events.items ≡ [] → new.numbers.items ≡ [] → new.waiting ≡ 0 → new.aside ≡ false → AreWindowsTo most exact homes (i + 1) longer
one_window_more most exact homes i ws longer home new are lt at is reached own most_is exact_is from_is events_are numbers_are waiting_is unmarked = record {
  count = ap length is ∙ (length-append ws (new ∷ []) ∙ omega (arith, are.count));
  none = λ place w h. elim (last_or_before ws new place w (ap (λ xs. slice_get xs place) (sym is) ∙ h)) [
    | inl k ↦ are.none place w k
    | inr k ↦ subst IsForgotten (sym k.1) (record { events = events_are; numbers = numbers_are })
  ];
  unmarked = λ place w h. elim (last_or_before ws new place w (ap (λ xs. slice_get xs place) (sym is) ∙ h)) [
    | inl k ↦ are.unmarked place w k
    | inr k ↦ ap (λ (v : Window). v.aside) k.1 ∙ unmarked
  ];
  exact_are = λ place w h. elim (last_or_before ws new place w (ap (λ xs. slice_get xs place) (sym is) ∙ h)) [
    | inl k ↦ are.exact_are place w k
    | inr k ↦ ap (λ (v : Window). v.explanations.exact) k.1 ∙ exact_is
  ];
  each = λ u homes_are place w h. elim (last_or_before ws new place w (ap (λ xs. slice_get xs place) (sym is) ∙ h)) [
    | inl k ↦ are.each u homes_are place w k
    | inr k ↦
        let here : place ≡ i = k.0 ∙ are.count in
        let there = found_at homes i home lt at in
        let rows = home_at u homes i home homes_are there in
        let s_id = home_own u homes i home homes_are there ∙ ap suc (sym here) in
        subst (IsWindowAfter u most (suc place) []) (sym k.1)
        (window_new u most (suc place) new home.tables (rows ∙ ap (λ p. of_subscriber u (suc p)) (sym here)) reached (subst (λ s. AreOfSubscriber s new.explanations) s_id own) most_is from_is events_are numbers_are waiting_is)
  ];
}
