-- The loop through the windows for the first illegal line.
use Rattle.std.proofs.Common.{◌≡◌, ℕ, suc, ◌+◌, ◌≤◌, ◌⊎◌, ◌∙◌, sym, ap, subst, Bool, true, false, List, [], ◌∷◌, ◌++◌, length, slice_get, refl, arith, Option, Some, None, IsTrue, inl, inr}
use Rattle.std.proofs.lemmas.Bool.{false≢true}
use Rattle.std.proofs.lemmas.Option.{none-some}
use Rattle.tatp_tables.specs.Database.{Database}
use Rattle.tatp_history.specs.declared.line.Line.{Line}
use Rattle.tatp_history.specs.SubscriberEvents.{no_calls, opened_after}
use Rattle.tatp_linearization.specs.declared.first.First.TheVariants.{At}
use Rattle.tatp_judge.specs.declared.judge.Judge.{Judge}
use Rattle.tatp_judge.specs.declared.window.Window.{Window}
use Rattle.tatp_judge.specs.Aside.{IsReleased, SetsAside}
use Rattle.tatp_judge.specs.Followed.{IsSearchable}
use Rattle.tatp_judge.specs.Searching.{IsSearchedFor, ReleasesSome}
use Rattle.tatp_judge.specs.Steps.{AreEach}
use Rattle.tatp_judge.specs.Verdicts.{IsAside, IsUnexplained, NeedMoreBy}
use Rattle.tatp_judge.specs.Windows.{AreCounted, IsKept, IsFirstOf, IsSpent, IsWindowAfter}
use Rattle.tatp_judge.proofs.AsideLaws.{kept_counted, kept_few, kept_open, not_aside, one_more_aside, place_within}
use Rattle.tatp_judge.proofs.ClosingLaws.{all_explained}
use Rattle.tatp_judge.proofs.FollowedLaws.{setting_exact, still_exact, still_read}
use Rattle.tatp_judge.proofs.PlaceLaws.{each_same}
use Rattle.tatp_judge.proofs.SearchLaws.{IsLeast, least_known, least_moved, least_unknown}

-- ---- one window
pub spent_here : (u : Database) (most s : ℕ) (lines : List Line) (known : Bool) (w : Window) (number : ℕ) → IsSearchedFor u most s lines known w → known ≡ true → w.events.items ≡ [] → number ≡ length lines → IsFirstOf u most s lines (At number)
spent_here u most s lines known w number is e none now = subst (λ n. IsFirstOf u most s lines (At n)) (sym now) (
  is.some e,
  omega arith,
  elim is.window [
    | inl window ↦ absurd (is.unexplained e (all_explained u most s lines w window none (length lines) (omega arith) (omega arith)))
    | inr spent ↦ spent.1.before
  ],
  is.unexplained e,
)

pub searched_window : (u : Database) (most s : ℕ) (lines : List Line) (known : Bool) (w : Window) → IsSearchedFor u most s lines known w → (known ≡ true → w.events.items ≡ [] → ⊥) → IsWindowAfter u most s lines w
searched_window u most s lines known w is some = elim is.window [ inl window ↦ window | inr spent ↦ absurd (some spent.0 spent.1.none) ]

-- that at a place
pub searched_for : (u : Database) (most : ℕ) (lines : List Line) (illegal : Bool) (s_id : Option ℕ) (known : Bool) (judge : Judge) (place : ℕ) (w : Window) → IsSearchable u most lines illegal s_id judge → slice_get judge.windows.items place ≡ Some w → w.aside ≡ false
    → (known ≡ true → (illegal ≡ true) × (s_id ≡ Some (suc place))) → (illegal ≡ true → s_id ≡ Some (suc place) → known ≡ true) → IsSearchedFor u most (suc place) lines known w
searched_for u most lines illegal s_id known judge place w is at unmarked parts both = record {
  window = elim (is.windows_are place w at) [
    | inl kept ↦ inl (kept_open u most (suc place) lines w kept unmarked)
    | inr spent ↦ inr (both spent.0 spent.1, spent.3)
  ];
  some = λ e. is.some (parts e).0;
  unexplained = λ e. subst (λ o. IsUnexplained u lines (length lines) o) (parts e).1 (is.whose (parts e).0);
}

-- ---- windows that are released
pub releases_none : (judge : Judge) → ReleasesSome judge judge
releases_none judge = record { directory_is = refl; asked_is = refl; number_is = refl; exact_is = refl; windows_are = each_same (λ place w after. (after ≡ w) ⊎ IsReleased w after) judge.windows.items (λ place w. inl refl) }

pub releases_more : (s_id : ℕ) (old mid new : Judge) → ReleasesSome old mid → new.directory ≡ mid.directory → new.asked ≡ mid.asked → new.number ≡ mid.number → new.exact ≡ mid.exact → AreEach (SetsAside s_id) mid.windows.items new.windows.items → ReleasesSome old new
releases_more s_id old mid new is directory asked number exact sets = record {
  directory_is = directory ∙ is.directory_is;
  asked_is = asked ∙ is.asked_is;
  number_is = number ∙ is.number_is;
  exact_is = exact ∙ is.exact_is;
  windows_are = record {
    count = sets.count ∙ is.windows_are.count;
    each = λ place w h.
        let later = sets.each place w h in
        let found = is.windows_are.each place later.0 later.1 in
        (found.0, found.1, both found.0 later.0 w found.2 later.2);
  };
}
  where
    both : {place : ℕ} (was between now : Window) → (between ≡ was) ⊎ IsReleased was between → SetsAside s_id place between now → (now ≡ was) ⊎ IsReleased was now
    both was between now first then = elim then [
      | inl k ↦ inr (record { aside_is = k.1.aside_is; waiting_is = k.1.waiting_is ∙ elim first [ inl same ↦ ap (λ (v : Window). v.waiting) same | inr r ↦ r.waiting_is ] })
      | inr k ↦ elim first [ inl same ↦ inl (k.1 ∙ same) | inr r ↦ inr (subst (IsReleased was) (sym k.1) r) ]
    ]

pub searchable_more : (u : Database) (most : ℕ) (lines : List Line) (illegal : Bool) (named : Option ℕ) (place s_id : ℕ) (mid new : Judge) (v : Window) → IsSearchable u most lines illegal named mid → s_id ≡ suc place → slice_get mid.windows.items place ≡ Some v → v.aside ≡ false
    → NeedMoreBy u most lines (length lines) (suc place) → new.directory ≡ mid.directory → new.number ≡ mid.number → new.exact ≡ mid.exact → new.undecided.items ≡ mid.undecided.items ++ record { line = mid.number; s_id = s_id } ∷ [] → AreEach (SetsAside s_id) mid.windows.items new.windows.items → IsSearchable u most lines illegal named new
searchable_more u most lines illegal named place s_id mid new v is same at unmarked many directory number exact undecided sets = record {
  read = still_read u lines mid new is.read directory sets.count number (still_exact (SetsAside s_id) mid new exact sets (setting_exact s_id) is.read.exact_are);
  windows_are = λ p w h.
      let later = sets.each p w h in
      let was = is.windows_are p later.0 later.1 in
      elim later.2 [
        | inl k ↦ inl (inr (record {
          aside = k.1.aside_is;
          counted = subst (AreCounted (opened_after u (suc p) 1 no_calls lines)) (sym k.1.waiting_is) (elim was [ inl kept ↦ kept_counted u most (suc p) lines later.0 kept | inr spent ↦ spent.3.counted ]);
          few = subst (λ n. n ≤ length lines) (sym k.1.waiting_is) (elim was [ inl kept ↦ kept_few u most (suc p) lines later.0 kept | inr spent ↦ spent.3.few ]);
        }))
        | inr k ↦ subst (λ (x : Window). IsKept u most (suc p) lines x ⊎ (IsTrue illegal × (named ≡ Some (suc p)) × (x.aside ≡ false) × IsSpent u (suc p) lines x)) (sym k.1) was
      ];
  aside = one_more_aside u most lines mid new (record { line = mid.number; s_id = s_id }) is.aside undecided sets is.read.number_is
      (subst (NeedMoreBy u most lines (length lines)) (sym same) many) (λ own. not_aside u most lines mid place v is.aside at unmarked (subst (IsAside mid.undecided.items) same own)) (omega (arith, same)) (let lt = place_within mid.windows.items place v at in omega (arith, same, lt));
  none = is.none;
  some = is.some;
  whose = is.whose;
}

-- ---- so far
pub record SearchedSoFar (u : Database) (most : ℕ) (lines : List Line) (illegal : Bool) (s_id : Option ℕ) (judge : Judge) (i least : ℕ) (whose : Option ℕ) : Type 0 where
  pub searchable : IsSearchable u most lines illegal s_id judge
  pub least_is : IsLeast u lines judge.undecided.items i least whose

pub least_starts : (u : Database) (most : ℕ) (lines : List Line) (illegal : Bool) (s_id : Option ℕ) (judge : Judge) (least : ℕ) → IsSearchable u most lines illegal s_id judge → (illegal ≡ true → s_id ≡ None → least ≡ judge.number) → ((illegal ≡ true → s_id ≡ None → ⊥) → least ≡ judge.number + 1)
    → IsLeast u lines judge.undecided.items 0 least None
least_starts u most lines true None judge least is last next = least_moved (last refl refl) refl (least_known u most lines true None judge judge.undecided.items is refl refl)
least_starts u most lines true (Some s) judge least is last next =
    let other : true ≡ true → Some s ≡ None → ⊥ = λ _ e. none-some s (sym e) in
    least_moved (next other) refl (least_unknown u most lines true (Some s) judge judge.undecided.items is other)
least_starts u most lines false s_id judge least is last next =
    let other : false ≡ true → s_id ≡ None → ⊥ = λ e _. false≢true e in
    least_moved (next other) refl (least_unknown u most lines false s_id judge judge.undecided.items is other)
