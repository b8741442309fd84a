-- What the judge keeps, once a line was noted.
use Rattle.std.proofs.Common.{◌≡◌, ℕ, suc, ◌-◌, ◌<◌, ◌≤◌, ◌∙◌, sym, ap, subst, List, [], ◌∷◌, ◌++◌, length, take, drop, slice_get, nat_eq, refl, arith, Option, Some, None, true, false, inl, inr}
use Rattle.std.proofs.lemmas.Bool.{false≢true}
use Rattle.std.proofs.lemmas.Option.{none-some, same_Some}
use Rattle.std.proofs.lemmas.List.{take_all}
use Rattle.indexmap.specs.IndexMap.{get}
use Rattle.tatp_tables.specs.Database.{Database, of_subscriber}
use Rattle.tatp_numbers.specs.Listing.{Listing}
use Rattle.tatp_history.specs.declared.line.Line.{Line}
use Rattle.tatp_history.specs.declared.event.Event.{Event}
use Rattle.tatp_history.specs.declared.observed.Outcome.{Outcome}
use Rattle.tatp_history.specs.Histories.{IsStrictlySerializable}
use Rattle.tatp_history.specs.HistoryLines.{calls_of}
use Rattle.tatp_history.specs.SubscriberEvents.{NothingIsOpen, no_calls, opened_after}
use Rattle.tatp_history.specs.Locality.{calls_on, FailsWithout, FailWithout}
use Rattle.tatp_linearization.specs.declared.explanations.Explanations.{Explanations}
use Rattle.tatp_linearization.specs.declared.explanations.Standing.{Standing}
use Rattle.tatp_linearization.specs.declared.explanations.Standing.TheVariants.{Explained, Unexplained, Undecided}
use Rattle.tatp_judge.specs.declared.asked.Asked.{Asked}
use Rattle.tatp_judge.specs.declared.judge.Judge.{Judge}
use Rattle.tatp_judge.specs.declared.window.Window.{Window}
use Rattle.tatp_judge.specs.Asked.{asked_in_all}
use Rattle.tatp_judge.specs.Aside.{AreSetAside, SetsAside}
use Rattle.tatp_judge.specs.Followed.{AreAllExact, Forgets, HasRead, HasNoted, HasFollowed, EndsAs, EndsOn, IsSearchable}
use Rattle.tatp_judge.specs.Population.{IsDirectoryOf}
use Rattle.tatp_judge.specs.Searching.{ReleasesSome}
use Rattle.tatp_judge.specs.Steps.{AreEach, ClosesAt, NotesLine}
use Rattle.tatp_judge.specs.Verdicts.{AreExplainedWhereClosed, IsAside, IsLegalBut, NeedMoreBy}
use Rattle.tatp_judge.specs.Windows.{AreCounted, IsForgotten, IsKept, IsWindowAfter, IsExplainedBy}
use Rattle.tatp_judge.proofs.AsideLaws.{kept_counted, kept_few, kept_open, not_aside, one_more_aside, still_aside}
use Rattle.tatp_judge.proofs.ClosingLaws.{all_explained}
use Rattle.tatp_judge.proofs.FirstLinesLaws.{explained_now, now_explained, parts, taken_less}
use Rattle.tatp_judge.proofs.NoneLaws.{first_fail}
use Rattle.tatp_judge.proofs.PlaceLaws.{got}
use Rattle.tatp_judge.proofs.SearchLaws.{none_explained, others_now, there_or_not}
use Rattle.tatp_judge.proofs.WindowLaws.{nothing_waits}

pub ends_on : (u : Database) (lines : List Line) (asked : Asked) (s_id : ℕ) (outcome : Outcome) → asked.s_id ≡ Some s_id → EndsAs u lines asked outcome → EndsOn u lines
ends_on u lines asked s_id outcome e ends = record { some = ends.some; none = ends.now.0 (subst (λ (o : Option ℕ). FailsWithout o outcome) (sym e) tt) }

fewer_none : (u : Database) (lines : List Line) (k : ℕ) → FailWithout u (calls_of lines) → FailWithout u (calls_of (take k lines))
fewer_none u lines k none = first_fail u (take k lines) (drop k lines) (subst (λ ls. FailWithout u (calls_of ls)) (sym (parts k lines)) none)

pub still_read : (u : Database) (lines : List Line) (old new : Judge) → HasRead u lines old → new.directory ≡ old.directory → length new.windows.items ≡ length old.windows.items → new.number ≡ old.number → AreAllExact new → HasRead u lines new
still_read u lines old new read directory count number exact = record {
  consistent = read.consistent;
  directory_is = subst (λ n. IsDirectoryOf u n new.directory) (sym count) (subst (λ (d : Listing). IsDirectoryOf u (length old.windows.items) d) (sym directory) read.directory_is);
  number_is = number ∙ read.number_is;
  accepted = read.accepted;
  room = read.room;
  exact_are = exact;
}

-- each window that isn't set aside was one that isn't, and is searched as before
pub still_exact : (Stands : ℕ → Window → Window → Type 0) (old new : Judge) → new.exact ≡ old.exact → AreEach Stands old.windows.items new.windows.items
    → ((place : ℕ) (w after : Window) → Stands place w after → after.aside ≡ false → (w.aside ≡ false) × (after.explanations.exact ≡ w.explanations.exact)) → AreAllExact old → AreAllExact new
still_exact Stands old new same each stands are place after at still =
    let found = each.each place after at in
    let was = stands place found.0 after found.2 still in
    was.1 ∙ (are place found.0 found.1 was.0 ∙ sym same)

pub closing_exact : (s_id number : ℕ) (standing : Standing) (place : ℕ) (w after : Window) → ClosesAt s_id number standing place w after → after.aside ≡ false → (w.aside ≡ false) × (after.explanations.exact ≡ w.explanations.exact)
closing_exact s_id number standing place w after h still = elim h [
  | inl k ↦ (sym k.1.aside_is ∙ still, k.1.exact_is)
  | inr k ↦ (ap (λ (v : Window). v.aside) (sym k.1) ∙ still, ap (λ (v : Window). v.explanations.exact) k.1)
]

pub setting_exact : (s_id place : ℕ) (w after : Window) → SetsAside s_id place w after → after.aside ≡ false → (w.aside ≡ false) × (after.explanations.exact ≡ w.explanations.exact)
setting_exact s_id place w after h still = elim h [
  | inl k ↦ absurd (false≢true (sym still ∙ k.1.aside_is))
  | inr k ↦ (ap (λ (v : Window). v.aside) (sym k.1) ∙ still, ap (λ (v : Window). v.explanations.exact) k.1)
]

pub noting_exact : (one : Option ℕ) (asks : List Event) (number : ℕ) (line : Line) (w after : Window) → NotesLine one asks number line w after → after.aside ≡ false → (w.aside ≡ false) × (after.explanations.exact ≡ w.explanations.exact)
noting_exact one asks number line w after h still =
    let was = sym h.aside_is ∙ still in
    (was, ap (λ (e : Explanations). e.exact) (h.kept was).explanations_are)

-- a window that closes keeps its mark
closing_marks : (s_id number : ℕ) (standing : Standing) (place : ℕ) (w after : Window) → ClosesAt s_id number standing place w after → after.aside ≡ w.aside
closing_marks s_id number standing place w after h = elim h [ inl k ↦ k.1.aside_is | inr k ↦ ap (λ (v : Window). v.aside) k.1 ]

-- ---- a subscriber that is set aside
pub passed_over : (u : Database) (most : ℕ) (lines : List Line) (s_id : ℕ) (judge : Judge) → HasNoted u most lines judge → EndsOn u lines → Forgets judge (Some s_id) → ((w : Window) → slice_get judge.windows.items (s_id - 1) ≡ Some w → w.aside ≡ true) → HasFollowed u most lines judge
passed_over u most lines s_id judge noted ends forgets aside = record {
  noted = noted;
  forgets = λ place w h none unmarked. forgets place w h (λ e.
      let same : s_id ≡ suc place = same_Some s_id (suc place) e in
      let here : place ≡ s_id - 1 = omega (arith, same) in
      false≢true (sym unmarked ∙ aside w (ap (slice_get judge.windows.items) (sym here) ∙ h))) unmarked;
  none = ends.none;
}

-- ---- another
module _ (u : Database) (most : ℕ) (lines : List Line) (s_id : ℕ) (old : Judge) (noted : HasNoted u most lines old) (ends : EndsOn u lines) (first : 1 ≤ s_id) (unmarked : (w : Window) → slice_get old.windows.items (s_id - 1) ≡ Some w → w.aside ≡ false) where
  open_here : (place : ℕ) (w : Window) → suc place ≡ s_id → slice_get old.windows.items place ≡ Some w → w.aside ≡ false
  open_here place w same at = let here : s_id - 1 ≡ place = omega (arith, same) in unmarked w (ap (slice_get old.windows.items) here ∙ at)

  window_here : (place : ℕ) (w : Window) → suc place ≡ s_id → slice_get old.windows.items place ≡ Some w → IsWindowAfter u most (suc place) lines w
  window_here place w same at = kept_open u most (suc place) lines w (noted.windows_are place w at) (open_here place w same at)

  pub window_of : (w : Window) → slice_get old.windows.items (s_id - 1) ≡ Some w → IsWindowAfter u most s_id lines w
  window_of w at = let same : suc (s_id - 1) ≡ s_id = omega (arith, first) in subst (λ s. IsWindowAfter u most s lines w) same (window_here (s_id - 1) w same at)

  aside_then : (standing : Standing) (new : Judge) → new.undecided.items ≡ old.undecided.items → AreEach (ClosesAt s_id old.number standing) old.windows.items new.windows.items → AreSetAside u most lines new
  aside_then standing new same closes = still_aside u most lines lines old new (ClosesAt s_id old.number standing) noted.aside same closes (closing_marks s_id old.number standing) noted.aside.undecided

  exact_then : (standing : Standing) (new : Judge) → new.exact ≡ old.exact → AreEach (ClosesAt s_id old.number standing) old.windows.items new.windows.items → AreAllExact new
  exact_then standing new same closes = still_exact (ClosesAt s_id old.number standing) old new same closes (closing_exact s_id old.number standing) noted.read.exact_are

  pub goes_on : (new : Judge) → new.directory ≡ old.directory → new.number ≡ old.number → new.exact ≡ old.exact → new.asked ≡ old.asked → new.undecided.items ≡ old.undecided.items → Forgets old (Some s_id) → AreEach (ClosesAt s_id old.number Explained) old.windows.items new.windows.items → HasFollowed u most lines new
  goes_on new directory number exact asked_same same forgets closes = record {
    noted = record {
      read = still_read u lines old new noted.read directory closes.count number (exact_then Explained new exact closes);
      asked_are = subst (λ m. (client : ℕ) → get nat_eq m client ≡ asked_in_all u lines client) (sym asked_same) noted.asked_are;
      windows_are = λ place w h.
          let found = closes.each place w h in
          elim found.2 [
            | inl k ↦ inl (k.1.aside_is ∙ open_here place found.0 k.0 found.1, (k.1.closes u most (suc place) lines (window_here place found.0 k.0 found.1) noted.read.number_is).0)
            | inr k ↦ subst (IsKept u most (suc place) lines) (sym k.1) (noted.windows_are place found.0 found.1)
          ];
      aside = aside_then Explained new same closes;
    };
    forgets = λ place w h none still.
        let found = closes.each place w h in
        elim found.2 [
          | inl k ↦ (k.1.closes u most (suc place) lines (window_here place found.0 k.0 found.1) noted.read.number_is).1
          | inr k ↦ λ z. subst IsForgotten (sym k.1)
              (forgets place found.0 found.1 (λ named. k.0 (sym (same_Some s_id (suc place) named))) (ap (λ (v : Window). v.aside) (sym k.1) ∙ still) (ap (λ (v : Window). v.waiting) (sym k.1) ∙ z))
        ];
    none = ends.none;
  }

  -- where its window is unexplained
  pub unexplained : (new : Judge) → new.directory ≡ old.directory → new.number ≡ old.number → new.exact ≡ old.exact → new.undecided.items ≡ old.undecided.items → s_id ≤ length old.windows.items → AreEach (ClosesAt s_id old.number Unexplained) old.windows.items new.windows.items → IsSearchable u most lines true (Some s_id) new
  unexplained new directory number exact same last closes = record {
    read = still_read u lines old new noted.read directory closes.count number (exact_then Unexplained new exact closes);
    windows_are = λ place w h.
        let found = closes.each place w h in
        elim found.2 [
          | inl k ↦
              let still = k.1.aside_is ∙ open_here place found.0 k.0 found.1 in
              elim (k.1.closes u most (suc place) lines (window_here place found.0 k.0 found.1) noted.read.number_is).1 [
                | inl stays ↦ inl (inl (still, stays))
                | inr spent ↦ inr (refl, ap Some (sym k.0), still, spent)
              ]
          | inr k ↦ inl (subst (IsKept u most (suc place) lines) (sym k.1) (noted.windows_are place found.0 found.1))
        ];
    aside = aside_then Unexplained new same closes;
    none = λ k le lt. fewer_none u lines k ends.none;
    some = λ _. ends.some;
    whose = λ _. none_explains;
  }
    where
      none_explains : IsExplainedBy u s_id lines (length lines) → ⊥
      none_explains h =
          let there : s_id - 1 < length new.windows.items = omega (arith, first, last, closes.count) in
          let w = got new.windows.items (s_id - 1) there in
          let found = closes.each (s_id - 1) w.0 w.1 in
          let same : s_id ≡ suc (s_id - 1) = omega (arith, first) in
          elim found.2 [
            | inl k ↦ (k.1.closes u most (suc (s_id - 1)) lines (window_here (s_id - 1) found.0 k.0 found.1) noted.read.number_is).0 (subst (λ s. IsExplainedBy u s lines (length lines)) same h)
            | inr k ↦ k.0 (omega (arith, first))
          ]

  -- and then was set aside, and of the others no order is missing
  pub searched_on : (mid new : Judge) → mid.asked ≡ old.asked → Forgets old (Some s_id) → AreEach (ClosesAt s_id old.number Unexplained) old.windows.items mid.windows.items → ReleasesSome mid new → IsSearchable u most lines true (Some s_id) new → IsLegalBut u new.undecided.items lines → HasFollowed u most lines new
  searched_on mid new asked forgets closes releases is legal = record {
    noted = record {
      read = is.read;
      asked_are = subst (λ m. (client : ℕ) → get nat_eq m client ≡ asked_in_all u lines client) (sym (releases.asked_is ∙ asked)) noted.asked_are;
      windows_are = λ place w h. elim (is.windows_are place w h) [
        | inl kept ↦ kept
        | inr k ↦ absurd (gone place w (sym (same_Some s_id (suc place) k.1)) h k.2)
      ];
      aside = is.aside;
    };
    forgets = λ place w h none still z.
        let later = releases.windows_are.each place w h in
        elim later.2 [
          | inr k ↦ absurd (false≢true (sym still ∙ k.aside_is))
          | inl same ↦
              let found = closes.each place later.0 later.1 in
              elim found.2 [
                | inl k ↦ absurd (gone place w k.0 h still)
                | inr k ↦
                    let was = same ∙ k.1 in
                    subst IsForgotten (sym was) (forgets place found.0 found.1 (λ named. k.0 (sym (same_Some s_id (suc place) named))) (ap (λ (v : Window). v.aside) (sym was) ∙ still) (ap (λ (v : Window). v.waiting) (sym was) ∙ z))
              ]
        ];
    none = ends.none;
  }
    where
      gone : (place : ℕ) (w : Window) → suc place ≡ s_id → slice_get new.windows.items place ≡ Some w → w.aside ≡ false → ⊥
      gone place w same h still = is.whose refl (now_explained u s_id lines
          ((others_now u lines new new.undecided.items is.read legal).each s_id (λ own. not_aside u most lines new place w is.aside h still (subst (IsAside new.undecided.items) (sym same) own))))

  -- where too many configurations are possible
  pub too_many : (mid : List Window) → s_id ≤ length old.windows.items → AreEach (ClosesAt s_id old.number Undecided) old.windows.items mid → NeedMoreBy u most lines (length lines) s_id
  too_many mid last closes =
      let there : s_id - 1 < length mid = omega (arith, first, last, closes.count) in
      let w = got mid (s_id - 1) there in
      let found = closes.each (s_id - 1) w.0 w.1 in
      let same : suc (s_id - 1) ≡ s_id = omega (arith, first) in
      elim found.2 [
        | inl k ↦ subst (NeedMoreBy u most lines (length lines)) same (k.1.closes u most (suc (s_id - 1)) lines (window_here (s_id - 1) found.0 k.0 found.1) noted.read.number_is)
        | inr k ↦ absurd (k.0 same)
      ]

  pub goes_on_without : (mid new : Judge) → s_id ≤ length old.windows.items → Forgets old (Some s_id) → mid.directory ≡ old.directory → mid.number ≡ old.number → mid.exact ≡ old.exact → mid.asked ≡ old.asked → mid.undecided.items ≡ old.undecided.items → AreEach (ClosesAt s_id old.number Undecided) old.windows.items mid.windows.items
      → new.directory ≡ mid.directory → new.number ≡ mid.number → new.exact ≡ mid.exact → new.asked ≡ mid.asked → new.undecided.items ≡ mid.undecided.items ++ record { line = mid.number; s_id = s_id } ∷ [] → AreEach (SetsAside s_id) mid.windows.items new.windows.items → HasFollowed u most lines new
  goes_on_without mid new last forgets mid_directory mid_number mid_exact mid_asked mid_undecided closes directory number exact asked undecided sets = record {
    noted = record {
      read = still_read u lines old new noted.read (directory ∙ mid_directory) (sets.count ∙ closes.count) (number ∙ mid_number)
          (still_exact (SetsAside s_id) mid new exact sets (setting_exact s_id) (exact_then Undecided mid mid_exact closes));
      asked_are = subst (λ m. (client : ℕ) → get nat_eq m client ≡ asked_in_all u lines client) (sym (asked ∙ mid_asked)) noted.asked_are;
      windows_are = λ place w h.
          let later = sets.each place w h in
          let found = closes.each place later.0 later.1 in
          let was = noted.windows_are place found.0 found.1 in
          elim later.2 [
            | inl k ↦
                let waiting : w.waiting ≡ found.0.waiting = k.1.waiting_is ∙ closing_waits place found.0 later.0 found.2 in
                inr (record {
                  aside = k.1.aside_is;
                  counted = subst (AreCounted (opened_after u (suc place) 1 no_calls lines)) (sym waiting) (kept_counted u most (suc place) lines found.0 was);
                  few = let few = kept_few u most (suc place) lines found.0 was in omega (arith, waiting, few);
                })
            | inr k ↦ elim found.2 [
              | inl c ↦ absurd (k.0 c.0)
              | inr c ↦ subst (IsKept u most (suc place) lines) (sym (k.1 ∙ c.1)) was
            ]
          ];
      aside = one_more_aside u most lines mid new (record { line = mid.number; s_id = s_id }) mid_aside undecided sets (mid_number ∙ noted.read.number_is) (too_many mid.windows.items last closes) fresh first (omega (arith, last, closes.count));
    };
    forgets = λ place w h none still z.
        let later = sets.each place w h in
        let found = closes.each place later.0 later.1 in
        elim later.2 [
          | inl k ↦ absurd (false≢true (sym still ∙ k.1.aside_is))
          | inr k ↦ elim found.2 [
            | inl c ↦ absurd (k.0 c.0)
            | inr c ↦
                let was = k.1 ∙ c.1 in
                subst IsForgotten (sym was) (forgets place found.0 found.1 (λ named. c.0 (sym (same_Some s_id (suc place) named))) (ap (λ (v : Window). v.aside) (sym was) ∙ still) (ap (λ (v : Window). v.waiting) (sym was) ∙ z))
          ]
        ];
    none = ends.none;
  }
    where
      closing_waits : (place : ℕ) (w after : Window) → ClosesAt s_id old.number Undecided place w after → after.waiting ≡ w.waiting
      closing_waits place w after h = elim h [ inl k ↦ k.1.waiting_is | inr k ↦ ap (λ (v : Window). v.waiting) k.1 ]

      mid_aside : AreSetAside u most lines mid
      mid_aside = aside_then Undecided mid mid_undecided closes

      fresh : IsAside mid.undecided.items s_id → ⊥
      fresh own =
          let there : s_id - 1 < length mid.windows.items = omega (arith, first, last, closes.count) in
          let w = got mid.windows.items (s_id - 1) there in
          let found = closes.each (s_id - 1) w.0 w.1 in
          let same : suc (s_id - 1) ≡ s_id = omega (arith, first) in
          not_aside u most lines mid (s_id - 1) w.0 mid_aside w.1 (closing_marks s_id old.number Undecided (s_id - 1) found.0 w.0 found.2 ∙ open_here (s_id - 1) found.0 same found.1) (subst (IsAside mid.undecided.items) (sym same) own)

-- ---- a call that names no subscriber
-- where it was answered otherwise than by its failure
pub unfailed : (u : Database) (most : ℕ) (lines : List Line) (judge : Judge) (asked : Asked) (outcome : Outcome) → HasNoted u most lines judge → EndsAs u lines asked outcome → asked.s_id ≡ None → (FailsWithout None outcome → ⊥) → IsSearchable u most lines true None judge
unfailed u most lines judge asked outcome noted ends e fails = record {
  read = noted.read;
  windows_are = λ place w h. inl (noted.windows_are place w h);
  aside = noted.aside;
  none = λ k le lt. fewer_fail k (lt refl refl);
  some = λ _. ends.some;
  whose = λ _ fail. fails (subst (λ (o : Option ℕ). FailsWithout o outcome) e (ends.now.1 (subst (λ ls. FailWithout u (calls_of ls)) (take_all (length lines) lines (omega arith)) fail)));
}
  where
    fewer_fail : (k : ℕ) → k < length lines → FailWithout u (calls_of (take k lines))
    fewer_fail k lt =
        let n = length lines - 1 in
        let less : k ≤ n = omega (arith, lt) in
        subst (λ ls. FailWithout u (calls_of ls)) (taken_less k n lines less) (fewer_none u (take n lines) k ends.before)

pub failed : (u : Database) (most : ℕ) (lines : List Line) (judge : Judge) (asked : Asked) (outcome : Outcome) → HasNoted u most lines judge → EndsAs u lines asked outcome → asked.s_id ≡ None → Forgets judge asked.s_id → FailsWithout None outcome → HasFollowed u most lines judge
failed u most lines judge asked outcome noted ends e forgets fails = record { noted = noted; forgets = subst (Forgets judge) e forgets; none = ends.now.0 (subst (λ (o : Option ℕ). FailsWithout o outcome) (sym e) fails) }

-- ---- at the end
pub followed_searchable : (u : Database) (most : ℕ) (lines : List Line) (judge : Judge) → HasFollowed u most lines judge → IsSearchable u most lines false None judge
followed_searchable u most lines judge is = record {
  read = is.noted.read;
  windows_are = λ place w h. inl (is.noted.windows_are place w h);
  aside = is.noted.aside;
  none = λ k le lt. fewer_none u lines k is.none;
  some = λ t. absurd (false≢true t);
  whose = λ t. absurd (false≢true t);
}

pub followed_still : (u : Database) (most : ℕ) (lines : List Line) (old new : Judge) → HasFollowed u most lines old → ReleasesSome old new → IsSearchable u most lines false None new → HasFollowed u most lines new
followed_still u most lines old new followed releases is = record {
  noted = record {
    read = is.read;
    asked_are = subst (λ m. (client : ℕ) → get nat_eq m client ≡ asked_in_all u lines client) (sym releases.asked_is) followed.noted.asked_are;
    windows_are = λ place w h. elim (is.windows_are place w h) [ inl kept ↦ kept | inr k ↦ absurd (false≢true k.0) ];
    aside = is.aside;
  };
  forgets = λ place w h none still z.
      let later = releases.windows_are.each place w h in
      elim later.2 [
        | inr k ↦ absurd (false≢true (sym still ∙ k.aside_is))
        | inl same ↦ subst IsForgotten (sym same) (followed.forgets place later.0 later.1 none (ap (λ (v : Window). v.aside) (sym same) ∙ still) (ap (λ (v : Window). v.waiting) (sym same) ∙ z))
      ];
  none = followed.none;
}

-- ---- windows that have ended
pub explained_where_closed : (u : Database) (most : ℕ) (lines : List Line) (judge : Judge) → HasFollowed u most lines judge → AreExplainedWhereClosed u judge.undecided.items lines
explained_where_closed u most lines judge is s other none = elim (there_or_not s (length judge.windows.items)) [
  | inl there ↦
      let place = s - 1 in
      let same : suc place ≡ s = omega (arith, there.0) in
      let w = got judge.windows.items place (omega (arith, there.0, there.1)) in
      elim (is.noted.windows_are place w.0 w.1) [
        | inl k ↦
            let closed = subst (λ n. NothingIsOpen u n lines) (sym same) none in
            let quiet = nothing_waits (opened_after u (suc place) 1 no_calls lines) w.0.waiting k.1.counted closed in
            let empty = (is.forgets place w.0 w.1 (λ e. none-some (suc place) e) k.0 quiet).events in
            subst (λ n. IsStrictlySerializable (of_subscriber u n) (calls_on u n (calls_of lines))) same
            (explained_now u (suc place) lines (all_explained u most (suc place) lines w.0 k.1 empty (length lines) (omega arith) (omega arith)))
        | inr c ↦ absurd (other (subst (IsAside judge.undecided.items) same (is.noted.aside.listed place w.0 w.1 c.aside)))
      ]
  | inr out ↦ none_explained u (length judge.windows.items) judge.directory s lines is.noted.read.directory_is out
]

-- a call that names no subscriber decides
pub never_legal : (u : Database) (most : ℕ) (lines : List Line) (judge : Judge) → IsSearchable u most lines true None judge → IsLegalBut u judge.undecided.items lines → ⊥
never_legal u most lines judge is legal = is.whose refl (fewer_none u lines (length lines) (others_now u lines judge judge.undecided.items is.read legal).none)
