-- The table of chapters: its rows, its cells, and how it is filled.
use Rattle.std.proofs.Common.{◌≡◌, ℕ, zero, suc, ◌+◌, ◌<◌, ◌≤◌, ◌⊎◌, inl, inr, ◌==◌, nat_lt, Bool, true, false, cond, if◌then◌else◌, List, [], ◌∷◌, ◌++◌, map, length, replicate, find, count_by, Option, Some, None, is_some, is_none, slice_get, Bor, Decides, refl, sym, ◌∙◌, ap, subst, arith}
use Rattle.std.specs.List.{flat_map, range_with_len}
use Rattle.std.specs.Option.{option_copied, option_and_then, option_map, option_map_or, option_or, option_to_list}
use Rattle.std.proofs.lemmas.Bool.{cases_lt, cases_order, lt-ltb, le-ltb, ltb-true, ltb-false, eq-eqb, eqb-true, and_parts, and_from, false≢true}
use Rattle.std.proofs.lemmas.Option.{same_Some, slice_get-map, slice_get_past}
use Rattle.std.proofs.lemmas.List.{append-nil, length-replicate}
use Rattle.std.proofs.lemmas.List.Concat.{flat_map-append}
use Rattle.std.proofs.lemmas.List.Folds.{find-append}
use Rattle.std.proofs.lemmas.List.FromFn.{length-map-range_with_len, map-range_with_len_more}
use Rattle.std.proofs.lemmas.List.Sums.{sum_by_push}
use Rattle.tatp_calls.specs.declared.entry.Entry.{Entry}
use Rattle.tatp_extents.specs.Chapters.{ChapterState, chapters_listed, entries_joined}
use Rattle.tatp_settle.specs.declared.places.ChapterPlace.{ChapterPlace}
use Rattle.tatp_settle.specs.Closings.{ClosedState, ExtentLog, log_numbered, chapter_count, entries_since, is_chapter, chapter_numbered, least_above, IsClosed}
use Rattle.tatp_settle.specs.Causes.{IsChapterMissing, IsChapterTwice, homes_before, entries_of_part}
use Rattle.tatp_settle.specs.Runs.{at_call}
use Rattle.tatp_settle.specs.Placing.{cells_of}
use Rattle.tatp_settle.specs.ChapterTables.{IsFirstChapter, IsChapterAtMost, chapter_handed_out, empty_rows, HasRows, HasChapters}
use Rattle.tatp_settle.proofs.NumberLaws.{range_more}
use Rattle.tatp_settle.proofs.NumberedLaws.{or_nothing, no_log_beyond}
use Rattle.tatp_settle.proofs.PartLaws.{range_gives}
use Rattle.tatp_settle.proofs.TestLaws.{none_found, some_found}

-- ---- rows and cells
-- how many cells a row has
abbrev pub row_length : {A : Type 0} → List (List A) → ℕ → ℕ
row_length table e = option_map_or length (slice_get table e) 0

next_lt : (i n : ℕ) → nat_lt i n ≡ nat_lt (suc i) (suc n)
next_lt i n = elim (cases_lt i n) as (λ _. nat_lt i n ≡ nat_lt (suc i) (suc n)) [
  | inl l ↦ lt-ltb i n l ∙ sym (lt-ltb (suc i) (suc n) (omega (arith, l)))
  | inr l ↦ le-ltb i n l ∙ sym (le-ltb (suc i) (suc n) (omega (arith, l)))
]

within_list : {A : Type 0} (xs : List A) (i : ℕ) → is_some (slice_get xs i) ≡ nat_lt i (length xs)
within_list [] i = sym (le-ltb i 0 (omega arith))
within_list (x ∷ xs) zero = sym (lt-ltb 0 (suc (length xs)) (omega arith))
within_list (x ∷ xs) (suc i) = within_list xs i ∙ next_lt i (length xs)

within_row : {A : Type 0} (row : Option (List A)) (i : ℕ) → is_some (option_and_then (λ list. slice_get list i) row) ≡ nat_lt i (option_map_or length row 0)
within_row None i = sym (le-ltb i 0 (omega arith))
within_row (Some row) i = within_list row i

cell_stands : {A : Type 0} (table : List (List A)) (e i : ℕ) → is_some (at_call table e i) ≡ nat_lt i (row_length table e)
cell_stands table e i = within_row (slice_get table e) i

-- tables that have the same cells have rows of one length
same_row : {A : Type 0} (before after : List (List A)) (e : ℕ) → ((i : ℕ) → is_some (at_call after e i) ≡ is_some (at_call before e i)) → row_length after e ≡ row_length before e
same_row before after e same = by (cases_order (row_length after e) (row_length before e))
  where
    stands : (i : ℕ) → nat_lt i (row_length after e) ≡ nat_lt i (row_length before e)
    stands i = sym (cell_stands after e i) ∙ (same i ∙ cell_stands before e i)

    by : (row_length after e ≡ row_length before e) ⊎ ((row_length after e < row_length before e) ⊎ (row_length before e < row_length after e)) → row_length after e ≡ row_length before e
    by (inl is) = is
    by (inr (inl l)) = absurd (false≢true (sym (le-ltb (row_length after e) (row_length after e) (omega arith)) ∙ (stands (row_length after e) ∙ lt-ltb (row_length after e) (row_length before e) l)))
    by (inr (inr l)) = absurd (false≢true (sym (le-ltb (row_length before e) (row_length before e) (omega arith)) ∙ (sym (stands (row_length before e)) ∙ lt-ltb (row_length before e) (row_length after e) l)))

-- ---- what stands in a cell
module _ (c : ClosedState) (table : List (List (Option (Bor ChapterState)))) (e i : ℕ) where
  cell_within : HasRows c table → is_some (cells_of table e i) ≡ nat_lt i (chapter_count c e)
  cell_within rows = cell_stands table e i ∙ ap (λ (n : ℕ). nat_lt i n) (rows.rows e)

  pub cell_handed_out : (cell : Option (Bor ChapterState)) → HasChapters c table → cells_of table e i ≡ Some cell → option_copied cell ≡ chapter_handed_out c e i
  cell_handed_out cell h is =
      let within : nat_lt i (chapter_count c e) ≡ true = sym (cell_within h.rows) ∙ ap is_some is in
      h.cells e i cell is ∙ sym (ap (λ (b : Bool). if b then chapter_numbered c e i else None) within)

  pub none_handed_out : HasChapters c table → cells_of table e i ≡ None → chapter_handed_out c e i ≡ None
  none_handed_out h is =
      let beyond : nat_lt i (chapter_count c e) ≡ false = sym (cell_within h.rows) ∙ ap is_some is in
      ap (λ (b : Bool). if b then chapter_numbered c e i else None) beyond

-- ---- the empty table
in_replicate : {A : Type 0} (n i : ℕ) (d x : A) → slice_get (replicate n d) i ≡ Some x → x ≡ d
in_replicate zero i d x h = absurd (let k : None ≡ Some x = h in cc)
in_replicate (suc n) zero d x h = let same : d ≡ x = cc in sym same
in_replicate (suc n) (suc i) d x h = in_replicate n i d x h

in_empty : {A : Type 0} (f : ℕ → ℕ) (d : A) (numbers : List ℕ) (e i : ℕ) (x : A) → at_call (map (λ k. replicate (f k) d) numbers) e i ≡ Some x → x ≡ d
in_empty f d [] e i x h = absurd (let k : None ≡ Some x = h in cc)
in_empty f d (k ∷ numbers) zero i x h = in_replicate (f k) i d x h
in_empty f d (k ∷ numbers) (suc e) i x h = in_empty f d numbers e i x h

pub no_chapters : (c : ClosedState) (e : ℕ) → log_numbered c e ≡ None → chapter_count c e ≡ 0
no_chapters c e none = ap (λ (v : Option ExtentLog). option_map_or (λ (log : ExtentLog). log.chapters) v 0) none

abbrev pub empty_row : ClosedState → ℕ → List (Option (Bor ChapterState))
empty_row c e = replicate (chapter_count c e) None

has_rows : (c : ClosedState) → IsClosed c → HasRows c (empty_rows c)
has_rows c h = record { count = length-map-range_with_len (empty_row c) 0 (least_above c); rows = λ e. row e (cases_lt e (least_above c)) }
  where
    row : (e : ℕ) → (e < least_above c) ⊎ (least_above c ≤ e) → row_length (empty_rows c) e ≡ chapter_count c e
    row e (inl l) =
        let zero_is : 0 + e ≡ e = omega arith in
        ap (λ (v : Option (List (Option (Bor ChapterState)))). option_map_or length v 0)
        (slice_get-map (empty_row c) (range_with_len 0 (least_above c)) e ∙ (ap (option_map (empty_row c)) (range_gives 0 (least_above c) e l) ∙ ap (λ (k : ℕ). Some (empty_row c k)) zero_is))
        ∙ length-replicate {A = Option (Bor ChapterState)} (chapter_count c e) None
    row e (inr l) =
        let long = length-map-range_with_len (empty_row c) 0 (least_above c) in
        ap (λ (v : Option (List (Option (Bor ChapterState)))). option_map_or length v 0) (slice_get_past (empty_rows c) e (omega (arith, long, l)))
        ∙ sym (no_chapters c e (no_log_beyond c e h l))

-- one row more
pub empty_more : (c : ClosedState) (n : ℕ) → map (empty_row c) (range_with_len 0 (n + 1)) ≡ map (empty_row c) (range_with_len 0 n) ++ replicate (chapter_count c n) None ∷ []
empty_more c n = map-range_with_len_more (empty_row c) 0 n n (omega arith)

-- ---- filling it with the chapters
-- a chapter that came so often came twice, or is none of so many
abbrev IsTwiceSo : ℕ → ℕ → ℕ → Type 0
IsTwiceSo times count i = (2 ≤ times) ⊎ ((1 ≤ times) × (count ≤ i))

more_often : (m n count i : ℕ) → m ≤ n → IsTwiceSo m count i → IsTwiceSo n count i
more_often m n count i l (inl h) = inl (omega (arith, l, h))
more_often m n count i l (inr h) = inr (omega (arith, l, h.0), h.1)

abbrev IsTwiceIn : ClosedState → List ChapterState → ℕ → ℕ → Type 0
IsTwiceIn c xs e i = IsTwiceSo (count_by (is_chapter e i) xs) (chapter_count c e) i

-- of these chapters the first of each extent and index stands in its cell, and this is the least one that came twice or is none of those that were handed out
pub record AreListed (c : ClosedState) (table : List (List (Option (Bor ChapterState)))) (twice : Option ChapterPlace) (xs : List ChapterState) : Type 0 where
  pub rows : HasRows c table
  pub cells : (e i : ℕ) (cell : Option (Bor ChapterState)) → cells_of table e i ≡ Some cell → option_copied cell ≡ find (is_chapter e i) xs
  pub seen : (e i : ℕ) → IsTwiceIn c xs e i → IsChapterAtMost twice e i
  pub from : (place : ChapterPlace) → twice ≡ Some place → IsTwiceIn c xs place.extent place.index

pub none_listed : (c : ClosedState) → IsClosed c → AreListed c (empty_rows c) None []
none_listed c h = record {
  rows = has_rows c h;
  cells = λ e i cell is. ap option_copied (in_empty (chapter_count c) None (range_with_len 0 (least_above c)) e i cell is);
  seen = λ e i two. none e i two;
  from = λ place is. absurd (let k : None ≡ Some place = is in cc);
}
  where
    none : (e i : ℕ) → IsTwiceIn c [] e i → ⊥
    none e i (inl h) = omega (arith, h)
    none e i (inr h) = omega (arith, h.0)

module _ (c : ClosedState) (xs : List ChapterState) (x : ChapterState) (extent index : ℕ) (of_extent : x.extent ≡ extent) (of_index : x.index ≡ index) where
  is_this : (e i : ℕ) → is_chapter e i x ≡ true → (e ≡ extent) × (i ≡ index)
  is_this e i is =
      let parts = and_parts (x.extent == e) (x.index == i) is in
      (sym (eqb-true x.extent e parts.0) ∙ of_extent, sym (eqb-true x.index i parts.1) ∙ of_index)

  this_is : (e i : ℕ) → e ≡ extent → i ≡ index → is_chapter e i x ≡ true
  this_is e i p q = and_from (x.extent == e) (x.index == i) (eq-eqb x.extent e (of_extent ∙ sym p)) (eq-eqb x.index i (of_index ∙ sym q))

  is_other : (e i : ℕ) → is_chapter e i x ≡ false → e ≡ extent → i ≡ index → ⊥
  is_other e i is p q = false≢true (sym is ∙ this_is e i p q)

  found_more : (e i : ℕ) (b : Bool) → is_chapter e i x ≡ b → find (is_chapter e i) (xs ++ x ∷ []) ≡ option_or (find (is_chapter e i) xs) (cond b (Some x) None)
  found_more e i b is = find-append (is_chapter e i) xs (x ∷ []) ∙ ap (λ (d : Bool). option_or (find (is_chapter e i) xs) (cond d (Some x) None)) is

  counted_more : (e i : ℕ) (b : Bool) → is_chapter e i x ≡ b → count_by (is_chapter e i) (xs ++ x ∷ []) ≡ count_by (is_chapter e i) xs + cond b 1 0
  counted_more e i b is = sum_by_push (λ y. cond (is_chapter e i y) 1 0) xs x ∙ ap (λ (d : Bool). count_by (is_chapter e i) xs + cond d 1 0) is

  no_rarer : (e i : ℕ) → count_by (is_chapter e i) xs ≤ count_by (is_chapter e i) (xs ++ x ∷ [])
  no_rarer e i = let more = counted_more e i (is_chapter e i x) refl in omega (arith, more)

  -- of another chapter nothing changes
  other_found : (e i : ℕ) → is_chapter e i x ≡ false → find (is_chapter e i) (xs ++ x ∷ []) ≡ find (is_chapter e i) xs
  other_found e i is = found_more e i false is ∙ or_nothing (find (is_chapter e i) xs)

  other_twice : (e i : ℕ) → is_chapter e i x ≡ false → IsTwiceIn c (xs ++ x ∷ []) e i → IsTwiceIn c xs e i
  other_twice e i is two = let same = counted_more e i false is in more_often _ _ (chapter_count c e) i (omega (arith, same)) two

  -- what holds of this chapter and of any other holds of all
  by_chapter : (P : ℕ → ℕ → Type 0) → P extent index → ((e i : ℕ) → is_chapter e i x ≡ false → P e i) → (e i : ℕ) → P e i
  by_chapter P this others e i = elim (is_chapter e i x) as (λ b. is_chapter e i x ≡ b → P e i) [
    | true ↦ λ is. let own = is_this e i is in subst (λ (k : ℕ). P k i) (sym own.0) (subst (λ (k : ℕ). P extent k) (sym own.1) this)
    | false ↦ λ is. others e i is
  ] refl

  own_found : (v : Option ChapterState) → find (is_chapter extent index) xs ≡ v → find (is_chapter extent index) (xs ++ x ∷ []) ≡ option_or v (Some x)
  own_found v is = found_more extent index true (this_is extent index refl refl) ∙ ap (λ (w : Option ChapterState). option_or w (Some x)) is

  own_counted : count_by (is_chapter extent index) (xs ++ x ∷ []) ≡ count_by (is_chapter extent index) xs + 1
  own_counted = counted_more extent index true (this_is extent index refl refl)

  module _ (before after : List (List (Option (Bor ChapterState)))) (twice : Option ChapterPlace) (h : AreListed c before twice xs) (long : length after ≡ length before) where
    -- where each cell stays, or is filled, the rows are as long
    rows_stay : ((e i : ℕ) → is_some (cells_of after e i) ≡ is_some (cells_of before e i)) → HasRows c after
    rows_stay same = record { count = long ∙ h.rows.count; rows = λ e. same_row before after e (same e) ∙ h.rows.rows e }

    -- the chapter is put into its empty cell
    pub put_listed : {y : Bor ChapterState} → cells_of before extent index ≡ Some None → cells_of after extent index ≡ Some (Some y) → ((e i : ℕ) → (e ≡ extent → i ≡ index → ⊥) → cells_of after e i ≡ cells_of before e i) → y.now ≡ x
        → AreListed c after twice (xs ++ x ∷ [])
    put_listed {y} empty filled others same = record {
      rows = rows_stay (by_chapter (λ e i. is_some (cells_of after e i) ≡ is_some (cells_of before e i)) (ap is_some filled ∙ sym (ap is_some empty)) (λ e i is. ap is_some (others e i (is_other e i is))));
      cells = by_chapter (λ e i. (cell : Option (Bor ChapterState)) → cells_of after e i ≡ Some cell → option_copied cell ≡ find (is_chapter e i) (xs ++ x ∷ []))
          (λ cell is. ap option_copied (same_Some cell (Some y) (sym is ∙ filled)) ∙ (ap (λ (z : ChapterState). Some z) same ∙ sym (own_found None absent)))
          (λ e i other cell is. h.cells e i cell (sym (others e i (is_other e i other)) ∙ is) ∙ sym (other_found e i other));
      seen = by_chapter (λ e i. IsTwiceIn c (xs ++ x ∷ []) e i → IsChapterAtMost twice e i)
          (λ two. absurd (not_twice two))
          (λ e i other two. h.seen e i (other_twice e i other two));
      from = λ place is. more_often _ _ (chapter_count c place.extent) place.index (no_rarer place.extent place.index) (h.from place is);
    }
      where
        absent : find (is_chapter extent index) xs ≡ None
        absent = sym (h.cells extent index None empty)

        not_twice : IsTwiceIn c (xs ++ x ∷ []) extent index → ⊥
        not_twice (inl two) =
            let none = none_found (is_chapter extent index) xs absent in
            omega (arith, own_counted, none, two)
        not_twice (inr past) =
            let within : nat_lt index (chapter_count c extent) ≡ true = sym (cell_within c before extent index h.rows) ∙ ap is_some empty in
            let l = ltb-true index (chapter_count c extent) within in
            omega (arith, l, past.1)

    -- the chapter has no empty cell of its own
    pub left_listed : (twice' : Option ChapterPlace) → (cells_of before extent index ≡ Some None → ⊥) → ((e i : ℕ) → cells_of after e i ≡ cells_of before e i)
        → ((e i : ℕ) → IsChapterAtMost twice e i → IsChapterAtMost twice' e i) → IsChapterAtMost twice' extent index → (twice' ≡ twice) ⊎ (twice' ≡ Some (record { extent = extent; index = index }))
        → AreListed c after twice' (xs ++ x ∷ [])
    left_listed twice' taken same keeps at is = record {
      rows = rows_stay (λ e i. ap is_some (same e i));
      cells = by_chapter (λ e i. (cell : Option (Bor ChapterState)) → cells_of after e i ≡ Some cell → option_copied cell ≡ find (is_chapter e i) (xs ++ x ∷ []))
          (λ cell there. own_cell cell (sym (same extent index) ∙ there))
          (λ e i other cell there. h.cells e i cell (sym (same e i) ∙ there) ∙ sym (other_found e i other));
      seen = by_chapter (λ e i. IsTwiceIn c (xs ++ x ∷ []) e i → IsChapterAtMost twice' e i)
          (λ two. at)
          (λ e i other two. keeps e i (h.seen e i (other_twice e i other two)));
      from = λ place was. from_either place was is;
    }
      where
        own_cell : (cell : Option (Bor ChapterState)) → cells_of before extent index ≡ Some cell → option_copied cell ≡ find (is_chapter extent index) (xs ++ x ∷ [])
        own_cell None there = absurd (taken there)
        own_cell (Some y) there = sym (own_found (Some y.now) (sym (h.cells extent index (Some y) there)))

        -- it came before, or has no cell
        own_twice : (v : Option (Option (Bor ChapterState))) → cells_of before extent index ≡ v → IsTwiceIn c (xs ++ x ∷ []) extent index
        own_twice None there =
            let beyond : nat_lt index (chapter_count c extent) ≡ false = sym (cell_within c before extent index h.rows) ∙ ap is_some there in
            inr (omega (arith, own_counted), ltb-false index (chapter_count c extent) beyond)
        own_twice (Some None) there = absurd (taken there)
        own_twice (Some (Some y)) there =
            let some : count_by (is_chapter extent index) xs ≡ 0 → ⊥ = some_found (is_chapter extent index) xs y.now (sym (h.cells extent index (Some y) there)) in
            inl (omega (arith, own_counted, some))

        from_either : (place : ChapterPlace) → twice' ≡ Some place → (twice' ≡ twice) ⊎ (twice' ≡ Some (record { extent = extent; index = index })) → IsTwiceIn c (xs ++ x ∷ []) place.extent place.index
        from_either place was (inl kept) = more_often _ _ (chapter_count c place.extent) place.index (no_rarer place.extent place.index) (h.from place (sym kept ∙ was))
        from_either place was (inr own) =
            let same : ◌≡◌ {A = ChapterPlace} (record { extent = extent; index = index }) place = same_Some _ place (sym own ∙ was) in
            subst (λ (p : ChapterPlace). IsTwiceIn c (xs ++ x ∷ []) p.extent p.index) same (own_twice (cells_of before extent index) refl)

-- with all chapters, it has them
pub all_listed : (c : ClosedState) (table : List (List (Option (Bor ChapterState)))) (twice : Option ChapterPlace) → AreListed c table twice c.chapters → HasChapters c table
all_listed c table twice h = record { rows = h.rows; cells = h.cells }

pub first_twice : (c : ClosedState) (table : List (List (Option (Bor ChapterState)))) (twice : Option ChapterPlace) → AreListed c table twice c.chapters → IsFirstChapter (IsChapterTwice c) twice
first_twice c table None h = λ e i two. h.seen e i two
first_twice c table (Some place) h = record { holds = h.from place refl; least = λ e i sooner two. h.seen e i two sooner }

-- ---- chapters that are missing
module _ (c : ClosedState) (e i : ℕ) where
  pub handed_out : i < chapter_count c e → chapter_handed_out c e i ≡ chapter_numbered c e i
  handed_out l = ap (λ (b : Bool). if b then chapter_numbered c e i else None) (lt-ltb i (chapter_count c e) l)

  pub missing_is : (r : Option (Bor ChapterState)) → i < chapter_count c e → option_copied r ≡ chapter_handed_out c e i → Decides (is_none r) (IsChapterMissing c e i)
  missing_is None l is = (λ _. record { handed_out = l; missing = none_found (is_chapter e i) c.chapters (sym (is ∙ handed_out l)) }, λ _. refl)
  missing_is (Some x) l is =
      (λ h. absurd (let k : false ≡ true = h in cc), λ m. absurd (some_found (is_chapter e i) c.chapters x.now (sym (is ∙ handed_out l)) m.missing))

  pub none_missing_beyond : log_numbered c e ≡ None → IsChapterMissing c e i → ⊥
  none_missing_beyond none m = let count = no_chapters c e none in let l = m.handed_out in omega (arith, count, l)

  -- ---- parts
  pub chapter_before : (v : Option ChapterState) → i < chapter_count c e → v ≡ chapter_handed_out c e i → option_map (λ (x : ChapterState). x.before) v ≡ homes_before c e i
  chapter_before v l is =
      ap (option_map (λ (x : ChapterState). x.before)) (is ∙ handed_out l)
      ∙ sym (ap (λ (b : Bool). if b then option_map (λ (x : ChapterState). x.before) (chapter_numbered c e i) else option_map (λ (log : ExtentLog). log.opening) (log_numbered c e)) (lt-ltb i (chapter_count c e) l))

  pub chapter_entries : (v : Option ChapterState) → i < chapter_count c e → v ≡ chapter_handed_out c e i → option_map_or (λ (x : ChapterState). x.entries) v [] ≡ entries_of_part c e i
  chapter_entries v l is =
      ap (λ (w : Option ChapterState). option_map_or (λ (x : ChapterState). x.entries) w []) (is ∙ handed_out l)
      ∙ sym (ap (λ (b : Bool). if b then option_map_or (λ (x : ChapterState). x.entries) (chapter_numbered c e i) [] else entries_since c e) (lt-ltb i (chapter_count c e) l))

  pub last_before : chapter_count c e ≤ i → option_map (λ (log : ExtentLog). log.opening) (log_numbered c e) ≡ homes_before c e i
  last_before l =
      sym (ap (λ (b : Bool). if b then option_map (λ (x : ChapterState). x.before) (chapter_numbered c e i) else option_map (λ (log : ExtentLog). log.opening) (log_numbered c e)) (le-ltb i (chapter_count c e) l))

  pub last_entries : chapter_count c e ≤ i → entries_since c e ≡ entries_of_part c e i
  last_entries l =
      sym (ap (λ (b : Bool). if b then option_map_or (λ (x : ChapterState). x.entries) (chapter_numbered c e i) [] else entries_since c e) (le-ltb i (chapter_count c e) l))

-- ---- the whole log
entries_of_one : (v : Option ChapterState) → entries_joined (option_to_list v) ≡ option_map_or (λ (x : ChapterState). x.entries) v []
entries_of_one None = refl
entries_of_one (Some x) = append-nil x.entries

-- one chapter more
pub joined_more : (c : ClosedState) (e i : ℕ) (v : Option ChapterState) → i < chapter_count c e → v ≡ chapter_handed_out c e i
    → entries_joined (chapters_listed (chapter_numbered c e) 0 (i + 1)) ≡ entries_joined (chapters_listed (chapter_numbered c e) 0 i) ++ option_map_or (λ (x : ChapterState). x.entries) v []
joined_more c e i v l is =
    ap (λ (numbers : List ℕ). entries_joined (flat_map (λ k. option_to_list (chapter_numbered c e k)) numbers)) (range_more 0 i i (omega arith))
    ∙ (ap entries_joined (flat_map-append (λ k. option_to_list (chapter_numbered c e k)) (range_with_len 0 i) (i ∷ []) ∙ ap (λ (xs : List ChapterState). chapters_listed (chapter_numbered c e) 0 i ++ xs) (append-nil (option_to_list (chapter_numbered c e i))))
    ∙ (flat_map-append (λ (x : ChapterState). x.entries) (chapters_listed (chapter_numbered c e) 0 i) (option_to_list (chapter_numbered c e i))
    ∙ ap (λ (xs : List Entry). entries_joined (chapters_listed (chapter_numbered c e) 0 i) ++ xs) (entries_of_one (chapter_numbered c e i) ∙ ap (λ (w : Option ChapterState). option_map_or (λ (x : ChapterState). x.entries) w []) (sym (is ∙ handed_out c e i l)))))
