-- What is found by its number in a closed database has this number, and its history.
use Rattle.std.proofs.Common.{◌≡◌, ℕ, zero, suc, ◌+◌, ◌≤◌, ◌==◌, Bool, true, false, cond, List, [], ◌∷◌, map, filter, find, count_by, All, Contains, Option, Some, None, slice_get, refl, sym, ◌∙◌, ap, subst, arith}
use Rattle.std.specs.Option.{option_map_or, option_to_list}
use Rattle.std.proofs.lemmas.Bool.{eqb-true, and_parts, false_from_ne_true}
use Rattle.std.proofs.lemmas.List.Elements.{All-nil, All-cons, All-head, All-tail, All-append, All-map, All-weaker, All-filter, All-contains}
use Rattle.tatp_extents.specs.Histories.{StampsRise}
use Rattle.tatp_extents.specs.Extents.{ExtentState, IsExtent}
use Rattle.tatp_extents.specs.Chapters.{ChapterState, IsChapter, IsChapterOf, chapters_listed}
use Rattle.tatp_extents.proofs.ChapterLaws.{rise_from_less}
use Rattle.tatp_settle.specs.Closings.{ClosedSiteState, ClosedState, ExtentLog, extents_in_slots, extents_at, extents_of, logs_of, log_of_homeless, log_of_extent, log_numbered, entries_since, is_chapter, chapter_numbered, IsClosedSite, IsClosed}
use Rattle.tatp_settle.specs.Causes.{IsMixed}
use Rattle.tatp_settle.proofs.StandingLaws.{count_cons}

-- ---- finds
-- what is found stands in the list, and passes
pub found : {A : Type 0} (p : A → Bool) (xs : List A) (x : A) → find p xs ≡ Some x → Contains xs x × (p x ≡ true)
found p [] x h = absurd cc
found p (y ∷ ys) x h = elim (p y) as (λ b. p y ≡ b → cond b (Some y) (find p ys) ≡ Some x → Contains (y ∷ ys) x × (p x ≡ true)) [
  | true ↦ λ is h. let same : y ≡ x = cc in ((0, omega arith, same), ap p (sym same) ∙ is)
  | false ↦ λ is h. let rest = found p ys x h in ((suc rest.0.0, omega (arith, rest.0.1), rest.0.2), rest.1)
] refl h

-- where some are counted, one is found
pub first_counted : {A : Type 0} (p : A → Bool) (xs : List A) → 1 ≤ count_by p xs → (x : A) × (find p xs ≡ Some x)
first_counted {A} p [] h = absurd (omega (arith, h))
first_counted {A} p (x ∷ xs) h =
    let more : 1 ≤ cond (p x) 1 0 + count_by p xs = subst (λ (n : ℕ). 1 ≤ n) (count_cons p x xs) h in
    elim (p x) as (λ b. 1 ≤ cond b 1 0 + count_by p xs → (y : A) × (cond b (Some x) (find p xs) ≡ Some y)) [
      | true ↦ λ _. (x, refl)
      | false ↦ λ l. first_counted p xs (omega (arith, l))
    ] more

-- ---- extents
in_slots : (slots : List (Option ExtentState)) → ((e : ℕ) (x : ExtentState) → slice_get slots e ≡ Some (Some x) → IsExtent x) → All IsExtent (extents_in_slots slots)
in_slots [] each = All-nil IsExtent
in_slots (None ∷ slots) each = in_slots slots (λ e x h. each (suc e) x h)
in_slots (Some x ∷ slots) each = All-cons IsExtent x (extents_in_slots slots) (each 0 x refl) (in_slots slots (λ e y h. each (suc e) y h))

at_sites : (sites : List ClosedSiteState) → All IsClosedSite sites → All IsExtent (extents_at sites)
at_sites [] all = All-nil IsExtent
at_sites (s ∷ sites) all =
    All-append IsExtent (extents_in_slots s.slots) (extents_at sites) (in_slots s.slots (All-head IsClosedSite s sites all).extents) (at_sites sites (All-tail IsClosedSite s sites all))

pub are_extents : (c : ClosedState) → IsClosed c → All IsExtent (extents_of c)
are_extents c closed = All-append IsExtent (extents_at c.sites) c.parcels (at_sites c.sites closed.sites) closed.parcels

-- ---- logs
-- the stamps of a log that isn't mixed rise
abbrev pub RisesUnmixed : ExtentLog → Type 0
RisesUnmixed log = log.mixed ≡ false → StampsRise 0 log.entries

homeless_rises : (s : ClosedSiteState) → IsClosedSite s → RisesUnmixed (log_of_homeless s)
homeless_rises s h unmixed = rise_from_less 0 s.homeless.kept_stamp s.homeless.log (omega arith) (h.homeless unmixed).rise

extent_rises : (x : ExtentState) → IsExtent x → RisesUnmixed (log_of_extent x)
extent_rises x h unmixed = rise_from_less 0 x.kept_stamp x.log (omega arith) (h.history unmixed).rise

logs_rise : (c : ClosedState) → IsClosed c → All RisesUnmixed (logs_of c)
logs_rise c closed =
    let sites : List ClosedSiteState = filter (λ (s : ClosedSiteState). s.partition == 0) c.sites in
    All-append RisesUnmixed (map log_of_homeless sites) (map log_of_extent (extents_of c))
    (All-map RisesUnmixed log_of_homeless sites
    (All-weaker IsClosedSite (λ (s : ClosedSiteState). RisesUnmixed (log_of_homeless s)) homeless_rises sites (All-filter (λ (s : ClosedSiteState). s.partition == 0) IsClosedSite c.sites closed.sites)))
    (All-map RisesUnmixed log_of_extent (extents_of c)
    (All-weaker IsExtent (λ (x : ExtentState). RisesUnmixed (log_of_extent x)) extent_rises (extents_of c) (are_extents c closed)))

-- what was logged since the last checkpoint
pub log_rises : (c : ClosedState) (e : ℕ) → IsClosed c → (IsMixed c e → ⊥) → StampsRise 0 (entries_since c e)
log_rises c e closed unmixed = by (log_numbered c e) refl
  where
    by : (v : Option ExtentLog) → log_numbered c e ≡ v → StampsRise 0 (option_map_or (λ (log : ExtentLog). log.entries) v [])
    by None is = tt
    by (Some log) is =
        let at = found (λ (log : ExtentLog). log.extent == e) (logs_of c) log is in
        let rises : RisesUnmixed log = All-contains RisesUnmixed (logs_of c) log (logs_rise c closed) at.0 in
        rises (false_from_ne_true log.mixed (λ mixed. unmixed (log, at.0, eqb-true log.extent e at.1, mixed)))

-- ---- chapters
-- a chapter that is found is one of this extent
pub chapter_found : (c : ClosedState) (e i : ℕ) (d : ChapterState) → IsClosed c → chapter_numbered c e i ≡ Some d → IsChapterOf e d
chapter_found c e i d closed is =
    let at = found (is_chapter e i) c.chapters d is in
    let chapter : IsChapter d = All-contains IsChapter c.chapters d closed.chapters at.0 in
    subst (λ (n : ℕ). IsChapterOf n d) (eqb-true d.extent e (and_parts (d.extent == e) (d.index == i) at.1).0) chapter.history

pub chapter_rises : (e : ℕ) (d : ChapterState) → IsChapterOf e d → StampsRise 0 d.entries
chapter_rises zero d h = h.history.rise
chapter_rises (suc e) d h = h.history.rise

one_listed : (P : ChapterState → Type 0) (v : Option ChapterState) → ((d : ChapterState) → v ≡ Some d → P d) → All P (option_to_list v)
one_listed P None each = All-nil P
one_listed P (Some d) each = All-cons P d [] (each d refl) (All-nil P)

-- what holds of each chapter that is found holds of all in their list
pub all_listed : (P : ChapterState → Type 0) (at : ℕ → Option ChapterState) (first count : ℕ) → ((i : ℕ) (d : ChapterState) → at i ≡ Some d → P d) → All P (chapters_listed at first count)
all_listed P at first zero each = All-nil P
all_listed P at first (suc count) each =
    All-append P (option_to_list (at first)) (chapters_listed at (first + 1) count) (one_listed P (at first) (λ d is. each first d is)) (all_listed P at (first + 1) count each)
