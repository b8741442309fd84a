-- The log of a number, and the extent.
use Rattle.std.proofs.Common.{◌≡◌, ◌≢◌, ℕ, zero, suc, ◌+◌, ◌<◌, ◌≤◌, ◌==◌, Bool, true, false, cond, List, [], ◌∷◌, ◌++◌, map, length, filter, find, All, max, Option, Some, None, slice_get, refl, sym, ◌∙◌, ap, subst, arith, drop, get_or}
use Rattle.std.specs.List.{fold, flat_map}
use Rattle.std.specs.Option.{option_to_list, option_map, option_or}
use Rattle.std.proofs.lemmas.Bool.{ne_eqb}
use Rattle.std.proofs.lemmas.List.Elements.{All-nil, All-cons, All-head, All-tail, All-get_or}
use Rattle.std.proofs.lemmas.List.{at_drop_more}
use Rattle.std.proofs.lemmas.List.Folds.{find-append}
use Rattle.tatp_extents.specs.Extents.{ExtentState, IsExtent}
use Rattle.tatp_partition.specs.Sites.{slot}
use Rattle.tatp_settle.specs.Closings.{ClosedSiteState, ClosedState, ExtentLog, extents_in_slots, extents_numbered, extent_numbered, most_places, above_all, log_of_homeless, log_of_extent, IsClosedSite, IsClosed, extents_at}
use Rattle.tatp_settle.proofs.StandingLaws.{has_number, here, in_site, in_sites, none_at_zero}

pub find_filtered : {A : Type 0} (p : A → Bool) (xs : List A) → find p xs ≡ slice_get (filter p xs) 0
find_filtered p [] = refl
find_filtered p (x ∷ xs) = ap (λ v. cond (p x) (Some x) v) (find_filtered p xs) ∙ by (p x) (filter p xs)
  where
    by : (b : Bool) (ys : List _) → cond b (Some x) (slice_get ys 0) ≡ slice_get (cond b (x ∷ ys) ys) 0
    by true ys = refl
    by false ys = refl

first_listed : {A : Type 0} (v : Option A) → slice_get (option_to_list v) 0 ≡ v
first_listed None = refl
first_listed (Some x) = refl

-- ---- the extent of a number
found_in_site : (s : ClosedSiteState) (e : ℕ) → IsClosedSite s → find (has_number e) (extents_in_slots s.slots) ≡ slot s.slots e
found_in_site s e h = find_filtered (has_number e) (extents_in_slots s.slots) ∙ (ap (λ (xs : List ExtentState). slice_get xs 0) (in_site s e h) ∙ first_listed (slot s.slots e))

abbrev pub found_in : List ClosedSiteState → ℕ → Option ExtentState
found_in sites e = find (has_number e) (extents_at sites)

pub found_first : (s : ClosedSiteState) (sites : List ClosedSiteState) (e : ℕ) → IsClosedSite s → found_in (s ∷ sites) e ≡ option_or (slot s.slots e) (found_in sites e)
found_first s sites e h =
    find-append (has_number e) (extents_in_slots s.slots) (extents_at sites)
    ∙ ap (λ (v : Option ExtentState). option_or v (found_in sites e)) (found_in_site s e h)

pub found_anywhere : (c : ClosedState) (e : ℕ) → extent_numbered c e ≡ option_or (found_in c.sites e) (find (has_number e) c.parcels)
found_anywhere c e = find-append (has_number e) (extents_at c.sites) c.parcels

pub site_of : (sites : List ClosedSiteState) (i : ℕ) (s : ClosedSiteState) → i < length sites → s ≡ get_or sites i s → All IsClosedSite sites → IsClosedSite s
site_of sites i s l is all = subst IsClosedSite (sym is) (All-get_or IsClosedSite sites i s l all)

-- what is found in the sites from the i-th on
pub found_step : (sites : List ClosedSiteState) (i : ℕ) (s : ClosedSiteState) (e : ℕ) → i < length sites → s ≡ get_or sites i s → All IsClosedSite sites → found_in (drop i sites) e ≡ option_or (slot s.slots e) (found_in (drop (i + 1) sites) e)
found_step sites i s e l is all =
    at_drop_more (λ (xs : List ClosedSiteState). found_in xs e) sites i s l
    ∙ (ap (λ (x : ClosedSiteState). found_in (x ∷ drop (i + 1) sites) e) (sym is) ∙ found_first s (drop (i + 1) sites) e (site_of sites i s l is all))

-- ---- the log of a number
abbrev pub log_has : ℕ → ExtentLog → Bool
log_has e log = log.extent == e

no_homeless : (sites : List ClosedSiteState) (e : ℕ) → e ≢ 0 → find (log_has e) (map log_of_homeless sites) ≡ None
no_homeless [] e h = refl
no_homeless (s ∷ sites) e h = ap (λ (b : Bool). cond b (Some (log_of_homeless s)) (find (log_has e) (map log_of_homeless sites))) (ne_eqb 0 e (λ z. h (sym z))) ∙ no_homeless sites e h

one_log : (x : ExtentState) (v : Option ExtentState) (b : Bool) → cond b (Some (log_of_extent x)) (option_map log_of_extent v) ≡ option_map log_of_extent (cond b (Some x) v)
one_log x v true = refl
one_log x v false = refl

pub log_found : (xs : List ExtentState) (e : ℕ) → find (log_has e) (map log_of_extent xs) ≡ option_map log_of_extent (find (has_number e) xs)
log_found [] e = refl
log_found (x ∷ xs) e = ap (λ (v : Option ExtentLog). cond (x.number == e) (Some (log_of_extent x)) v) (log_found xs e) ∙ one_log x (find (has_number e) xs) (x.number == e)

-- that of an extent is no log of calls without a home
pub log_of_number : (sites : List ClosedSiteState) (xs : List ExtentState) (e : ℕ) → e ≢ 0 → find (log_has e) (map log_of_homeless sites ++ map log_of_extent xs) ≡ option_map log_of_extent (find (has_number e) xs)
log_of_number sites xs e h =
    find-append (log_has e) (map log_of_homeless sites) (map log_of_extent xs)
    ∙ (λ i. option_or (no_homeless sites e h i) (log_found xs e i))

-- no extent has the number 0
pub none_zero : (xs : List ExtentState) → All IsExtent xs → find (has_number 0) xs ≡ None
none_zero [] all = refl
none_zero (x ∷ xs) all =
    let least = (All-head IsExtent x xs all).of_extent.numbered in
    ap (λ (b : Bool). cond b (Some x) (find (has_number 0) xs)) (ne_eqb x.number 0 (λ z. omega (arith, z, least))) ∙ none_zero xs (All-tail IsExtent x xs all)

none_zero_at : (sites : List ClosedSiteState) → All IsClosedSite sites → found_in sites 0 ≡ None
none_zero_at [] all = refl
none_zero_at (s ∷ sites) all =
    found_first s sites 0 (All-head IsClosedSite s sites all)
    ∙ (λ i. option_or (none_at_zero s (All-head IsClosedSite s sites all) i) (none_zero_at sites (All-tail IsClosedSite s sites all) i))

pub no_extent_zero : (c : ClosedState) → IsClosed c → extent_numbered c 0 ≡ None
no_extent_zero c h = found_anywhere c 0 ∙ (λ i. option_or (none_zero_at c.sites h.sites i) (none_zero c.parcels h.parcels i))

-- ---- numbers above all
above_places : (slots : List (Option ExtentState)) (e : ℕ) → length slots ≤ e → slot slots e ≡ None
above_places [] e l = refl
above_places (v ∷ slots) zero l = absurd (omega (arith, l))
above_places (v ∷ slots) (suc e) l = above_places slots e (omega (arith, l))

none_above : (xs : List ExtentState) (n e : ℕ) → n ≤ e → All (λ (x : ExtentState). x.number < n) xs → filter (has_number e) xs ≡ []
none_above [] n e l all = refl
none_above (x ∷ xs) n e l all =
    let below = All-head (λ (x : ExtentState). x.number < n) x xs all in
    ap (λ (b : Bool). cond b (x ∷ filter (has_number e) xs) (filter (has_number e) xs)) (ne_eqb x.number e (λ z. omega (arith, z, l, below)))
    ∙ none_above xs n e l (All-tail (λ (x : ExtentState). x.number < n) x xs all)

none_above_at : (sites : List ClosedSiteState) (n e : ℕ) → n ≤ e → All (λ (s : ClosedSiteState). length s.slots ≤ n) sites → flat_map (here e) sites ≡ []
none_above_at [] n e l all = refl
none_above_at (s ∷ sites) n e l all =
    let below = All-head (λ (s : ClosedSiteState). length s.slots ≤ n) s sites all in
    (λ i. option_to_list (above_places s.slots e (omega (arith, l, below)) i) ++ none_above_at sites n e l (All-tail (λ (s : ClosedSiteState). length s.slots ≤ n) s sites all) i)

pub no_extent_above : (c : ClosedState) (m n e : ℕ) → IsClosed c → All (λ (s : ClosedSiteState). length s.slots ≤ m) c.sites → All (λ (x : ExtentState). x.number < n) c.parcels → m ≤ e → n ≤ e → extents_numbered c e ≡ []
no_extent_above c m n e h places numbers l k = in_sites c.sites c.parcels e h.sites ∙ (λ i. none_above_at c.sites m e l places i ++ none_above c.parcels n e k numbers i)

-- what is the most, or above all, is so of each
most_from : List ClosedSiteState → ℕ → ℕ
most_from sites most = fold (λ most (s : ClosedSiteState). max most (length s.slots)) most sites

no_less : (sites : List ClosedSiteState) (most : ℕ) → most ≤ most_from sites most
unfolding most_from
no_less [] most = omega arith
no_less (s ∷ sites) most = let more = no_less sites (max most (length s.slots)) in omega (arith, more)

places_from : (sites : List ClosedSiteState) (most : ℕ) → All (λ (s : ClosedSiteState). length s.slots ≤ most_from sites most) sites
unfolding most_from
places_from [] most = All-nil (λ (s : ClosedSiteState). length s.slots ≤ most)
places_from (s ∷ sites) most =
    let more = no_less sites (max most (length s.slots)) in
    All-cons (λ (t : ClosedSiteState). length t.slots ≤ most_from (s ∷ sites) most) s sites (omega (arith, more)) (places_from sites (max most (length s.slots)))

pub places_within : (sites : List ClosedSiteState) → All (λ (s : ClosedSiteState). length s.slots ≤ most_places sites) sites
unfolding most_from
places_within sites = places_from sites 0

above_from : List ExtentState → ℕ → ℕ
above_from xs most = fold (λ most (x : ExtentState). max most (x.number + 1)) most xs

no_lower : (xs : List ExtentState) (most : ℕ) → most ≤ above_from xs most
unfolding above_from
no_lower [] most = omega arith
no_lower (x ∷ xs) most = let more = no_lower xs (max most (x.number + 1)) in omega (arith, more)

numbers_from : (xs : List ExtentState) (most : ℕ) → All (λ (x : ExtentState). x.number < above_from xs most) xs
unfolding above_from
numbers_from [] most = All-nil (λ (x : ExtentState). x.number < most)
numbers_from (x ∷ xs) most =
    let more = no_lower xs (max most (x.number + 1)) in
    All-cons (λ (y : ExtentState). y.number < above_from (x ∷ xs) most) x xs (omega (arith, more)) (numbers_from xs (max most (x.number + 1)))

pub numbers_within : (xs : List ExtentState) → All (λ (x : ExtentState). x.number < above_all xs) xs
unfolding above_from
numbers_within xs = numbers_from xs 0
