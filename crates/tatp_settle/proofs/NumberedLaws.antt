-- The log of a number since the last checkpoint: that of the extent, or of the calls without a home.
use Rattle.std.proofs.Common.{◌≡◌, ◌≢◌, ℕ, ◌≤◌, ◌==◌, Bool, List, [], ◌∷◌, map, filter, find, Option, Some, None, slice_get, refl, sym, ◌∙◌, ap, arith}
use Rattle.std.specs.Option.{option_map, option_or}
use Rattle.std.proofs.lemmas.List.Folds.{find-append}
use Rattle.tatp_extents.specs.Extents.{ExtentState}
use Rattle.tatp_settle.specs.Closings.{ClosedSiteState, ClosedState, extents_of, extents_numbered, extent_numbered, log_numbered, log_of_homeless, log_of_extent, most_places, above_all, least_above, IsClosed}
use Rattle.tatp_settle.proofs.StandingLaws.{has_number}
use Rattle.tatp_settle.proofs.LogLaws.{find_filtered, log_has, log_found, log_of_number, no_extent_zero, no_extent_above, places_within, numbers_within}

abbrev has_homeless : ClosedSiteState → Bool
has_homeless s = s.partition == 0

pub or_nothing : {A : Type 0} (v : Option A) → option_or v None ≡ v
or_nothing None = refl
or_nothing (Some x) = refl

homeless_found : (sites : List ClosedSiteState) → find (log_has 0) (map log_of_homeless (filter has_homeless sites)) ≡ option_map log_of_homeless (find has_homeless sites)
homeless_found sites = by (filter has_homeless sites) ∙ ap (option_map log_of_homeless) (sym (find_filtered has_homeless sites))
  where
    by : (xs : List ClosedSiteState) → find (log_has 0) (map log_of_homeless xs) ≡ option_map log_of_homeless (slice_get xs 0)
    by [] = refl
    by (x ∷ xs) = refl

-- the log of number 0 is that of the first site that keeps calls without a home
homeless_numbered : (c : ClosedState) → IsClosed c → log_numbered c 0 ≡ option_map log_of_homeless (find has_homeless c.sites)
homeless_numbered c h =
    find-append (log_has 0) (map log_of_homeless (filter has_homeless c.sites)) (map log_of_extent (extents_of c))
    ∙ ((λ i. option_or (homeless_found c.sites i) ((log_found (extents_of c) 0 ∙ ap (option_map log_of_extent) (no_extent_zero c h)) i))
    ∙ or_nothing (option_map log_of_homeless (find has_homeless c.sites)))

-- that of any other number is the extent's
pub extent_log_numbered : (c : ClosedState) (e : ℕ) → e ≢ 0 → log_numbered c e ≡ option_map log_of_extent (extent_numbered c e)
extent_log_numbered c e h = log_of_number (filter has_homeless c.sites) (extents_of c) e h

-- what a site, or an extent, that was found says of it
pub homeless_is : (c : ClosedState) (e : ℕ) (sites : List ClosedSiteState) (v : Option ClosedSiteState) → IsClosed c → e ≡ 0 → sites ≡ c.sites → v ≡ find has_homeless sites → log_numbered c e ≡ option_map log_of_homeless v
homeless_is c e sites v h zero same is =
    ap (log_numbered c) zero ∙ (homeless_numbered c h ∙ ap (option_map log_of_homeless) (sym (is ∙ ap (find has_homeless) same)))

pub extent_is : (c : ClosedState) (e : ℕ) (v : Option ExtentState) → e ≢ 0 → v ≡ extent_numbered c e → log_numbered c e ≡ option_map log_of_extent v
extent_is c e v h is = extent_log_numbered c e h ∙ ap (option_map log_of_extent) (sym is)

-- ---- numbers above all
pub no_extent_beyond : (c : ClosedState) (e : ℕ) → IsClosed c → least_above c ≤ e → extents_numbered c e ≡ []
no_extent_beyond c e h l =
    no_extent_above c (most_places c.sites) (above_all c.parcels) e h (places_within c.sites) (numbers_within c.parcels) (omega (arith, l)) (omega (arith, l))

pub no_log_beyond : (c : ClosedState) (e : ℕ) → IsClosed c → least_above c ≤ e → log_numbered c e ≡ None
no_log_beyond c e h l =
    extent_log_numbered c e (λ z. omega (arith, l, z))
    ∙ ap (option_map log_of_extent) (find_filtered (has_number e) (extents_of c) ∙ ap (λ (xs : List ExtentState). slice_get xs 0) (no_extent_beyond c e h l))
