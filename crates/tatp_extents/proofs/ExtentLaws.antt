-- Homes of subscribers in a row.
use Rattle.std.specs.Prelude.{◌≡◌, ◌≢◌, ℕ, zero, suc, ◌+◌, ◌-◌, ◌<◌, ◌≤◌, ◌==◌, true, false, cond, List, [], ◌∷◌, map, length, Option, Some, None, is_some, IfSome, slice_get, nat_lt}
use Rattle.std.specs.List.{range_with_len}
use Rattle.std.specs.Option.{option_copied}
use denote.Ref.{Bor}
use Rattle.std.proofs.Common.{refl, ap, sym, ◌∙◌, arith, get_or}
use Rattle.std.proofs.lemmas.Bool.{eq-eqb, eqb-true}
use Rattle.std.proofs.lemmas.Option.{slice_get_past, slice_get_read}
use Rattle.std.proofs.lemmas.Bool.Decides.{nat_tests}
use Rattle.tatp_tables.specs.Database.{Database}
use Rattle.tatp_homes.specs.Home.{SubscriberRows, home_in}
use Rattle.tatp_extents.specs.Extents.{s_ids, home_among}

-- the s_ids of the first, and of the others
pub head_is : (home : SubscriberRows) (homes : List SubscriberRows) (first : ℕ) → s_ids (home ∷ homes) ≡ range_with_len first (length (home ∷ homes)) → home.s_id ≡ first
head_is home homes first e = cc

pub tail_is : (home : SubscriberRows) (homes : List SubscriberRows) (first : ℕ) → s_ids (home ∷ homes) ≡ range_with_len first (length (home ∷ homes)) → s_ids homes ≡ range_with_len (first + 1) (length homes)
tail_is home homes first e = cc

other : (n m : ℕ) → n ≢ m → (n == m) ≡ false
other n m h = grind (arith, nat_tests)

-- at a place stands the home of its subscriber
pub home_in_place : (homes : List SubscriberRows) (first place : ℕ) → s_ids homes ≡ range_with_len first (length homes) → home_among (first + place) homes ≡ slice_get homes place
home_in_place [] first place e = refl
home_in_place (home ∷ homes) first zero e =
    let here : home.s_id ≡ first + 0 = head_is home homes first e ∙ omega arith in
    ap (λ b. cond b (Some home) (home_among (first + 0) homes)) (eq-eqb home.s_id (first + 0) here)
home_in_place (home ∷ homes) first (suc place) e =
    let here = head_is home homes first e in
    let there : first + suc place ≡ first + 1 + place = omega arith in
    ap (λ b. cond b (Some home) (home_among (first + suc place) homes)) (other home.s_id (first + suc place) (λ k. omega (arith, here, k)))
    ∙ ap (λ s. home_among s homes) there
    ∙ home_in_place homes (first + 1) place (tail_is home homes first e)

-- before the first there is none
pub no_home_before : (homes : List SubscriberRows) (first s : ℕ) → s_ids homes ≡ range_with_len first (length homes) → s < first → home_among s homes ≡ None
no_home_before [] first s e lt = refl
no_home_before (home ∷ homes) first s e lt =
    let here = head_is home homes first e in
    ap (λ b. cond b (Some home) (home_among s homes)) (other home.s_id s (λ k. omega (arith, here, k)))
    ∙ no_home_before homes (first + 1) s (tail_is home homes first e) (omega arith)

-- the homes of a database
pub s_ids-homes_in : (u : Database) (ids : List ℕ) → s_ids (map (home_in u) ids) ≡ ids
s_ids-homes_in u [] = refl
s_ids-homes_in u (s ∷ ids) = ap (λ more. s ∷ more) (s_ids-homes_in u ids)

-- what `get` gives at a place
got : (r : Option (Bor SubscriberRows)) (homes : List SubscriberRows) (place : ℕ) → is_some r ≡ nat_lt place (length homes) → IfSome r (λ home. home.now ≡ get_or homes place home.now)
    → option_copied r ≡ slice_get homes place
got None homes place e h = sym (slice_get_past homes place (grind (arith, nat_tests)))
got (Some home) homes place e h = let within : place < length homes = grind (arith, nat_tests) in sym (slice_get_read homes (length homes) place home.now refl within h)

-- so it gives the subscriber's home
pub home_got : (r : Option (Bor SubscriberRows)) (homes : List SubscriberRows) (first place s : ℕ) → s_ids homes ≡ range_with_len first (length homes) → first ≤ s → place ≡ s - first
    → is_some r ≡ nat_lt place (length homes) → IfSome r (λ home. home.now ≡ get_or homes place home.now) → option_copied r ≡ home_among s homes
home_got r homes first place s ids le is some at =
    let here : first + place ≡ s = omega arith in
    got r homes place some at ∙ sym (home_in_place homes first place ids) ∙ ap (λ q. home_among q homes) here

-- the home that is found is the subscriber's own
found_s_id : (homes : List SubscriberRows) (s : ℕ) (home : SubscriberRows) → home_among s homes ≡ Some home → home.s_id ≡ s
found_s_id [] s home e = absurd (cc)
found_s_id (first ∷ more) s home e =
    elim (first.s_id == s) as (λ b. (first.s_id == s) ≡ b → cond b (Some first) (home_among s more) ≡ Some home → home.s_id ≡ s) [
      | true ↦ λ is k. let same : first ≡ home = cc in ap (λ h. h.s_id) (sym same) ∙ eqb-true first.s_id s is
      | false ↦ λ _ k. found_s_id more s home k
    ] refl e

pub own_home : (r : Option (Bor SubscriberRows)) (homes : List SubscriberRows) (s : ℕ) → option_copied r ≡ home_among s homes → IfSome r (λ home. home.now.s_id ≡ s)
own_home None homes s e = tt
own_home (Some home) homes s e = found_s_id homes s home.now (sym e)
