-- Whether a log of a number passes a test, as that it is mixed.
use Rattle.std.proofs.Common.{◌≡◌, ℕ, zero, suc, ◌+◌, ◌==◌, ◌||◌, ◌&&◌, Bool, true, false, List, [], ◌∷◌, map, filter, All, Contains, refl, sym, ◌∙◌, ap, subst, arith, add-one}
use Rattle.std.specs.Bool.{Decides}
use Rattle.std.specs.List.{list_any}
use Rattle.std.specs.Option.{option_map_or}
use Rattle.std.proofs.lemmas.Bool.{ne_eqb, eq-eqb, eqb-true}
use Rattle.std.proofs.lemmas.Bool.Decides.{Decides-like}
use Rattle.std.proofs.lemmas.List.Elements.{All-head, All-tail}
use Rattle.std.proofs.lemmas.List.Folds.{list_any-append}
use Rattle.tatp_extents.specs.Extents.{ExtentState}
use Rattle.tatp_partition.specs.Sites.{slot}
use Rattle.tatp_settle.specs.Closings.{ClosedSiteState, ClosedState, ExtentLog, extents_in_slots, extents_of, logs_of, log_of_homeless, log_of_extent, IsClosedSite, IsClosed, extents_at}
use Rattle.tatp_settle.specs.Causes.{IsMixed, IsInParcel}
use Rattle.tatp_settle.specs.ExtentTests.{mixed_here, mixed_as}
use Rattle.tatp_settle.proofs.StandingLaws.{has_number, in_site}
use Rattle.tatp_settle.proofs.TestLaws.{Passes, decides_passes, any_mapped, any_filtered, any_both, any_joined, any_listed}

-- ---- the logs of a number that pass a test
abbrev log_passes : (ExtentLog → Bool) → ℕ → ExtentLog → Bool
log_passes test e log = (log.extent == e) && test log

abbrev homeless_passes : (ExtentLog → Bool) → ℕ → ClosedSiteState → Bool
homeless_passes test e s = (e == 0) && ((s.partition == 0) && test (log_of_homeless s))

abbrev extent_passes : (ExtentLog → Bool) → ℕ → ClosedSiteState → Bool
extent_passes test e s = option_map_or (λ (x : ExtentState). test (log_of_extent x)) (slot s.slots e) false

abbrev passes_here : (ExtentLog → Bool) → ℕ → ClosedSiteState → Bool
passes_here test e s = homeless_passes test e s || extent_passes test e s

abbrev passes_as : (ExtentLog → Bool) → ℕ → ExtentState → Bool
passes_as test e x = (x.number == e) && test (log_of_extent x)

zero_is : (e : ℕ) → (0 == e) ≡ (e == 0)
zero_is zero = refl
zero_is (suc e) =
    let apart : suc e ≡ 0 → ⊥ = λ z. let k : e + 1 ≡ 0 = add-one e ∙ z in omega (arith, k) in
    ne_eqb 0 (suc e) (λ z. apart (sym z)) ∙ sym (ne_eqb (suc e) 0 apart)

and_swap : (a b c : Bool) → (a && (b && c)) ≡ (b && (a && c))
and_swap true true c = refl
and_swap true false c = refl
and_swap false true c = refl
and_swap false false c = refl

homeless_one : (test : ExtentLog → Bool) (e : ℕ) (s : ClosedSiteState) → ((s.partition == 0) && log_passes test e (log_of_homeless s)) ≡ homeless_passes test e s
homeless_one test e s = and_swap (s.partition == 0) (0 == e) (test (log_of_homeless s)) ∙ ap (λ b. b && ((s.partition == 0) && test (log_of_homeless s))) (zero_is e)

any_agree : {A : Type 0} (f g : A → Bool) → ((x : A) → f x ≡ g x) → (xs : List A) → list_any f xs ≡ list_any g xs
any_agree f g h [] = refl
any_agree f g h (x ∷ xs) = λ i. h x i || any_agree f g h xs i

at_homeless : (test : ExtentLog → Bool) (e : ℕ) (sites : List ClosedSiteState)
    → list_any (log_passes test e) (map log_of_homeless (filter (λ (s : ClosedSiteState). s.partition == 0) sites)) ≡ list_any (homeless_passes test e) sites
at_homeless test e sites =
    any_mapped (log_passes test e) log_of_homeless (filter (λ (s : ClosedSiteState). s.partition == 0) sites)
    ∙ (any_filtered (λ (s : ClosedSiteState). s.partition == 0) (λ s. log_passes test e (log_of_homeless s)) sites
    ∙ any_agree (λ (s : ClosedSiteState). (s.partition == 0) && log_passes test e (log_of_homeless s)) (homeless_passes test e) (homeless_one test e) sites)

in_one : (test : ExtentLog → Bool) (e : ℕ) (s : ClosedSiteState) → IsClosedSite s → list_any (passes_as test e) (extents_in_slots s.slots) ≡ extent_passes test e s
in_one test e s h =
    sym (any_filtered (has_number e) (λ (x : ExtentState). test (log_of_extent x)) (extents_in_slots s.slots))
    ∙ (ap (list_any (λ (x : ExtentState). test (log_of_extent x))) (in_site s e h) ∙ any_listed (λ (x : ExtentState). test (log_of_extent x)) (slot s.slots e))

in_each : (test : ExtentLog → Bool) (e : ℕ) (sites : List ClosedSiteState) → All IsClosedSite sites
    → list_any (λ (s : ClosedSiteState). list_any (passes_as test e) (extents_in_slots s.slots)) sites ≡ list_any (extent_passes test e) sites
in_each test e [] all = refl
in_each test e (s ∷ sites) all = λ i. in_one test e s (All-head IsClosedSite s sites all) i || in_each test e sites (All-tail IsClosedSite s sites all) i

or_assoc : (a b c : Bool) → (a || (b || c)) ≡ ((a || b) || c)
or_assoc true b c = refl
or_assoc false b c = refl

-- the test of all logs, part by part
tested : (test : ExtentLog → Bool) (c : ClosedState) (e : ℕ) → IsClosed c → list_any (log_passes test e) (logs_of c) ≡ (list_any (passes_here test e) c.sites || list_any (passes_as test e) c.parcels)
tested test c e h =
    list_any-append (log_passes test e) (map log_of_homeless (filter (λ (s : ClosedSiteState). s.partition == 0) c.sites)) (map log_of_extent (extents_of c))
    ∙ ((λ i. at_homeless test e c.sites i || any_mapped (log_passes test e) log_of_extent (extents_of c) i)
    ∙ (ap (λ b. list_any (homeless_passes test e) c.sites || b)
    (list_any-append (passes_as test e) (extents_at c.sites) c.parcels
    ∙ ap (λ b. b || list_any (passes_as test e) c.parcels) (any_joined (passes_as test e) (λ (s : ClosedSiteState). extents_in_slots s.slots) c.sites ∙ in_each test e c.sites h.sites))
    ∙ (or_assoc (list_any (homeless_passes test e) c.sites) (list_any (extent_passes test e) c.sites) (list_any (passes_as test e) c.parcels)
    ∙ ap (λ b. b || list_any (passes_as test e) c.parcels) (any_both (homeless_passes test e) (extent_passes test e) c.sites))))

and_parts : (a b : Bool) → (a && b) ≡ true → (a ≡ true) × (b ≡ true)
and_parts true b h = (refl, h)
and_parts false b h = absurd (let k : false ≡ true = h in cc)

and_both : (a b : Bool) → a ≡ true → b ≡ true → (a && b) ≡ true
and_both a b h k = ap (λ x. x && b) h ∙ k

-- a log of the number passes
abbrev LogPasses : (ExtentLog → Bool) → ClosedState → ℕ → Type 0
LogPasses test c e = (log : ExtentLog) × Contains (logs_of c) log × (log.extent ≡ e) × (test log ≡ true)

log_is : (test : ExtentLog → Bool) (c : ClosedState) (e : ℕ) → IsClosed c → (a b : Bool) → a ≡ list_any (passes_here test e) c.sites → b ≡ list_any (passes_as test e) c.parcels → Decides (a || b) (LogPasses test c e)
log_is test c e h a b p q =
    subst (λ r. Decides r (LogPasses test c e)) (tested test c e h ∙ (λ i. sym p i || sym q i))
    (Decides-like (list_any (log_passes test e) (logs_of c))
    (λ (m : Passes (log_passes test e) (logs_of c)). let parts = and_parts (m.0.extent == e) (test m.0) m.2 in (m.0, m.1, eqb-true m.0.extent e parts.0, parts.1))
    (λ m. (m.0, m.1, and_both (m.0.extent == e) (test m.0) (eq-eqb m.0.extent e m.2) m.3))
    (decides_passes (log_passes test e) (logs_of c)))

-- ---- the tests of extents
pub mixed_is : (c : ClosedState) (e : ℕ) → IsClosed c → (a b : Bool) → a ≡ list_any (λ s. mixed_here s e) c.sites → b ≡ list_any (mixed_as e) c.parcels → Decides (a || b) (IsMixed c e)
mixed_is c e h a b p q = log_is (λ log. log.mixed) c e h a b p q

pub parcel_is : (c : ClosedState) (e : ℕ) → Decides (list_any (has_number e) c.parcels) (IsInParcel c e)
parcel_is c e = Decides-like (list_any (has_number e) c.parcels)
    (λ (m : Passes (has_number e) c.parcels). (m.0, m.1, eqb-true m.0.number e m.2))
    (λ m. (m.0, m.1, eq-eqb m.0.number e m.2))
    (decides_passes (has_number e) c.parcels)
