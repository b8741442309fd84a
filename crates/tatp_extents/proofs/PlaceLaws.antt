-- Homes in the places of an extent.
use Rattle.std.specs.Prelude.{◌≡◌, ◌≢◌, ◌↔◌, ℕ, ◌≤◌, ◌<◌, ◌+◌, true, false, Option, Some, None, IsSome, IsSomeAnd, is_some, slice_get, nat_lt, if◌then◌else◌}
use Rattle.std.proofs.Common.{refl, sym, ◌∙◌, ap, subst, arith}
use Rattle.std.proofs.Math.ListN.{set, length-set}
use Rattle.std.proofs.lemmas.Bool.Decides.{nat_tests}
use Rattle.tatp_homes.specs.Home.{SubscriberRows}
use Rattle.tatp_extents.specs.Extents.{ExtentState, IsExtent, LiesIn, home_at, first_subscriber, place_in, extent_of, with_home_at}
use Rattle.tatp_extents.specs.Pinning.{PinnedState, HasItsHome}
use Rattle.tatp_extents.proofs.ListLaws.{get_set_same, get_set_other, set_set, set_same, get_within, within_got}
use Rattle.tatp_extents.proofs.HistoryLaws.{at_place, in_order_at}

-- a home that is found stands in its place
found : (x : ExtentState) (s : ℕ) (home : SubscriberRows) → home_at x s ≡ Some home → (first_subscriber x.number ≤ s) × (slice_get x.homes (place_in x.number s) ≡ Some home)
found x s home h =
    elim (nat_lt s (first_subscriber x.number)) as (λ b. nat_lt s (first_subscriber x.number) ≡ b → (if b then None else slice_get x.homes (place_in x.number s)) ≡ Some home → (first_subscriber x.number ≤ s) × (slice_get x.homes (place_in x.number s) ≡ Some home)) [
      | true ↦ λ e is. absurd cc
      | false ↦ λ e is. (grind (arith, nat_tests, e), is)
    ] refl h

pub some_home : (x : ExtentState) (s : ℕ) → IsSome (home_at x s) ↔ LiesIn s x
some_home x s = (
  elim (nat_lt s (first_subscriber x.number)) as (λ b. nat_lt s (first_subscriber x.number) ≡ b → is_some (if b then None else slice_get x.homes (place_in x.number s)) ≡ true → LiesIn s x) [
    | true ↦ λ e is. absurd cc
    | false ↦ λ e is.
        let first : first_subscriber x.number ≤ s = grind (arith, nat_tests, e) in
        let within = within_got x.homes (place_in x.number s) is in (first, omega (arith, first, within))
  ] refl,
  λ lies. let home = get_within x.homes (place_in x.number s) (omega (arith, lies.0, lies.1)) in ap is_some (at_place x s lies.0 ∙ home.1),
)

pub its_own : (x : ExtentState) (s : ℕ) (home : SubscriberRows) → IsExtent x → home_at x s ≡ Some home → home.s_id ≡ s
its_own x s home h is =
    let at = found x s home is in
    let first : first_subscriber x.number ≤ s = at.0 in
    in_order_at x.homes (first_subscriber x.number) (place_in x.number s) home h.of_extent.in_order at.1 ∙ omega (arith, first)

pub one_extent : (x : ExtentState) (s : ℕ) → IsExtent x → LiesIn s x → extent_of s ≡ x.number
one_extent x s h lies = omega (arith, h.of_extent.numbered, h.of_extent.most, lies.0, lies.1)

pub put_in : (x : ExtentState) (s : ℕ) (home : SubscriberRows) → LiesIn s x → home_at (with_home_at x s home) s ≡ Some home
put_in x s home lies =
    let old = get_within x.homes (place_in x.number s) (omega (arith, lies.0, lies.1)) in
    at_place (with_home_at x s home) s lies.0 ∙ get_set_same x.homes (place_in x.number s) home old.0 old.1

pub put_back : (x : ExtentState) (s : ℕ) (home : SubscriberRows) → home_at x s ≡ Some home → with_home_at x s home ≡ x
put_back x s home is = ap (λ hs. record x { homes = hs }) (set_same x.homes (place_in x.number s) home (found x s home is).1)

pub put_twice : (x : ExtentState) (s : ℕ) (home new : SubscriberRows) → with_home_at (with_home_at x s home) s new ≡ with_home_at x s new
put_twice x s home new = ap (λ hs. record x { homes = hs }) (set_set x.homes (place_in x.number s) home new)

pub other_places : (x : ExtentState) (s other : ℕ) (home : SubscriberRows) → s ≢ other → LiesIn s x → home_at (with_home_at x s home) other ≡ home_at x other
other_places x s other home ne lies =
    elim (nat_lt other (first_subscriber x.number)) as (λ b. nat_lt other (first_subscriber x.number) ≡ b → (if b then None else slice_get (set x.homes (place_in x.number s) home) (place_in x.number other)) ≡ (if b then None else slice_get x.homes (place_in x.number other))) [
      | true ↦ λ e. refl
      | false ↦ λ e.
          let first : first_subscriber x.number ≤ other = grind (arith, nat_tests, e) in
          let own : first_subscriber x.number ≤ s = lies.0 in
          get_set_other x.homes (place_in x.number s) (place_in x.number other) home (λ same. ne (omega (arith, first, own, same)))
    ] refl

pub same_subscribers : (x : ExtentState) (s other : ℕ) (home : SubscriberRows) → LiesIn other (with_home_at x s home) ↔ LiesIn other x
same_subscribers x s other home =
    let long = length-set x.homes (place_in x.number s) home in (
      λ lies. (lies.0, subst (λ n. other < first_subscriber x.number + n) long lies.1),
      λ lies. (lies.0, subst (λ n. other < first_subscriber x.number + n) (sym long) lies.1),
    )

-- the home of the subscriber on which an extent is pinned is that subscriber's
pub has_its_home : (p : PinnedState) → IsExtent p.extent → LiesIn p.s_id p.extent → HasItsHome p
has_its_home p h lies =
    let x : ExtentState = p.extent in
    let home = get_within x.homes (place_in x.number p.s_id) (omega (arith, lies.0, lies.1)) in
    let at : home_at x p.s_id ≡ Some home.0 = at_place x p.s_id lies.0 ∙ home.1 in
    subst (λ (o : Option SubscriberRows). IsSomeAnd o (λ home. home.s_id ≡ p.s_id)) (sym at) (its_own x p.s_id home.0 h at)
