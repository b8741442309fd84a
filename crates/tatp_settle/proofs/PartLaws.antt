-- The extents that a population makes are separate, and a database that keeps its subscribers is the homes of all of them.
use Rattle.std.proofs.Common.{◌≡◌, ℕ, zero, suc, ◌+◌, ◌-◌, ◌<◌, ◌≤◌, true, List, [], ◌∷◌, ◌++◌, length, take, Option, Some, None, is_some, slice_get, slice_index, refl, sym, ◌∙◌, ap, arith}
use Rattle.std.specs.List.{range_with_len, flat_map, list_any}
use Rattle.std.specs.Option.{option_map}
use Rattle.std.proofs.lemmas.List.Folds.{flat_map-map}
use Rattle.tatp_tables.specs.Tuples.{Tuple, Tuples, has}
use Rattle.tatp_tables.specs.Keys.{has_key, row_at}
use Rattle.tatp_tables.specs.Database.{Database, in_table}
use Rattle.tatp_homes.specs.Home.{SubscriberRows}
use Rattle.tatp_homes.specs.Loading.{homes_in}
use Rattle.tatp_tables.specs.Columns.{column_count}
use Rattle.tatp_tables.specs.declared.table.Table.{Table}
use Rattle.tatp_tables.specs.declared.table.Table.TheVariants.{Subscriber, AccessInfo, SpecialFacility, CallForwarding}
use Rattle.tatp_tables.proofs.KeyLaws.{key_is, has_key-take, has_key-alike, has_key-head, first_has_key, row_at-some, HasKeyed-from_row_at}
use Rattle.tatp_numbers.specs.declared.key.Key.{Key}
use Rattle.tatp_numbers.specs.declared.key.Key.TheVariants.{Id}
use Rattle.tatp_numbers.specs.Homes.{s_id_of, home_of_key}
use Rattle.tatp_procs.specs.Consistent.{IsConsistent}
use Rattle.tatp_procs.proofs.HomeRowLaws.{row_length}
use Rattle.tatp_extents.specs.Extents.{first_subscriber}
use Rattle.tatp_extents.specs.Opening.{extent_count, last_subscriber, homes_of_extent, opened_extent}
use Rattle.tatp_extents.specs.HomeRows.{AreRowsOf}
use Rattle.tatp_extents.proofs.OpeningLaws.{homes_of_all}

-- ---- ranges
pub range_got : (a n i x : ℕ) → slice_get (range_with_len a n) i ≡ Some x → (i < n) × (x ≡ a + i)
range_got a zero i x h = absurd cc
range_got a (suc n) zero x h = let same : a ≡ x = cc in (omega arith, omega (arith, same))
range_got a (suc n) (suc i) x h = let rest = range_got (a + 1) n i x h in (omega (arith, rest.0), omega (arith, rest.1))

pub range_gives : (a n i : ℕ) → i < n → slice_get (range_with_len a n) i ≡ Some (a + i)
range_gives a zero i l = absurd (omega (arith, l))
range_gives a (suc n) zero l = let same : a ≡ a + 0 = omega arith in ap Some same
range_gives a (suc n) (suc i) l = let same : a + 1 + i ≡ a + suc i = omega arith in range_gives (a + 1) n i (omega (arith, l)) ∙ ap Some same

joined_alike : {X : Type 0} (f g : ℕ → List X) (a n : ℕ) → ((e : ℕ) → a ≤ e → e < a + n → f e ≡ g e) → flat_map f (range_with_len a n) ≡ flat_map g (range_with_len a n)
joined_alike f g a zero same = refl
joined_alike f g a (suc n) same = λ i. same a (omega arith) (omega arith) i ++ joined_alike f g (a + 1) n (λ e l m. same e (omega (arith, l)) (omega (arith, m))) i

-- ---- extents
-- the subscribers of extent e, of n in all; extent 0 has none
abbrev pub ids_of_extent : ℕ → ℕ → List ℕ
ids_of_extent n e = range_with_len (first_subscriber e) (last_subscriber n e + 1 - first_subscriber e)

-- no subscriber stands in two places
pub extents_are_separate : (n e e' i j s : ℕ) → slice_get (ids_of_extent n e) i ≡ Some s → slice_get (ids_of_extent n e') j ≡ Some s → (e ≡ e') × (i ≡ j)
extents_are_separate n e e' i j s g h =
    let one = range_got (first_subscriber e) (last_subscriber n e + 1 - first_subscriber e) i s g in
    let other = range_got (first_subscriber e') (last_subscriber n e' + 1 - first_subscriber e') j s h in
    let same : e ≡ e' = omega (arith, one.0, one.1, other.0, other.1) in
    (same, omega (arith, one.1, other.1, same))

-- the homes of all extents, one after another, are all homes
pub extents_joined : (u : Database) (n : ℕ) (last : ℕ → List SubscriberRows) → ((e : ℕ) → 1 ≤ e → e ≤ extent_count n → last e ≡ homes_of_extent u n e) → flat_map last (range_with_len 1 (extent_count n)) ≡ homes_in u 1 n
extents_joined u n last same =
    joined_alike last (homes_of_extent u n) 1 (extent_count n) (λ e l m. same e l (omega (arith, m)))
    ∙ sym (flat_map-map (λ x. x.homes) (λ e. opened_extent e (homes_of_extent u n e)) (range_with_len 1 (extent_count n)))
    ∙ homes_of_all u n

-- ---- rows of some subscribers
-- what holds of a row's s_id holds of another's with the same
same_s_id : (ids : List ℕ) (s : ℕ) (row other : Tuple) → has_key (s ∷ []) row ≡ true → has_key (s ∷ []) other ≡ true → list_any (λ k. has_key (k ∷ []) row) ids ≡ true → list_any (λ k. has_key (k ∷ []) other) ids ≡ true
same_s_id ids s row other a b h =
    let heads : take 1 other ≡ take 1 row = key_is (s ∷ []) other b ∙ sym (key_is (s ∷ []) row a) in
    (λ i. list_any (λ k. has_key-alike 1 (k ∷ []) row other (omega arith) heads i) ids) ∙ h

-- each row is of one of these subscribers
abbrev AreOfThese : List ℕ → Tuples → Type 0
AreOfThese ids u = (row : Tuple) → has u row ≡ true → list_any (λ s. has_key (s ∷ []) row) ids ≡ true

-- a row under one of these is one of these
under_parent : (ids : List ℕ) (parents : Tuples) (m : ℕ) (row : Tuple) → AreOfThese ids parents → 1 ≤ m → 1 ≤ length row → is_some (row_at parents (take m row)) ≡ true → list_any (λ s. has_key (s ∷ []) row) ids ≡ true
under_parent ids parents zero row all l long there = absurd (omega (arith, l))
under_parent ids parents (suc m) [] all l long there = absurd (omega (arith, long))
under_parent ids parents (suc m) (x ∷ xs) all l long there =
    let parent = HasKeyed-from_row_at parents (x ∷ take m xs) there in
    same_s_id ids x parent.row (x ∷ xs) (has_key-head x (take m xs) parent.row parent.keyed) (has_key-take 1 (x ∷ xs)) (all parent.row parent.is_in)

some_mapped : {A B : Type 0} (f : A → B) (o : Option A) → is_some (option_map f o) ≡ is_some o
some_mapped f None = refl
some_mapped f (Some x) = refl

has_columns : (t : Table) → 1 ≤ column_count t
has_columns Subscriber = omega arith
has_columns AccessInfo = omega arith
has_columns SpecialFacility = omega arith
has_columns CallForwarding = omega arith

module _ (ids : List ℕ) (u after : Database) (are : AreRowsOf ids u) (is : IsConsistent after) (keys : (key : Key) → home_of_key after.subscribers key ≡ home_of_key u.subscribers key) where
  long : (t : Table) (row : Tuple) → has (in_table t after) row ≡ true → 1 ≤ length row
  long t row h = let count = row_length t after row is h in let some = has_columns t in omega (arith, count, some)

  subscribers_stay : AreOfThese ids after.subscribers
  subscribers_stay row h =
      let s : ℕ = slice_index row 0 in
      let key : has_key (s ∷ []) row ≡ true = first_has_key s row (long Subscriber row h) refl in
      let there : is_some (row_at after.subscribers (s ∷ [])) ≡ true = row_at-some after.subscribers (s ∷ []) row h key in
      let before : is_some (row_at u.subscribers (s ∷ [])) ≡ true =
      sym (some_mapped s_id_of (row_at u.subscribers (s ∷ []))) ∙ ap is_some (sym (keys (Id s))) ∙ some_mapped s_id_of (row_at after.subscribers (s ∷ [])) ∙ there in
      let found = HasKeyed-from_row_at u.subscribers (s ∷ []) before in
      same_s_id ids s found.row row found.keyed key (are Subscriber found.row found.is_in)

  facilities_stay : AreOfThese ids after.facilities
  facilities_stay row h = under_parent ids after.subscribers 1 row subscribers_stay (omega arith) (long SpecialFacility row h) (is.parents.of_facilities row h)

  -- where each key names the subscriber that it named, each row is of one of the subscribers that there were
  pub rows_stay : AreRowsOf ids after
  rows_stay Subscriber row h = subscribers_stay row h
  rows_stay AccessInfo row h = under_parent ids after.subscribers 1 row subscribers_stay (omega arith) (long AccessInfo row h) (is.parents.of_accesses row h)
  rows_stay SpecialFacility row h = facilities_stay row h
  rows_stay CallForwarding row h = under_parent ids after.facilities 2 row facilities_stay (omega arith) (long CallForwarding row h) (is.parents.of_forwardings row h)
