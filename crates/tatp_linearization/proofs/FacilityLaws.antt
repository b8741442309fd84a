-- Facilities that are there, and active, once data of one is set.
use Rattle.std.proofs.Common.{◌≡◌, ℕ, true, nat_eq, is_some, List, [], ◌∷◌, Option, Some, None, slice_set, refl, sym, ◌∙◌, ap, arith}
use Rattle.std.proofs.lemmas.List.{get_or-set_other, take-set-le}
use Rattle.tatp_tables.specs.Tuples.{Tuple, Tuples, has, replace_row}
use Rattle.tatp_tables.specs.Keys.{has_key, row_at}
use Rattle.tatp_tables.specs.Database.{Database}
use Rattle.tatp_tables.specs.declared.table.Table.TheVariants.{SpecialFacility}
use Rattle.tatp_tables.proofs.KeyLaws.{key_is, has_key-alike, row_at-has}
use Rattle.tatp_procs.specs.Consistent.{IsConsistent}
use Rattle.tatp_calls.specs.declared.call.Call.TheVariants.{UpdateSubscriberData}
use Rattle.tatp_calls.specs.Transactions.{transaction, updates_both, is_active}
use Rattle.tatp_history.proofs.ReplacedLaws.{told_same}

-- ---- facilities
-- the same ones are there, and active
abbrev pub AreAlikeFacilities : Tuples → Tuples → Type 0
AreAlikeFacilities own others = (s t : ℕ) → (is_some (row_at others (s ∷ t ∷ [])) ≡ is_some (row_at own (s ∷ t ∷ []))) × (is_active (row_at others (s ∷ t ∷ [])) ≡ is_active (row_at own (s ∷ t ∷ [])))

data_set : (u : Database) → IsConsistent u → (facility : Tuple) (y : ℕ) → has u.facilities facility ≡ true → AreAlikeFacilities u.facilities (replace_row u.facilities facility (slice_set facility 4 y))
data_set u is facility y there s t =
    let key : List ℕ = s ∷ t ∷ [] in
    let new : Tuple = slice_set facility 4 y in
    let alike = has_key-alike 2 (s ∷ t ∷ []) facility new (omega arith) (take-set-le 2 facility 4 y (omega arith)) in
    let once : (a b : Tuple) → has u.facilities a ≡ true → has u.facilities b ≡ true → has_key (s ∷ t ∷ []) a ≡ true → has_key (s ∷ t ∷ []) b ≡ true → a ≡ b
    = λ a b ha hb pa pb. is.keys SpecialFacility a b ha hb (key_is (s ∷ t ∷ []) a pa ∙ sym (key_is (s ∷ t ∷ []) b pb)) in (
      told_same (has_key key) u.facilities facility new there alike once is_some refl,
      told_same (has_key key) u.facilities facility new there alike once is_active (ap (λ n. nat_eq n 1) (get_or-set_other facility 4 2 y 0 (λ d. omega (arith, d)))),
    )

both_alike : (u : Database) → IsConsistent u → (x y : ℕ) (row facility : Option Tuple) → ((q : Tuple) → facility ≡ Some q → has u.facilities q ≡ true) → AreAlikeFacilities u.facilities (updates_both u x y row facility).database.facilities
both_alike u is x y None facility there = λ s t. (refl, refl)
both_alike u is x y (Some row) None there = λ s t. (refl, refl)
both_alike u is x y (Some row) (Some facility) there = data_set u is facility y (there facility refl)

pub alike_after : (u : Database) → IsConsistent u → (s x t y : ℕ) → AreAlikeFacilities u.facilities (transaction (UpdateSubscriberData s x t y) u).database.facilities
alike_after u is s x t y = both_alike u is x y (row_at u.subscribers (s ∷ [])) (row_at u.facilities (s ∷ t ∷ [])) (λ q e. row_at-has u.facilities (s ∷ t ∷ []) q e)
