-- The numbers of extents that were just opened.
use Rattle.std.proofs.Common.{◌≡◌, ℕ, ◌+◌, ◌<◌, length, Some, slice_get, refl, sym, ◌∙◌, ap, arith}
use Rattle.std.proofs.lemmas.List.FromFn.{length-map-range_with_len}
use Rattle.tatp_tables.specs.Database.{Database}
use Rattle.tatp_extents.specs.Extents.{ExtentState}
use Rattle.tatp_extents.specs.Opening.{extent_count, homes_of_extent, opened_extent, opened_extents}
use Rattle.tatp_partition.specs.Opening.{AreNumbered}
use Rattle.tatp_partition.proofs.OpenLaws.{range_get, range_past}

abbrev pub the_extent : Database → ℕ → ℕ → ExtentState
the_extent u n e = opened_extent e (homes_of_extent u n e)

pub length-opened_extents : (u : Database) (n : ℕ) → length (opened_extents u n) ≡ extent_count n
length-opened_extents u n = length-map-range_with_len (the_extent u n) 1 (extent_count n)

pub at_index : (u : Database) (n i : ℕ) (x : ExtentState) → slice_get (opened_extents u n) i ≡ Some x → (i < extent_count n) × (x.number ≡ 1 + i)
at_index u n i x is =
    let lt : i < extent_count n = range_past (the_extent u n) (extent_count n) i 1 x is in
    let f : Some (the_extent u n (1 + i)) ≡ Some x = sym (range_get (the_extent u n) (extent_count n) i 1 (1 + i) refl lt) ∙ is in
    let same : the_extent u n (1 + i) ≡ x = cc in
    (lt, sym (ap (λ (y : ExtentState). y.number) same))

pub opened_are_numbered : (u : Database) (n : ℕ) → AreNumbered (length (opened_extents u n)) (opened_extents u n)
opened_are_numbered u n = record {
  numbers = λ i x is. let h = at_index u n i x is in (omega (arith, h.1), omega (arith, h.0, h.1, length-opened_extents u n));
  differ = λ i j x y is at other same. let h = at_index u n i x is in let k = at_index u n j y at in other (omega (arith, h.1, k.1, same));
}
