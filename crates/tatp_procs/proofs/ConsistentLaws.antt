-- Databases that are consistent: those of clean rows, and the rows of a home.
use Rattle.std.specs.Prelude.{◌≡◌, ℕ, ◌≤◌, true, List, [], ◌∷◌, take, All, slice_index}
use Rattle.std.specs.List.{list_any}
use Rattle.std.proofs.Common.{refl, sym, ap, subst, ◌∙◌, ⊎_elim}
use Rattle.std.proofs.lemmas.Bool.{eq-eqb, or_cases}
use Rattle.std.proofs.lemmas.List.Elements.{All-head, All-tail}
use Rattle.tatp_tables.specs.Tuples.{Tuple, has, same, set_of}
use Rattle.tatp_tables.specs.Keys.{has_key, has_number}
use Rattle.tatp_tables.specs.Columns.{key_length}
use Rattle.tatp_tables.specs.Domains.{is_row}
use Rattle.tatp_tables.specs.Database.{in_table, database_of}
use Rattle.tatp_homes.specs.Home.{SubscriberRows, HaveParents, IsHome}
use Rattle.tatp_tables.specs.Clean.{IsClean, ValuesFit, count_of_key}
use Rattle.tatp_tables.specs.Rows.{rows_in}
use Rattle.tatp_tables.specs.declared.row.Rows.{Rows}
use Rattle.tatp_tables.specs.declared.table.Table.{Table}
use Rattle.tatp_tables.specs.declared.table.Table.TheVariants.{Subscriber, AccessInfo, SpecialFacility, CallForwarding}
use Rattle.tatp_tables.proofs.TupleLaws.{same_is, has-set_of}
use Rattle.tatp_tables.proofs.KeyLaws.{key_is, has_key-take, row_at-some}
use Rattle.tatp_tables.proofs.CountLaws.{one_counted}
use Rattle.tatp_homes.proofs.CleanLaws.{row_key_stands_once}
use Rattle.tatp_numbers.proofs.FindLaws.{PassesOnce-counted}
use Rattle.tatp_procs.specs.Consistent.{IsConsistent}

-- ---- a home's rows
pub IsConsistent-home : (home : SubscriberRows) → IsHome home → IsConsistent home.tables
IsConsistent-home home is = record {
  keys = is.keys;
  numbers = λ row other h k e. is.keys Subscriber row other h k (key_is (home.s_id ∷ []) row (is.own Subscriber row h) ∙ sym (key_is (home.s_id ∷ []) other (is.own Subscriber other k)));
  parents = is.parents;
  rows = is.rows;
}

-- ---- clean rows
-- what holds of each row of a list holds of one that is there
of_each : (P : Tuple → Type 0) (xs : List Tuple) (row : Tuple) → All P xs → list_any (same row) xs ≡ true → P row
of_each P [] row all h = cc
of_each P (x ∷ xs) row all h = ⊎_elim (λ e. subst P (sym (same_is row x e)) (All-head P x xs all)) (λ more. of_each P xs row (All-tail P x xs all) more) (or_cases (same row x) (list_any (same row) xs) h)

in_database : (t : Table) (r : Rows) (row : Tuple) → has (in_table t (database_of r)) row ≡ true → list_any (same row) (rows_in t r) ≡ true
in_database Subscriber r row h = sym (has-set_of r.subscribers row) ∙ h
in_database AccessInfo r row h = sym (has-set_of r.accesses row) ∙ h
in_database SpecialFacility r row h = sym (has-set_of r.facilities row) ∙ h
in_database CallForwarding r row h = sym (has-set_of r.forwardings row) ∙ h

each_fits : (t : Table) (r : Rows) (row : Tuple) → ValuesFit r → list_any (same row) (rows_in t r) ≡ true → is_row t row ≡ true
each_fits Subscriber r row fit h = of_each (λ q. is_row Subscriber q ≡ true) r.subscribers row fit.subscribers h
each_fits AccessInfo r row fit h = of_each (λ q. is_row AccessInfo q ≡ true) r.accesses row fit.accesses h
each_fits SpecialFacility r row fit h = of_each (λ q. is_row SpecialFacility q ≡ true) r.facilities row fit.facilities h
each_fits CallForwarding r row fit h = of_each (λ q. is_row CallForwarding q ≡ true) r.forwardings row fit.forwardings h

-- a key that is counted is found in the set
parents_found : (n : ℕ) (parents rows : List Tuple) → All (λ row. 1 ≤ count_of_key (take n row) parents) rows → HaveParents n (set_of parents) (set_of rows)
parents_found n parents rows all row h =
    let parent = one_counted (has_key (take n row)) parents (of_each (λ q. 1 ≤ count_of_key (take n q) parents) rows row all (sym (has-set_of rows row) ∙ h)) in
    row_at-some (set_of parents) (take n row) parent.row (has-set_of parents parent.row ∙ parent.is_in) parent.passes

pub IsConsistent-clean : (r : Rows) → IsClean r → IsConsistent (database_of r)
IsConsistent-clean r clean = record {
  keys = λ t row other h k e.
      let here = in_database t r row h in
      PassesOnce-counted (has_key (take (key_length t) row)) (rows_in t r) (row_key_stands_once t r row clean.ids clean.keys (each_fits t r row clean.values here)) row other here (in_database t r other k)
      (has_key-take (key_length t) row) (ap (λ key. has_key key other) e ∙ has_key-take (key_length t) other);
  numbers = λ row other h k e. PassesOnce-counted (has_number (slice_index row 1)) r.subscribers (clean.numbers (slice_index row 1)) row other (in_database Subscriber r row h) (in_database Subscriber r other k)
      (eq-eqb (slice_index row 1) (slice_index row 1) refl) (eq-eqb (slice_index other 1) (slice_index row 1) (sym e));
  parents = record {
    of_accesses = parents_found 1 r.subscribers r.accesses clean.parents.accesses;
    of_facilities = parents_found 1 r.subscribers r.facilities clean.parents.facilities;
    of_forwardings = parents_found 2 r.facilities r.forwardings clean.parents.forwardings;
  };
  rows = λ t row h. each_fits t r row clean.values (in_database t r row h);
}
