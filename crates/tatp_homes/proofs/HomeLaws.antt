-- What holds of a home after one of its tables changes.
use Rattle.std.specs.Prelude.{◌≡◌, ℕ, ◌≤◌, take, is_some}
use Rattle.std.proofs.Common.{refl, sym, ap, ◌∙◌, arith}
use Rattle.std.proofs.lemmas.List.{take-take}
use Rattle.tatp_tables.specs.Tuples.{Tuple, Tuples}
use Rattle.tatp_tables.specs.Keys.{row_at}
use Rattle.tatp_tables.specs.Columns.{key_length}
use Rattle.tatp_tables.specs.Database.{Database, in_table, with_table}
use Rattle.tatp_homes.specs.Home.{HaveParents, ParentsExist}
use Rattle.tatp_tables.proofs.KeyLaws.{Covers, has_key-alike, length-take-le, HasKeyed-from_row_at, row_at-some}
use Rattle.tatp_tables.specs.declared.table.Table.{Table}
use Rattle.tatp_tables.specs.declared.table.Table.TheVariants.{Subscriber, AccessInfo, SpecialFacility, CallForwarding}

-- what holds of each table holds after one is changed, if it holds of the new one
pub each_table : (P : Table → Tuples → Type 0) (t' : Table) (u : Database) (v : Tuples) → P t' v → ((t : Table) → P t (in_table t u)) → (t : Table) → P t (in_table t (with_table t' u v))
each_table P Subscriber u v h rest Subscriber = h
each_table P Subscriber u v h rest AccessInfo = rest AccessInfo
each_table P Subscriber u v h rest SpecialFacility = rest SpecialFacility
each_table P Subscriber u v h rest CallForwarding = rest CallForwarding
each_table P AccessInfo u v h rest Subscriber = rest Subscriber
each_table P AccessInfo u v h rest AccessInfo = h
each_table P AccessInfo u v h rest SpecialFacility = rest SpecialFacility
each_table P AccessInfo u v h rest CallForwarding = rest CallForwarding
each_table P SpecialFacility u v h rest Subscriber = rest Subscriber
each_table P SpecialFacility u v h rest AccessInfo = rest AccessInfo
each_table P SpecialFacility u v h rest SpecialFacility = h
each_table P SpecialFacility u v h rest CallForwarding = rest CallForwarding
each_table P CallForwarding u v h rest Subscriber = rest Subscriber
each_table P CallForwarding u v h rest AccessInfo = rest AccessInfo
each_table P CallForwarding u v h rest SpecialFacility = rest SpecialFacility
each_table P CallForwarding u v h rest CallForwarding = h

pub in_table-with_table : (t : Table) (u : Database) (v : Tuples) → in_table t (with_table t u v) ≡ v
in_table-with_table Subscriber u v = refl
in_table-with_table AccessInfo u v = refl
in_table-with_table SpecialFacility u v = refl
in_table-with_table CallForwarding u v = refl

-- ---- parents
-- parents are found among rows that cover them
pub HaveParents-among : (m n : ℕ) (parents more rows : Tuples) → m ≤ n → Covers n parents more → HaveParents m parents rows → HaveParents m more rows
HaveParents-among m n parents more rows l cover all q h =
    let k = HasKeyed-from_row_at parents (take m q) (all q h) in
    let c = cover k.row k.is_in in
    row_at-some more (take m q) c.0 c.1 (has_key-alike n (take m q) k.row c.0 (omega (arith, length-take-le m q)) c.2 ∙ k.keyed)

take-fewer : (m n : ℕ) (row other : Tuple) → m ≤ n → take n other ≡ take n row → take m other ≡ take m row
take-fewer m n row other l e = sym (take-take m n other l) ∙ ap (take m) e ∙ take-take m n row l

-- rows that are covered have parents
pub HaveParents-of : (m n : ℕ) (parents rows fewer : Tuples) → m ≤ n → Covers n fewer rows → HaveParents m parents rows → HaveParents m parents fewer
HaveParents-of m n parents rows fewer l cover all q h =
    let c = cover q h in
    ap (λ key. is_some (row_at parents key)) (sym (take-fewer m n q c.0 l c.2)) ∙ all c.0 c.1

pub ParentsExist-covered : (t : Table) (u : Database) (v : Tuples) → Covers (key_length t) (in_table t u) v → Covers (key_length t) v (in_table t u) → ParentsExist u → ParentsExist (with_table t u v)
ParentsExist-covered Subscriber u v there back p = record {
  of_accesses = HaveParents-among 1 1 u.subscribers v u.accesses (omega arith) there p.of_accesses;
  of_facilities = HaveParents-among 1 1 u.subscribers v u.facilities (omega arith) there p.of_facilities;
  of_forwardings = p.of_forwardings;
}
ParentsExist-covered AccessInfo u v there back p = record {
  of_accesses = HaveParents-of 1 2 u.subscribers u.accesses v (omega arith) back p.of_accesses;
  of_facilities = p.of_facilities;
  of_forwardings = p.of_forwardings;
}
ParentsExist-covered SpecialFacility u v there back p = record {
  of_accesses = p.of_accesses;
  of_facilities = HaveParents-of 1 2 u.subscribers u.facilities v (omega arith) back p.of_facilities;
  of_forwardings = HaveParents-among 2 2 u.facilities v u.forwardings (omega arith) there p.of_forwardings;
}
ParentsExist-covered CallForwarding u v there back p = record {
  of_accesses = p.of_accesses;
  of_facilities = p.of_facilities;
  of_forwardings = HaveParents-of 2 3 u.facilities u.forwardings v (omega arith) back p.of_forwardings;
}
