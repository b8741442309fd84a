-- trusted: read it
-- Clean rows: the six audits, counted over the four lists. Equal rows count twice.
use Rattle.std.specs.Prelude.{◌≡◌, ℕ, ◌≤◌, true, max, List, [], ◌∷◌, length, take, count_by, All}
use Rattle.tatp_tables.specs.Tuples.{Tuple}
use Rattle.tatp_tables.specs.Keys.{has_key, has_number}
use Rattle.tatp_tables.specs.Domains.{is_row}
use Rattle.tatp_tables.specs.declared.row.Rows.{Rows}
use Rattle.tatp_tables.specs.declared.table.Table.TheVariants.{Subscriber, AccessInfo, SpecialFacility, CallForwarding}

-- how many rows of a list begin with this key
abbrev pub count_of_key : List ℕ → List Tuple → ℕ
count_of_key key rows = count_by (has_key key) rows

-- each of 1 to the number of Subscriber rows, and 1 in any case, is the s_id of exactly one of them
abbrev pub IdsRunFromOne : Rows → Type 0
IdsRunFromOne r = (s : ℕ) → 1 ≤ s → s ≤ max 1 (length r.subscribers)
    → count_of_key (s ∷ []) r.subscribers ≡ 1

-- no number occurs twice
abbrev pub NumbersStandOnce : Rows → Type 0
NumbersStandOnce r = (n : ℕ) → count_by (has_number n) r.subscribers ≤ 1

-- no primary key occurs twice in Access_Info, Special_Facility or Call_Forwarding
pub record KeysStandOnce (r : Rows) : Type 0 where
  pub accesses : (s kind : ℕ) → count_of_key (s ∷ kind ∷ []) r.accesses ≤ 1
  pub facilities : (s kind : ℕ) → count_of_key (s ∷ kind ∷ []) r.facilities ≤ 1
  pub forwardings : (s kind start : ℕ) → count_of_key (s ∷ kind ∷ start ∷ []) r.forwardings ≤ 1

-- each Access_Info and Special_Facility row has its subscriber, each Call_Forwarding row its
-- facility
pub record ParentsStand (r : Rows) : Type 0 where
  pub accesses : All (λ row. 1 ≤ count_of_key (take 1 row) r.subscribers) r.accesses
  pub facilities : All (λ row. 1 ≤ count_of_key (take 1 row) r.subscribers) r.facilities
  pub forwardings : All (λ row. 1 ≤ count_of_key (take 2 row) r.facilities) r.forwardings

-- every value is in its column's domain
pub record ValuesFit (r : Rows) : Type 0 where
  pub subscribers : All (λ row. is_row Subscriber row ≡ true) r.subscribers
  pub accesses : All (λ row. is_row AccessInfo row ≡ true) r.accesses
  pub facilities : All (λ row. is_row SpecialFacility row ≡ true) r.facilities
  pub forwardings : All (λ row. is_row CallForwarding row ≡ true) r.forwardings

-- this many at least and at most
abbrev pub IsCountWithin : ℕ → ℕ → ℕ → Type 0
IsCountWithin least most n = (least ≤ n) × (n ≤ most)

-- each subscriber has 1 to 4 Access_Info rows and 1 to 4 Special_Facility rows, each facility at
-- most 3 Call_Forwarding rows
pub record CountsFit (r : Rows) : Type 0 where
  pub accesses :
      All (λ row. IsCountWithin 1 4 (count_of_key (take 1 row) r.accesses)) r.subscribers
  pub facilities :
      All (λ row. IsCountWithin 1 4 (count_of_key (take 1 row) r.facilities)) r.subscribers
  pub forwardings :
      All (λ row. IsCountWithin 0 3 (count_of_key (take 2 row) r.forwardings)) r.facilities

-- rows that pass the six audits
pub record IsClean (r : Rows) : Type 0 where
  pub ids : IdsRunFromOne r
  pub numbers : NumbersStandOnce r
  pub keys : KeysStandOnce r
  pub parents : ParentsStand r
  pub values : ValuesFit r
  pub counts : CountsFit r
