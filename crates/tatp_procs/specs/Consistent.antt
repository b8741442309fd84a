-- Databases that pass the audits of keys, numbers, parents and values.
use Rattle.std.specs.Prelude.{◌≡◌, true, slice_index}
use Rattle.tatp_tables.specs.Tuples.{Tuple, Tuples, has}
use Rattle.tatp_tables.specs.Database.{Database}
use Rattle.tatp_homes.specs.Home.{AreRows, KeysAreUnique, ParentsExist}

-- no two subscribers have one number
abbrev pub NumbersAreUnique : Tuples → Type 0
NumbersAreUnique u =
    (row other : Tuple)
    → has u row ≡ true
    → has u other ≡ true
    → slice_index row 1 ≡ slice_index other 1
    → row ≡ other

-- no s_id and no other key occurs twice, no number does, parents exist, and values are in their
-- domains
pub record IsConsistent (u : Database) : Type 0 where
  pub keys : KeysAreUnique u
  pub numbers : NumbersAreUnique u.subscribers
  pub parents : ParentsExist u
  pub rows : AreRows u
