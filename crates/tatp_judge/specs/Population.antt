-- The rows with which a history begins, as homes and a directory.
use Rattle.std.specs.Prelude.{◌≡◌, ℕ, ◌≤◌, List, Some, length}
use Rattle.tatp_tables.specs.Database.{Database}
use Rattle.tatp_homes.specs.Home.{SubscriberRows}
use Rattle.tatp_numbers.specs.declared.key.Key.{Key}
use Rattle.tatp_numbers.specs.declared.key.Key.TheVariants.{Id}
use Rattle.tatp_numbers.specs.Homes.{home_of_key}
use Rattle.tatp_numbers.specs.Listing.{Listing, answer}
use Rattle.tatp_procs.specs.Consistent.{IsConsistent}
use Rattle.tatp_judge.specs.Searched.{AreHomesOf}

-- the directory answers for the database, whose subscribers are 1 to n
pub record IsDirectoryOf (u : Database) (n : ℕ) (directory : Listing) : Type 0 where
  pub keys : (key : Key) → answer directory key ≡ home_of_key u.subscribers key
  pub named : (key : Key) (s : ℕ)
      → answer directory key ≡ Some s → (1 ≤ s) × (s ≤ n)
  pub each : (s : ℕ) → 1 ≤ s → s ≤ n → answer directory (Id s) ≡ Some s

-- homes and directory are those of a consistent database
pub record AreRowsOf (u : Database) (homes : List SubscriberRows) (directory : Listing)
    : Type 0 where
  pub consistent : IsConsistent u
  pub homes_are : AreHomesOf u homes
  pub directory_is : IsDirectoryOf u (length homes) directory
