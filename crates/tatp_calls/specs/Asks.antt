-- What a client asks that is no transaction.
use Rattle.std.specs.Prelude.{ℕ, List}
use Rattle.tatp_numbers.specs.declared.key.Key.{Key}

-- a call of a procedure, by its number, which may be none's, with any arguments, on the subscriber
-- whom the key names
pub record RawCall : Type 0 where
  pub procedure : ℕ
  pub arguments : List ℕ
  pub key : Key
