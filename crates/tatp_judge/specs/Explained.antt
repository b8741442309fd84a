-- trusted: read it
-- The lines of a history that are reported for a subscriber whose calls no order explains.
use Rattle.std.specs.Prelude.{◌≡◌, ℕ, suc, ◌<◌, nat_lt, if◌then◌else◌, List, [], ◌∷◌, ◌++◌, length, take, filter, Option, Some, None}
use Rattle.tatp_tables.specs.Database.{Database}
use Rattle.tatp_history.specs.declared.line.Line.{Line}
use Rattle.tatp_history.specs.declared.line.Line.TheVariants.{Ask, End, Abort, Lost}
use Rattle.tatp_history.specs.Locality.{is_on}
use Rattle.tatp_history.specs.SubscriberEvents.{OpenCalls, no_calls, opened_by, NothingIsOpen}

-- ---- lines of one subscriber's calls
-- the number of a line that ends a client's open call, if it has one
abbrev pub number_of_end : Option ℕ → ℕ → List ℕ
number_of_end None number = []
number_of_end (Some asked) number = number ∷ []

-- the number of the line, where it asks a call on the subscriber or ends one that is open
abbrev pub number_on : Database → ℕ → ℕ → OpenCalls → Line → List ℕ
number_on u s number opened (Ask client call) = if is_on u s call then number ∷ [] else []
number_on u s number opened (End client recorded) = number_of_end (opened client) number
number_on u s number opened (Abort client) = number_of_end (opened client) number
number_on u s number opened (Lost client) = number_of_end (opened client) number

-- the numbers of all such lines among lines of which the first has this number
abbrev pub numbers_on : Database → ℕ → ℕ → OpenCalls → List Line → List ℕ
numbers_on u s number opened [] = []
numbers_on u s number opened (line ∷ more) =
    number_on u s number opened line
    ++ numbers_on u s (suc number) (opened_by u s number opened line) more

-- those in a history that come after the line `from`
abbrev pub numbers_since : Database → ℕ → ℕ → List Line → List ℕ
numbers_since u s from lines =
    filter (λ number. nat_lt from number) (numbers_on u s 1 no_calls lines)

-- ---- a window
-- the numbers of the subscriber's lines after the line `from`, before the last of the lines. None
-- of its calls was open there; and wherever that is so after a later line, the subscriber had no
-- line after `from` up to that one
pub record AreWindowNumbers (u : Database) (s : ℕ) (lines : List Line) (numbers : List ℕ)
    : Type 0 where
  pub from : ℕ
  pub before : from < length lines
  pub none : NothingIsOpen u s (take from lines)
  pub last : (later : ℕ) → later < length lines → NothingIsOpen u s (take later lines)
      → numbers_since u s from (take later lines) ≡ []
  pub numbers_are : numbers ≡ numbers_since u s from lines
