-- What is written for the lines of `call`: one reply a line, in the order of the lines, each on the
-- database that the lines before it left; and then, where they are asked for, the rows that all
-- lines left.
use Rattle.std.specs.Prelude.{◌≡◌, ℕ, ◌≤◌, Bool, true, false, List, [], ◌∷◌, ◌++◌, length, Option, Some, None, Result, Ok, Err, codes, decimal, if◌then◌else◌}
use Rattle.std.specs.Str.{is_utf8}
use Rattle.tatp_limits.specs.declared.limits.TheConstants.{MAX_SUBSCRIBERS}
use Rattle.tatp_tables.specs.Database.{Database, database_of}
use Rattle.tatp_tables.specs.Clean.{IsClean}
use Rattle.tatp_calls.specs.declared.call.Call.{Call}
use Rattle.tatp_calls.specs.declared.ask.Ask.TheVariants.{Txn}
use Rattle.tatp_calls.specs.declared.domains.BadArgument.{BadArgument}
use Rattle.tatp_calls.specs.Arguments.{arguments_accepted}
use Rattle.tatp_calls.specs.CallText.{call_of_line}
use Rattle.tatp_calls.specs.ReplyText.{reply_text}
use Rattle.tatp_calls.specs.Transactions.{transaction}
use Rattle.tatp_inputs.specs.Work.{Work}
use Rattle.tatp_console.specs.RowsWritten.{rows_if_asked}

-- ---- one line
-- the call that a line is, which has to be text
unfoldable pub call_in : List ℕ → Option Call
call_in line = if is_utf8 line then call_of_line line else None

-- the reply to a line that is no call
abbrev pub no_call_text : List ℕ
no_call_text = codes "REFUSED 5 BadLine"

-- the reply to a call with an argument outside its domain
abbrev pub bad_argument_text : BadArgument → List ℕ
bad_argument_text bad = codes "REFUSED 26 BadArgument " ++ decimal bad.0

-- the reply to a call for which there was no memory
abbrev pub no_memory_text : List ℕ
no_memory_text = codes "REFUSED 46 NoMemory"

-- the reply to a line, and the database after it
pub record LineAnswer : Type 0 where
  pub text : List ℕ
  pub database : Database

-- the answer to a call, where it was refused memory or not
abbrev pub call_answer : Bool → Call → Result (Unit {0}) BadArgument → Database → LineAnswer
call_answer refused call (Err bad) u = record { text = bad_argument_text bad; database = u }
call_answer true call (Ok fits) u = record { text = no_memory_text; database = u }
call_answer false call (Ok fits) u = record {
  text = reply_text (Txn call) (transaction call u).reply;
  database = (transaction call u).database;
}

-- the answer to a line, where it is a call or not
abbrev pub line_answer : Bool → Option Call → Database → LineAnswer
line_answer refused None u = record { text = no_call_text; database = u }
line_answer refused (Some call) u = call_answer refused call (arguments_accepted call) u

-- ---- all lines
-- whether the first of the lines left was refused memory: past the end of the marks none was
abbrev pub first_mark : List Bool → Bool
first_mark [] = false
first_mark (mark ∷ marks) = mark

abbrev pub later_marks : List Bool → List Bool
later_marks [] = []
later_marks (mark ∷ marks) = marks

-- a reply for each line, of which the marked ones were refused memory
unfoldable pub replies : List Bool → List (List ℕ) → Database → List ℕ
replies marks [] u = []
replies marks (line ∷ more) u =
    let first = line_answer (first_mark marks) (call_in line) u in
    first.text ++ 10 ∷ replies (later_marks marks) more first.database

-- the database after all lines, of which the marked ones were refused memory
unfoldable pub database_after : List Bool → List (List ℕ) → Database → Database
database_after marks [] u = u
database_after marks (line ∷ more) u =
    database_after (later_marks marks) more
    (line_answer (first_mark marks) (call_in line) u).database

-- ---- an input
-- the rows after all lines, where they are asked for
abbrev pub rows_left : Bool → List Bool → Work → List ℕ
rows_left rows marks work =
    rows_if_asked rows (length work.rows.subscribers)
    (database_after marks work.lines (database_of work.rows))

-- the text is what is written for these rows and lines, where the marked lines were refused memory,
-- and where the rows left are asked for or not
pub record ServesWork (rows : Bool) (marks : List Bool) (work : Work)
    (text : List ℕ) : Type 0 where
  pub few : length work.rows.subscribers ≤ MAX_SUBSCRIBERS
  pub clean : IsClean work.rows
  pub replied : text
      ≡ replies marks work.lines (database_of work.rows) ++ rows_left rows marks work

-- the same, where some lines were refused memory
abbrev pub Served : Bool → Work → List ℕ → Type 0
Served rows work text = (marks : List Bool) × ServesWork rows marks work text

-- it is a front of such a text
abbrev pub ServedFront : Bool → Work → List ℕ → Type 0
ServedFront rows work front = (rest : List ℕ) × Served rows work (front ++ rest)
