-- Lines are answered as their calls are, one after another.
use Rattle.std.proofs.Common.{◌≡◌, ℕ, ◌∙◌, refl, sym, ap, ap₂, Bool, true, false, List, [], ◌∷◌, ◌++◌, length, Option, Some, None, Result, Ok, Err, append_assoc}
use Rattle.tatp_tables.specs.Database.{Database, database_of}
use Rattle.tatp_calls.specs.declared.call.Call.{Call}
use Rattle.tatp_calls.specs.declared.domains.BadArgument.{BadArgument}
use Rattle.tatp_calls.specs.Arguments.{arguments_accepted}
use Rattle.tatp_calls.specs.Order.{in_order}
use Rattle.tatp_console.specs.RowsWritten.{rows_if_asked}
use Rattle.tatp_console.specs.AnsweredCalls.{call_before, line_before, calls_of, call_told, line_told, told, marks_after}
use Rattle.tatp_inputs.specs.Work.{Work}
use Rattle.tatp_console.specs.Served.{call_in, call_answer, line_answer, first_mark, later_marks, replies, database_after, ServesWork}

-- ---- what is written
abbrev ToldInOrder : List Bool → List (List ℕ) → Type 0
ToldInOrder marks lines = (u : Database) → replies marks lines u ≡ told marks lines (in_order u (calls_of marks lines)).replies

call_in_order : (refused : Bool) (later : List Bool) (more : List (List ℕ)) (call : Call) (fits : Result (Unit {0}) BadArgument) (u : Database) → ToldInOrder later more
    → (call_answer refused call fits u).text ++ 10 ∷ replies later more (call_answer refused call fits u).database
    ≡ call_told refused call fits (in_order u (call_before refused call fits (calls_of later more))).replies (told later more)
call_in_order true later more call (Ok fits) u h = ap (λ rest. (call_answer true call (Ok fits) u).text ++ 10 ∷ rest) (h u)
call_in_order false later more call (Ok fits) u h = ap (λ rest. (call_answer false call (Ok fits) u).text ++ 10 ∷ rest) (h (call_answer false call (Ok fits) u).database)
call_in_order refused later more call (Err bad) u h = ap (λ rest. (call_answer refused call (Err bad) u).text ++ 10 ∷ rest) (h u)

line_in_order : (refused : Bool) (later : List Bool) (more : List (List ℕ)) (call : Option Call) (u : Database) → ToldInOrder later more
    → (line_answer refused call u).text ++ 10 ∷ replies later more (line_answer refused call u).database
    ≡ line_told refused call (in_order u (line_before refused call (calls_of later more))).replies (told later more)
line_in_order refused later more None u h = ap (λ rest. (line_answer refused None u).text ++ 10 ∷ rest) (h u)
line_in_order refused later more (Some call) u h = call_in_order refused later more call (arguments_accepted call) u h

pub told_in_order : (marks : List Bool) (lines : List (List ℕ)) (u : Database) → replies marks lines u ≡ told marks lines (in_order u (calls_of marks lines)).replies
unfolding replies
told_in_order marks [] u = refl
told_in_order marks (line ∷ more) u = line_in_order (first_mark marks) (later_marks marks) more (call_in line) u (told_in_order (later_marks marks) more)

-- ---- later lines
abbrev Later : List Bool → List (List ℕ) → List (List ℕ) → Type 0
Later marks more lines = (u : Database) → replies marks (lines ++ more) u ≡ replies marks lines u ++ replies (marks_after lines marks) more (in_order u (calls_of marks lines)).database

-- the text of a line goes before what is said of the lines after it
before_later : (text rest front later : List ℕ) → rest ≡ front ++ later → text ++ 10 ∷ rest ≡ (text ++ 10 ∷ front) ++ later
before_later text rest front later e = ap (λ rest. text ++ 10 ∷ rest) e ∙ sym (append_assoc text (10 ∷ front) later)

call_later : (refused : Bool) (later : List Bool) (more lines : List (List ℕ)) (call : Call) (fits : Result (Unit {0}) BadArgument) (u : Database) → Later later more lines
    → (call_answer refused call fits u).text ++ 10 ∷ replies later (lines ++ more) (call_answer refused call fits u).database
    ≡ ((call_answer refused call fits u).text ++ 10 ∷ replies later lines (call_answer refused call fits u).database)
    ++ replies (marks_after lines later) more (in_order u (call_before refused call fits (calls_of later lines))).database
call_later true later more lines call (Ok fits) u h =
    before_later (call_answer true call (Ok fits) u).text _ (replies later lines u) (replies (marks_after lines later) more (in_order u (calls_of later lines)).database) (h u)
call_later false later more lines call (Ok fits) u h =
    let after = (call_answer false call (Ok fits) u).database in
    before_later (call_answer false call (Ok fits) u).text _ (replies later lines after) (replies (marks_after lines later) more (in_order after (calls_of later lines)).database) (h after)
call_later refused later more lines call (Err bad) u h =
    before_later (call_answer refused call (Err bad) u).text _ (replies later lines u) (replies (marks_after lines later) more (in_order u (calls_of later lines)).database) (h u)

line_later : (refused : Bool) (later : List Bool) (more lines : List (List ℕ)) (call : Option Call) (u : Database) → Later later more lines
    → (line_answer refused call u).text ++ 10 ∷ replies later (lines ++ more) (line_answer refused call u).database
    ≡ ((line_answer refused call u).text ++ 10 ∷ replies later lines (line_answer refused call u).database)
    ++ replies (marks_after lines later) more (in_order u (line_before refused call (calls_of later lines))).database
line_later refused later more lines None u h =
    before_later (line_answer refused None u).text _ (replies later lines u) (replies (marks_after lines later) more (in_order u (calls_of later lines)).database) (h u)
line_later refused later more lines (Some call) u h = call_later refused later more lines call (arguments_accepted call) u h

later_from : (more lines : List (List ℕ)) (marks : List Bool) (u : Database) → replies marks (lines ++ more) u ≡ replies marks lines u ++ replies (marks_after lines marks) more (in_order u (calls_of marks lines)).database
unfolding replies
later_from more [] marks u = refl
later_from more (line ∷ lines) marks u = line_later (first_mark marks) (later_marks marks) more lines (call_in line) u (later_from more lines (later_marks marks))

pub later_in_order : (marks : List Bool) (lines more : List (List ℕ)) (u : Database) → replies marks (lines ++ more) u ≡ replies marks lines u ++ replies (marks_after lines marks) more (in_order u (calls_of marks lines)).database
later_in_order marks lines more u = later_from more lines marks u

-- ---- the database after all lines
abbrev After : List Bool → List (List ℕ) → Type 0
After marks lines = (u : Database) → database_after marks lines u ≡ (in_order u (calls_of marks lines)).database

call_after : (refused : Bool) (later : List Bool) (more : List (List ℕ)) (call : Call) (fits : Result (Unit {0}) BadArgument) (u : Database) → After later more
    → database_after later more (call_answer refused call fits u).database ≡ (in_order u (call_before refused call fits (calls_of later more))).database
call_after true later more call (Ok fits) u h = h u
call_after false later more call (Ok fits) u h = h (call_answer false call (Ok fits) u).database
call_after refused later more call (Err bad) u h = h u

line_after : (refused : Bool) (later : List Bool) (more : List (List ℕ)) (call : Option Call) (u : Database) → After later more
    → database_after later more (line_answer refused call u).database ≡ (in_order u (line_before refused call (calls_of later more))).database
line_after refused later more None u h = h u
line_after refused later more (Some call) u h = call_after refused later more call (arguments_accepted call) u h

pub after_in_order : (marks : List Bool) (lines : List (List ℕ)) (u : Database) → database_after marks lines u ≡ (in_order u (calls_of marks lines)).database
unfolding database_after
after_in_order marks [] u = refl
after_in_order marks (line ∷ more) u = line_after (first_mark marks) (later_marks marks) more (call_in line) u (after_in_order (later_marks marks) more)

-- ---- an input
pub served_in_order : (rows : Bool) (marks : List Bool) (work : Work) (text : List ℕ) → ServesWork rows marks work text
    → text ≡ told marks work.lines (in_order (database_of work.rows) (calls_of marks work.lines)).replies
    ++ rows_if_asked rows (length work.rows.subscribers) (in_order (database_of work.rows) (calls_of marks work.lines)).database
served_in_order rows marks work text s =
    s.replied ∙ ap₂ (λ ts u. ts ++ rows_if_asked rows (length work.rows.subscribers) u) (told_in_order marks work.lines (database_of work.rows)) (after_in_order marks work.lines (database_of work.rows))
