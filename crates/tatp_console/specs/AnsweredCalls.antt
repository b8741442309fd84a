-- The calls among lines, and what is written for the lines by the replies to these calls.
use Rattle.std.specs.Prelude.{ℕ, Bool, true, false, List, [], ◌∷◌, ◌++◌, Option, Some, None, Result, Ok, Err}
use Rattle.tatp_calls.specs.declared.ask.Ask.TheVariants.{Txn}
use Rattle.tatp_calls.specs.declared.call.Call.{Call}
use Rattle.tatp_calls.specs.declared.domains.BadArgument.{BadArgument}
use Rattle.tatp_calls.specs.declared.reply.Reply.{Reply}
use Rattle.tatp_calls.specs.Arguments.{arguments_accepted}
use Rattle.tatp_calls.specs.ReplyText.{reply_text}
use Rattle.tatp_console.specs.Served.{call_in, no_call_text, bad_argument_text, no_memory_text, first_mark, later_marks}

-- ---- the calls
-- a call before others, where its arguments are accepted and it wasn't refused
abbrev pub call_before : Bool → Call → Result (Unit {0}) BadArgument → List Call
    → List Call
call_before refused call (Err bad) calls = calls
call_before true call (Ok fits) calls = calls
call_before false call (Ok fits) calls = call ∷ calls

-- what a line is, before the calls of later lines
abbrev pub line_before : Bool → Option Call → List Call → List Call
line_before refused None calls = calls
line_before refused (Some call) calls = call_before refused call (arguments_accepted call) calls

-- the calls that are answered: those with arguments in their domains that weren't refused, in the
-- order of the lines
abbrev pub calls_of : List Bool → List (List ℕ) → List Call
calls_of marks [] = []
calls_of marks (line ∷ more) =
    line_before (first_mark marks) (call_in line) (calls_of (later_marks marks) more)

-- ---- what is written
-- a call takes the first of the replies that are left, and later lines the others; refused, or with
-- bad arguments, it takes none. There are as many replies as calls, so that none is left over and
-- none is missing
abbrev pub call_told : Bool → Call → Result (Unit {0}) BadArgument
    → List Reply → (List Reply → List ℕ) → List ℕ
call_told refused call (Err bad) replies later = bad_argument_text bad ++ 10 ∷ later replies
call_told true call (Ok fits) replies later = no_memory_text ++ 10 ∷ later replies
call_told false call (Ok fits) (reply ∷ replies) later =
    reply_text (Txn call) reply ++ 10 ∷ later replies
call_told false call (Ok fits) [] later = []

-- a line that is no call takes none
abbrev pub line_told : Bool → Option Call → List Reply → (List Reply → List ℕ) → List ℕ
line_told refused None replies later = no_call_text ++ 10 ∷ later replies
line_told refused (Some call) replies later =
    call_told refused call (arguments_accepted call) replies later

-- a line of text for each line, by the replies to the calls that are answered
abbrev pub told : List Bool → List (List ℕ) → List Reply → List ℕ
told marks [] replies = []
told marks (line ∷ more) replies =
    line_told (first_mark marks) (call_in line) replies (told (later_marks marks) more)

-- the marks of the lines after these
abbrev pub marks_after : List (List ℕ) → List Bool → List Bool
marks_after [] marks = marks
marks_after (line ∷ more) marks = marks_after more (later_marks marks)
