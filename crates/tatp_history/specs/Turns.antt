-- Calls of which no two overlap.
use Rattle.std.specs.Prelude.{List, [], ◌∷◌, map}
use Rattle.std.specs.List.{AllByRecursion}
use Rattle.tatp_calls.specs.declared.call.Call.{Call}
use Rattle.tatp_calls.specs.declared.reply.Reply.{Reply}
use Rattle.tatp_history.specs.declared.line.Line.{Line}
use Rattle.tatp_history.specs.declared.line.Line.TheVariants.{Ask, End}
use Rattle.tatp_history.specs.declared.observed.Recorded.TheVariants.{Exactly}
use Rattle.tatp_history.specs.declared.observed.Observed.{Observed}
use Rattle.tatp_history.specs.Histories.{IsAnswered, Precedes}

-- each call was answered before any later one was asked
abbrev pub AreInTurn : List Observed → Type 0
AreInTurn [] = Unit {0}
AreInTurn (x ∷ more) =
    IsAnswered x.outcome × AllByRecursion (λ (y : Observed). Precedes x y) more × AreInTurn more

-- the history of a client that waits for each reply, and records it
abbrev pub lines_in_turn : List (Call × Reply) → List Line
lines_in_turn [] = []
lines_in_turn (p ∷ more) = Ask 0 p.0 ∷ End 0 (Exactly p.1) ∷ lines_in_turn more

abbrev pub calls_made : List (Call × Reply) → List Call
calls_made pairs = map (λ (p : Call × Reply). p.0) pairs

abbrev pub replies_had : List (Call × Reply) → List Reply
replies_had pairs = map (λ (p : Call × Reply). p.1) pairs
