-- What the command `calls` writes: docs/FORMATS.md, "Calls from random words".
use Rattle.std.specs.Prelude.{ℕ, List, [], ◌∷◌, ◌++◌}
use Rattle.std.specs.List.{flat_map}
use Rattle.tatp_calls.specs.declared.call.Call.{Call}
use Rattle.tatp_calls.specs.CallText.{call_text}
use Rattle.tatp_driver.specs.DrawnCalls.{next_calls}
use Rattle.tatp_driver.specs.DrawnWords.{words_of, client_generator}
use Rattle.tatp_tasks.specs.declared.load.CallsPlan.{CallsPlan}

-- the calls that the client draws, by the definition by which a client of `bench` draws them
abbrev pub calls_drawn : CallsPlan → List Call
calls_drawn plan =
    let words = words_of (client_generator plan.seed plan.client) in
    (next_calls plan.distribution plan.subscribers plan.calls words).0

-- the line of a call, with its line feed
abbrev pub line_of : Call → List ℕ
line_of call = call_text call ++ 10 ∷ []

-- the lines of these calls
abbrev pub calls_written : CallsPlan → List ℕ
calls_written plan = flat_map line_of (calls_drawn plan)
