-- The calls that a client draws, one after another. docs/FORMATS.md, "Calls from random words",
-- says it in words.
use Rattle.std.specs.Prelude.{ℕ, zero, suc, List, [], ◌∷◌, ◌++◌}
use Rattle.rand_core.specs.Stream.{Stream}
use Rattle.tatp_calls.specs.declared.call.Call.{Call}
use Rattle.tatp_tasks.specs.declared.distribution.Distribution.{Distribution}
use Rattle.tatp_driver.specs.DrawnCall.{drawn_call}
use Rattle.tatp_driver.specs.DrawnWords.{next_words}

-- the next n calls on these subscribers, and the stream that is left after them: each takes seven
-- words
unfoldable pub next_calls : Distribution → ℕ → ℕ → Stream → List Call × Stream
next_calls distribution subscribers zero stream = ([], stream)
next_calls distribution subscribers (suc n) stream =
    let before = next_calls distribution subscribers n stream in
    let words = next_words 7 before.1 in
    (before.0 ++ drawn_call distribution subscribers words.0 ∷ [], words.1)
