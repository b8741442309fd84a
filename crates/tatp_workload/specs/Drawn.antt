-- What is drawn for a run from its seed: the population, the clients' calls, the moves and the
-- stops. Each has a stream of words of its own. docs/FORMATS.md, "Moves and stops from random
-- words", says it in words.
use Rattle.std.specs.Prelude.{ℕ, zero, suc, ◌+◌, ◌-◌, List, [], ◌∷◌, ◌++◌, map}
use Rattle.std.specs.List.{range_with_len}
use Rattle.rand_core.specs.Stream.{Stream, next_u64}
use Rattle.rand_pcg.specs.Lcg.{started, increment_of}
use Rattle.rand_pcg.specs.Pcg.{multiplier_128}
use Rattle.tatp_tables.specs.declared.row.Rows.{Rows}
use Rattle.tatp_calls.specs.declared.ask.Ask.{Ask}
use Rattle.tatp_calls.specs.declared.ask.Ask.TheVariants.{Txn}
use Rattle.tatp_population.specs.Drawn.{choice, choices}
use Rattle.tatp_population.specs.DrawnRows.{population}
use Rattle.tatp_extents.specs.Opening.{extent_count}
use Rattle.tatp_driver.specs.DrawnCalls.{next_calls}
use Rattle.tatp_driver.specs.DrawnWords.{words_of, client_generator}
use Rattle.tatp_tasks.specs.declared.plan.BenchPlan.{BenchPlan}

-- the words of a seed's stream of this number
abbrev pub stream_numbered : ℕ → ℕ → Stream
stream_numbered seed number = words_of (started 128 multiplier_128 seed (increment_of 128 number))

-- ---- the population, from stream 0
abbrev pub rows_drawn : BenchPlan → Rows
rows_drawn plan = (population next_u64 plan.subscribers (stream_numbered plan.seed 0)).0

-- ---- the calls
-- what a client asks, one call after another, from its own stream: 1 for client 0, and so on
abbrev pub client_calls : BenchPlan → ℕ → List Ask
client_calls plan client =
    let words = words_of (client_generator plan.seed client) in
    map Txn (next_calls plan.distribution plan.subscribers plan.calls words).0

-- what each of these clients asks, from one up to another
abbrev pub calls_of_clients : BenchPlan → ℕ → ℕ → List (List Ask)
calls_of_clients plan from to = map (client_calls plan) (range_with_len from (to - from))

-- what each client asks: whatever the partitions, the moves and the stops
abbrev pub calls_drawn : BenchPlan → List (List Ask)
calls_drawn plan = map (client_calls plan) (range_with_len 0 plan.clients)

-- ---- what the mover does, from the stream after those of the clients
-- the next n moves, each of one of the extents to one of the partitions
unfoldable pub next_moves : ℕ → ℕ → ℕ → Stream → List (ℕ × ℕ) × Stream
next_moves extents partitions zero stream = ([], stream)
next_moves extents partitions (suc n) stream =
    let before = next_moves extents partitions n stream in
    let extent = choice next_u64 1 extents before.1 in
    let partition = choice next_u64 0 (partitions - 1) extent.1 in
    (before.0 ++ (extent.0, partition.0) ∷ [], partition.1)

abbrev pub moves_drawn : BenchPlan → List (ℕ × ℕ)
moves_drawn plan =
    let words = stream_numbered plan.seed (plan.clients + 1) in
    (next_moves (extent_count plan.subscribers) plan.partitions plan.moves words).0

-- ---- what the debugger does, from the next stream
-- the partitions that it stops, one after another
abbrev pub stops_drawn : BenchPlan → List ℕ
stops_drawn plan =
    let words = stream_numbered plan.seed (plan.clients + 2) in
    (choices next_u64 plan.stops 0 (plan.partitions - 1) words).0
