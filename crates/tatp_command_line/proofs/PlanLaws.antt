-- Plans and setups that are equal part by part.
use Rattle.std.proofs.Common.{◌≡◌, refl}
use Rattle.tatp_tasks.specs.declared.load.CallsPlan.{CallsPlan}
use Rattle.tatp_tasks.specs.declared.load.RowsPlan.{RowsPlan}
use Rattle.tatp_tasks.specs.declared.plan.BenchPlan.{BenchPlan}
use Rattle.tatp_tasks.specs.declared.setup.Setup.{Setup}

pub same_plan : (a b : BenchPlan)
    → a.subscribers ≡ b.subscribers → a.partitions ≡ b.partitions → a.clients ≡ b.clients → a.calls ≡ b.calls
    → a.seed ≡ b.seed → a.distribution ≡ b.distribution → a.moves ≡ b.moves → a.stops ≡ b.stops → a.chapter ≡ b.chapter → a ≡ b
same_plan a b subscribers partitions clients calls seed distribution moves stops chapter =
    rw (subscribers, partitions, clients, calls, seed, distribution, moves, stops, chapter) refl

pub same_setup : (a b : Setup) → a.procedures ≡ b.procedures → a.population ≡ b.population → a.partitions ≡ b.partitions → a.clients ≡ b.clients → a.input_limit ≡ b.input_limit → a ≡ b
same_setup a b procedures population partitions clients input_limit = rw (procedures, population, partitions, clients, input_limit) refl

pub same_rows_plan : (a b : RowsPlan) → a.subscribers ≡ b.subscribers → a.seed ≡ b.seed → a ≡ b
same_rows_plan a b subscribers seed = rw (subscribers, seed) refl

pub same_calls_plan : (a b : CallsPlan)
    → a.subscribers ≡ b.subscribers → a.calls ≡ b.calls → a.client ≡ b.client → a.seed ≡ b.seed → a.distribution ≡ b.distribution → a ≡ b
same_calls_plan a b subscribers calls client seed distribution = rw (subscribers, calls, client, seed, distribution) refl
