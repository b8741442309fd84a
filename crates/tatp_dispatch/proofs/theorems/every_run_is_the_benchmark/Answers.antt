use Rattle.tatp_dispatch.proofs.BenchmarkLaws.{benchmark}
use Rattle.tatp_dispatch.proofs.theorems.every_run_is_the_benchmark.Goals as goal

pub returns : goal.returns
returns c = benchmark
