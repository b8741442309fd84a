use Rattle.tatp_calls.specs.Asked.{arities_of}
use Rattle.tatp_threads.proofs.run.run_clean_calls.Given as goal

abbrev pub ghosts-run_ruled : goal.ghosts-run_ruled
ghosts-run_ruled g a = record { lists = a.setup.plan.lists.now; arities = arities_of a.setup.loaded.now }
