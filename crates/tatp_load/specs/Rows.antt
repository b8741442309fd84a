-- What the command `rows` writes: docs/FORMATS.md, "A population from random words".
use Rattle.std.specs.Prelude.{ℕ, List}
use Rattle.rand_core.specs.Stream.{Stream, next_u64}
use Rattle.rand_pcg.specs.Lcg.{started, increment_of}
use Rattle.rand_pcg.specs.Pcg.{multiplier_128}
use Rattle.tatp_population.specs.DrawnOrder.{rows_text, population_in_order}
use Rattle.tatp_driver.specs.DrawnWords.{words_of}
use Rattle.tatp_tasks.specs.declared.load.RowsPlan.{RowsPlan}

-- the words of the stream 0 of the seed
abbrev pub words_drawn : RowsPlan → Stream
words_drawn plan = words_of (started 128 multiplier_128 plan.seed (increment_of 128 0))

-- the rows of the population that is drawn from them, as text, in the order drawn
abbrev pub rows_written : RowsPlan → List ℕ
rows_written plan = rows_text (population_in_order next_u64 plan.subscribers (words_drawn plan))
