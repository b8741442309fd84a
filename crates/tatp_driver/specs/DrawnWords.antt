-- The words from which a client draws its calls.
use Rattle.std.specs.Prelude.{ℕ, zero, suc, ◌+◌, List, [], ◌∷◌, ◌++◌}
use Rattle.rand_core.specs.Stream.{Stream, next_u64}
use Rattle.rand_core.specs.Steps.{stream_of, steps_u64_low}
use Rattle.rand_pcg.specs.Lcg.{Lcg, started, increment_of}
use Rattle.rand_pcg.specs.Pcg.{pcg64, multiplier_128}
use Rattle.tatp_tasks.specs.declared.distribution.Distribution.{Distribution}

-- the next n words, and the stream that is left after them
unfoldable pub next_words : ℕ → Stream → List ℕ × Stream
next_words zero stream = ([], stream)
next_words (suc n) stream =
    let before = next_words n stream in
    let last = next_u64 before.1 in
    (before.0 ++ last.0 ∷ [], last.1)

-- the words of a generator
abbrev pub words_of : Lcg → Stream
words_of generator = stream_of (steps_u64_low pcg64) generator

-- the generator of a client, counted from 0: the stream 0 is the population's
abbrev pub client_generator : ℕ → ℕ → Lcg
client_generator seed client = started 128 multiplier_128 seed (increment_of 128 (client + 1))

-- the generator from which a driver draws, and on which subscribers its calls are
pub record DriverState : Type 0 where
  pub generator : Lcg
  pub subscribers : ℕ
  pub distribution : Distribution
