-- Why the lines of an input are refused.
use Rattle.std.specs.Prelude.{◌≡◌, ℕ, Result, Err}
use Rattle.tatp_streams.specs.declared.fault.StreamFault.TheVariants.{WriteFault}
use Rattle.tatp_inputs.specs.declared.fault.InputFault.{InputFault}
use Rattle.tatp_inputs.specs.declared.fault.InputFault.TheVariants.{BadLine, Stream}

-- `read` is what was to be read, or the number of the line that is wrong. At any line the reader
-- can fail, and memory can run out
abbrev pub RefusesReading : {A : Type 0} → Result A ℕ → InputFault → Type 0
RefusesReading read (BadLine n) = read ≡ Err n
RefusesReading read (Stream WriteFault) = ⊥
RefusesReading read (Stream fault) = Unit {0}
