-- The lines of a text before its first label or instruction: until there, reading keeps nothing.
use Rattle.std.specs.Prelude.{◌≡◌, ℕ, ◌<◌, Bool, true, false, List, length, Option, Some, None, Result, Err, IfSome, slice_get}
use Rattle.tatp_lines.specs.Lines.{lines_of}
use Rattle.tatp_asm.specs.Lines.{Line, Names, Does}
use Rattle.tatp_asm.specs.Heads.{head_of}
use Rattle.tatp_asm.specs.declared.fault.AsmFault.{AsmFault}
use Rattle.tatp_asm.specs.declared.fault.AsmError.{AsmError}
use Rattle.tatp_asm.specs.declared.fault.AsmError.TheVariants as errors
use Rattle.tatp_asm.specs.Reading.{Open, line_in}

-- a label or an instruction
abbrev pub is_code : Option Line → Bool
is_code None = false
is_code (Some (Names label)) = true
is_code (Some (Does instr label)) = true
is_code (Some line) = false

-- none of the first n lines of the text is one
abbrev pub HasNoCodeUpTo : List ℕ → ℕ → Type 0
HasNoCodeUpTo text n = (k : ℕ) (line : List ℕ) → k < n → slice_get (lines_of text) k ≡ Some line
    → is_code (line_in (head_of text).version line) ≡ false

-- a fault that is met before the first label or instruction is the result, even where memory runs
-- out
abbrev pub IsToldEarly : {A B : Type 0} → List ℕ → Result B AsmFault → Result A AsmError → Type 0
IsToldEarly text read result = (fault : AsmFault) → read ≡ Err fault → HasNoCodeUpTo text fault.line
    → result ≡ Err (errors.Fault fault)

-- the procedure under way, if there is one, has no instruction yet
abbrev pub IsBare : Option Open → Type 0
IsBare current = IfSome current (λ o. length o.code ≡ 0)
