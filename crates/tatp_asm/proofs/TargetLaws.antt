-- The table tells which instructions are jumps.
use Rattle.std.proofs.Common.{◌≡◌, ℕ, refl, Option, Some, None}
use Rattle.tatp_instr.specs.declared.instr.Instr.{Instr}
use Rattle.tatp_instr.specs.declared.instr.Instr.TheVariants.{Ldi}
use Rattle.tatp_instr.specs.declared.book.Word.{Word}
use Rattle.tatp_instr.specs.declared.book.Word.TheVariants.{Target}
use Rattle.tatp_instr.specs.declared.book.Shape.{Shape}
use Rattle.tatp_instr.specs.Instrs.{parts_of}
use Rattle.tatp_instr.specs.Shapes.{shape_at}
use Rattle.tatp_asm.specs.Instrs.{target_of}

-- the number of an instruction with this shape, where it is a target
abbrev pub target_with : Word → ℕ → Option ℕ
target_with Target word = Some word
target_with other word = None

abbrev pub target_in : Option Shape → ℕ → Option ℕ
target_in None word = None
target_in (Some shape) word = target_with shape.word word

pub target_by_table : (i : Instr) → target_in (shape_at (parts_of i).op) (parts_of i).word ≡ target_of i
target_by_table (Ldi d n) = refl
target_by_table _ = refl
