-- The instruction with given parts, and what can be wrong with parts.
use Rattle.std.specs.Prelude.{ℕ, Bool, false, not, ◌&&◌, ◌||◌, ◌==◌, ◌-◌, nat_le, if◌then◌else◌, take, drop, Option, Some, None, is_none, slice_index}
use Rattle.std.specs.List.{list_any}
use Rattle.tatp_limits.specs.declared.limits.TheConstants.{REGISTERS}
use Rattle.tatp_instr.specs.declared.book.Word.{Word}
use Rattle.tatp_instr.specs.declared.book.Word.TheVariants.{Nothing, Count, Column, Argument, Target}
use Rattle.tatp_instr.specs.declared.book.Shape.{Shape}
use Rattle.tatp_instr.specs.declared.instr.Parts.{Parts}
use Rattle.tatp_instr.specs.declared.instr.Instr.{Instr}
use Rattle.tatp_instr.specs.declared.instr.Instr.TheVariants.{Ldi, Mov, Arg, Add, Sub, Eq, Lt, Jmp, Jz, Fsub, Fnum, Facc, Ffac, Fcfw, Get, Put, Ins, Del, Out, Done, Fail, Loop}
use Rattle.tatp_instr.specs.Shapes.{shape_at}

-- ---- what can be wrong
-- there is no such op
abbrev pub has_bad_op : Parts → Bool
has_bad_op p = is_none (shape_at p.op)

abbrev pub is_not_zero : ℕ → Bool
is_not_zero number = not (number == 0)

-- the number is not 0 where a shape has none
abbrev pub is_unused_word : Word → ℕ → Bool
is_unused_word Nothing word = is_not_zero word
is_unused_word Count word = false
is_unused_word Column word = false
is_unused_word Argument word = false
is_unused_word Target word = false

-- a register or the number is not 0 where the shape has none
abbrev pub has_unused_in : Option Shape → Parts → Bool
has_unused_in None p = false
has_unused_in (Some s) p =
    list_any is_not_zero (drop s.registers p.registers) || is_unused_word s.word p.word

-- a register or the number is not 0 where the op has none
abbrev pub has_unused : Parts → Bool
has_unused p = has_unused_in (shape_at p.op) p

-- one of the shape's registers is not among the sixteen
abbrev pub has_high_register : Option Shape → Parts → Bool
has_high_register None p = false
has_high_register (Some s) p = list_any (nat_le REGISTERS) (take s.registers p.registers)

-- a register operand is not among the sixteen, or a register of a key or a row that it begins
abbrev pub has_bad_register : Parts → Bool
has_bad_register p =
    has_high_register (shape_at p.op) p
    || (p.op == 0x0E && nat_le (REGISTERS - 2) (slice_index p.registers 1))
    || (p.op == 0x11 && nat_le (REGISTERS - 4) (slice_index p.registers 1))

-- ---- the instruction
-- the instruction of an op of the table, with these registers and this number
unfoldable pub instr_with : ℕ → ℕ → ℕ → ℕ → ℕ → Instr
instr_with op d a b n =
    if op == 0x01 then Ldi d n else
    if op == 0x02 then Mov d a else
    if op == 0x03 then Arg d n else
    if op == 0x04 then Add d a b else
    if op == 0x05 then Sub d a b else
    if op == 0x06 then Eq d a b else
    if op == 0x07 then Lt d a b else
    if op == 0x08 then Jmp n else
    if op == 0x09 then Jz d n else
    if op == 0x0A then Fsub d a else
    if op == 0x0B then Fnum d a else
    if op == 0x0C then Facc d a b else
    if op == 0x0D then Ffac d a b else
    if op == 0x0E then Fcfw d a else
    if op == 0x0F then Get d n else
    if op == 0x10 then Put d n else
    if op == 0x11 then Ins d a else
    if op == 0x12 then Del else
    if op == 0x13 then Out d else
    if op == 0x14 then Done else
    if op == 0x15 then Fail n else
    Loop d n

abbrev pub instr_of_parts : Parts → Instr
instr_of_parts p = instr_with p.op
    (slice_index p.registers 0) (slice_index p.registers 1) (slice_index p.registers 2) p.word

-- the instruction with these parts, unless a register is outside its range
abbrev pub instr_of : Parts → Option Instr
instr_of p = if has_bad_register p then None else Some (instr_of_parts p)
