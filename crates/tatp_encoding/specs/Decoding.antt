-- The instruction of eight bytes, in a version of the table.
use Rattle.std.specs.Prelude.{ℕ, Bool, ◌==◌, if◌then◌else◌, List, drop, Option, None, is_none, Result, Ok, Err, slice_index}
use Rattle.std.specs.Int.{w32, from_be_bytes}
use Rattle.tatp_instr.specs.declared.instr.Instr.{Instr}
use Rattle.tatp_instr.specs.declared.book.Shape.{Shape}
use Rattle.tatp_instr.specs.declared.instr.Parts.{Parts}
use Rattle.tatp_instr.specs.declared.version.Version.{Version}
use Rattle.tatp_instr.specs.declared.version.Version.TheVariants.{One, Two}
use Rattle.tatp_instr.specs.Instrs.{parts_with}
use Rattle.tatp_instr.specs.Shapes.{shape_at}
use Rattle.tatp_instr.specs.Parts.{has_unused, has_bad_register, instr_of_parts}
use Rattle.tatp_encoding.specs.declared.decoding.Bad.{Bad}
use Rattle.tatp_encoding.specs.declared.decoding.Bad.TheVariants.{BadOp, UnusedNotZero, BadRegister}

-- the op, the operand bytes and the number of eight bytes
abbrev pub parts_in : List ℕ → Parts
parts_in b = parts_with
    (slice_index b 0) (slice_index b 1) (slice_index b 2) (slice_index b 3)
    (from_be_bytes w32 (drop 4 b))

-- the shape of an op, if the version has such an op: 0x16 is in version 2 alone
abbrev pub shape_in : Version → ℕ → Option Shape
shape_in One op = if op == 0x16 then None else shape_at op
shape_in Two op = shape_at op

-- the version has no such op
abbrev pub has_bad_op_in : Version → Parts → Bool
has_bad_op_in version p = is_none (shape_in version p.op)

-- the instruction of an op and its operands, or the first of the three faults that they have
abbrev pub decoded_parts : Version → Parts → Result Instr Bad
decoded_parts version p =
    if has_bad_op_in version p then Err BadOp else
    if has_unused p then Err UnusedNotZero else
    if has_bad_register p then Err BadRegister else
    Ok (instr_of_parts p)

unfoldable pub decoded : Version → List ℕ → Result Instr Bad
decoded version b = decoded_parts version (parts_in b)
