use Rattle.std.proofs.Common.{◌≡◌, ◌++◌, drop}
use Rattle.std.specs.String.{string_bytes}
use Rattle.tatp_asm.specs.Printing.{body_lines, lines_text}
use Rattle.tatp_asm.proofs.printing.push_body.Given as goal

abbrev pub invariant-loop-position : goal.invariant-loop-position
invariant-loop-position l = string_bytes l.out ++ lines_text (body_lines l.code l.position (drop l.position l.code)) ≡ string_bytes l.initial.out ++ lines_text (body_lines l.code 0 l.code)
