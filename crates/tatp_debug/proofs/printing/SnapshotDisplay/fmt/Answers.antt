use Rattle.std.proofs.Common.{◌∙◌, List, ◌++◌, ℕ}
use Rattle.std.specs.Prelude.{codes, decimal}
use Rattle.std.specs.List.{flat_map}
use Rattle.std.proofs.Output.{has_written_of_eq}
use Rattle.tatp_debug.specs.Printing.{value_field, current_text}
use Rattle.tatp_debug.proofs.PrintingLaws.{twelve_together}
use Rattle.tatp_debug.proofs.printing.SnapshotDisplay.fmt.Goals as goal

pub returns-clause-writes : goal.returns-clause-writes
returns-clause-writes g c plain ok =
    let s = c.args.self.now in
    let text : List ℕ → List ℕ → List ℕ → List ℕ =
    λ name line outputs. codes "AT " ++ (name ++ (codes " " ++ (decimal s.pc ++ (codes " " ++ (line
    ++ (codes "\nREGS" ++ (flat_map value_field s.registers
    ++ (codes "\nCURRENT " ++ (current_text s.current
    ++ (codes "\nOUT" ++ flat_map value_field outputs)))))))))) in
    has_written_of_eq _ _ _ _ _
    ((λ k. text (c.as_str-name.ensures.value k) (c.as_str-line.ensures.value k) (c.as_slice.ensures.value k))
    ∙ twelve_together (codes "AT ") s.name.bytes (codes " ") (decimal s.pc) (codes " ") s.line.bytes (codes "\nREGS") (flat_map value_field s.registers) (codes "\nCURRENT ") (current_text s.current) (codes "\nOUT") (flat_map value_field s.outputs))
    (c.write.ensures.writes plain ok)
