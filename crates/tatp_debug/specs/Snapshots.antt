-- What a snapshot shows of a running call.
use Rattle.std.specs.Prelude.{◌≡◌, ℕ, List, [], ◌∷◌, IsSomeAnd, slice_get}
use Rattle.std.specs.Option.{option_map_or}
use Rattle.tatp_instr.specs.declared.instr.Instr.{Instr}
use Rattle.tatp_instr.specs.Instrs.{text_of}
use Rattle.tatp_encoding.specs.Modules.{Procedure, ModuleState}
use Rattle.tatp_machine.specs.Calls.{Frame}
use Rattle.tatp_machine.specs.Instructions.{value}
use Rattle.tatp_debug.specs.declared.snapshot.Snapshot.{Snapshot}

-- the name of a procedure of a module
abbrev pub name_of : ModuleState → ℕ → List ℕ
name_of modul procedure =
    option_map_or (λ (p : Procedure). p.name) (slice_get modul.procedures procedure) []

-- the values of the sixteen registers
abbrev pub register_values : Frame → List ℕ
register_values q =
    value q 0 ∷ value q 1 ∷ value q 2 ∷ value q 3
    ∷ value q 4 ∷ value q 5 ∷ value q 6 ∷ value q 7
    ∷ value q 8 ∷ value q 9 ∷ value q 10 ∷ value q 11
    ∷ value q 12 ∷ value q 13 ∷ value q 14 ∷ value q 15 ∷ []

-- the snapshot is of a call of this module in this state, in each part that it has; its line is the
-- text of the next instruction
pub record IsSnapshot (modul : ModuleState) (q : Frame) (snapshot : Snapshot) : Type 0 where
  pub procedure : snapshot.procedure ≡ q.procedure
  pub name : snapshot.name.bytes ≡ name_of modul q.procedure
  pub pc : snapshot.pc ≡ q.pc
  pub registers : snapshot.registers ≡ register_values q
  pub subscriber : snapshot.current.subscriber ≡ q.current.subscriber
  pub access : snapshot.current.access ≡ q.current.access
  pub facility : snapshot.current.facility ≡ q.current.facility
  pub forwarding : snapshot.current.forwarding ≡ q.current.forwarding
  pub outputs : snapshot.outputs ≡ q.outputs
  pub steps_made : snapshot.steps_made ≡ q.steps
  pub writes_made : snapshot.writes_made ≡ q.writes
  pub line : IsSomeAnd (slice_get q.code q.pc) (λ (i : Instr). snapshot.line.bytes ≡ text_of i)
