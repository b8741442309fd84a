-- A call run alone by the table, on the rows of its home or without a home.
use Rattle.std.specs.Prelude.{◌≡◌, ℕ, zero, suc, ◌≤◌, List, length, Option, Some, None, slice_get}
use Rattle.std.proofs.Common.{refl, ap, subst, arith}
use Rattle.tatp_instr.specs.declared.instr.Instr.{Instr}
use Rattle.tatp_tables.specs.Database.{Database, no_tables}
use Rattle.tatp_instr.specs.declared.ending.End.{End}
use Rattle.tatp_machine.specs.Calls.{Frame}
use Rattle.tatp_machine.specs.Instructions.{Turn, Goes_on, Stops, Nothing_next, act_at}
use Rattle.tatp_machine.specs.VersionOne.{turn_by_table}
use Rattle.tatp_machine.proofs.ActLaws.{Makes, MakesOn, act_makes}

-- how a run of so many turns at most ends: with what, after which outputs, and with which rows at the end
pub data Ending : Type 0 where
  Over : End → List ℕ → Database → Ending
  Unfinished : Ending

abbrev pub continue_with : (Frame → Database → Ending) → List ℕ → Database → Turn → Ending
continue_with more outputs v (Goes_on q w) = more q w
continue_with more outputs v (Stops end) = Over end outputs v
continue_with more outputs v Nothing_next = Unfinished

-- on the rows v of the home
abbrev pub run : ℕ → Frame → Database → Ending
run zero q v = Unfinished
run (suc n) q v = continue_with (run n) q.outputs v (turn_by_table q v)

-- without a home
abbrev pub run_homeless : ℕ → Frame → Ending
run_homeless zero q = Unfinished
run_homeless (suc n) q = continue_with (λ next w. run_homeless n next) q.outputs no_tables (turn_by_table q no_tables)

-- ---- what an ending says
pub end_is : (e f : End) (a b : List ℕ) (v w : Database) → Over e a v ≡ Over f b w → e ≡ f
end_is e f a b v w h = cc

pub outputs_are : (e f : End) (a b : List ℕ) (v w : Database) → Over e a v ≡ Over f b w → a ≡ b
outputs_are e f a b v w h = cc

pub rows_are : (e f : End) (a b : List ℕ) (v w : Database) → Over e a v ≡ Over f b w → v ≡ w
rows_are e f a b v w h = cc

-- ---- outputs only grow
makes_at : (o : Option Instr) (q q' : Frame) (v v' : Database) → act_at o q v ≡ Goes_on q' v' → (i : Instr) × (o ≡ Some i) × Makes i q q'
makes_at None q q' v v' e = cc
makes_at (Some i) q q' v v' e = (i, refl, subst (MakesOn i q) e (act_makes i q v))

-- the instruction of a turn that goes on, and what it made
pub makes_next : (q q' : Frame) (v v' : Database) → turn_by_table q v ≡ Goes_on q' v' → (i : Instr) × (slice_get q.code q.pc ≡ Some i) × Makes i q q'
makes_next q q' v v' e = makes_at (slice_get q.code q.pc) q q' v v' e

pub grows : (n : ℕ) (q : Frame) (v w : Database) (end : End) (outputs : List ℕ) → run n q v ≡ Over end outputs w → length q.outputs ≤ length outputs
grows zero q v w end outputs h = cc
grows (suc n) q v w end outputs h =
    elim (turn_by_table q v) as (λ t. turn_by_table q v ≡ t → continue_with (run n) q.outputs v t ≡ Over end outputs w → length q.outputs ≤ length outputs) [
      | Goes_on next x ↦ λ e h. omega (arith, (makes_next q next v x e).2.outputs, grows n next x w end outputs h)
      | Stops f ↦ λ e h. omega (arith, ap length (outputs_are f end q.outputs outputs v w h))
      | Nothing_next ↦ λ e h. cc
    ] refl h

pub grows_homeless : (n : ℕ) (q : Frame) (w : Database) (end : End) (outputs : List ℕ) → run_homeless n q ≡ Over end outputs w → length q.outputs ≤ length outputs
grows_homeless zero q w end outputs h = cc
grows_homeless (suc n) q w end outputs h =
    elim (turn_by_table q no_tables) as (λ t. turn_by_table q no_tables ≡ t → continue_with (λ next v. run_homeless n next) q.outputs no_tables t ≡ Over end outputs w → length q.outputs ≤ length outputs) [
      | Goes_on next x ↦ λ e h. omega (arith, (makes_next q next no_tables x e).2.outputs, grows_homeless n next w end outputs h)
      | Stops f ↦ λ e h. omega (arith, ap length (outputs_are f end q.outputs outputs no_tables w h))
      | Nothing_next ↦ λ e h. cc
    ] refl h
