-- The first rule that a module breaks, and where: docs/FORMATS.md, "The loader's rules".
use Rattle.std.specs.Prelude.{ℕ, suc, ◌-◌, Bool, false, not, ◌&&◌, nat_le, if◌then◌else◌, List, [], ◌∷◌, ◌++◌, length, take, Option, Some, None, slice_get, count_by, bytes_eq}
use Rattle.std.specs.List.{list_any}
use Rattle.tatp_limits.specs.declared.limits.TheConstants.{MAX_OUTPUTS, MAX_WRITES}
use Rattle.tatp_instr.specs.declared.instr.Instr.{Instr}
use Rattle.tatp_instr.specs.declared.version.Version.{Version}
use Rattle.tatp_instr.specs.declared.version.Version.TheVariants.{One, Two}
use Rattle.tatp_encoding.specs.Modules.{Procedure, ModuleState}
use Rattle.tatp_loader.specs.Lawful.{reads_argument_below, has_fit_column, jumps_ahead, loops_back, jumps_below, is_out, is_write, is_end}
use Rattle.tatp_loader.specs.declared.fault.LoadFaultKind.{LoadFaultKind}
use Rattle.tatp_loader.specs.declared.fault.LoadFaultKind.TheVariants.{NameTwice, NoSuchArgument, FixedColumn, BackwardJump, ForwardLoop, BadTarget, TooManyOut, TooManyWrites, NoEnd}
use Rattle.tatp_loader.specs.declared.fault.LoadFault.{LoadFault}

-- a fault of this kind in the procedure p, at the instruction i
abbrev pub fault : LoadFaultKind → ℕ → ℕ → LoadFault
fault kind p i = record { kind = kind; procedure = p; instruction = i }

-- the first of these two that is there
abbrev pub first_of : {A : Type 0} → Option A → Option A → Option A
first_of None other = other
first_of (Some a) other = Some a

-- ---- one instruction, at a position of a procedure
-- the first rule that it breaks by itself
abbrev pub misfit : Procedure → ℕ → Instr → Option LoadFaultKind
misfit p i x =
    if not (reads_argument_below p.arity x) then Some NoSuchArgument else
    if not (has_fit_column x) then Some FixedColumn else
    if not (jumps_ahead i x) then Some BackwardJump else
    if not (loops_back i x) then Some ForwardLoop else
    if not (jumps_below (length p.code) x) then Some BadTarget else
    None

-- whether it is one OUT, or one of PUT, INS and DEL, too many in a procedure of version 1; those
-- of version 2 are not counted here
abbrev pub excess : Version → ℕ → ℕ → Instr → Option LoadFaultKind
excess One outs writes x =
    if is_out x && nat_le MAX_OUTPUTS outs then Some TooManyOut else
    if is_write x && nat_le MAX_WRITES writes then Some TooManyWrites else
    None
excess Two outs writes x = None

-- the first rule that it breaks
abbrev pub broken_at : Version → Procedure → ℕ → Instr → Option LoadFaultKind
broken_at version p i x = first_of (misfit p i x)
    (excess version (count_by is_out (take i p.code)) (count_by is_write (take i p.code)) x)

-- ---- a procedure
-- the fault of the procedure n, at the instruction i, where a rule is broken
abbrev pub fault_at : ℕ → ℕ → Option LoadFaultKind → Option LoadFault
fault_at n i None = None
fault_at n i (Some kind) = Some (fault kind n i)

-- the first instruction, of those from the position i on, that breaks a rule
abbrev pub first_broken : Version → ℕ → Procedure → ℕ → List Instr → Option LoadFault
first_broken version n p i [] = None
first_broken version n p i (x ∷ more) =
    first_of (fault_at n i (broken_at version p i x)) (first_broken version n p (suc i) more)

abbrev pub is_end_at : Option Instr → Bool
is_end_at None = false
is_end_at (Some x) = is_end x

-- whether the last instruction ends the call
abbrev pub ends : Procedure → Bool
ends p = is_end_at (slice_get p.code (length p.code - 1))

abbrev pub missing_end : ℕ → Procedure → Option LoadFault
missing_end n p = if ends p then None else Some (fault NoEnd n (length p.code - 1))

abbrev pub has_name : List ℕ → Procedure → Bool
has_name name p = bytes_eq p.name name

-- the first fault of the procedure after these: its name, its instructions in order, its end
abbrev pub fault_after : Version → List Procedure → Procedure → Option LoadFault
fault_after version before p =
    if list_any (has_name p.name) before then Some (fault NameTwice (length before) 0) else
    first_of (first_broken version (length before) p 0 p.code) (missing_end (length before) p)

-- ---- a module
-- the first fault of the procedures, in order, after these
abbrev pub first_fault_after : Version → List Procedure → List Procedure → Option LoadFault
first_fault_after version before [] = None
first_fault_after version before (p ∷ more) =
    first_of (fault_after version before p) (first_fault_after version (before ++ p ∷ []) more)

abbrev pub first_fault : ModuleState → Option LoadFault
first_fault m = first_fault_after m.version [] m.procedures
