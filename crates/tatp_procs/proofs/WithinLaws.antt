-- A turn that passes no limit is a turn by the table.
use Rattle.std.specs.Prelude.{◌≡◌, ◌⊎◌, ℕ, zero, suc, ◌+◌, ◌<◌, ◌≤◌, ◌==◌, ◌&&◌, ◌||◌, not, nat_lt, nat_le, Bool, true, false, cond, List, [], ◌∷◌, length, Option, Some, None, slice_get}
use Rattle.std.specs.List.{list_all, list_any}
use Rattle.std.proofs.Common.{refl, sym, ap, subst, ◌∙◌, arith, inl, inr, ⊎_elim}
use Rattle.std.proofs.lemmas.Bool.{and_parts, or_cases, lt-leb}
use Rattle.std.proofs.lemmas.Bool.Decides.{nat_tests}
use Rattle.tatp_limits.specs.declared.limits.TheConstants.{MAX_OUTPUTS, MAX_STEPS, MAX_WRITES}
use Rattle.tatp_instr.specs.declared.instr.Instr.{Instr}
use Rattle.tatp_instr.specs.declared.instr.Instr.TheVariants.{Out}
use Rattle.tatp_instr.specs.declared.version.Version.{Version}
use Rattle.tatp_instr.specs.declared.version.Version.TheVariants.{One, Two}
use Rattle.tatp_encoding.specs.Modules.{ModuleState}
use Rattle.tatp_tables.specs.Database.{Database}
use Rattle.tatp_loader.specs.Lawful.{is_out, is_write, is_end}
use Rattle.tatp_instr.specs.declared.ending.Trap.TheVariants.{Budget, Output, Writes}
use Rattle.tatp_machine.specs.Calls.{Frame, code_of, entered}
use Rattle.tatp_machine.specs.Instructions.{Goes_on, one_where, act, act_at, is_last_step, excess, limit, unless_stopped, step_at, turn}
use Rattle.tatp_machine.specs.VersionOne.{turn_by_table}
use Rattle.tatp_machine.proofs.ActLaws.{Makes, MakesOn, act_makes}
use Rattle.tatp_procs.proofs.KeepLaws.{puts_free}

-- so many turns more, up to these outputs, pass no limit
pub record IsWithin (n : ℕ) (outputs : List ℕ) (q : Frame) : Type 0 where
  pub steps_left : q.steps + n < MAX_STEPS
  pub output_room : length outputs ≤ MAX_OUTPUTS
  pub write_room : (q.writes + n ≤ MAX_WRITES) ⊎ (list_any is_write q.code ≡ false)

-- ---- no limit is passed
none_writes : (code : List Instr) (i : ℕ) (x : Instr) → list_any is_write code ≡ false → slice_get code i ≡ Some x → is_write x ≡ false
none_writes [] i x none e = cc
none_writes (y ∷ more) zero x none e = let same : y ≡ x = cc in rw (← same) (first (is_write y) (list_any is_write more) none)
  where
    first : (a b : Bool) → (a || b) ≡ false → a ≡ false
    first true b h = cc
    first false b h = refl
none_writes (y ∷ more) (suc i) x none e = none_writes more i x (rest (is_write y) (list_any is_write more) none) e
  where
    rest : (a b : Bool) → (a || b) ≡ false → b ≡ false
    rest true b h = cc
    rest false b h = h

-- OUT goes on
out_goes : (i : Instr) (q : Frame) (v : Database) → is_out i ≡ true → (q' : Frame) × (act i q v ≡ Goes_on q' v)
out_goes (Out a) q v h = (_, refl)
out_goes i q v h = absurd cc

-- what a turn by the table leaves put out is no more than these outputs
abbrev pub LeavesAtMost : Frame → Database → List ℕ → Type 0
LeavesAtMost q v outputs = (q' : Frame) (w : Database) → turn_by_table q v ≡ Goes_on q' w → length q'.outputs ≤ length outputs

few_outputs : (i : Instr) (q : Frame) (v : Database) (outputs : List ℕ) → slice_get q.code q.pc ≡ Some i → LeavesAtMost q v outputs → length outputs ≤ MAX_OUTPUTS → is_out i ≡ true → length q.outputs < MAX_OUTPUTS
few_outputs i q v outputs there after few out =
    let goes = out_goes i q v out in
    let makes = subst (MakesOn i q) goes.1 (act_makes i q v) in
    let one : one_where (is_out i) ≡ 1 = ap one_where out in
    omega (arith, makes.outputs, one, after goes.0 v (ap (λ o. act_at o q v) there ∙ goes.1), few)

few_writes : (n : ℕ) (i : Instr) (q : Frame) (outputs : List ℕ) → IsWithin (suc n) outputs q → slice_get q.code q.pc ≡ Some i → is_write i ≡ true → q.writes < MAX_WRITES
few_writes n i q outputs within there write =
    elim within.write_room [
      | inl few ↦ omega (arith, few)
      | inr none ↦ let no : true ≡ false = sym write ∙ none_writes q.code q.pc i none there in cc
    ]

none_of_three : (last ends out full write spent : Bool) → last ≡ false → (out ≡ true → full ≡ false) → (write ≡ true → spent ≡ false)
    → cond (last && not ends) (Some Budget) (cond (out && full) (Some Output) (cond (write && spent) (Some Writes) None)) ≡ None
none_of_three true ends out full write spent last outs writes = cc
none_of_three false ends true full true spent last outs writes = rw (outs refl, writes refl) refl
none_of_three false ends true full false spent last outs writes = rw (outs refl) refl
none_of_three false ends false full true spent last outs writes = rw (writes refl) refl
none_of_three false ends false full false spent last outs writes = refl

not_last : (steps n : ℕ) → steps + suc n < MAX_STEPS → (steps + 1 == MAX_STEPS) ≡ false
not_last steps n h = grind (arith, nat_tests)

no_excess : (n : ℕ) (i : Instr) (q : Frame) (v : Database) (outputs : List ℕ) → IsWithin (suc n) outputs q → slice_get q.code q.pc ≡ Some i → LeavesAtMost q v outputs → excess i q ≡ None
no_excess n i q v outputs within there after =
    none_of_three (is_last_step q) (is_end i) (is_out i) (nat_le MAX_OUTPUTS (length q.outputs)) (is_write i) (nat_le MAX_WRITES q.writes)
    (not_last q.steps n within.steps_left)
    (λ out. lt-leb MAX_OUTPUTS (length q.outputs) (few_outputs i q v outputs there after within.output_room out))
    (λ write. lt-leb MAX_WRITES q.writes (few_writes n i q outputs within there write))

no_limit : (version : Version) (i : Instr) (q : Frame) → excess i q ≡ None → limit version i q ≡ None
no_limit One i q none = refl
no_limit Two i q none = none

pub same_turn : (n : ℕ) (q : Frame) (v : Database) (outputs : List ℕ) → IsWithin (suc n) outputs q → LeavesAtMost q v outputs → turn q v ≡ turn_by_table q v
same_turn n q v outputs within after =
    elim (slice_get q.code q.pc) as (λ o. slice_get q.code q.pc ≡ o → step_at o q v ≡ act_at o q v) [
      | None ↦ λ e. refl
      | Some i ↦ λ e. ap (λ o. unless_stopped o (act i q v)) (no_limit q.version i q (no_excess n i q v outputs within e after))
    ] refl

pub within_next : (n : ℕ) (i : Instr) (q q' : Frame) (outputs : List ℕ) → IsWithin (suc n) outputs q → Makes i q q' → IsWithin n outputs q'
within_next n i q q' outputs within makes = record {
  steps_left = omega (arith, makes.steps, within.steps_left);
  output_room = within.output_room;
  write_room = elim within.write_room [
    | inl few ↦ inl (omega (arith, makes.writes, few, at_most_one (is_write i)))
    | inr none ↦ inr (ap (list_any is_write) makes.code ∙ none)
  ];
}
  where
    at_most_one : (b : Bool) → one_where b ≤ 1
    at_most_one true = omega arith
    at_most_one false = omega arith

-- ---- from the entry of a call
-- so many turns of this code, up to these outputs, pass no limit and put no fixed column
abbrev pub is_within : ℕ → List ℕ → List Instr → Bool
is_within n outputs code = list_all puts_free code && (nat_lt n MAX_STEPS && (nat_le (length outputs) MAX_OUTPUTS && (not (list_any is_write code) || nat_le n MAX_WRITES)))

is_not : (b : Bool) → not b ≡ true → b ≡ false
is_not true h = cc
is_not false h = refl

pub within_at_entry : (n : ℕ) (outputs : List ℕ) (modul : ModuleState) (procedure : ℕ) (arguments : List ℕ) (home : Option ℕ) → is_within n outputs (code_of modul procedure) ≡ true → IsWithin n outputs (entered modul procedure arguments home)
within_at_entry n outputs modul procedure arguments home h =
    let code = code_of modul procedure in
    let more = (and_parts (list_all puts_free code) _ h).1 in
    let room = (and_parts (nat_lt n MAX_STEPS) _ more).1 in
    record {
      steps_left = grind (arith, nat_tests, (and_parts (nat_lt n MAX_STEPS) _ more).0);
      output_room = grind (arith, nat_tests, (and_parts (nat_le (length outputs) MAX_OUTPUTS) _ room).0);
      write_room = ⊎_elim (λ none. inr (is_not (list_any is_write code) none)) (λ few. inl (grind (arith, nat_tests, few))) (or_cases (not (list_any is_write code)) (nat_le n MAX_WRITES) (and_parts (nat_le (length outputs) MAX_OUTPUTS) _ room).1);
    }
