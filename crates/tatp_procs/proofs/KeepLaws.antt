-- A turn that goes on leaves the call its home and its code, and the home's rows a home's.
use Rattle.std.specs.Prelude.{◌≡◌, ℕ, zero, suc, Bool, true, false, not, List, [], ◌∷◌, Option, Some, None, Result, Ok, Err, slice_get}
use Rattle.std.specs.List.{list_all}
use Rattle.std.specs.Option.{option_and_then}
use Rattle.std.proofs.Common.{refl, subst}
use Rattle.std.proofs.lemmas.Bool.{and_parts}
use Rattle.tatp_instr.specs.declared.instr.Instr.{Instr}
use Rattle.tatp_instr.specs.declared.instr.Instr.TheVariants.{Ldi, Mov, Arg, Add, Sub, Eq, Lt, Jmp, Jz, Fsub, Fnum, Facc, Ffac, Fcfw, Get, Put, Ins, Del, Out, Done, Fail, Loop}
use Rattle.tatp_tables.specs.Tuples.{Tuple}
use Rattle.tatp_tables.specs.Columns.{table_of, is_fixed}
use Rattle.tatp_tables.specs.Database.{Database}
use Rattle.tatp_homes.specs.Changes.{cell, put_answer, put_tables, insert_answer, insert_tables, delete_answer, delete_tables}
use Rattle.tatp_homes.specs.Home.{IsHome}
use Rattle.tatp_tables.specs.declared.table.Table.TheVariants.{CallForwarding}
use Rattle.tatp_homes.specs.declared.refusal.Refusal.{Refusal}
use Rattle.tatp_homes.specs.declared.refusal.Refusal.TheVariants.{NoCurrent, Domain, KeyExists, NoParent}
use Rattle.tatp_homes.proofs.ChangeLaws.{IsHome-put, IsHome-insert, IsHome-delete}
use Rattle.tatp_machine.specs.Calls.{Frame, key_in}
use Rattle.tatp_machine.specs.Instructions.{Turn, Goes_on, Stops, Nothing_next, value, got, put, put_current, inserted, deleted, delete_current, five_values, act, act_at, limit, unless_stopped, step_at, turn}
use Rattle.tatp_machine.specs.VersionOne.{turn_by_table}
use Rattle.tatp_instr.specs.declared.ending.Trap.{Trap}

-- PUT is on no fixed column
abbrev pub puts_free : Instr → Bool
puts_free (Put a c) = not (is_fixed c)
puts_free i = true

-- the rows of a home
abbrev pub AreHome : ℕ → Database → Type 0
AreHome s v = IsHome (record { s_id = s; tables = v })

abbrev pub Keeps : ℕ → Frame → Turn → Type 0
Keeps s q (Goes_on q' v) = (q'.home ≡ q.home) × (q'.code ≡ q.code) × AreHome s v
Keeps s q (Stops end) = Unit {0}
Keeps s q Nothing_next = Unit {0}

got_keeps : (s : ℕ) (q : Frame) (d : ℕ) (v : Database) (x : Option ℕ) → AreHome s v → Keeps s q (got q d v x)
got_keeps s q d v None is = tt
got_keeps s q d v (Some x) is = (refl, refl, is)

free : (b : Bool) → not b ≡ true → b ≡ false
free true e = cc
free false e = refl

put_keeps : (s : ℕ) (q : Frame) (after : Database) (answer : Result ℕ Refusal) → AreHome s after → Keeps s q (put q after answer)
put_keeps s q after (Ok before) is = (refl, refl, is)
put_keeps s q after (Err refusal) is = tt

put_current_keeps : (s : ℕ) (q : Frame) (v : Database) (c x : ℕ) (key : Option (List ℕ)) → is_fixed c ≡ false → AreHome s v → Keeps s q (put_current q v c x key)
put_current_keeps s q v c x None f is = tt
put_current_keeps s q v c x (Some key) f is = put_keeps s q (put_tables v c key x) (put_answer v c key x) (IsHome-put (record { s_id = s; tables = v }) c key x f is)

inserted_keeps : (s : ℕ) (q : Frame) (d : ℕ) (after : Database) (answer : Result (Unit {0}) Refusal) → AreHome s after → Keeps s q (inserted q d after answer)
inserted_keeps s q d after (Ok done) is = (refl, refl, is)
inserted_keeps s q d after (Err Domain) is = tt
inserted_keeps s q d after (Err NoParent) is = (refl, refl, is)
inserted_keeps s q d after (Err KeyExists) is = (refl, refl, is)
inserted_keeps s q d after (Err NoCurrent) is = (refl, refl, is)

deleted_keeps : (s : ℕ) (q : Frame) (after : Database) (answer : Result Tuple Refusal) → AreHome s after → Keeps s q (deleted q after answer)
deleted_keeps s q after (Ok row) is = (refl, refl, is)
deleted_keeps s q after (Err refusal) is = tt

delete_current_keeps : (s : ℕ) (q : Frame) (v : Database) (key : Option (List ℕ)) → AreHome s v → Keeps s q (delete_current q v key)
delete_current_keeps s q v None is = tt
delete_current_keeps s q v (Some key) is = deleted_keeps s q (delete_tables v key) (delete_answer v key) (IsHome-delete (record { s_id = s; tables = v }) key is)

act_keeps : (i : Instr) (s : ℕ) (q : Frame) (v : Database) → puts_free i ≡ true → AreHome s v → Keeps s q (act i q v)
act_keeps (Ldi d n) s q v f is = (refl, refl, is)
act_keeps (Mov d a) s q v f is = (refl, refl, is)
act_keeps (Arg d k) s q v f is = (refl, refl, is)
act_keeps (Add d a b) s q v f is = (refl, refl, is)
act_keeps (Sub d a b) s q v f is = (refl, refl, is)
act_keeps (Eq d a b) s q v f is = (refl, refl, is)
act_keeps (Lt d a b) s q v f is = (refl, refl, is)
act_keeps (Jmp t) s q v f is = (refl, refl, is)
act_keeps (Jz a t) s q v f is = (refl, refl, is)
act_keeps (Fsub d a) s q v f is = (refl, refl, is)
act_keeps (Fnum d a) s q v f is = (refl, refl, is)
act_keeps (Facc d a b) s q v f is = (refl, refl, is)
act_keeps (Ffac d a b) s q v f is = (refl, refl, is)
act_keeps (Fcfw d a) s q v f is = (refl, refl, is)
act_keeps (Get d c) s q v f is = got_keeps s q d v (option_and_then (cell v c) (key_in (table_of c) q.current)) is
act_keeps (Put a c) s q v f is = put_current_keeps s q v c (value q a) (key_in (table_of c) q.current) (free (is_fixed c) f) is
act_keeps (Ins d a) s q v f is = inserted_keeps s q d (insert_tables v (five_values q a)) (insert_answer v (five_values q a)) (IsHome-insert (record { s_id = s; tables = v }) (five_values q a) refl is)
act_keeps Del s q v f is = delete_current_keeps s q v (key_in CallForwarding q.current) is
act_keeps (Out a) s q v f is = (refl, refl, is)
act_keeps Done s q v f is = tt
act_keeps (Fail n) s q v f is = tt
act_keeps (Loop a t) s q v f is = (refl, refl, is)

at_each : (test : Instr → Bool) (code : List Instr) (i : ℕ) (x : Instr) → list_all test code ≡ true → slice_get code i ≡ Some x → test x ≡ true
at_each test [] i x all e = cc
at_each test (y ∷ more) zero x all e = let is : y ≡ x = cc in subst (λ z. test z ≡ true) is (and_parts (test y) (list_all test more) all).0
at_each test (y ∷ more) (suc i) x all e = at_each test more i x (and_parts (test y) (list_all test more) all).1 e

-- by the table alone
pub table_keeps : (s : ℕ) (q : Frame) (v : Database) → list_all puts_free q.code ≡ true → AreHome s v → Keeps s q (turn_by_table q v)
table_keeps s q v f is =
    elim (slice_get q.code q.pc) as (λ o. slice_get q.code q.pc ≡ o → Keeps s q (act_at o q v)) [
      | None ↦ λ e. tt
      | Some i ↦ λ e. act_keeps i s q v (at_each puts_free q.code q.pc i f e) is
    ] refl

unless_keeps : (s : ℕ) (q : Frame) (o : Option Trap) (t : Turn) → Keeps s q t → Keeps s q (unless_stopped o t)
unless_keeps s q None t k = k
unless_keeps s q (Some trap) t k = tt

pub turn_keeps : (s : ℕ) (q : Frame) (v : Database) → list_all puts_free q.code ≡ true → AreHome s v → Keeps s q (turn q v)
turn_keeps s q v f is =
    elim (slice_get q.code q.pc) as (λ o. slice_get q.code q.pc ≡ o → Keeps s q (step_at o q v)) [
      | None ↦ λ e. tt
      | Some i ↦ λ e. unless_keeps s q (limit q.version i q) (act i q v) (act_keeps i s q v (at_each puts_free q.code q.pc i f e) is)
    ] refl
