-- A run by the table that stays within the limits is a run: on each database that has the rows of its home.
use Rattle.std.specs.Prelude.{◌≡◌, ℕ, zero, suc, true, List, Some, None}
use Rattle.std.specs.List.{list_all}
use Rattle.std.proofs.Common.{refl, sym, ap, subst, ◌∙◌}
use Rattle.tatp_tables.specs.Database.{Database, no_tables, of_subscriber, with_subscriber}
use Rattle.tatp_homes.proofs.SubscriberLaws.{of_subscriber-with_subscriber, with_subscriber-of_subscriber, with_subscriber-with_subscriber}
use Rattle.tatp_homes.proofs.ChangeLaws.{IsHome-none}
use Rattle.tatp_instr.specs.declared.ending.End.{End}
use Rattle.tatp_instr.specs.declared.ending.End.TheVariants.{Done, Failed, Trapped}
use Rattle.tatp_machine.specs.Calls.{Frame, CallState}
use Rattle.tatp_machine.specs.Instructions.{Goes_on, Stops, Nothing_next, turn}
use Rattle.tatp_machine.specs.Lines.{left_by, rows_of_home, with_home_rows}
use Rattle.tatp_machine.specs.Machines.{rows_left}
use Rattle.tatp_machine.specs.Runs.{Outcome, EndsAfter}
use Rattle.tatp_machine.specs.VersionOne.{turn_by_table}
use Rattle.tatp_procs.proofs.KeepLaws.{puts_free, AreHome, Keeps, table_keeps}
use Rattle.tatp_procs.proofs.RunLaws.{Over, continue_with, run, run_homeless, end_is, outputs_are, rows_are, makes_next, grows, grows_homeless}
use Rattle.tatp_procs.proofs.WithinLaws.{IsWithin, LeavesAtMost, same_turn, within_next}

-- the outcome of a call whose run ended so
abbrev pub outcome : End → List ℕ → Database → Outcome
outcome end outputs u = record { end = end; outputs = outputs; database = u }

-- the call leads to this outcome, after some lines
abbrev pub LeadsTo : CallState → Database → Outcome → Type 0
LeadsTo q u o = (lines : ℕ) × EndsAfter lines q u o

abbrev pub call_in : Frame → Database → CallState
call_in q entry = record { frame = q; entry = entry }

-- what an end leaves of the home's rows is what it leaves of the database
left_is : (end : End) (q : Frame) (entry : Database) (s : ℕ) (v w u : Database) → q.home ≡ Some s → of_subscriber u s ≡ v → v ≡ w → with_subscriber u s (rows_left end entry w) ≡ left_by end (call_in q entry) u
left_is Done q entry s v w u h o e = ap (with_subscriber u s) (sym e ∙ sym o) ∙ with_subscriber-of_subscriber u s
left_is (Failed n) q entry s v w u h o e = sym (ap (λ k. with_home_rows u k entry) h)
left_is (Trapped trap) q entry s v w u h o e = sym (ap (λ k. with_home_rows u k entry) h)

run_after : (n : ℕ) (q : Frame) (v w : Database) (end : End) (outputs : List ℕ) → run (suc n) q v ≡ Over end outputs w → LeavesAtMost q v outputs
run_after n q v w end outputs h next x e = grows n next x w end outputs (sym (ap (continue_with (run n) q.outputs v) e) ∙ h)

pub run_leads : (n : ℕ) (q : Frame) (entry v w : Database) (s : ℕ) (u : Database) (end : End) (outputs : List ℕ) → IsWithin n outputs q → list_all puts_free q.code ≡ true → q.home ≡ Some s → of_subscriber u s ≡ v → AreHome s v
    → run n q v ≡ Over end outputs w → LeadsTo (call_in q entry) u (outcome end outputs (with_subscriber u s (rows_left end entry w)))
run_leads zero q entry v w s u end outputs within free home o is h = cc
run_leads (suc n) q entry v w s u end outputs within free home o is h =
    let here : turn q (rows_of_home u q.home) ≡ turn_by_table q v = ap (λ k. turn q (rows_of_home u k)) home ∙ ap (turn q) o ∙ same_turn n q v outputs within (run_after n q v w end outputs h) in
    elim (turn_by_table q v) as (λ t. turn_by_table q v ≡ t → Keeps s q t → continue_with (run n) q.outputs v t ≡ Over end outputs w → LeadsTo (call_in q entry) u (outcome end outputs (with_subscriber u s (rows_left end entry w)))) [
      | Goes_on next x ↦ λ e k h.
          let made = makes_next q next v x e in
          let more = run_leads n next entry x w s (with_subscriber u s x) end outputs (within_next n made.0 q next outputs within made.2) (ap (list_all puts_free) k.1 ∙ free) (k.0 ∙ home) (of_subscriber-with_subscriber u s x k.2.own) k.2 h in (
            suc more.0,
            (
              call_in next entry,
              with_subscriber u s x,
              record { rows = x; acts = here ∙ e; entry = refl; whole = sym (ap (λ k. with_home_rows u k x) home) },
              subst (λ d. EndsAfter more.0 (call_in next entry) (with_subscriber u s x) (outcome end outputs d)) (with_subscriber-with_subscriber u s x (rows_left end entry w) k.2.own) more.1,
            ),
          )
      | Stops f ↦ λ e k h. (
        zero,
        (
          record {
            acts = here ∙ e ∙ ap Stops (end_is f end q.outputs outputs v w h);
            whole = left_is end q entry s v w u home o (rows_are f end q.outputs outputs v w h);
          },
          sym (outputs_are f end q.outputs outputs v w h),
        ),
      )
      | Nothing_next ↦ λ e k h. cc
    ] refl (table_keeps s q v free is) h

-- ---- without a home
left_homeless : (end : End) (q : Frame) (u : Database) → q.home ≡ None → u ≡ left_by end (call_in q no_tables) u
left_homeless Done q u h = refl
left_homeless (Failed n) q u h = sym (ap (λ k. with_home_rows u k no_tables) h)
left_homeless (Trapped trap) q u h = sym (ap (λ k. with_home_rows u k no_tables) h)

run_homeless_after : (n : ℕ) (q : Frame) (w : Database) (end : End) (outputs : List ℕ) → run_homeless (suc n) q ≡ Over end outputs w → LeavesAtMost q no_tables outputs
run_homeless_after n q w end outputs h next x e = grows_homeless n next w end outputs (sym (ap (continue_with (λ next v. run_homeless n next) q.outputs no_tables) e) ∙ h)

pub run_homeless_leads : (n : ℕ) (q : Frame) (w u : Database) (end : End) (outputs : List ℕ) → IsWithin n outputs q → list_all puts_free q.code ≡ true → q.home ≡ None
    → run_homeless n q ≡ Over end outputs w → LeadsTo (call_in q no_tables) u (outcome end outputs u)
run_homeless_leads zero q w u end outputs within free home h = cc
run_homeless_leads (suc n) q w u end outputs within free home h =
    let here : turn q (rows_of_home u q.home) ≡ turn_by_table q no_tables = ap (λ k. turn q (rows_of_home u k)) home ∙ same_turn n q no_tables outputs within (run_homeless_after n q w end outputs h) in
    elim (turn_by_table q no_tables) as (λ t. turn_by_table q no_tables ≡ t → Keeps 0 q t → continue_with (λ next v. run_homeless n next) q.outputs no_tables t ≡ Over end outputs w → LeadsTo (call_in q no_tables) u (outcome end outputs u)) [
      | Goes_on next x ↦ λ e k h.
          let made = makes_next q next no_tables x e in
          let more = run_homeless_leads n next w u end outputs (within_next n made.0 q next outputs within made.2) (ap (list_all puts_free) k.1 ∙ free) (k.0 ∙ home) h in (
            suc more.0,
            (call_in next no_tables, u, record { rows = x; acts = here ∙ e; entry = refl; whole = sym (ap (λ k. with_home_rows u k x) home) }, more.1),
          )
      | Stops f ↦ λ e k h. (
        zero,
        (
          record { acts = here ∙ e ∙ ap Stops (end_is f end q.outputs outputs no_tables w h); whole = left_homeless end q u home },
          sym (outputs_are f end q.outputs outputs no_tables w h),
        ),
      )
      | Nothing_next ↦ λ e k h. cc
    ] refl (table_keeps 0 q no_tables free (IsHome-none 0)) h
