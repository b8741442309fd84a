-- A site that nothing disturbs stays so, and nothing stands against a call there.
use Rattle.std.proofs.Common.{◌≡◌, ℕ, zero, suc, ◌+◌, ◌-◌, ◌^◌, ◌<◌, ◌≤◌, max, not, ◌&&◌, Bool, true, false, List, [], ◌∷◌, ◌++◌, length, length-append, if◌then◌else◌, Option, Some, None, slice_get, refl, ◌∙◌, ap, arith}
use Rattle.std.specs.Option.{option_map, option_map_or}
use Rattle.std.proofs.Math.ListN.{set}
use Rattle.std.proofs.lemmas.Bool.{eqb-true, false_from_ne_true}
use Rattle.tatp_tables.specs.Database.{Database}
use Rattle.tatp_calls.specs.declared.entry.Entry.{Entry}
use Rattle.tatp_logs.specs.Logs.{last_stamp_from}
use Rattle.tatp_extents.specs.Extents.{ExtentState, extent_of, last_stamp_of, with_home_at, with_entry, as_mixed}
use Rattle.tatp_partition.specs.declared.item.Item.{Item}
use Rattle.tatp_partition.specs.declared.refusal.SiteRefusal.TheVariants.{Running, Stopped, NotHere, WrongHome, StampFull}
use Rattle.tatp_partition.specs.Obstacles.{first_of, step_obstacle, obstacle_to_step, is_stamp_full, greater_stamp}
use Rattle.tatp_partition.specs.Running.{is_logged, after_end, with_end}
use Rattle.tatp_partition.specs.Sites.{SiteState, RunningCall, slot, last_stamp_here, with_rows_here}
use Rattle.tatp_dispatch.specs.Resting.{IsUndisturbed, last_stamp_in}
use Rattle.tatp_dispatch.proofs.CountLaws.{at_set}

-- ---- stamps
-- where one place is written
stamp_written : (n : ℕ) (slots : List (Option ExtentState)) (e k : ℕ) (o : Option ExtentState) → option_map_or last_stamp_of o 0 ≤ n → ((j : ℕ) → last_stamp_in slots j ≤ n) → last_stamp_in (set slots e o) k ≤ n
stamp_written n [] e k o new old = old k
stamp_written n (x ∷ slots) zero zero o new old = new
stamp_written n (x ∷ slots) zero (suc k) o new old = old (suc k)
stamp_written n (x ∷ slots) (suc e) zero o new old = old zero
stamp_written n (x ∷ slots) (suc e) (suc k) o new old = stamp_written n slots e k o new (λ j. old (suc j))

get_last : {A : Type 0} (xs : List A) (x : A) → slice_get (xs ++ x ∷ []) (length xs) ≡ Some x
get_last [] x = refl
get_last (a ∷ xs) x = get_last xs x

one_less : {A : Type 0} (xs : List A) (x : A) → length (xs ++ x ∷ []) - 1 ≡ length xs
one_less xs x = omega (arith, length-append xs (x ∷ []))

last_pushed : (kept : ℕ) (log : List Entry) (entry : Entry) → last_stamp_from kept (log ++ entry ∷ []) ≡ entry.stamp
last_pushed kept log entry =
    ap (λ i. option_map_or (λ (e : Entry). e.stamp) (slice_get (log ++ entry ∷ []) i) kept) (one_less log entry)
    ∙ ap (λ o. option_map_or (λ (e : Entry). e.stamp) o kept) (get_last log entry)

-- ---- what keeps it so
pub free_longer : (n m : ℕ) (s : SiteState) → n ≤ m → IsUndisturbed n s → IsUndisturbed m s
free_longer n m s le d = record { goes = d.goes; no_breakpoint = d.no_breakpoint; stamps = λ e. omega (arith, le, d.stamps e); homeless_stamp = omega (arith, le, d.homeless_stamp) }

-- another call runs, or none
pub free_running : (n : ℕ) (s : SiteState) (o : Option RunningCall) → IsUndisturbed n s → IsUndisturbed n (record s { running = o })
free_running n s o d = record { goes = d.goes; no_breakpoint = d.no_breakpoint; stamps = d.stamps; homeless_stamp = d.homeless_stamp }

-- a home has other rows
pub free_rows : (n : ℕ) (s : SiteState) (home : Option ℕ) (rows : Database) → IsUndisturbed n s → IsUndisturbed n (with_rows_here s home rows)
free_rows n s None rows d = d
free_rows n s (Some h) rows d = record {
  goes = d.goes;
  no_breakpoint = d.no_breakpoint;
  stamps = λ k. stamp_written n s.slots (extent_of h) k (option_map change (slot s.slots (extent_of h))) (changed (slot s.slots (extent_of h)) (d.stamps (extent_of h))) d.stamps;
  homeless_stamp = d.homeless_stamp;
}
  where
    change : ExtentState → ExtentState
    change x = with_home_at x h (record { s_id = h; tables = rows })

    changed : (o : Option ExtentState) → option_map_or last_stamp_of o 0 ≤ n → option_map_or last_stamp_of (option_map change o) 0 ≤ n
    changed None le = le
    changed (Some x) le = le

-- a call ends there with one stamp more
extent_stamp : (n : ℕ) (b : Bool) (entry : Entry) (x : ExtentState) → last_stamp_of x ≤ n → entry.stamp ≤ n + 1 → last_stamp_of (if b then with_entry x entry else as_mixed x) ≤ n + 1
extent_stamp n true entry x old new = omega (arith, last_pushed x.kept_stamp x.log entry, new)
extent_stamp n false entry x old new = omega (arith, old)

homeless_stamp : (n : ℕ) (b : Bool) (entry : Entry) (s : SiteState) → last_stamp_here s None ≤ n → entry.stamp ≤ n + 1
    → last_stamp_here (record s { homeless = if b then record s.homeless { log = s.homeless.log ++ entry ∷ [] } else record s.homeless { mixed = true } }) None ≤ n + 1
homeless_stamp n true entry s old new = omega (arith, last_pushed s.homeless.kept_stamp s.homeless.log entry, new)
homeless_stamp n false entry s old new = omega (arith, old)

pub free_ended : (n : ℕ) (s : SiteState) (home : Option ℕ) (entry : Entry) → entry.stamp ≤ n + 1 → IsUndisturbed n s → IsUndisturbed (n + 1) (with_end s home entry)
free_ended n s None entry new d = record {
  goes = d.goes;
  no_breakpoint = d.no_breakpoint;
  stamps = λ k. omega (arith, d.stamps k);
  homeless_stamp = homeless_stamp n (is_logged s entry && not s.homeless.mixed) entry s d.homeless_stamp new;
}
free_ended n s (Some h) entry new d = record {
  goes = d.goes;
  no_breakpoint = d.no_breakpoint;
  stamps = λ k. stamp_written (n + 1) s.slots (extent_of h) k (option_map (after_end (is_logged s entry) entry) (slot s.slots (extent_of h))) (changed (slot s.slots (extent_of h)) (d.stamps (extent_of h))) (λ j. omega (arith, d.stamps j));
  homeless_stamp = omega (arith, d.homeless_stamp);
}
  where
    changed : (o : Option ExtentState) → option_map_or last_stamp_of o 0 ≤ n → option_map_or last_stamp_of (option_map (after_end (is_logged s entry) entry) o) 0 ≤ n + 1
    changed None le = omega arith
    changed (Some x) le = extent_stamp n (is_logged s entry && not x.mixed) entry x le new

-- among the sites one is written
pub all_free : (n : ℕ) (sites : List SiteState) (p : ℕ) (s s' : SiteState) → slice_get sites p ≡ Some s → ((q : ℕ) (t : SiteState) → slice_get sites q ≡ Some t → IsUndisturbed n t) → IsUndisturbed n s' → (q : ℕ) (t : SiteState) → slice_get (set sites p s') q ≡ Some t → IsUndisturbed n t
all_free n sites p s s' here old new q t at = at_set (λ (j : ℕ) (z : SiteState). IsUndisturbed n z) sites p s s' here new (λ j z other is. old j z is) q t at

-- ---- what stands against a call
pub stamp_here : (n : ℕ) (s : SiteState) (home : Option ℕ) → IsUndisturbed n s → last_stamp_here s home ≤ n
stamp_here n s None d = d.homeless_stamp
stamp_here n s (Some h) d = d.stamps (extent_of h)

pub greater_within : (n : ℕ) (s : SiteState) (seen : ℕ) (home : Option ℕ) → IsUndisturbed n s → seen ≤ n → greater_stamp s seen home ≤ n
greater_within n s seen home d le = most seen (last_stamp_here s home) le (stamp_here n s home d)
  where
    most : (a b : ℕ) → a ≤ n → b ≤ n → max a b ≤ n
    most a b h k = omega (arith, h, k)

pub stamp_left : (n : ℕ) (s : SiteState) (item : Item) → n + 1 < 2 ^ 64 → IsUndisturbed n s → item.seen ≤ n → is_stamp_full s item ≡ false
stamp_left n s item few d le = false_from_ne_true (is_stamp_full s item) (λ full. omega (arith, few, greater_within n s item.seen item.home d le, eqb-true (greater_stamp s item.seen item.home) (2 ^ 64 - 1) full))

pub none_holds : (running stopped away wrong full : Bool) → running ≡ false → stopped ≡ false → away ≡ false → wrong ≡ false → full ≡ false
    → first_of (
    record { holds = running; refusal = Running }
    ∷ record { holds = stopped; refusal = Stopped }
    ∷ record { holds = away; refusal = NotHere }
    ∷ record { holds = wrong; refusal = WrongHome }
    ∷ record { holds = full; refusal = StampFull }
    ∷ []) ≡ None
none_holds running stopped away wrong full a b c d e = rw (a, b, c, d, e) refl

pub no_step_obstacle : (n : ℕ) (s : SiteState) (r : RunningCall) → s.running ≡ Some r → IsUndisturbed n s → step_obstacle s ≡ None
no_step_obstacle n s r runs d =
    ap (λ o. obstacle_to_step o s.stopped s.breakpoints) runs
    ∙ (ap (λ b. obstacle_to_step (Some r) b s.breakpoints) d.goes
    ∙ ap (λ places. obstacle_to_step (Some r) false places) d.no_breakpoint)
