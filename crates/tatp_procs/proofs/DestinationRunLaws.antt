-- GET_NEW_DESTINATION on the rows of a home: up to the first round, through each round, and to its end.
use Rattle.std.specs.Prelude.{◌≡◌, ℕ, zero, suc, ◌+◌, ◌%◌, ◌^◌, ◌&&◌, ◌≤◌, nat_lt, true, false, if◌then◌else◌, List, [], ◌∷◌, ◌++◌, Option, Some, None, slice_index}
use Rattle.std.specs.Option.{option_to_list}
use Rattle.std.proofs.Common.{refl, ◌∙◌, arith}
use Rattle.tatp_instr.specs.declared.version.Version.TheVariants.{Two}
use Rattle.tatp_tables.specs.Tuples.{Tuple}
use Rattle.tatp_tables.specs.Keys.{row_at}
use Rattle.tatp_tables.specs.Database.{Database, no_tables}
use Rattle.tatp_instr.specs.declared.ending.End.TheVariants.{Done, Failed}
use Rattle.tatp_machine.specs.Calls.{Frame, code_of, entered}
use Rattle.tatp_machine.proofs.HomelessLaws.{nothing_at}
use Rattle.tatp_procs.specs.Standard.{standard_module}
use Rattle.tatp_calls.specs.Transactions.{end_time_of, numberx_of}
use Rattle.tatp_procs.proofs.RunLaws.{Ending, Over, run, run_homeless}

-- ---- where it stops early
pub destination_homeless : (s k b e : ℕ) → run_homeless 7 (entered standard_module 1 (s ∷ k ∷ b ∷ e ∷ []) None) ≡ Over (Failed 1) [] no_tables
destination_homeless s k b e = rw (nothing_at (s ∷ k ∷ [])) refl

pub facility_none : (s k b e : ℕ) (home : Option ℕ) (t : Database) → row_at t.facilities (s ∷ k ∷ []) ≡ None
    → run 7 (entered standard_module 1 (s ∷ k ∷ b ∷ e ∷ []) home) t ≡ Over (Failed 1) [] t
facility_none s k b e home t f = rw f refl

pub facility_inactive : (s k b e : ℕ) (home : Option ℕ) (t : Database) (facility : Tuple) → row_at t.facilities (s ∷ k ∷ []) ≡ Some facility → row_at t.facilities (slice_index facility 0 ∷ slice_index facility 1 ∷ []) ≡ Some facility
    → slice_index facility 2 ≡ 0 → run 9 (entered standard_module 1 (s ∷ k ∷ b ∷ e ∷ []) home) t ≡ Over (Failed 1) [] t
facility_inactive s k b e home t facility f g zero_is = rw (f, g, zero_is) refl

-- ---- its state between two rounds
-- registers and keys that the rounds use and leave, and the steps made
record Scratch : Type 0 where
  test : ℕ
  column : ℕ
  facility : Option (List ℕ)
  forwarding : Option (List ℕ)
  steps : ℕ

-- the three rounds, by the start time that they look for
data Round : Type 0 where
  First : Round
  Second : Round
  Third : Round

abbrev start_of : Round → ℕ
start_of First = 0
start_of Second = 8
start_of Third = 16

-- how often LOOP still leads back
abbrev left_of : Round → ℕ
left_of First = 2
left_of Second = 1
left_of Third = 0

-- before a round, or past the last
data Place : Type 0 where
  Before : Round → Place
  Past : Place

abbrev after : Round → Place
after First = Before Second
after Second = Before Third
after Third = Past

abbrev pc_at : Place → ℕ
pc_at (Before w) = 12
pc_at Past = 24

abbrev start_at : Place → ℕ
start_at (Before w) = start_of w
start_at Past = 24

abbrev left_at : Place → ℕ
left_at (Before w) = left_of w
left_at Past = 0

-- the first of its arguments, b and one, e, and whether a number was put out
abbrev between : Option ℕ → ℕ → ℕ → ℕ → ℕ → ℕ → Place → Scratch → ℕ → List ℕ → Frame
between home s k b l e p x some outputs = record {
  procedure = 1;
  version = Two;
  code = code_of standard_module 1;
  arguments = s ∷ k ∷ b ∷ e ∷ [];
  home = home;
  pc = pc_at p;
  registers = s ∷ k ∷ start_at p ∷ 8 ∷ 1 ∷ l ∷ e ∷ x.test ∷ x.column ∷ some ∷ left_at p ∷ 0 ∷ 0 ∷ 0 ∷ 0 ∷ 0 ∷ [];
  current = record { subscriber = None; access = None; facility = x.facility; forwarding = x.forwarding };
  outputs = outputs;
  steps = x.steps;
  writes = 0;
}

-- n turns more
abbrev more : ℕ → ℕ → ℕ
more zero m = m
more (suc n) m = suc (more n m)

-- so many steps more
abbrev steps_more : ℕ → ℕ → ℕ
steps_more zero steps = steps
steps_more (suc n) steps = steps_more n (steps + 1)

-- before the first round, of this facility
abbrev at_first : Tuple → Scratch
at_first facility = record { test = 1; column = 0; facility = Some (slice_index facility 0 ∷ slice_index facility 1 ∷ 0 ∷ []); forwarding = None; steps = 12 }

head : (s k b e : ℕ) (home : Option ℕ) (t : Database) (facility : Tuple) (m : ℕ) → row_at t.facilities (s ∷ k ∷ []) ≡ Some facility → row_at t.facilities (slice_index facility 0 ∷ slice_index facility 1 ∷ []) ≡ Some facility
    → slice_index facility 2 ≡ 1 → run (more 12 m) (entered standard_module 1 (s ∷ k ∷ b ∷ e ∷ []) home) t
    ≡ run m (between home s k b ((b + 1) % 2 ^ 64) e (Before First) (at_first facility) 0 []) t
head s k b e home t facility m f g one_is = rw (f, g, one_is) refl

-- ---- a round
-- what it puts out
abbrev pub chosen : ℕ → ℕ → ℕ → Option Tuple → Option ℕ
chosen l e n None = None
chosen l e n (Some cf) = if nat_lt n l && nat_lt e (end_time_of cf) then Some (numberx_of cf) else None

abbrev added : List ℕ → Option ℕ → List ℕ
added outputs None = outputs
added outputs (Some number) = outputs ++ number ∷ []

abbrev marked : ℕ → Option ℕ → ℕ
marked some None = some
marked some (Some number) = 1

module _ (home : Option ℕ) (s k b l e : ℕ) (t : Database) (x : Scratch) (some : ℕ) (outputs : List ℕ) where
  round_none : (w : Round) (m : ℕ) → row_at t.forwardings (s ∷ k ∷ start_of w ∷ []) ≡ None
      → run (more 4 m) (between home s k b l e (Before w) x some outputs) t ≡ run m (between home s k b l e (after w) (record x { test = 0; forwarding = None; steps = steps_more 4 x.steps }) some outputs) t
  round_none First m f = rw f refl
  round_none Second m f = rw f refl
  round_none Third m f = rw f refl

  round_late : (w : Round) (m : ℕ) (cf : Tuple) → row_at t.forwardings (s ∷ k ∷ start_of w ∷ []) ≡ Some cf → nat_lt (start_of w) l ≡ false
      → run (more 6 m) (between home s k b l e (Before w) x some outputs) t
      ≡ run m (between home s k b l e (after w) (record x { test = 0; forwarding = Some (slice_index cf 0 ∷ slice_index cf 1 ∷ slice_index cf 2 ∷ []); steps = steps_more 6 x.steps }) some outputs) t
  round_late First m cf f h = rw (f, h) refl
  round_late Second m cf f h = rw (f, h) refl
  round_late Third m cf f h = rw (f, h) refl

  round_over : (w : Round) (m : ℕ) (cf : Tuple) → row_at t.forwardings (s ∷ k ∷ start_of w ∷ []) ≡ Some cf → row_at t.forwardings (slice_index cf 0 ∷ slice_index cf 1 ∷ slice_index cf 2 ∷ []) ≡ Some cf
      → nat_lt (start_of w) l ≡ true → nat_lt e (slice_index cf 3) ≡ false
      → run (more 9 m) (between home s k b l e (Before w) x some outputs) t
      ≡ run m (between home s k b l e (after w) (record x { test = 0; column = slice_index cf 3; forwarding = Some (slice_index cf 0 ∷ slice_index cf 1 ∷ slice_index cf 2 ∷ []); steps = steps_more 9 x.steps }) some outputs) t
  round_over First m cf f g h i = rw (f, h, g, i) refl
  round_over Second m cf f g h i = rw (f, h, g, i) refl
  round_over Third m cf f g h i = rw (f, h, g, i) refl

  round_sent : (w : Round) (m : ℕ) (cf : Tuple) → row_at t.forwardings (s ∷ k ∷ start_of w ∷ []) ≡ Some cf → row_at t.forwardings (slice_index cf 0 ∷ slice_index cf 1 ∷ slice_index cf 2 ∷ []) ≡ Some cf
      → nat_lt (start_of w) l ≡ true → nat_lt e (slice_index cf 3) ≡ true
      → run (more 12 m) (between home s k b l e (Before w) x some outputs) t
      ≡ run m (between home s k b l e (after w) (record x { test = 1; column = slice_index cf 4; forwarding = Some (slice_index cf 0 ∷ slice_index cf 1 ∷ slice_index cf 2 ∷ []); steps = steps_more 12 x.steps }) 1 (outputs ++ slice_index cf 4 ∷ [])) t
  round_sent First m cf f g h i = rw (f, h, g, i, g) refl
  round_sent Second m cf f g h i = rw (f, h, g, i, g) refl
  round_sent Third m cf f g h i = rw (f, h, g, i, g) refl

-- some turns, at most twelve, lead through a round
abbrev GoesThrough : Option ℕ → ℕ → ℕ → ℕ → ℕ → ℕ → Database → Scratch → ℕ → List ℕ → Round → Option ℕ → Type 0
GoesThrough home s k b l e t x some outputs w number = (n : ℕ) × (x' : Scratch)
    × ((m : ℕ) → run (more n m) (between home s k b l e (Before w) x some outputs) t ≡ run m (between home s k b l e (after w) x' (marked some number) (added outputs number)) t)
    × (n ≤ 12)

round : (home : Option ℕ) (s k b l e : ℕ) (t : Database) (x : Scratch) (some : ℕ) (outputs : List ℕ) (w : Round) (row : Option Tuple) → row_at t.forwardings (s ∷ k ∷ start_of w ∷ []) ≡ row
    → ((cf : Tuple) → row ≡ Some cf → row_at t.forwardings (slice_index cf 0 ∷ slice_index cf 1 ∷ slice_index cf 2 ∷ []) ≡ Some cf)
    → GoesThrough home s k b l e t x some outputs w (chosen l e (start_of w) row)
round home s k b l e t x some outputs w None f again = (4, _, λ m. round_none home s k b l e t x some outputs w m f, omega arith)
round home s k b l e t x some outputs w (Some cf) f again =
    elim (nat_lt (start_of w) l) as (λ c. nat_lt (start_of w) l ≡ c → GoesThrough home s k b l e t x some outputs w (if c && nat_lt e (end_time_of cf) then Some (numberx_of cf) else None)) [
      | false ↦ λ h. (6, _, λ m. round_late home s k b l e t x some outputs w m cf f h, omega arith)
      | true ↦ λ h. elim (nat_lt e (slice_index cf 3)) as (λ c. nat_lt e (slice_index cf 3) ≡ c → GoesThrough home s k b l e t x some outputs w (if c then Some (numberx_of cf) else None)) [
        | false ↦ λ i. (9, _, λ m. round_over home s k b l e t x some outputs w m cf f (again cf refl) h i, omega arith)
        | true ↦ λ i. (12, _, λ m. round_sent home s k b l e t x some outputs w m cf f (again cf refl) h i, omega arith)
      ] refl
    ] refl

-- ---- the end
abbrev pub ending_of : List ℕ → Database → Ending
ending_of [] t = Over (Failed 1) [] t
ending_of (number ∷ numbers) t = Over Done (number ∷ numbers) t

abbrev pub all_of : Option ℕ → Option ℕ → Option ℕ → List ℕ
all_of a b c = option_to_list a ++ (option_to_list b ++ option_to_list c)

finish : (home : Option ℕ) (s k b l e : ℕ) (t : Database) (x : Scratch) (u v w : Option ℕ)
    → run 2 (between home s k b l e Past x (marked (marked (marked 0 u) v) w) (added (added (added [] u) v) w)) t ≡ ending_of (all_of u v w) t
finish home s k b l e t x None None None = refl
finish home s k b l e t x None None (Some o) = refl
finish home s k b l e t x None (Some n) None = refl
finish home s k b l e t x None (Some n) (Some o) = refl
finish home s k b l e t x (Some m) None None = refl
finish home s k b l e t x (Some m) None (Some o) = refl
finish home s k b l e t x (Some m) (Some n) None = refl
finish home s k b l e t x (Some m) (Some n) (Some o) = refl

-- ---- all of it, of an active facility
abbrev pub number_from : Database → ℕ → ℕ → ℕ → ℕ → ℕ → Option ℕ
number_from t s k b e n = chosen ((b + 1) % 2 ^ 64) e n (row_at t.forwardings (s ∷ k ∷ n ∷ []))

more_is : (n m : ℕ) → more n m ≡ n + m
more_is zero m = omega arith
more_is (suc n) m = omega (arith, more_is n m)

pub facility_active : (s k b e : ℕ) (home : Option ℕ) (t : Database) (facility : Tuple) → row_at t.facilities (s ∷ k ∷ []) ≡ Some facility → row_at t.facilities (slice_index facility 0 ∷ slice_index facility 1 ∷ []) ≡ Some facility
    → slice_index facility 2 ≡ 1 → ((n : ℕ) (cf : Tuple) → row_at t.forwardings (s ∷ k ∷ n ∷ []) ≡ Some cf → row_at t.forwardings (slice_index cf 0 ∷ slice_index cf 1 ∷ slice_index cf 2 ∷ []) ≡ Some cf)
    → (n : ℕ) × (run n (entered standard_module 1 (s ∷ k ∷ b ∷ e ∷ []) home) t ≡ ending_of (all_of (number_from t s k b e 0) (number_from t s k b e 8) (number_from t s k b e 16)) t) × (n ≤ 50)
facility_active s k b e home t facility f g one_is again =
    let l = (b + 1) % 2 ^ 64 in
    let first = round home s k b l e t (at_first facility) 0 [] First (row_at t.forwardings (s ∷ k ∷ 0 ∷ [])) refl (again 0) in
    let u = number_from t s k b e 0 in
    let second = round home s k b l e t first.1 (marked 0 u) (added [] u) Second (row_at t.forwardings (s ∷ k ∷ 8 ∷ [])) refl (again 8) in
    let v = number_from t s k b e 8 in
    let third = round home s k b l e t second.1 (marked (marked 0 u) v) (added (added [] u) v) Third (row_at t.forwardings (s ∷ k ∷ 16 ∷ [])) refl (again 16) in
    let w = number_from t s k b e 16 in (
      more 12 (more first.0 (more second.0 (more third.0 2))),
      head s k b e home t facility (more first.0 (more second.0 (more third.0 2))) f g one_is
          ∙ first.2 (more second.0 (more third.0 2)) ∙ second.2 (more third.0 2) ∙ third.2 2 ∙ finish home s k b l e t third.1 u v w,
      omega (arith, more_is 12 (more first.0 (more second.0 (more third.0 2))), more_is first.0 (more second.0 (more third.0 2)), more_is second.0 (more third.0 2), more_is third.0 2, first.3, second.3, third.3),
    )
