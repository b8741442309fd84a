-- Calls, moves and stops that are drawn one after another.
use Rattle.std.specs.Prelude.{◌≡◌, ℕ, zero, suc, ◌+◌, ◌-◌, ◌≤◌, List, [], ◌∷◌, ◌++◌, map}
use Rattle.std.proofs.Common.{refl, sym, ap, ◌∙◌, arith, add-one}
use Rattle.std.specs.Prelude.{Vec}
use Rattle.std.specs.declared.alloc.Global.{Global}
use Rattle.std.proofs.lemmas.List.{map-append}
use Rattle.std.proofs.lemmas.List.FromFn.{map-range_with_len_more}
use Rattle.std.specs.List.{range_with_len}
use Rattle.rand_core.specs.Stream.{Stream, next_u64}
use Rattle.tatp_calls.specs.declared.ask.Ask.{Ask}
use Rattle.tatp_calls.specs.declared.ask.Ask.TheVariants.{Txn}
use Rattle.tatp_calls.specs.declared.call.Call.{Call}
use Rattle.tatp_population.specs.Drawn.{choice, choices}
use Rattle.tatp_tasks.specs.declared.distribution.Distribution.{Distribution}
use Rattle.tatp_driver.specs.DrawnCall.{drawn_call}
use Rattle.tatp_driver.specs.DrawnCalls.{next_calls}
use Rattle.tatp_driver.specs.DrawnWords.{next_words}
use Rattle.tatp_logs.specs.Lists.{lists_of}
use Rattle.tatp_workload.specs.Drawn.{next_moves}

-- ---- calls
-- the first i calls are listed, and this stream is left
pub record CallsAreListed (distribution : Distribution) (subscribers : ℕ) (before : Stream) (i : ℕ) (list : List Ask) (left : Stream) : Type 0 where
  pub listed : list ≡ map Txn (next_calls distribution subscribers i before).0
  pub rest : left ≡ (next_calls distribution subscribers i before).1

pub no_calls : (distribution : Distribution) (subscribers : ℕ) (before : Stream) → CallsAreListed distribution subscribers before 0 [] before
unfolding next_calls
no_calls distribution subscribers before = record { listed = refl; rest = refl }

pub one_call : (distribution : Distribution) (subscribers : ℕ) (before : Stream) (i : ℕ) (list : List Ask) (left : Stream) (call : Call) (after : Stream)
    → CallsAreListed distribution subscribers before i list left
    → call ≡ drawn_call distribution subscribers (next_words 7 left).0 → after ≡ (next_words 7 left).1
    → CallsAreListed distribution subscribers before (i + 1) (list ++ Txn call ∷ []) after
unfolding next_calls
one_call distribution subscribers before i list left call after so_far is end =
    let calls = (next_calls distribution subscribers i before).0 in
    let drawn : call ≡ drawn_call distribution subscribers (next_words 7 (next_calls distribution subscribers i before).1).0 = is ∙ ap (λ w. drawn_call distribution subscribers (next_words 7 w).0) so_far.rest in
    let last = drawn_call distribution subscribers (next_words 7 (next_calls distribution subscribers i before).1).0 in
    rw add-one (record {
      listed = (λ j. so_far.listed j ++ Txn (drawn j) ∷ []) ∙ sym (map-append Txn calls (last ∷ []));
      rest = end ∙ ap (λ w. (next_words 7 w).1) so_far.rest;
    })

-- ---- moves
pub record MovesAreListed (extents partitions : ℕ) (before : Stream) (i : ℕ) (moves : List (ℕ × ℕ)) (left : Stream) : Type 0 where
  pub listed : moves ≡ (next_moves extents partitions i before).0
  pub rest : left ≡ (next_moves extents partitions i before).1

pub no_moves : (extents partitions : ℕ) (before : Stream) → MovesAreListed extents partitions before 0 [] before
unfolding next_moves
no_moves extents partitions before = record { listed = refl; rest = refl }

pub one_move : (extents partitions : ℕ) (before : Stream) (i : ℕ) (moves : List (ℕ × ℕ)) (left : Stream) (extent partition : ℕ) (between after : Stream)
    → MovesAreListed extents partitions before i moves left
    → (extent, between) ≡ choice next_u64 1 extents left → (partition, after) ≡ choice next_u64 0 (partitions - 1) between
    → MovesAreListed extents partitions before (i + 1) (moves ++ (extent, partition) ∷ []) after
unfolding next_moves
one_move extents partitions before i moves left extent partition between after so_far first second =
    let e : (extent, between) ≡ choice next_u64 1 extents (next_moves extents partitions i before).1 = first ∙ ap (choice next_u64 1 extents) so_far.rest in
    let p : (partition, after) ≡ choice next_u64 0 (partitions - 1) (choice next_u64 1 extents (next_moves extents partitions i before).1).1 = second ∙ ap (λ (s : ℕ × Stream). choice next_u64 0 (partitions - 1) s.1) e in
    rw add-one (record {
      listed = λ j. so_far.listed j ++ ((e j).0, (p j).0) ∷ [];
      rest = ap (λ (s : ℕ × Stream). s.1) p;
    })

-- ---- stops
pub record StopsAreListed (partitions : ℕ) (before : Stream) (i : ℕ) (stops : List ℕ) (left : Stream) : Type 0 where
  pub listed : stops ≡ (choices next_u64 i 0 (partitions - 1) before).0
  pub rest : left ≡ (choices next_u64 i 0 (partitions - 1) before).1

pub no_stops : (partitions : ℕ) (before : Stream) → StopsAreListed partitions before 0 [] before
unfolding choices
no_stops partitions before = record { listed = refl; rest = refl }

pub one_stop : (partitions : ℕ) (before : Stream) (i : ℕ) (stops : List ℕ) (left : Stream) (partition : ℕ) (after : Stream)
    → StopsAreListed partitions before i stops left → (partition, after) ≡ choice next_u64 0 (partitions - 1) left
    → StopsAreListed partitions before (i + 1) (stops ++ partition ∷ []) after
unfolding choices
one_stop partitions before i stops left partition after so_far is =
    let p : (partition, after) ≡ choice next_u64 0 (partitions - 1) (choices next_u64 i 0 (partitions - 1) before).1 = is ∙ ap (choice next_u64 0 (partitions - 1)) so_far.rest in
    rw add-one (record {
      listed = λ j. so_far.listed j ++ (p j).0 ∷ [];
      rest = ap (λ (s : ℕ × Stream). s.1) p;
    })

-- ---- the lists of clients
pub one_list : {A : Type 0} (list_of : ℕ → List A) (from client : ℕ) (lists : List (Vec A Global)) (list : Vec A Global) → from ≤ client
    → lists_of lists ≡ map list_of (range_with_len from (client - from)) → list.items ≡ list_of client
    → lists_of (lists ++ list ∷ []) ≡ map list_of (range_with_len from (client + 1 - from))
one_list {A} list_of from client lists list low so_far is =
    let one_more : client - from + 1 ≡ client + 1 - from = omega (arith, low) in
    map-append (λ (l : Vec A Global). l.items) lists (list ∷ [])
    ∙ ((λ j. so_far j ++ is j ∷ []) ∙ sym (map-range_with_len_more list_of from (client - from) client (omega (arith, low)))
    ∙ ap (λ n. map list_of (range_with_len from n)) one_more)

-- two ranges, one behind the other
joined_ranges : {A : Type 0} (f : ℕ → A) (a m b n all : ℕ) → a + m ≡ b → m + n ≡ all → map f (range_with_len a m) ++ map f (range_with_len b n) ≡ map f (range_with_len a all)
joined_ranges f a zero b n all is sum =
    let from : b ≡ a = omega (arith, is) in
    let length : n ≡ all = omega (arith, sum) in
    λ i. map f (range_with_len (from i) (length i))
joined_ranges f a (suc m) b n all is sum =
    let length : suc (m + n) ≡ all = omega (arith, sum) in
    (λ i. f a ∷ joined_ranges f (a + 1) m b n (m + n) (omega (arith, is)) refl i) ∙ ap (λ n. map f (range_with_len a n)) length

pub both_halves : {A : Type 0} (list_of : ℕ → List A) (from middle to : ℕ) (front back both : List (Vec A Global)) → from ≤ middle → middle ≤ to
    → lists_of front ≡ map list_of (range_with_len from (middle - from)) → lists_of back ≡ map list_of (range_with_len middle (to - middle))
    → both ≡ front ++ back → lists_of both ≡ map list_of (range_with_len from (to - from))
both_halves {A} list_of from middle to front back both low high first second is =
    ap lists_of is ∙ map-append (λ (l : Vec A Global). l.items) front back ∙ (λ j. first j ++ second j)
    ∙ joined_ranges list_of from (middle - from) middle (to - middle) (to - from) (omega (arith, low)) (omega (arith, low, high))
