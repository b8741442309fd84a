-- The rows of a population, written subscriber by subscriber.
use Rattle.std.specs.Prelude.{◌≡◌, ℕ, zero, suc, ◌+◌, ◌-◌, ◌≤◌, List, [], ◌++◌, Option}
use Rattle.std.proofs.Common.{refl, sym, ap, subst, ◌∙◌, arith, add-one, append_assoc, append-nil}
use Rattle.std.proofs.lemmas.Grind.{flat_map-append}
use Rattle.std.specs.Io.KnownBytes.{Appends}
use Rattle.rand_core.specs.Stream.{Stream, next_u64}
use Rattle.tatp_tables.specs.declared.row.Row.{Row}
use Rattle.tatp_streams.specs.Writing.{AppendsFront, KeepsOrAppends}
use Rattle.tatp_population.specs.DrawnRows.{subscriber, population}
use Rattle.tatp_population.specs.DrawnOrder.{line_of, rows_text, subscriber_in_order, population_in_order}
use Rattle.tatp_load.specs.Written.{WritesFrontOf}
use Rattle.tatp_load.proofs.WrittenLaws.{IsWritten, nothing_written, more_pending, kept_or_written, all_written, front_written, front_held}

-- the subscribers 1 to i are drawn from these words, and those are left
pub record RowsAreWritten (w : Stream) (i : ℕ) (old now : Option (List ℕ)) (pending : List ℕ) (left : Stream) : Type 0 where
  pub words : left ≡ (population next_u64 i w).1
  pub text : IsWritten old now pending (rows_text (population_in_order next_u64 i w))

pub no_rows : (w : Stream) (old : Option (List ℕ)) (pending : List ℕ) → pending ≡ [] → RowsAreWritten w 0 old old pending w
unfolding population population_in_order
no_rows w old pending e = record { words = refl; text = nothing_written old pending e }

pub one_subscriber : (w : Stream) (i : ℕ) (old now : Option (List ℕ)) (pending longer : List ℕ) (left after : Stream)
    → RowsAreWritten w i old now pending left → longer ≡ pending ++ rows_text (subscriber_in_order next_u64 (i + 1) left) → after ≡ (subscriber next_u64 (i + 1) left).1
    → RowsAreWritten w (i + 1) old now longer after
unfolding population population_in_order
one_subscriber w i old now pending longer left after g more rest =
    let before = population_in_order next_u64 i w in
    let own = subscriber_in_order next_u64 (suc i) (population next_u64 i w).1 in
    let e : longer ≡ pending ++ rows_text own = rw add-one at more ∙ (λ j. pending ++ rows_text (subscriber_in_order next_u64 (suc i) (g.words j))) in
    rw add-one (record {
      words = rw add-one at rest ∙ (λ j. (subscriber next_u64 (suc i) (g.words j)).1);
      text = subst (IsWritten old now longer) (sym (flat_map-append line_of before own)) (more_pending old now pending longer (rows_text before) (rows_text own) g.text e);
    })

pub rows_flushed : (w : Stream) (i : ℕ) (old now next : Option (List ℕ)) (pending rest : List ℕ) (left : Stream)
    → RowsAreWritten w i old now pending left → KeepsOrAppends pending rest now next → RowsAreWritten w i old next rest left
rows_flushed w i old now next pending rest left g o = record { words = g.words; text = kept_or_written old now next pending rest (rows_text (population_in_order next_u64 i w)) g.text o }

-- ---- the rows of the first subscribers are a front of all
rows_more : (w : Stream) (i k : ℕ) → (rest : List Row) × (population_in_order next_u64 (i + k) w ≡ population_in_order next_u64 i w ++ rest)
unfolding population_in_order
rows_more w i zero =
    let same : i + zero ≡ i = omega arith in
    ([], ap (λ n. population_in_order next_u64 n w) same ∙ sym (append-nil (population_in_order next_u64 i w)))
rows_more w i (suc k) =
    let rest = rows_more w i k in
    let next : i + suc k ≡ suc (i + k) = omega arith in
    let last = subscriber_in_order next_u64 (suc (i + k)) (population next_u64 (i + k) w).1 in (
      rest.0 ++ last,
      ap (λ n. population_in_order next_u64 n w) next ∙ ap (λ rows. rows ++ last) rest.1 ∙ append_assoc (population_in_order next_u64 i w) rest.0 last,
    )

text_more : (w : Stream) (i n : ℕ) → i ≤ n → (rest : List ℕ) × (rows_text (population_in_order next_u64 n w) ≡ rows_text (population_in_order next_u64 i w) ++ rest)
text_more w i n le =
    let rest = rows_more w i (n - i) in
    let all : n ≡ i + (n - i) = omega (arith, le) in (
      rows_text rest.0,
      ap (λ m. rows_text (population_in_order next_u64 m w)) all ∙ ap rows_text rest.1 ∙ flat_map-append line_of (population_in_order next_u64 i w) rest.0,
    )

pub rows_cut : (w : Stream) (i n : ℕ) (old now next : Option (List ℕ)) (pending : List ℕ) (left : Stream)
    → RowsAreWritten w i old now pending left → i ≤ n → AppendsFront pending now next → WritesFrontOf (rows_text (population_in_order next_u64 n w)) old next
rows_cut w i n old now next pending left g le h =
    let more = text_more w i n le in
    front_written old now next pending (rows_text (population_in_order next_u64 i w)) more.0 (rows_text (population_in_order next_u64 n w)) g.text more.1 h

pub rows_held : (w : Stream) (i n : ℕ) (old now : Option (List ℕ)) (pending : List ℕ) (left : Stream)
    → RowsAreWritten w i old now pending left → i ≤ n → WritesFrontOf (rows_text (population_in_order next_u64 n w)) old now
rows_held w i n old now pending left g le =
    let more = text_more w i n le in
    front_held old now pending (rows_text (population_in_order next_u64 i w)) more.0 (rows_text (population_in_order next_u64 n w)) g.text more.1

pub rows_done : (w : Stream) (i n : ℕ) (old now next : Option (List ℕ)) (pending : List ℕ) (left : Stream)
    → RowsAreWritten w i old now pending left → i ≡ n → Appends now next pending → Appends old next (rows_text (population_in_order next_u64 n w))
rows_done w i n old now next pending left g e h =
    subst (λ m. Appends old next (rows_text (population_in_order next_u64 m w))) e (all_written old now next pending (rows_text (population_in_order next_u64 i w)) g.text h)
