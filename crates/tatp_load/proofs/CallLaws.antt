-- The calls of a client, written one after another.
use Rattle.std.specs.Prelude.{◌≡◌, ℕ, zero, suc, ◌+◌, ◌-◌, ◌≤◌, List, [], ◌∷◌, ◌++◌, Option}
use Rattle.std.specs.List.{flat_map}
use Rattle.std.proofs.Common.{refl, sym, ap, subst, ◌∙◌, arith, add-one, append_assoc, append-nil}
use Rattle.std.proofs.lemmas.Grind.{flat_map-append}
use Rattle.std.proofs.lemmas.List.Concat.{flat_map-cons}
use Rattle.std.specs.Io.KnownBytes.{Appends}
use Rattle.rand_core.specs.Stream.{Stream}
use Rattle.tatp_calls.specs.declared.call.Call.{Call}
use Rattle.tatp_streams.specs.Writing.{AppendsFront, KeepsOrAppends}
use Rattle.tatp_tasks.specs.declared.distribution.Distribution.{Distribution}
use Rattle.tatp_driver.specs.DrawnCall.{drawn_call}
use Rattle.tatp_driver.specs.DrawnCalls.{next_calls}
use Rattle.tatp_driver.specs.DrawnWords.{next_words}
use Rattle.tatp_load.specs.Calls.{line_of}
use Rattle.tatp_load.specs.Written.{WritesFrontOf}
use Rattle.tatp_load.proofs.WrittenLaws.{IsWritten, nothing_written, more_pending, kept_or_written, all_written, front_written, front_held}

-- the text of the first n calls
abbrev pub calls_text : Distribution → ℕ → Stream → ℕ → List ℕ
calls_text distribution subscribers w n = flat_map line_of (next_calls distribution subscribers n w).0

-- the first i calls are drawn from these words, and those are left
pub record CallsAreWritten (distribution : Distribution) (subscribers : ℕ) (w : Stream) (i : ℕ) (old now : Option (List ℕ)) (pending : List ℕ) (left : Stream) : Type 0 where
  pub words : left ≡ (next_calls distribution subscribers i w).1
  pub text : IsWritten old now pending (calls_text distribution subscribers w i)

pub no_calls : (distribution : Distribution) (subscribers : ℕ) (w : Stream) (old : Option (List ℕ)) (pending : List ℕ) → pending ≡ [] → CallsAreWritten distribution subscribers w 0 old old pending w
unfolding next_calls
no_calls distribution subscribers w old pending e = record { words = refl; text = nothing_written old pending e }

pub one_call : (distribution : Distribution) (subscribers : ℕ) (w : Stream) (i : ℕ) (old now : Option (List ℕ)) (pending longer : List ℕ) (left after : Stream) (call : Call)
    → CallsAreWritten distribution subscribers w i old now pending left → call ≡ drawn_call distribution subscribers (next_words 7 left).0 → longer ≡ pending ++ line_of call → after ≡ (next_words 7 left).1
    → CallsAreWritten distribution subscribers w (i + 1) old now longer after
unfolding next_calls
one_call distribution subscribers w i old now pending longer left after call g is more rest =
    let before = (next_calls distribution subscribers i w).0 in
    let last = drawn_call distribution subscribers (next_words 7 (next_calls distribution subscribers i w).1).0 in
    let drawn : call ≡ last = is ∙ ap (λ u. drawn_call distribution subscribers (next_words 7 u).0) g.words in
    let one : flat_map line_of (last ∷ []) ≡ line_of last = flat_map-cons line_of last [] ∙ append-nil (line_of last) in
    let all : flat_map line_of (before ++ last ∷ []) ≡ flat_map line_of before ++ line_of last = flat_map-append line_of before (last ∷ []) ∙ ap (λ t. flat_map line_of before ++ t) one in
    let longer_by : longer ≡ pending ++ line_of last = more ∙ ap (λ c. pending ++ line_of c) drawn in
    rw add-one (record {
      words = rest ∙ ap (λ u. (next_words 7 u).1) g.words;
      text = subst (IsWritten old now longer) (sym all) (more_pending old now pending longer (flat_map line_of before) (line_of last) g.text longer_by);
    })

pub calls_flushed : (distribution : Distribution) (subscribers : ℕ) (w : Stream) (i : ℕ) (old now next : Option (List ℕ)) (pending rest : List ℕ) (left : Stream)
    → CallsAreWritten distribution subscribers w i old now pending left → KeepsOrAppends pending rest now next → CallsAreWritten distribution subscribers w i old next rest left
calls_flushed distribution subscribers w i old now next pending rest left g o = record {
  words = g.words;
  text = kept_or_written old now next pending rest (calls_text distribution subscribers w i) g.text o;
}

-- ---- the first calls are a front of all
calls_more : (distribution : Distribution) (subscribers : ℕ) (w : Stream) (i k : ℕ) → (rest : List Call) × ((next_calls distribution subscribers (i + k) w).0 ≡ (next_calls distribution subscribers i w).0 ++ rest)
unfolding next_calls
calls_more distribution subscribers w i zero =
    let same : i + zero ≡ i = omega arith in
    ([], ap (λ n. (next_calls distribution subscribers n w).0) same ∙ sym (append-nil (next_calls distribution subscribers i w).0))
calls_more distribution subscribers w i (suc k) =
    let rest = calls_more distribution subscribers w i k in
    let next : i + suc k ≡ suc (i + k) = omega arith in
    let last = drawn_call distribution subscribers (next_words 7 (next_calls distribution subscribers (i + k) w).1).0 ∷ [] in (
      rest.0 ++ last,
      ap (λ n. (next_calls distribution subscribers n w).0) next ∙ ap (λ calls. calls ++ last) rest.1 ∙ append_assoc (next_calls distribution subscribers i w).0 rest.0 last,
    )

text_more : (distribution : Distribution) (subscribers : ℕ) (w : Stream) (i n : ℕ) → i ≤ n → (rest : List ℕ) × (calls_text distribution subscribers w n ≡ calls_text distribution subscribers w i ++ rest)
text_more distribution subscribers w i n le =
    let rest = calls_more distribution subscribers w i (n - i) in
    let all : n ≡ i + (n - i) = omega (arith, le) in (
      flat_map line_of rest.0,
      ap (calls_text distribution subscribers w) all ∙ ap (flat_map line_of) rest.1 ∙ flat_map-append line_of (next_calls distribution subscribers i w).0 rest.0,
    )

pub calls_cut : (distribution : Distribution) (subscribers : ℕ) (w : Stream) (i n : ℕ) (old now next : Option (List ℕ)) (pending : List ℕ) (left : Stream)
    → CallsAreWritten distribution subscribers w i old now pending left → i ≤ n → AppendsFront pending now next → WritesFrontOf (calls_text distribution subscribers w n) old next
calls_cut distribution subscribers w i n old now next pending left g le h =
    let more = text_more distribution subscribers w i n le in
    front_written old now next pending (calls_text distribution subscribers w i) more.0 (calls_text distribution subscribers w n) g.text more.1 h

pub calls_held : (distribution : Distribution) (subscribers : ℕ) (w : Stream) (i n : ℕ) (old now : Option (List ℕ)) (pending : List ℕ) (left : Stream)
    → CallsAreWritten distribution subscribers w i old now pending left → i ≤ n → WritesFrontOf (calls_text distribution subscribers w n) old now
calls_held distribution subscribers w i n old now pending left g le =
    let more = text_more distribution subscribers w i n le in
    front_held old now pending (calls_text distribution subscribers w i) more.0 (calls_text distribution subscribers w n) g.text more.1

pub calls_done : (distribution : Distribution) (subscribers : ℕ) (w : Stream) (i n : ℕ) (old now next : Option (List ℕ)) (pending : List ℕ) (left : Stream)
    → CallsAreWritten distribution subscribers w i old now pending left → i ≡ n → Appends now next pending → Appends old next (calls_text distribution subscribers w n)
calls_done distribution subscribers w i n old now next pending left g e h =
    subst (λ m. Appends old next (calls_text distribution subscribers w m)) e (all_written old now next pending (calls_text distribution subscribers w i) g.text h)
