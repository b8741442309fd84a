-- The seats of a run.
use Rattle.std.proofs.Common.{◌≡◌, ℕ, ◌+◌, List, [], ◌∷◌, ◌++◌, All, map, length, take, drop, Vec, Global, Option, Some, None, slice_get, sym, arith, ap, ◌∙◌, subst}
use Rattle.std.specs.List.{range_with_len}
use Rattle.std.proofs.Math.Seq.{take-append_seam}
use Rattle.std.proofs.lemmas.List.{map_push, map-id}
use Rattle.std.proofs.lemmas.Option.{same_Some}
use Rattle.std.proofs.lemmas.List.FromFn.{map-range_with_len_more}
use Rattle.std.proofs.lemmas.List.Elements.{All-push}
use Rattle.tatp_sync.specs.Inboxes.{End}
use Rattle.tatp_threads.specs.declared.request.InboxMessage.{InboxMessage}
use Rattle.tatp_calls.specs.declared.ask.Ask.{Ask}
use Rattle.tatp_threads.specs.Seats.{AreEndsAt, ClientSeat, IsReadyFor, AreReadyFor}

-- one more seat: its ports are ends at all inboxes, as those of the others
pub one_more_with_ends : {S : Type 0} (ports_of : S → Vec (End InboxMessage) Global) (inboxes inboxes' : List (End InboxMessage)) (seats seats' : List S) (seat : S)
    → seats' ≡ seats ++ seat ∷ [] → inboxes' ≡ inboxes → All (AreEndsAt inboxes) (map ports_of seats) → AreEndsAt inboxes (ports_of seat)
    → All (AreEndsAt inboxes') (map ports_of seats')
one_more_with_ends ports_of inboxes inboxes' seats seats' seat is same all here =
    subst (λ i. All (AreEndsAt i) (map ports_of seats')) (sym same)
    (subst (All (AreEndsAt inboxes)) (sym (ap (map ports_of) is ∙ map_push ports_of seats seat))
    (All-push (AreEndsAt inboxes) (map ports_of seats) (ports_of seat) all here))

-- one more seat: its number is its place, as those of the others
pub one_more_numbered : (place number : ℕ) (numbers : List ℕ) → numbers ≡ range_with_len 0 place → number ≡ place
    → numbers ++ number ∷ [] ≡ range_with_len 0 (place + 1)
one_more_numbered place number numbers are is =
    let more : range_with_len 0 (place + 1) ≡ range_with_len 0 place ++ place ∷ [] =
    sym (map-id (range_with_len 0 (place + 1))) ∙ (map-range_with_len_more (λ n. n) 0 place place (omega arith) ∙ ap (λ xs. xs ++ place ∷ []) (map-id (range_with_len 0 place))) in
    ap (λ xs. xs ++ number ∷ []) are ∙ (ap (λ n. range_with_len 0 place ++ n ∷ []) is ∙ sym more)

-- one more seat: it is ready for the list at its place, as the others are
pub one_more_ready : (lists : List (Vec Ask Global)) (seats seats' : List ClientSeat) (list : Vec Ask Global) (seat : ClientSeat)
    → seats' ≡ seats ++ seat ∷ [] → AreReadyFor lists seats → slice_get lists (length seats) ≡ Some list → IsReadyFor list seat → AreReadyFor lists seats'
one_more_ready lists seats seats' list seat is all at here = subst (AreReadyFor lists) (sym is) (by lists seats all at)
  where
    by : (lists : List (Vec Ask Global)) (seats : List ClientSeat) → AreReadyFor lists seats → slice_get lists (length seats) ≡ Some list → AreReadyFor lists (seats ++ seat ∷ [])
    by [] [] all at = absurd cc
    by (l ∷ lists) [] all at = (subst (λ (calls : Vec Ask Global). IsReadyFor calls seat) (sym (same_Some l list at)) here, tt)
    by [] (s ∷ seats) all at = absurd all
    by (l ∷ lists) (s ∷ seats) all at = (all.0, by lists seats all.1 at)

-- a list is as it was where its slice was written back as it was
pub written_back : {X : Type 0} (n : ℕ) (items slice : List X) → n ≡ length items → slice ≡ items
    → take n (slice ++ drop (length slice) items) ≡ items
written_back n items slice count is =
    subst (λ w. take n (w ++ drop (length w) items) ≡ items) (sym is)
    (subst (λ m. take m (items ++ drop (length items) items) ≡ items) (sym count) (take-append_seam items (drop (length items) items)))
