-- Values with zeros after them.
use Rattle.std.specs.Prelude.{◌≡◌, ℕ, ◌+◌, ◌≤◌, List, ◌++◌, drop, length, replicate}
use Rattle.std.proofs.Common.{sym, ap, subst, ◌∙◌, arith, length-append, length-drop}
use Rattle.std.proofs.lemmas.List.{drop-replicate, length-replicate}
use Rattle.std.proofs.Math.Seq.{take-append_seam}
use Rattle.tatp_calls.specs.Padding.{padded, ArePadded}

-- after values at the front of zeros, the rest is 0
pub ArePadded-front : (room : ℕ) (values front : List ℕ) → front ≡ values → length values ≤ room → ArePadded room (length values) (front ++ drop (length values) (replicate room 0))
ArePadded-front room values front is le = subst (λ f. ArePadded room (length values) (f ++ drop (length values) (replicate room 0))) (sym is) (record {
  room_is = length-append values (drop (length values) (replicate {A = ℕ} room 0)) ∙ room_left;
  most = le;
  zeros = ap (λ zeros. values ++ zeros) (drop-replicate (length values) room 0) ∙ sym (ap (padded room) (take-append_seam values (drop (length values) (replicate {A = ℕ} room 0))));
})
  where
    room_left : length values + length (drop (length values) (replicate {A = ℕ} room 0)) ≡ room
    room_left = omega (arith, length-drop (length values) (replicate {A = ℕ} room 0), length-replicate {A = ℕ} room 0, le)
