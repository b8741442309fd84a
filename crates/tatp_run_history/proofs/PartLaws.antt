-- The lines that are left of a client's part.
use Rattle.std.specs.Prelude.{◌≡◌, ℕ, zero, suc, ◌+◌, ◌<◌, ◌≤◌, Bool, true, false, nat_le, ◌||◌, List, [], ◌∷◌, length, drop, Option, Some, None, is_none, IfNone, slice_get}
use Rattle.std.proofs.Common.{◌⊎◌, inl, inr, refl, sym, ap, ◌∙◌, arith, add-one}
use Rattle.std.proofs.lemmas.Bool.Decides.{nat_tests}
use Rattle.std.specs.Option.{option_map}
use Rattle.std.proofs.lemmas.List.{drop_all, length-map}
use Rattle.std.proofs.lemmas.Option.{slice_get_within, slice_get-map}
use Rattle.tatp_calls.specs.declared.ask.Ask.{Ask}
use Rattle.tatp_logs.specs.declared.receipt.Receipt.{Receipt}
use Rattle.tatp_run_history.specs.declared.part.Part.{Part}
use Rattle.tatp_run_history.specs.ClientLines.{asked_line, answered_line, client_lines}
use Rattle.tatp_run_history.specs.Interleaving.{HasFirst}
use Rattle.tatp_run_history.specs.Parts.{is_done, lines_from, without_asked, rest_of, rests_of}

-- ---- lists from a place on
pub drop_at : {A : Type 0} (xs : List A) (i : ℕ) (x : A) → slice_get xs i ≡ Some x → drop i xs ≡ x ∷ drop (suc i) xs
drop_at [] i x e = absurd cc
drop_at (y ∷ ys) zero x e = let same : y ≡ x = cc in ap (λ z. z ∷ ys) same
drop_at (y ∷ ys) (suc i) x e = drop_at ys i x e

pub within : {A : Type 0} (xs : List A) (i : ℕ) → i < length xs → (x : A) × (slice_get xs i ≡ Some x)
within [] i less = absurd (omega (arith, less))
within (y ∷ ys) zero less = (y, refl)
within (y ∷ ys) (suc i) less = within ys i (omega (arith, less))

-- ---- the lines of a call
pub call_first : (client : ℕ) (asks : List Ask) (receipts : List Receipt) (call : ℕ) (ask : Ask) (receipt : Receipt)
    → slice_get asks call ≡ Some ask → slice_get receipts call ≡ Some receipt
    → client_lines client (drop call asks) (drop call receipts)
    ≡ asked_line client ask ∷ answered_line client ask receipt ∷ client_lines client (drop (call + 1) asks) (drop (call + 1) receipts)
call_first client asks receipts call ask receipt a r =
    rw (drop_at asks call ask a, drop_at receipts call receipt r, add-one) refl

pub asked_pushed : (client : ℕ) (asks : List Ask) (receipts : List Receipt) (call : ℕ) (ask : Ask) (asked : Bool)
    → slice_get asks call ≡ Some ask → call < length receipts → asked ≡ false
    → without_asked asked (client_lines client (drop call asks) (drop call receipts))
    ≡ asked_line client ask ∷ without_asked true (client_lines client (drop call asks) (drop call receipts))
asked_pushed client asks receipts call ask asked a less untold =
    let receipt = within receipts call less in
    let lines = call_first client asks receipts call ask receipt.0 a receipt.1 in
    ap (λ b. without_asked b (client_lines client (drop call asks) (drop call receipts))) untold
    ∙ (lines ∙ sym (ap (λ l. asked_line client ask ∷ drop 1 l) lines))

pub answered_pushed : (client : ℕ) (asks : List Ask) (receipts : List Receipt) (call : ℕ) (ask : Ask) (receipt : Receipt) (asked : Bool)
    → slice_get asks call ≡ Some ask → slice_get receipts call ≡ Some receipt → asked ≡ true
    → without_asked asked (client_lines client (drop call asks) (drop call receipts))
    ≡ answered_line client ask receipt ∷ client_lines client (drop (call + 1) asks) (drop (call + 1) receipts)
answered_pushed client asks receipts call ask receipt asked a r told =
    ap (λ b. without_asked b (client_lines client (drop call asks) (drop call receipts))) told
    ∙ ap (drop 1) (call_first client asks receipts call ask receipt a r)

-- ---- whether a line is left
pub left : (a b n : ℕ) → (nat_le a n || nat_le b n) ≡ false → (n < a) × (n < b)
left a b n e = grind (arith, nat_tests)

past : (a b n : ℕ) → (nat_le a n || nat_le b n) ≡ true → (a ≤ n) ⊎ (b ≤ n)
past a b n e = grind (arith, nat_tests)

no_receipts : (client : ℕ) (asks : List Ask) → client_lines client asks [] ≡ []
no_receipts client [] = refl
no_receipts client (ask ∷ asks) = refl

none_without : (asked : Bool) (lines : List (List ℕ)) → lines ≡ [] → without_asked asked lines ≡ []
none_without true lines e = rw e refl
none_without false lines e = e

pub none_left : (p : Part) → is_done p ≡ true → rest_of p ≡ []
none_left p e =
    let asks = p.asks.now in
    let receipts = p.receipts.now.receipts in
    let none : lines_from p ≡ [] = elim (past (length asks) (length receipts) p.call e) as (λ _. client_lines p.client (drop p.call asks) (drop p.call receipts) ≡ []) [
      | inl all ↦ rw (drop_all p.call asks all) refl
      | inr all ↦ rw (drop_all p.call receipts all) (no_receipts p.client (drop p.call asks))
    ] in
    none_without p.is_asked (lines_from p) none

some_without : (asked : Bool) (lines : List (List ℕ)) (one other : List ℕ) (more : List (List ℕ)) → lines ≡ one ∷ other ∷ more → (line : List ℕ) × (rest : List (List ℕ)) × (without_asked asked lines ≡ line ∷ rest)
some_without true lines one other more e = (other, more, ap (drop 1) e)
some_without false lines one other more e = (one, other ∷ more, e)

pub some_left : (p : Part) → is_done p ≡ false → (line : List ℕ) × (rest : List (List ℕ)) × (rest_of p ≡ line ∷ rest)
some_left p e =
    let asks = p.asks.now in
    let receipts = p.receipts.now.receipts in
    let here = left (length asks) (length receipts) p.call e in
    let ask = within asks p.call here.0 in
    let receipt = within receipts p.call here.1 in
    some_without p.is_asked (lines_from p) _ _ _ (call_first p.client asks receipts p.call ask.0 receipt.0 ask.1 receipt.1)

-- ---- the parts of all clients
pub rest_at : (parts : List Part) (place : ℕ) (p : Part) → slice_get parts place ≡ Some p → slice_get (rests_of parts) place ≡ Some (rest_of p)
rest_at parts place p at = slice_get-map rest_of parts place ∙ ap (option_map rest_of) at

pub first_at : (parts : List Part) (place : ℕ) (p : Part) → slice_get parts place ≡ Some p → is_done p ≡ false → HasFirst (rests_of parts) place
first_at parts place p at some = let l = some_left p some in (l.0, l.1, rest_at parts place p at ∙ ap Some l.2)

pub place_within : (parts : List Part) (place : ℕ) → HasFirst (rests_of parts) place → place < length parts
place_within parts place first = omega (arith, slice_get_within (rests_of parts) place (first.0 ∷ first.1) first.2, length-map parts rest_of)

pub not_done : (parts : List Part) (place : ℕ) (p : Part) → HasFirst (rests_of parts) place → slice_get parts place ≡ Some p → is_done p ≡ false
not_done parts place p first at = by_cases (is_done p) refl
  where
    by_cases : (b : Bool) → is_done p ≡ b → is_done p ≡ false
    by_cases false e = e
    by_cases true e = let none : Some (first.0 ∷ first.1) ≡ Some [] = sym first.2 ∙ rest_at parts place p at ∙ ap Some (none_left p e) in absurd cc

-- ---- a place that is found
pub found_none : {A : Type 0} (P : Type 0) (found : Option A) → is_none found ≡ false → IfNone found P
found_none P None e = absurd cc
found_none P (Some x) e = tt

pub none_further : {A : Type 0} (P Q : Type 0) (found : Option A) → (P → Q) → IfNone found P → IfNone found Q
none_further P Q None f none = f none
none_further P Q (Some x) f none = tt
