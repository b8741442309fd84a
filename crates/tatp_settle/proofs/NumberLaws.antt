-- Extents by number, one after another.
use Rattle.std.proofs.Common.{◌≡◌, ℕ, ◌+◌, ◌==◌, Bool, true, false, cond, List, [], ◌∷◌, ◌++◌, find, sum_by, Option, Some, None, refl, sym, ◌∙◌, ap, arith}
use Rattle.std.specs.List.{flat_map, range_with_len}
use Rattle.std.proofs.lemmas.Bool.{eqb-true}
use Rattle.std.proofs.lemmas.List.Sums.{fold-append, sum_by-append, sum_by-cons}
use Rattle.std.proofs.lemmas.List.FromFn.{map-range_with_len_more}
use Rattle.std.proofs.lemmas.List.{map-id, append-nil}
use Rattle.std.proofs.lemmas.Grind.{flat_map-append}
use Rattle.tatp_homes.specs.Home.{SubscriberRows}
use Rattle.tatp_tables.specs.Rows.{with_home}
use Rattle.tatp_tables.specs.declared.row.Rows.{Rows}
use Rattle.tatp_extents.specs.Extents.{ExtentState}
use Rattle.tatp_extents.specs.HomeRows.{rows_of_homes, with_homes}
use Rattle.tatp_settle.specs.Closings.{ClosedState, extents_of, extent_numbered}
use Rattle.tatp_settle.proofs.StandingLaws.{has_number}

number_one : (e : ℕ) (x y : ExtentState) (v : Option ExtentState) (b : Bool) → (v ≡ Some x → x.number ≡ e) → (y.number == e) ≡ b → cond b (Some y) v ≡ Some x → x.number ≡ e
number_one e x y v true rest is h = let same : y ≡ x = cc in ap (λ (z : ExtentState). z.number) (sym same) ∙ eqb-true y.number e is
number_one e x y v false rest is h = rest h

found_number : (xs : List ExtentState) (e : ℕ) (x : ExtentState) → find (has_number e) xs ≡ Some x → x.number ≡ e
found_number [] e x h = absurd (let k : None ≡ Some x = h in cc)
found_number (y ∷ xs) e x h = number_one e x y (find (has_number e) xs) (y.number == e) (found_number xs e x) refl h

-- the extent of a number has it
pub has_its_number : (c : ClosedState) (e : ℕ) (x : ExtentState) → extent_numbered c e ≡ Some x → x.number ≡ e
has_its_number c e x h = found_number (extents_of c) e x h

-- one number more
pub range_more : (first n next : ℕ) → first + n ≡ next → range_with_len first (n + 1) ≡ range_with_len first n ++ next ∷ []
range_more first n next is =
    sym (map-id (range_with_len first (n + 1))) ∙ (map-range_with_len_more (λ (k : ℕ). k) first n next is ∙ ap (λ (xs : List ℕ). xs ++ next ∷ []) (map-id (range_with_len first n)))

-- one extent's homes more
pub rows_more : (f : ℕ → List SubscriberRows) (n : ℕ) (rows : Rows) → rows ≡ rows_of_homes (flat_map f (range_with_len 1 n))
    → with_homes rows (f (n + 1)) ≡ rows_of_homes (flat_map f (range_with_len 1 (n + 1)))
rows_more f n rows is =
    ap (λ (r : Rows). with_homes r (f (n + 1))) is
    ∙ (sym (fold-append (λ all (home : SubscriberRows). with_home all home.tables) (record { subscribers = []; accesses = []; facilities = []; forwardings = [] }) (flat_map f (range_with_len 1 n)) (f (n + 1)))
    ∙ ap rows_of_homes
    (ap (λ (xs : List SubscriberRows). flat_map f (range_with_len 1 n) ++ xs) (sym (append-nil (f (n + 1))))
    ∙ (sym (flat_map-append f (range_with_len 1 n) ((n + 1) ∷ [])) ∙ ap (flat_map f) (sym (range_more 1 n (n + 1) (omega arith))))))

-- one extent's moves more
pub moves_more : (f : ℕ → ℕ) (n : ℕ) → sum_by f (range_with_len 1 (n + 1)) ≡ sum_by f (range_with_len 1 n) + f (n + 1)
moves_more f n =
    let one = sum_by-cons f (n + 1) [] in
    ap (sum_by f) (range_more 1 n (n + 1) (omega arith)) ∙ (sum_by-append f (range_with_len 1 n) ((n + 1) ∷ []) ∙ ap (λ (k : ℕ). sum_by f (range_with_len 1 n) + k) (let k : sum_by f ((n + 1) ∷ []) ≡ f (n + 1) = omega (arith, one) in k))
