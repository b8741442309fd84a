-- Counting over lists of lists, element by element.
use Rattle.std.proofs.Common.{◌≡◌, ℕ, zero, suc, ◌+◌, ◌<◌, ◌≤◌, Bool, List, [], ◌∷◌, ◌++◌, length, take, count_by, sum_by, cond, get_or, unwrap_or, map, Some, None, slice_get, slice_index_or, sym, ◌∙◌, ap, arith}
use Rattle.std.proofs.lemmas.List.{append_assoc, append-nil, length-append, take_all}
use Rattle.std.proofs.lemmas.List.Sums.{count_by-le-length, sum_by-append, sum_by-cons}
use Rattle.std.proofs.lemmas.Option.{slice_get_within, unwrap_or-slice_get}
use Rattle.std.proofs.Math.Seq.{take-suc}
use Rattle.tatp_settle.specs.Runs.{joined}

-- the elements before one of a list, with all of the lists before it
abbrev pub seen : {A : Type 0} → List (List A) → ℕ → List A → ℕ → List A
seen lists i list j = joined (take i lists) ++ take j list

joined_more : {A : Type 0} (lists : List (List A)) (i : ℕ) (list : List A) → slice_get lists i ≡ Some list → joined (take (suc i) lists) ≡ joined (take i lists) ++ list
joined_more [] i list here = absurd cc
joined_more (x ∷ lists) zero list here = let e : x ≡ list = cc in append-nil x ∙ e
joined_more (x ∷ lists) (suc i) list here = ap (λ t. x ++ t) (joined_more lists i list here) ∙ sym (append_assoc x (joined (take i lists)) list)

pub seen_start : {A : Type 0} (lists : List (List A)) (i : ℕ) (list : List A) → seen lists i list 0 ≡ joined (take i lists)
seen_start lists i list = append-nil (joined (take i lists))

pub seen_list : {A : Type 0} (lists : List (List A)) (i : ℕ) (list : List A) (j : ℕ) → slice_get lists i ≡ Some list → length list ≤ j → seen lists i list j ≡ joined (take (i + 1) lists)
seen_list lists i list j here all = ap (λ t. joined (take i lists) ++ t) (take_all j list all) ∙ (sym (joined_more lists i list here) ∙ ap (λ n. joined (take n lists)) next)
  where
    next : suc i ≡ i + 1
    next = omega arith

-- ---- how many there are at most
length_taken : {A : Type 0} (n : ℕ) (xs : List A) → length (take n xs) ≤ n
length_taken zero xs = omega arith
length_taken (suc n) [] = omega arith
length_taken (suc n) (x ∷ xs) = omega (arith, length_taken n xs)

seen_within : {A : Type 0} (lists : List (List A)) (i : ℕ) (list : List A) (j : ℕ) → slice_get lists i ≡ Some list → j < length list → length (seen lists i list j) < length (joined lists)
seen_within [] i list j here l = absurd cc
seen_within (x ∷ lists) zero list j here l =
    let e : length x ≡ length list = (let f : x ≡ list = cc in ap length f) in
    omega (arith, l, e, length_taken j list, length-append x (joined lists))
seen_within (x ∷ lists) (suc i) list j here l =
    omega (arith, seen_within lists i list j here l, length-append x (joined lists), length-append (x ++ joined (take i lists)) (take j list), length-append x (joined (take i lists)), length-append (joined (take i lists)) (take j list))

-- one more is counted
pub counted_next : {A : Type 0} (p : A → Bool) (lists : List (List A)) (i : ℕ) (list : List A) (j : ℕ) (x : A) → slice_get list j ≡ Some x → count_by p (seen lists i list (j + 1)) ≡ count_by p (seen lists i list j) + cond (p x) 1 0
counted_next {A = A} p lists i list j x here =
    let f : A → ℕ = λ y. cond (p y) 1 0 in
    let before = joined (take i lists) in
    omega (arith, sum_by-append f before (take j list), sum_by-append f before (take j list ++ x ∷ []), sum_by-append f (take j list) (x ∷ []), ap (λ t. sum_by f (before ++ t)) taken, sum_by-cons f x [])
  where
    next : suc j ≡ j + 1
    next = omega arith

    is : get_or list j x ≡ x
    is = sym (unwrap_or-slice_get list j x) ∙ ap (λ o. unwrap_or o x) here

    taken : take (j + 1) list ≡ take j list ++ x ∷ []
    taken = ap (λ n. take n list) (sym next) ∙ (take-suc list j x (slice_get_within list j x here) ∙ ap (λ y. take j list ++ y ∷ []) is)

-- ---- what is still to be counted
pub none_missing : {A : Type 0} (list : List A) (j : ℕ) → j < length list → slice_get list j ≡ None → ⊥
none_missing [] j l none = absurd (omega (arith, l))
none_missing (x ∷ list) zero l none = absurd cc
none_missing (x ∷ list) (suc j) l none = none_missing list j (omega (arith, l)) none

-- there is room to count one more
pub count_within : {A : Type 0} (p : A → Bool) (lists : List (List A)) (i : ℕ) (list : List A) (j : ℕ) → slice_get lists i ≡ Some list → j < length list → count_by p (seen lists i list j) < length (joined lists)
count_within p lists i list j here l = omega (arith, seen_within lists i list j here l, count_by-le-length p (seen lists i list j))

-- ---- lists in vectors, or wherever they are kept
pub list_here : {V A : Type 0} (f : V → List A) (lists : List V) (i : ℕ) (list : V) → i < length lists → list ≡ slice_index_or lists i list → slice_get (map f lists) i ≡ Some (f list)
list_here f [] i list l e = absurd (omega (arith, l))
list_here f (x ∷ lists) zero list l e = ap (λ z. Some (f z)) (sym e)
list_here f (x ∷ lists) (suc i) list l e = list_here f lists i list (omega (arith, l)) e
