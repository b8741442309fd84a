-- Parts merged line by line.
use Rattle.std.specs.Prelude.{◌≡◌, ℕ, zero, suc, ◌+◌, ◌<◌, List, [], ◌∷◌, ◌++◌, length, take, sum_by, get_or, Some, slice_get, slice_set}
use Rattle.std.specs.List.{flat_map}
use Rattle.std.proofs.Common.{refl, sym, ap, subst, ◌∙◌, arith, add-one, append_assoc, append-nil}
use Rattle.std.proofs.lemmas.Grind.{flat_map-append}
use Rattle.std.proofs.lemmas.List.Concat.{flat_map-cons}
use Rattle.std.proofs.lemmas.List.Sums.{sum_by-set}
use Rattle.std.proofs.lemmas.Option.{slice_get_within, get_or_from_slice_get}
use Rattle.tatp_run_history.specs.Interleaving.{AllAreEmpty, Interleaves}
use Rattle.tatp_run_history.specs.Telling.{TellsMerged}

abbrev texts : List (List ℕ) → List ℕ
texts lines = flat_map (λ (line : List ℕ). line) lines

-- lines of these lists stand behind the old text, and of the lists these rests are left
abbrev pub Merged : List (List (List ℕ)) → List (List (List ℕ)) → List ℕ → List ℕ → Type 0
Merged lists rests old now =
    (lines : List (List ℕ)) × ((more : List (List ℕ)) → Interleaves rests more → Interleaves lists (lines ++ more)) × (now ≡ old ++ texts lines)

pub none_merged : (lists rests : List (List (List ℕ))) (old : List ℕ) → rests ≡ lists → Merged lists rests old old
none_merged lists rests old e = ([], (λ more merged. subst (λ ls. Interleaves ls more) e merged), sym (append-nil old))

pub one_merged : (lists rests rests' : List (List (List ℕ))) (old now now' : List ℕ) (place : ℕ) (line : List ℕ) (rest : List (List ℕ))
    → Merged lists rests old now → slice_get rests place ≡ Some (line ∷ rest) → rests' ≡ slice_set rests place rest → now' ≡ now ++ line
    → Merged lists rests' old now'
one_merged lists rests rests' old now now' place line rest m first after written =
    let lines = m.0 in
    let one : texts (line ∷ []) ≡ line = flat_map-cons (λ (l : List ℕ). l) line [] ∙ append-nil line in
    let all : texts (lines ++ line ∷ []) ≡ texts lines ++ line = flat_map-append (λ (l : List ℕ). l) lines (line ∷ []) ∙ ap (λ t. texts lines ++ t) one in (
      lines ++ line ∷ [],
      (λ more merged.
          subst (Interleaves lists) (sym (append_assoc lines (line ∷ []) more))
          (m.1 (line ∷ more) (place, rest, first, subst (λ ls. Interleaves ls more) after merged))),
      written ∙ ap (λ t. t ++ line) m.2 ∙ append_assoc old (texts lines) line ∙ ap (λ t. old ++ t) (sym all),
    )

pub all_merged : (lists rests : List (List (List ℕ))) (old now : List ℕ) → Merged lists rests old now → AllAreEmpty rests → TellsMerged old lists now
all_merged lists rests old now m none = (m.0, subst (Interleaves lists) (append-nil m.0) (m.1 [] none), m.2)

-- what is left can be merged
behind_empty : {A : Type 0} (lists : List (List A)) (more : List A) → Interleaves lists more → Interleaves ([] ∷ lists) more
behind_empty lists [] all = (refl, all)
behind_empty lists (x ∷ more) i = (suc i.0, i.1, i.2, behind_empty (slice_set lists i.0 i.1) more i.3)

one_first : {A : Type 0} (list : List A) (lists : List (List A)) (more : List A) → Interleaves lists more → (all : List A) × Interleaves (list ∷ lists) all
one_first [] lists more i = (more, behind_empty lists more i)
one_first (x ∷ list) lists more i = let rest = one_first list lists more i in (x ∷ rest.0, (zero, list, refl, rest.1))

pub mergeable : {A : Type 0} (lists : List (List A)) → (all : List A) × Interleaves lists all
mergeable [] = ([], tt)
mergeable (list ∷ lists) = let rest = mergeable lists in one_first list lists rest.0 rest.1

pub some_merged : (lists rests : List (List (List ℕ))) (old now : List ℕ) → Merged lists rests old now → (more : List ℕ) × TellsMerged old lists (now ++ more)
some_merged lists rests old now m =
    let rest = mergeable rests in (
      texts rest.0,
      (
        m.0 ++ rest.0,
        m.1 rest.0 rest.1,
        ap (λ t. t ++ texts rest.0) m.2 ∙ append_assoc old (texts m.0) (texts rest.0) ∙ ap (λ t. old ++ t) (sym (flat_map-append (λ (l : List ℕ). l) m.0 rest.0)),
      ),
    )

-- ---- how many lines are left
pub fewer_left : (rests : List (List (List ℕ))) (place : ℕ) (line : List ℕ) (rest : List (List ℕ))
    → slice_get rests place ≡ Some (line ∷ rest) → sum_by length (slice_set rests place rest) < sum_by length rests
fewer_left rests place line rest first =
    let here : place < length rests = slice_get_within rests place (line ∷ rest) first in
    let sum = sum_by-set length rests place rest [] here in
    let was : length (line ∷ rest) ≡ length (get_or rests place []) = ap length (sym (get_or_from_slice_get rests place (line ∷ rest) [] first)) in
    omega (arith, sum, was)

-- ---- the parts before a place
pub none_before : {A : Type 0} (lists : List (List A)) → AllAreEmpty (take 0 lists)
none_before lists = tt

one_empty : {A : Type 0} (lists : List (List A)) (i : ℕ) → AllAreEmpty (take i lists) → slice_get lists i ≡ Some [] → AllAreEmpty (take (suc i) lists)
one_empty [] i all e = absurd cc
one_empty (list ∷ lists) zero all e = (cc, tt)
one_empty (list ∷ lists) (suc i) all e = (all.0, one_empty lists i all.1 e)

pub one_more_empty : {A : Type 0} (lists : List (List A)) (i : ℕ) → AllAreEmpty (take i lists) → slice_get lists i ≡ Some [] → AllAreEmpty (take (i + 1) lists)
one_more_empty lists i all e = rw add-one (one_empty lists i all e)
