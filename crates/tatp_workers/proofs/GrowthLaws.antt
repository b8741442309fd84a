-- Lists that grow, where they are known.
use Rattle.std.proofs.Common.{◌≡◌, ℕ, suc, ◌+◌, Bool, true, false, List, [], ◌∷◌, ◌++◌, Option, Some, None, slice_get, refl, sym, ap, ◌∙◌, subst, append_assoc, arith}
use Rattle.std.proofs.lemmas.List.{append-nil}
use Rattle.tatp_workers.specs.Growing.{Grows, Does, InTurn, known_unless}

pub not_grown : {A : Type 0} (known : Option (List A)) → Grows known known []
not_grown None = tt
not_grown (Some before) = sym (append-nil before)

pub grown_twice : {A : Type 0} (before mid after : Option (List A)) (xs ys : List A) → Grows before mid xs → Grows mid after ys → Grows before after (xs ++ ys)
grown_twice before mid None xs ys h k = tt
grown_twice before None (Some a) xs ys h k = absurd k
grown_twice None (Some m) (Some a) xs ys h k = absurd h
grown_twice {A = A} (Some b) (Some m) (Some a) xs ys h k = k ∙ ap (λ (l : List A). l ++ ys) h ∙ append_assoc b xs ys

pub grown_by_two : {A : Type 0} (before mid after : Option (List A)) (x y : A) → Grows before mid (x ∷ []) → Grows mid after (y ∷ []) → Grows before after (x ∷ y ∷ [])
grown_by_two before mid after x y h k = grown_twice before mid after (x ∷ []) (y ∷ []) h k

pub grows_by : {A : Type 0} (lost : Bool) (before after more : List A) → after ≡ before ++ more → Grows (known_unless lost before) (known_unless lost after) more
grows_by true before after more is = tt
grows_by false before after more is = is

-- ---- one thing after another
-- the first things, so many, were dealt with in turn, from what was known of a list to what is
abbrev pub Dealt : {A E : Type 0} → (A → List E → Type 0) → List A → ℕ → Option (List E) → Option (List E) → Type 0
Dealt IsDealtWith things n known known' = Does (InTurn IsDealtWith things n) known known'

pub none_dealt : {A E : Type 0} (IsDealtWith : A → List E → Type 0) (things : List A) (known : Option (List E)) → Dealt IsDealtWith things 0 known known
none_dealt IsDealtWith things known = ([], refl, not_grown known)

pub one_more_dealt : {A E : Type 0} (IsDealtWith : A → List E → Type 0) (things : List A) (n : ℕ) (known mid known' : Option (List E)) (thing : A) (these : List E)
    → Dealt IsDealtWith things n known mid
    → slice_get things n ≡ Some thing
    → IsDealtWith thing these
    → Grows mid known' these
    → Dealt IsDealtWith things (n + 1) known known'
one_more_dealt IsDealtWith things n known mid known' thing these before at dealt grows =
    let e : suc n ≡ n + 1 = omega arith in (
      before.0 ++ these,
      subst (λ (k : ℕ). InTurn IsDealtWith things k (before.0 ++ these)) e (before.0, these, thing, before.1, at, dealt, refl),
      grown_twice known mid known' before.0 these before.2 grows,
    )

-- ---- a record from its beginning
pub all_recorded : {E : Type 0} (IsSuch : List E → Type 0) (lost_before lost : Bool) (before kept effects : List E)
    → lost_before ≡ false → before ≡ []
    → Grows (known_unless lost_before before) (known_unless lost kept) effects → IsSuch effects → lost ≡ false → IsSuch kept
all_recorded {E = E} IsSuch lost_before lost before kept effects all none grows such known =
    let from_none = subst (λ (l : List E). Grows (known_unless false l) (known_unless lost kept) effects) none
    (subst (λ (b : Bool). Grows (known_unless b before) (known_unless lost kept) effects) all grows) in
    let is : kept ≡ [] ++ effects = subst (λ (b : Bool). Grows (known_unless false []) (known_unless b kept) effects) known from_none in
    subst IsSuch (sym is) such
