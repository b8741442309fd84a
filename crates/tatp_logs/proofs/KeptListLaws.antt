-- Lists of what is kept, whose values stand in one list of all values: what one more makes of them.
use Rattle.std.proofs.Common.{◌≡◌, ℕ, List, [], ◌∷◌, ◌++◌, map, All, refl, sym, ◌∙◌, ap}
use Rattle.std.proofs.lemmas.List.{map_push}
use Rattle.std.proofs.lemmas.List.Elements.{All-head, All-tail}

-- K is what is kept, and V what it stands for where its values stand in a list
module _ {K V : Type 0} (Stands : List ℕ → K → Type 0) (value_in : List ℕ → K → V) (same : (values more : List ℕ) (x : K) → Stands values x → value_in (values ++ more) x ≡ value_in values x) where
  -- with more values behind theirs, all are the same
  same_values : (values more : List ℕ) (kept : List K) → All (Stands values) kept → map (value_in (values ++ more)) kept ≡ map (value_in values) kept
  same_values values more [] h = refl
  same_values values more (x ∷ kept) h =
      let one = same values more x (All-head (Stands values) x kept h) in
      let rest = same_values values more kept (All-tail (Stands values) x kept h) in
      λ i. one i ∷ rest i

  -- so what is kept behind all others is one more
  pub pushed : (values values' : List ℕ) (kept kept' : List K) (seen : List V) (value : V) (x : K)
      → All (Stands values) kept → (more : List ℕ) × (values' ≡ values ++ more) → kept' ≡ kept ++ x ∷ [] → map (value_in values) kept ≡ seen → value_in values' x ≡ value
      → map (value_in values') kept' ≡ seen ++ value ∷ []
  pushed values values' kept kept' seen value x stand behind items before is =
      let last : value_in (values ++ behind.0) x ≡ value = ap (λ (o : List ℕ). value_in o x) (sym behind.1) ∙ is in
      let first : map (value_in (values ++ behind.0)) kept ≡ seen = same_values values behind.0 kept stand ∙ before in
      (λ i. map (value_in (behind.1 i)) (items i)) ∙ (map_push (value_in (values ++ behind.0)) kept x ∙ (λ i. first i ++ last i ∷ []))
