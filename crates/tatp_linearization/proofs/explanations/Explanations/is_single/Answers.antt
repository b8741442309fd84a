use Rattle.std.proofs.Common.{◌≡◌, vec_len, List, [], ◌∷◌, length, Some, slice_get, refl, sym, ap, ◌∙◌, subst, arith, eq-eqb, eqb-true}
use Rattle.tatp_linearization.specs.declared.configuration.Configuration.{Configuration as Held}
use Rattle.tatp_linearization.proofs.PlaceLaws.{get_at, same_item}
use Rattle.tatp_linearization.proofs.explanations.Explanations.is_single.Goals as goal

nothing : {X : Type 0} (xs : List X) → length xs ≡ 0 → xs ≡ []
nothing [] e = refl
nothing (x ∷ xs) e = absurd (omega (arith, e))

one : (xs : List Held) (c : Held) → length xs ≡ 1 → slice_get xs 0 ≡ Some c → xs ≡ c ∷ []
one [] c e at = absurd (omega (arith, e))
one (x ∷ []) c e at = let is : x ≡ c = cc in ap (λ q. q ∷ []) is
one (x ∷ y ∷ xs) c e at = absurd (omega (arith, e))

pub returns-then-len-eq1 : goal.returns-then-len-eq1
returns-then-len-eq1 c =
    let items = c.args.self.now.configurations.items in
    let size : length c.args.self.now.configurations.items ≡ 1 = sym c.args.self.now.configurations.ok.0 ∙ (sym c.len.ensures ∙ c.if-len-eq1.true) in
    let d : Held = c.index.result.now in
    let at : slice_get c.args.self.now.configurations.items 0 ≡ Some d = get_at c.args.self.now.configurations.items 0 d (omega (arith, size)) c.index.ensures in (
      λ yes. (d, one items d size at, nothing d.opened.items (sym d.opened.ok.0 ∙ eqb-true (vec_len d.opened) 0 (sym c.is_empty.ensures ∙ yes))),
      λ single.
          let same : d ≡ single.0 = same_item (single.0 ∷ []) 0 d single.0 (subst (λ (xs : List Held). slice_get xs 0 ≡ Some d) single.1 at) refl in
          c.is_empty.ensures ∙ eq-eqb (vec_len d.opened) 0 (d.opened.ok.0 ∙ (ap (λ (q : Held). length q.opened.items) same ∙ ap length single.2)),
    )
