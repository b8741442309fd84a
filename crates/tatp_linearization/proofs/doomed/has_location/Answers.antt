use Rattle.std.proofs.Common.{◌≡◌, ℕ, [], ◌∷◌, ◌==◌, Option, Some, refl, sym, ap, ◌∙◌, eq-eqb, true≢false}
use Rattle.std.specs.Option.{option_eq}
use Rattle.tatp_homes.specs.Changes.{cell}
use Rattle.tatp_linearization.proofs.DoomedLaws.{none_located}
use Rattle.tatp_linearization.proofs.doomed.has_location.Goals as goal

pub returns : goal.returns
returns c =
    let home = c.args.home.now in
    let v : ℕ = c.args.location in
    let got : c.get.result ≡ cell home.tables 33 (home.s_id ∷ 0 ∷ 0 ∷ []) = c.get.ensures ∙ ap (λ (s : ℕ). cell home.tables 33 (s ∷ 0 ∷ 0 ∷ [])) c.s_id.ensures in
    λ other. none_located home v c.what_holds_of_every_home.ensures
    (λ is. true≢false (sym (c.eq.ensures ∙ (ap (λ (o : Option ℕ). option_eq (λ a b. a == b) o (Some v)) (got ∙ is) ∙ eq-eqb v v refl)) ∙ other))
