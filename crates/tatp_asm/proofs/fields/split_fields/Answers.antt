use Rattle.std.proofs.Common.{◌∷◌, ◌∙◌, ap, List, ℕ, Option}
use denote.Ref.{Bor}
use Rattle.tatp_asm.specs.Words.{fields_left}
use Rattle.tatp_asm.proofs.FieldLaws.{some_field}
use Rattle.tatp_asm.proofs.fields.split_fields.Goals as goal

pub returns-in-Some-rest-2 : goal.returns-in-Some-rest-2
returns-in-Some-rest-2 c =
    let a = c.cut.result.0.now in
    let b = c.cut-2.result.0.now in
    let d = c.cut-3.result.0.now in
    let left : Option (Bor (List ℕ)) → List (List ℕ) = λ o. fields_left c.args.separator o in
    let e = c.cut.ensures ∙ (ap (λ (o : Option (Bor (List ℕ))). a ∷ left o) c.in-Some.is
    ∙ (ap (λ (fs : List (List ℕ)). a ∷ fs) (c.cut-2.ensures ∙ ap (λ (o : Option (Bor (List ℕ))). b ∷ left o) c.in-Some-rest.is)
    ∙ ap (λ (fs : List (List ℕ)). a ∷ b ∷ fs) (c.cut-3.ensures ∙ ap (λ (o : Option (Bor (List ℕ))). d ∷ left o) c.in-Some-rest-2.is))) in
    let s = some_field c.args.separator c.in-Some-rest-2.field-0.now in
    (a, b, d, s.0, s.1, e ∙ ap (λ (fs : List (List ℕ)). a ∷ b ∷ d ∷ fs) s.2)
