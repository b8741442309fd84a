-- Lemmas on values in decimal.
use Rattle.std.proofs.Common.{◌≡◌, ℕ, ◌∙◌, sym, Bool, true, false, cond, List, [], ◌∷◌, ◌++◌, refl, ap, decimal, append_assoc, Result, Ok, Err}
use Rattle.std.specs.Result.{OnOk}
use Rattle.std.proofs.lemmas.Bool.{false≢true}
use Rattle.tatp_texts.specs.declared.form.Form.{Form}
use Rattle.tatp_texts.specs.declared.form.Form.TheVariants.{Decimal, FifteenDigits, Letters}
use Rattle.tatp_tables.specs.Domains.{is_in_domain}
use Rattle.tatp_texts.specs.Text.{form_of, is_decimal, text_in, value_text}

in_either : (form : Form) (inside : Bool) (v : ℕ) → is_decimal form ≡ true → cond inside (text_in form v) (decimal v) ≡ decimal v
in_either Decimal true v h = refl
in_either Decimal false v h = refl
in_either FifteenDigits inside v h = absurd (false≢true h)
in_either (Letters k) inside v h = absurd (false≢true h)

-- where a column's values stand in decimal, so do those outside its domain
printed_in_decimal : (c v : ℕ) → is_decimal (form_of c) ≡ true → value_text c v ≡ decimal v
unfolding value_text
printed_in_decimal c v h = in_either (form_of c) (is_in_domain c v) v h

-- a value that stands in decimal, after a space
pub spaced_in_decimal : {E : Type 0} (r : Result (Unit {0}) E) (old spaced text : List ℕ) (c v : ℕ) → is_decimal (form_of c) ≡ true → spaced ≡ old ++ 32 ∷ [] → OnOk r (text ≡ spaced ++ decimal v) → OnOk r (text ≡ old ++ 32 ∷ value_text c v)
spaced_in_decimal (Ok done) old spaced text c v h s t =
    t ∙ ap (λ front. front ++ decimal v) s ∙ append_assoc old (32 ∷ []) (decimal v) ∙ ap (λ value. old ++ 32 ∷ value) (sym (printed_in_decimal c v h))
spaced_in_decimal (Err error) old spaced text c v h s t = tt

-- a value of no column
pub in_decimal : (v : ℕ) → decimal v ≡ value_text 255 v
unfolding value_text is_in_domain
in_decimal v = refl
