-- What lists of tests tell together, and that no test's verdict says clean.
use Rattle.std.specs.Prelude.{◌≡◌, true, false, List, [], ◌∷◌, ◌++◌, Option, Some, None}
use Rattle.std.specs.Option.{option_or, unwrap_or}
use Rattle.std.proofs.Common.{refl, sym, ap, ◌∙◌, subst, inl, inr}
use Rattle.std.proofs.lemmas.Bool.{false≢true}
use Rattle.tatp_tables.specs.Tuples.{Tuple}
use Rattle.tatp_tables.specs.declared.row.Rows.{Rows}
use Rattle.tatp_audits.specs.declared.verdict.Verdict.{Verdict}
use Rattle.tatp_audits.specs.Audits.{Test, AllPass, FirstFails, Told, IsVerdict, tests, clean_of, says_clean}

first_left : (xs ys : List Test) (v : Verdict) → FirstFails xs v → FirstFails (xs ++ ys) v
first_left [] ys v h = absurd h
first_left (t ∷ xs) ys v (inl here) = inl here
first_left (t ∷ xs) ys v (inr later) = inr (later.0, first_left xs ys v later.1)

first_right : (xs ys : List Test) (v : Verdict) → AllPass xs → FirstFails ys v → FirstFails (xs ++ ys) v
first_right [] ys v pass h = h
first_right (t ∷ xs) ys v pass h = inr (pass.0, first_right xs ys v pass.1 h)

both_pass : (xs ys : List Test) → AllPass xs → AllPass ys → AllPass (xs ++ ys)
both_pass [] ys pass more = more
both_pass (t ∷ xs) ys pass more = (pass.0, both_pass xs ys pass.1 more)

-- what some tests tell, else what more tests do
pub told_or : (xs ys : List Test) (a b : Option Verdict) → Told xs a → Told ys b → Told (xs ++ ys) (option_or a b)
told_or xs ys (Some v) b h more = first_left xs ys v h
told_or xs ys None (Some v) h more = first_right xs ys v h more
told_or xs ys None None h more = both_pass xs ys h more

-- what the tests tell makes the verdict
pub verdict_told : (r : Rows) (told : Option Verdict) → Told (tests r) told → IsVerdict r (unwrap_or told (clean_of r))
verdict_told r (Some v) h = inl h
verdict_told r None h = inr (h, refl)

pub pass_and_fail : (ts : List Test) (v : Verdict) → AllPass ts → FirstFails ts v → ⊥
pass_and_fail [] v pass h = h
pass_and_fail (t ∷ ts) v pass (inl here) = false≢true (sym (pass.0 here.0) ∙ here.1.0)
pass_and_fail (t ∷ ts) v pass (inr later) = pass_and_fail ts v pass.1 later.1

-- no verdict of these tests says clean
abbrev pub NeverClean : List Test → Type 0
NeverClean [] = Unit {0}
NeverClean (t ∷ more) = ((k : Tuple) → says_clean (t.verdict k) ≡ false) × NeverClean more

not_clean : (ts : List Test) (v : Verdict) → NeverClean ts → FirstFails ts v → says_clean v ≡ false
not_clean [] v never h = absurd h
not_clean (t ∷ ts) v never (inl here) = ap says_clean here.2 ∙ never.0 here.0
not_clean (t ∷ ts) v never (inr later) = not_clean ts v never.1 later.1

never_clean : (r : Rows) → NeverClean (tests r)
never_clean r = (λ k. refl, (λ k. refl, (λ k. refl, (λ k. refl, (λ k. refl, (λ k. refl, (λ k. refl, (λ k. refl, (λ k. refl, (λ k. refl, (λ k. refl, (λ k. refl, (λ k. refl, tt)))))))))))))

-- where the verdict says clean all tests pass
pub pass_from_clean : (r : Rows) (told : Option Verdict) → Told (tests r) told → says_clean (unwrap_or told (clean_of r)) ≡ true → AllPass (tests r)
pass_from_clean r (Some v) h e = absurd (false≢true (sym (not_clean (tests r) v (never_clean r) h) ∙ e))
pass_from_clean r None h e = h

-- where all tests pass the verdict says clean
pub clean_from_pass : (r : Rows) (told : Option Verdict) → Told (tests r) told → AllPass (tests r) → unwrap_or told (clean_of r) ≡ clean_of r
clean_from_pass r (Some v) h pass = absurd (pass_and_fail (tests r) v pass h)
clean_from_pass r None h pass = refl

-- what the six audits tell together
pub told_all : (ids numbers keys parents values counts : List Test) (a b c d e f v w x y z : Option Verdict) → Told ids a → Told numbers b → Told keys c → Told parents d → Told values e → Told counts f
    → v ≡ option_or e f → w ≡ option_or d v → x ≡ option_or c w → y ≡ option_or b x → z ≡ option_or a y → Told (ids ++ (numbers ++ (keys ++ (parents ++ (values ++ counts))))) z
told_all ids numbers keys parents values counts a b c d e f v w x y z ha hb hc hd he hf ev ew ex ey ez =
    let gv : Told (values ++ counts) v = subst (Told (values ++ counts)) (sym ev) (told_or values counts e f he hf) in
    let gw : Told (parents ++ (values ++ counts)) w = subst (Told (parents ++ (values ++ counts))) (sym ew) (told_or parents (values ++ counts) d v hd gv) in
    let gx : Told (keys ++ (parents ++ (values ++ counts))) x = subst (Told (keys ++ (parents ++ (values ++ counts)))) (sym ex) (told_or keys (parents ++ (values ++ counts)) c w hc gw) in
    let gy : Told (numbers ++ (keys ++ (parents ++ (values ++ counts)))) y = subst (Told (numbers ++ (keys ++ (parents ++ (values ++ counts))))) (sym ey) (told_or numbers (keys ++ (parents ++ (values ++ counts))) b x hb gx) in
    subst (Told (ids ++ (numbers ++ (keys ++ (parents ++ (values ++ counts)))))) (sym ez) (told_or ids (numbers ++ (keys ++ (parents ++ (values ++ counts)))) a y ha gy)

-- the verdict, where the one on clean rows stands in for what isn't told
pub verdict_is : (r : Rows) (told : Option Verdict) (clean v : Verdict) → Told (tests r) told → clean ≡ clean_of r → v ≡ unwrap_or told clean → IsVerdict r v
verdict_is r told clean v h e is = subst (IsVerdict r) (sym (is ∙ ap (unwrap_or told) e)) (verdict_told r told h)

pub pass_is : (r : Rows) (told : Option Verdict) (clean v : Verdict) → Told (tests r) told → clean ≡ clean_of r → v ≡ unwrap_or told clean → says_clean v ≡ true → AllPass (tests r)
pass_is r told clean v h e is says = pass_from_clean r told h (ap says_clean (sym (is ∙ ap (unwrap_or told) e)) ∙ says)

pub clean_is : (r : Rows) (told : Option Verdict) (clean v : Verdict) → Told (tests r) told → clean ≡ clean_of r → v ≡ unwrap_or told clean → AllPass (tests r) → v ≡ clean_of r
clean_is r told clean v h e is pass = is ∙ ap (unwrap_or told) e ∙ clean_from_pass r told h pass
