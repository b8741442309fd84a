-- Lines and code of a version.
use Rattle.std.proofs.Common.{◌≡◌, ℕ, ◌∙◌, sym, ap, subst, Bool, true, false, List, [], ◌∷◌, ◌++◌, refl, Option, Some, None}
use Rattle.std.specs.List.{list_all}
use Rattle.tatp_instr.specs.declared.instr.Instr.{Instr}
use Rattle.tatp_instr.specs.declared.instr.Instr.TheVariants.{Jmp, Jz, Loop}
use Rattle.tatp_instr.specs.declared.version.Version.{Version}
use Rattle.tatp_instr.specs.declared.version.Version.TheVariants.{One, Two}
use Rattle.tatp_instr.specs.Versions.{is_in}
use Rattle.tatp_encoding.specs.Modules.{Procedure, has_version}
use Rattle.tatp_asm.specs.Instrs.{has_target, aimed}
use Rattle.tatp_asm.specs.Lines.{Line, Opens, Names, Does, Closes}
use Rattle.tatp_asm.specs.Texts.{Means, IsCode, AreProcedureLines}
use Rattle.tatp_asm.specs.Reading.{of_version}
use Rattle.tatp_asm.proofs.Tools.{some_is, guarded, both}

abbrev pub IsLineOf : Version → Line → Type 0
IsLineOf v (Does i label) = is_in v i ≡ true
IsLineOf v line = Unit {0}

abbrev pub AreLinesOf : Version → List Line → Type 0
AreLinesOf v [] = Unit {0}
AreLinesOf v (line ∷ lines) = IsLineOf v line × AreLinesOf v lines

-- ---- a line that is read
pub version_takes : (v : Version) (o : Option Line) (line : Line) → of_version v o ≡ Some line → (o ≡ Some line) × IsLineOf v line
version_takes v None line e = absurd cc
version_takes v (Some (Opens name arity)) line e = (e, subst (IsLineOf v) (some_is (Opens name arity) line e) tt)
version_takes v (Some (Names label)) line e = (e, subst (IsLineOf v) (some_is (Names label) line e) tt)
version_takes v (Some Closes) line e = (e, subst (IsLineOf v) (some_is Closes line e) tt)
version_takes v (Some (Does i label)) line e =
    let g = guarded (is_in v i) (Some (Does i label)) line e in
    (g.1, subst (IsLineOf v) (some_is (Does i label) line g.1) g.0)

pub version_again : (v : Version) (line : Line) → IsLineOf v line → of_version v (Some line) ≡ Some line
version_again v (Opens name arity) h = refl
version_again v (Names label) h = refl
version_again v Closes h = refl
version_again v (Does i label) h = rw h refl

-- ---- the code of lines
aimed_in : (v : Version) (i : Instr) (position : ℕ) → is_in v (aimed i position) ≡ is_in v i
aimed_in One (Jmp t) position = refl
aimed_in One (Jz a t) position = refl
aimed_in One (Loop a t) position = refl
aimed_in One _ position = refl
aimed_in Two i position = refl

means_in : (v : Version) (b : Bool) (body : List Line) (i : Instr) (label : List ℕ) (j : Instr) → Means b body i label j → is_in v j ≡ is_in v i
means_in v true body i label j (position, s, e) = ap (is_in v) e ∙ aimed_in v i position
means_in v false body i label j e = ap (is_in v) e

code_of_lines : (v : Version) (body lines : List Line) (code : List Instr) → IsCode body lines code → AreLinesOf v lines → list_all (is_in v) code ≡ true
code_of_lines v body [] code c h = rw c refl
code_of_lines v body (Does i label ∷ lines) [] c h = absurd c
code_of_lines v body (Does i label ∷ lines) (j ∷ code) (m, c) (h, k) = rw (means_in v (has_target i) body i label j m ∙ h, code_of_lines v body lines code c k) refl
code_of_lines v body (Names label ∷ lines) code c (h, k) = code_of_lines v body lines code c k
code_of_lines v body (Opens name arity ∷ lines) code c h = absurd c
code_of_lines v body (Closes ∷ lines) code c h = absurd c

lines_of_code : (v : Version) (body lines : List Line) (code : List Instr) → IsCode body lines code → list_all (is_in v) code ≡ true → AreLinesOf v lines
lines_of_code v body [] code c h = tt
lines_of_code v body (Does i label ∷ lines) [] c h = absurd c
lines_of_code v body (Does i label ∷ lines) (j ∷ code) (m, c) h =
    let b = both (is_in v j) (list_all (is_in v) code) h in
    (sym (means_in v (has_target i) body i label j m) ∙ b.0, lines_of_code v body lines code c b.1)
lines_of_code v body (Names label ∷ lines) code c h = (tt, lines_of_code v body lines code c h)
lines_of_code v body (Opens name arity ∷ lines) code c h = absurd c
lines_of_code v body (Closes ∷ lines) code c h = absurd c

-- ---- the lines of procedures
front_of : (v : Version) (xs ys : List Line) → AreLinesOf v (xs ++ ys) → AreLinesOf v xs
front_of v [] ys h = tt
front_of v (x ∷ xs) ys (h, k) = (h, front_of v xs ys k)

rest_of : (v : Version) (xs ys : List Line) → AreLinesOf v (xs ++ ys) → AreLinesOf v ys
rest_of v [] ys h = h
rest_of v (x ∷ xs) ys (h, k) = rest_of v xs ys k

append_of : (v : Version) (xs ys : List Line) → AreLinesOf v xs → AreLinesOf v ys → AreLinesOf v (xs ++ ys)
append_of v [] ys h k = k
append_of v (x ∷ xs) ys (g, h) k = (g, append_of v xs ys h k)

pub procedures_of_lines : (v : Version) (lines : List Line) (ps : List Procedure) → AreProcedureLines lines ps → AreLinesOf v lines → list_all (has_version v) ps ≡ true
procedures_of_lines v lines [] e h = refl
procedures_of_lines v lines (p ∷ ps) (body, rest, e, u, c, r) h =
    let k : AreLinesOf v (Opens p.name p.arity ∷ (body ++ (Closes ∷ rest))) = subst (AreLinesOf v) e h in
    let more : AreLinesOf v (Closes ∷ rest) = rest_of v body (Closes ∷ rest) k.1 in
    rw (code_of_lines v body body p.code c (front_of v body (Closes ∷ rest) k.1), procedures_of_lines v rest ps r more.1) refl

pub lines_of_procedures : (v : Version) (lines : List Line) (ps : List Procedure) → AreProcedureLines lines ps → list_all (has_version v) ps ≡ true → AreLinesOf v lines
lines_of_procedures v lines [] e h = subst (AreLinesOf v) (sym e) tt
lines_of_procedures v lines (p ∷ ps) (body, rest, e, u, c, r) h =
    let b = both (has_version v p) (list_all (has_version v) ps) h in
    let inner : AreLinesOf v body = lines_of_code v body body p.code c b.0 in
    subst (AreLinesOf v) (sym e) (tt, append_of v body (Closes ∷ rest) inner (tt, lines_of_procedures v rest ps r b.1))
