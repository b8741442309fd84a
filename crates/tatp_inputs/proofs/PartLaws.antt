-- A part of the lines that are left, taken line by line up to a line `.` or the end.
use Rattle.std.specs.Prelude.{◌≡◌, ℕ, ◌+◌, Bool, true, false, List, [], ◌∷◌, ◌++◌, length, Option, Some, None, Result, cond, ◌⊎◌}
use Rattle.std.specs.Option.{IfSome}
use Rattle.std.proofs.Common.{refl, sym, ap, subst, ◌∙◌, arith, append_assoc, inl, inr}
use Rattle.std.proofs.lemmas.List.{append-nil}
use Rattle.tatp_streams.specs.LineReading.{LinesLeft, InputSize, IsWithinLimit, with_line}
use Rattle.tatp_streams.specs.declared.fault.StreamFault.TheVariants.{NoMemory, ReadFault}
use Rattle.tatp_inputs.specs.declared.fault.InputFault.{InputFault}
use Rattle.tatp_inputs.specs.declared.fault.InputFault.TheVariants.{Stream}
use Rattle.tatp_inputs.specs.Refusing.{RefusesReading}
use Rattle.tatp_inputs.specs.Parts.{is_dot, before_dot, after_dot, text_of, text_before_dot, TakesPart, TakesText}

-- ---- the lines of the part
-- all of these were left, and so many lines were taken; these are left, and so many are taken now
pub record PartSoFar (before now : ℕ) (all left : LinesLeft) : Type 0 where
  pub later : after_dot left.lines ≡ after_dot all.lines
  pub counted : now + length (before_dot left.lines) ≡ before + length (before_dot all.lines)
  pub input : left.input ≡ all.input

pub part_starts : (n : ℕ) (left : LinesLeft) → PartSoFar n n left left
part_starts n left = record { later = refl; counted = refl; input = refl }

-- a line that is no `.`
no_dot_after : (t : Bool) (more : List (List ℕ)) → t ≡ false → cond t (Some more) (after_dot more) ≡ after_dot more
no_dot_after true more e = cc
no_dot_after false more e = refl

no_dot_before : (t : Bool) (line : List ℕ) (more : List (List ℕ)) → t ≡ false → cond t [] (line ∷ before_dot more) ≡ line ∷ before_dot more
no_dot_before true line more e = cc
no_dot_before false line more e = refl

one_more : (before now now' : ℕ) (line : List ℕ) (part more all : List (List ℕ)) → part ≡ line ∷ more → now' ≡ now + 1 → now + length part ≡ before + length all → now' + length more ≡ before + length all
one_more before now now' line part more all e next h = omega (arith, ap length e, next, h)

pub part_goes_on : (before now now' : ℕ) (line : List ℕ) (all left : LinesLeft) → is_dot line ≡ false → now' ≡ now + 1 → PartSoFar before now all (with_line line left) → PartSoFar before now' all left
part_goes_on before now now' line all left dot next s = record {
  later = sym (no_dot_after (is_dot line) left.lines dot) ∙ s.later;
  counted = one_more before now now' line (before_dot (line ∷ left.lines)) (before_dot left.lines) (before_dot all.lines) (no_dot_before (is_dot line) line left.lines dot) next s.counted;
  input = s.input;
}

-- the line `.`
dot_after : (t : Bool) (more : List (List ℕ)) → t ≡ true → cond t (Some more) (after_dot more) ≡ Some more
dot_after true more e = refl
dot_after false more e = cc

pub dot_before : (t : Bool) (line : List ℕ) (more : List (List ℕ)) → t ≡ true → cond t [] (line ∷ before_dot more) ≡ []
dot_before true line more e = refl
dot_before false line more e = cc

all_counted : (before now now' more : ℕ) (part all : List (List ℕ)) → part ≡ [] → now' ≡ now + more → now + length part ≡ before + length all → now' ≡ before + length all + more
all_counted before now now' more part all e next h = omega (arith, ap length e, next, h)

pub part_ends_at_dot : (before now now' : ℕ) (line : List ℕ) (all left : LinesLeft) → is_dot line ≡ true → now' ≡ now + 1 → PartSoFar before now all (with_line line left) → TakesPart true before now' all left
part_ends_at_dot before now now' line all left dot next s = record {
  later = sym s.later ∙ dot_after (is_dot line) left.lines dot;
  counted = all_counted before now now' 1 (before_dot (line ∷ left.lines)) (before_dot all.lines) (dot_before (is_dot line) line left.lines dot) next s.counted;
  input = s.input;
  within = λ e. cc;
}

-- the end
pub part_ends : (before now now' : ℕ) (all left : LinesLeft) → left.lines ≡ [] → IsWithinLimit left.input → now' ≡ now → PartSoFar before now all left → TakesPart false before now' all left
part_ends before now now' all left none within same s = record {
  later = sym s.later ∙ ap after_dot none;
  counted = all_counted before now now' 0 (before_dot left.lines) (before_dot all.lines) (ap before_dot none) (omega (arith, same)) s.counted;
  input = s.input;
  within = λ e. subst (λ (i : InputSize). IsWithinLimit i) s.input within;
}

-- ---- the text of the part
pub record TextSoFar (text : List ℕ) (before now : ℕ) (all left : LinesLeft) : Type 0 where
  pub told : text ++ text_before_dot left.lines ≡ text_before_dot all.lines
  pub part : PartSoFar before now all left

pub text_starts : (text : List ℕ) (n : ℕ) (left : LinesLeft) → text ≡ [] → TextSoFar text n n left left
text_starts text n left e = record { told = ap (λ front. front ++ text_before_dot left.lines) e; part = part_starts n left }

line_more : (text text' line rest all : List ℕ) → text' ≡ text ++ (line ++ 10 ∷ []) → text ++ (line ++ 10 ∷ rest) ≡ all → text' ++ rest ≡ all
line_more text text' line rest all e h =
    ap (λ front. front ++ rest) e ∙ (append_assoc text (line ++ 10 ∷ []) rest ∙ (ap (λ later. text ++ later) (append_assoc line (10 ∷ []) rest) ∙ h))

pub text_goes_on : (text text' : List ℕ) (before now now' : ℕ) (line : List ℕ) (all left : LinesLeft) → is_dot line ≡ false → text' ≡ text ++ (line ++ 10 ∷ []) → now' ≡ now + 1
    → TextSoFar text before now all (with_line line left) → TextSoFar text' before now' all left
text_goes_on text text' before now now' line all left dot e next s = record {
  told = line_more text text' line (text_before_dot left.lines) (text_before_dot all.lines) e (ap (λ part. text ++ text_of part) (sym (no_dot_before (is_dot line) line left.lines dot)) ∙ s.told);
  part = part_goes_on before now now' line all left dot next s.part;
}

all_told : (text rest all : List ℕ) → rest ≡ [] → text ++ rest ≡ all → text ≡ all
all_told text rest all e h = sym (append-nil text) ∙ (ap (λ later. text ++ later) (sym e) ∙ h)

pub text_ends_at_dot : (text : List ℕ) (before now now' : ℕ) (line : List ℕ) (all left : LinesLeft) → is_dot line ≡ true → now' ≡ now + 1 → TextSoFar text before now all (with_line line left) → TakesText true text before now' all left
text_ends_at_dot text before now now' line all left dot next s = record {
  told = all_told text (text_before_dot (line ∷ left.lines)) (text_before_dot all.lines) (ap text_of (dot_before (is_dot line) line left.lines dot)) s.told;
  part = part_ends_at_dot before now now' line all left dot next s.part;
}

pub text_ends : (text : List ℕ) (before now now' : ℕ) (all left : LinesLeft) → left.lines ≡ [] → IsWithinLimit left.input → now' ≡ now → TextSoFar text before now all left → TakesText false text before now' all left
text_ends text before now now' all left none within same s = record {
  told = all_told text (text_before_dot left.lines) (text_before_dot all.lines) (ap text_before_dot none) s.told;
  part = part_ends before now now' all left none within same s.part;
}

-- ---- a reader that fails, or no memory
pub refused_anyway : {A : Type 0} (known : Option LinesLeft) (read : LinesLeft → Result A ℕ) (fault : InputFault) → (fault ≡ Stream ReadFault) ⊎ (fault ≡ Stream NoMemory) → IfSome known (λ all. RefusesReading (read all) fault)
refused_anyway None read fault h = tt
refused_anyway (Some all) read fault h = elim h [ inl e ↦ rw e tt | inr e ↦ rw e tt ]
