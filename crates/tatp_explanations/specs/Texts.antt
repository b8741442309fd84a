-- What is written of explanations, and what each fault leaves: docs/FORMATS.md, "Refusals".
use Rattle.std.specs.Prelude.{◌≡◌, ℕ, List, ◌++◌, map, codes, decimal, Option}
use Rattle.std.specs.List.{flat_map}
use Rattle.tatp_streams.specs.declared.fault.StreamFault.{StreamFault}
use Rattle.tatp_streams.specs.declared.fault.StreamFault.TheVariants.{ReadFault}
use Rattle.tatp_streams.specs.Writing.{LeavesText}
use Rattle.tatp_explanations.specs.declared.explanation.Explanation.{Explanation}
use Rattle.tatp_explanations.specs.Names.{name_of}
use Rattle.tatp_explanations.specs.Words.{AsksFor}

-- number, name and meaning, and what follows them
abbrev pub headed : Explanation → List ℕ → List ℕ
headed row rest =
    decimal row.number ++ (codes " " ++ (row.name.now ++ (codes ": " ++ (row.meaning.now ++ rest))))

-- one line
abbrev pub line_text : Explanation → List ℕ
line_text row = headed row (codes "\n")

-- the whole explanation
abbrev pub explanation_text : Explanation → List ℕ
explanation_text row =
    headed row (codes "\n\nExample:\n" ++ (row.example.now
    ++ (codes "\n\nWhat to do:\n" ++ (row.advice.now ++ codes "\n"))))

-- the text is a whole explanation of this number, with its name
pub record IsExplanation (number : ℕ) (text : List ℕ) : Type 0 where
  pub row : Explanation
  pub own : row.number ≡ number
  pub named : row.name.now ≡ name_of number
  pub told : text ≡ explanation_text row

-- the text is a whole explanation of the number that the word asks for
abbrev pub Explains : List ℕ → List ℕ → Type 0
Explains word text = (number : ℕ) × AsksFor word number × IsExplanation number text

-- the text has a line for each of these numbers, in their order, with its name
pub record IsListing (numbers : List ℕ) (text : List ℕ) : Type 0 where
  pub rows : List Explanation
  pub own : map (λ row. row.number) rows ≡ numbers
  pub named : map (λ row. row.name.now) rows ≡ map name_of numbers
  pub told : text ≡ flat_map line_text rows

-- what a fault leaves where such a text is to be written: nothing is read
abbrev pub LeavesFront : (List ℕ → Type 0)
    → Option (List ℕ) → Option (List ℕ) → StreamFault → Type 0
LeavesFront IsText old new ReadFault = ⊥
LeavesFront IsText old new fault = LeavesText IsText old new fault
