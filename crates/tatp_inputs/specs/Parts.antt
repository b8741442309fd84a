-- The parts of an input: the lines before the first line `.` and those after it: docs/FORMATS.md.
use Rattle.std.specs.Prelude.{◌≡◌, ℕ, ◌+◌, Bool, false, List, [], ◌∷◌, ◌++◌, length, Option, Some, None, bytes_eq, codes, if◌then◌else◌}
use Rattle.tatp_streams.specs.LineReading.{LinesLeft, IsWithinLimit}

abbrev pub is_dot : List ℕ → Bool
is_dot line = bytes_eq line (codes ".")

-- the lines before the first line `.`
abbrev pub before_dot : List (List ℕ) → List (List ℕ)
before_dot [] = []
before_dot (line ∷ more) = if is_dot line then [] else line ∷ before_dot more

-- the lines after it, where there is one
abbrev pub after_dot : List (List ℕ) → Option (List (List ℕ))
after_dot [] = None
after_dot (line ∷ more) = if is_dot line then Some more else after_dot more

-- ---- taking a part
-- the lines up to the first line `.` are taken, or all of them where there is none; `before` and
-- `after` say how many lines were taken in all before this and after it
pub record TakesPart (dot : Bool) (before after : ℕ) (all left : LinesLeft) : Type 0 where
  pub later : after_dot all.lines ≡ (if dot then Some left.lines else None)
  pub counted : after ≡ before + length (before_dot all.lines) + (if dot then 1 else 0)
  pub input : left.input ≡ all.input
  pub within : dot ≡ false → IsWithinLimit all.input

-- ---- a part that is a text
-- lines as a text, each with its line feed
abbrev pub text_of : List (List ℕ) → List ℕ
text_of [] = []
text_of (line ∷ more) = line ++ 10 ∷ text_of more

-- the text of the lines before the first line `.`
abbrev pub text_before_dot : List (List ℕ) → List ℕ
text_before_dot lines = text_of (before_dot lines)

-- such a part is taken, and its text is this one
pub record TakesText (dot : Bool) (text : List ℕ) (before after : ℕ) (all left : LinesLeft)
    : Type 0 where
  pub told : text ≡ text_before_dot all.lines
  pub part : TakesPart dot before after all left
