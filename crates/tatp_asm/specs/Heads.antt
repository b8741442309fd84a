-- The front of an assembly text, which says its version: docs/FORMATS.md, "Assembly text".
use Rattle.std.specs.Prelude.{ℕ, ◌+◌, if◌then◌else◌, List, [], ◌∷◌, codes, bytes_eq}
use Rattle.tatp_instr.specs.declared.version.Version.{Version}
use Rattle.tatp_instr.specs.declared.version.Version.TheVariants.{One, Two}
use Rattle.tatp_lines.specs.Lines.{lines_of}

-- the version, and the lines after those that say it, with the number of the first
pub record Head : Type 0 where
  pub version : Version
  pub line : ℕ
  pub left : List (List ℕ)

-- what the first line that isn't empty says, from the line n on
abbrev pub head_from : ℕ → List (List ℕ) → Head
head_from n [] = record { version = One; line = n; left = [] }
head_from n ([] ∷ texts) = head_from (n + 1) texts
head_from n ((byte ∷ bytes) ∷ texts) =
    if bytes_eq (byte ∷ bytes) (codes "version 2")
    then record { version = Two; line = n + 1; left = texts }
    else record { version = One; line = n; left = (byte ∷ bytes) ∷ texts }

unfoldable pub head_of : List ℕ → Head
head_of text = head_from 1 (lines_of text)
