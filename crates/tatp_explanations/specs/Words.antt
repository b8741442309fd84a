-- Words that ask for an explanation: docs/FORMATS.md, "Refusals".
use Rattle.std.specs.Prelude.{◌≡◌, ℕ, ◌⊎◌, List, true}
use Rattle.std.specs.Str.Parse.{IsNumeral, digits_value}
use Rattle.tatp_explanations.specs.Names.{name_of}
use Rattle.tatp_explanations.specs.Numbers.{is_explained}

-- the word is the number, in digits alone
abbrev pub IsNumber : List ℕ → ℕ → Type 0
IsNumber word number = IsNumeral 10 word × (digits_value 10 word ≡ number)

-- it asks for this number of a refusal or a fault: it is the number, or the name
abbrev pub AsksFor : List ℕ → ℕ → Type 0
AsksFor word number =
    (is_explained number ≡ true) × (IsNumber word number ⊎ (word ≡ name_of number))

-- it asks for none
abbrev pub AsksForNone : List ℕ → Type 0
AsksForNone word = (number : ℕ) → AsksFor word number → ⊥
