-- Options that take a number, among what the words of a command give.
use Rattle.std.specs.Prelude.{ℕ, ◌≤◌, Bool, List, Option, Some, None, option_map, IfSome}
use Rattle.std.specs.Option.{option_or}
use Rattle.std.specs.Str.Parse.{IsNumeral, digits_value}
use Rattle.clap.specs.Walk.{Row, first_of}
use Rattle.tatp_command_line.specs.declared.options.NumberOption.{NumberOption}

-- ---- texts
-- the text is digits alone, and their number lies in the range
abbrev pub IsNumberIn : ℕ → ℕ → List ℕ → Type 0
IsNumberIn least most text =
    IsNumeral 10 text × (least ≤ digits_value 10 text) × (digits_value 10 text ≤ most)

-- the same, where there is a text, and there has to be one
abbrev pub IsGivenIn : ℕ → ℕ → Option (List ℕ) → Type 0
IsGivenIn least most None = ⊥
IsGivenIn least most (Some text) = IsNumberIn least most text

abbrev pub number_given : Option (List ℕ) → ℕ
number_given None = 0
number_given (Some text) = digits_value 10 text

-- ---- options
-- an option: its name; its least and its greatest number; what counts where it isn't given; and
-- whether it has to be given
pub record Ranged : Type 0 where
  pub name : List ℕ
  pub least : ℕ
  pub most : ℕ
  pub default : Option (List ℕ)
  pub required : Bool

abbrev pub asked_by : NumberOption → Ranged
asked_by option = record {
  name = option.name.now;
  least = option.least;
  most = option.most;
  default = option_map (λ text. text.now) option.default;
  required = option.required;
}

abbrev pub text_asked : Ranged → List Row → Option (List ℕ)
text_asked option given = option_or (first_of option.name given) option.default

-- the option has a number in its range
abbrev pub HasNumber : Ranged → List Row → Type 0
HasNumber option given = IsGivenIn option.least option.most (text_asked option given)

abbrev pub number_asked : Ranged → List Row → ℕ
number_asked option given = number_given (text_asked option given)

-- the same, of an option that needn't be given
abbrev pub HasNumberIfGiven : Ranged → List Row → Type 0
HasNumberIfGiven option given =
    IfSome (first_of option.name given) (IsNumberIn option.least option.most)

abbrev pub number_if_given : Ranged → List Row → Option ℕ
number_if_given option given = option_map (digits_value 10) (first_of option.name given)
