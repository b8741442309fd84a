-- Numbers of lines, kept as runs of numbers each of which is one more than the one before.
use Rattle.std.specs.Prelude.{◌≡◌, ℕ, zero, suc, ◌+◌, ◌<◌, ◌≤◌, ◌^◌, List, [], ◌∷◌, ◌++◌, length}
use Rattle.std.specs.List.{AllByRecursion}
use Rattle.tatp_judged_inputs.specs.declared.line_numbers.Run.{Run}

-- what contracts see of them
pub record NumberList : Type 0 where
  pub items : List ℕ

abbrev pub count_from : ℕ → ℕ → List ℕ
count_from number zero = []
count_from number (suc n) = number ∷ count_from (suc number) n

-- the numbers of the runs
abbrev pub numbers_in : List Run → List ℕ
numbers_in [] = []
numbers_in (run ∷ more) = count_from run.first run.count ++ numbers_in more

abbrev pub AreFit : List Run → Type 0
AreFit runs = AllByRecursion (λ (run : Run). run.first + run.count ≤ 2 ^ 64) runs

-- the runs hold `count` numbers in all, each of which fits
pub record HoldNumbers (runs : List Run) (count : ℕ) : Type 0 where
  pub fit : AreFit runs
  pub all : length (numbers_in runs) ≡ count
  pub few : count + 2 < 2 ^ 64
