-- The lines that are told of unexplained calls.
use Rattle.std.proofs.Common.{◌≡◌, ℕ, zero, suc, ◌-◌, ◌≤◌, ◌⊎◌, sym, subst, nat_le, List, [], ◌∷◌, length, filter, slice_get, take, arith, Some, inl, inr}
use Rattle.std.specs.List.{All, AllByRecursion}
use Rattle.std.proofs.lemmas.Bool.{cases_lt}
use Rattle.tatp_tables.specs.Database.{Database}
use Rattle.tatp_history.specs.declared.line.Line.{Line}
use Rattle.tatp_judge.specs.declared.judge.Judge.{Judge}
use Rattle.tatp_judge.specs.declared.window.Window.{Window}
use Rattle.tatp_judge.specs.Explained.{AreWindowNumbers}
use Rattle.tatp_judge.specs.Followed.{HasKept}
use Rattle.tatp_judge.specs.Verdicts.{IsAside, IsUnexplained}
use Rattle.tatp_judge.specs.Windows.{IsSpent, IsWindowAfter}
use Rattle.tatp_judge.proofs.ClosingLaws.{begins_after}
use Rattle.tatp_judge.proofs.FirstLinesLaws.{taken}
use Rattle.tatp_judge.proofs.NumberLaws.{since_within, window_told}
use Rattle.tatp_judge.proofs.SearchLaws.{none_explained, there_or_not}

-- the subscriber is there
pub named_there : (u : Database) (lines : List Line) (judge : Judge) (line s : ℕ) → HasKept u lines judge → IsUnexplained u lines line (Some s) → (1 ≤ s) × (s ≤ length judge.windows.items)
named_there u lines judge line s kept fails = elim (there_or_not s (length judge.windows.items)) [
  | inl there ↦ there
  | inr out ↦ absurd (fails (none_explained u (length judge.windows.items) judge.directory s (take line lines) kept.searchable.read.directory_is out))
]

numbers_of : (u : Database) (most s : ℕ) (lines : List Line) (line : ℕ) (w : Window) → line ≤ length lines → IsUnexplained u lines line (Some s) → IsWindowAfter u most s lines w ⊎ IsSpent u s lines w → AreWindowNumbers u s (take line lines) (filter (λ n. nat_le n line) w.numbers.items)
numbers_of u most s lines line w within fails kept = elim kept [
  | inl window ↦ window_told u s lines line w window.numbers (begins_after u most s lines w window line within fails) within
  | inr spent ↦ elim (cases_lt line (length lines)) [
    | inl lt ↦ absurd (fails (spent.before line lt within))
    | inr last ↦ window_told u s lines line w spent.numbers (omega (arith, spent.began, last)) within
  ]
]

-- the window of a subscriber that isn't set aside
pub kept_window : (u : Database) (lines : List Line) (judge : Judge) (s : ℕ) (w : Window) (kept : HasKept u lines judge) → (IsAside judge.undecided.items s → ⊥) → 1 ≤ s → slice_get judge.windows.items (s - 1) ≡ Some w → IsWindowAfter u kept.most s lines w ⊎ IsSpent u s lines w
kept_window u lines judge s w kept other some at =
    let same : suc (s - 1) ≡ s = omega (arith, some) in
    subst (λ k. IsWindowAfter u kept.most k lines w ⊎ IsSpent u k lines w) same (elim (kept.searchable.windows_are (s - 1) w at) [
      | inl window ↦ elim window [ inl k ↦ inl k.1 | inr c ↦ absurd (other (subst (IsAside judge.undecided.items) same (kept.searchable.aside.listed (s - 1) w at c.aside))) ]
      | inr spent ↦ inr spent.3
    ])

pub numbers_told : (u : Database) (lines : List Line) (judge : Judge) (line s : ℕ) (w : Window) → HasKept u lines judge → line ≤ length lines → IsUnexplained u lines line (Some s) → (IsAside judge.undecided.items s → ⊥) → 1 ≤ s → slice_get judge.windows.items (s - 1) ≡ Some w
    → AreWindowNumbers u s (take line lines) (filter (λ n. nat_le n line) w.numbers.items)
numbers_told u lines judge line s w kept within fails other some at = numbers_of u kept.most s lines line w within fails (kept_window u lines judge s w kept other some at)

pub each_within : (P : ℕ → Type 0) (xs : List ℕ) → AllByRecursion P xs → All P xs
each_within P [] h k d lt = absurd (omega (arith, lt))
each_within P (x ∷ xs) h zero d lt = h.0
each_within P (x ∷ xs) h (suc k) d lt = each_within P xs h.1 k d (omega (arith, lt))

pub numbers_within : (u : Database) (s : ℕ) (lines : List Line) (line : ℕ) (numbers : List ℕ) → line ≤ length lines → AreWindowNumbers u s (take line lines) numbers → AllByRecursion (λ n. (1 ≤ n) × (n ≤ line)) numbers
numbers_within u s lines line numbers within are =
    let count : length (take line lines) ≡ line = taken line lines within in
    subst (AllByRecursion (λ n. (1 ≤ n) × (n ≤ line))) (sym are.numbers_are) (since_within u s are.from (take line lines) line (omega (arith, count)))
