-- The first argument that doesn't fit its column, looked for from the front.
use Rattle.std.proofs.Common.{◌≡◌, ℕ, suc, ◌+◌, ◌<◌, ◌∙◌, sym, ap, Bool, true, false, not, List, ◌∷◌, length, drop, get_or, refl, arith, Some, None, add-one, drop-cons}
use Rattle.std.proofs.lemmas.List.{drop_all}
use Rattle.std.specs.List.{position_from}
use Rattle.tatp_calls.specs.declared.call.Call.{Call}
use Rattle.tatp_calls.specs.declared.call.Call.TheVariants.{GetSubscriberData, GetNewDestination, GetAccessData, UpdateSubscriberData, UpdateLocation, InsertCallForwarding, DeleteCallForwarding}
use Rattle.tatp_calls.specs.Calls.{arguments_of}
use Rattle.tatp_calls.specs.Arguments.{columns_of, fits, fitting, first_bad}

-- a call has a column for each argument
pub one_each : (call : Call) → length (columns_of call) ≡ length (arguments_of call)
one_each (GetSubscriberData s) = refl
one_each (GetNewDestination s t b e) = refl
one_each (GetAccessData s t) = refl
one_each (UpdateSubscriberData s x t y) = refl
one_each (UpdateLocation n v) = refl
one_each (InsertCallForwarding n t b e x) = refl
one_each (DeleteCallForwarding n t b) = refl

-- the first that doesn't fit stands at place i or later
abbrev pub NoneBefore : List ℕ → List ℕ → ℕ → Type 0
NoneBefore columns arguments i = first_bad (fitting columns arguments) ≡ position_from not i (fitting (drop i columns) (drop i arguments))

module _ (columns arguments : List ℕ) (i : ℕ) (so_far : NoneBefore columns arguments i) where
  next_is : (fit : Bool) → length columns ≡ length arguments → i < length columns → fits (get_or columns i 0) (get_or arguments i 0) ≡ fit
      → first_bad (fitting columns arguments) ≡ position_from not i (fit ∷ fitting (drop (suc i) columns) (drop (suc i) arguments))
  next_is fit same lt e =
      so_far ∙ (λ j. position_from not i (fitting (drop-cons columns i 0 lt j) (drop-cons arguments i 0 (omega (arith, same, lt)) j)))
      ∙ ap (λ b. position_from not i (b ∷ fitting (drop (suc i) columns) (drop (suc i) arguments))) e

  pub one_fits : length columns ≡ length arguments → i < length columns → fits (get_or columns i 0) (get_or arguments i 0) ≡ true → NoneBefore columns arguments (i + 1)
  one_fits same lt e = next_is true same lt e ∙ ap (λ n. position_from not (i + 1) (fitting (drop n columns) (drop n arguments))) (sym (add-one i))

  pub bad_found : length columns ≡ length arguments → i < length columns → fits (get_or columns i 0) (get_or arguments i 0) ≡ false → Some i ≡ first_bad (fitting columns arguments)
  bad_found same lt e = sym (next_is false same lt e)

  pub none_bad : i ≡ length columns → None ≡ first_bad (fitting columns arguments)
  none_bad end = sym (so_far ∙ ap (λ cs. position_from not i (fitting cs (drop i arguments))) (drop_all i columns (omega (arith, end))))
