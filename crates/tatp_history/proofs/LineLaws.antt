-- Lines of a history, and the calls that they tell of.
use Rattle.std.proofs.Common.{◌≡◌, ℕ, suc, ◌+◌, ◌<◌, ◌≤◌, ◌==◌, nat_le, true, false, cond, List, [], ◌∷◌, ◌++◌, length, map, filter, refl, ◌∙◌, ap, arith, le_refl, leb-true, le-leb}
use Rattle.std.specs.List.{AllByRecursion}
use Rattle.tatp_history.specs.declared.line.Line.{Line}
use Rattle.tatp_history.specs.declared.line.Line.TheVariants.{Ask, End, Abort, Lost}
use Rattle.tatp_history.specs.declared.observed.Outcome.{Outcome}
use Rattle.tatp_history.specs.declared.observed.Outcome.TheVariants.{Answered, Aborted, Unknown}
use Rattle.tatp_history.specs.declared.observed.Observed.{Observed}
use Rattle.tatp_history.specs.Histories.{IsAnsweredBefore, AreAskedApart}
use Rattle.tatp_history.specs.HistoryLines.{client_of, end_at, end_of, call_at, calls_from, AreAcceptedLines}
use Rattle.tatp_history.specs.Locality.{AreInTime, AreAccepted, AreCalls}
use Rattle.tatp_history.specs.Prefixes.{outcome_by, call_by, calls_by}
use Rattle.tatp_history.proofs.OrderLaws.{all_map}

-- ---- how a call ends
-- its end came at this number or later, if it came
abbrev pub EndsFrom : ℕ → Outcome → Type 0
EndsFrom number (Answered at recorded) = number ≤ at
EndsFrom number (Aborted at) = number ≤ at
EndsFrom number Unknown = Unit {0}

ends_sooner : (number : ℕ) (o : Outcome) → EndsFrom (suc number) o → EndsFrom number o
ends_sooner number (Answered at recorded) h = omega (arith, h)
ends_sooner number (Aborted at) h = omega (arith, h)
ends_sooner number Unknown h = tt

end_at_from : (number : ℕ) (line : Line) → EndsFrom number (end_at number line)
end_at_from number (Ask client call) = tt
end_at_from number (End client recorded) = le_refl number
end_at_from number (Abort client) = le_refl number
end_at_from number (Lost client) = tt

pub end_of_from : (client number : ℕ) (lines : List Line) → EndsFrom number (end_of client number lines)
end_of_from client number [] = tt
end_of_from client number (line ∷ more) = elim (client_of line == client) as (λ b. EndsFrom number (cond b (end_at number line) (end_of client (suc number) more))) [
  | true ↦ end_at_from number line
  | false ↦ ends_sooner number (end_of client (suc number) more) (end_of_from client (suc number) more)
]

not_before : (number : ℕ) (o : Outcome) → EndsFrom (suc number) o → IsAnsweredBefore number o → ⊥
not_before number (Answered at recorded) h k = omega (arith, h, k)
not_before number (Aborted at) h k = k
not_before number Unknown h k = k

-- ---- calls
abbrev pub AreAskedFrom : ℕ → List Observed → Type 0
AreAskedFrom number calls = AllByRecursion (λ (x : Observed). number ≤ x.asked) calls

asked_sooner : (number : ℕ) (calls : List Observed) → AreAskedFrom (suc number) calls → AreAskedFrom number calls
asked_sooner number calls h = all_map (λ (x : Observed). suc number ≤ x.asked) (λ (x : Observed). number ≤ x.asked) (λ x k. omega (arith, k)) calls h

pub asked_from : (number : ℕ) (lines : List Line) → AreAskedFrom number (calls_from number lines)
asked_from number [] = tt
asked_from number (Ask client call ∷ more) = (le_refl number, asked_sooner number (calls_from (suc number) more) (asked_from (suc number) more))
asked_from number (End client recorded ∷ more) = asked_sooner number (calls_from (suc number) more) (asked_from (suc number) more)
asked_from number (Abort client ∷ more) = asked_sooner number (calls_from (suc number) more) (asked_from (suc number) more)
asked_from number (Lost client ∷ more) = asked_sooner number (calls_from (suc number) more) (asked_from (suc number) more)

calls_apart : (number : ℕ) (lines : List Line) → AreAskedApart (calls_from number lines)
calls_apart number [] = tt
calls_apart number (Ask client call ∷ more) = (
  all_map (λ (x : Observed). suc number ≤ x.asked) (λ (x : Observed). number ≡ x.asked → ⊥) (λ x h e. omega (arith, h, e)) (calls_from (suc number) more) (asked_from (suc number) more),
  calls_apart (suc number) more,
)
calls_apart number (End client recorded ∷ more) = calls_apart (suc number) more
calls_apart number (Abort client ∷ more) = calls_apart (suc number) more
calls_apart number (Lost client ∷ more) = calls_apart (suc number) more

pub calls_in_time : (number : ℕ) (lines : List Line) → AreInTime (calls_from number lines)
calls_in_time number [] = tt
calls_in_time number (Ask client call ∷ more) = (
  not_before number (end_of client (suc number) more) (end_of_from client (suc number) more),
  calls_in_time (suc number) more,
)
calls_in_time number (End client recorded ∷ more) = calls_in_time (suc number) more
calls_in_time number (Abort client ∷ more) = calls_in_time (suc number) more
calls_in_time number (Lost client ∷ more) = calls_in_time (suc number) more

calls_accepted : (number : ℕ) (lines : List Line) → AreAcceptedLines lines → AreAccepted (calls_from number lines)
calls_accepted number [] h = tt
calls_accepted number (Ask client call ∷ more) h = (h.0, calls_accepted (suc number) more h.1)
calls_accepted number (End client recorded ∷ more) h = calls_accepted (suc number) more h
calls_accepted number (Abort client ∷ more) h = calls_accepted (suc number) more h
calls_accepted number (Lost client ∷ more) h = calls_accepted (suc number) more h

pub are_calls : (number : ℕ) (lines : List Line) → AreAcceptedLines lines → AreCalls (calls_from number lines)
are_calls number lines h = record { apart = calls_apart number lines; in_time = calls_in_time number lines; accepted = calls_accepted number lines h }

-- ---- the first lines
late : (time number : ℕ) (o : Outcome) → time < number → EndsFrom number o → outcome_by time o ≡ Unknown
late time number (Answered at recorded) lt from = elim (nat_le at time) as (λ b. nat_le at time ≡ b → cond b (Answered at recorded) Unknown ≡ Unknown) [
  | true ↦ λ e. let le : at ≤ time = leb-true at time e in absurd (omega (arith, lt, from, le))
  | false ↦ λ e. refl
] refl
late time number (Aborted at) lt from = elim (nat_le at time) as (λ b. nat_le at time ≡ b → cond b (Aborted at) Unknown ≡ Unknown) [
  | true ↦ λ e. let le : at ≤ time = leb-true at time e in absurd (omega (arith, lt, from, le))
  | false ↦ λ e. refl
] refl
late time number Unknown lt from = refl

early : (time number : ℕ) (line : Line) → number ≤ time → outcome_by time (end_at number line) ≡ end_at number line
early time number (Ask client call) le = refl
early time number (End client recorded) le = ap (λ b. cond b (Answered number recorded) Unknown) (le-leb number time le)
early time number (Abort client) le = ap (λ b. cond b (Aborted number) Unknown) (le-leb number time le)
early time number (Lost client) le = refl

end_by : (first second : List Line) (client number time : ℕ) → number + length first ≡ suc time → outcome_by time (end_of client number (first ++ second)) ≡ end_of client number first
end_by [] second client number time n = late time number (end_of client number second) (omega (arith, n)) (end_of_from client number second)
end_by (line ∷ more) second client number time n =
    let m : number + suc (length more) ≡ suc time = n in
    elim (client_of line == client) as (λ b. outcome_by time (cond b (end_at number line) (end_of client (suc number) (more ++ second))) ≡ cond b (end_at number line) (end_of client (suc number) more)) [
      | true ↦ early time number line (omega (arith, m))
      | false ↦ end_by more second client (suc number) time (omega (arith, m))
    ]

none_by : (time : ℕ) (calls : List Observed) → AreAskedFrom (suc time) calls → calls_by time calls ≡ []
none_by time [] h = refl
none_by time (x ∷ xs) h = elim (nat_le x.asked time) as (λ b. nat_le x.asked time ≡ b → map (call_by time) (cond b (x ∷ filter (λ (y : Observed). nat_le y.asked time) xs) (filter (λ (y : Observed). nat_le y.asked time) xs)) ≡ []) [
  | true ↦ λ e. let le : x.asked ≤ time = leb-true x.asked time e in let from : suc time ≤ x.asked = h.0 in absurd (omega (arith, le, from))
  | false ↦ λ e. none_by time xs h.1
] refl

-- what the first lines tell is what clients had seen by the last of them
pub calls_of_first : (first second : List Line) (number time : ℕ) → number + length first ≡ suc time → calls_by time (calls_from number (first ++ second)) ≡ calls_from number first
calls_of_first [] second number time n = none_by time (calls_from number second)
    (all_map (λ (x : Observed). number ≤ x.asked) (λ (x : Observed). suc time ≤ x.asked) (λ x h. omega (arith, h, n)) (calls_from number second) (asked_from number second))
calls_of_first (Ask client call ∷ more) second number time n =
    let m : number + suc (length more) ≡ suc time = n in
    let le : number ≤ time = omega (arith, m) in
    let x : Observed = call_at number client call (more ++ second) in
    let others : List Observed = filter (λ (y : Observed). nat_le y.asked time) (calls_from (suc number) (more ++ second)) in
    let own : call_by time x ≡ call_at number client call more = ap (λ o. record { asked = number; call = call; outcome = o }) (end_by more second client (suc number) time (omega (arith, m))) in
    let rest : calls_by time (calls_from (suc number) (more ++ second)) ≡ calls_from (suc number) more = calls_of_first more second (suc number) time (omega (arith, m)) in
    ap (λ b. map (call_by time) (cond b (x ∷ others) others)) (le-leb number time le) ∙ (λ i. own i ∷ rest i)
calls_of_first (End client recorded ∷ more) second number time n = let m : number + suc (length more) ≡ suc time = n in calls_of_first more second (suc number) time (omega (arith, m))
calls_of_first (Abort client ∷ more) second number time n = let m : number + suc (length more) ≡ suc time = n in calls_of_first more second (suc number) time (omega (arith, m))
calls_of_first (Lost client ∷ more) second number time n = let m : number + suc (length more) ≡ suc time = n in calls_of_first more second (suc number) time (omega (arith, m))
