-- What lines say of a part, line by line.
use Rattle.std.proofs.Common.{◌≡◌, ℕ, zero, suc, true, false, cond, List, [], ◌∷◌, ◌++◌, length, take, refl, ap}
use Rattle.tatp_history.specs.declared.line.Line.{Line}
use Rattle.tatp_history.specs.declared.line.Line.TheVariants.{Ask, End, Abort, Lost}
use Rattle.tatp_history.specs.Locality.{subscriber_of}
use Rattle.tatp_judge.specs.Accepted.{IsAcceptedLine}
use Rattle.tatp_judge.specs.Parts.{is_of_part, line_of_part}
use Rattle.tatp_judged_inputs.specs.Views.{View, seen}

pub seen_length : (v : View) (lines : List Line) → length (seen v lines) ≡ length lines
seen_length v [] = refl
seen_length v (line ∷ more) = ap suc (seen_length v more)

pub seen_both : (v : View) (first second : List Line) → seen v (first ++ second) ≡ seen v first ++ seen v second
seen_both v [] second = refl
seen_both v (line ∷ first) second = ap (λ ls. line_of_part v.rows v.part line ∷ ls) (seen_both v first second)

pub seen_take : (v : View) (n : ℕ) (lines : List Line) → take n (seen v lines) ≡ seen v (take n lines)
seen_take v zero lines = refl
seen_take v (suc n) [] = refl
seen_take v (suc n) (line ∷ more) = ap (λ ls. line_of_part v.rows v.part line ∷ ls) (seen_take v n more)

pub seen_accepted : (v : View) (line : Line) → IsAcceptedLine line → IsAcceptedLine (line_of_part v.rows v.part line)
seen_accepted v (Ask client call) h = elim (is_of_part v.part (subscriber_of v.rows call)) as (λ b. IsAcceptedLine (cond b (Ask client call) (Lost client))) [
  | true ↦ h
  | false ↦ tt
]
seen_accepted v (End client recorded) h = tt
seen_accepted v (Abort client) h = tt
seen_accepted v (Lost client) h = tt
