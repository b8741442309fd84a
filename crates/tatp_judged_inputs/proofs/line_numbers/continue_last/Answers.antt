use Rattle.std.proofs.Common.{◌≡◌, ℕ, suc, ◌+◌, ◌-◌, ◌<◌, [], ◌∷◌, ◌++◌, length, Some, slice_get, ◌∙◌, ap, subst, arith}
use Rattle.tatp_judge.proofs.PlaceLaws.{found_at}
use Rattle.tatp_judged_inputs.specs.declared.line_numbers.Run.{Run}
use Rattle.tatp_judged_inputs.specs.LineNumbers.{numbers_in}
use Rattle.tatp_judged_inputs.proofs.NumbersLaws.{last_longer, one_run}
use Rattle.tatp_judged_inputs.proofs.line_numbers.continue_last.Goals as goal

pub returns-clause-more : goal.returns-clause-more
returns-clause-more c = λ _.
    let runs = c.args.runs.now.items in
    let i : ℕ = c.len-count.result - 1 in
    let run : Run = c.index_mut.result.now in
    let lt : i < length runs = omega (arith, c.len-count.ensures, c.if-count-eq0.false) in
    let last : suc i ≡ length runs = omega (arith, c.len-count.ensures, c.if-count-eq0.false) in
    let at : slice_get runs i ≡ Some run = found_at runs i run lt c.index_mut.ensures.value in
    let same : c.index.result.now ≡ run = one_run runs i c.index.result.now run (found_at runs i c.index.result.now lt c.index.ensures) at in
    last_longer runs i run last at ∙ ap (λ n. numbers_in runs ++ n ∷ []) (subst (λ (r : Run). r.first + r.count ≡ c.args.number) same (c.continues.ensures.next c.if-not-continues.false))
