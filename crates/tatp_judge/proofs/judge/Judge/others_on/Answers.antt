use Rattle.std.proofs.Common.{◌≡◌, ◌-◌, suc, ap, sym, cond, Some, None, refl, true, arith, ◌∙◌}
use Rattle.tatp_history.specs.Locality.{is_this}
use Rattle.tatp_judge.specs.Asked.{asked_on}
use Rattle.tatp_judge.specs.Steps.{fewer}
use Rattle.tatp_judge.proofs.CountedLaws.{others_there}
use Rattle.tatp_judge.proofs.JudgeLaws.{waits_there}
use Rattle.tatp_judge.proofs.PlaceLaws.{found_at}
use Rattle.tatp_judge.proofs.judge.Judge.others_on.Goals as goal

pub overflow_sub-result : goal.overflow_sub-result
overflow_sub-result c =
    let q = c.requires.followed in
    let s = c.args.s_id in
    let within = c.requires.within in
    let same : suc (s - 1) ≡ s = omega (arith, within.0) in
    let on : is_this s c.in-Some.asked.now.s_id ≡ true = sym c.is_on.ensures ∙ c.if-is_on.true in
    waits_there q.0 q.1 q.2 c.args.self.now c.args.client (Some c.in-Some.asked.now) q.3.noted c.in-Some.ensures.value (s - 1) c.index.result.now c.in-Some.asked.now.number
    (ap (λ k. asked_on k (Some c.in-Some.asked.now)) same ∙ ap (λ b. cond b (Some c.in-Some.asked.now.number) None) on)
    (found_at c.args.self.now.windows.items (s - 1) c.index.result.now (omega (arith, within.0, within.1)) c.index.ensures)

pub returns-then-is_on : goal.returns-then-is_on
returns-then-is_on c = λ u most lines is.
    let s = c.args.s_id in
    let within = c.requires.within in
    let w = c.index.result.now in
    let asked = c.in-Some.asked.now in
    others_there u most lines c.args.self.now c.args.client s (w.waiting - 1) (Some asked) w is within.0 within.1
    (found_at c.args.self.now.windows.items (s - 1) w (omega (arith, within.0, within.1)) c.index.ensures) c.in-Some.ensures.value
    (sym (ap (λ b. fewer (cond b (Some asked.number) None) w.waiting) (sym c.is_on.ensures ∙ c.if-is_on.true)))

pub returns-else-is_on : goal.returns-else-is_on
returns-else-is_on c = λ u most lines is.
    let s = c.args.s_id in
    let within = c.requires.within in
    let w = c.index.result.now in
    let asked = c.in-Some.asked.now in
    others_there u most lines c.args.self.now c.args.client s w.waiting (Some asked) w is within.0 within.1
    (found_at c.args.self.now.windows.items (s - 1) w (omega (arith, within.0, within.1)) c.index.ensures) c.in-Some.ensures.value
    (sym (ap (λ b. fewer (cond b (Some asked.number) None) w.waiting) (sym c.is_on.ensures ∙ c.if-is_on.false)))

pub returns-in-None : goal.returns-in-None
returns-in-None c = λ u most lines is.
    let s = c.args.s_id in
    let within = c.requires.within in
    let w = c.index.result.now in
    others_there u most lines c.args.self.now c.args.client s w.waiting None w is within.0 within.1
    (found_at c.args.self.now.windows.items (s - 1) w (omega (arith, within.0, within.1)) c.index.ensures) c.in-None.ensures.value refl
