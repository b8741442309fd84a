use Rattle.std.proofs.Common.{◌≡◌, ℕ, ◌+◌, ◌-◌, ◌/◌, ◌≤◌, IfOk, subst, arith}
use Rattle.std.specs.Prelude.{Result, Vec}
use Rattle.std.specs.declared.alloc.AllocError.{AllocError}
use Rattle.std.specs.declared.alloc.Global.{Global}
use Rattle.tatp_calls.specs.declared.ask.Ask.{Ask}
use Rattle.tatp_logs.specs.Lists.{lists_of}
use Rattle.tatp_workload.specs.Drawn.{client_calls, calls_of_clients}
use Rattle.tatp_workload.proofs.DrawnLaws.{both_halves}
use Rattle.tatp_workload.proofs.calls.+halves.Goals as goal

pub returns : goal.returns
returns g t c =
    let plan = c.args.plan.now in
    let middle : ℕ = c.args.from + (c.args.to - c.args.from) / 2 in
    let low : c.args.from ≤ middle = omega arith in
    let high : middle ≤ c.args.to = omega arith in
    let first : lists_of c.in_ok-lists.lists.items ≡ calls_of_clients plan c.args.from middle =
    subst (λ (r : Result (Vec (Vec Ask Global) Global) AllocError). IfOk r (λ lists. lists_of lists.items ≡ calls_of_clients plan c.args.from middle)) c.in_ok-lists.was c.join-front.ensures.first in
    let second : lists_of c.in_ok-rest.rest.items ≡ calls_of_clients plan middle c.args.to =
    subst (λ (r : Result (Vec (Vec Ask Global) Global) AllocError). IfOk r (λ lists. lists_of lists.items ≡ calls_of_clients plan middle c.args.to)) c.in_ok-rest.was c.join-front.ensures.second in
    both_halves (client_calls plan) c.args.from middle c.args.to c.in_ok-lists.lists.items c.in_ok-rest.rest.items c.append.new.self.items low high first second c.in_ok-append.ensures.items
