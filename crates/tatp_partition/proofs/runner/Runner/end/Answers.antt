use Rattle.std.proofs.Common.{◌≡◌, ℕ, ◌+◌, max, Some, sym, ap, ◌∙◌}
use Rattle.tatp_calls.specs.Replies.{reply_to}
use Rattle.tatp_partition.specs.RunnerStates.{RunnerState, call_that_runs}
use Rattle.tatp_partition.proofs.RunnerLaws.{logs_pinned}
use Rattle.tatp_partition.proofs.runner.Runner.end.Goals as goal

pub set_free-requires-clause-logs : goal.set_free-requires-clause-logs
set_free-requires-clause-logs c =
    let item = c.in-Some.item in
    let pinned = c.in-Some-take.pinned in
    let r : RunnerState = record { item = item; machine = c.self.inside.machine; pinned = Some pinned } in
    let pins = sym c.take.ensures.value ∙ c.in-Some-take.is in
    let is : c.args.self.now ≡ Some r = sym c.self.view_is ∙ (λ j. call_that_runs (c.in-Some.is j) c.self.inside.machine (pins j)) in
    let stamp = c.next_stamp-stamp-in-Some-take.ensures ∙ ap (λ (last : ℕ). max item.seen last + 1) c.last_stamp-in-Some-take.ensures in
    let made = c.entry-in-Some-take.ensures _ c.fill-in-Some-take.ensures ∙ (λ j. record { client = item.client; number = item.number; ask = item.ask; reply = reply_to c.args.end (c.outputs-in-Some-take.ensures.value j); stamp = stamp j }) in
    logs_pinned c.args.self.now r pinned c.args.end c.args.standard c.is_logged-logged.result c.args.homeless.now c.entry-in-Some-take.result.now
    is (λ j. Some pinned) c.is_logged-logged.ensures made c.requires.ready
