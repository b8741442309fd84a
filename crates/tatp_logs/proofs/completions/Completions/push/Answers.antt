use Rattle.std.proofs.Common.{ap}
use Rattle.tatp_logs.specs.Completions.{CompletionsState}
use Rattle.tatp_logs.specs.CompletedCalls.{StandsWith, entry_in}
use Rattle.tatp_logs.proofs.KeptListLaws.{pushed}
use Rattle.tatp_logs.proofs.CompletedCallLaws.{same_entry, twice_behind, still_asks}
use Rattle.tatp_logs.proofs.completions.Completions.push.Goals as goal

pub returns-clause-entries : goal.returns-clause-entries
returns-clause-entries c =
    let entry = c.args.entry.now in
    let values = c.self.inside.values.items in
    let between = c.keep-ask.new.values.items in
    let values' = c.keep-reply.new.outputs.items in
    let asked = still_asks between values' c.keep-ask.result entry.ask c.keep-ask.ensures.stands c.keep-reply.ensures.behind c.keep-ask.ensures.ask in
    pushed StandsWith entry_in same_entry values values' c.self.inside.calls.items c.push_reserved.new.self.items c.args.self.now.entries entry
    (record { client = entry.client; number = entry.number; ask = c.keep-ask.result; reply = c.keep-reply.result; stamp = entry.stamp })
    c.self.invariant (twice_behind values between values' c.keep-ask.ensures.behind c.keep-reply.ensures.behind) c.push_reserved.ensures.items (ap (λ (x : CompletionsState). x.entries) c.self.view_is)
    (λ i. record { client = entry.client; number = entry.number; ask = asked i; reply = c.keep-reply.ensures.reply i; stamp = entry.stamp })
