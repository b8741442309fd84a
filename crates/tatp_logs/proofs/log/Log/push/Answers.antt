use Rattle.std.proofs.Common.{◌≡◌, sym, ap}
use Rattle.tatp_calls.specs.declared.ask.Ask.TheVariants.{Txn}
use Rattle.tatp_logs.specs.Logs.{LogState}
use Rattle.tatp_logs.specs.KeptReplies.{StandsIn}
use Rattle.tatp_logs.specs.LoggedCalls.{entry_in}
use Rattle.tatp_logs.specs.declared.log.LoggedCall.{LoggedCall}
use Rattle.tatp_logs.proofs.KeptListLaws.{pushed}
use Rattle.tatp_logs.proofs.LogLaws.{same_entry}
use Rattle.tatp_logs.proofs.log.Log.push.Goals as goal

pub returns-clause-entries : goal.returns-clause-entries
returns-clause-entries c =
    let entry = c.args.entry.now in
    let asked : Txn c.in-Txn.call ≡ entry.ask = sym c.in-Txn.is in
    pushed (λ outputs (x : LoggedCall). StandsIn outputs x.reply) entry_in same_entry
    c.self.inside.outputs.items c.keep-reply.new.outputs.items c.self.inside.calls.items c.push_reserved.new.self.items c.args.self.now.entries entry
    (record { client = entry.client; number = entry.number; call = c.in-Txn.call; reply = c.keep-reply.result; stamp = entry.stamp })
    c.self.invariant c.keep-reply.ensures.behind c.push_reserved.ensures.items (ap (λ (x : LogState). x.entries) c.self.view_is)
    (λ i. record { client = entry.client; number = entry.number; ask = asked i; reply = c.keep-reply.ensures.reply i; stamp = entry.stamp })
