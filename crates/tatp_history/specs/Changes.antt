-- trusted: read it
-- Calls that change nothing, given how they ended: those that only read, and those that failed.
use Rattle.std.specs.Prelude.{◌≡◌, Bool, true, false, if◌then◌else◌}
use Rattle.tatp_tables.specs.Database.{Database}
use Rattle.tatp_calls.specs.declared.call.Call.{Call}
use Rattle.tatp_calls.specs.declared.call.Call.TheVariants.{GetSubscriberData, GetNewDestination, GetAccessData, UpdateSubscriberData, UpdateLocation, InsertCallForwarding, DeleteCallForwarding}
use Rattle.tatp_calls.specs.declared.reply.Reply.{Reply}
use Rattle.tatp_calls.specs.declared.reply.Reply.TheVariants.{Values, Failed, Trapped, Refused}
use Rattle.tatp_calls.specs.Transactions.{transaction}
use Rattle.tatp_history.specs.declared.observed.Recorded.{Recorded}
use Rattle.tatp_history.specs.declared.observed.Recorded.TheVariants.{Exactly, Success, Failure}
use Rattle.tatp_history.specs.declared.observed.Outcome.{Outcome}
use Rattle.tatp_history.specs.declared.observed.Outcome.TheVariants.{Answered, Aborted, Unknown}
use Rattle.tatp_history.specs.declared.observed.Observed.{Observed}
use Rattle.tatp_history.specs.Histories.{MayHaveReply}

-- whether a call only reads
abbrev pub only_reads : Call → Bool
only_reads (GetSubscriberData s) = true
only_reads (GetNewDestination s t b e) = true
only_reads (GetAccessData s t) = true
only_reads (UpdateSubscriberData s x t y) = false
only_reads (UpdateLocation n v) = false
only_reads (InsertCallForwarding n t b e x) = false
only_reads (DeleteCallForwarding n t b) = false

abbrev pub is_failure : Reply → Bool
is_failure (Values values) = false
is_failure (Failed number) = true
is_failure (Trapped trap) = false
is_failure Refused = false

-- whether the client recorded that the call failed
abbrev pub records_failure : Recorded → Bool
records_failure (Exactly reply) = is_failure reply
records_failure Success = false
records_failure Failure = true

abbrev pub has_failed : Outcome → Bool
has_failed (Answered at recorded) = records_failure recorded
has_failed (Aborted at) = false
has_failed Unknown = false

abbrev pub changes_nothing : Observed → Bool
changes_nothing x = if only_reads x.call then true else has_failed x.outcome

-- where the call has a reply with which it may have ended so, it changes no database
abbrev pub LeavesRows : Observed → Type 0
LeavesRows x =
    (v : Database) → MayHaveReply x.outcome (transaction x.call v).reply
    → (transaction x.call v).database ≡ v
