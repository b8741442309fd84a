-- The line of a reply: docs/FORMATS.md.
use Rattle.std.specs.Prelude.{ℕ, List, [], ◌++◌, replicate, codes, decimal}
use Rattle.std.specs.List.{range_with_len}
use Rattle.tatp_limits.specs.declared.limits.TheConstants.{MAX_OUTPUTS}
use Rattle.tatp_instr.specs.Traps.{trap_name}
use Rattle.tatp_calls.specs.declared.call.Call.{Call}
use Rattle.tatp_calls.specs.declared.call.Call.TheVariants.{GetSubscriberData, GetNewDestination, GetAccessData, UpdateSubscriberData, UpdateLocation, InsertCallForwarding, DeleteCallForwarding}
use Rattle.tatp_calls.specs.declared.ask.Ask.{Ask}
use Rattle.tatp_calls.specs.declared.ask.Ask.TheVariants.{Txn, Raw}
use Rattle.tatp_calls.specs.declared.reply.Reply.{Reply}
use Rattle.tatp_calls.specs.declared.reply.Reply.TheVariants.{Values, Failed, Trapped, Refused}
use Rattle.tatp_calls.specs.Arguments.{numberx}
use Rattle.tatp_calls.specs.ValuesText.{values_text}

-- the columns that a transaction answers: those of a Subscriber row; as many numbers as a reply may
-- have; data1 to data4
abbrev pub answer_columns : Call → List ℕ
answer_columns (GetSubscriberData s) = range_with_len 0 34
answer_columns (GetNewDestination s t b e) = replicate MAX_OUTPUTS numberx
answer_columns (GetAccessData s t) = range_with_len 36 4
answer_columns (UpdateSubscriberData s x t y) = []
answer_columns (UpdateLocation n v) = []
answer_columns (InsertCallForwarding n t b e x) = []
answer_columns (DeleteCallForwarding n t b) = []

-- the columns in whose forms a reply's values are
abbrev pub reply_columns : Ask → List ℕ
reply_columns (Txn call) = answer_columns call
reply_columns (Raw call) = []

-- the line of a reply
abbrev pub reply_text : Ask → Reply → List ℕ
reply_text ask (Values values) = codes "OK" ++ values_text (reply_columns ask) values
reply_text ask (Failed n) = codes "FAILED " ++ decimal n
reply_text ask (Trapped trap) = codes "TRAPPED " ++ trap_name trap
reply_text ask Refused = codes "REFUSED 46 NoMemory"
