-- Logs, as they are kept: calls, whose outputs are in one list.
use Rattle.std.specs.Prelude.{ℕ, ◌-◌, List, All, map, vec_len, Vec}
use Rattle.std.specs.Vec.{vec_capacity}
use Rattle.std.specs.declared.alloc.Global.{Global}
use Rattle.tatp_calls.specs.declared.ask.Ask.TheVariants.{Txn}
use Rattle.tatp_calls.specs.declared.entry.Entry.{Entry}
use Rattle.tatp_logs.specs.declared.log.LoggedCall.{LoggedCall}
use Rattle.tatp_logs.specs.Logs.{LogState}
use Rattle.tatp_logs.specs.KeptReplies.{StandsIn, reply_in, room_in}

-- the outputs of all replies are in this list
abbrev pub AllStand : List ℕ → List LoggedCall → Type 0
AllStand outputs calls = All (λ (x : LoggedCall). StandsIn outputs x.reply) calls

-- the entry whose outputs are in this list
abbrev pub entry_in : List ℕ → LoggedCall → Entry
entry_in outputs x = record {
  client = x.client;
  number = x.number;
  ask = Txn x.call;
  reply = reply_in outputs x.reply;
  stamp = x.stamp;
}

-- the log of these calls, whose outputs are in this list, after that stamp
abbrev pub log_of_calls : ℕ → Vec LoggedCall Global → Vec ℕ Global → LogState
log_of_calls kept_stamp calls outputs = record {
  kept_stamp = kept_stamp;
  entries = map (entry_in outputs.items) calls.items;
  room = room_in (vec_capacity calls - vec_len calls) (vec_capacity outputs - vec_len outputs);
}
