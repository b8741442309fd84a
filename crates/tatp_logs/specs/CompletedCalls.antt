-- Completed calls, as they are kept: their arguments and outputs are in one list.
use Rattle.std.specs.Prelude.{ℕ, ◌+◌, ◌-◌, ◌/◌, List, All, map, min, vec_len, Vec}
use Rattle.std.specs.Vec.{vec_capacity}
use Rattle.std.specs.declared.alloc.Global.{Global}
use Rattle.tatp_limits.specs.declared.limits.TheConstants.{MAX_ARGUMENTS, MAX_OUTPUTS}
use Rattle.tatp_calls.specs.declared.entry.Entry.{Entry}
use Rattle.tatp_logs.specs.KeptReplies.{StandsIn, reply_in}
use Rattle.tatp_logs.specs.declared.completed_call.CompletedCall.{CompletedCall}
use Rattle.tatp_logs.specs.Completions.{CompletionsState}
use Rattle.tatp_logs.specs.KeptAsks.{HasArgumentsIn, ask_in}

-- the arguments and the outputs of the call are in this list
abbrev pub StandsWith : List ℕ → CompletedCall → Type 0
StandsWith values x = HasArgumentsIn values x.ask × StandsIn values x.reply

abbrev pub AllStand : List ℕ → List CompletedCall → Type 0
AllStand values calls = All (StandsWith values) calls

-- the entry whose arguments and outputs are in this list
abbrev pub entry_in : List ℕ → CompletedCall → Entry
entry_in values x = record {
  client = x.client;
  number = x.number;
  ask = ask_in values x.ask;
  reply = reply_in values x.reply;
  stamp = x.stamp;
}

-- how many more calls fit, where memory for these numbers of calls and of values is reserved
abbrev pub room_for : ℕ → ℕ → ℕ
room_for calls values = min calls (values / (MAX_OUTPUTS + MAX_ARGUMENTS))

-- these calls, whose arguments and outputs are in this list
abbrev pub completions_of_calls : Vec CompletedCall Global → Vec ℕ Global → CompletionsState
completions_of_calls calls values = record {
  entries = map (entry_in values.items) calls.items;
  room = room_for (vec_capacity calls - vec_len calls) (vec_capacity values - vec_len values);
}
