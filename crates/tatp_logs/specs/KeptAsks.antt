-- What was asked, as it is kept: the arguments of a call that is no transaction are in one list.
use Rattle.std.specs.Prelude.{ℕ, ◌+◌, ◌≤◌, List, length, slice_range}
use Rattle.tatp_limits.specs.declared.limits.TheConstants.{MAX_ARGUMENTS}
use Rattle.tatp_calls.specs.declared.ask.Ask.{Ask}
use Rattle.tatp_calls.specs.declared.ask.Ask.TheVariants as ask
use Rattle.tatp_logs.specs.declared.kept_ask.KeptAsk.{KeptAsk}
use Rattle.tatp_logs.specs.declared.kept_ask.KeptAsk.TheVariants.{Txn, Raw}

-- the arguments are in this list
abbrev pub HasArgumentsIn : List ℕ → KeptAsk → Type 0
HasArgumentsIn values (Txn call) = Unit {0}
HasArgumentsIn values (Raw procedure key first count) =
    (first + count ≤ length values) × (count ≤ MAX_ARGUMENTS)

-- what was asked, where the arguments are in this list
abbrev pub ask_in : List ℕ → KeptAsk → Ask
ask_in values (Txn call) = ask.Txn call
ask_in values (Raw procedure key first count) = ask.Raw (record {
  procedure = procedure;
  arguments = slice_range values first (first + count);
  key = key;
})
