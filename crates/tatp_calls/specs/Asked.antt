-- What is asked, whether a transaction or any procedure: which procedure, with which arguments, of
-- which subscriber.
use Rattle.std.specs.Prelude.{◌≡◌, ℕ, ◌==◌, Bool, true, false, Ok, List, length, map, Option, Some, None, slice_get}
use Rattle.std.specs.Option.{option_map_or}
use Rattle.std.specs.Result.{result_err}
use Rattle.tatp_encoding.specs.Modules.{Procedure, ModuleState}
use Rattle.tatp_numbers.specs.declared.key.Key.{Key}
use Rattle.tatp_calls.specs.declared.ask.Ask.{Ask}
use Rattle.tatp_calls.specs.declared.ask.Ask.TheVariants.{Txn, Raw}
use Rattle.tatp_calls.specs.declared.domains.BadArgument.{BadArgument}
use Rattle.tatp_calls.specs.Arguments.{arguments_accepted}
use Rattle.tatp_calls.specs.Calls.{procedure_of, key_of_call, arguments_of}

abbrev pub procedure_asked : Ask → ℕ
procedure_asked (Txn call) = procedure_of call
procedure_asked (Raw raw) = raw.procedure

abbrev pub arguments_asked : Ask → List ℕ
arguments_asked (Txn call) = arguments_of call
arguments_asked (Raw raw) = raw.arguments

abbrev pub key_asked : Ask → Key
key_asked (Txn call) = key_of_call call
key_asked (Raw raw) = raw.key

abbrev pub is_transaction : Ask → Bool
is_transaction (Txn call) = true
is_transaction (Raw raw) = false

-- a transaction's arguments are in their domains; those of any other call may be any numbers
abbrev pub AreInDomains : Ask → Type 0
AreInDomains (Txn call) = arguments_accepted call ≡ Ok tt
AreInDomains (Raw raw) = Unit {0}

-- how many arguments each procedure of a module takes
abbrev pub arities_of : ModuleState → List ℕ
arities_of modul = map (λ (p : Procedure). p.arity) modul.procedures

-- among procedures of these arities there is the one that is asked, and it takes as many arguments;
-- a transaction's are in their domains
pub record Fits (arities : List ℕ) (ask : Ask) : Type 0 where
  pub procedure : slice_get arities (procedure_asked ask) ≡ Some (length (arguments_asked ask))
  pub domains : AreInDomains ask

-- a module has the procedure that is asked, and it takes as many arguments
abbrev pub has_procedure : ModuleState → Ask → Bool
has_procedure modul ask =
    option_map_or
    (λ (p : Procedure). p.arity == length (arguments_asked ask))
    (slice_get modul.procedures (procedure_asked ask))
    false

-- a transaction's first argument outside its domain; those of any other call may be any numbers
abbrev pub bad_argument : Ask → Option BadArgument
bad_argument (Txn call) = result_err (arguments_accepted call)
bad_argument (Raw raw) = None
