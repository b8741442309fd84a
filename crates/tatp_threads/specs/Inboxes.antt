-- The inboxes of a run: their rule, and what is put into them and taken out of them.
use Rattle.std.specs.Prelude.{◌≡◌, ℕ, List, Bool, true, false, Option, Some, None, Vec, slice_get, slice_set}
use Rattle.std.specs.declared.alloc.Global.{Global}
use Rattle.tatp_calls.specs.Asked.{Fits}
use Rattle.tatp_calls.specs.declared.ask.Ask.{Ask}
use Rattle.tatp_partition.specs.declared.item.Item.{Item}
use Rattle.tatp_sync.specs.Inboxes.{End, with_message}
use Rattle.tatp_workers.specs.Clients.{asks_of}
use Rattle.tatp_workers.specs.declared.message.Message.{Message}
use Rattle.tatp_workers.specs.declared.message.Message.TheVariants as taken
use Rattle.tatp_threads.specs.declared.request.Request.{Request}
use Rattle.tatp_threads.specs.declared.request.InboxMessage.{InboxMessage}
use Rattle.tatp_threads.specs.declared.request.InboxMessage.TheVariants.{Quit, Call}

-- the request that stands for a call: all of it but what is asked
abbrev pub request_of : Item → Request
request_of item = record {
  client = item.client;
  number = item.number;
  seen = item.seen;
  home = item.home;
}

-- the call for which a request stands, where this is what is asked
abbrev pub item_for : Request → Ask → Item
item_for request ask = record {
  client = request.client;
  number = request.number;
  seen = request.seen;
  ask = ask;
  home = request.home;
}

-- what the call asks stands in its client's list, at its number
abbrev pub IsListed : List (Vec Ask Global) → Item → Type 0
IsListed lists item = slice_get (asks_of lists item.client) item.number ≡ Some item.ask

-- a call of the lists, which procedures of these arities take
pub record IsAdmitted (lists : List (Vec Ask Global)) (arities : List ℕ) (item : Item)
    : Type 0 where
  pub listed : IsListed lists item
  pub fits : Fits arities item.ask

-- Quit, or a request that stands for such a call
abbrev pub IsMessage : List (Vec Ask Global) → List ℕ → InboxMessage → Type 0
IsMessage lists arities Quit = Unit {0}
IsMessage lists arities (Call request) =
    (ask : Ask) × IsAdmitted lists arities (item_for request ask)

-- a call of the lists is put into an inbox, or none is
abbrev pub PutsCall :
    List (Vec Ask Global) → End InboxMessage → Item → Bool → End InboxMessage → Type 0
PutsCall lists port item true port' =
    IsListed lists item × (port' ≡ with_message port (Call (request_of item)))
PutsCall lists port item false port' = port' ≡ port

-- a message is taken out of an inbox, or none is
abbrev pub TakesMessage : End InboxMessage → Option Message → End InboxMessage → Type 0
TakesMessage reader (Some taken.Quit) reader' = reader' ≡ with_message reader Quit
TakesMessage reader (Some (taken.Call item)) reader' =
    reader' ≡ with_message reader (Call (request_of item))
TakesMessage reader None reader' = reader' ≡ reader

-- a call that is taken is an admitted one
abbrev pub IsTaken : List (Vec Ask Global) → List ℕ → Message → Type 0
IsTaken lists arities taken.Quit = Unit {0}
IsTaken lists arities (taken.Call item) = IsAdmitted lists arities item

-- a call of the lists is put into one of the inboxes, or none into any
abbrev pub SendsCall :
    List (Vec Ask Global) → List (End InboxMessage) → Item → Bool → List (End InboxMessage) → Type 0
SendsCall lists ports item true ports' =
    IsListed lists item
    × (partition : ℕ) × (port : End InboxMessage)
    × (slice_get ports partition ≡ Some port)
    × (ports' ≡ slice_set ports partition (with_message port (Call (request_of item))))
SendsCall lists ports item false ports' = ports' ≡ ports
