-- What the threads of a run have for themselves.
use Rattle.std.specs.Prelude.{◌≡◌, ℕ, List, [], ◌∷◌, All, map, length, Vec}
use Rattle.std.specs.List.{range_with_len}
use Rattle.std.specs.declared.alloc.Global.{Global}
use Rattle.tatp_calls.specs.declared.ask.Ask.{Ask}
use Rattle.tatp_sync.specs.Inboxes.{End, end_beside}
use Rattle.tatp_threads.specs.declared.request.InboxMessage.{InboxMessage}
use Rattle.tatp_threads.specs.declared.reserved.ExecutorSeat.{ExecutorSeat}
use Rattle.tatp_workers.specs.declared.client.Client.{Client}
use Rattle.tatp_workers.specs.Clients.{IsReady}

-- a new end at each inbox
abbrev pub AreEndsAt : List (End InboxMessage) → Vec (End InboxMessage) Global → Type 0
AreEndsAt inboxes ports = ports.items ≡ map end_beside inboxes

module _ {A : Type 0} where
  abbrev pub readers_of : List (ExecutorSeat A) → List (End InboxMessage)
  readers_of = map (λ (seat : ExecutorSeat A). seat.reader)

  abbrev pub executors_ports : List (ExecutorSeat A) → List (Vec (End InboxMessage) Global)
  executors_ports = map (λ (seat : ExecutorSeat A). seat.ports)

  -- a seat for each executor: it takes out of the inbox at its place, and puts into all
  pub record AreExecutors (inboxes : List (End InboxMessage)) (seats : List (ExecutorSeat A))
      : Type 0 where
    pub readers : readers_of seats ≡ inboxes
    pub ports : All (AreEndsAt inboxes) (executors_ports seats)

-- a client whose ends are these ports
abbrev pub ClientSeat : Type 0
ClientSeat = Client (Vec (End InboxMessage) Global)

abbrev pub numbers_of : List ClientSeat → List ℕ
numbers_of = map (λ (seat : ClientSeat). seat.number)

abbrev pub clients_ports : List ClientSeat → List (Vec (End InboxMessage) Global)
clients_ports = map (λ (seat : ClientSeat). seat.end)

-- a client has no receipts yet, has asked nothing, and has capacity for a receipt of each of its
-- calls
abbrev pub IsReadyFor : Vec Ask Global → ClientSeat → Type 0
IsReadyFor list seat = (seat.receipts.receipts ≡ []) × IsReady list.items seat

-- so is each client for the calls of the list at its place
abbrev pub AreReadyFor : List (Vec Ask Global) → List ClientSeat → Type 0
AreReadyFor lists [] = Unit {0}
AreReadyFor [] (seat ∷ seats) = ⊥
AreReadyFor (list ∷ lists) (seat ∷ seats) = IsReadyFor list seat × AreReadyFor lists seats

-- a seat for each client: its number is its place, it puts into all inboxes, and it is ready for
-- its calls
pub record AreClients (lists : List (Vec Ask Global)) (inboxes : List (End InboxMessage))
    (seats : List ClientSeat) : Type 0 where
  pub numbers : numbers_of seats ≡ range_with_len 0 (length lists)
  pub ports : All (AreEndsAt inboxes) (clients_ports seats)
  pub ready : AreReadyFor lists seats
