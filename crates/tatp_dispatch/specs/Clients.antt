-- What the system keeps of its clients, and how it changes.
use Rattle.std.specs.Prelude.{◌≡◌, ℕ, ◌+◌, true, false, List, Some, slice_get, slice_set}
use Rattle.tatp_dispatch.specs.declared.client.Client.{Client}

-- a client of which one more call is accepted, and under way
abbrev pub with_call_accepted : Client → Client
with_call_accepted c = record c { accepted = c.accepted + 1; is_busy = true }

-- a client to whose call memory was refused
abbrev pub with_call_refused : Client → Client
with_call_refused c = record c { refused = c.refused + 1; is_busy = false }

-- a client whose call has ended with this stamp
abbrev pub with_call_ended : ℕ → Client → Client
with_call_ended stamp c = record c { is_busy = false; seen = stamp }

-- the client in this place is changed so, and the others stay
abbrev pub ChangesClient : List Client → ℕ → (Client → Client) → List Client → Type 0
ChangesClient clients client change clients' =
    (c : Client) → slice_get clients client ≡ Some c
    → clients' ≡ slice_set clients client (change c)
