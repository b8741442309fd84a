-- A call is put into one of the inboxes.
use Rattle.std.proofs.Common.{◌≡◌, ℕ, List, Vec, Global, Some, Bool, true, false, ap, ◌∙◌}
use Rattle.std.specs.Prelude.{slice_get, slice_set}
use Rattle.tatp_calls.specs.declared.ask.Ask.{Ask}
use Rattle.tatp_extents.proofs.ListLaws.{set_same}
use Rattle.tatp_partition.specs.declared.item.Item.{Item}
use Rattle.tatp_sync.specs.Inboxes.{End}
use Rattle.tatp_threads.specs.declared.request.InboxMessage.{InboxMessage}
use Rattle.tatp_threads.specs.Inboxes.{PutsCall, SendsCall}

pub sent : (lists : List (Vec Ask Global)) (ports : List (End InboxMessage)) (partition : ℕ) (port port' : End InboxMessage) (item : Item) (is_put : Bool)
    → slice_get ports partition ≡ Some port → PutsCall lists port item is_put port' → SendsCall lists ports item is_put (slice_set ports partition port')
sent lists ports partition port port' item true here puts = (puts.0, partition, port, here, ap (slice_set ports partition) puts.1)
sent lists ports partition port port' item false here puts = ap (slice_set ports partition) puts ∙ set_same ports partition port here
