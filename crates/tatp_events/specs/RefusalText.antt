-- The text of a refusal: its number, its name and its details (docs/FORMATS.md).
use Rattle.std.specs.Prelude.{ℕ, List, ◌++◌, codes, decimal}
use Rattle.tatp_partition.specs.RefusalText.{site_refusal_text}
use Rattle.tatp_events.specs.declared.refusal.Refusal.{Refusal}
use Rattle.tatp_events.specs.declared.refusal.Refusal.TheVariants.{NoPartition, NoClient, ClientBusy, NothingQueued, NotInHand, NoMemory, NoProcedure, NumbersFull, BadArgument, Site}

abbrev pub refusal_text : Refusal → List ℕ
refusal_text NoPartition = codes "38 NoPartition"
refusal_text NoClient = codes "40 NoClient"
refusal_text ClientBusy = codes "41 ClientBusy"
refusal_text NothingQueued = codes "42 NothingQueued"
refusal_text NotInHand = codes "43 NotInHand"
refusal_text NoMemory = codes "46 NoMemory"
refusal_text NoProcedure = codes "48 NoProcedure"
refusal_text NumbersFull = codes "51 StampFull"
refusal_text (BadArgument bad) = codes "26 BadArgument " ++ decimal bad.0
refusal_text (Site refusal) = site_refusal_text refusal
