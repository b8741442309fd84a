-- The text of a snapshot, in four lines.
use Rattle.std.specs.Prelude.{ℕ, List, ◌++◌, Option, Some, None, slice_index, codes, decimal}
use Rattle.std.specs.List.{flat_map}
use Rattle.tatp_tables.specs.declared.table.Table.{Table}
use Rattle.tatp_tables.specs.declared.table.Table.TheVariants.{Subscriber, AccessInfo, SpecialFacility, CallForwarding}
use Rattle.tatp_debug.specs.declared.snapshot.CurrentKeys.{CurrentKeys}
use Rattle.tatp_debug.specs.declared.snapshot.Snapshot.{Snapshot}

-- a value after a space
abbrev pub value_field : ℕ → List ℕ
value_field n = codes " " ++ decimal n

-- a part of a key
abbrev pub part_text : List ℕ → ℕ → List ℕ
part_text key i = decimal (slice_index key i)

-- the parts that a table's key has, joined by points
abbrev pub key_text : Table → List ℕ → List ℕ
key_text Subscriber key = part_text key 0
key_text AccessInfo key = part_text key 0 ++ codes "." ++ part_text key 1
key_text SpecialFacility key = part_text key 0 ++ codes "." ++ part_text key 1
key_text CallForwarding key =
    part_text key 0 ++ codes "." ++ part_text key 1 ++ codes "." ++ part_text key 2

-- the key of a table's current row, a hyphen where none is current
abbrev pub key_field : Table → Option (List ℕ) → List ℕ
key_field table None = codes "-"
key_field table (Some key) = key_text table key

-- the current keys, table by table, parted by spaces
abbrev pub current_text : CurrentKeys → List ℕ
current_text c =
    key_field Subscriber c.subscriber
    ++ codes " " ++ key_field AccessInfo c.access
    ++ codes " " ++ key_field SpecialFacility c.facility
    ++ codes " " ++ key_field CallForwarding c.forwarding

-- four lines, parted by line feeds: where the call is: its procedure's name, the position
-- and the text of the instruction; the registers; the current keys; the outputs
abbrev pub snapshot_text : Snapshot → List ℕ
snapshot_text s =
    codes "AT " ++ s.name.bytes ++ codes " " ++ decimal s.pc ++ codes " " ++ s.line.bytes
    ++ codes "\nREGS" ++ flat_map value_field s.registers
    ++ codes "\nCURRENT " ++ current_text s.current
    ++ codes "\nOUT" ++ flat_map value_field s.outputs
