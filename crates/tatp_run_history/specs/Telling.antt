-- trusted: read it
-- The text of what the clients of a run asked and were answered.
use Rattle.std.specs.Prelude.{◌≡◌, ℕ, List, ◌++◌, Vec}
use Rattle.std.specs.List.{flat_map}
use Rattle.std.specs.declared.alloc.Global.{Global}
use Rattle.tatp_calls.specs.declared.ask.Ask.{Ask}
use Rattle.tatp_logs.specs.Receipts.{ReceiptsState, receipts_of}
use Rattle.tatp_logs.specs.Lists.{lists_of}
use Rattle.tatp_run_history.specs.ClientLines.{all_lines}
use Rattle.tatp_run_history.specs.Interleaving.{Interleaves}

-- a head is followed by lines, merged of these lists so that each list's keep their order
abbrev pub TellsMerged : List ℕ → List (List (List ℕ)) → List ℕ → Type 0
TellsMerged head lists text =
    (lines : List (List ℕ)) × Interleaves lists lines
    × (text ≡ head ++ flat_map (λ (line : List ℕ). line) lines)

-- these are the lines of all clients, who asked these calls and got these receipts
abbrev pub TellsClients : List ℕ → List (Vec Ask Global) → List ReceiptsState → List ℕ → Type 0
TellsClients head asked receipts text =
    TellsMerged head (all_lines 0 (lists_of asked) (receipts_of receipts)) text
