-- trusted: read it
-- The lines of what clients asked and were answered: docs/FORMATS.md, "Lines of a history".
use Rattle.std.specs.Prelude.{ℕ, suc, List, [], ◌∷◌, ◌++◌, codes, decimal}
use Rattle.tatp_calls.specs.declared.ask.Ask.{Ask}
use Rattle.tatp_calls.specs.declared.ask.Ask.TheVariants.{Txn, Raw}
use Rattle.tatp_calls.specs.CallText.{call_text}
use Rattle.tatp_calls.specs.ReplyText.{reply_text}
use Rattle.tatp_logs.specs.declared.receipt.Receipt.{Receipt}
use Rattle.tatp_logs.specs.declared.receipt.Receipt.TheVariants.{Done, Refused}

-- the line of a transaction; no history has calls that are none
abbrev pub asked_text : Ask → List ℕ
asked_text (Txn call) = call_text call
asked_text (Raw raw) = []

-- the line that says that a client asks, with the line feed
abbrev pub asked_line : ℕ → Ask → List ℕ
asked_line client ask =
    codes "ask " ++ (decimal client ++ (32 ∷ (asked_text ask ++ 10 ∷ [])))

-- the outcome of its call: the reply of its receipt; where memory was refused to it, it was aborted
abbrev pub answered_line : ℕ → Ask → Receipt → List ℕ
answered_line client ask (Done of_client number reply extent stamp) =
    codes "end " ++ (decimal client ++ (32 ∷ (reply_text ask reply ++ 10 ∷ [])))
answered_line client ask (Refused of_client number) =
    codes "abort " ++ (decimal client ++ 10 ∷ [])

-- what a client did, call by call: that it asked, and the outcome
abbrev pub client_lines : ℕ → List Ask → List Receipt → List (List ℕ)
client_lines client [] receipts = []
client_lines client (ask ∷ asks) [] = []
client_lines client (ask ∷ asks) (receipt ∷ receipts) =
    asked_line client ask ∷ answered_line client ask receipt ∷ client_lines client asks receipts

-- what each client did, from the one of this number on
abbrev pub all_lines : ℕ → List (List Ask) → List (List Receipt) → List (List (List ℕ))
all_lines client [] receipts = []
all_lines client (asks ∷ lists) [] = []
all_lines client (asks ∷ lists) (receipts ∷ more) =
    client_lines client asks receipts ∷ all_lines (suc client) lists more
