-- The text of a verdict: docs/FORMATS.md, "Verdicts".
use Rattle.std.specs.Prelude.{ℕ, List, ◌++◌, slice_index, codes, decimal}
use Rattle.tatp_texts.specs.Text.{fifteen_digits}
use Rattle.tatp_audits.specs.declared.verdict.FailedKey.{FailedKey}
use Rattle.tatp_audits.specs.declared.verdict.FailedKey.TheVariants.{S, A, F, C}
use Rattle.tatp_audits.specs.declared.verdict.Verdict.{Verdict}
use Rattle.tatp_audits.specs.declared.verdict.Verdict.TheVariants.{Clean, Ids, NumberTwice, KeyTwice, NoParent, OutsideDomain, Counts}

-- a number behind a space
abbrev pub field : ℕ → List ℕ
field n = codes " " ++ decimal n

-- the table's letter and the parts of the key
abbrev pub key_text : FailedKey → List ℕ
key_text (S k) = codes "S" ++ field (slice_index k 0)
key_text (A k) = codes "A" ++ field (slice_index k 0) ++ field (slice_index k 1)
key_text (F k) = codes "F" ++ field (slice_index k 0) ++ field (slice_index k 1)
key_text (C k) =
    codes "C" ++ field (slice_index k 0) ++ field (slice_index k 1) ++ field (slice_index k 2)

abbrev pub verdict_text : Verdict → List ℕ
verdict_text (Clean s a f c) = codes "CLEAN" ++ field s ++ field a ++ field f ++ field c
verdict_text (Ids s_id) = codes "A1" ++ field s_id
verdict_text (NumberTwice number) = codes "A2 " ++ fifteen_digits number
verdict_text (KeyTwice key) = codes "A3 " ++ key_text key
verdict_text (NoParent key) = codes "A4 " ++ key_text key
verdict_text (OutsideDomain key column) = codes "A5 " ++ key_text key ++ field column
verdict_text (Counts s_id) = codes "A6" ++ field s_id
