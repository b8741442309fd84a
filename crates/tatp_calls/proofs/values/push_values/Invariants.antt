use Rattle.std.proofs.Common.{◌++◌}
use Rattle.std.specs.String.{string_bytes}
use Rattle.tatp_calls.specs.ValuesText.{values_text}
use Rattle.tatp_calls.specs.Extends.{Extends}
use Rattle.tatp_calls.proofs.PrintingLaws.{IsPrintedUpTo}
use Rattle.tatp_calls.proofs.values.push_values.Given as goal

abbrev pub invariant-loop-place : goal.invariant-loop-place
invariant-loop-place l = IsPrintedUpTo l.columns l.values (string_bytes l.fn.text ++ values_text l.columns l.values) l.place (string_bytes l.text) × Extends (string_bytes l.fn.text) (string_bytes l.text)
