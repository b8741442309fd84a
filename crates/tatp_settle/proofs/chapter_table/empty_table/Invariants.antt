use Rattle.std.proofs.Common.{◌≡◌, map}
use Rattle.std.specs.List.{range_with_len}
use Rattle.tatp_settle.proofs.ChapterTableLaws.{empty_row}
use Rattle.tatp_settle.proofs.chapter_table.empty_table.Given as goal

abbrev pub invariant-numbers : goal.invariant-numbers
invariant-numbers l = l.table ≡ map (empty_row l.closed) (range_with_len 0 l.number)
