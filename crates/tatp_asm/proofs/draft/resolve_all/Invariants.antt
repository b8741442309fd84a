use Rattle.std.proofs.Common.{◌≡◌, drop, length}
use Rattle.tatp_asm.specs.Reading.{resolve}
use Rattle.tatp_asm.specs.Views.{all_pending, labels_view}
use Rattle.tatp_asm.proofs.Resolving.{with_front}
use Rattle.tatp_asm.proofs.draft.resolve_all.Given as goal

abbrev pub invariant-code : goal.invariant-code
invariant-code l = record {
  reading : with_front l.instrs.items (resolve (labels_view l.labels.entries) (all_pending (drop l.one-index l.code))) ≡ resolve (labels_view l.labels.entries) (all_pending l.code);
  count : length l.instrs.items ≡ l.one-index;
}
