use Rattle.std.proofs.Common.{subst, sym, List, ℕ}
use Rattle.tatp_calls.specs.declared.entry.Entry.{Entry}
use Rattle.tatp_extents.specs.Extents.{IsExtent}
use Rattle.tatp_extents.specs.Pinning.{PinnedState, Logs}
use Rattle.tatp_extents.specs.Parts.{pinned_in}
use Rattle.tatp_extents.proofs.HistoryLaws.{logged}
use Rattle.tatp_extents.proofs.pinned.Pinned.end.Goals as goal

pub of_parts-requires : goal.of_parts-requires
of_parts-requires c =
    let p : PinnedState = pinned_in c.self.inside.parts c.self.inside.place in
    subst (λ (k : ℕ). IsExtent (record p.extent { kept_stamp = k; log = c.push.new.self.entries })) (sym c.push.ensures.stamp)
    (subst (λ (log : List Entry). IsExtent (record p.extent { log = log })) (sym c.push.ensures.entries) (logged p c.args.entry.now (subst (λ (t : PinnedState). Logs t c.args.entry.now) (sym c.self.view_is) c.requires)))
