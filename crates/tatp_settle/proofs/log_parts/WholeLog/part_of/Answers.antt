use Rattle.std.proofs.Common.{◌≡◌, ℕ, ◌-◌, ◌≤◌, List, Option, None, Bor, slice_get, leb, sym, ◌∙◌, ap, subst, rules, arith}
use Rattle.std.specs.Option.{option_copied}
use Rattle.std.proofs.lemmas.List.Sorted.{IsPartitionPoint-from_clause}
use Rattle.tatp_calls.specs.declared.entry.Entry.{Entry}
use Rattle.tatp_settle.specs.declared.log_parts.JoinedPart.{JoinedPart}
use Rattle.tatp_settle.specs.WholeLogs.{AreJoined, entries_of_parts, entry_in_part}
use Rattle.tatp_settle.proofs.TableLaws.{lent_at}
use Rattle.tatp_settle.proofs.WholeLogLaws.{Begin, parts_parted, none_begins, last_begins, last_has}
use Rattle.tatp_settle.proofs.log_parts.WholeLog.part_of.Goals as goal
use Rattle.tatp_settle.proofs.log_parts.WholeLog.part_of.Goals.{After-partition_point-later}

joined : (c : After-partition_point-later) → AreJoined 0 c.deref.result.now c.self.inside.len
joined c = subst (λ (parts : List JoinedPart). AreJoined 0 parts c.self.inside.len) (sym c.deref.ensures.value) c.self.invariant

whole : (c : After-partition_point-later) → entries_of_parts c.deref.result.now ≡ c.args.self.now
whole c = ap (λ (parts : List JoinedPart). entries_of_parts parts) c.deref.ensures.value ∙ c.self.view_is

begin : (c : After-partition_point-later) → Begin c.deref.result.now c.args.index c.partition_point-later.result
begin c = IsPartitionPoint-from_clause (λ (p : JoinedPart). leb p.first c.args.index) c.deref.result.now c.partition_point-later.result c.partition_point-later.ensures.partitioned
    (parts_parted c.deref.result.now c.self.inside.len c.args.index (joined c)) (λ a r q k. search rules)

pub returns : goal.returns
returns c =
    let p = (goal.at.returns c).After-partition_point-later in
    let parts = c.deref.result.now in
    let count = c.partition_point-later.result in
    let last : (1 ≤ count) × (c.in_ok-checked_sub.field-0 ≡ count - 1) = c.in_ok-checked_sub.ensures in
    let lent : option_copied c.get.result ≡ slice_get parts (count - 1) =
    lent_at c.deref-2.result.now c.in_ok-checked_sub.field-0 c.get.result c.get.ensures.lookup
    ∙ (λ i. slice_get ((c.deref-2.ensures.value ∙ sym c.deref.ensures.value) i) (last.1 i)) in
    record {
      first = last_begins parts c.self.inside.len c.args.index count (joined p) (begin p) last.0 c.get.result lent;
      entry = subst (λ (log : List Entry). slice_get log c.args.index ≡ entry_in_part (option_copied c.get.result) c.args.index) (whole p)
          (last_has parts c.self.inside.len c.args.index count (joined p) (begin p) last.0 c.get.result c.partition_point-later.ensures.bound lent);
    }

pub returns-in_err-checked_sub-clause-entry : goal.returns-in_err-checked_sub-clause-entry
returns-in_err-checked_sub-clause-entry c =
    let p = (goal.at.returns-in_err-checked_sub-clause-entry c).After-partition_point-later in
    let none : c.partition_point-later.result ≡ 0 = omega (arith, c.in_err-checked_sub.ensures) in
    subst (λ (r : Option (Bor JoinedPart)). slice_get c.args.self.now c.args.index ≡ entry_in_part (option_copied r) c.args.index) (sym c.from_residual.ensures)
    (subst (λ (log : List Entry). slice_get log c.args.index ≡ None) (whole p)
    (none_begins c.deref.result.now c.self.inside.len c.args.index (joined p) (subst (λ (n : ℕ). Begin c.deref.result.now c.args.index n) none (begin p))))
