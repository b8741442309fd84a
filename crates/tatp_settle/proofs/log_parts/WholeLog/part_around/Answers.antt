use Rattle.std.proofs.Common.{◌≡◌, ◌+◌, ◌-◌, List, Option, Some, IfSome, Bor, slice_get, sym, ◌∙◌, ap, subst}
use Rattle.std.specs.Option.{option_copied}
use Rattle.tatp_calls.specs.declared.entry.Entry.{Entry}
use Rattle.tatp_settle.specs.declared.log_parts.JoinedPart.{JoinedPart}
use Rattle.tatp_settle.specs.WholeLogs.{AreJoined, entries_of_parts}
use Rattle.tatp_settle.proofs.TableLaws.{lent_at}
use Rattle.tatp_settle.proofs.WholeLogLaws.{stands_before_end}
use Rattle.tatp_settle.proofs.log_parts.WholeLog.part_around.Goals as goal
use Rattle.tatp_settle.proofs.log_parts.WholeLog.part_around.Goals.{in-Some, in-None}

pub returns-then-index-end-clause-entry : goal.returns-then-index-end-clause-entry
returns-then-index-end-clause-entry c =
    let parts : List JoinedPart = c.deref.result.now in
    let part : JoinedPart = c.in_ok-part.part.now in
    let joined : AreJoined 0 parts c.self.inside.len = subst (λ (l : List JoinedPart). AreJoined 0 l c.self.inside.len) (sym c.deref.ensures.value) c.self.invariant in
    let whole : entries_of_parts parts ≡ c.args.self.now = ap (λ (l : List JoinedPart). entries_of_parts l) c.deref.ensures.value ∙ c.self.view_is in
    let at : slice_get parts c.args.number ≡ Some part = sym (lent_at parts c.args.number c.get.result c.get.ensures.lookup) ∙ ap (λ (r : Option (Bor JoinedPart)). option_copied r) c.in_ok-part.was in
    let next : option_copied c.get-2.result ≡ slice_get parts (c.args.number + 1) = lent_at c.deref-2.result.now (c.args.number + 1) c.get-2.result c.get-2.ensures.lookup
    ∙ ap (λ (l : List JoinedPart). slice_get l (c.args.number + 1)) (c.deref-2.ensures.value ∙ sym c.deref.ensures.value) in
    let ends : IfSome c.get-2.result (λ (q : Bor JoinedPart). c.match-get.end ≡ q.now.first) = elim c.match-get.branch [
      | in-Some w ↦ subst (λ (r : Option (Bor JoinedPart)). IfSome r (λ (q : Bor JoinedPart). c.match-get.end ≡ q.now.first)) (sym w.in-Some.is) w.end-is
      | in-None w ↦ subst (λ (r : Option (Bor JoinedPart)). IfSome r (λ (q : Bor JoinedPart). c.match-get.end ≡ q.now.first)) (sym w.in-None.is) tt
    ] in
    subst (λ (log : List Entry). slice_get log c.args.index ≡ slice_get part.entries.now.entries (c.args.index - part.first)) whole
    (stands_before_end parts c.self.inside.len c.args.number c.args.index c.match-get.end part c.get-2.result joined at next ends c.if-part-index.true c.if-index-end.true)
