use Rattle.std.proofs.Common.{◌≤◌, ◌∙◌, refl, ap, sym, subst}
use Rattle.tatp_streams.proofs.LineReadingLaws.{meets_end}
use Rattle.tatp_streams.proofs.line_reader.LineReader.advance.Goals as goal

pub returns-then-is_ended-clause-end : goal.returns-then-is_ended-clause-end
returns-then-is_ended-clause-end g c =
    let so_far = c.pieces.invariant in
    let same = c.if-advance_ready.ensures.same refl in
    λ e. rw same (meets_end _ _ _ _ so_far.left so_far.number (c.if-advance_ready.ensures.none refl)
    (sym (ap (λ s. s.ended) same) ∙ (sym c.is_ended.ensures.ended ∙ c.if-is_ended.true))
    (subst (λ s. s.count ≤ s.limit) same c.is_ended.ensures.within))
