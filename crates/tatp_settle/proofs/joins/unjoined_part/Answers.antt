use Rattle.std.proofs.Common.{◌≡◌, ℕ, ◌+◌, option_copied, sym, ◌∙◌, ap, subst, arith}
use Rattle.std.specs.Option.{option_map}
use Rattle.std.proofs.lemmas.Bool.{false≢true}
use Rattle.tatp_logs.specs.Logs.{last_stamp_from}
use Rattle.tatp_settle.specs.declared.log_parts.LogPart.{LogPart}
use Rattle.tatp_settle.specs.Closings.{IsClosed}
use Rattle.tatp_settle.specs.ChapterTables.{entries_of_some}
use Rattle.tatp_settle.proofs.RisingLaws.{part_rises}
use Rattle.tatp_settle.proofs.UnjoinedLaws.{AreJoinedTo, goes_on_is, unjoined_here, joined_next, joined_all}
use Rattle.tatp_settle.proofs.joins.unjoined_part.Goals as goal

pub returns-then-not-is_joined : goal.returns-then-not-is_joined
returns-then-not-is_joined c =
    let test = c.parts-test.true in
    let count = c.chapter_count-count.ensures in
    let goes_on = goes_on_is c.args.chapters.now c.args.number c.parts.index (option_copied c.parts.due) c.parts.last (option_map (λ (p : LogPart). p.before.now) c.part-part.result) (entries_of_some c.part-part.result) c.is_joined.result c.part-part.ensures.before c.part-part.ensures.entries c.is_joined.ensures in
    unjoined_here c.args.chapters.now c.args.number c.parts.index (option_copied c.args.first) (option_copied c.parts.due) c.parts.last c.parts.invariant
    (part_rises c.args.chapters.now c.args.number c.parts.index (subst IsClosed c.closed.ensures c.what_holds.ensures) c.requires.unmixed)
    (λ on. false≢true (sym c.if-not-is_joined.true ∙ goes_on.1 on)) (omega (arith, test, count))

pub parts-preserved : goal.parts-preserved
parts-preserved c =
    let test = c.parts-test.true in
    let count = c.chapter_count-count.ensures in
    let goes_on = goes_on_is c.args.chapters.now c.args.number c.parts.index (option_copied c.parts.due) c.parts.last (option_map (λ (p : LogPart). p.before.now) c.part-part.result) (entries_of_some c.part-part.result) c.is_joined.result c.part-part.ensures.before c.part-part.ensures.entries c.is_joined.ensures in
    subst (λ (n : ℕ). AreJoinedTo c.args.chapters.now c.args.number (c.parts.index + 1) (option_copied c.args.first) (option_copied c.homes_after-due.result) n) (sym (c.last_stamp-last.ensures ∙ ap (last_stamp_from c.parts.last) c.part-part.ensures.entries))
    (joined_next c.args.chapters.now c.args.number c.parts.index (option_copied c.args.first) (option_copied c.parts.due) c.parts.last c.parts.invariant
    (part_rises c.args.chapters.now c.args.number c.parts.index (subst IsClosed c.closed.ensures c.what_holds.ensures) c.requires.unmixed)
    (option_copied c.homes_after-due.result) (goes_on.0 c.if-not-is_joined.false) (omega (arith, test, count)) c.homes_after-due.ensures)

pub returns-then-is_joined : goal.returns-then-is_joined
returns-then-is_joined c =
    let past = c.parts-test.false in
    let count = c.chapter_count-count.ensures in
    let same : c.parts.index ≡ c.chapter_count-count.result = omega (arith, past) in
    let goes_on = goes_on_is c.args.chapters.now c.args.number c.chapter_count-count.result (option_copied c.parts.due) c.parts.last (option_map (λ (p : LogPart). p.before.now) c.part.result) (entries_of_some c.part.result) c.is_joined-2.result c.part.ensures.before c.part.ensures.entries c.is_joined-2.ensures in
    joined_all c.args.chapters.now c.args.number c.chapter_count-count.result (option_copied c.args.first) (option_copied c.parts.due) c.parts.last
    (subst (λ (n : ℕ). AreJoinedTo c.args.chapters.now c.args.number n (option_copied c.args.first) (option_copied c.parts.due) c.parts.last) same c.parts.invariant)
    (part_rises c.args.chapters.now c.args.number c.chapter_count-count.result (subst IsClosed c.closed.ensures c.what_holds.ensures) c.requires.unmixed)
    (goes_on.0 c.if-is_joined.true) (omega (arith, count))

pub returns-else-is_joined : goal.returns-else-is_joined
returns-else-is_joined c =
    let past = c.parts-test.false in
    let count = c.chapter_count-count.ensures in
    let same : c.parts.index ≡ c.chapter_count-count.result = omega (arith, past) in
    let goes_on = goes_on_is c.args.chapters.now c.args.number c.chapter_count-count.result (option_copied c.parts.due) c.parts.last (option_map (λ (p : LogPart). p.before.now) c.part.result) (entries_of_some c.part.result) c.is_joined-2.result c.part.ensures.before c.part.ensures.entries c.is_joined-2.ensures in
    unjoined_here c.args.chapters.now c.args.number c.chapter_count-count.result (option_copied c.args.first) (option_copied c.parts.due) c.parts.last
    (subst (λ (n : ℕ). AreJoinedTo c.args.chapters.now c.args.number n (option_copied c.args.first) (option_copied c.parts.due) c.parts.last) same c.parts.invariant)
    (part_rises c.args.chapters.now c.args.number c.chapter_count-count.result (subst IsClosed c.closed.ensures c.what_holds.ensures) c.requires.unmixed)
    (λ on. false≢true (sym c.if-is_joined.false ∙ goes_on.1 on)) (omega (arith, count))
