use Rattle.std.proofs.Common.{ltb, subst, sym, arith, rules}
use Rattle.std.proofs.lemmas.List.Sorted.{IsPartitionPoint-from_clause, IsPartitionedBy-ltb}
use Rattle.tatp_history.specs.HistoryLines.{end_at}
use Rattle.tatp_history.specs.Events.{TimesRise, time_of}
use Rattle.tatp_judge.proofs.WritingLaws.{IsPlaceOf, sorted, written_at, written_nowhere}
use Rattle.tatp_judge.proofs.window.write_outcome.Goals as goal

pub returns-then-place-len : goal.returns-then-place-len
returns-then-place-len c =
    let asked = c.args.asked in
    let events = c.args.events.now.items in
    let place = c.partition_point-place.result in
    let same = c.deref.ensures.value in
    let point = IsPartitionPoint-from_clause (λ event. ltb (time_of event) asked) c.deref.result.now place c.partition_point-place.ensures.partitioned
    (IsPartitionedBy-ltb time_of c.deref.result.now asked (sorted c.deref.result.now (subst TimesRise (sym same) c.requires))) (λ a r q k. search rules) in
    written_at asked (end_at c.args.number c.args.line.now) events place c.index.result.now c.ended.result c.requires (subst (λ es. IsPlaceOf asked es place) same point)
    (omega (arith, c.if-place-len.true, c.len.ensures, c.args.events.now.ok.0)) c.index.ensures c.ended.ensures

pub returns-else-place-len : goal.returns-else-place-len
returns-else-place-len c =
    let asked = c.args.asked in
    let events = c.args.events.now.items in
    let place = c.partition_point-place.result in
    let same = c.deref.ensures.value in
    let point = IsPartitionPoint-from_clause (λ event. ltb (time_of event) asked) c.deref.result.now place c.partition_point-place.ensures.partitioned
    (IsPartitionedBy-ltb time_of c.deref.result.now asked (sorted c.deref.result.now (subst TimesRise (sym same) c.requires))) (λ a r q k. search rules) in
    written_nowhere asked (end_at c.args.number c.args.line.now) events place (subst (λ es. IsPlaceOf asked es place) same point)
    (omega (arith, c.if-place-len.false, c.len.ensures, c.args.events.now.ok.0))
