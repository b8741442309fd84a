use Rattle.std.proofs.Common.{rules, ◌≡◌, ◌<◌, ◌+◌, length, slice_index, true, subst, arith}
use Rattle.tatp_tables.specs.Domains.{is_in_domain}
use Rattle.tatp_tables.specs.declared.table.Table.TheVariants.{Subscriber}
use Rattle.tatp_homes.proofs.UndoLaws.{is_row-at}
use Rattle.tatp_homes.proofs.StoredLaws.{columns_are, first_set}
use Rattle.tatp_homes.proofs.stored.subscriber.StoredSubscriber.of.Goals as goal

pub narrow-requires-clause-value : goal.narrow-requires-clause-value
narrow-requires-clause-value c =
    let long : length c.args.row.now ≡ 34 = search rules in
    let more : c.loop-place.place < 30 = search rules in
    let place : 0 + (c.loop-place.place + 2) ≡ c.loop-place.place + 2 = omega arith in
    subst (λ k. is_in_domain k (slice_index c.args.row.now (c.loop-place.place + 2)) ≡ true) place
    (is_row-at Subscriber c.args.row.now (c.loop-place.place + 2) c.requires (omega (arith, long, more)))

pub loop-place-preserved : goal.loop-place-preserved
loop-place-preserved c =
    let more : c.loop-place.place < 30 = search rules in
    first_set 0 30 c.loop-place.place (λ k. slice_index c.args.row.now (k + 2)) c.loop-place.small c.narrow.result more c.loop-place.invariant c.narrow.ensures

pub location-requires-clause-value : goal.location-requires-clause-value
location-requires-clause-value c =
    let long : length c.args.row.now ≡ 34 = search rules in
    is_row-at Subscriber c.args.row.now 32 c.requires (omega (arith, long))

pub location-requires-2-clause-value : goal.location-requires-2-clause-value
location-requires-2-clause-value c =
    let long : length c.args.row.now ≡ 34 = search rules in
    is_row-at Subscriber c.args.row.now 33 c.requires (omega (arith, long))

pub returns : goal.returns
returns c =
    let row : length c.args.row.now ≡ 34 = search rules in
    let all : c.loop-place.place ≡ 30 = omega (arith, c.loop-place-test.false, c.loop-place.auto.place-end) in
    rw (c.location.ensures, c.location-2.ensures)
    (columns_are c.args.row.now c.loop-place.small row c.loop-place.invariant.0 (λ i lt. c.loop-place.invariant.1 i (omega (arith, lt, all))))
