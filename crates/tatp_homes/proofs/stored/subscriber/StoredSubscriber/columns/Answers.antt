use Rattle.std.proofs.Common.{rules, ◌≡◌, ◌<◌, length, slice_index, subst, arith}
use Rattle.tatp_homes.proofs.StoredLaws.{AreFirst, length_columns, first_set, first_all}
use Rattle.tatp_homes.proofs.stored.subscriber.StoredSubscriber.columns.Goals as goal

pub loop-place-preserved : goal.loop-place-preserved
loop-place-preserved c =
    let more : c.loop-place.place < 34 = search rules in
    first_set 0 34 c.loop-place.place (slice_index c.args.self.now) c.loop-place.columns c.get.result more c.loop-place.invariant c.get.ensures

pub returns : goal.returns
returns c =
    let f = c.self.inside in
    let small : length f.small ≡ 30 = search rules in
    let own : length c.args.self.now ≡ 34 = rw (← c.self.view_is) (length_columns f.s_id f.sub_nbr f.small f.msc_location f.vlr_location small) in
    let all : c.loop-place.place ≡ 34 = omega (arith, c.loop-place-test.false, c.loop-place.auto.place-end) in
    first_all 0 34 c.loop-place.columns c.args.self.now (subst (λ n. AreFirst 0 34 n (slice_index c.args.self.now) c.loop-place.columns) all c.loop-place.invariant) own
