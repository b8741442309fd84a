use Rattle.std.proofs.Common.{ℕ, ◌≡◌, ◌%◌, [], rules, subst}
use Rattle.tatp_partition.specs.Dealing.{opening_partition, AreSitesDealt}
use Rattle.tatp_partition.proofs.DealLaws.{none_dealt, its_place_is_there, one_more_dealt}
use Rattle.tatp_partition.proofs.dealing.open_sites.Goals as goal

pub loop-extent-init : goal.loop-extent-init
loop-extent-init c = none_dealt c.args.loaded.now c.args.partitions c.args.extents.items c.in-Ok.sites.items
    (subst (λ (n : ℕ). AreSitesDealt c.args.loaded.now c.args.partitions n [] c.in-Ok.sites.items) (search rules) c.in-Ok.ensures)

pub land_at-requires-clause-place : goal.land_at-requires-clause-place
land_at-requires-clause-place c s at =
    its_place_is_there c.args.loaded.now c.args.partitions (c.saturating_sub.result % c.args.partitions) c.args.extents.items c.loop-extent.rest.items c.pop.new.self.items c.in-Some.extent c.loop-extent.sites.items s
    c.requires.numbers c.in-Some.ensures.items c.loop-extent.invariant at

pub loop-extent-preserved : goal.loop-extent-preserved
loop-extent-preserved c =
    let opens : opening_partition c.args.partitions c.in-Some.extent.number ≡ c.saturating_sub.result % c.args.partitions = search rules in
    one_more_dealt c.args.loaded.now c.args.partitions (c.saturating_sub.result % c.args.partitions) c.args.extents.items c.loop-extent.rest.items c.pop.new.self.items c.in-Some.extent c.loop-extent.sites.items c.land_at.new.sites.items
    c.requires.numbers c.in-Some.ensures.items c.loop-extent.invariant opens c.land_at.ensures
