use Rattle.std.proofs.Common.{◌≡◌, ap, ◌∙◌, arith}
use Rattle.tatp_tables.specs.Database.{no_tables}
use Rattle.tatp_homes.specs.Loading.{homes_in}
use Rattle.tatp_homes.proofs.LoadingLaws.{homes_of_none, one_home_more}
use Rattle.tatp_homes.proofs.home.loading.empty_homes.Goals as goal

pub loop-place-preserved : goal.loop-place-preserved
loop-place-preserved c = c.in_ok-push.ensures.items ∙ one_home_more c.loop-place.homes.items c.empty.result c.args.first c.loop-place.place c.loop-place.invariant c.empty.ensures

pub returns : goal.returns
returns c =
    let all : c.loop-place.place ≡ c.args.count = omega arith in
    c.loop-place.invariant ∙ homes_of_none c.args.first c.loop-place.place ∙ ap (homes_in no_tables c.args.first) all
