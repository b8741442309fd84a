use Rattle.tatp_judge.proofs.PlaceLaws.{one_window_more}
use Rattle.tatp_judge.proofs.windows.windows_of.Goals as goal

pub homes-preserved : goal.homes-preserved
homes-preserved c =
    let new = c.in_ok-new.ensures in
    one_window_more c.args.most c.args.exact c.args.homes.now c.homes.i c.homes.windows.items c.push.new.self.items c.index-homes-i.result c.in_ok-new.field-0 c.homes.invariant c.homes-test.true c.index-homes-i.is c.in_ok-push.ensures.items
    new.reached new.own new.most new.exact new.from new.events new.numbers new.waiting new.aside

pub returns-clause-kept : goal.returns-clause-kept
returns-clause-kept c = c.homes.invariant.unmarked

pub returns-clause-exact : goal.returns-clause-exact
returns-clause-exact c = c.homes.invariant.exact_are
