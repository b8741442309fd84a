use Rattle.std.proofs.Common.{List, length, Vec, arith}
use Rattle.std.specs.declared.alloc.Global.{Global}
use Rattle.std.proofs.lemmas.List.{at_drop_all}
use Rattle.tatp_calls.specs.declared.ask.Ask.{Ask}
use Rattle.tatp_logs.specs.Lists.{lists_of}
use Rattle.tatp_settle.specs.Runs.{joined}
use Rattle.tatp_settle_tests.proofs.events.are_few.Goals as goal

pub returns : goal.returns
returns c = λ _.
    let none = at_drop_all (λ (lists : List (Vec Ask Global)). length (joined (lists_of lists))) c.args.calls.now c.lists.list-index c.lists-test.false in
    omega (arith, none, c.lists.invariant.few, c.lists.invariant.all)
