use Rattle.tatp_settle.specs.Runs.{Run, shown}
use Rattle.tatp_settle.proofs.CauseLaws.{none_mixed, none_left, none_doubled, first_mixed, first_left, first_doubled}
use Rattle.tatp_settle.proofs.first_cause.extent_cause.Goals as goal

pub returns-in-Some : goal.returns-in-Some
returns-in-Some c = first_mixed (shown c.args.run.now) c.in-Some.number c.in-Some.ensures.0 c.in-Some.ensures.1

pub returns-in-Some-first_extent : goal.returns-in-Some-first_extent
returns-in-Some-first_extent c =
    let run : Run = shown c.args.run.now in
    first_left run c.in-Some-first_extent.number (none_mixed run c.in_default.ensures) c.in-Some-first_extent.ensures.0 c.in-Some-first_extent.ensures.1

pub returns-in-Some-first_extent-2 : goal.returns-in-Some-first_extent-2
returns-in-Some-first_extent-2 c =
    let run : Run = shown c.args.run.now in
    first_doubled run c.in-Some-first_extent-2.number (none_left run (none_mixed run c.in_default.ensures) c.in_default-first_extent.ensures) c.in-Some-first_extent-2.ensures.0 c.in-Some-first_extent-2.ensures.1

pub returns : goal.returns
returns c =
    let run : Run = shown c.args.run.now in
    none_doubled run (none_left run (none_mixed run c.in_default.ensures) c.in_default-first_extent.ensures) c.in_default-first_extent-2.ensures
