use Rattle.std.proofs.Common.{Option, subst, sym}
use Rattle.tatp_tables.specs.Database.{database_of}
use Rattle.tatp_settle.specs.declared.cause.Unsettled.{Unsettled}
use Rattle.tatp_settle.specs.declared.places.CallPlace.{CallPlace}
use Rattle.tatp_settle.specs.CallPlaces.{IsFirstCall}
use Rattle.tatp_settle.specs.Causes.{NamesHome}
use Rattle.tatp_settle.specs.Closings.{ClosedState}
use Rattle.tatp_settle.specs.Runs.{Run, shown}
use Rattle.tatp_settle.specs.CauseOrder.{IsFirstOf}
use Rattle.tatp_settle.proofs.JudgeLaws.{home_cause_is}
use Rattle.tatp_settle.proofs.first_cause.cause_without_home.Goals as goal

pub returns : goal.returns
returns c = λ before.
    let run : Run = shown c.args.run.now in
    let first : Option CallPlace = c.in_ok-first_homed.field-0 in
    subst (λ (cause : Option Unsettled). IsFirstOf 11 run cause) (sym c.home_cause.ensures)
    (home_cause_is run first
    (subst (λ (closed : ClosedState). IsFirstCall (NamesHome (database_of run.population).subscribers closed) first) c.requires.gathered (c.in_ok-first_homed.ensures (database_of run.population).subscribers c.in_ok-directory.ensures.homes)) before)
