use Rattle.std.proofs.Common.{◌≡◌, Option, Some, None, IfNone, rules, subst, ◌∙◌}
use Rattle.tatp_settle.specs.declared.places.CallPlace.{CallPlace}
use Rattle.tatp_settle.specs.CallPlaces.{IsFirstCall}
use Rattle.tatp_settle.specs.CauseOrder.{NoneOfFirst}
use Rattle.tatp_settle.specs.Closings.{ClosedState}
use Rattle.tatp_settle.specs.Causes.{HasEntryTooMany, Differs}
use Rattle.tatp_settle.specs.Placing.{cells_of, AllPlaced}
use Rattle.tatp_settle.specs.Runs.{Run, shown}
use Rattle.tatp_settle.proofs.CauseLaws.{none_unmatched, none_too_many, none_differing, none_falling, first_unmatched, first_too_many, first_differing, first_falling}
use Rattle.tatp_settle.proofs.first_cause.cause_in_calls.Goals as goal

-- what is told of the logs at hand holds of what was gathered
too_many : (run : Run) (logs : ClosedState) (extra first : Option CallPlace) → logs ≡ run.closed → extra ≡ first → IsFirstCall (HasEntryTooMany logs run.receipts) extra → IsFirstCall (HasEntryTooMany run.closed run.receipts) first
too_many run logs extra first is found h = subst (λ (c : ClosedState). IsFirstCall (HasEntryTooMany c run.receipts) first) is (subst (λ (v : Option CallPlace). IsFirstCall (HasEntryTooMany logs run.receipts) v) found h)

differing : (run : Run) (logs : ClosedState) (first : Option CallPlace) → logs ≡ run.closed → IsFirstCall (Differs logs run.calls run.receipts) first → IsFirstCall (Differs run.closed run.calls run.receipts) first
differing run logs first is h = subst (λ (c : ClosedState). IsFirstCall (Differs c run.calls run.receipts) first) is h

pub returns-in-Some-clause-cause : goal.returns-in-Some-clause-cause
returns-in-Some-clause-cause g c = record {
  first = λ before. first_unmatched (shown c.args.run.now) c.in-Some.place.client c.in-Some.place.number before c.in-Some.ensures;
  placed = tt;
}

pub returns-in-Some-extra-clause-cause : goal.returns-in-Some-extra-clause-cause
returns-in-Some-extra-clause-cause g c =
    let run : Run = shown c.args.run.now in
    record {
      first = λ before. first_too_many run c.in-Some-extra.place.client c.in-Some-extra.place.number (none_unmatched run before c.in_default.ensures)
          (too_many run c.in_ok-logs.logs c.in_ok-table.field-0.extra (Some c.in-Some-extra.place) (c.in_ok-logs.ensures ∙ c.requires) c.in-Some-extra.is c.in_ok-table.ensures.first);
      placed = tt;
    }

pub first_differing-requires : goal.first_differing-requires
first_differing-requires g c = (
  search rules,
  record {
    matched = c.in_default.ensures;
    placed = subst (λ (v : Option CallPlace). IfNone v (AllPlaced c.in_ok-logs.logs (shown c.args.run.now).receipts (cells_of c.in_ok-table.field-0.table))) c.in_default-extra.is c.in_ok-table.ensures.all;
  },
)

pub returns-in-Some-first_differing-clause-cause : goal.returns-in-Some-first_differing-clause-cause
returns-in-Some-first_differing-clause-cause g c =
    let run : Run = shown c.args.run.now in
    record {
      first = λ before. first_differing run c.in-Some-first_differing.place.client c.in-Some-first_differing.place.number
          (none_too_many run (none_unmatched run before c.in_default.ensures) (too_many run c.in_ok-logs.logs c.in_ok-table.field-0.extra None (c.in_ok-logs.ensures ∙ c.requires) c.in_default-extra.is c.in_ok-table.ensures.first))
          (differing run c.in_ok-logs.logs (Some c.in-Some-first_differing.place) (c.in_ok-logs.ensures ∙ c.requires) c.in-Some-first_differing.ensures);
      placed = tt;
    }

-- no call is a cause by its receipt, its entries or its ask
none9 : (run : Run) (logs : ClosedState) (extra : Option CallPlace) → logs ≡ run.closed → extra ≡ None → NoneOfFirst 7 run → IsFirstCall (HasEntryTooMany logs run.receipts) extra → IsFirstCall (Differs logs run.calls run.receipts) None → NoneOfFirst 9 run
none9 run logs extra is none before many same = none_differing run (none_too_many run before (too_many run logs extra None is none many)) (differing run logs None is same)

pub returns-in-Some-first_falling-clause-cause : goal.returns-in-Some-first_falling-clause-cause
returns-in-Some-first_falling-clause-cause g c =
    let run : Run = shown c.args.run.now in
    record {
      first = λ before. first_falling run c.in-Some-first_falling.place.client c.in-Some-first_falling.place.number
          (none9 run c.in_ok-logs.logs c.in_ok-table.field-0.extra (c.in_ok-logs.ensures ∙ c.requires) c.in_default-extra.is (none_unmatched run before c.in_default.ensures) c.in_ok-table.ensures.first c.in_default-first_differing.ensures)
          c.in-Some-first_falling.ensures;
      placed = tt;
    }

pub returns-clause-cause : goal.returns-clause-cause
returns-clause-cause g c =
    let run : Run = shown c.args.run.now in
    record {
      first = λ before. none_falling run
          (none9 run c.in_ok-logs.logs c.in_ok-table.field-0.extra (c.in_ok-logs.ensures ∙ c.requires) c.in_default-extra.is (none_unmatched run before c.in_default.ensures) c.in_ok-table.ensures.first c.in_default-first_differing.ensures)
          c.in_default-first_falling.ensures;
      placed = (
        cells_of c.in_ok-table.field-0.table,
        subst (λ (closed : ClosedState). AllPlaced closed run.receipts (cells_of c.in_ok-table.field-0.table)) (c.in_ok-logs.ensures ∙ c.requires)
            (subst (λ (v : Option CallPlace). IfNone v (AllPlaced c.in_ok-logs.logs run.receipts (cells_of c.in_ok-table.field-0.table))) c.in_default-extra.is c.in_ok-table.ensures.all),
      );
    }

pub returns-clause-matched : goal.returns-clause-matched
returns-clause-matched g c = c.in_default.ensures
