use Rattle.std.specs.String.{string_bytes}
use Rattle.tatp_calls.proofs.ExtendsLaws.{Extends-printed}
use Rattle.tatp_calls.proofs.PrintingLaws.{value_printed, all_printed}
use Rattle.tatp_calls.proofs.values.push_values.Goals as goal

pub loop-place-preserved : goal.loop-place-preserved
loop-place-preserved c = (
  value_printed c.args.columns.now c.args.values.now _ c.loop-place.place c.column_at.result (string_bytes c.loop-place.text) _ c.loop-place.invariant.0 c.loop-place-test.true c.column_at.ensures c.in_ok-push_spaced.ensures.ok,
  Extends-printed _ _ _ _ c.loop-place.invariant.1 c.in_ok-push_spaced.ensures.ok,
)

pub returns-clause-ok : goal.returns-clause-ok
returns-clause-ok c = all_printed c.args.columns.now c.args.values.now _ c.loop-place.place _ c.loop-place.invariant.0 c.loop-place-test.false
