use Rattle.std.proofs.Common.{◌∙◌, sym, arith}
use Rattle.tatp_calls.proofs.ReadingLaws.{no_values_bad, value_read, no_values_long}
use Rattle.tatp_calls.proofs.values.read_values.Goals as goal

pub returns-in_err-values : goal.returns-in_err-values
returns-in_err-values g c =
    c.from_residual-in_err-values.ensures
    ∙ sym (no_values_bad c.args.columns.now c.args.fields.now c.loop-place.place c.loop-place.values c.loop-place.fields c.next.new.self c.in_ok-next.field-0.now c.loop-place.invariant (omega (arith, c.told-columns, c.loop-place-test.true)) c.in_ok-next.ensures.field (sym c.in_err-values.ensures))

pub loop-place-preserved : goal.loop-place-preserved
loop-place-preserved g c =
    value_read c.args.columns.now c.args.fields.now c.loop-place.place c.loop-place.values c.loop-place.fields c.next.new.self c.in_ok-next.field-0.now c.in_ok-values.field-0 c.loop-place.invariant (omega (arith, c.told-columns, c.loop-place-test.true)) c.in_ok-next.ensures.field (sym c.in_ok-values.ensures)

pub returns-in-Some : goal.returns-in-Some
returns-in-Some g c =
    sym (no_values_long c.args.columns.now c.args.fields.now c.loop-place.place c.loop-place.values c.loop-place.fields c.next-2.new.self c.in-Some.field-0.now c.loop-place.invariant (omega (arith, c.told-columns, c.loop-place-test.false)) c.in-Some.ensures.field)
