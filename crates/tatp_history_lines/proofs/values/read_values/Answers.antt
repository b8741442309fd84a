use Rattle.std.proofs.Common.{◌∙◌, sym, ap, slice_get}
use Rattle.tatp_calls.specs.ReplyText.{answer_columns}
use Rattle.tatp_history_lines.proofs.ValuesLaws.{bad_left, too_many_left}
use Rattle.tatp_history_lines.proofs.values.read_values.Goals as goal

pub returns-in_err-column : goal.returns-in_err-column
returns-in_err-column c =
    let columns = answer_columns c.args.call.now in
    rw c.from_residual.ensures (too_many_left columns c.args.fields.now c.fields.values.items c.fields.fields c.next.new.self c.in-Some.field.now c.fields.invariant c.in-Some.ensures.field
    (ap (slice_get columns) (sym c.len.ensures.value) ∙ sym c.in_err-column.ensures.column))

pub returns-in_err-value : goal.returns-in_err-value
returns-in_err-value c =
    let columns = answer_columns c.args.call.now in
    rw c.from_residual-in_err-value.ensures (bad_left columns c.args.fields.now c.fields.values.items c.fields.fields c.next.new.self c.in-Some.field.now c.in_ok-column.column c.fields.invariant c.in-Some.ensures.field
    (ap (slice_get columns) (sym c.len.ensures.value) ∙ sym c.in_ok-column.ensures.column) (sym c.in_err-value.ensures))
