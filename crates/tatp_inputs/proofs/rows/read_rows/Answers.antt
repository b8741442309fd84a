use Rattle.std.specs.Prelude.{◌≡◌, Ok}
use Rattle.std.proofs.lemmas.Result.{IfErr-weaker, IfOk-weaker, on_ok_weaker}
use Rattle.tatp_inputs.specs.Refusing.{RefusesReading}
use Rattle.tatp_inputs.proofs.DotLaws.{input_within, of_rows}
use Rattle.tatp_inputs.proofs.rows.read_rows.Goals as goal

pub returns-clause-rows : goal.returns-clause-rows
returns-clause-rows g c = IfOk-weaker c.read_rows_to_end.result _ _ (λ rows h. of_rows _ c.args.input_limit (g.R.Read.remaining c.args.reader.now) (λ r. r ≡ Ok rows) c.new-lines.ensures h) c.read_rows_to_end.ensures.rows

pub returns-clause-limit : goal.returns-clause-limit
returns-clause-limit g c = on_ok_weaker c.read_rows_to_end.result (λ h. input_within _ c.args.input_limit (g.R.Read.remaining c.args.reader.now) c.new-lines.ensures h) c.read_rows_to_end.ensures.limit

pub returns-clause-faults : goal.returns-clause-faults
returns-clause-faults g c = IfErr-weaker c.read_rows_to_end.result _ _ (λ fault h. of_rows _ c.args.input_limit (g.R.Read.remaining c.args.reader.now) (λ r. RefusesReading r fault) c.new-lines.ensures h) c.read_rows_to_end.ensures.faults
