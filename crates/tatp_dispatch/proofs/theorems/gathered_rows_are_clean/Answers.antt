use Rattle.std.proofs.Common.{inr, refl}
use Rattle.tatp_audits.proofs.CleanRows.{pass_from}
use Rattle.tatp_dispatch.specs.Gathered.{gathered_rows}
use Rattle.tatp_dispatch.proofs.OnceLaws.{world_clean}
use Rattle.tatp_dispatch.proofs.theorems.gathered_rows_are_clean.Goals as goal

pub returns : goal.returns
returns c = record {
  clean = λ w h. (world_clean w h).clean;
  verdict = λ w h. inr (pass_from (gathered_rows w) (world_clean w h).clean, refl);
  subscribers = λ w h. (world_clean w h).size;
}
