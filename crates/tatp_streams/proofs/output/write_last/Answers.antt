use Rattle.std.proofs.Common.{length}
use Rattle.std.proofs.Math.Seq.{take-length}
use Rattle.tatp_streams.proofs.StreamLaws.{appends_then_keeps}
use Rattle.tatp_streams.proofs.output.write_last.Goals as goal

pub returns-in-Err-clause-front : goal.returns-in-Err-clause-front
returns-in-Err-clause-front g c =
    (length c.args.bytes.now, rw take-length (appends_then_keeps _ _ _ _ c.in_ok-write_out.ensures.ok c.flush.ensures.bytes))
