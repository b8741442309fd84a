use Rattle.std.proofs.Common.{◌++◌, ◌∙◌, sym, ap, subst, take, length, arith, take-add, length-drop}
use Rattle.std.proofs.lemmas.List.{take_rest}
use Rattle.std.specs.Io.KnownBytes.{Appends}
use Rattle.tatp_streams.proofs.StreamLaws.{appends_both}
use Rattle.tatp_streams.proofs.output.write_out.Goals as goal

pub pieces-preserved : goal.pieces-preserved
pieces-preserved g c =
    let bytes = c.args.bytes.now in
    record {
      within = omega (arith, c.in-Ok.ensures.bound, ap length (take_rest bytes c.pieces.at), length-drop c.pieces.at bytes);
      written = subst (Appends (g.W.Write.contents c.args.writer.now) (g.W.Write.contents c.write.new.self))
          (ap (λ rest. take c.pieces.at bytes ++ take c.in-Ok.count rest) (take_rest bytes c.pieces.at) ∙ sym (take-add c.pieces.at c.in-Ok.count bytes))
          (appends_both _ _ _ _ _ c.pieces.invariant.written c.in-Ok.ensures.bytes);
    }
