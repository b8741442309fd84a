use Rattle.std.specs.Prelude.{◌≡◌, IsTrue}
use Rattle.std.proofs.Common.{rules, sym, ap, ◌∙◌}
use Rattle.tatp_encoding.specs.Spelling.{spelling}
use Rattle.tatp_procs.proofs.CodeLaws.{spelled_once}
use Rattle.tatp_procs.proofs.procedures.is_instr.Goals as goal

pub returns : goal.returns
returns c =
    let bytes : (IsTrue c.eq.result → c.encode.result ≡ c.encode-2.result) × (c.encode.result ≡ c.encode-2.result → IsTrue c.eq.result) = search rules in (
      λ h. spelled_once c.args.instr.now c.args.other.now c.encode.ensures.within c.encode-2.ensures.within (sym c.encode.ensures.value ∙ bytes.0 h ∙ c.encode-2.ensures.value),
      λ same. bytes.1 (c.encode.ensures.value ∙ ap spelling same ∙ sym c.encode-2.ensures.value),
    )
