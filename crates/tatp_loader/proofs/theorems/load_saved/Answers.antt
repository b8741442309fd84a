use Rattle.std.proofs.Common.{◌≡◌, ◌∙◌, true, ap, subst}
use Rattle.std.specs.Prelude.{All}
use Rattle.tatp_encoding.specs.Modules.{is_module}
use Rattle.tatp_loader.specs.ModuleBytes.{HasInstrs}
use Rattle.tatp_loader.proofs.theorems.load_saved.Goals as goal

pub returns : goal.returns
returns c =
    let is = subst (λ m. is_module m ≡ true) c.module.ensures.value c.procs.ensures.module in
    let instrs = subst (All HasInstrs) (c.procs.ensures.value ∙ ap (λ m. m.procedures) c.module.ensures.value) c.have_instrs.ensures in
    c.load.ensures.only c.args.loaded.now is instrs c.module.ensures.lawful (c.deref.ensures.value ∙ c.in_ok-bytes.ensures)
