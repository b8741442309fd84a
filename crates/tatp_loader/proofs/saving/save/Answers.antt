use Rattle.std.proofs.Common.{◌≡◌, ◌++◌, ◌∷◌, [], ◌+◌, take, sym, ap, ◌∙◌, length}
use Rattle.std.proofs.lemmas.Grind.{take_at_read}
use Rattle.std.proofs.lemmas.List.{take_all}
use Rattle.tatp_loader.specs.ModuleBytes.{magic, procedures_bytes}
use Rattle.tatp_loader.proofs.SavingLaws.{no_procedure, one_pushed, all_pushed}
use Rattle.tatp_loader.proofs.saving.save.Goals as goal

pub loop-procedure-init : goal.loop-procedure-init
loop-procedure-init c =
    no_procedure c.args.loaded.now.version c.extend_from_slice.new.self.items c.push.new.self.items (length c.procs-procs.result.now)
    (c.in_ok-extend_from_slice.ensures.items ∙ ap (λ front. front ++ c.magic.result) c.new-bytes.ensures.items ∙ ap (λ front. [] ++ front) (c.magic.ensures ∙ ap magic (c.version.ensures ∙ ap (λ m. m.version) c.module-2.ensures.value)))
    c.in_ok-push.ensures.items

pub loop-procedure-preserved : goal.loop-procedure-preserved
loop-procedure-preserved c =
    let front = take c.loop-procedure.procedure-index c.procs-procs.result.now in
    let more : take (c.loop-procedure.procedure-index + 1) c.procs-procs.result.now ≡ front ++ c.procedure-item.result ∷ [] =
    (take_at_read c.procs-procs.result.now c.loop-procedure.procedure-index c.procedure-item.result c.loop-procedure-test.true).1 ∙ ap (λ x. front ++ x ∷ []) (sym c.procedure-item.is) in
    rw more (one_pushed c.args.loaded.now.version c.loop-procedure.bytes.items c.push_procedure.new.bytes.items (length c.procs-procs.result.now) front c.procedure-item.result c.loop-procedure.invariant c.in_ok-push_procedure.ensures)

pub returns : goal.returns
returns c =
    let all : take c.loop-procedure.procedure-index c.procs-procs.result.now ≡ c.procs-procs.result.now = take_all c.loop-procedure.procedure-index c.procs-procs.result.now c.loop-procedure-test.false in
    all_pushed c.loop-procedure.bytes.items c.args.loaded.now c.procs-procs.result.now
    (c.loop-procedure.invariant ∙ ap (λ procs. magic c.args.loaded.now.version ++ (length c.procs-procs.result.now ∷ procedures_bytes procs)) all)
    (c.procs-procs.ensures.value ∙ ap (λ m. m.procedures) c.module.ensures.value)
