use Rattle.std.proofs.Common.{◌++◌, ◌∷◌, [], length, ap, ◌∙◌}
use Rattle.std.specs.Int.{w16, to_be_bytes}
use Rattle.tatp_loader.specs.ModuleBytes.{code_bytes}
use Rattle.tatp_loader.proofs.SavingLaws.{procedure_pushed}
use Rattle.tatp_loader.proofs.saving.push_procedure.Goals as goal

pub returns : goal.returns
returns c =
    let p = c.args.procedure.now in
    let name = c.as_bytes-name.ensures.value ∙ c.name.ensures.value in
    procedure_pushed c.args.bytes.now.items c.push.new.self.items c.extend_from_slice.new.self.items c.push-2.new.self.items c.extend_from_slice-2.new.self.items c.push_code.new.bytes.items p
    (c.in_ok-push.ensures.items ∙ ap (λ x. c.args.bytes.now.items ++ length x ∷ []) name)
    (c.in_ok-extend_from_slice.ensures.items ∙ ap (λ x. c.push.new.self.items ++ x) name)
    (c.in_ok-push-2.ensures.items ∙ ap (λ x. c.extend_from_slice.new.self.items ++ x ∷ []) c.arity.ensures.value)
    (c.in_ok-extend_from_slice-2.ensures.items ∙ ap (λ x. c.push-2.new.self.items ++ x) c.to_be_bytes.ensures ∙ ap (λ x. c.push-2.new.self.items ++ to_be_bytes w16 (length x)) c.code-code.ensures.value)
    (c.in_ok-push_code.ensures ∙ ap (λ x. c.extend_from_slice-2.new.self.items ++ code_bytes x) c.code-code.ensures.value)
