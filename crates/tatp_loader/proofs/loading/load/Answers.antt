use Rattle.std.proofs.Common.{ap, subst, ◌∙◌}
use Rattle.tatp_loader.specs.Reading.{Gives, lawful_module_at}
use Rattle.tatp_encoding.proofs.DecodingLaws.{decoded-spelling}
use Rattle.tatp_loader.proofs.AgainLaws.{lawful_again}
use Rattle.tatp_loader.proofs.loading.load.Goals as goal

pub returns-clause-only : goal.returns-clause-only
returns-clause-only c = λ m is instrs lawful e.
    subst (Gives (λ loaded. loaded) c.lawful_module.result) (ap lawful_module_at e ∙ lawful_again decoded-spelling m is instrs lawful) c.lawful_module.ensures.exact
