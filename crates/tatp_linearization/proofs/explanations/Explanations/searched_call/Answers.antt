use Rattle.std.proofs.Common.{◌∙◌}
use Rattle.tatp_linearization.specs.Held.{seen}
use Rattle.tatp_linearization.proofs.SearchedLaws.{first_possible, same_call}
use Rattle.tatp_linearization.proofs.explanations.Explanations.searched_call.Goals as goal

pub returns-clause-searched : goal.returns-clause-searched
returns-clause-searched c = λ u past reached.
    let own = c.args.self.now in
    let first = c.index.result.now in
    c.searched_call.ensures.searched ∙ same_call own.exact u reached.from past (seen first) reached.begins
    (first_possible own.exact reached.from past own.configurations.items first reached.kept c.requires.some c.index.ensures) c.args.call.now
