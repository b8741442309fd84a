use Rattle.std.proofs.Common.{List, length, sym, ◌∙◌, ap, subst}
use Rattle.std.specs.List.{AllByRecursion}
use Rattle.std.proofs.lemmas.Result.{IfOk-weaker}
use Rattle.tatp_history.specs.declared.event.Event.{Event}
use Rattle.tatp_linearization.specs.Held.{IsAcceptedEvent, seen}
use Rattle.tatp_linearization.proofs.SearchedLaws.{first_possible, same_events, searched_accepted, searched_length}
use Rattle.tatp_linearization.proofs.explanations.Explanations.searched.Goals as goal

pub returns-clause-searched : goal.returns-clause-searched
returns-clause-searched c = IfOk-weaker c.searched_events.result _ _ (λ told is u past reached.
    let own = c.args.self.now in
    let first = c.index.result.now in
    is ∙ same_events own.exact u reached.from past (seen first) reached.begins
    (first_possible own.exact reached.from past own.configurations.items first reached.kept c.requires.some c.index.ensures) c.args.events.now) c.searched_events.ensures

pub returns-clause-accepted : goal.returns-clause-accepted
returns-clause-accepted c = IfOk-weaker c.searched_events.result _ _ (λ told is accepted.
    subst (AllByRecursion IsAcceptedEvent) (sym is) (searched_accepted c.args.self.now.exact c.index.result.now.home.tables.facilities c.args.events.now accepted)) c.searched_events.ensures

pub returns-clause-count : goal.returns-clause-count
returns-clause-count c = IfOk-weaker c.searched_events.result _ _ (λ told is.
    ap (λ (es : List Event). length es) is ∙ searched_length c.args.self.now.exact c.index.result.now.home.tables.facilities c.args.events.now) c.searched_events.ensures
