use Rattle.std.proofs.Common.{◌++◌, ◌∷◌, [], ◌∙◌, sym, ap, subst, refl}
use Rattle.tatp_history.specs.declared.line.Line.{Line}
use Rattle.tatp_history.specs.declared.line.Line.TheVariants.{End, Abort, Lost}
use Rattle.tatp_history.specs.HistoryLines.{client_of}
use Rattle.tatp_judge.specs.Conflicts.{HasConflicts, HasConflictsOfOthers}
use Rattle.tatp_judge.proofs.ConflictLaws.{none_asked_on}
use Rattle.tatp_judge.proofs.conflicts.Conflicts.count.Goals as goal

pub ask-requires : goal.ask-requires
ask-requires c =
    let q = c.requires in
    (q.0, q.1, q.2, q.3, subst (λ k. HasConflictsOfOthers q.0 q.2 k c.end.new.self) (c.client_of.ensures ∙ ap client_of c.in-Ask.is) (c.end.ensures q.0 q.1 q.2 q.3 q.4))

pub returns-in-Ask : goal.returns-in-Ask
returns-in-Ask c = λ u most lines followed has.
    let others = subst (λ k. HasConflictsOfOthers u lines k c.end.new.self) (c.client_of.ensures ∙ ap client_of c.in-Ask.is) (c.end.ensures u most lines followed has) in
    subst (λ line. HasConflicts u (lines ++ line ∷ []) c.ask.new.self) (sym c.in-Ask.is) (c.ask.ensures u most lines followed others)

pub returns-in-End : goal.returns-in-End
returns-in-End c = λ u most lines followed has.
    let here : Line = End c.in-End.client c.in-End.recorded in
    let others = subst (λ k. HasConflictsOfOthers u lines k c.end.new.self) (c.client_of.ensures ∙ ap client_of c.in-End.is) (c.end.ensures u most lines followed has) in
    subst (λ line. HasConflicts u (lines ++ line ∷ []) c.end.new.self) (sym c.in-End.is) (none_asked_on u lines here c.end.new.self (λ s number opened. refl) (λ s. refl) others)

pub returns-in-Abort : goal.returns-in-Abort
returns-in-Abort c = λ u most lines followed has.
    let here : Line = Abort c.in-Abort.client in
    let others = subst (λ k. HasConflictsOfOthers u lines k c.end.new.self) (c.client_of.ensures ∙ ap client_of c.in-Abort.is) (c.end.ensures u most lines followed has) in
    subst (λ line. HasConflicts u (lines ++ line ∷ []) c.end.new.self) (sym c.in-Abort.is) (none_asked_on u lines here c.end.new.self (λ s number opened. refl) (λ s. refl) others)

pub returns-in-Lost : goal.returns-in-Lost
returns-in-Lost c = λ u most lines followed has.
    let here : Line = Lost c.in-Lost.client in
    let others = subst (λ k. HasConflictsOfOthers u lines k c.end.new.self) (c.client_of.ensures ∙ ap client_of c.in-Lost.is) (c.end.ensures u most lines followed has) in
    subst (λ line. HasConflicts u (lines ++ line ∷ []) c.end.new.self) (sym c.in-Lost.is) (none_asked_on u lines here c.end.new.self (λ s number opened. refl) (λ s. refl) others)
