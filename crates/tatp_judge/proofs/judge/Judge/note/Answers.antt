use Rattle.std.proofs.Common.{suc, length, refl, sym, subst}
use Rattle.tatp_numbers.specs.Listing.{Listing}
use Rattle.tatp_history.specs.declared.line.Line.{Line}
use Rattle.tatp_history.specs.declared.line.Line.TheVariants.{Ask, End, Abort, Lost}
use Rattle.tatp_judge.specs.Population.{IsDirectoryOf}
use Rattle.tatp_judge.specs.Asked.{asked_on}
use Rattle.tatp_judge.specs.Steps.{AreEach, EndsCall, IsNotedBy}
use Rattle.tatp_judge.proofs.JudgeLaws.{then_noted}
use Rattle.tatp_judge.proofs.StepLaws.{asks_nothing, on_ok_four}
use Rattle.tatp_judge.proofs.judge.Judge.note.Goals as goal

pub ask-requires-clause-directory : goal.ask-requires-clause-directory
ask-requires-clause-directory c =
    let d = c.requires.directory in
    let ended = c.in_ok-end.ensures in
    (d.0, subst (λ n. IsDirectoryOf d.0 n c.end.new.self.directory) (sym ended.windows.count) (subst (λ (l : Listing). IsDirectoryOf d.0 (length c.args.self.now.windows.items) l) (sym ended.directory) d.1))

pub returns-in-Ask-clause-noted : goal.returns-in-Ask-clause-noted
returns-in-Ask-clause-noted c =
    let old = c.args.self.now in
    let ended = c.in_ok-end.ensures in
    let line = c.in-Ask.is in
    on_ok_four c.ask.result (λ directory undecided asked windows. λ u d.
    let mid = subst (λ n. IsDirectoryOf u n c.end.new.self.directory) (sym ended.windows.count) (subst (λ (l : Listing). IsDirectoryOf u (length old.windows.items) l) (sym ended.directory) d) in
    subst (λ (l : Line). IsNotedBy u c.args.ended.now c.args.number l old c.ask.new.self) (sym line)
    (then_noted u c.args.ended.now c.args.number (Ask c.in-Ask.client c.in-Ask.call) old c.end.new.self c.ask.new.self ended.directory ended.asked ended.undecided directory undecided (asked u mid)
    (subst (λ (l : Line). AreEach (λ place. EndsCall (asked_on (suc place) c.args.ended.now) c.args.number l) old.windows.items c.end.new.self.windows.items) line ended.windows) (windows u mid)))
    c.ask.ensures.directory c.ask.ensures.undecided c.ask.ensures.asked c.ask.ensures.windows

pub returns-in-End-clause-noted : goal.returns-in-End-clause-noted
returns-in-End-clause-noted c = λ u d.
    let old = c.args.self.now in
    let ended = c.in_ok-end.ensures in
    let line = c.in-End.is in
    let here : Line = End c.in-End.client c.in-End.recorded in
    subst (λ (l : Line). IsNotedBy u c.args.ended.now c.args.number l old c.end.new.self) (sym line)
    (then_noted u c.args.ended.now c.args.number here old c.end.new.self c.end.new.self ended.directory ended.asked ended.undecided refl refl (λ other. refl)
    (subst (λ (l : Line). AreEach (λ place. EndsCall (asked_on (suc place) c.args.ended.now) c.args.number l) old.windows.items c.end.new.self.windows.items) line ended.windows)
    (asks_nothing u c.args.number here c.end.new.self.windows.items (λ s. refl)))

pub returns-in-Abort-clause-noted : goal.returns-in-Abort-clause-noted
returns-in-Abort-clause-noted c = λ u d.
    let old = c.args.self.now in
    let ended = c.in_ok-end.ensures in
    let line = c.in-Abort.is in
    let here : Line = Abort c.in-Abort.client in
    subst (λ (l : Line). IsNotedBy u c.args.ended.now c.args.number l old c.end.new.self) (sym line)
    (then_noted u c.args.ended.now c.args.number here old c.end.new.self c.end.new.self ended.directory ended.asked ended.undecided refl refl (λ other. refl)
    (subst (λ (l : Line). AreEach (λ place. EndsCall (asked_on (suc place) c.args.ended.now) c.args.number l) old.windows.items c.end.new.self.windows.items) line ended.windows)
    (asks_nothing u c.args.number here c.end.new.self.windows.items (λ s. refl)))

pub returns-in-Lost-clause-noted : goal.returns-in-Lost-clause-noted
returns-in-Lost-clause-noted c = λ u d.
    let old = c.args.self.now in
    let ended = c.in_ok-end.ensures in
    let line = c.in-Lost.is in
    let here : Line = Lost c.in-Lost.client in
    subst (λ (l : Line). IsNotedBy u c.args.ended.now c.args.number l old c.end.new.self) (sym line)
    (then_noted u c.args.ended.now c.args.number here old c.end.new.self c.end.new.self ended.directory ended.asked ended.undecided refl refl (λ other. refl)
    (subst (λ (l : Line). AreEach (λ place. EndsCall (asked_on (suc place) c.args.ended.now) c.args.number l) old.windows.items c.end.new.self.windows.items) line ended.windows)
    (asks_nothing u c.args.number here c.end.new.self.windows.items (λ s. refl)))
