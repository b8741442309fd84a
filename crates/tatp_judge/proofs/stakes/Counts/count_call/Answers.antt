use Rattle.std.proofs.Common.{◌+◌, true, false, arith, sym, subst, refl, ◌++◌, ◌∷◌, []}
use Rattle.tatp_history.specs.declared.line.Line.TheVariants.{End, Abort, Lost}
use Rattle.tatp_history.specs.HistoryLines.{calls_of}
use Rattle.tatp_judge.specs.declared.stakes.Counts.{Counts}
use Rattle.tatp_judge.specs.Asked.{asked_in_all}
use Rattle.tatp_judge.specs.Counted.{HasCountedCalls}
use Rattle.tatp_judge.proofs.CountLaws.{each_ends, few_calls, one_called, none_if, one_at}
use Rattle.tatp_judge.proofs.CountedLaws.{none_counted}
use Rattle.tatp_judge.proofs.stakes.Counts.count_call.Goals as goal

pub overflow_add-self : goal.overflow_add-self
overflow_add-self c = let q = c.requires in let few = few_calls q.2 in let all = each_ends (calls_of q.2) in omega (arith, all, q.4.answered_is, few, q.3.noted.read.room)

pub overflow_add-self-then-has_call-2 : goal.overflow_add-self-then-has_call-2
overflow_add-self-then-has_call-2 c = let q = c.requires in let few = few_calls q.2 in let all = each_ends (calls_of q.2) in omega (arith, all, q.4.aborted_is, few, q.3.noted.read.room)

pub returns-in-Ask-clause-calls : goal.returns-in-Ask-clause-calls
returns-in-Ask-clause-calls c = λ u most lines followed counted. subst (λ line. HasCountedCalls u (lines ++ line ∷ []) c.ask.new.self) (sym c.in-Ask.is) (c.ask.ensures.calls u most lines followed counted)

pub returns-then-has_call-clause-calls : goal.returns-then-has_call-clause-calls
returns-then-has_call-clause-calls c = λ u most lines followed counted.
    let old = c.args.self.now in
    let client = c.in-End.client in
    let new : Counts = record { asked = old.asked; answered = old.answered + 1; aborted = old.aborted; called = old.called; subscribers = old.subscribers; overlapped = old.overlapped; conflicts = old.conflicts; widest = old.widest } in
    subst (λ line. HasCountedCalls u (lines ++ line ∷ []) new) (sym c.in-End.is)
    (none_counted u lines (End c.in-End.client c.in-End.recorded) (λ s. refl) old new counted (omega arith)
    (let called = one_called (asked_in_all u lines client) true (c.has_call.result) (c.has_call.ensures u most lines followed) in let is = c.if-has_call.true in omega (arith, one_at c.has_call.result true is, called))
    (let none = none_if (asked_in_all u lines client) in omega (arith, none))
    refl refl refl refl)

pub returns-else-has_call-clause-calls : goal.returns-else-has_call-clause-calls
returns-else-has_call-clause-calls c = λ u most lines followed counted.
    let old = c.args.self.now in
    let client = c.in-End.client in
    let new : Counts = record { asked = old.asked; answered = old.answered; aborted = old.aborted; called = old.called; subscribers = old.subscribers; overlapped = old.overlapped; conflicts = old.conflicts; widest = old.widest } in
    subst (λ line. HasCountedCalls u (lines ++ line ∷ []) new) (sym c.in-End.is)
    (none_counted u lines (End c.in-End.client c.in-End.recorded) (λ s. refl) old new counted (omega arith)
    (let called = one_called (asked_in_all u lines client) true (c.has_call.result) (c.has_call.ensures u most lines followed) in let is = c.if-has_call.false in omega (arith, one_at c.has_call.result false is, called))
    (let none = none_if (asked_in_all u lines client) in omega (arith, none))
    refl refl refl refl)

pub returns-then-has_call-2-clause-calls : goal.returns-then-has_call-2-clause-calls
returns-then-has_call-2-clause-calls c = λ u most lines followed counted.
    let old = c.args.self.now in
    let client = c.in-Abort.client in
    let new : Counts = record { asked = old.asked; answered = old.answered; aborted = old.aborted + 1; called = old.called; subscribers = old.subscribers; overlapped = old.overlapped; conflicts = old.conflicts; widest = old.widest } in
    subst (λ line. HasCountedCalls u (lines ++ line ∷ []) new) (sym c.in-Abort.is)
    (none_counted u lines (Abort c.in-Abort.client) (λ s. refl) old new counted (omega arith)
    (let none = none_if (asked_in_all u lines client) in omega (arith, none))
    (let called = one_called (asked_in_all u lines client) true (c.has_call-in-Abort.result) (c.has_call-in-Abort.ensures u most lines followed) in let is = c.if-has_call-2.true in omega (arith, one_at c.has_call-in-Abort.result true is, called))
    refl refl refl refl)

pub returns-else-has_call-2-clause-calls : goal.returns-else-has_call-2-clause-calls
returns-else-has_call-2-clause-calls c = λ u most lines followed counted.
    let old = c.args.self.now in
    let client = c.in-Abort.client in
    let new : Counts = record { asked = old.asked; answered = old.answered; aborted = old.aborted; called = old.called; subscribers = old.subscribers; overlapped = old.overlapped; conflicts = old.conflicts; widest = old.widest } in
    subst (λ line. HasCountedCalls u (lines ++ line ∷ []) new) (sym c.in-Abort.is)
    (none_counted u lines (Abort c.in-Abort.client) (λ s. refl) old new counted (omega arith)
    (let none = none_if (asked_in_all u lines client) in omega (arith, none))
    (let called = one_called (asked_in_all u lines client) true (c.has_call-in-Abort.result) (c.has_call-in-Abort.ensures u most lines followed) in let is = c.if-has_call-2.false in omega (arith, one_at c.has_call-in-Abort.result false is, called))
    refl refl refl refl)

pub returns-in-Lost-clause-calls : goal.returns-in-Lost-clause-calls
returns-in-Lost-clause-calls c = λ u most lines followed counted.
    let old = c.args.self.now in
    let client = c.in-Lost.client in
    let none = none_if (asked_in_all u lines client) in
    subst (λ line. HasCountedCalls u (lines ++ line ∷ []) old) (sym c.in-Lost.is)
    (none_counted u lines (Lost client) (λ s. refl) old old counted (omega arith) (omega (arith, none)) (omega (arith, none)) refl refl refl refl)
