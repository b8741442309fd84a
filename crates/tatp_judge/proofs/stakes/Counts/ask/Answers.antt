use Rattle.std.proofs.Common.{arith, sym, ◌∙◌, length, ◌+◌, refl}
use Rattle.tatp_judge.specs.declared.stakes.Counts.{Counts}
use Rattle.tatp_judge.proofs.CountLaws.{few_calls}
use Rattle.tatp_judge.proofs.CountedLaws.{asked_of_none, asked_of_one}
use Rattle.tatp_judge.proofs.stakes.Counts.ask.Goals as goal

pub overflow_add-self : goal.overflow_add-self
overflow_add-self c = let q = c.requires in let few = few_calls q.2 in omega (arith, q.4.asked_is, few, q.3.noted.read.room)

pub ask_on-requires-clause-others : goal.ask_on-requires-clause-others
ask_on-requires-clause-others c = let q = c.requires in let few = (c.others_on.ensures q.0 q.1 q.2 q.3).few in omega (arith, few, q.3.noted.read.room)

pub returns-in-Some-clause-calls : goal.returns-in-Some-clause-calls
returns-in-Some-clause-calls c = λ u most lines followed counted.
    let named = sym (c.subscriber_of.ensures.named u (length c.args.judge.now.windows.items) followed.noted.read.directory_is) ∙ c.in-Some.is in
    asked_of_one u lines c.args.client c.args.call.now c.args.self.now c.ask_on.new.self counted c.ask_on.ensures.asked c.ask_on.ensures.answered c.ask_on.ensures.aborted c.in-Some.s_id c.others_on.result named
    (c.others_on.ensures u most lines followed) c.ask_on.ensures.called c.ask_on.ensures.subscribers c.ask_on.ensures.overlapped c.ask_on.ensures.widest

pub returns-in_default-clause-calls : goal.returns-in_default-clause-calls
returns-in_default-clause-calls c = λ u most lines followed counted.
    let named = sym (c.subscriber_of.ensures.named u (length c.args.judge.now.windows.items) followed.noted.read.directory_is) ∙ c.in_default.is in
    let old = c.args.self.now in
    let new : Counts = record { asked = old.asked + 1; answered = old.answered; aborted = old.aborted; called = old.called; subscribers = old.subscribers; overlapped = old.overlapped; conflicts = old.conflicts; widest = old.widest } in
    asked_of_none u lines c.args.client c.args.call.now old new counted refl refl refl named refl refl refl refl
