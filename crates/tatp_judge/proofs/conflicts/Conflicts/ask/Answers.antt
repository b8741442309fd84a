use Rattle.std.proofs.Common.{◌∙◌, arith, sym, length}
use Rattle.tatp_judge.proofs.ConflictLaws.{place_within, read_asked, unnamed_asked, write_asked_on, writing_few}
use Rattle.tatp_judge.proofs.conflicts.Conflicts.ask.Goals as goal

pub read_on-requires-clause-within : goal.read_on-requires-clause-within
read_on-requires-clause-within c =
    let q = c.requires in
    let named = sym (c.subscriber_of.ensures.named q.0 (length c.args.judge.now.windows.items) q.3.noted.read.directory_is) ∙ c.in-Some.is in
    place_within q.0 q.2 c.args.client c.in-Some.s_id c.args.call.now named c.args.self.now q.4

pub read_on-requires-clause-conflicted : goal.read_on-requires-clause-conflicted
read_on-requires-clause-conflicted c = let q = c.requires in let few = q.4.conflicted_few in let room = q.3.noted.read.room in omega (arith, few, room)

pub write_on-requires-clause-within : goal.write_on-requires-clause-within
write_on-requires-clause-within c =
    let q = c.requires in
    let named = sym (c.subscriber_of.ensures.named q.0 (length c.args.judge.now.windows.items) q.3.noted.read.directory_is) ∙ c.in-Some.is in
    place_within q.0 q.2 c.args.client c.in-Some.s_id c.args.call.now named c.args.self.now q.4

pub write_on-requires-clause-writing : goal.write_on-requires-clause-writing
write_on-requires-clause-writing c =
    let q = c.requires in
    let named = sym (c.subscriber_of.ensures.named q.0 (length c.args.judge.now.windows.items) q.3.noted.read.directory_is) ∙ c.in-Some.is in
    let few = writing_few q.0 q.2 c.args.client c.in-Some.s_id c.args.call.now named c.args.self.now q.4 in
    let room = q.3.noted.read.room in
    omega (arith, few, room)

pub write_on-requires-clause-conflicted : goal.write_on-requires-clause-conflicted
write_on-requires-clause-conflicted c = let q = c.requires in let few = q.4.conflicted_few in let room = q.3.noted.read.room in omega (arith, few, room)

pub returns-then-only_reads : goal.returns-then-only_reads
returns-then-only_reads c = λ u most lines followed has.
    let named = sym (c.subscriber_of.ensures.named u (length c.args.judge.now.windows.items) followed.noted.read.directory_is) ∙ c.in-Some.is in
    read_asked u lines c.args.client c.in-Some.s_id c.args.call.now named c.args.self.now has c.read_on.new.self (sym c.only_reads.ensures ∙ c.if-only_reads.true) c.read_on.ensures.writing c.read_on.ensures.conflicted

pub returns-else-only_reads : goal.returns-else-only_reads
returns-else-only_reads c = λ u most lines followed has.
    let named = sym (c.subscriber_of.ensures.named u (length c.args.judge.now.windows.items) followed.noted.read.directory_is) ∙ c.in-Some.is in
    write_asked_on u lines c.args.client c.in-Some.s_id c.args.call.now named c.args.self.now has c.others_on.result (c.others_on.ensures u most lines followed) c.write_on.new.self (sym c.only_reads.ensures ∙ c.if-only_reads.false) c.write_on.ensures.writing c.write_on.ensures.conflicted

pub returns-in_default : goal.returns-in_default
returns-in_default c = λ u most lines followed has.
    unnamed_asked u lines c.args.client c.args.call.now c.args.self.now (sym (c.subscriber_of.ensures.named u (length c.args.judge.now.windows.items) followed.noted.read.directory_is) ∙ c.in_default.is) has
