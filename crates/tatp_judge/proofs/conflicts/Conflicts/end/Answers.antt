use Rattle.std.proofs.Common.{◌∙◌, sym, refl}
use Rattle.tatp_judge.proofs.ConflictLaws.{none_ended, one_ended, written_within, written_some}
use Rattle.tatp_judge.specs.Asked.{asked_in_all}
use Rattle.tatp_judge.proofs.conflicts.Conflicts.end.Goals as goal

pub end_on-requires-clause-within : goal.end_on-requires-clause-within
end_on-requires-clause-within c =
    let q = c.requires in
    let client = c.args.client in
    written_within q.0 q.2 client (asked_in_all q.0 q.2 client) refl c.args.self.now q.4 c.in-Some.s_id (sym (c.written_by.ensures q.0 q.1 q.2 q.3) ∙ c.in-Some.is)

pub end_on-requires-clause-some : goal.end_on-requires-clause-some
end_on-requires-clause-some c =
    let q = c.requires in
    let client = c.args.client in
    written_some q.0 q.2 client (asked_in_all q.0 q.2 client) refl c.args.self.now q.4 c.in-Some.s_id (sym (c.written_by.ensures q.0 q.1 q.2 q.3) ∙ c.in-Some.is)

pub returns-in-Some : goal.returns-in-Some
returns-in-Some c = λ u most lines followed has.
    let client = c.args.client in
    one_ended u lines client (asked_in_all u lines client) refl c.args.self.now has c.end_on.new.self c.in-Some.s_id (sym (c.written_by.ensures u most lines followed) ∙ c.in-Some.is) c.end_on.ensures.conflicted c.end_on.ensures.writing

pub returns-in_default : goal.returns-in_default
returns-in_default c = λ u most lines followed has.
    let client = c.args.client in
    none_ended u lines client (asked_in_all u lines client) refl c.args.self.now has (sym (c.written_by.ensures u most lines followed) ∙ c.in_default.is)
