use Rattle.std.proofs.Common.{subst, ◌∙◌}
use Rattle.tatp_tables.specs.Database.{of_subscriber}
use Rattle.tatp_history.specs.SubscriberEvents.{events_of}
use Rattle.tatp_judge.specs.Leaving.{GoesToEnd}
use Rattle.tatp_judge.specs.Windows.{IsWindowAfter}
use Rattle.tatp_judge.proofs.LeavingLaws.{says_left}
use Rattle.tatp_judge.proofs.window.Window.leads_to.Goals as goal

pub leads_to-requires-clause-reached : goal.leads_to-requires-clause-reached
leads_to-requires-clause-reached c =
    let q = c.requires.window in
    let s = c.args.rows.now.s_id in
    let at = subst (λ standing. GoesToEnd q.0 q.1 s q.2 standing c.go_to_end.new.self) c.in-Explained.is (c.in_ok-go_to_end.ensures.goes q.0 q.1 s q.2 q.3) in
    (of_subscriber q.0 s, events_of q.0 s q.2, at.reached)

pub leads_to-requires-clause-own : goal.leads_to-requires-clause-own
leads_to-requires-clause-own c =
    let q = c.requires.window in
    let s = c.args.rows.now.s_id in
    (subst (λ standing. GoesToEnd q.0 q.1 s q.2 standing c.go_to_end.new.self) c.in-Explained.is (c.in_ok-go_to_end.ensures.goes q.0 q.1 s q.2 q.3)).own

pub leads_to-requires-clause-exact : goal.leads_to-requires-clause-exact
leads_to-requires-clause-exact c = c.go_to_end.ensures.exact ∙ c.requires.exact

pub returns-in-Explained : goal.returns-in-Explained
returns-in-Explained c =
    let s = c.args.rows.now.s_id in
    says_left c.leads_to.result s c.args.rows.now.tables c.go_to_end.new.self (λ u most lines. IsWindowAfter u most s lines c.args.self.now)
    (λ u most lines is. subst (λ standing. GoesToEnd u most s lines standing c.go_to_end.new.self) c.in-Explained.is (c.in_ok-go_to_end.ensures.goes u most s lines is))
    c.leads_to.ensures.explained c.leads_to.ensures.unexplained c.leads_to.ensures.undecided

pub returns-in-Unexplained : goal.returns-in-Unexplained
returns-in-Unexplained c = λ u most lines is.
    let s = c.args.rows.now.s_id in
    (subst (λ standing. GoesToEnd u most s lines standing c.go_to_end.new.self) c.in-Unexplained.is (c.in_ok-go_to_end.ensures.goes u most s lines is)) c.args.rows.now.tables

pub returns-in-Undecided : goal.returns-in-Undecided
returns-in-Undecided c = λ u most lines is.
    let s = c.args.rows.now.s_id in
    subst (λ standing. GoesToEnd u most s lines standing c.go_to_end.new.self) c.in-Undecided.is (c.in_ok-go_to_end.ensures.goes u most s lines is)
