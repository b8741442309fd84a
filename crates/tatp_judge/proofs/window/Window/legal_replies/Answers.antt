use Rattle.std.proofs.Common.{◌≡◌, ◌↔◌, List, [], ◌++◌, subst, sym, ◌∙◌, eqb-true, vec_len}
use Rattle.std.proofs.lemmas.Result.{IfOk-weaker}
use Rattle.std.proofs.lemmas.Option.{IfSome_then}
use Rattle.std.specs.List.{AllByRecursion}
use Rattle.std.specs.Option.{IfSome}
use Rattle.tatp_tables.specs.Database.{Database, of_subscriber}
use Rattle.tatp_calls.specs.declared.reply.Reply.{Reply}
use Rattle.tatp_history.specs.declared.event.Event.{Event}
use Rattle.tatp_history.specs.Events.{IsAnsweredAt, asked_in}
use Rattle.tatp_history.specs.Histories.{IsIn, IsStrictlySerializable}
use Rattle.tatp_history.specs.Prefixes.{calls_by}
use Rattle.tatp_linearization.specs.Cut.{AreWindow}
use Rattle.tatp_linearization.specs.Held.{IsAcceptedEvent}
use Rattle.tatp_linearization.specs.Legal.{with_call}
use Rattle.tatp_linearization.specs.Listed.{AreEachOnce, IsListed}
use Rattle.tatp_linearization.specs.Reached.{AreReached}
use Rattle.tatp_linearization.specs.Single.{answered_with}
use Rattle.tatp_judge.proofs.ClosingLaws.{is_window, none_left}
use Rattle.tatp_judge.proofs.LegalReplyLaws.{empty_spent, filled_events, filled_window, spent_replies, window_legal}
use Rattle.tatp_judge.proofs.window.Window.legal_replies.Goals as goal

pub returns-then-is_empty : goal.returns-then-is_empty
returns-then-is_empty c =
    let w = c.args.self.now in
    let none : w.events.items ≡ [] = none_left w.events.items (sym w.events.ok.0 ∙ eqb-true (vec_len w.events) 0 (sym c.is_empty.ensures ∙ c.if-is_empty.true)) in
    IfOk-weaker c.only_reply.result _ _ (λ found h. IfSome_then found h (λ legal told u most s lines within fails kept.
    spent_replies u s lines c.args.line w legal.call legal.replies.items within fails (empty_spent u most s lines c.args.line w within fails none kept) told)) c.only_reply.ensures

pub legal_replies-requires-clause-reached : goal.legal_replies-requires-clause-reached
legal_replies-requires-clause-reached c =
    let q = c.requires in
    let w = c.args.self.now in
    let is = filled_window q.0 q.1 q.2 q.3 w (filled_events w.events.items c.is_empty.result (vec_len w.events) w.events.ok.0 c.is_empty.ensures c.if-is_empty.false) q.6 in
    (of_subscriber q.0 q.2, is.before, is.reached)

pub legal_replies-requires-clause-accepted : goal.legal_replies-requires-clause-accepted
legal_replies-requires-clause-accepted c =
    let q = c.requires in
    let w = c.args.self.now in
    let is = filled_window q.0 q.1 q.2 q.3 w (filled_events w.events.items c.is_empty.result (vec_len w.events) w.events.ok.0 c.is_empty.ensures c.if-is_empty.false) q.6 in
    subst (AllByRecursion IsAcceptedEvent) (sym c.as_slice-events.ensures.value) is.accepted

pub returns-in-Some-found : goal.returns-in-Some-found
returns-in-Some-found c = λ u most s lines within fails kept.
    let w = c.args.self.now in
    let line = c.args.line in
    let x = c.in-Some.x in
    let events = c.as_slice-events.result.now in
    let same = c.as_slice-events.ensures.value in
    let here : IsIn x (asked_in events) × IsAnsweredAt line x.outcome = c.in-Some.ensures in
    let is = filled_window u most s lines w (filled_events w.events.items c.is_empty.result (vec_len w.events) w.events.ok.0 c.is_empty.ensures c.if-is_empty.false) kept in
    let legal : (v : Database) (past : List Event) → AreReached v past w.explanations → AreWindow past events
    → (reply : Reply) → IsListed reply c.in-Some-found.replies.items ↔ IsStrictlySerializable v (asked_in past ++ with_call (answered_with x line reply) (calls_by line (asked_in events)))
    = subst (λ found. IfSome found (λ legal. (v : Database) (past : List Event) → AreReached v past w.explanations → AreWindow past events
    → (reply : Reply) → IsListed reply legal.items ↔ IsStrictlySerializable v (asked_in past ++ with_call (answered_with x line reply) (calls_by line (asked_in events))))) c.in-Some-found.is c.in_ok-found-in-Some.ensures.legal in
    let once : AreEachOnce c.in-Some-found.replies.items = subst (λ found. IfSome found (λ legal. AreEachOnce legal.items)) c.in-Some-found.is c.in_ok-found-in-Some.ensures.once in
    let exact = legal (of_subscriber u s) is.before is.reached (subst (AreWindow is.before) (sym same) (is_window u most s lines w is)) in
    window_legal u most s lines line w x c.in-Some-found.replies.items is within fails (subst (λ es. IsIn x (asked_in es)) same here.0) here.1
    (subst (λ es. (reply : Reply) → IsListed reply c.in-Some-found.replies.items ↔ IsStrictlySerializable (of_subscriber u s) (asked_in is.before ++ with_call (answered_with x line reply) (calls_by line (asked_in es)))) same exact) once
