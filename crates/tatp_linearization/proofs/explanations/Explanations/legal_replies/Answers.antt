use Rattle.std.proofs.Common.{◌≡◌, List, ◌++◌, Err, sym, ap, ◌∙◌, subst, inl, inr}
use Rattle.std.specs.List.{AllByRecursion}
use Rattle.std.proofs.lemmas.Result.{IfOk-weaker}
use Rattle.std.proofs.lemmas.Option.{IfSome_then}
use Rattle.tatp_calls.specs.declared.call.Call.{Call}
use Rattle.tatp_calls.specs.declared.reply.Reply.{Reply}
use Rattle.tatp_calls.specs.Transactions.{transaction}
use Rattle.tatp_history.specs.Configurations.{Configuration}
use Rattle.tatp_linearization.specs.declared.configuration.Configuration.{Configuration as Held}
use Rattle.tatp_linearization.specs.Possible.{AreMoreThan, NeedMore}
use Rattle.tatp_linearization.specs.Held.{AreApart, Has, HoldsOfOne, IsAcceptedEvent}
use Rattle.tatp_linearization.specs.Cut.{events_by}
use Rattle.tatp_linearization.specs.Single.{answered_with}
use Rattle.tatp_linearization.specs.Legal.{MayLeave, all_calls, events_with}
use Rattle.tatp_linearization.specs.Leaving.{AreAcceptedCalls, AreClosed, without_calls}
use Rattle.tatp_linearization.specs.Listed.{AreSifted, IsListed}
use Rattle.tatp_linearization.specs.Searched.{searched_events}
use Rattle.tatp_linearization.proofs.CutLaws.{accepted_by}
use Rattle.tatp_linearization.proofs.LegalLaws.{accepted_in, all_accepted, legal_exact}
use Rattle.tatp_linearization.proofs.SearchedLaws.{searched_left}
use Rattle.tatp_linearization.proofs.explanations.Explanations.legal_replies.Goals as goal

pub searched-requires : goal.searched-requires
searched-requires c = record { some = c.requires.reached.2.some }

pub searched_call-call-requires : goal.searched_call-call-requires
searched_call-call-requires c = record { some = c.requires.reached.2.some }

pub rows_left-requires : goal.rows_left-requires
rows_left-requires c =
    let items = c.args.self.now.configurations.items in
    let told = c.as_slice.result.now in
    let accepted : AllByRecursion IsAcceptedEvent c.as_slice.result.now = subst (AllByRecursion IsAcceptedEvent) (sym c.as_slice.ensures.value) (c.in_ok-told.ensures.accepted c.requires.accepted) in
    let calls_are : c.as_slice-2.result.now ≡ all_calls items told = c.as_slice-2.ensures.value ∙ (c.in_ok-calls.ensures ∙ ap (λ cs. all_calls cs told) c.as_slice-set.ensures.value) in
    record { accepted = subst AreAcceptedCalls (sym calls_are) (all_accepted items told c.requires.reached.2.kept.ready accepted) }

pub returns-in-Err-MoreThanMost-clause-unknown : goal.returns-in-Err-MoreThanMost-clause-unknown
returns-in-Err-MoreThanMost-clause-unknown c = λ _ u past reached.
    let items = c.args.self.now.configurations.items in
    let most = c.args.most_rows in
    let e = c.args.self.now.exact in
    let v = reached.from in
    let told : c.as_slice.result.now ≡ searched_events e v.facilities c.args.events.now = c.as_slice.ensures.value ∙ c.in_ok-told.ensures.searched u past reached in
    let calls_are : c.as_slice-2.result.now ≡ all_calls items (searched_events e v.facilities c.args.events.now)
    = c.as_slice-2.ensures.value ∙ (c.in_ok-calls.ensures ∙ (ap (λ cs. all_calls cs c.as_slice.result.now) c.as_slice-set.ensures.value ∙ ap (all_calls items) told)) in
    let apart = reached.kept.apart in
    let many = c.in-Err-MoreThanMost.ensures.many (ap Err c.in-Err-MoreThanMost.field-0-is) apart.0 (subst (AreApart apart.0) (sym c.as_slice-set.ensures.value) apart.1) in
    inl (searched_left e u v past c.args.events.now items most reached.begins reached.kept
    (subst (λ calls. AreMoreThan most (HoldsOfOne (MayLeave calls) items)) calls_are (subst (λ cs. AreMoreThan most (HoldsOfOne (MayLeave c.as_slice-2.result.now) cs)) c.as_slice-set.ensures.value many)))

pub replies_on-requires : goal.replies_on-requires
replies_on-requires c = c.searched_call-call.ensures.accepted (accepted_in c.args.x.now c.args.events.now c.requires.accepted c.requires.there)

pub legal_of-requires-clause-accepted : goal.legal_of-requires-clause-accepted
legal_of-requires-clause-accepted c = subst (AllByRecursion IsAcceptedEvent) (sym (c.as_slice-4.ensures.value ∙ c.in_ok-cut.ensures)) (accepted_by c.args.at c.args.events.now c.requires.accepted)

pub legal_of-requires-clause-call : goal.legal_of-requires-clause-call
legal_of-requires-clause-call c = accepted_in c.args.x.now c.args.events.now c.requires.accepted c.requires.there

pub returns-clause-legal : goal.returns-clause-legal
returns-clause-legal c =
    let own = c.args.self.now in
    let items = c.args.self.now.configurations.items in
    let events = c.args.events.now in
    let x = c.args.x.now in
    let rows = c.in-Ok.rows.items in
    let replies = c.in_ok-replies.replies.items in
    let cut : c.as_slice-4.result.now ≡ events_by c.args.at events = c.as_slice-4.ensures.value ∙ c.in_ok-cut.ensures in
    let starts = subst (λ (cs : List Held). (b : Configuration) → Has cs b → Has rows (without_calls b)) c.as_slice-set.ensures.value c.in-Ok.ensures.starts in
    let listed = subst (λ (cs : List Held). (d : Configuration) → Has cs d → IsListed (transaction c.searched_call-call.result d.rows).reply replies) c.as_slice-3.ensures.value c.in_ok-replies.ensures in
    IfOk-weaker c.legal_of.result _ _ (λ found h. IfSome_then found h (λ legal sifted u past reached window.
    let fs = reached.from.facilities in
    let told : c.as_slice.result.now ≡ searched_events own.exact fs events = c.as_slice.ensures.value ∙ c.in_ok-told.ensures.searched u past reached in
    let calls_are : c.as_slice-2.result.now ≡ all_calls items (searched_events own.exact fs events)
    = c.as_slice-2.ensures.value ∙ (c.in_ok-calls.ensures ∙ (ap (λ cs. all_calls cs c.as_slice.result.now) c.as_slice-set.ensures.value ∙ ap (all_calls items) told)) in
    let closed = subst (λ calls. AreClosed calls rows) calls_are c.in-Ok.ensures.closed in
    let heard = subst (λ (call : Call). (d : Configuration) → Has rows d → IsListed (transaction call d.rows).reply replies) (c.searched_call-call.ensures.searched u past reached) listed in
    legal_exact own u past events x c.args.at rows replies legal.items reached window c.requires.there c.requires.answered starts closed heard
    (subst (λ es. AreSifted own (λ (reply : Reply). events_with (answered_with x c.args.at reply) es) replies legal.items) cut
    (subst (λ rs. AreSifted own (λ (reply : Reply). events_with (answered_with x c.args.at reply) c.as_slice-4.result.now) rs legal.items) c.as_slice-5.ensures.value sifted))
    )) c.legal_of.ensures.sifted

pub returns-clause-unknown : goal.returns-clause-unknown
returns-clause-unknown c = λ is u past reached.
    let need = c.legal_of.ensures.unknown is u past reached in
    inr (need.0, subst (λ es. NeedMore c.args.self.now.most u (past ++ events_with (answered_with c.args.x.now c.args.at need.0) es)) (c.as_slice-4.ensures.value ∙ c.in_ok-cut.ensures) need.1)
