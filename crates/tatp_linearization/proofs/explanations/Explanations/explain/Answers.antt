use Rattle.std.proofs.Common.{◌≡◌, ◌<◌, vec_len, List, [], ◌∷◌, ◌++◌, length, Err, refl, sym, ap, ◌∙◌, subst, arith, eqb-true}
use Rattle.std.specs.List.{AllByRecursion}
use Rattle.std.proofs.lemmas.List.{append-nil}
use Rattle.tatp_history.specs.declared.event.Event.{Event}
use Rattle.tatp_history.specs.Histories.{IsStrictlySerializable}
use Rattle.tatp_history.specs.Events.{asked_in, TimesRise, HaveEnds}
use Rattle.tatp_linearization.specs.Held.{AreReady, IsAcceptedEvent}
use Rattle.tatp_linearization.specs.Reached.{AreKept}
use Rattle.tatp_linearization.specs.Searched.{searched_events}
use Rattle.tatp_linearization.proofs.FollowLaws.{positive}
use Rattle.tatp_linearization.proofs.SearchedLaws.{kept_on, more_on, reached_explained, searched_explain, searched_fail}
use Rattle.tatp_linearization.proofs.explanations.Explanations.explain.Goals as goal

nothing : (es : List Event) → length es ≡ 0 → es ≡ []
nothing [] e = refl
nothing (x ∷ es) e = absurd (omega (arith, e))

pub searched-requires : goal.searched-requires
searched-requires c = record { some = c.requires.reached.2.some }

pub returns-then-is_empty-clause-explained : goal.returns-then-is_empty-clause-explained
returns-then-is_empty-clause-explained c = λ _ u past reached rise have.
    let empty : c.args.events.now ≡ [] = nothing c.args.events.now (eqb-true (length c.args.events.now) 0 (sym c.is_empty.ensures ∙ c.if-is_empty.true)) in
    let same : past ++ c.args.events.now ≡ past = ap (λ es. past ++ es) empty ∙ append-nil past in
    subst (λ es. IsStrictlySerializable u (asked_in es)) (sym same) (reached_explained c.args.self.now u past reached (subst TimesRise same rise) (subst HaveEnds same have))

pub after_events-requires-clause-some : goal.after_events-requires-clause-some
after_events-requires-clause-some c =
    let some : 0 < length c.args.events.now = positive (length c.args.events.now) (sym c.is_empty.ensures ∙ c.if-is_empty.false) in
    let same : length c.as_slice-2.result.now ≡ length c.args.events.now = ap length c.as_slice-2.ensures.value ∙ c.in_ok-told.ensures.count in
    omega (arith, same, some)

pub after_events-requires-clause-accepted : goal.after_events-requires-clause-accepted
after_events-requires-clause-accepted c = subst (AllByRecursion IsAcceptedEvent) (sym c.as_slice-2.ensures.value) (c.in_ok-told.ensures.accepted c.requires.accepted)

pub after_events-requires-clause-ready : goal.after_events-requires-clause-ready
after_events-requires-clause-ready c = subst AreReady (sym c.as_slice.ensures.value) c.requires.reached.2.kept.ready

pub returns-then-is_empty-2-clause-unexplained : goal.returns-then-is_empty-2-clause-unexplained
returns-then-is_empty-2-clause-unexplained c = λ _ u past reached rise have.
    let e = c.args.self.now.exact in
    let v = reached.from in
    let told : c.as_slice-2.result.now ≡ searched_events e v.facilities c.args.events.now = c.as_slice-2.ensures.value ∙ c.in_ok-told.ensures.searched u past reached in
    searched_fail e u v reached.begins (past ++ c.args.events.now) c.in-Ok.after.items
    (kept_on e v past c.args.events.now c.as_slice-2.result.now c.in-Ok.after.items told (c.in-Ok.ensures.kept v (searched_events e v.facilities past) (subst (AreKept v (searched_events e v.facilities past)) (sym c.as_slice.ensures.value) reached.kept)))
    rise have (sym c.in-Ok.after.ok.0 ∙ eqb-true (vec_len c.in-Ok.after) 0 (sym c.is_empty-in-Ok.ensures ∙ c.if-is_empty-2.true))

pub returns-in-Ok-clause-explained : goal.returns-in-Ok-clause-explained
returns-in-Ok-clause-explained c = λ _ u past reached rise have.
    let e = c.args.self.now.exact in
    let v = reached.from in
    let told : c.as_slice-2.result.now ≡ searched_events e v.facilities c.args.events.now = c.as_slice-2.ensures.value ∙ c.in_ok-told.ensures.searched u past reached in
    let some : 0 < vec_len c.in-Ok.after = positive (vec_len c.in-Ok.after) (sym c.is_empty-in-Ok.ensures ∙ c.if-is_empty-2.false) in
    searched_explain e u v reached.begins (past ++ c.args.events.now) c.in-Ok.after.items
    (kept_on e v past c.args.events.now c.as_slice-2.result.now c.in-Ok.after.items told (c.in-Ok.ensures.kept v (searched_events e v.facilities past) (subst (AreKept v (searched_events e v.facilities past)) (sym c.as_slice.ensures.value) reached.kept)))
    rise have (omega (arith, some, c.in-Ok.after.ok.0))

pub returns-in-Err-MoreThanMost-clause-undecided : goal.returns-in-Err-MoreThanMost-clause-undecided
returns-in-Err-MoreThanMost-clause-undecided c = λ _ u past reached.
    let e = c.args.self.now.exact in
    let v = reached.from in
    let told : c.as_slice-2.result.now ≡ searched_events e v.facilities c.args.events.now = c.as_slice-2.ensures.value ∙ c.in_ok-told.ensures.searched u past reached in
    more_on e u v c.args.self.now.most past c.args.events.now c.as_slice-2.result.now reached.begins told
    (c.in-Err-MoreThanMost.ensures.many (ap Err c.in-Err-MoreThanMost.field-0-is) v (searched_events e v.facilities past) (subst (AreKept v (searched_events e v.facilities past)) (sym c.as_slice.ensures.value) reached.kept))
