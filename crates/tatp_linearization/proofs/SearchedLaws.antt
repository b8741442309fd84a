-- What is searched in the place of what clients saw has an order exactly where that has one.
use Rattle.std.proofs.Common.{◌≡◌, ◌↔◌, ◌<◌, ℕ, Bool, true, false, List, [], ◌∷◌, ◌++◌, length, get_or, refl, sym, ◌∙◌, ap, subst, arith, inl, inr}
use Rattle.std.specs.List.{AllByRecursion}
use Rattle.std.proofs.lemmas.List.{map-append, length-map}
use Rattle.tatp_tables.specs.Tuples.{Tuples}
use Rattle.tatp_tables.specs.Database.{Database}
use Rattle.tatp_calls.specs.declared.call.Call.{Call}
use Rattle.tatp_calls.specs.declared.reply.Reply.{Reply}
use Rattle.tatp_calls.specs.Transactions.{transaction}
use Rattle.tatp_history.specs.declared.event.Event.{Event}
use Rattle.tatp_history.specs.declared.event.Event.TheVariants.{Asks, Ends}
use Rattle.tatp_history.specs.declared.observed.Outcome.{Outcome}
use Rattle.tatp_history.specs.declared.observed.Observed.{Observed}
use Rattle.tatp_history.specs.Histories.{IsAnswered, IsIn, IsStrictlySerializable, MayHaveReply}
use Rattle.tatp_history.specs.Events.{asked_in, TimesRise, HaveEnds}
use Rattle.tatp_history.specs.Configurations.{Configuration}
use Rattle.tatp_history.specs.Cleared.{cleared, cleared_call, cleared_event, cleared_events}
use Rattle.tatp_history.proofs.ClearedEventLaws.{asked_cleared, have_cleared, rise_apart, rise_cleared}
use Rattle.tatp_history.proofs.ClearedOrderLaws.{serializable_cleared}
use Rattle.tatp_linearization.specs.declared.explanations.Explanations.{Explanations}
use Rattle.tatp_linearization.specs.declared.configuration.Configuration.{Configuration as Held}
use Rattle.tatp_linearization.specs.Possible.{AreMoreThan, IsPossible, NeedMore}
use Rattle.tatp_linearization.specs.Held.{IsAcceptedEvent, seen}
use Rattle.tatp_linearization.specs.Covering.{OneStandsFor, StandsFor}
use Rattle.tatp_linearization.specs.Cut.{AreWindow, events_by}
use Rattle.tatp_linearization.specs.Single.{answered_with, events_alone}
use Rattle.tatp_linearization.specs.Legal.{MayBeLeft, events_with}
use Rattle.tatp_linearization.specs.Reached.{AreKept, AreReached}
use Rattle.tatp_linearization.specs.Searched.{IsSearchedFrom, searched, searched_call, searched_calls, searched_events}
use Rattle.tatp_linearization.proofs.SingleLaws.{alone_explained, alone_kept}
use Rattle.tatp_linearization.proofs.CoveringLaws.{seen_stands}
use Rattle.tatp_linearization.proofs.FollowLaws.{some_explain, none_explains}
use Rattle.tatp_linearization.proofs.ClearedLaws.{by_cleared, need_more_cleared, possible_facilities, window_accepted, with_cleared}
use Rattle.tatp_linearization.proofs.ClearedLeavingLaws.{left_more}

-- ---- events
pub searched_both : (exact : Bool) (fs : Tuples) (past events : List Event) → searched_events exact fs (past ++ events) ≡ searched_events exact fs past ++ searched_events exact fs events
searched_both true fs past events = refl
searched_both false fs past events = map-append (cleared_event fs) past events

pub searched_nothing : (exact : Bool) (fs : Tuples) → searched_events exact fs [] ≡ []
searched_nothing true fs = refl
searched_nothing false fs = refl

pub searched_asked : (exact : Bool) (fs : Tuples) (events : List Event) → asked_in (searched_events exact fs events) ≡ searched_calls exact fs (asked_in events)
searched_asked true fs events = refl
searched_asked false fs events = asked_cleared fs events

pub searched_length : (exact : Bool) (fs : Tuples) (events : List Event) → length (searched_events exact fs events) ≡ length events
searched_length true fs events = refl
searched_length false fs events = length-map events (cleared_event fs)

pub searched_rises : (exact : Bool) (fs : Tuples) (events : List Event) → TimesRise events → TimesRise (searched_events exact fs events)
searched_rises true fs events h = h
searched_rises false fs events h = rise_cleared fs events h

pub searched_ends : (exact : Bool) (fs : Tuples) (events : List Event) → HaveEnds events → HaveEnds (searched_events exact fs events)
searched_ends true fs events h = h
searched_ends false fs events h = have_cleared fs events h

pub searched_window : (exact : Bool) (fs : Tuples) (past events : List Event) → AreWindow past events → AreWindow (searched_events exact fs past) (searched_events exact fs events)
searched_window exact fs past events window = record {
  rise = subst TimesRise (searched_both exact fs past events) (searched_rises exact fs (past ++ events) window.rise);
  own = searched_ends exact fs past window.own;
  ends = subst HaveEnds (searched_both exact fs past events) (searched_ends exact fs (past ++ events) window.ends);
}

pub searched_accepted : (exact : Bool) (fs : Tuples) (events : List Event) → AllByRecursion IsAcceptedEvent events → AllByRecursion IsAcceptedEvent (searched_events exact fs events)
searched_accepted true fs events h = h
searched_accepted false fs events h = window_accepted fs events h

-- a call that is answered before anything else happens
pub searched_alone : (exact : Bool) (fs : Tuples) (x : Observed) (at : ℕ) → searched_events exact fs (Asks x ∷ Ends x.asked at ∷ []) ≡ Asks (searched exact fs x) ∷ Ends (searched exact fs x).asked at ∷ []
searched_alone true fs x at = refl
searched_alone false fs x at = refl

-- ---- orders
pub searched_serial : (exact : Bool) (u v : Database) → IsSearchedFrom exact u v → (events : List Event) → TimesRise events → IsStrictlySerializable u (asked_in events) ↔ IsStrictlySerializable v (asked_in (searched_events exact v.facilities events))
searched_serial true u v begins events rise = (
  λ s. subst (λ w. IsStrictlySerializable w (asked_in events)) (sym begins) s,
  λ s. subst (λ w. IsStrictlySerializable w (asked_in events)) begins s,
)
searched_serial false u v begins events rise =
    let law = serializable_cleared u v (asked_in events) begins (rise_apart events rise) in
    let same = asked_cleared v.facilities events in (
      λ s. subst (IsStrictlySerializable v) (sym same) (law.1 s),
      λ s. law.0 (subst (IsStrictlySerializable v) same s),
    )

pub searched_more : (exact : Bool) (u v : Database) (most : ℕ) → IsSearchedFrom exact u v → (events : List Event) → NeedMore most v (searched_events exact v.facilities events) → NeedMore most u events
searched_more true u v most begins events h = subst (λ w. NeedMore most w events) begins h
searched_more false u v most begins events h = need_more_cleared u v events most begins h

-- each configuration that is possible tells what is searched
pub same_call : (exact : Bool) (u v : Database) (past : List Event) (d : Configuration) → IsSearchedFrom exact u v → IsPossible v (searched_events exact v.facilities past) d → (call : Call) → searched_call exact d.rows.facilities call ≡ searched_call exact v.facilities call
same_call true u v past d begins may call = refl
same_call false u v past d begins may call = ap (λ fs. cleared_call fs call) (possible_facilities u v past d begins may)

pub same_events : (exact : Bool) (u v : Database) (past : List Event) (d : Configuration) → IsSearchedFrom exact u v → IsPossible v (searched_events exact v.facilities past) d → (events : List Event) → searched_events exact d.rows.facilities events ≡ searched_events exact v.facilities events
same_events true u v past d begins may events = refl
same_events false u v past d begins may events = ap (λ fs. cleared_events fs events) (possible_facilities u v past d begins may)

-- ---- configurations that are kept
module _ (exact : Bool) (u v : Database) (begins : IsSearchedFrom exact u v) (past : List Event) (cs : List Held) (kept : AreKept v (searched_events exact v.facilities past) cs) where
  pub searched_explain : TimesRise past → HaveEnds past → 0 < length cs → IsStrictlySerializable u (asked_in past)
  searched_explain rise have some = (searched_serial exact u v begins past rise).1
      (some_explain v (searched_events exact v.facilities past) cs kept (searched_rises exact v.facilities past rise) (searched_ends exact v.facilities past have) some)

  pub searched_fail : TimesRise past → HaveEnds past → length cs ≡ 0 → IsStrictlySerializable u (asked_in past) → ⊥
  searched_fail rise have none s = none_explains v (searched_events exact v.facilities past) cs kept (searched_rises exact v.facilities past rise) (searched_ends exact v.facilities past have) none
      ((searched_serial exact u v begins past rise).0 s)

-- what was searched, and then a window of it, is what is searched of both
pub kept_on : (exact : Bool) (v : Database) (past events told : List Event) (after : List Held) → told ≡ searched_events exact v.facilities events → AreKept v (searched_events exact v.facilities past ++ told) after → AreKept v (searched_events exact v.facilities (past ++ events)) after
kept_on exact v past events told after is kept =
    subst (λ es. AreKept v es after) (ap (λ es. searched_events exact v.facilities past ++ es) is ∙ sym (searched_both exact v.facilities past events)) kept

pub more_on : (exact : Bool) (u v : Database) (most : ℕ) (past events told : List Event) → IsSearchedFrom exact u v → told ≡ searched_events exact v.facilities events → NeedMore most v (searched_events exact v.facilities past ++ told) → NeedMore most u (past ++ events)
more_on exact u v most past events told begins is h =
    searched_more exact u v most begins (past ++ events) (subst (NeedMore most v) (ap (λ es. searched_events exact v.facilities past ++ es) is ∙ sym (searched_both exact v.facilities past events)) h)

pub reached_explained : (explanations : Explanations) (u : Database) (past : List Event) → AreReached u past explanations → TimesRise past → HaveEnds past → IsStrictlySerializable u (asked_in past)
reached_explained explanations u past reached rise have = searched_explain explanations.exact u reached.from reached.begins past explanations.configurations.items reached.kept rise have reached.some

-- where it is searched exactly they are those of the calls themselves
pub kept_exactly : (explanations : Explanations) (u : Database) (past : List Event) → explanations.exact ≡ true → AreReached u past explanations → AreKept u past explanations.configurations.items
kept_exactly explanations u past exact reached = of_exact explanations.exact u reached.from past explanations.configurations.items exact reached.begins reached.kept
  where
    of_exact : (b : Bool) (w v : Database) (es : List Event) (cs : List Held) → b ≡ true → IsSearchedFrom b w v → AreKept v (searched_events b v.facilities es) cs → AreKept w es cs
    of_exact true w v es cs e begins kept = subst (λ z. AreKept z es cs) begins kept
    of_exact false w v es cs e begins kept = absurd cc

-- ---- another reply of a call
pub searched_answered : (exact : Bool) (fs : Tuples) (x : Observed) (at : ℕ) (reply : Reply) → searched exact fs (answered_with x at reply) ≡ answered_with (searched exact fs x) at reply
searched_answered true fs x at reply = refl
searched_answered false fs x at reply = refl

pub searched_told : (exact : Bool) (fs : Tuples) (x : Observed) (at : ℕ) (reply : Reply) (events : List Event) → searched_events exact fs (events_with (answered_with x at reply) (events_by at events)) ≡ events_with (answered_with (searched exact fs x) at reply) (events_by at (searched_events exact fs events))
searched_told true fs x at reply events = refl
searched_told false fs x at reply events = sym (with_cleared fs (answered_with x at reply) (events_by at events)) ∙ ap (events_with (cleared fs (answered_with x at reply))) (sym (by_cleared fs at events))

in_cleared : (fs : Tuples) (x : Observed) (events : List Event) → IsIn x (asked_in events) → IsIn (cleared fs x) (asked_in (cleared_events fs events))
in_cleared fs x [] h = absurd h
in_cleared fs x (Asks y ∷ more) h = elim h [ inl e ↦ inl (ap (cleared fs) e) | inr k ↦ inr (in_cleared fs x more k) ]
in_cleared fs x (Ends asked at ∷ more) h = in_cleared fs x more h

pub searched_in : (exact : Bool) (fs : Tuples) (x : Observed) (events : List Event) → IsIn x (asked_in events) → IsIn (searched exact fs x) (asked_in (searched_events exact fs events))
searched_in true fs x events h = h
searched_in false fs x events h = in_cleared fs x events h

pub searched_outcome : (exact : Bool) (fs : Tuples) (x : Observed) → (searched exact fs x).outcome ≡ x.outcome
searched_outcome true fs x = refl
searched_outcome false fs x = refl

pub searched_call_of : (exact : Bool) (fs : Tuples) (x : Observed) → (searched exact fs x).call ≡ searched_call exact fs x.call
searched_call_of true fs x = refl
searched_call_of false fs x = refl

-- more rows than some number that the window's calls as they are searched may leave, and so the calls themselves
pub searched_left : (exact : Bool) (u v : Database) (past events : List Event) (cs : List Held) (most : ℕ) → IsSearchedFrom exact u v → AreKept v (searched_events exact v.facilities past) cs
    → AreMoreThan most (MayBeLeft cs (searched_events exact v.facilities events)) → AreMoreThan most (MayBeLeft cs events)
searched_left true u v past events cs most begins kept h = h
searched_left false u v past events cs most begins kept h = left_more u v past cs begins kept.sound events most h

-- ---- a call that overlaps no other
module _ (exact : Bool) (u v : Database) (begins : IsSearchedFrom exact u v) (x : Observed) (at : ℕ) (past : List Event) (cs : List Held) (c : Held) (is : cs ≡ c ∷ []) (none : c.opened.items ≡ []) (kept : AreKept v (searched_events exact v.facilities past) cs) where
  abbrev x' : Observed
  x' = searched exact v.facilities x

  both_are : searched_events exact v.facilities (past ++ events_alone x at) ≡ searched_events exact v.facilities past ++ events_alone x' at
  both_are = searched_both exact v.facilities past (events_alone x at) ∙ ap (λ es. searched_events exact v.facilities past ++ es) (searched_alone exact v.facilities x at)

  -- its reply on the rows that are kept fits where that of what is searched does
  fits : MayHaveReply x'.outcome (transaction x'.call c.home.tables).reply → MayHaveReply x.outcome (transaction (searched_call exact v.facilities x.call) c.home.tables).reply
  fits may = subst (λ (q : Call). MayHaveReply x.outcome (transaction q c.home.tables).reply) (searched_call_of exact v.facilities x)
      (subst (λ (o : Outcome). MayHaveReply o (transaction x'.call c.home.tables).reply) (searched_outcome exact v.facilities x) may)

  fits_back : MayHaveReply x.outcome (transaction (searched_call exact v.facilities x.call) c.home.tables).reply → MayHaveReply x'.outcome (transaction x'.call c.home.tables).reply
  fits_back may = subst (λ (o : Outcome). MayHaveReply o (transaction x'.call c.home.tables).reply) (sym (searched_outcome exact v.facilities x))
      (subst (λ (q : Call). MayHaveReply x.outcome (transaction q c.home.tables).reply) (sym (searched_call_of exact v.facilities x)) may)

  pub alone_searched : TimesRise (past ++ events_alone x at) → HaveEnds (past ++ events_alone x at) → IsAnswered x.outcome
      → MayHaveReply x.outcome (transaction (searched_call exact v.facilities x.call) c.home.tables).reply ↔ IsStrictlySerializable u (asked_in (past ++ events_alone x at))
  alone_searched rise have answered =
      let all = past ++ events_alone x at in
      let law = alone_explained x' at v (searched_events exact v.facilities past) cs c is none kept
      (subst TimesRise both_are (searched_rises exact v.facilities all rise)) (subst HaveEnds both_are (searched_ends exact v.facilities all have))
      (subst IsAnswered (sym (searched_outcome exact v.facilities x)) answered) in
      let same = searched_serial exact u v begins all rise in (
        λ may. same.1 (subst (λ es. IsStrictlySerializable v (asked_in es)) (sym both_are) (law.0 (fits_back may))),
        λ s. fits (law.1 (subst (λ es. IsStrictlySerializable v (asked_in es)) both_are (same.0 s))),
      )

  pub alone_goes_on : (d : Held) (new : List Held) → MayHaveReply x.outcome (transaction (searched_call exact v.facilities x.call) c.home.tables).reply → new ≡ d ∷ [] → d.home.tables ≡ (transaction (searched_call exact v.facilities x.call) c.home.tables).database → d.opened.items ≡ []
      → AreKept v (searched_events exact v.facilities (past ++ events_alone x at)) new
  alone_goes_on d new may there rows empty = subst (λ es. AreKept v es new) (sym both_are)
      (alone_kept x' at v (searched_events exact v.facilities past) cs c is none kept d new (fits_back may) there
      (rows ∙ ap (λ (call : Call). (transaction call c.home.tables).database) (sym (searched_call_of exact v.facilities x))) empty)

-- the first that is kept is possible
pub first_possible : (exact : Bool) (v : Database) (past : List Event) (cs : List Held) (c : Held) → AreKept v (searched_events exact v.facilities past) cs → 0 < length cs → c ≡ get_or cs 0 c → IsPossible v (searched_events exact v.facilities past) (seen c)
first_possible exact v past cs c kept some is = kept.sound (seen c) (first cs some is)
  where
    first : (bs : List Held) → 0 < length bs → c ≡ get_or bs 0 c → OneStandsFor bs (seen c)
    first [] lt e = absurd (omega (arith, lt))
    first (b ∷ bs) lt e = inl (subst (λ (k : Held). StandsFor k (seen c)) e (seen_stands c))
