-- The replies with which a call could have been answered.
use Rattle.std.proofs.Common.{◌≡◌, ℕ, zero, suc, ◌<◌, ◌≤◌, ◌⊎◌, ◌↔◌, ◌∙◌, sym, ap, subst, nat_le, Bool, ◌==◌, true, false, cond, List, [], ◌∷◌, ◌++◌, length, take, filter, map, slice_get, refl, arith, Some, le-leb, eq-eqb, ne_eqb, true≢false, inl, inr}
use Rattle.std.specs.List.{AllByRecursion}
use Rattle.std.proofs.lemmas.Bool.{cases_lt}
use Rattle.std.proofs.lemmas.List.{take_all}
use Rattle.std.proofs.lemmas.Option.{none-some, same_Some}
use Rattle.tatp_tables.specs.Database.{Database, of_subscriber}
use Rattle.tatp_calls.specs.declared.call.Call.{Call}
use Rattle.tatp_calls.specs.declared.reply.Reply.{Reply}
use Rattle.tatp_history.specs.declared.line.Line.{Line}
use Rattle.tatp_history.specs.declared.event.Event.{Event}
use Rattle.tatp_history.specs.declared.event.Event.TheVariants.{Asks, Ends}
use Rattle.tatp_history.specs.declared.observed.Outcome.{Outcome}
use Rattle.tatp_history.specs.declared.observed.Outcome.TheVariants.{Answered, Aborted, Unknown}
use Rattle.tatp_history.specs.declared.observed.Observed.{Observed}
use Rattle.tatp_history.specs.Histories.{IsIn, IsAnsweredBefore, Precedes, IsStrictlySerializable}
use Rattle.tatp_history.specs.HistoryLines.{calls_of}
use Rattle.tatp_history.specs.Locality.{is_on, calls_on}
use Rattle.tatp_history.specs.Prefixes.{outcome_by, call_by, calls_by}
use Rattle.tatp_history.specs.Events.{asked_in, IsAnsweredAt, TimesRise, HaveEnds}
use Rattle.tatp_history.specs.SubscriberEvents.{NothingIsOpen}
use Rattle.tatp_history.proofs.EventLaws.{asked_after}
use Rattle.tatp_history.proofs.LineLaws.{calls_in_time}
use Rattle.tatp_history.proofs.OrderLaws.{all_filter, in_all}
use Rattle.tatp_linearization.specs.Legal.{placed, with_call}
use Rattle.tatp_linearization.specs.Listed.{IsListed, AreEachOnce}
use Rattle.tatp_linearization.specs.Single.{answered_with, events_alone}
use Rattle.tatp_linearization.proofs.CutLaws.{asked_both}
use Rattle.tatp_linearization.proofs.SingleLaws.{alone_answered}
use Rattle.tatp_judge.specs.declared.window.Window.{Window}
use Rattle.tatp_judge.specs.Explained.{numbers_since}
use Rattle.tatp_judge.specs.Legal.{AreLegalReplies}
use Rattle.tatp_judge.specs.Verdicts.{IsUnexplained}
use Rattle.tatp_judge.specs.Windows.{AreNumbersKept, IsSpent, IsWindowAfter}
use Rattle.tatp_judge.proofs.ClosingLaws.{all_explained, begins_after, calls_at, end_both, rise_both}
use Rattle.tatp_judge.proofs.FirstLinesLaws.{asked_then, taken}

-- ---- calls in lists
in_second : (x : Observed) (first second : List Observed) → IsIn x second → IsIn x (first ++ second)
in_second x [] second h = h
in_second x (y ∷ first) second h = inr (in_second x first second h)

-- one that is asked in one of the events
asked_first : (event : Event) (more : List Event) (x : Observed) → IsIn x (asked_in (event ∷ [])) → IsIn x (asked_in (event ∷ more))
asked_first (Asks y) more x h = elim h [ inl e ↦ inl e | inr k ↦ absurd k ]
asked_first (Ends asked at) more x h = absurd h

asked_then_too : (event : Event) (more : List Event) (x : Observed) → IsIn x (asked_in more) → IsIn x (asked_in (event ∷ more))
asked_then_too (Asks y) more x h = inr h
asked_then_too (Ends asked at) more x h = h

pub asked_at_place : (events : List Event) (i : ℕ) (event : Event) (x : Observed) → slice_get events i ≡ Some event → IsIn x (asked_in (event ∷ [])) → IsIn x (asked_in events)
asked_at_place [] i event x h k = absurd (none-some event h)
asked_at_place (first ∷ more) zero event x h k = subst (λ (e : Event). IsIn x (asked_in (e ∷ more))) (sym (same_Some first event h)) (asked_first event more x k)
asked_at_place (first ∷ more) (suc i) event x h k = asked_then_too first more x (asked_at_place more i event x h k)

-- a call of later events was asked after those of earlier ones
asked_earlier : (before events : List Event) (x : Observed) → TimesRise (before ++ events) → IsIn x (asked_in events) → AllByRecursion (λ (z : Observed). z.asked < x.asked) (asked_in before)
asked_earlier [] events x rise there = tt
asked_earlier (Asks y ∷ more) events x rise there = (
  asked_after y.asked (more ++ events) x rise.0 (subst (IsIn x) (sym (asked_both more events)) (in_second x (asked_in more) (asked_in events) there)),
  asked_earlier more events x rise.1 there,
)
asked_earlier (Ends asked at ∷ more) events x rise there = asked_earlier more events x rise.1 there

-- ---- another call in the place of one
with_both : (y : Observed) (first second : List Observed) → with_call y (first ++ second) ≡ with_call y first ++ with_call y second
with_both y [] second = refl
with_both y (x ∷ first) second = ap (λ zs. placed y x ∷ zs) (with_both y first second)

-- ... which none of these was
with_earlier : (y : Observed) (calls : List Observed) → AllByRecursion (λ (z : Observed). z.asked < y.asked) calls → with_call y calls ≡ calls
with_earlier y [] h = refl
with_earlier y (z ∷ more) h =
    let lt : z.asked < y.asked = h.0 in
    ap (λ b. cond b y z ∷ with_call y more) (ne_eqb z.asked y.asked (λ e. omega (arith, e, lt))) ∙ ap (λ zs. z ∷ zs) (with_earlier y more h.1)

-- ---- a call that was answered by a time
outcome_same : (time : ℕ) (o : Outcome) → IsAnsweredAt time o → outcome_by time o ≡ o
outcome_same time (Answered at recorded) h = ap (λ b. cond b (Answered at recorded) Unknown) (le-leb at time (omega (arith, h)))
outcome_same time (Aborted at) h = absurd h
outcome_same time Unknown h = absurd h

call_same : (time : ℕ) (x : Observed) → IsAnsweredAt time x.outcome → call_by time x ≡ x
call_same time x h = λ i. record { asked = x.asked; call = x.call; outcome = outcome_same time x.outcome h i }

in_by : (time : ℕ) (x : Observed) (calls : List Observed) → x.asked ≤ time → IsAnsweredAt time x.outcome → IsIn x calls → IsIn x (calls_by time calls)
in_by time x [] le was h = h
in_by time x (y ∷ more) le was h =
    elim (nat_le y.asked time) as (λ b. nat_le y.asked time ≡ b → IsIn x (map (call_by time) (cond b (y ∷ filter (λ (z : Observed). nat_le z.asked time) more) (filter (λ (z : Observed). nat_le z.asked time) more)))) [
      | true ↦ λ e. elim h [
        | inl same ↦ inl (sym (call_same time x was) ∙ ap (call_by time) same)
        | inr k ↦ inr (in_by time x more le was k)
      ]
      | false ↦ λ e. elim h [
        | inl same ↦ absurd (true≢false (sym (le-leb y.asked time (subst (λ (z : Observed). z.asked ≤ time) same le)) ∙ e))
        | inr k ↦ in_by time x more le was k
      ]
    ] refl

not_before : (o : Outcome) (asked time : ℕ) → IsAnsweredAt time o → (IsAnsweredBefore asked o → ⊥) → asked ≤ time
not_before (Answered at recorded) asked time h k = elim (cases_lt at asked) [ inl lt ↦ absurd (k lt) | inr le ↦ omega (arith, le, h) ]
not_before (Aborted at) asked time h k = absurd h
not_before Unknown asked time h k = absurd h

asked_by_end : (u : Database) (s : ℕ) (lines : List Line) (x : Observed) (time : ℕ) → IsIn x (calls_on u s (calls_of lines)) → IsAnsweredAt time x.outcome → x.asked ≤ time
asked_by_end u s lines x time there was =
    not_before x.outcome x.asked time was
    (in_all (λ (y : Observed). Precedes y y → ⊥) x (calls_on u s (calls_of lines)) (all_filter (λ (y : Observed). Precedes y y → ⊥) (λ (y : Observed). is_on u s y.call) (calls_of lines) (calls_in_time 1 lines)) there)

-- ---- legal replies
-- of a call of a window
pub window_legal : (u : Database) (most s : ℕ) (lines : List Line) (line : ℕ) (w : Window) (x : Observed) (replies : List Reply) (is : IsWindowAfter u most s lines w) → line ≤ length lines → IsUnexplained u lines line (Some s) → IsIn x (asked_in w.events.items)
    → IsAnsweredAt line x.outcome
    → ((reply : Reply) → IsListed reply replies ↔ IsStrictlySerializable (of_subscriber u s) (asked_in is.before ++ with_call (answered_with x line reply) (calls_by line (asked_in w.events.items))))
    → AreEachOnce replies → AreLegalReplies u s (take line lines) x.call replies
window_legal u most s lines line w x replies is within fails there was exact once =
    let began : w.from < line = begins_after u most s lines w is line within fails in
    let count : length (take line lines) ≡ line = taken line lines within in
    let before = asked_in is.before in
    let events = asked_in w.events.items in
    let all : calls_on u s (calls_of lines) ≡ before ++ events = sym (asked_then u s lines) ∙ (ap asked_in is.all ∙ asked_both is.before w.events.items) in
    let at : before ++ calls_by line events ≡ calls_on u s (calls_of (take line lines)) = calls_at u most s lines w is line (omega (arith, began)) within in
    let le : x.asked ≤ line = asked_by_end u s lines x line (subst (IsIn x) (sym all) (in_second x before events there)) was in
    let earlier = asked_earlier is.before w.events.items x (rise_both u most s lines w is) there in
    record {
      x = x;
      last = record {
        there = subst (IsIn x) at (in_second x before (calls_by line events) (in_by line x events le was there));
        answered = subst (λ n. IsAnsweredAt n x.outcome) (sym count) was;
      };
      call_is = refl;
      exact = λ reply.
          let y = answered_with x line reply in
          let same : before ++ with_call y (calls_by line events) ≡ with_call (answered_with x (length (take line lines)) reply) (calls_on u s (calls_of (take line lines)))
          = ap (λ xs. xs ++ with_call y (calls_by line events)) (sym (with_earlier y before earlier))
          ∙ (sym (with_both y before (calls_by line events))
          ∙ (ap (with_call y) at ∙ ap (λ n. with_call (answered_with x n reply) (calls_on u s (calls_of (take line lines)))) (sym count))) in
          subst (λ calls. IsListed reply replies ↔ IsStrictlySerializable (of_subscriber u s) calls) same (exact reply);
      once = once;
    }

-- of a call that overlaps no other
pub alone_legal : (u : Database) (most s : ℕ) (lines : List Line) (w : Window) (x : Observed) (reply : Reply) (is : IsWindowAfter u most s lines w) → w.events.items ≡ events_alone x (length lines)
    → ((other : Reply) → IsStrictlySerializable (of_subscriber u s) (asked_in (is.before ++ events_alone (answered_with x (length lines) other) (length lines))) ↔ (other ≡ reply))
    → AreLegalReplies u s lines x.call (reply ∷ [])
alone_legal u most s lines w x reply is alone only =
    let n = length lines in
    let before = asked_in is.before in
    let all : calls_on u s (calls_of lines) ≡ before ++ x ∷ [] = sym (asked_then u s lines) ∙ (ap asked_in (is.all ∙ ap (λ es. is.before ++ es) alone) ∙ asked_both is.before (events_alone x n)) in
    let rise : TimesRise (is.before ++ events_alone x n) = subst (λ es. TimesRise (is.before ++ es)) alone (rise_both u most s lines w is) in
    let earlier = asked_earlier is.before (events_alone x n) x rise (inl refl) in
    record {
      x = x;
      last = record {
        there = subst (IsIn x) (sym all) (in_second x before (x ∷ []) (inl refl));
        answered = alone_answered x n is.before (subst (λ es. HaveEnds (is.before ++ es)) alone (end_both u most s lines w is));
      };
      call_is = refl;
      exact = λ other.
          let y = answered_with x n other in
          let own : with_call y (x ∷ []) ≡ y ∷ [] = ap (λ b. cond b y x ∷ []) (eq-eqb x.asked x.asked refl) in
          let same : asked_in (is.before ++ events_alone y n) ≡ with_call y (calls_on u s (calls_of lines))
          = asked_both is.before (events_alone y n)
          ∙ (ap (λ xs. xs ++ y ∷ []) (sym (with_earlier y before earlier))
          ∙ (ap (λ one. with_call y before ++ one) (sym own) ∙ (sym (with_both y before (x ∷ [])) ∙ ap (with_call y) (sym all)))) in
          let told = only other in (
            λ h. elim h [ inl e ↦ subst (IsStrictlySerializable (of_subscriber u s)) same (told.1 e) | inr k ↦ absurd k ],
            λ k. inl (told.0 (subst (IsStrictlySerializable (of_subscriber u s)) (sym same) k)),
          );
      once = ((λ k. k), tt);
    }

-- ---- what a window keeps
pub spent_replies : (u : Database) (s : ℕ) (lines : List Line) (line : ℕ) (w : Window) (call : Call) (replies : List Reply) → line ≤ length lines → IsUnexplained u lines line (Some s) → IsSpent u s lines w
    → ((v : Database) (t : ℕ) (ls : List Line) → IsSpent v t ls w → AreLegalReplies v t ls call replies) → AreLegalReplies u s (take line lines) call replies
spent_replies u s lines line w call replies within fails spent told = elim (cases_lt line (length lines)) [
  | inl lt ↦ absurd (fails (spent.before line lt within))
  | inr last ↦ subst (λ ls. AreLegalReplies u s ls call replies) (sym (take_all line lines (omega (arith, last)))) (told u s lines spent)
]

-- a window without events is spent
pub empty_spent : (u : Database) (most s : ℕ) (lines : List Line) (line : ℕ) (w : Window) → line ≤ length lines → IsUnexplained u lines line (Some s) → w.events.items ≡ [] → IsWindowAfter u most s lines w ⊎ IsSpent u s lines w → IsSpent u s lines w
empty_spent u most s lines line w within fails none kept = elim kept [
  | inl window ↦ absurd (fails (all_explained u most s lines w window none line (omega (arith, within)) within))
  | inr spent ↦ spent
]

-- a window with events isn't
pub filled_window : (u : Database) (most s : ℕ) (lines : List Line) (w : Window) → (w.events.items ≡ [] → ⊥) → IsWindowAfter u most s lines w ⊎ IsSpent u s lines w → IsWindowAfter u most s lines w
filled_window u most s lines w some kept = elim kept [ inl window ↦ window | inr spent ↦ absurd (some spent.none) ]

-- a window that keeps the numbers of its lines
pub kept_same : (u : Database) (s : ℕ) (lines : List Line) (w after : Window) → after.from ≡ w.from → after.numbers.items ≡ w.numbers.items → AreNumbersKept u s lines w → AreNumbersKept u s lines after
kept_same u s lines w after from numbers is = record {
  numbers_are = numbers ∙ (is.numbers_are ∙ ap (λ k. numbers_since u s k lines) (sym from));
  none = subst (λ k. NothingIsOpen u s (take k lines)) (sym from) is.none;
  last = subst (λ k. (later : ℕ) → later < length lines → NothingIsOpen u s (take later lines) → numbers_since u s k (take later lines) ≡ []) (sym from) is.last;
}

-- a list that isn't empty
pub filled_events : (es : List Event) (b : Bool) (n : ℕ) → n ≡ length es → b ≡ (n == 0) → b ≡ false → es ≡ [] → ⊥
filled_events es b n count is not none = true≢false (sym (is ∙ eq-eqb n 0 (count ∙ ap length none)) ∙ not)
