-- Whether some order of one subscriber's calls leaves rows, by what its window says.
use Rattle.std.specs.Prelude.{IfOk}
use Rattle.std.proofs.Common.{◌≡◌, ℕ, ◌∙◌, sym, ap, subst, List, [], ◌++◌, length, refl, arith, Result, Ok, Err}
use Rattle.std.proofs.lemmas.List.{append-nil, take_all}
use Rattle.tatp_tables.specs.Database.{Database, of_subscriber}
use Rattle.tatp_history.specs.declared.line.Line.{Line}
use Rattle.tatp_history.specs.declared.event.Event.{Event}
use Rattle.tatp_history.specs.Events.{asked_in, TimesRise, HaveEnds}
use Rattle.tatp_history.specs.Histories.{IsStrictlySerializable, IsStrictlySerializableTo}
use Rattle.tatp_history.specs.SubscriberEvents.{events_of}
use Rattle.tatp_linearization.specs.declared.explanations.Standing.{Standing}
use Rattle.tatp_linearization.specs.declared.explanations.Standing.TheVariants.{Explained, Unexplained, Undecided}
use Rattle.tatp_linearization.specs.Possible.{NeedMore}
use Rattle.tatp_linearization.specs.Reached.{AreOfSubscriber, AreReached}
use Rattle.tatp_judge.specs.declared.window.Window.{Window}
use Rattle.tatp_judge.specs.Leaving.{IsAtEnd, GoesToEnd, SaysLeft}
use Rattle.tatp_judge.specs.Windows.{IsWindowAfter}
use Rattle.tatp_judge.proofs.ClosingLaws.{all_end, end_both, many_now, rise_both, rises}
use Rattle.tatp_judge.proofs.FirstLinesLaws.{asked_then}

-- ---- all events
pub at_end_already : (u : Database) (most s : ℕ) (lines : List Line) (w : Window) → IsWindowAfter u most s lines w → w.events.items ≡ [] → IsAtEnd u most s lines w
at_end_already u most s lines w is none = record {
  reached = subst (λ es. AreReached (of_subscriber u s) es w.explanations) (sym (is.all ∙ (ap (λ es. is.before ++ es) none ∙ append-nil is.before))) is.reached;
  own = is.own;
  most_is = is.most_is;
}

pub goes_to_end : {E : Type 0} (r : Result Standing E) (w after : Window) (events : List Event) → events ≡ w.events.items
    → (r ≡ Ok Explained → (v : Database) (past : List Event) → AreReached v past w.explanations → AreReached v (past ++ events) after.explanations)
    → (r ≡ Ok Unexplained → (v : Database) (past : List Event) → AreReached v past w.explanations → TimesRise (past ++ events) → HaveEnds (past ++ events) → IsStrictlySerializable v (asked_in (past ++ events)) → ⊥)
    → (r ≡ Ok Undecided → (v : Database) (past : List Event) → AreReached v past w.explanations → NeedMore w.explanations.most v (past ++ events))
    → ((s : ℕ) → AreOfSubscriber s w.explanations → AreOfSubscriber s after.explanations) → after.explanations.most ≡ w.explanations.most
    → IfOk r (λ standing. (u : Database) (most s : ℕ) (lines : List Line) → IsWindowAfter u most s lines w → GoesToEnd u most s lines standing after)
goes_to_end (Err e) w after events same reached unexplained undecided own most_is = tt
goes_to_end (Ok Explained) w after events same reached unexplained undecided own most_is = λ u most s lines is. record {
  reached = subst (λ es. AreReached (of_subscriber u s) es after.explanations) (ap (λ es. is.before ++ es) same ∙ sym is.all) (reached refl (of_subscriber u s) is.before is.reached);
  own = own s is.own;
  most_is = most_is ∙ is.most_is;
}
goes_to_end (Ok Unexplained) w after events same reached unexplained undecided own most_is = λ u most s lines is rows leaves.
    let back = sym same in
    unexplained refl (of_subscriber u s) is.before is.reached (subst (λ es. TimesRise (is.before ++ es)) back (rise_both u most s lines w is)) (subst (λ es. HaveEnds (is.before ++ es)) back (end_both u most s lines w is))
    (subst (λ es. IsStrictlySerializable (of_subscriber u s) (asked_in (is.before ++ es))) back
    (subst (IsStrictlySerializable (of_subscriber u s)) (sym (ap asked_in (sym is.all) ∙ asked_then u s lines)) (leaves.0, leaves.1)))
goes_to_end (Ok Undecided) w after events same reached unexplained undecided own most_is = λ u most s lines is.
    many_now u most s lines w is
    (subst (λ es. NeedMore most (of_subscriber u s) (is.before ++ es)) same (subst (λ m. NeedMore m (of_subscriber u s) (is.before ++ events)) is.most_is (undecided refl (of_subscriber u s) is.before is.reached)))

-- ---- these rows
pub says_left : {E : Type 0} (r : Result Standing E) (s : ℕ) (rows : Database) (w : Window) (Holds : Database → ℕ → List Line → Type 0) → ((u : Database) (most : ℕ) (lines : List Line) → Holds u most lines → IsAtEnd u most s lines w)
    → (r ≡ Ok Explained → (v : Database) (past : List Event) → AreReached v past w.explanations → TimesRise past → HaveEnds past → IsStrictlySerializableTo v (asked_in past) rows)
    → (r ≡ Ok Unexplained → (v : Database) (past : List Event) → AreReached v past w.explanations → TimesRise past → HaveEnds past → IsStrictlySerializableTo v (asked_in past) rows → ⊥)
    → (r ≡ Ok Undecided → (v : Database) (past : List Event) → AreReached v past w.explanations → NeedMore w.explanations.most v past)
    → IfOk r (λ standing. (u : Database) (most : ℕ) (lines : List Line) → Holds u most lines → SaysLeft u most s lines rows standing)
says_left (Err e) s rows w Holds at explained unexplained undecided = tt
says_left (Ok Explained) s rows w Holds at explained unexplained undecided = λ u most lines h.
    subst (λ calls. IsStrictlySerializableTo (of_subscriber u s) calls rows) (asked_then u s lines) (explained refl (of_subscriber u s) (events_of u s lines) (at u most lines h).reached (rises u s lines) (all_end u s lines))
says_left (Ok Unexplained) s rows w Holds at explained unexplained undecided = λ u most lines h leaves.
    unexplained refl (of_subscriber u s) (events_of u s lines) (at u most lines h).reached (rises u s lines) (all_end u s lines)
    (subst (λ calls. IsStrictlySerializableTo (of_subscriber u s) calls rows) (sym (asked_then u s lines)) leaves)
says_left (Ok Undecided) s rows w Holds at explained unexplained undecided = λ u most lines h.
    let is = at u most lines h in
    record {
      within = omega arith;
      first = length lines;
      by = omega arith;
      many = subst (NeedMore most (of_subscriber u s)) (ap (events_of u s) (sym (take_all (length lines) lines (omega arith)))) (subst (λ m. NeedMore m (of_subscriber u s) (events_of u s lines)) is.most_is (undecided refl (of_subscriber u s) (events_of u s lines) is.reached));
    }
