-- What is said of one window, said of all.
use Rattle.std.specs.Prelude.{OnOk, IfOk, IfSome, Result, Ok, Err}
use Rattle.std.proofs.Common.{◌≡◌, ◌≢◌, ℕ, suc, ◌+◌, ◌-◌, ◌≤◌, ◌∙◌, sym, ap, subst, cond, List, [], ◌∷◌, ◌++◌, length, map, set, get_or, slice_get, refl, arith, Option, Some, None, false, eq-eqb, ne_eqb, inl, inr, append_assoc}
use Rattle.std.proofs.lemmas.Option.{none-some}
use Rattle.std.proofs.lemmas.List.{append-nil}
use Rattle.tatp_tables.specs.Database.{Database}
use Rattle.tatp_history.specs.declared.line.Line.{Line}
use Rattle.tatp_history.specs.declared.event.Event.{Event}
use Rattle.tatp_history.specs.declared.event.Event.TheVariants.{Asks}
use Rattle.tatp_history.specs.declared.observed.Observed.{Observed}
use Rattle.tatp_history.specs.Events.{time_of}
use Rattle.tatp_history.specs.HistoryLines.{end_at}
use Rattle.tatp_history.specs.Locality.{is_this}
use Rattle.tatp_linearization.specs.declared.explanations.Standing.{Standing}
use Rattle.tatp_judge.specs.declared.asked.Asked.{Asked}
use Rattle.tatp_judge.specs.declared.judge.Judge.{Judge}
use Rattle.tatp_judge.specs.declared.window.Window.{Window}
use Rattle.tatp_judge.specs.Asked.{asked_on}
use Rattle.tatp_judge.specs.Followed.{Forgets}
use Rattle.tatp_judge.specs.NextLine.{ends_of, with_outcome, number_of_last, number_closed_by, asks_of}
use Rattle.tatp_judge.specs.Steps.{AreEach, AsksCall, ClosesAt, ClosesHere, EndsCall, IsNoted, IsNotedBy, NotesLine, asks_on}
use Rattle.tatp_judge.proofs.PlaceLaws.{each_same, each_set}

-- ---- several clauses
pub on_ok_both : {T E A B F : Type 0} (r : Result T E) → (A → B → F) → OnOk r A → OnOk r B → OnOk r F
on_ok_both (Ok v) f a b = f a b
on_ok_both (Err e) f a b = tt

pub on_ok_four : {T E A B C D F : Type 0} (r : Result T E) → (A → B → C → D → F) → OnOk r A → OnOk r B → OnOk r C → OnOk r D → OnOk r F
on_ok_four (Ok v) f a b c d = f a b c d
on_ok_four (Err e) f a b c d = tt

pub on_ok_six : {T E A B C D F G H : Type 0} (r : Result T E) → (A → B → C → D → F → G → H) → OnOk r A → OnOk r B → OnOk r C → OnOk r D → OnOk r F → OnOk r G → OnOk r H
on_ok_six (Ok v) f a b c d e g = f a b c d e g
on_ok_six (Err e) f a b c d g h = tt

-- ---- a call ends
same_ended : (number : ℕ) (line : Line) (w : Window) (one : Option ℕ) → one ≡ None → EndsCall one number line w w
same_ended number line w one none = subst (λ (o : Option ℕ). EndsCall o number line w w) (sym none)
    (record { aside_is = refl; waits_are = refl; kept = λ _. record { events_are = refl; numbers_are = sym (append-nil w.numbers.items); waiting_is = refl; from_is = refl; explanations_are = refl } })

not_this : (s s_id : ℕ) (asked : Asked) → asked.s_id ≡ Some s_id → s ≢ s_id → asked_on s (Some asked) ≡ None
not_this s s_id asked e n = ap (λ o. cond (is_this s o) (Some asked.number) None) e ∙ ap (λ b. cond b (Some asked.number) None) (ne_eqb s_id s (λ d. n (sym d)))

pub this : (s s_id : ℕ) (asked : Asked) → asked.s_id ≡ Some s_id → s ≡ s_id → asked_on s (Some asked) ≡ Some asked.number
this s s_id asked e same = ap (λ o. cond (is_this s o) (Some asked.number) None) e ∙ ap (λ b. cond b (Some asked.number) None) (eq-eqb s_id s (sym same))

pub none_there : (asked : Asked) (number : ℕ) (line : Line) (ws : List Window) → asked.s_id ≡ None → AreEach (λ place. EndsCall (asked_on (suc place) (Some asked)) number line) ws ws
none_there asked number line ws e = each_same (λ place. EndsCall (asked_on (suc place) (Some asked)) number line) ws
    (λ place w. same_ended number line w (asked_on (suc place) (Some asked)) (ap (λ o. cond (is_this (suc place) o) (Some asked.number) None) e))

pub one_ended : (asked : Asked) (s_id number : ℕ) (line : Line) (ws : List Window) (old new : Window) → asked.s_id ≡ Some s_id → 1 ≤ s_id → s_id ≤ length ws → old ≡ get_or ws (s_id - 1) old
    → (old.aside ≡ false → new.events.items ≡ with_outcome asked.number (end_at number line) old.events.items ++ ends_of asked.number number line) → (old.aside ≡ false → new.numbers.items ≡ old.numbers.items ++ number_of_last number line) → new.waiting ≡ old.waiting - 1 → new.from ≡ old.from → new.explanations ≡ old.explanations
    → new.aside ≡ old.aside
    → AreEach (λ place. EndsCall (asked_on (suc place) (Some asked)) number line) ws (set ws (s_id - 1) new)
one_ended asked s_id number line ws old new e first last at events numbers waiting from explanations aside =
    each_set (λ place. EndsCall (asked_on (suc place) (Some asked)) number line) ws (s_id - 1) old new (omega (arith, first, last)) at
    (subst (λ (o : Option ℕ). EndsCall o number line old new) (sym (this (suc (s_id - 1)) s_id asked e (omega (arith, first))))
    (record { aside_is = aside; waits_are = waiting; kept = λ unmarked. record { events_are = events unmarked; numbers_are = numbers unmarked; waiting_is = waiting; from_is = from; explanations_are = explanations } }))
    (λ place w n. same_ended number line w (asked_on (suc place) (Some asked)) (not_this (suc place) s_id asked e (λ d. n (omega (arith, d)))))

-- ---- a call is asked
same_asked : (w : Window) (s : ℕ) (s_id : Option ℕ) (x : Observed) → asks_on s s_id x ≡ [] → AsksCall (asks_on s s_id x) w w
same_asked w s s_id x none = subst (λ es. AsksCall es w w) (sym none) (record { aside_is = refl; waits_are = omega arith; kept = λ _. record { events_are = sym (append-nil w.events.items); numbers_are = sym (append-nil w.numbers.items); waiting_is = omega arith; from_is = refl; explanations_are = refl } })

pub none_asked_there : (s_id : Option ℕ) (x : Observed) (ws : List Window) → s_id ≡ None → AreEach (λ place. AsksCall (asks_on (suc place) s_id x)) ws ws
none_asked_there s_id x ws e = each_same (λ place. AsksCall (asks_on (suc place) s_id x)) ws (λ place w. same_asked w (suc place) s_id x (ap (λ o. asks_on (suc place) o x) e))

pub one_asked : (named : Option ℕ) (s_id : ℕ) (x : Observed) (ws : List Window) (old new : Window) → named ≡ Some s_id → 1 ≤ s_id → s_id ≤ length ws → old ≡ get_or ws (s_id - 1) old
    → (old.aside ≡ false → new.events.items ≡ old.events.items ++ Asks x ∷ []) → (old.aside ≡ false → new.numbers.items ≡ old.numbers.items ++ x.asked ∷ []) → new.waiting ≡ old.waiting + 1 → new.from ≡ old.from → new.explanations ≡ old.explanations → new.aside ≡ old.aside
    → AreEach (λ place. AsksCall (asks_on (suc place) named x)) ws (set ws (s_id - 1) new)
one_asked named s_id x ws old new e first last at events numbers waiting from explanations aside =
    each_set (λ place. AsksCall (asks_on (suc place) named x)) ws (s_id - 1) old new (omega (arith, first, last)) at
    (subst (λ es. AsksCall es old new) (sym (ap (λ o. asks_on (suc (s_id - 1)) o x) e ∙ ap (λ b. cond b (Asks x ∷ []) []) (eq-eqb s_id (suc (s_id - 1)) (omega (arith, first)))))
    (record { aside_is = aside; waits_are = waiting; kept = λ unmarked. record { events_are = events unmarked; numbers_are = numbers unmarked; waiting_is = waiting; from_is = from; explanations_are = explanations } }))
    (λ place w n. same_asked w (suc place) named x (ap (λ o. asks_on (suc place) o x) e ∙ ap (λ b. cond b (Asks x ∷ []) []) (ne_eqb s_id (suc place) (λ d. n (omega (arith, d))))))

-- ---- a window ends
pub one_closed : (s_id number : ℕ) (standing : Standing) (ws : List Window) (old new : Window) → 1 ≤ s_id → s_id ≤ length ws → old ≡ get_or ws (s_id - 1) old → ClosesHere number standing old new → AreEach (ClosesAt s_id number standing) ws (set ws (s_id - 1) new)
one_closed s_id number standing ws old new first last at closes =
    each_set (ClosesAt s_id number standing) ws (s_id - 1) old new (omega (arith, first, last)) at (inl (omega (arith, first), closes))
    (λ place w n. inr (λ d. n (omega (arith, d)), refl))

-- ---- both
abbrev asking : Database → ℕ → Line → ℕ → Window → Window → Type 0
asking u number line place w after = AsksCall (asks_of u (suc place) number line) w after

pub both_noted : (u : Database) (ended : Option Asked) (number : ℕ) (line : Line) (ws mid after : List Window) → AreEach (λ place. EndsCall (asked_on (suc place) ended) number line) ws mid → AreEach (asking u number line) mid after
    → AreEach (λ place w new. NotesLine (asked_on (suc place) ended) (asks_of u (suc place) number line) number line w new) ws after
both_noted u ended number line ws mid after ends asks = record {
  count = asks.count ∙ ends.count;
  each = λ place new h.
      let then = asks.each place new h in
      let once = ends.each place then.0 then.1 in (
        once.0,
        once.1,
        record {
          aside_is = then.2.aside_is ∙ once.2.aside_is;
          waits_are = then.2.waits_are ∙ ap (λ n. n + length (asks_of u (suc place) number line)) once.2.waits_are;
          kept = λ unmarked.
              let first = once.2.kept unmarked in
              let second = then.2.kept (once.2.aside_is ∙ unmarked) in
              record {
                events_are = second.events_are ∙ ap (λ es. es ++ asks_of u (suc place) number line) first.events_are;
                numbers_are = second.numbers_are ∙ (ap (λ ns. ns ++ map time_of (asks_of u (suc place) number line)) first.numbers_are
                    ∙ append_assoc once.0.numbers.items (number_closed_by (asked_on (suc place) ended) number line) (map time_of (asks_of u (suc place) number line)));
                waiting_is = second.waiting_is ∙ ap (λ n. n + length (asks_of u (suc place) number line)) first.waiting_is;
                from_is = second.from_is ∙ first.from_is;
                explanations_are = second.explanations_are ∙ first.explanations_are;
              };
        },
      );
}

-- no call was open
pub none_open : (number : ℕ) (line : Line) (ws : List Window) → AreEach (λ place. EndsCall None number line) ws ws
none_open number line ws = each_same (λ place. EndsCall None number line) ws (λ place w. same_ended number line w None refl)

-- a line that asks nothing
pub asks_nothing : (u : Database) (number : ℕ) (line : Line) (ws : List Window) → ((s : ℕ) → asks_of u s number line ≡ []) → AreEach (asking u number line) ws ws
asks_nothing u number line ws none = each_same (asking u number line) ws
    (λ place w. subst (λ es. AsksCall es w w) (sym (none (suc place)))
    (record { aside_is = refl; waits_are = omega arith; kept = λ _. record { events_are = sym (append-nil w.events.items); numbers_are = sym (append-nil w.numbers.items); waiting_is = omega arith; from_is = refl; explanations_are = refl } }))

-- a window in which no call is open after a line forgets its events, but for that of the call that ended
not_ended : (ended : Option Asked) (but : Option ℕ) (s : ℕ) → ((asked : Asked) → ended ≡ Some asked → but ≡ asked.s_id) → (but ≡ Some s → ⊥) → asked_on s ended ≡ None
not_ended None but s is n = refl
not_ended (Some asked) but s is n = named asked.s_id (λ e. n (is asked refl ∙ e))
  where
    named : (o : Option ℕ) → (o ≡ Some s → ⊥) → cond (is_this s o) (Some asked.number) None ≡ None
    named None k = refl
    named (Some t) k = ap (λ b. cond b (Some asked.number) None) (ne_eqb t s (λ e. k (ap Some e)))

pub still_forgets : (u : Database) (ended : Option Asked) (but : Option ℕ) (number : ℕ) (line : Line) (old mid new after : Judge) → Forgets old None → mid.windows.items ≡ old.windows.items → IsNotedBy u ended number line mid new → after.windows.items ≡ new.windows.items
    → ((asked : Asked) → ended ≡ Some asked → but ≡ asked.s_id) → Forgets after but
still_forgets u ended but number line old mid new after forgets same noted last is place w h other unmarked none =
    let found = noted.windows_are.each place w (ap (λ ws. slice_get ws place) (sym last) ∙ h) in
    let before = found.0 in
    let one : asked_on (suc place) ended ≡ None = not_ended ended but (suc place) is other in
    let was_open = sym found.2.aside_is ∙ unmarked in
    let step = subst (λ (o : Option ℕ). IsNoted o (asks_of u (suc place) number line) number line before w) one (found.2.kept was_open) in
    let empty : asks_of u (suc place) number line ≡ [] = nothing (asks_of u (suc place) number line) (omega (arith, step.waiting_is, none)) in
    let was = forgets place before (ap (λ ws. slice_get ws place) (sym same) ∙ found.1) (λ e. none-some (suc place) e) was_open (omega (arith, step.waiting_is, none)) in
    record {
      events = step.events_are ∙ (λ i. was.events i ++ empty i);
      numbers = step.numbers_are ∙ (λ i. was.numbers i ++ map time_of (empty i));
    }
  where
    nothing : (events : List Event) → length events ≡ 0 → events ≡ []
    nothing [] e = refl
    nothing (event ∷ more) e = absurd (omega (arith, e))

-- ---- weaker clauses
pub if_ok_weaker : {T E : Type 0} {P Q : T → Type 0} (r : Result T E) → ((v : T) → P v → Q v) → IfOk r P → IfOk r Q
if_ok_weaker (Ok v) f h = f v h
if_ok_weaker (Err e) f h = tt

pub if_some_weaker : {T : Type 0} {P Q : T → Type 0} (o : Option T) → ((v : T) → P v → Q v) → IfSome o P → IfSome o Q
if_some_weaker (Some v) f h = f v h
if_some_weaker None f h = tt
