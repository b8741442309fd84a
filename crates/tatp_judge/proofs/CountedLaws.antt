-- What is counted, after one line more.
use Rattle.std.proofs.Common.{◌≡◌, ℕ, suc, ◌+◌, ◌-◌, ◌≤◌, ◌⊎◌, ◌∙◌, sym, ap, subst, Bool, true, false, cond, nat_lt, lt-ltb, le-ltb, List, [], ◌∷◌, ◌++◌, length, set, get_or, replicate, slice_get, refl, arith, Option, Some, None, eq-eqb, ne_eqb, inl, inr, nat_eq}
use Rattle.std.proofs.lemmas.Bool.{cases_lt, false≢true}
use Rattle.std.proofs.lemmas.List.{length-append, length-set, length-replicate, get_or-replicate, take_all}
use Rattle.std.proofs.lemmas.Option.{none-some, same_Some}
use Rattle.tatp_tables.specs.Database.{Database}
use Rattle.tatp_calls.specs.declared.call.Call.{Call}
use Rattle.tatp_history.specs.declared.line.Line.{Line}
use Rattle.tatp_history.specs.declared.line.Line.TheVariants.{Ask}
use Rattle.tatp_history.specs.HistoryLines.{client_of, end_at}
use Rattle.tatp_history.specs.Locality.{subscriber_of, is_this, is_on}
use Rattle.tatp_history.specs.SubscriberEvents.{no_calls, opened_after}
use Rattle.tatp_history.proofs.SubscriberEventLaws.{same_or_not}
use Rattle.indexmap.specs.IndexMap.{get}
use Rattle.tatp_numbers.specs.Listing.{Listing}
use Rattle.tatp_judge.specs.declared.asked.Asked.{Asked}
use Rattle.tatp_judge.specs.declared.judge.Judge.{Judge}
use Rattle.tatp_judge.specs.declared.window.Window.{Window}
use Rattle.tatp_judge.specs.Asked.{asked_in_all, asked_on}
use Rattle.tatp_judge.specs.Followed.{HasFollowed}
use Rattle.tatp_judge.specs.Population.{IsDirectoryOf}
use Rattle.tatp_judge.specs.Steps.{fewer}
use Rattle.tatp_judge.specs.Counted.{AreMarked, AreOthersOn, HasCountedCalls}
use Rattle.tatp_judge.specs.declared.stakes.Counts.{Counts}
use Rattle.tatp_judge.specs.Stakes.{was_answered, was_aborted, IsNumberOf, IsCalled, MeetsOthers, IsWidest}
use Rattle.tatp_judge.specs.Windows.{IsAmong, AreCounted, IsKept}
use Rattle.tatp_judge.proofs.AsideLaws.{kept_counted, kept_few}
use Rattle.tatp_judge.proofs.CountLaws.{asks_one, asked_next_line, one_if, none_if, count_next}
use Rattle.tatp_judge.proofs.JudgeLaws.{opened_is}
use Rattle.tatp_judge.proofs.PlaceLaws.{got_other}
use Rattle.tatp_judge.proofs.SearchLaws.{named_within}
use Rattle.tatp_judge.proofs.StakeLaws.{some_among, among_some, number_same, number_more, got_now, got_within, or_got, got_written, AsksNone, called_before, called_either, meets_before, meets_either, meets_now, MeetsNow, widest_next, no_wider, now_open, no_more_open}
use Rattle.tatp_judge.proofs.WindowLaws.{AreOthers, others_of, fewer_at_most}

-- ---- a line that asks no call on any subscriber
module _ (u : Database) (lines : List Line) (line : Line) (none : AsksNone u line) where
  called_back : (s : ℕ) → IsCalled u (lines ++ line ∷ []) s → IsCalled u lines s
  called_back s h = elim (called_either u lines line s h) [ inl a ↦ a | inr e ↦ absurd (false≢true (sym (none s) ∙ e)) ]

  meets_back : (before : ℕ) → MeetsOthers u (lines ++ line ∷ []) before → MeetsOthers u lines before
  meets_back before h = elim (meets_either u lines line before h) [ inl now ↦ absurd (false≢true (sym (none now.1.0) ∙ now.1.2)) | inr m ↦ m ]

  pub none_counted : (old new : Counts) → HasCountedCalls u lines old → new.asked ≡ old.asked + asks_one line
      → new.answered ≡ old.answered + one_if (asked_in_all u lines (client_of line)) (was_answered (end_at (suc (length lines)) line))
      → new.aborted ≡ old.aborted + one_if (asked_in_all u lines (client_of line)) (was_aborted (end_at (suc (length lines)) line))
      → new.called.items ≡ old.called.items → new.subscribers ≡ old.subscribers → new.overlapped ≡ old.overlapped → new.widest ≡ old.widest → HasCountedCalls u (lines ++ line ∷ []) new
  none_counted old new h asked answered aborted called subscribers overlapped widest =
      let longer : length (lines ++ line ∷ []) ≡ suc (length lines) = length-append lines (line ∷ []) ∙ omega arith in
      let few_s = h.subscribers_few in
      let few_o = h.overlapped_few in
      let few_w = h.widest_few in
      record {
        asked_is = let was = h.asked_is in let next = asked_next_line lines line in omega (arith, asked, was, next);
        answered_is = let was = h.answered_is in let next = count_next u was_answered refl lines line in omega (arith, answered, was, next);
        aborted_is = let was = h.aborted_is in let next = count_next u was_aborted refl lines line in omega (arith, aborted, was, next);
        marks = subst (AreMarked u (lines ++ line ∷ [])) (sym called) (record {
          within = h.marks.within;
          marked = λ place is. called_before u lines line (suc place) (h.marks.marked place is);
          all = λ place lt is. h.marks.all place lt (called_back (suc place) is);
        });
        subscribers_is = subst (λ n. IsNumberOf n (IsCalled u (lines ++ line ∷ []))) (sym subscribers) (number_same (IsCalled u lines) (IsCalled u (lines ++ line ∷ [])) old.subscribers (called_before u lines line) called_back h.subscribers_is);
        subscribers_few = omega (arith, subscribers, few_s, longer);
        overlapped_is = subst (λ n. IsNumberOf n (MeetsOthers u (lines ++ line ∷ []))) (sym overlapped) (number_same (MeetsOthers u lines) (MeetsOthers u (lines ++ line ∷ [])) old.overlapped (meets_before u lines line) meets_back h.overlapped_is);
        overlapped_few = omega (arith, overlapped, few_o, longer);
        widest_is = subst (IsWidest u (lines ++ line ∷ [])) (sym widest)
            (widest_next u lines line old.widest old.widest (omega arith) (λ s k c. no_wider u lines line old.widest s k h.widest_is (none s) c) (inl refl) h.widest_is);
        widest_few = omega (arith, widest, few_w, longer);
      }

-- ---- a call that is asked on a subscriber
module _ (u : Database) (lines : List Line) (client s : ℕ) (call : Call) (others : ℕ) (named : subscriber_of u call ≡ Some s) (there : AreOthersOn u s client lines others) where
  abbrev after : List Line
  after = lines ++ Ask client call ∷ []

  -- so many calls on the subscriber are open then
  abbrev AreOpenThen : ℕ → ℕ → Type 0
  AreOpenThen t k = AreCounted (opened_after u t 1 no_calls (lines ++ Ask client call ∷ [])) k

  on : is_on u s call ≡ true
  on = ap (is_this s) named ∙ eq-eqb s s refl

  only : (other : ℕ) → is_on u other call ≡ true → other ≡ s
  only other h = elim (same_or_not other s) [
    | inl e ↦ e
    | inr n ↦ absurd (false≢true (sym (ap (is_this other) named ∙ ne_eqb s other (λ e. n (sym e))) ∙ h))
  ]

  -- ---- subscribers
  asked_now : IsCalled u after s
  asked_now = (length lines, client, record { call = call; asked = got_now lines (Ask client call); on = on })

  called_was : (other : ℕ) → IsCalled u after other → (other ≡ s) ⊎ IsCalled u lines other
  called_was other h = elim (called_either u lines (Ask client call) other h) [ inl a ↦ inr a | inr e ↦ inl (only other e) ]

  pub marks_then : (called : List Bool) → AreMarked u lines called → AreMarked u after (set called (s - 1) true)
  marks_then called h =
      let within = h.within call s named in
      let first = within.0 in
      let last = within.1 in
      record {
        within = λ k t e. let w = h.within k t e in let a = w.1 in let b = length-set called (s - 1) true in (w.0, omega (arith, a, b));
        marked = λ place is. elim (same_or_not place (s - 1)) [
          | inl e ↦ let at : s ≡ suc place = omega (arith, e, first) in subst (IsCalled u after) at asked_now
          | inr n ↦ called_before u lines (Ask client call) (suc place) (h.marked place (sym (got_other called (s - 1) place true n) ∙ is))
        ];
        all = λ place lt is. elim (same_or_not place (s - 1)) [
          | inl e ↦ subst (λ k. slice_get (set called (s - 1) true) k ≡ Some true) (sym e) (got_written called (s - 1) true (omega (arith, first, last)))
          | inr n ↦ elim (called_was (suc place) is) [
            | inl e ↦ absurd (n (omega (arith, e)))
            | inr was ↦ let b = length-set called (s - 1) true in got_other called (s - 1) place true n ∙ h.all place (omega (arith, lt, b)) was
          ]
        ];
      }

  pub subscribers_then : (called : List Bool) (n : ℕ) → AreMarked u lines called → IsNumberOf n (IsCalled u lines) → IsNumberOf (cond (get_or called (s - 1) false) n (n + 1)) (IsCalled u after)
  subscribers_then called n h is =
      let within = h.within call s named in
      let first = within.0 in
      let last = within.1 in
      let at : s ≡ suc (s - 1) = omega (arith, first) in
      cases (get_or called (s - 1) false) (or_got called (s - 1) false (omega (arith, first, last))) at
    where
      cases : (b : Bool) → slice_get called (s - 1) ≡ Some b → s ≡ suc (s - 1) → IsNumberOf (cond b n (n + 1)) (IsCalled u after)
      cases true got at =
          let was : IsCalled u lines s = subst (IsCalled u lines) (sym at) (h.marked (s - 1) got) in
          number_same (IsCalled u lines) (IsCalled u after) n (called_before u lines (Ask client call)) (λ other k. elim (called_was other k) [ inl e ↦ subst (IsCalled u lines) (sym e) was | inr a ↦ a ]) is
      cases false got at = number_more (IsCalled u lines) (IsCalled u after) n s
          (λ was. let within = h.within call s named in let first = within.0 in let last = within.1 in false≢true (same_Some false true (sym got ∙ h.all (s - 1) (omega (arith, first, last)) (subst (IsCalled u lines) at was)))) asked_now (called_before u lines (Ask client call)) called_was is

  -- ---- calls that met others
  rest : AreOthers client there.all (opened_after u s 1 no_calls lines)
  rest = others_of client there.all (opened_after u s 1 no_calls lines) (opened_after u s 1 no_calls lines client) there.counted refl

  unmet : others ≡ 0 → MeetsNow u lines (Ask client call) → ⊥
  unmet zero_is now =
      let same = only now.0 now.2 in
      let count = rest.count in
      let many = there.others in
      elim (rest.all now.1 now.3) [
        | inl none ↦ now.4 (subst (λ t. opened_after u t 1 no_calls lines now.1 ≡ None) (sym same) none)
        | inr m ↦ let some = among_some now.1 rest.clients m in omega (arith, some, count, many, zero_is)
      ]

  pub overlapped_then : (n : ℕ) → IsNumberOf n (MeetsOthers u lines) → IsNumberOf (cond (nat_lt 0 others) (n + 1) n) (MeetsOthers u after)
  overlapped_then n is = elim (cases_lt 0 others) [
    | inl lt ↦
        let count = rest.count in
        let many = there.others in
        let other = some_among rest.clients (omega (arith, lt, count, many)) in
        subst (λ b. IsNumberOf (cond b (n + 1) n) (MeetsOthers u after)) (sym (lt-ltb 0 others lt))
        (number_more (MeetsOthers u lines) (MeetsOthers u after) n (length lines) (λ h. let lt = got_within lines (Ask h.client h.asks.call) (length lines) h.asks.asked in omega (arith, lt))
        (meets_now u lines (Ask client call) s client other.0 call refl on (rest.apart other.0 other.1) (λ none. rest.still other.0 other.1 none)) (meets_before u lines (Ask client call))
        (λ before h. elim (meets_either u lines (Ask client call) before h) [ inl now ↦ inl now.0 | inr m ↦ inr m ]) is)
    | inr le ↦
        subst (λ b. IsNumberOf (cond b (n + 1) n) (MeetsOthers u after)) (sym (le-ltb 0 others le))
        (number_same (MeetsOthers u lines) (MeetsOthers u after) n (meets_before u lines (Ask client call))
        (λ before h. elim (meets_either u lines (Ask client call) before h) [ inl now ↦ absurd (unmet (omega (arith, le)) now.1) | inr m ↦ m ]) is)
  ]

  -- ---- the widest
  most_now : (n next t k : ℕ) → n ≤ next → others + 1 ≤ next → IsWidest u lines n → AreOpenThen t k → k ≤ next
  most_now n next t k up wide h c = elim (same_or_not t s) [
    | inl e ↦
        let le = no_more_open u lines client s there.all k call on there.counted (subst (λ x. AreOpenThen x k) e c) in
        let many = there.others in
        omega (arith, le, many, wide)
    | inr m ↦ let le = no_wider u lines (Ask client call) n t k h (ap (is_this t) named ∙ ne_eqb s t (λ e. m (sym e))) c in omega (arith, le, up)
  ]

  pub widest_then : (n : ℕ) → IsWidest u lines n → IsWidest u after (cond (nat_lt n (others + 1)) (others + 1) n)
  widest_then n h = elim (cases_lt n (others + 1)) [
    | inl lt ↦ subst (λ b. IsWidest u after (cond b (others + 1) n)) (sym (lt-ltb n (others + 1) lt))
        (widest_next u lines (Ask client call) n (others + 1) (omega (arith, lt)) (λ t k c. most_now n (others + 1) t k (omega (arith, lt)) (omega arith) h c)
        (inr (s, now_is)) h)
    | inr le ↦ subst (λ b. IsWidest u after (cond b (others + 1) n)) (sym (le-ltb n (others + 1) le))
        (widest_next u lines (Ask client call) n n (omega arith) (λ t k c. most_now n n t k (omega arith) le h c) (inl refl) h)
  ]
    where
      now_is : AreOpenThen s (others + 1)
      now_is = subst (AreOpenThen s) (ap (λ k. k + 1) (sym there.others)) (now_open u lines client s there.all call on there.counted)

-- ---- all that is counted of a line that asks
module _ (u : Database) (lines : List Line) (client : ℕ) (call : Call) (old new : Counts) (h : HasCountedCalls u lines old) (asked : new.asked ≡ old.asked + 1) (answered : new.answered ≡ old.answered) (aborted : new.aborted ≡ old.aborted) where
  open_ends : (b : Bool) → b ≡ false → one_if (asked_in_all u lines client) b ≡ 0
  open_ends b e = ap (one_if (asked_in_all u lines client)) e ∙ none_if (asked_in_all u lines client)

  pub asked_of_none : subscriber_of u call ≡ None → new.called.items ≡ old.called.items → new.subscribers ≡ old.subscribers → new.overlapped ≡ old.overlapped → new.widest ≡ old.widest → HasCountedCalls u (lines ++ Ask client call ∷ []) new
  asked_of_none named = none_counted u lines (Ask client call) (λ s. ap (is_this s) named) old new h asked
      (let none = open_ends false refl in omega (arith, answered, none)) (let none = open_ends false refl in omega (arith, aborted, none))

  pub asked_of_one : (s others : ℕ) → subscriber_of u call ≡ Some s → AreOthersOn u s client lines others → new.called.items ≡ set old.called.items (s - 1) true → new.subscribers ≡ cond (get_or old.called.items (s - 1) false) old.subscribers (old.subscribers + 1)
      → new.overlapped ≡ cond (nat_lt 0 others) (old.overlapped + 1) old.overlapped → new.widest ≡ cond (nat_lt old.widest (others + 1)) (others + 1) old.widest → HasCountedCalls u (lines ++ Ask client call ∷ []) new
  asked_of_one s others named there called subscribers overlapped widest =
      let longer : length (lines ++ Ask client call ∷ []) ≡ suc (length lines) = length-append lines (Ask client call ∷ []) ∙ omega arith in
      let none = open_ends false refl in
      let few_s = h.subscribers_few in
      let few_o = h.overlapped_few in
      let few_w = h.widest_few in
      let few = there.few in
      record {
        asked_is = let was = h.asked_is in let next = asked_next_line lines (Ask client call) in omega (arith, asked, was, next);
        answered_is = let was = h.answered_is in let next = count_next u was_answered refl lines (Ask client call) in omega (arith, answered, was, next, none);
        aborted_is = let was = h.aborted_is in let next = count_next u was_aborted refl lines (Ask client call) in omega (arith, aborted, was, next, none);
        marks = subst (AreMarked u (lines ++ Ask client call ∷ [])) (sym called) (marks_then u lines client s call others named there old.called.items h.marks);
        subscribers_is = subst (λ n. IsNumberOf n (IsCalled u (lines ++ Ask client call ∷ []))) (sym subscribers) (subscribers_then u lines client s call others named there old.called.items old.subscribers h.marks h.subscribers_is);
        subscribers_few = up (get_or old.called.items (s - 1) false) old.subscribers few_s longer subscribers;
        overlapped_is = subst (λ n. IsNumberOf n (MeetsOthers u (lines ++ Ask client call ∷ []))) (sym overlapped) (overlapped_then u lines client s call others named there old.overlapped h.overlapped_is);
        overlapped_few = down (nat_lt 0 others) old.overlapped few_o longer overlapped;
        widest_is = subst (IsWidest u (lines ++ Ask client call ∷ [])) (sym widest) (widest_then u lines client s call others named there old.widest h.widest_is);
        widest_few = either (nat_lt old.widest (others + 1)) few few_w longer widest;
      }
    where
      up : {k m : ℕ} (b : Bool) (n : ℕ) → n ≤ length lines → m ≡ suc (length lines) → k ≡ cond b n (n + 1) → k ≤ m
      up true n le long is = omega (arith, le, long, is)
      up false n le long is = omega (arith, le, long, is)

      down : {k m : ℕ} (b : Bool) (n : ℕ) → n ≤ length lines → m ≡ suc (length lines) → k ≡ cond b (n + 1) n → k ≤ m
      down true n le long is = omega (arith, le, long, is)
      down false n le long is = omega (arith, le, long, is)

      either : {k m : ℕ} (b : Bool) → others ≤ length lines → old.widest ≤ length lines → m ≡ suc (length lines) → k ≡ cond b (others + 1) old.widest → k ≤ m
      either true le wide long is = omega (arith, le, long, is)
      either false le wide long is = omega (arith, wide, long, is)

-- ---- what is read of the judge
pub others_there : (u : Database) (most : ℕ) (lines : List Line) (judge : Judge) (client s n : ℕ) (one : Option Asked) (w : Window) → HasFollowed u most lines judge → 1 ≤ s → s ≤ length judge.windows.items → slice_get judge.windows.items (s - 1) ≡ Some w
    → one ≡ get nat_eq judge.asked client → n ≡ fewer (asked_on s one) w.waiting → AreOthersOn u s client lines n
others_there u most lines judge client s n one w h first last at is others =
    let same : suc (s - 1) ≡ s = omega (arith, first) in
    let window = subst (λ k. IsKept u most k lines w) same (h.noted.windows_are (s - 1) w at) in
    let few = kept_few u most s lines w window in
    let fewer_is = fewer_at_most (asked_on s one) w.waiting in
    let opened : opened_after u s 1 no_calls lines client ≡ asked_on s one = opened_is u s lines client ∙ ap (asked_on s) (sym (is ∙ h.noted.asked_are client)) in
    record {
      all = w.waiting;
      counted = kept_counted u most s lines w window;
      others = others ∙ ap (λ o. fewer o w.waiting) (sym opened);
      few = omega (arith, few, fewer_is, others);
    }

-- ---- before any line
pub none_called : (u : Database) → IsNumberOf 0 (IsCalled u [])
none_called u = record {
  numbers = [];
  count = refl;
  once = tt;
  all = λ s h. absurd (none-some (Ask h.1 h.2.call) h.2.asked);
  only = λ s h. absurd h;
}

pub none_meet : (u : Database) → IsNumberOf 0 (MeetsOthers u [])
none_meet u = record {
  numbers = [];
  count = refl;
  once = tt;
  all = λ s h. absurd (none-some (Ask h.client h.asks.call) h.asks.asked);
  only = λ s h. absurd h;
}

no_client : (k : ℕ) → AreCounted no_calls k → k ≤ 0
no_client k c = none c.clients c.still c.count
  where
    none : (clients : List ℕ) → ((client : ℕ) → IsAmong client clients → no_calls client ≡ None → ⊥) → length clients ≡ k → k ≤ 0
    none [] still count = omega (arith, count)
    none (client ∷ more) still count = absurd (still client (inl refl) refl)

pub none_wide : (u : Database) → IsWidest u [] 0
none_wide u = record {
  most = λ before s k within c. no_client k (subst (λ ls. AreCounted (opened_after u s 1 no_calls ls) k) (take_all before [] (omega arith)) c);
  before = 0;
  within = omega arith;
  s = 0;
  some = record {
    clients = [];
    count = refl;
    once = tt;
    all = λ client. inl refl;
    still = λ client h. absurd h;
  };
}

unmarked : (n place : ℕ) → slice_get (replicate n false) place ≡ Some true → ⊥
unmarked n place h =
    let lt = got_within (replicate n false) true place h in
    let count = length-replicate n false in
    let got = or_got (replicate n false) place false lt in
    false≢true (same_Some false true (ap Some (sym (get_or-replicate n place false false (omega (arith, lt, count)))) ∙ (sym got ∙ h)))

pub none_marked : (u : Database) (directory : Listing) (n : ℕ) → IsDirectoryOf u n directory → AreMarked u [] (replicate n false)
none_marked u directory n d =
    let count = length-replicate n false in
    record {
      within = λ call s e. let w = named_within u n directory call s d e in let last = w.1 in (w.0, omega (arith, last, count));
      marked = λ place h. absurd (unmarked n place h);
      all = λ place lt h. absurd (none-some (Ask h.1 h.2.call) h.2.asked);
    }
