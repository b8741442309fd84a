-- Which subscribers were called, which calls met others, and how many, after one line more.
use Rattle.std.proofs.Common.{◌≡◌, ℕ, zero, suc, ◌+◌, ◌<◌, ◌≤◌, ◌⊎◌, ◌∙◌, sym, ap, subst, Bool, true, false, cond, List, [], ◌∷◌, ◌++◌, length, take, set, get_or, slice_get, refl, arith, Option, Some, None, inl, inr}
use Rattle.std.proofs.lemmas.Bool.{cases_lt}
use Rattle.std.proofs.lemmas.List.{length-append, take_all}
use Rattle.std.proofs.lemmas.Option.{none-some, same_Some}
use Rattle.tatp_tables.specs.Database.{Database}
use Rattle.tatp_calls.specs.declared.call.Call.{Call}
use Rattle.tatp_history.specs.declared.line.Line.{Line}
use Rattle.tatp_history.specs.declared.line.Line.TheVariants.{Ask, End, Abort, Lost}
use Rattle.tatp_history.specs.HistoryLines.{client_of}
use Rattle.tatp_history.specs.Locality.{is_on}
use Rattle.tatp_history.specs.SubscriberEvents.{OpenCalls, no_calls, with_call, opened_by, opened_after}
use Rattle.tatp_history.proofs.SubscriberEventLaws.{same_or_not, with_same, with_other}
use Rattle.tatp_judge.specs.Stakes.{IsNumberOf, Asks, IsCalled, MeetsOthers, IsWidest}
use Rattle.tatp_judge.specs.Steps.{fewer}
use Rattle.tatp_judge.specs.Windows.{IsAmong, AreEachOnce, AreCounted}
use Rattle.tatp_judge.proofs.NextLineLaws.{opened_next}
use Rattle.tatp_judge.proofs.NumberLaws.{front}
use Rattle.tatp_judge.proofs.WindowLaws.{one_less, counted_asked}

-- ---- numbers that have a property
pub number_same : (P Q : ℕ → Type 0) (n : ℕ) → ((x : ℕ) → P x → Q x) → ((x : ℕ) → Q x → P x) → IsNumberOf n P → IsNumberOf n Q
number_same P Q n to from h = record {
  numbers = h.numbers;
  count = h.count;
  once = h.once;
  all = λ x q. h.all x (from x q);
  only = λ x k. to x (h.only x k);
}

pub number_more : (P Q : ℕ → Type 0) (n y : ℕ) → (P y → ⊥) → Q y → ((x : ℕ) → P x → Q x) → ((x : ℕ) → Q x → (x ≡ y) ⊎ P x) → IsNumberOf n P → IsNumberOf (n + 1) Q
number_more P Q n y fresh there to from h = record {
  numbers = y ∷ h.numbers;
  count = let k = h.count in omega (arith, k);
  once = (λ k. fresh (h.only y k), h.once);
  all = λ x q. elim (from x q) [ inl e ↦ inl e | inr p ↦ inr (h.all x p) ];
  only = λ x k. elim k [ inl e ↦ subst Q (sym e) there | inr m ↦ to x (h.only x m) ];
}

-- numbers that are among others, each once, are no more
at_most : (xs ys : List ℕ) → AreEachOnce xs → ((x : ℕ) → IsAmong x xs → IsAmong x ys) → length xs ≤ length ys
at_most [] ys once within = omega arith
at_most (x ∷ xs) ys once within =
    let less = one_less x ys (within x (inl refl)) in
    let rest = at_most xs less.0 once.1 (λ y k. less.1.others y (λ e. once.0 (subst (λ z. IsAmong z xs) e k)) (within y (inr k))) in
    let count = less.1.count in
    omega (arith, rest, count)

count_at_most : (opened : OpenCalls) (a b : ℕ) → AreCounted opened a → AreCounted opened b → a ≤ b
count_at_most opened a b x y =
    let le = at_most x.clients y.clients x.once (λ client k. elim (y.all client) [ inl none ↦ absurd (x.still client k none) | inr m ↦ m ]) in
    let first = x.count in
    let second = y.count in
    omega (arith, le, first, second)

pub some_among : (xs : List ℕ) → 0 < length xs → (x : ℕ) × IsAmong x xs
some_among [] lt = absurd (omega (arith, lt))
some_among (x ∷ xs) lt = (x, inl refl)

pub among_some : (x : ℕ) (xs : List ℕ) → IsAmong x xs → 0 < length xs
among_some x [] h = absurd h
among_some x (y ∷ ys) h = omega arith

-- ---- places of a list
pub got_before : {X : Type 0} (xs : List X) (y x : X) (k : ℕ) → slice_get xs k ≡ Some x → slice_get (xs ++ y ∷ []) k ≡ Some x
got_before [] y x k h = absurd (none-some x h)
got_before (z ∷ zs) y x zero h = h
got_before (z ∷ zs) y x (suc k) h = got_before zs y x k h

pub got_now : {X : Type 0} (xs : List X) (y : X) → slice_get (xs ++ y ∷ []) (length xs) ≡ Some y
got_now [] y = refl
got_now (z ∷ zs) y = got_now zs y

pub got_either : {X : Type 0} (xs : List X) (y x : X) (k : ℕ) → slice_get (xs ++ y ∷ []) k ≡ Some x → (slice_get xs k ≡ Some x) ⊎ ((k ≡ length xs) × (y ≡ x))
got_either [] y x zero h = inr (refl, same_Some y x h)
got_either [] y x (suc k) h = absurd (none-some x h)
got_either (z ∷ zs) y x zero h = inl h
got_either (z ∷ zs) y x (suc k) h = elim (got_either zs y x k h) [ inl e ↦ inl e | inr e ↦ inr (ap suc e.0, e.1) ]

pub got_within : {X : Type 0} (xs : List X) (x : X) (k : ℕ) → slice_get xs k ≡ Some x → k < length xs
got_within [] x k h = absurd (none-some x h)
got_within (z ∷ zs) x zero h = omega arith
got_within (z ∷ zs) x (suc k) h = let rest = got_within zs x k h in omega (arith, rest)

pub or_got : {X : Type 0} (xs : List X) (k : ℕ) (x : X) → k < length xs → slice_get xs k ≡ Some (get_or xs k x)
or_got [] k x lt = absurd (omega (arith, lt))
or_got (z ∷ zs) zero x lt = refl
or_got (z ∷ zs) (suc k) x lt = or_got zs k x (omega (arith, lt))

pub got_written : {X : Type 0} (xs : List X) (k : ℕ) (x : X) → k < length xs → slice_get (set xs k x) k ≡ Some x
got_written [] k x lt = absurd (omega (arith, lt))
got_written (z ∷ zs) zero x lt = refl
got_written (z ∷ zs) (suc k) x lt = got_written zs k x (omega (arith, lt))

-- ---- a line more
-- whether the line asks a call on the subscriber
abbrev pub asks_on_it : Database → ℕ → Line → Bool
asks_on_it u s (Ask client call) = is_on u s call
asks_on_it u s (End client recorded) = false
asks_on_it u s (Abort client) = false
asks_on_it u s (Lost client) = false

-- it asks none on any
abbrev pub AsksNone : Database → Line → Type 0
AsksNone u line = (s : ℕ) → asks_on_it u s line ≡ false

module _ (u : Database) (lines : List Line) (line : Line) where
  abbrev after : List Line
  after = lines ++ line ∷ []

  longer : length after ≡ suc (length lines)
  longer = length-append lines (line ∷ []) ∙ omega arith

  pub asks_before : (s before client : ℕ) → Asks u s lines before client → Asks u s after before client
  asks_before s before client a = record { call = a.call; asked = got_before lines line (Ask client a.call) before a.asked; on = a.on }

  pub asks_either : (s before client : ℕ) → Asks u s after before client → Asks u s lines before client ⊎ ((before ≡ length lines) × (client_of line ≡ client) × (asks_on_it u s line ≡ true))
  asks_either s before client a = elim (got_either lines line (Ask client a.call) before a.asked) [
    | inl e ↦ inl (record { call = a.call; asked = e; on = a.on })
    | inr e ↦ inr (e.0, ap client_of e.1, ap (asks_on_it u s) e.1 ∙ a.on)
  ]

  pub called_before : (s : ℕ) → IsCalled u lines s → IsCalled u after s
  called_before s h = (h.0, h.1, asks_before s h.0 h.1 h.2)

  pub called_either : (s : ℕ) → IsCalled u after s → IsCalled u lines s ⊎ (asks_on_it u s line ≡ true)
  called_either s h = elim (asks_either s h.0 h.1 h.2) [ inl a ↦ inl (h.0, h.1, a) | inr e ↦ inr e.2 ]

  pub meets_before : (before : ℕ) → MeetsOthers u lines before → MeetsOthers u after before
  meets_before before h =
      let lt = got_within lines (Ask h.client h.asks.call) before h.asks.asked in
      record {
        s = h.s;
        client = h.client;
        asks = asks_before h.s before h.client h.asks;
        other = h.other;
        apart = h.apart;
        still = λ none. h.still (subst (λ ls. opened_after u h.s 1 no_calls ls h.other ≡ None) (front before lines (line ∷ []) (omega (arith, lt))) none);
      }

  pub all_before : take (length lines) after ≡ lines
  all_before = front (length lines) lines (line ∷ []) (omega arith) ∙ take_all (length lines) lines (omega arith)

  -- a call that met others before is one of these, or it is asked now
  abbrev pub MeetsNow : Type 0
  MeetsNow = (s other : ℕ) × (asks_on_it u s line ≡ true) × (other ≡ client_of line → ⊥) × (opened_after u s 1 no_calls lines other ≡ None → ⊥)

  pub meets_either : (before : ℕ) → MeetsOthers u after before → ((before ≡ length lines) × MeetsNow) ⊎ MeetsOthers u lines before
  meets_either before h = elim (asks_either h.s before h.client h.asks) [
    | inl a ↦
        let lt = got_within lines (Ask h.client a.call) before a.asked in
        inr (record {
          s = h.s;
          client = h.client;
          asks = a;
          other = h.other;
          apart = h.apart;
          still = λ none. h.still (subst (λ ls. opened_after u h.s 1 no_calls ls h.other ≡ None) (sym (front before lines (line ∷ []) (omega (arith, lt)))) none);
        })
    | inr e ↦ inl (
      e.0,
      (
        h.s,
        h.other,
        e.2,
        λ same. h.apart (same ∙ e.1),
        λ none. h.still (subst (λ k. opened_after u h.s 1 no_calls (take k after) h.other ≡ None) (sym e.0) (subst (λ ls. opened_after u h.s 1 no_calls ls h.other ≡ None) (sym all_before) none)),
      ),
    )
  ]

  pub meets_now : (s client other : ℕ) (call : Call) → line ≡ Ask client call → is_on u s call ≡ true → (other ≡ client → ⊥) → (opened_after u s 1 no_calls lines other ≡ None → ⊥) → MeetsOthers u after (length lines)
  meets_now s client other call is on apart still = record {
    s = s;
    client = client;
    asks = record { call = call; asked = got_now lines line ∙ ap Some is; on = on };
    other = other;
    apart = apart;
    still = λ none. still (subst (λ ls. opened_after u s 1 no_calls ls other ≡ None) all_before none);
  }

  -- ---- open calls
  pub after_opened : (s : ℕ) → opened_after u s 1 no_calls after ≡ opened_by u s (suc (length lines)) (opened_after u s 1 no_calls lines) line
  after_opened s = opened_next u s lines line 1 (suc (length lines)) no_calls (omega arith)

  pub widest_next : (n next : ℕ) → n ≤ next → ((s k : ℕ) → AreCounted (opened_after u s 1 no_calls after) k → k ≤ next) → (next ≡ n) ⊎ ((s : ℕ) × AreCounted (opened_after u s 1 no_calls after) next)
      → IsWidest u lines n → IsWidest u after next
  widest_next n next up now some h =
      let count = longer in
      let most : (before s k : ℕ) → before ≤ length after → AreCounted (opened_after u s 1 no_calls (take before after)) k → k ≤ next
      = λ before s k within c. elim (cases_lt before (suc (length lines))) [
        | inl lt ↦
            let le = h.most before s k (omega (arith, lt)) (subst (λ ls. AreCounted (opened_after u s 1 no_calls ls) k) (front before lines (line ∷ []) (omega (arith, lt))) c) in omega (arith, le, up)
        | inr ge ↦ now s k (subst (λ ls. AreCounted (opened_after u s 1 no_calls ls) k) (take_all before after (omega (arith, ge, count))) c)
      ] in
      elim some [
        | inl e ↦
            let le = h.within in
            record {
              most = most;
              before = h.before;
              within = omega (arith, le, count);
              s = h.s;
              some = subst (AreCounted (opened_after u h.s 1 no_calls (take h.before after))) (sym e)
                  (subst (λ ls. AreCounted (opened_after u h.s 1 no_calls ls) n) (sym (front h.before lines (line ∷ []) h.within)) h.some);
            }
        | inr a ↦ record {
          most = most;
          before = length after;
          within = omega arith;
          s = a.0;
          some = subst (λ ls. AreCounted (opened_after u a.0 1 no_calls ls) next) (sym (take_all (length after) after (omega arith))) a.1;
        }
      ]

-- ---- a client's call ends
-- so many calls were open, if not more
closed_from : (client k : ℕ) (opened : OpenCalls) → AreCounted (with_call opened client None) k → (all : ℕ) × (k ≤ all) × AreCounted opened all
closed_from client k opened c = cases (opened client) refl
  where
    gone : (other : ℕ) → opened other ≡ None → with_call opened client None other ≡ None
    gone other none = elim (same_or_not other client) [
      | inl e ↦ ap (with_call opened client None) e ∙ with_same opened client None
      | inr n ↦ with_other opened client None other n ∙ none
    ]

    cases : (o : Option ℕ) → opened client ≡ o → (all : ℕ) × (k ≤ all) × AreCounted opened all
    cases None has = (
      k,
      omega arith,
      record {
        clients = c.clients;
        count = c.count;
        once = c.once;
        all = λ other. elim (same_or_not other client) [
          | inl e ↦ inl (ap opened e ∙ has)
          | inr n ↦ elim (c.all other) [ inl none ↦ inl (sym (with_other opened client None other n) ∙ none) | inr m ↦ inr m ]
        ];
        still = λ other m none. c.still other m (gone other none);
      },
    )
    cases (Some asked) has = (
      suc k,
      omega arith,
      record {
        clients = client ∷ c.clients;
        count = ap suc c.count;
        once = (λ m. c.still client m (with_same opened client None), c.once);
        all = λ other. elim (same_or_not other client) [
          | inl e ↦ inr (inl e)
          | inr n ↦ elim (c.all other) [ inl none ↦ inl (sym (with_other opened client None other n) ∙ none) | inr m ↦ inr (inr m) ]
        ];
        still = λ other m none. elim m [
          | inl e ↦ none-some asked (sym none ∙ (ap opened e ∙ has))
          | inr in_it ↦ c.still other in_it (gone other none)
        ];
      },
    )

-- ---- a line that asks no call on the subscriber
opened_less : (u : Database) (s number : ℕ) (opened : OpenCalls) (line : Line) → asks_on_it u s line ≡ false → opened_by u s number opened line ≡ with_call opened (client_of line) None
opened_less u s number opened (Ask client call) none = ap (λ b. with_call opened client (cond b (Some number) None)) none
opened_less u s number opened (End client recorded) none = refl
opened_less u s number opened (Abort client) none = refl
opened_less u s number opened (Lost client) none = refl

pub no_wider : (u : Database) (lines : List Line) (line : Line) (n s k : ℕ) → IsWidest u lines n → asks_on_it u s line ≡ false → AreCounted (opened_after u s 1 no_calls (lines ++ line ∷ [])) k → k ≤ n
no_wider u lines line n s k h none c =
    let opened = opened_after u s 1 no_calls lines in
    let before = closed_from (client_of line) k opened (subst (λ (o : OpenCalls). AreCounted o k) (after_opened u lines line s ∙ opened_less u s (suc (length lines)) opened line none) c) in
    let le = h.most (length lines) s before.0 (omega arith) (subst (λ ls. AreCounted (opened_after u s 1 no_calls ls) before.0) (sym (take_all (length lines) lines (omega arith))) before.2) in
    let up = before.1 in
    omega (arith, le, up)

-- ---- a call that is asked on the subscriber
-- so many are open then
pub now_open : (u : Database) (lines : List Line) (client s all : ℕ) (call : Call) → is_on u s call ≡ true → AreCounted (opened_after u s 1 no_calls lines) all
    → AreCounted (opened_after u s 1 no_calls (lines ++ Ask client call ∷ [])) (fewer (opened_after u s 1 no_calls lines client) all + 1)
now_open u lines client s all call on c =
    let opened = opened_after u s 1 no_calls lines in
    subst (λ (o : OpenCalls). AreCounted o (fewer (opened client) all + 1))
    (sym (after_opened u lines (Ask client call) s ∙ ap (λ b. with_call opened client (cond b (Some (suc (length lines))) None)) on))
    (counted_asked client all (suc (length lines)) opened c)

pub no_more_open : (u : Database) (lines : List Line) (client s all k : ℕ) (call : Call) → is_on u s call ≡ true → AreCounted (opened_after u s 1 no_calls lines) all
    → AreCounted (opened_after u s 1 no_calls (lines ++ Ask client call ∷ [])) k → k ≤ fewer (opened_after u s 1 no_calls lines client) all + 1
no_more_open u lines client s all k call on c now =
    count_at_most (opened_after u s 1 no_calls (lines ++ Ask client call ∷ [])) k (fewer (opened_after u s 1 no_calls lines client) all + 1) now (now_open u lines client s all call on c)
