-- Serial orders of the calls that remain: of those open, and of those asked later.
use Rattle.std.proofs.Common.{◌≡◌, ℕ, zero, suc, ◌<◌, ◌≤◌, ◌⊎◌, ◌==◌, true, false, List, [], ◌∷◌, length, refl, sym, ◌∙◌, ap, subst, arith, eqb-true, eq-eqb, true≢false, inl, inr}
use Rattle.tatp_tables.specs.Database.{Database}
use Rattle.tatp_calls.specs.Transactions.{transaction}
use Rattle.tatp_history.specs.declared.event.Event.{Event}
use Rattle.tatp_history.specs.declared.event.Event.TheVariants.{Asks, Ends}
use Rattle.tatp_history.specs.declared.observed.Observed.{Observed}
use Rattle.tatp_history.specs.Histories.{IsIn, IsAnswered, Precedes, MayHaveReply, rows_after}
use Rattle.tatp_history.specs.Events.{AreAfter, TimesRise, IsAnsweredAt, EndsIn, EndsFit, HaveEnds}
use Rattle.tatp_history.specs.JustInTime.{Chooses, NoneAskedAt, TakeEffect, AreOpen}
use Rattle.tatp_history.specs.Remaining.{IsLeft, IsOrderFrom, HasOrder}
use Rattle.tatp_history.proofs.OrderLaws.{all_map, all_in, in_all}
use Rattle.tatp_history.proofs.ChoiceLaws.{chosen_in, rest_in, in_cases, chooses_some, chooses_apart, chooses_length}
use Rattle.tatp_history.proofs.EventLaws.{answered_at, is_before, before_answered, asked_after, ends_after, later_ends}

-- each call that is left and answered ends later
pub left_ends : (events : List Event) (opened : List Observed) → HaveEnds events → AreOpen events opened → (z : Observed) → IsLeft events opened z → IsAnswered z.outcome → EndsIn z events
left_ends events opened have are z h answered = elim h [
  | inl k ↦ are.ends z k answered
  | inr k ↦ later_ends events z have k answered
]

-- one more is asked
pub open_asked : (x : Observed) (more : List Event) (opened : List Observed) → TimesRise (Asks x ∷ more) → HaveEnds (Asks x ∷ more) → AreOpen (Asks x ∷ more) opened → AreOpen more (x ∷ opened)
open_asked x more opened rise have are = record {
  ends = λ z h answered. elim h [
    | inl e ↦ subst (λ (w : Observed). EndsIn w more) (sym e) (have.0 (subst (λ (w : Observed). IsAnswered w.outcome) e answered))
    | inr k ↦ are.ends z k answered
  ];
  fit = λ z h. elim h [
    | inl e ↦ subst (λ (w : Observed). EndsFit w more) (sym e) have.1
    | inr k ↦ are.fit z k
  ];
  before = λ z h. elim h [
    | inl e ↦ subst (λ (w : Observed). AreAfter w.asked more) (sym e) rise.0
    | inr k ↦ (are.before z k).1
  ];
  apart = (
    all_in (λ (y : Observed). x.asked ≡ y.asked → ⊥) opened (λ y k e. let lt : y.asked < x.asked = (are.before y k).0 in omega (arith, lt, e)),
    are.apart,
  );
}

-- a call is chosen, at the same event
pub open_chosen : (events : List Event) (opened : List Observed) (x : Observed) (left : List Observed) → Chooses opened x left → AreOpen events opened → AreOpen events left
open_chosen events opened x left c are = record {
  ends = λ z h answered. are.ends z (rest_in opened x left c z h) answered;
  fit = λ z h. are.fit z (rest_in opened x left c z h);
  before = λ z h. are.before z (rest_in opened x left c z h);
  apart = (chooses_apart opened x left c are.apart).1;
}

-- no open call was asked at the time whose end it is: it goes on
pub open_ended : (asked at : ℕ) (more : List Event) (opened : List Observed) → NoneAskedAt asked opened → AreOpen (Ends asked at ∷ more) opened → AreOpen more opened
open_ended asked at more opened none are = record {
  ends = λ z h answered. elim (are.ends z h answered) [
    | inl e ↦ absurd (in_all (λ (y : Observed). y.asked ≡ asked → ⊥) z opened none h e.0)
    | inr k ↦ k
  ];
  fit = λ z h. (are.fit z h).1;
  before = λ z h. (are.before z h).1;
  apart = are.apart;
}

-- the calls that are left, but for the chosen one, are those left before
pub left_before : (events : List Event) (opened : List Observed) (x : Observed) (left : List Observed) → Chooses opened x left → (z : Observed) → IsLeft events left z → IsLeft events opened z
left_before events opened x left c z h = elim h [ inl k ↦ inl (rest_in opened x left c z k) | inr k ↦ inr k ]

-- an open call before an order of the others is an order
pub put_first : (u : Database) (events : List Event) (opened : List Observed) (x : Observed) (left order : List Observed) → HaveEnds events → AreOpen events opened → Chooses opened x left → MayHaveReply x.outcome (transaction x.call u).reply
    → IsOrderFrom (transaction x.call u).database events left order → IsOrderFrom u events opened (x ∷ order)
put_first u events opened x left order have are c may ok =
    let before : AreAfter x.asked events = are.before x (chosen_in opened x left c) in
    record {
      made = (inl (chosen_in opened x left c), all_map (IsLeft events left) (IsLeft events opened) (λ z h. left_before events opened x left c z h) order ok.made);
      once = (
        all_map (IsLeft events left) (λ (z : Observed). x.asked ≡ z.asked → ⊥) (λ z h e. elim h [
          | inl k ↦ in_all (λ (w : Observed). x.asked ≡ w.asked → ⊥) z left (chooses_apart opened x left c are.apart).0 k e
          | inr k ↦ let lt : x.asked < z.asked = asked_after x.asked events z before k in omega (arith, lt, e)
        ]) order ok.made,
        ok.once,
      );
      all = λ z h answered. elim h [
        | inl k ↦ elim (in_cases opened x left c z k) [ inl e ↦ inl e | inr q ↦ inr (ok.all z (inl q) answered) ]
        | inr k ↦ inr (ok.all z (inr k) answered)
      ];
      real_time = (
        all_map (IsLeft events left) (λ (z : Observed). Precedes z x → ⊥) (λ z h precedes.
            ends_after x.asked events z before (left_ends events opened have are z (left_before events opened x left c z h) (before_answered z.outcome x.asked precedes)) precedes) order ok.made,
        ok.real_time,
      );
      replies = (may, ok.replies);
    }

-- its first is taken off
pub taken_off : (u : Database) (events : List Event) (opened : List Observed) (x : Observed) (left order : List Observed) → AreOpen events opened → Chooses opened x left
    → IsOrderFrom u events opened (x ∷ order) → IsOrderFrom (transaction x.call u).database events left order
taken_off u events opened x left order are c ok =
    let before : AreAfter x.asked events = are.before x (chosen_in opened x left c) in
    record {
      made = all_in (IsLeft events left) order (λ z h. elim (in_all (IsLeft events opened) z order ok.made.1 h) [
        | inl k ↦ elim (in_cases opened x left c z k) [
          | inl e ↦ absurd (in_all (λ (w : Observed). x.asked ≡ w.asked → ⊥) z order ok.once.0 h (ap (λ (w : Observed). w.asked) (sym e)))
          | inr q ↦ inl q
        ]
        | inr k ↦ inr k
      ]);
      once = ok.once.1;
      all = λ z h answered. let found : IsIn z (x ∷ order) = ok.all z (left_before events opened x left c z h) answered in elim found [
        | inl e ↦ elim h [
          | inl k ↦ absurd (in_all (λ (w : Observed). x.asked ≡ w.asked → ⊥) z left (chooses_apart opened x left c are.apart).0 k (ap (λ (w : Observed). w.asked) (sym e)))
          | inr k ↦ let lt : x.asked < z.asked = asked_after x.asked events z before k in let same : z.asked ≡ x.asked = ap (λ (w : Observed). w.asked) e in absurd (omega (arith, lt, same))
        ]
        | inr k ↦ k
      ];
      real_time = ok.real_time.1;
      replies = ok.replies.1;
    }

asked_left : (x : Observed) (more : List Event) (opened : List Observed) (z : Observed) → IsLeft more (x ∷ opened) z → IsLeft (Asks x ∷ more) opened z
asked_left x more opened z h = elim h [
  | inl k ↦ elim k [ inl e ↦ inr (inl e) | inr q ↦ inl q ]
  | inr k ↦ inr (inr k)
]

left_asked : (x : Observed) (more : List Event) (opened : List Observed) (z : Observed) → IsLeft (Asks x ∷ more) opened z → IsLeft more (x ∷ opened) z
left_asked x more opened z h = elim h [
  | inl k ↦ inl (inr k)
  | inr k ↦ elim k [ inl e ↦ inl (inl e) | inr q ↦ inr q ]
]

-- the chosen call is the one whose end it is: the others go on
pub others_go_on : (asked at : ℕ) (more : List Event) (opened : List Observed) (x : Observed) (left : List Observed) → Chooses opened x left → x.asked ≡ asked → AreOpen (Ends asked at ∷ more) opened → AreOpen more left
others_go_on asked at more opened x left c e are = open_ended asked at more left
    (all_map (λ (y : Observed). x.asked ≡ y.asked → ⊥) (λ (y : Observed). y.asked ≡ asked → ⊥) (λ y other same. other (e ∙ sym same)) left (chooses_apart opened x left c are.apart).0)
    (open_chosen (Ends asked at ∷ more) opened x left c are)

-- where one of the open calls is answered next, an order begins with an open call
pub first_opens : (u : Database) (asked at : ℕ) (more : List Event) → TimesRise (Ends asked at ∷ more) → (opened : List Observed) → AreOpen (Ends asked at ∷ more) opened → (z : Observed) → IsIn z opened → z.asked ≡ asked
    → (x : Observed) (order : List Observed) → IsOrderFrom u (Ends asked at ∷ more) opened (x ∷ order) → IsIn x opened
first_opens u asked at more rise opened are z there e x order ok =
    let ended : IsAnsweredAt at z.outcome = (are.fit z there).0 e in
    let stands : IsIn z (x ∷ order) = ok.all z (inl there) (answered_at z.outcome at ended) in
    elim ok.made.0 [
      | inl k ↦ k
      | inr k ↦ let lt : at < x.asked = asked_after at more x rise.0 k in elim stands [
        | inl same ↦
            let before : z.asked < at = (are.before z there).0 in
            let times : z.asked ≡ x.asked = ap (λ (w : Observed). w.asked) same in
            absurd (omega (arith, lt, before, times))
        | inr stood ↦ absurd (in_all (λ (w : Observed). Precedes w x → ⊥) z order ok.real_time.0 stood (is_before z.outcome at x.asked ended lt))
      ]
    ]

-- ---- orders that leave rows of which something holds
module _ (Q : Database → Type 0) where
  -- one call more is open, or asked
  pub order_asks : (u : Database) (x : Observed) (more : List Event) (opened : List Observed) → HasOrder Q u more (x ∷ opened) → HasOrder Q u (Asks x ∷ more) opened
  order_asks u x more opened h = (
    h.0,
    record {
      made = all_map (IsLeft more (x ∷ opened)) (IsLeft (Asks x ∷ more) opened) (asked_left x more opened) h.0 h.1.made;
      once = h.1.once;
      all = λ z k answered. h.1.all z (left_asked x more opened z k) answered;
      real_time = h.1.real_time;
      replies = h.1.replies;
    },
    h.2,
  )

  pub asks_order : (u : Database) (x : Observed) (more : List Event) (opened : List Observed) → HasOrder Q u (Asks x ∷ more) opened → HasOrder Q u more (x ∷ opened)
  asks_order u x more opened h = (
    h.0,
    record {
      made = all_map (IsLeft (Asks x ∷ more) opened) (IsLeft more (x ∷ opened)) (left_asked x more opened) h.0 h.1.made;
      once = h.1.once;
      all = λ z k answered. h.1.all z (asked_left x more opened z k) answered;
      real_time = h.1.real_time;
      replies = h.1.replies;
    },
    h.2,
  )

  -- over an end
  pub order_ends : (u : Database) (asked at : ℕ) (more : List Event) (opened : List Observed) → HasOrder Q u more opened → HasOrder Q u (Ends asked at ∷ more) opened
  order_ends u asked at more opened h = (h.0, record { made = h.1.made; once = h.1.once; all = h.1.all; real_time = h.1.real_time; replies = h.1.replies }, h.2)

  pub ends_order : (u : Database) (asked at : ℕ) (more : List Event) (opened : List Observed) → HasOrder Q u (Ends asked at ∷ more) opened → HasOrder Q u more opened
  ends_order u asked at more opened h = (h.0, record { made = h.1.made; once = h.1.once; all = h.1.all; real_time = h.1.real_time; replies = h.1.replies }, h.2)

  -- before calls that take effect
  pub effects_sound : (goes_on : Database → List Observed → Type 0) (n asked at : ℕ) (more : List Event) → HaveEnds more
      → ((u : Database) (opened : List Observed) → AreOpen more opened → goes_on u opened → HasOrder Q u more opened)
      → (u : Database) (opened : List Observed) → AreOpen (Ends asked at ∷ more) opened → TakeEffect n goes_on asked u opened → HasOrder Q u (Ends asked at ∷ more) opened
  effects_sound goes_on zero asked at more have later u opened are h = absurd h
  effects_sound goes_on (suc n) asked at more have later u opened are h =
      let x : Observed = h.0 in
      let left : List Observed = h.1 in
      let c : Chooses opened x left = h.2 in
      let rest : HasOrder Q (transaction x.call u).database (Ends asked at ∷ more) left = elim h.4 [
        | inl on ↦ order_ends (transaction x.call u).database asked at more left (later (transaction x.call u).database left (others_go_on asked at more opened x left c on.0 are) on.1)
        | inr on ↦ effects_sound goes_on n asked at more have later (transaction x.call u).database left (open_chosen (Ends asked at ∷ more) opened x left c are) on.1
      ] in
      (x ∷ rest.0, put_first u (Ends asked at ∷ more) opened x left rest.0 have are c h.3 rest.1, rest.2)

  pub effects_complete : (goes_on : Database → List Observed → Type 0) (n asked at : ℕ) (more : List Event) → TimesRise (Ends asked at ∷ more) → HaveEnds more
      → ((u : Database) (opened : List Observed) → AreOpen more opened → HasOrder Q u more opened → goes_on u opened)
      → (order : List Observed) (u : Database) (opened : List Observed) → length opened ≤ n → AreOpen (Ends asked at ∷ more) opened → (z : Observed) → IsIn z opened → z.asked ≡ asked
      → IsOrderFrom u (Ends asked at ∷ more) opened order → Q (rows_after u order) → TakeEffect n goes_on asked u opened
  effects_complete goes_on n asked at more rise have later [] u opened few are z there e ok q = absurd (ok.all z (inl there) (answered_at z.outcome at ((are.fit z there).0 e)))
  effects_complete goes_on zero asked at more rise have later (x ∷ order) u opened few are z there e ok q =
      let c = chooses_some opened z there in let size : length opened ≡ suc (length c.0) = chooses_length opened z c.0 c.1 in absurd (omega (arith, few, size))
  effects_complete goes_on (suc n) asked at more rise have later (x ∷ order) u opened few are z there e ok q =
      let opens : IsIn x opened = first_opens u asked at more rise opened are z there e x order ok in
      let some = chooses_some opened x opens in
      let left : List Observed = some.0 in
      let c : Chooses opened x left = some.1 in
      let size : length opened ≡ suc (length left) = chooses_length opened x left c in
      let rest : IsOrderFrom (transaction x.call u).database (Ends asked at ∷ more) left order = taken_off u (Ends asked at ∷ more) opened x left order are c ok in (
        x,
        left,
        c,
        ok.replies.0,
        elim (x.asked == asked) as (λ b. (x.asked == asked) ≡ b → ((x.asked ≡ asked) × goes_on (transaction x.call u).database left) ⊎ ((x.asked ≡ asked → ⊥) × TakeEffect n goes_on asked (transaction x.call u).database left)) [
          | true ↦ λ same. let own : x.asked ≡ asked = eqb-true x.asked asked same in
              inl (own, later (transaction x.call u).database left (others_go_on asked at more opened x left c own are) (ends_order (transaction x.call u).database asked at more left (order, rest, q)))
          | false ↦ λ same. inr (
            λ d. true≢false (sym (eq-eqb x.asked asked d) ∙ same),
            effects_complete goes_on n asked at more rise have later order (transaction x.call u).database left (omega (arith, few, size)) (open_chosen (Ends asked at ∷ more) opened x left c are) z
                (elim (in_cases opened x left c z there) [
                  | inl d ↦ absurd (true≢false (sym (eq-eqb x.asked asked (ap (λ (w : Observed). w.asked) (sym d) ∙ e)) ∙ same))
                  | inr k ↦ k
                ]) e rest q,
          )
        ] refl,
      )
