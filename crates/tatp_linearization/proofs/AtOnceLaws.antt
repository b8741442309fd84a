-- Reads that take effect at once: no order is lost.
use Rattle.std.proofs.Common.{◌≡◌, ℕ, zero, suc, ◌≤◌, ◌⊎◌, true, false, List, [], ◌∷◌, length, refl, sym, ◌∙◌, subst, arith, true≢false, inl, inr}
use Rattle.std.specs.List.{AllByRecursion}
use Rattle.tatp_tables.specs.Database.{Database}
use Rattle.tatp_calls.specs.Transactions.{transaction}
use Rattle.tatp_history.specs.declared.event.Event.{Event}
use Rattle.tatp_history.specs.declared.event.Event.TheVariants.{Asks, Ends}
use Rattle.tatp_history.specs.declared.observed.Outcome.{Outcome}
use Rattle.tatp_history.specs.declared.observed.Outcome.TheVariants.{Answered, Aborted, Unknown}
use Rattle.tatp_history.specs.declared.observed.Observed.{Observed}
use Rattle.tatp_history.specs.Histories.{IsIn, IsAnswered, MayHaveReply, AreAnsweredInOrder, rows_after}
use Rattle.tatp_history.specs.Changes.{changes_nothing}
use Rattle.tatp_history.specs.Outcomes.{may_take_effect}
use Rattle.tatp_history.specs.Events.{TimesRise, HaveEnds}
use Rattle.tatp_history.specs.JustInTime.{AreOpen}
use Rattle.tatp_history.specs.Configurations.{Configuration}
use Rattle.tatp_history.specs.Remaining.{IsLeft, IsOrderFrom, HasOrder}
use Rattle.tatp_history.proofs.OrderLaws.{all_in, in_all}
use Rattle.tatp_history.proofs.ChoiceLaws.{chooses_some, chooses_length, find_asked}
use Rattle.tatp_history.proofs.EventLaws.{answered_at}
use Rattle.tatp_history.proofs.ChangeLaws.{unchanged}
use Rattle.tatp_history.proofs.UnchangingLaws.{without_unchanging}
use Rattle.tatp_history.proofs.RemainingLaws.{open_asked, open_chosen, open_ended, taken_off, first_opens, asks_order, ends_order}
use Rattle.tatp_linearization.specs.AtOnce.{FitsAtOnce, IsSettled, NeedsNoPlace, TakesOne, TakeUntil, FollowsAtOnce}
use Rattle.tatp_linearization.proofs.DecisionLaws.{fits_or_not}
use Rattle.tatp_linearization.proofs.SettlingLaws.{left_exists, left_settled, left_shorter, left_open, left_order}

pub have_more : (event : Event) (more : List Event) → HaveEnds (event ∷ more) → HaveEnds more
have_more (Asks x) more h = h.2
have_more (Ends asked at) more h = h

-- ---- calls that were aborted
-- each call of an order may have had some reply
pub ran : (z : Observed) (order : List Observed) (u : Database) → AreAnsweredInOrder u order → IsIn z order → (v : Database) × MayHaveReply z.outcome (transaction z.call v).reply
ran z [] u runs h = absurd h
ran z (x ∷ order) u runs h = elim h [
  | inl e ↦ (u, subst (λ (w : Observed). MayHaveReply w.outcome (transaction w.call u).reply) (sym e) runs.0)
  | inr k ↦ ran z order (transaction x.call u).database runs.1 k
]

never : (outcome : Outcome) → may_take_effect outcome ≡ false → (P : Type 0) → IsAnswered outcome ⊎ ((v : Database) × (x : Observed) × MayHaveReply outcome (transaction x.call v).reply) → P
never (Answered at recorded) e P h = absurd (true≢false e)
never (Aborted at) e P h = elim h [ inl k ↦ absurd k | inr k ↦ absurd k.2 ]
never Unknown e P h = absurd (true≢false e)

module _ (Q : Database → Type 0) (more : List Event) (x : Observed) (aborted : may_take_effect x.outcome ≡ false) where
  aborted_out : (u : Database) (opened : List Observed) → HasOrder Q u more (x ∷ opened) → HasOrder Q u more opened
  aborted_out u opened h = (
    h.0,
    record {
      made = all_in (IsLeft more opened) h.0 (λ z there. elim (in_all (IsLeft more (x ∷ opened)) z h.0 h.1.made there) [
        | inl k ↦ elim k [
          | inl e ↦ let run = ran z h.0 u h.1.replies there in
              never x.outcome aborted (IsLeft more opened z) (inr (run.0, z, subst (λ (w : Observed). MayHaveReply w.outcome (transaction z.call run.0).reply) e run.1))
          | inr q ↦ inl q
        ]
        | inr k ↦ inr k
      ]);
      once = h.1.once;
      all = λ z k answered. h.1.all z (elim k [ inl q ↦ inl (inr q) | inr q ↦ inr q ]) answered;
      real_time = h.1.real_time;
      replies = h.1.replies;
    },
    h.2,
  )

  pub aborted_in : (u : Database) (opened : List Observed) → HasOrder Q u more opened → HasOrder Q u more (x ∷ opened)
  aborted_in u opened h = (
    h.0,
    record {
      made = all_in (IsLeft more (x ∷ opened)) h.0 (λ z there. elim (in_all (IsLeft more opened) z h.0 h.1.made there) [ inl k ↦ inl (inr k) | inr k ↦ inr k ]);
      once = h.1.once;
      all = λ z k answered. elim k [
        | inl q ↦ elim q [
          | inl e ↦ never x.outcome aborted (IsIn z h.0) (inl (subst (λ (w : Observed). IsAnswered w.outcome) e answered))
          | inr r ↦ h.1.all z (inl r) answered
        ]
        | inr q ↦ h.1.all z (inr q) answered
      ];
      real_time = h.1.real_time;
      replies = h.1.replies;
    },
    h.2,
  )

-- ---- a call that needn't be open
pub place_or_none : (u : Database) (x : Observed) → NeedsNoPlace u x ⊎ (NeedsNoPlace u x → ⊥)
place_or_none u x = elim (may_take_effect x.outcome) as (λ b. may_take_effect x.outcome ≡ b → NeedsNoPlace u x ⊎ (NeedsNoPlace u x → ⊥)) [
  | true ↦ λ e. elim (fits_or_not u x) [
    | inl f ↦ inl (inr f)
    | inr n ↦ inr (λ h. elim h [ inl k ↦ true≢false (sym e ∙ k) | inr k ↦ n k ])
  ]
  | false ↦ λ e. inl (inl e)
] refl

-- ---- calls that write
pub one_open : (events : List Event) (c d : Configuration) → TakesOne c d → AreOpen events c.opened → AreOpen events d.opened
one_open events c d h are = left_open events (transaction h.0.call c.rows).database [] h.1 d.opened h.2.settled (open_chosen events c.opened h.0 h.1 h.2.chosen are)

pub one_shorter : (c d : Configuration) → TakesOne c d → suc (length d.opened) ≤ length c.opened
one_shorter c d h =
    let size : length c.opened ≡ suc (length h.1) = chooses_length c.opened h.0 h.1 h.2.chosen in
    let less : length d.opened ≤ length h.1 = left_shorter (transaction h.0.call c.rows).database h.1 d.opened h.2.settled in
    omega (arith, size, less)

pub one_settled : (c d : Configuration) → TakesOne c d → IsSettled d
one_settled c d h = subst (λ u. AllByRecursion (λ (x : Observed). FitsAtOnce u x → ⊥) d.opened) (sym h.2.rows) (left_settled (transaction h.0.call c.rows).database h.1 d.opened h.2.settled)

pub until_settled : (n asked : ℕ) (c d : Configuration) → TakeUntil n asked c d → IsSettled d
until_settled zero asked c d h = absurd h
until_settled (suc n) asked c d h = elim h.2 [
  | inl k ↦ subst IsSettled (sym k.1) (one_settled c h.0 h.1)
  | inr k ↦ until_settled n asked h.0 d k.1
]

until_open : (n asked at : ℕ) (more : List Event) (c d : Configuration) → TakeUntil n asked c d → AreOpen (Ends asked at ∷ more) c.opened → AreOpen more d.opened
until_open zero asked at more c d h are = absurd h
until_open (suc n) asked at more c d h are = let on = one_open (Ends asked at ∷ more) c h.0 h.1 are in elim h.2 [
  | inl k ↦ subst (λ (b : Configuration). AreOpen more b.opened) (sym k.1) (open_ended asked at more h.0.opened k.0 on)
  | inr k ↦ until_open n asked at more h.0 d k.1 on
]

module _ (Q : Database → Type 0) where
  -- the first call of an order, which is open and writes, takes effect
  pub first_takes : (events : List Event) → HaveEnds events → (c : Configuration) → IsSettled c → AreOpen events c.opened → (x : Observed) → IsIn x c.opened → (order : List Observed) → IsOrderFrom c.rows events c.opened (x ∷ order)
      → Q (rows_after c.rows (x ∷ order)) → (d : Configuration) × (one : TakesOne c d) × (one.0 ≡ x) × HasOrder Q d.rows events d.opened
  first_takes events have c settled are x opens order ok q =
      let some = chooses_some c.opened x opens in
      let v : Database = (transaction x.call c.rows).database in
      let writes : changes_nothing x ≡ false = elim (changes_nothing x) as (λ b. changes_nothing x ≡ b → b ≡ false) [
        | true ↦ λ r. absurd (in_all (λ (w : Observed). FitsAtOnce c.rows w → ⊥) x c.opened settled opens (r, ok.replies.0))
        | false ↦ λ r. refl
      ] refl in
      let left = left_exists v some.0 in
      let d : Configuration = record { rows = v; opened = left.0 } in
      let one : TakesOne c d = (x, some.0, record { chosen = some.1; writes = writes; may = ok.replies.0; rows = refl; settled = left.1 }) in
      let rest : HasOrder Q v events left.0
      = left_order Q events have v [] some.0 left.0 left.1 (open_chosen events c.opened x some.0 some.1 are) (order, taken_off c.rows events c.opened x some.0 order are some.1 ok, q) in
      (d, one, refl, rest)

  until_complete : (n asked at : ℕ) (more : List Event) → TimesRise (Ends asked at ∷ more) → HaveEnds more → (c : Configuration) → IsSettled c → length c.opened ≤ n → AreOpen (Ends asked at ∷ more) c.opened
      → (z : Observed) → IsIn z c.opened → z.asked ≡ asked → (order : List Observed) → IsOrderFrom c.rows (Ends asked at ∷ more) c.opened order → Q (rows_after c.rows order)
      → (d : Configuration) × TakeUntil n asked c d × HasOrder Q d.rows more d.opened
  until_complete n asked at more rise have c settled few are z there e [] ok q = absurd (ok.all z (inl there) (answered_at z.outcome at ((are.fit z there).0 e)))
  until_complete zero asked at more rise have c settled few are z there e (x ∷ order) ok q =
      let some = chooses_some c.opened z there in let size : length c.opened ≡ suc (length some.0) = chooses_length c.opened z some.0 some.1 in absurd (omega (arith, few, size))
  until_complete (suc n) asked at more rise have c settled few are z there e (x ∷ order) ok q =
      let events : List Event = Ends asked at ∷ more in
      let opens : IsIn x c.opened = first_opens c.rows asked at more rise c.opened are z there e x order ok in
      let next = first_takes events have c settled are x opens order ok q in
      let d : Configuration = next.0 in
      let one : TakesOne c d = next.1 in
      let rest = next.3 in
      let less = one_shorter c d one in
      elim (find_asked asked d.opened) [
        | inl none ↦ (d, (d, one, inl (none, refl)), ends_order Q d.rows asked at more d.opened rest)
        | inr on ↦
            let go = until_complete n asked at more rise have d (one_settled c d one) (omega (arith, few, less)) (one_open events c d one are) on.0 on.1 on.2 rest.0 rest.1 rest.2 in
            (go.0, (d, one, inr (λ none. in_all (λ (w : Observed). w.asked ≡ asked → ⊥) on.0 d.opened none on.1 on.2, go.1)), go.2)
      ]

-- ---- one event
pub event_settled : (event : Event) (c d : Configuration) → IsSettled c → FollowsAtOnce event c d → IsSettled d
event_settled (Asks x) c d settled h = elim h [
  | inl k ↦ subst IsSettled (sym k.1) settled
  | inr k ↦ subst IsSettled (sym k.1) ((λ f. k.0 (inr f)), settled)
]
event_settled (Ends asked at) c d settled h = elim h [
  | inl k ↦ subst IsSettled (sym k.1) settled
  | inr k ↦ until_settled (length c.opened) asked c d k.1
]

pub event_open : (event : Event) (more : List Event) → TimesRise (event ∷ more) → HaveEnds (event ∷ more) → (c d : Configuration) → FollowsAtOnce event c d → AreOpen (event ∷ more) c.opened → AreOpen more d.opened
event_open (Asks x) more rise have c d h are =
    let on = open_asked x more c.opened rise have are in
    elim h [
      | inl k ↦ subst (λ (b : Configuration). AreOpen more b.opened) (sym k.1) (open_chosen more (x ∷ c.opened) x c.opened (inl (refl, refl)) on)
      | inr k ↦ subst (λ (b : Configuration). AreOpen more b.opened) (sym k.1) on
    ]
event_open (Ends asked at) more rise have c d h are = elim h [
  | inl k ↦ subst (λ (b : Configuration). AreOpen more b.opened) (sym k.1) (open_ended asked at more c.opened k.0 are)
  | inr k ↦ until_open (length c.opened) asked at more c d k.1 are
]

module _ (Q : Database → Type 0) where
  pub event_complete : (event : Event) (more : List Event) → TimesRise (event ∷ more) → HaveEnds (event ∷ more) → (c : Configuration) → IsSettled c → AreOpen (event ∷ more) c.opened
      → HasOrder Q c.rows (event ∷ more) c.opened → (d : Configuration) × FollowsAtOnce event c d × HasOrder Q d.rows more d.opened
  event_complete (Asks x) more rise have c settled are order =
      let on = open_asked x more c.opened rise have are in
      let asked = asks_order Q c.rows x more c.opened order in
      elim (place_or_none c.rows x) [
        | inl needs ↦ (
          c,
          inl (needs, refl),
          elim needs [
            | inl k ↦ aborted_out Q more x k c.rows c.opened asked
            | inr k ↦ read_out x more c on k asked
          ],
        )
        | inr none ↦ (record { rows = c.rows; opened = x ∷ c.opened }, inr (none, refl), asked)
      ]
    where
      read_out : (x : Observed) (more : List Event) (c : Configuration) → AreOpen more (x ∷ c.opened) → FitsAtOnce c.rows x → HasOrder Q c.rows more (x ∷ c.opened) → HasOrder Q c.rows more c.opened
      read_out x more c on k asked = without_unchanging more (x ∷ c.opened) x c.opened (inl (refl, refl)) on Q c.rows (unchanged x k.0) asked
  event_complete (Ends asked at) more rise have c settled are order = elim (find_asked asked c.opened) [
    | inl none ↦ (c, inl (none, refl), ends_order Q c.rows asked at more c.opened order)
    | inr some ↦
        let go = until_complete Q (length c.opened) asked at more rise have c settled (omega arith) are some.0 some.1 some.2 order.0 order.1 order.2 in
        (go.0, inr (λ none. in_all (λ (w : Observed). w.asked ≡ asked → ⊥) some.0 c.opened none some.1 some.2, go.1), go.2)
  ]

-- ---- events
-- the events lead from the first configuration to the second
abbrev pub LeadAtOnce : List Event → Configuration → Configuration → Type 0
LeadAtOnce [] c d = d ≡ c
LeadAtOnce (event ∷ more) c d = (e : Configuration) × FollowsAtOnce event c e × LeadAtOnce more e d

pub lead_settled : (events : List Event) (c d : Configuration) → IsSettled c → LeadAtOnce events c d → IsSettled d
lead_settled [] c d settled h = subst IsSettled (sym h) settled
lead_settled (event ∷ more) c d settled h = lead_settled more h.0 d (event_settled event c h.0 settled h.1) h.2
