-- A call that is answered before anything else happens, where one configuration with no open call is kept.
use Rattle.std.proofs.Common.{◌≡◌, ℕ, ◌↔◌, true, false, List, [], ◌∷◌, ◌++◌, refl, sym, ◌∙◌, ap, subst, true≢false, inl, inr}
use Rattle.std.proofs.lemmas.List.{append_assoc}
use Rattle.tatp_tables.specs.Database.{Database}
use Rattle.tatp_calls.specs.declared.reply.Reply.{Reply}
use Rattle.tatp_calls.specs.Transactions.{transaction}
use Rattle.tatp_history.specs.declared.event.Event.{Event}
use Rattle.tatp_history.specs.declared.event.Event.TheVariants.{Asks, Ends}
use Rattle.tatp_history.specs.declared.observed.Outcome.{Outcome}
use Rattle.tatp_history.specs.declared.observed.Outcome.TheVariants.{Answered, Aborted, Unknown}
use Rattle.tatp_history.specs.declared.observed.Observed.{Observed}
use Rattle.tatp_history.specs.Histories.{IsAnswered, IsStrictlySerializable, MayHaveReply}
use Rattle.tatp_history.specs.Outcomes.{may_take_effect}
use Rattle.tatp_history.specs.Locality.{AreAccepted}
use Rattle.tatp_history.specs.Events.{asked_in, time_of, AreAfter, TimesRise, IsAnsweredAt, EndsIn, EndsFit, HaveEnds}
use Rattle.tatp_history.specs.Changes.{changes_nothing}
use Rattle.tatp_history.specs.Configurations.{Configuration, starting}
use Rattle.tatp_history.proofs.ChangeLaws.{unchanged}
use Rattle.tatp_linearization.specs.declared.configuration.Configuration.{Configuration as Held}
use Rattle.tatp_linearization.specs.AtOnce.{AreLeft, TakeUntil, FollowsAtOnce}
use Rattle.tatp_linearization.specs.Possible.{IsPossible}
use Rattle.tatp_linearization.specs.Held.{seen, AreReady, AreApart}
use Rattle.tatp_linearization.specs.Covering.{OneStandsFor}
use Rattle.tatp_linearization.specs.Going.{LeadsOn}
use Rattle.tatp_linearization.specs.Reached.{AreKept}
use Rattle.tatp_linearization.specs.Single.{events_alone, answered_with}
use Rattle.tatp_linearization.proofs.AtOnceLaws.{LeadAtOnce, lead_settled}
use Rattle.tatp_linearization.proofs.GoingLaws.{serial_leads, serial_to, events_on}
use Rattle.tatp_linearization.proofs.PossibleLaws.{lead_becomes}
use Rattle.tatp_linearization.proofs.SerialLaws.{possible_serial}
use Rattle.tatp_linearization.proofs.CoveringLaws.{seen_stands, bare_stands}

-- ---- the events
was_not : (outcome : Outcome) → IsAnswered outcome → may_take_effect outcome ≡ false → ⊥
was_not (Answered when recorded) h e = true≢false e
was_not (Aborted when) h e = h
was_not Unknown h e = h

no_abort : (outcome : Outcome) (reply : Reply) → MayHaveReply outcome reply → may_take_effect outcome ≡ false → ⊥
no_abort (Answered at recorded) reply h e = true≢false e
no_abort (Aborted at) reply h e = h
no_abort Unknown reply h e = true≢false e

module _ (x : Observed) (at : ℕ) (u : Database) where
  abbrev pub before : Configuration
  before = record { rows = u; opened = [] }

  abbrev pub after : Configuration
  after = record { rows = (transaction x.call u).database; opened = [] }

  -- where the reply fits, they lead to the rows that its transaction leaves
  pub alone_leads : MayHaveReply x.outcome (transaction x.call u).reply → LeadAtOnce (events_alone x at) before after
  alone_leads may = elim (changes_nothing x) as (λ b. changes_nothing x ≡ b → LeadAtOnce (events_alone x at) before after) [
    | true ↦ λ leaves. (
      before,
      inl (inr (leaves, may), refl),
      (after, inl (tt, λ i. record { rows = unchanged x leaves u may i; opened = [] }), refl),
    )
    | false ↦ λ writes. (
      record { rows = u; opened = x ∷ [] },
      inr (λ needs. elim needs [ inl k ↦ no_abort x.outcome (transaction x.call u).reply may k | inr k ↦ true≢false (sym k.0 ∙ writes) ], refl),
      (
        after,
        inr (
          λ none. none.0 refl,
          (after, (x, [], record { chosen = inl (refl, refl); writes = writes; may = may; rows = refl; settled = refl }), inl (tt, refl)),
        ),
        refl,
      ),
    )
  ] refl

  -- and there alone
  pub leads_alone : (d : Configuration) → (may_take_effect x.outcome ≡ false → ⊥) → LeadAtOnce (events_alone x at) before d → MayHaveReply x.outcome (transaction x.call u).reply × (d ≡ after)
  leads_alone d can h = elim h.1 [
    | inl k ↦ elim k.0 [
      | inl aborted ↦ absurd (can aborted)
      | inr fits ↦
          let same : h.0 ≡ after = k.1 ∙ (λ i. record { rows = sym (unchanged x fits.0 u fits.1) i; opened = [] }) in
          let next : FollowsAtOnce (Ends x.asked at) after h.2.0 = subst (λ (b : Configuration). FollowsAtOnce (Ends x.asked at) b h.2.0) same h.2.1 in
          (fits.1, elim next [ inl q ↦ h.2.2 ∙ q.1 | inr q ↦ absurd (q.0 tt) ])
    ]
    | inr k ↦
        let next : FollowsAtOnce (Ends x.asked at) (record { rows = u; opened = x ∷ [] }) h.2.0 = subst (λ (b : Configuration). FollowsAtOnce (Ends x.asked at) b h.2.0) k.1 h.2.1 in
        elim next [
          | inl q ↦ absurd (q.0.0 refl)
          | inr q ↦ taken d h.2.0 h.2.2 q.1
        ]
  ]
    where
      taken : (d e : Configuration) → d ≡ e → TakeUntil 1 x.asked (record { rows = u; opened = x ∷ [] }) e → MayHaveReply x.outcome (transaction x.call u).reply × (d ≡ after)
      taken d e same h = elim h.2 [
        | inl q ↦
            let one = h.1 in
            elim one.2.chosen [
              | inl r ↦
                  let left : one.1 ≡ [] = r.1 in
                  let settled : AreLeft (transaction one.0.call u).database [] h.0.opened = subst (λ zs. AreLeft (transaction one.0.call u).database zs h.0.opened) left one.2.settled in
                  let rows : h.0.rows ≡ (transaction x.call u).database = one.2.rows ∙ ap (λ (w : Observed). (transaction w.call u).database) r.0 in
                  let end : h.0 ≡ after = λ i. record { rows = rows i; opened = settled i } in
                  (subst (λ (w : Observed). MayHaveReply w.outcome (transaction w.call u).reply) r.0 one.2.may, same ∙ (q.1 ∙ end))
              | inr r ↦ absurd r.2
            ]
        | inr q ↦ absurd q.1
      ]

-- ---- explanations
module _ (x : Observed) (at : ℕ) (u : Database) (past : List Event) (cs : List Held) (c : Held) (is : cs ≡ c ∷ []) (none : c.opened.items ≡ []) (kept : AreKept u past cs) where
  abbrev held : Configuration
  held = record { rows = c.home.tables; opened = [] }

  held_is : seen c ≡ held
  held_is i = record { rows = c.home.tables; opened = none i }

  only_held : (after : Database) (more : List Event) → LeadsOn after (past ++ more) (starting u) → LeadsOn after more held
  only_held after more on =
      let one = kept.complete after more on in
      let there : OneStandsFor (c ∷ []) one.0 = subst (λ bs. OneStandsFor bs one.0) is one.1 in
      elim there [ inl h ↦ subst (LeadsOn after more) ((bare_stands c one.0 none).0 h ∙ held_is) one.2 | inr k ↦ absurd k ]

  is_held : IsPossible u past held
  is_held = subst (IsPossible u past) held_is (kept.sound (seen c) (subst (λ bs. OneStandsFor bs (seen c)) (sym is) (inl (seen_stands c))))

  after_held : MayHaveReply x.outcome (transaction x.call c.home.tables).reply → IsPossible u (past ++ events_alone x at) (after x at c.home.tables)
  after_held may =
      let led = alone_leads x at c.home.tables may in
      (lead_becomes past (events_alone x at) (starting u) held (after x at c.home.tables) is_held.0 led, lead_settled (events_alone x at) held (after x at c.home.tables) is_held.1 led)

  pub alone_explained : TimesRise (past ++ events_alone x at) → HaveEnds (past ++ events_alone x at) → IsAnswered x.outcome
      → MayHaveReply x.outcome (transaction x.call c.home.tables).reply ↔ IsStrictlySerializable u (asked_in (past ++ events_alone x at))
  alone_explained rise have answered = (
    λ may. possible_serial u (past ++ events_alone x at) (after x at c.home.tables) rise have (after_held may).0,
    λ s.
        let to = serial_to u (past ++ events_alone x at) s in
        let led = events_on to.0 (events_alone x at) [] held (only_held to.0 (events_alone x at) (serial_leads u to.0 (past ++ events_alone x at) rise have to.1)) in
        (leads_alone x at c.home.tables led.0 (was_not x.outcome answered) led.1).0,
  )

  pub alone_kept : (d : Held) (new : List Held) → MayHaveReply x.outcome (transaction x.call c.home.tables).reply → new ≡ d ∷ [] → d.home.tables ≡ (transaction x.call c.home.tables).database → d.opened.items ≡ [] → AreKept u (past ++ events_alone x at) new
  alone_kept d new may there rows empty = record {
    complete = λ to more on.
        let led = events_on to (events_alone x at) more held (only_held to (events_alone x at ++ more) (subst (λ es. LeadsOn to es (starting u)) (append_assoc past (events_alone x at) more) on)) in
        let last = (leads_alone x at c.home.tables led.0 (no_abort x.outcome (transaction x.call c.home.tables).reply may) led.1).1 in
        (led.0, subst (λ bs. OneStandsFor bs led.0) (sym there) (inl ((bare_stands d led.0 empty).1 (last ∙ sym end))), led.2);
    sound = λ e h.
        let one : OneStandsFor (d ∷ []) e = subst (λ bs. OneStandsFor bs e) there h in
        elim one [
          | inl q ↦ subst (IsPossible u (past ++ events_alone x at)) (sym ((bare_stands d e empty).0 q ∙ end)) (after_held may)
          | inr q ↦ absurd q
        ];
    ready = subst AreReady (sym there) (subst AreAccepted (sym empty) tt, tt);
    apart = (d.home.s_id, subst (AreApart d.home.s_id) (sym there) (record { own = (refl, tt); distinct = (tt, tt) }));
  }
    where
      end : seen d ≡ after x at c.home.tables
      end i = record { rows = rows i; opened = empty i }

-- a call that ends there alone was answered then
pub alone_answered : (x : Observed) (at : ℕ) (past : List Event) → HaveEnds (past ++ events_alone x at) → IsAnsweredAt at x.outcome
alone_answered x at [] h = h.1.0 refl
alone_answered x at (Asks y ∷ past) h = alone_answered x at past h.2
alone_answered x at (Ends asked when ∷ past) h = alone_answered x at past h

pub was_answered : (outcome : Outcome) (at : ℕ) → IsAnsweredAt at outcome → IsAnswered outcome
was_answered (Answered when recorded) at h = tt
was_answered (Aborted when) at h = h
was_answered Unknown at h = h

-- and would have been with another reply
pub other_rises : (x : Observed) (at : ℕ) (reply : Reply) (past : List Event) → TimesRise (past ++ events_alone x at) → TimesRise (past ++ events_alone (answered_with x at reply) at)
other_rises x at reply [] h = h
other_rises x at reply (event ∷ past) h = (others past h.0, other_rises x at reply past h.1)
  where
    others : (es : List Event) → AreAfter (time_of event) (es ++ events_alone x at) → AreAfter (time_of event) (es ++ events_alone (answered_with x at reply) at)
    others [] k = k
    others (e ∷ es) k = (k.0, others es k.1)

pub other_ends : (x : Observed) (at : ℕ) (reply : Reply) (past : List Event) → HaveEnds (past ++ events_alone x at) → HaveEnds (past ++ events_alone (answered_with x at reply) at)
other_ends x at reply [] h = ((λ _. inl (refl, refl)), ((λ _. refl), tt), tt)
other_ends x at reply (Asks y ∷ past) h = (λ answered. ends past (h.0 answered), fits past h.1, other_ends x at reply past h.2)
  where
    ends : (es : List Event) → EndsIn y (es ++ events_alone x at) → EndsIn y (es ++ events_alone (answered_with x at reply) at)
    ends [] k = k
    ends (Asks z ∷ es) k = ends es k
    ends (Ends asked when ∷ es) k = elim k [ inl q ↦ inl q | inr q ↦ inr (ends es q) ]

    fits : (es : List Event) → EndsFit y (es ++ events_alone x at) → EndsFit y (es ++ events_alone (answered_with x at reply) at)
    fits [] k = k
    fits (Asks z ∷ es) k = fits es k
    fits (Ends asked when ∷ es) k = (k.0, fits es k.1)
other_ends x at reply (Ends asked when ∷ past) h = other_ends x at reply past h
