-- Configurations to which events lead, and serial orders of what remains there.
use Rattle.std.proofs.Common.{◌≡◌, ℕ, zero, suc, List, [], ◌∷◌, ◌++◌, length, refl, sym, subst, arith, inl, inr}
use Rattle.tatp_tables.specs.Database.{Database}
use Rattle.tatp_calls.specs.Transactions.{transaction}
use Rattle.tatp_history.specs.declared.event.Event.{Event}
use Rattle.tatp_history.specs.declared.event.Event.TheVariants.{Asks, Ends}
use Rattle.tatp_history.specs.declared.observed.Observed.{Observed}
use Rattle.tatp_history.specs.Events.{TimesRise, HaveEnds}
use Rattle.tatp_history.specs.JustInTime.{TakeEffect, Explains, AreOpen}
use Rattle.tatp_history.specs.Configurations.{Configuration, Follows, Lead}
use Rattle.tatp_history.specs.Remaining.{HasOrder}
use Rattle.tatp_history.proofs.ChoiceLaws.{find_asked}
use Rattle.tatp_history.proofs.RemainingLaws.{open_asked, open_chosen, open_ended, others_go_on, order_asks, asks_order, order_ends, ends_order, effects_sound, effects_complete}

-- ---- what may follow
pub effects_lead : (n asked : ℕ) (goes_on : Database → List Observed → Type 0) (u : Database) (opened : List Observed) → TakeEffect n goes_on asked u opened
    → (d : Configuration) × TakeEffect n (λ v ys. d ≡ record { rows = v; opened = ys }) asked u opened × goes_on d.rows d.opened
effects_lead zero asked goes_on u opened h = absurd h
effects_lead (suc n) asked goes_on u opened h = elim h.4 [
  | inl on ↦ (record { rows = (transaction h.0.call u).database; opened = h.1 }, (h.0, h.1, h.2, h.3, inl (on.0, refl)), on.1)
  | inr on ↦ let rest = effects_lead n asked goes_on (transaction h.0.call u).database h.1 on.1 in (rest.0, (h.0, h.1, h.2, h.3, inr (on.0, rest.1)), rest.2)
]

pub lead_effects : (n asked : ℕ) (goes_on : Database → List Observed → Type 0) (u : Database) (opened : List Observed) (d : Configuration) → TakeEffect n (λ v ys. d ≡ record { rows = v; opened = ys }) asked u opened → goes_on d.rows d.opened
    → TakeEffect n goes_on asked u opened
lead_effects zero asked goes_on u opened d h on = absurd h
lead_effects (suc n) asked goes_on u opened d h on = (
  h.0,
  h.1,
  h.2,
  h.3,
  elim h.4 [
    | inl k ↦ inl (k.0, subst (λ (c : Configuration). goes_on c.rows c.opened) k.1 on)
    | inr k ↦ inr (k.0, lead_effects n asked goes_on (transaction h.0.call u).database h.1 d k.1 on)
  ],
)

pub follow : (event : Event) (more : List Event) (c : Configuration) → Explains (event ∷ more) c.rows c.opened → (d : Configuration) × Follows event c d × Explains more d.rows d.opened
follow (Asks x) more c h = (record { rows = c.rows; opened = x ∷ c.opened }, refl, h)
follow (Ends asked at) more c h = elim h [
  | inl k ↦ (c, inl (k.0, refl), k.1)
  | inr k ↦ let rest = effects_lead (length c.opened) asked (Explains more) c.rows c.opened k in (rest.0, inr rest.1, rest.2)
]

pub followed : (event : Event) (more : List Event) (c d : Configuration) → Follows event c d → Explains more d.rows d.opened → Explains (event ∷ more) c.rows c.opened
followed (Asks x) more c d f h = subst (λ (e : Configuration). Explains more e.rows e.opened) f h
followed (Ends asked at) more c d f h = elim f [
  | inl k ↦ inl (k.0, subst (λ (e : Configuration). Explains more e.rows e.opened) k.1 h)
  | inr k ↦ inr (lead_effects (length c.opened) asked (Explains more) c.rows c.opened d k h)
]

pub leads : (events : List Event) (c : Configuration) → Explains events c.rows c.opened → (d : Configuration) × Lead events c d
leads [] c h = (c, refl)
leads (event ∷ more) c h = let next = follow event more c h in let rest = leads more next.0 next.2 in (rest.0, (next.0, next.1, rest.1))

pub led : (events : List Event) (c d : Configuration) → Lead events c d → Explains events c.rows c.opened
led [] c d h = tt
led (event ∷ more) c d h = followed event more c h.0 h.1 (led more h.0 d h.2)

pub led_on : (first second : List Event) (c d e : Configuration) → Lead first c d → Lead second d e → Lead (first ++ second) c e
led_on [] second c d e on more = subst (λ (b : Configuration). Lead second b e) on more
led_on (event ∷ first) second c d e on more = (on.0, on.1, led_on first second on.0 d e on.2 more)

pub led_by : (first second : List Event) (c e : Configuration) → Lead (first ++ second) c e → (d : Configuration) × Lead first c d × Lead second d e
led_by [] second c e on = (c, refl, on)
led_by (event ∷ first) second c e on = let rest = led_by first second on.0 e on.2 in (rest.0, (on.0, on.1, rest.1), rest.2)

-- ---- the open calls
effects_open : (n asked at : ℕ) (more : List Event) (e : Configuration) (u : Database) (opened : List Observed) → AreOpen (Ends asked at ∷ more) opened
    → TakeEffect n (λ v ys. e ≡ record { rows = v; opened = ys }) asked u opened → AreOpen more e.opened
effects_open zero asked at more e u opened are h = absurd h
effects_open (suc n) asked at more e u opened are h = elim h.4 [
  | inl on ↦ subst (λ (b : Configuration). AreOpen more b.opened) (sym on.1) (others_go_on asked at more opened h.0 h.1 h.2 on.0 are)
  | inr on ↦ effects_open n asked at more e (transaction h.0.call u).database h.1 (open_chosen (Ends asked at ∷ more) opened h.0 h.1 h.2 are) on.1
]

pub open_led : (first second : List Event) → TimesRise (first ++ second) → HaveEnds (first ++ second) → (c d : Configuration) → AreOpen (first ++ second) c.opened → Lead first c d → AreOpen second d.opened
open_led [] second rise have c d are on = subst (λ (b : Configuration). AreOpen second b.opened) (sym on) are
open_led (Asks x ∷ more) second rise have c d are on =
    open_led more second rise.1 have.2 on.0 d (subst (λ (b : Configuration). AreOpen (more ++ second) b.opened) (sym on.1) (open_asked x (more ++ second) c.opened rise have are)) on.2
open_led (Ends asked at ∷ more) second rise have c d are on =
    open_led more second rise.1 have on.0 d (elim on.1 [
      | inl k ↦ subst (λ (b : Configuration). AreOpen (more ++ second) b.opened) (sym k.1) (open_ended asked at (more ++ second) c.opened k.0 are)
      | inr k ↦ effects_open (length c.opened) asked at (more ++ second) on.0 c.rows c.opened are k
    ]) on.2

-- ---- orders of what remains, over events
module _ (Q : Database → Type 0) where
  pub lead_sound : (first second : List Event) → TimesRise (first ++ second) → HaveEnds (first ++ second) → (c d : Configuration) → AreOpen (first ++ second) c.opened
      → Lead first c d → HasOrder Q d.rows second d.opened → HasOrder Q c.rows (first ++ second) c.opened
  lead_sound [] second rise have c d are on h = subst (λ (b : Configuration). HasOrder Q b.rows second b.opened) on h
  lead_sound (Asks x ∷ more) second rise have c d are on h =
      let e : Configuration = record { rows = c.rows; opened = x ∷ c.opened } in
      order_asks Q c.rows x (more ++ second) c.opened
      (lead_sound more second rise.1 have.2 e d (open_asked x (more ++ second) c.opened rise have are) (subst (λ (b : Configuration). Lead more b d) on.1 on.2) h)
  lead_sound (Ends asked at ∷ more) second rise have c d are on h = elim on.1 [
    | inl k ↦ order_ends Q c.rows asked at (more ++ second) c.opened
        (lead_sound more second rise.1 have c d (open_ended asked at (more ++ second) c.opened k.0 are) (subst (λ (b : Configuration). Lead more b d) k.1 on.2) h)
    | inr k ↦ effects_sound Q (λ v ys. on.0 ≡ record { rows = v; opened = ys }) (length c.opened) asked at (more ++ second) have
        (λ v ys a same. lead_sound more second rise.1 have (record { rows = v; opened = ys }) d a (subst (λ (b : Configuration). Lead more b d) same on.2) h) c.rows c.opened are k
  ]

  pub lead_complete : (first second : List Event) → TimesRise (first ++ second) → HaveEnds (first ++ second) → (c : Configuration) → AreOpen (first ++ second) c.opened
      → HasOrder Q c.rows (first ++ second) c.opened → (d : Configuration) × Lead first c d × HasOrder Q d.rows second d.opened
  lead_complete [] second rise have c are h = (c, refl, h)
  lead_complete (Asks x ∷ more) second rise have c are h =
      let e : Configuration = record { rows = c.rows; opened = x ∷ c.opened } in
      let rest = lead_complete more second rise.1 have.2 e (open_asked x (more ++ second) c.opened rise have are) (asks_order Q c.rows x (more ++ second) c.opened h) in
      (rest.0, (e, refl, rest.1), rest.2)
  lead_complete (Ends asked at ∷ more) second rise have c are h = elim (find_asked asked c.opened) [
    | inl none ↦
        let rest = lead_complete more second rise.1 have c (open_ended asked at (more ++ second) c.opened none are) (ends_order Q c.rows asked at (more ++ second) c.opened h) in
        (rest.0, (c, inl (none, refl), rest.1), rest.2)
    | inr some ↦
        let goes_on : Database → List Observed → Type 0 = λ v ys. (d : Configuration) × Lead more (record { rows = v; opened = ys }) d × HasOrder Q d.rows second d.opened in
        let found = effects_lead (length c.opened) asked goes_on c.rows c.opened
        (effects_complete Q goes_on (length c.opened) asked at (more ++ second) rise have
        (λ v ys a k. lead_complete more second rise.1 have (record { rows = v; opened = ys }) a k) h.0 c.rows c.opened (omega arith) are some.0 some.1 some.2 h.1 h.2) in
        (found.2.0, (found.0, inr found.1, found.2.1), found.2.2)
  ]
