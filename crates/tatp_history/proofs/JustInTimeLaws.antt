-- Lowe's search goes through the events of calls exactly where these are strictly serializable; and a history may be cut:
-- the second part goes on from the configurations to which the first leads.
use Rattle.std.proofs.Common.{◌≡◌, ◌⊎◌, ◌↔◌, List, [], ◌∷◌, ◌++◌, sym, subst, inl, inr}
use Rattle.std.proofs.lemmas.List.{append-nil}
use Rattle.tatp_tables.specs.Database.{Database}
use Rattle.tatp_history.specs.declared.event.Event.{Event}
use Rattle.tatp_history.specs.declared.observed.Observed.{Observed}
use Rattle.tatp_history.specs.Histories.{IsIn, IsAnswered, IsSerialOrder, IsStrictlySerializable, IsStrictlySerializableTo}
use Rattle.tatp_history.specs.Events.{asked_in, TimesRise, HaveEnds}
use Rattle.tatp_history.specs.JustInTime.{Explains, AreOpen}
use Rattle.tatp_history.specs.Configurations.{Configuration, starting, Lead, LeadToSome, AreUnanswered}
use Rattle.tatp_history.specs.Remaining.{IsLeft, IsOrderFrom, HasOrder}
use Rattle.tatp_history.proofs.OrderLaws.{all_map, all_in}
use Rattle.tatp_history.proofs.LeadLaws.{leads, led, open_led, lead_sound, lead_complete}

-- whatever the rows
abbrev pub Any : Database → Type 0
Any v = Unit {0}

-- ---- from a configuration on
-- where nothing happens any more, the empty order is one
pub ended : (d : Configuration) → AreOpen [] d.opened → HasOrder Any d.rows [] d.opened
ended d are = (
  [],
  record {
    made = tt;
    once = tt;
    all = λ z k answered. elim k [ inl q ↦ absurd (are.ends z q answered) | inr q ↦ absurd q ];
    real_time = tt;
    replies = tt;
  },
  tt,
)

pub sound : (events : List Event) → TimesRise events → HaveEnds events → (u : Database) (opened : List Observed) → AreOpen events opened → Explains events u opened → HasOrder Any u events opened
sound events rise have u opened are h =
    let c : Configuration = record { rows = u; opened = opened } in
    let same : events ≡ events ++ [] = sym (append-nil events) in
    let rise' : TimesRise (events ++ []) = subst TimesRise same rise in
    let have' : HaveEnds (events ++ []) = subst HaveEnds same have in
    let are' : AreOpen (events ++ []) opened = subst (λ es. AreOpen es opened) same are in
    let last = leads events c h in
    subst (λ es. HasOrder Any u es opened) (append-nil events)
    (lead_sound Any events [] rise' have' c last.0 are' last.1 (ended last.0 (open_led events [] rise' have' c last.0 are' last.1)))

pub complete : (events : List Event) → TimesRise events → HaveEnds events → (u : Database) (opened : List Observed) → AreOpen events opened → HasOrder Any u events opened → Explains events u opened
complete events rise have u opened are h =
    let c : Configuration = record { rows = u; opened = opened } in
    let same : events ≡ events ++ [] = sym (append-nil events) in
    let last = lead_complete Any events [] (subst TimesRise same rise) (subst HaveEnds same have) c (subst (λ es. AreOpen es opened) same are) (subst (λ es. HasOrder Any u es opened) same h) in
    led events c last.0 last.1

-- ---- orders of what remains are serial orders
in_first : (z : Observed) (xs ys : List Observed) → IsIn z xs → IsIn z (xs ++ ys)
in_first z [] ys h = absurd h
in_first z (x ∷ xs) ys h = elim h [ inl e ↦ inl e | inr k ↦ inr (in_first z xs ys k) ]

in_second : (z : Observed) (xs ys : List Observed) → IsIn z ys → IsIn z (xs ++ ys)
in_second z [] ys h = h
in_second z (x ∷ xs) ys h = inr (in_second z xs ys h)

in_either : (z : Observed) (xs ys : List Observed) → IsIn z (xs ++ ys) → IsIn z xs ⊎ IsIn z ys
in_either z [] ys h = inr h
in_either z (x ∷ xs) ys h = elim h [
  | inl e ↦ inl (inl e)
  | inr k ↦ elim (in_either z xs ys k) [ inl q ↦ inl (inr q) | inr q ↦ inr q ]
]

pub is_serial : (u : Database) (events : List Event) (opened order : List Observed) → IsOrderFrom u events opened order → IsSerialOrder u (opened ++ asked_in events) order
is_serial u events opened order ok = record {
  made = all_map (IsLeft events opened) (λ z. IsIn z (opened ++ asked_in events)) (λ z h. elim h [ inl k ↦ in_first z opened (asked_in events) k | inr k ↦ in_second z opened (asked_in events) k ]) order ok.made;
  once = ok.once;
  all = λ z h answered. ok.all z (in_either z opened (asked_in events) h) answered;
  real_time = ok.real_time;
  replies = ok.replies;
}

pub serial_is : (u : Database) (events : List Event) (opened order : List Observed) → IsSerialOrder u (opened ++ asked_in events) order → IsOrderFrom u events opened order
serial_is u events opened order ok = record {
  made = all_map (λ z. IsIn z (opened ++ asked_in events)) (IsLeft events opened) (λ z h. in_either z opened (asked_in events) h) order ok.made;
  once = ok.once;
  all = λ z h answered. ok.all z (elim h [ inl k ↦ in_first z opened (asked_in events) k | inr k ↦ in_second z opened (asked_in events) k ]) answered;
  real_time = ok.real_time;
  replies = ok.replies;
}

-- ---- the laws
pub none_open : (events : List Event) → AreOpen events []
none_open events = record { ends = λ z h. absurd h; fit = λ z h. absurd h; before = λ z h. absurd h; apart = tt }

pub just_in_time : (u : Database) (events : List Event) → TimesRise events → HaveEnds events → Explains events u [] ↔ IsStrictlySerializable u (asked_in events)
just_in_time u events rise have = (
  λ h. let found = sound events rise have u [] (none_open events) h in (found.0, is_serial u events [] found.0 found.1),
  λ s. complete events rise have u [] (none_open events) (s.0, serial_is u events [] s.0 s.1, tt),
)

pub cut : (u : Database) (first second : List Event) → TimesRise (first ++ second) → HaveEnds (first ++ second)
    → IsStrictlySerializable u (asked_in (first ++ second)) ↔ LeadToSome first (starting u) (λ c. IsStrictlySerializable c.rows (c.opened ++ asked_in second))
cut u first second rise have = (
  λ s. let last = lead_complete Any first second rise have (starting u) (none_open (first ++ second)) (s.0, serial_is u (first ++ second) [] s.0 s.1, tt) in
      (last.0, last.1, (last.2.0, is_serial last.0.rows second last.0.opened last.2.0 last.2.1)),
  λ s. let order = lead_sound Any first second rise have (starting u) s.0 (none_open (first ++ second)) s.1 (s.2.0, serial_is s.0.rows second s.0.opened s.2.0 s.2.1, tt) in
      (order.0, is_serial u (first ++ second) [] order.0 order.1),
)

pub cut_to : (u after : Database) (first second : List Event) → TimesRise (first ++ second) → HaveEnds (first ++ second)
    → IsStrictlySerializableTo u (asked_in (first ++ second)) after ↔ LeadToSome first (starting u) (λ c. IsStrictlySerializableTo c.rows (c.opened ++ asked_in second) after)
cut_to u after first second rise have = (
  λ s. let last = lead_complete (λ v. v ≡ after) first second rise have (starting u) (none_open (first ++ second)) (s.0, serial_is u (first ++ second) [] s.0 s.1, s.2) in
      (last.0, last.1, (last.2.0, is_serial last.0.rows second last.0.opened last.2.0 last.2.1, last.2.2)),
  λ s. let order = lead_sound (λ v. v ≡ after) first second rise have (starting u) s.0 (none_open (first ++ second)) s.1 (s.2.0, serial_is s.0.rows second s.0.opened s.2.0 s.2.1, s.2.2) in
      (order.0, is_serial u (first ++ second) [] order.0 order.1, order.2),
)

-- where all calls that were answered have ended, those left were not answered
pub unanswered : (u : Database) (events : List Event) → TimesRise events → HaveEnds events → (c : Configuration) → Lead events (starting u) c → AreUnanswered c.opened
unanswered u events rise have c on =
    let same : events ≡ events ++ [] = sym (append-nil events) in
    let are : AreOpen [] c.opened = open_led events [] (subst TimesRise same rise) (subst HaveEnds same have) (starting u) c (none_open (events ++ [])) on in
    all_in (λ (x : Observed). IsAnswered x.outcome → ⊥) c.opened (λ x there answered. are.ends x there answered)
