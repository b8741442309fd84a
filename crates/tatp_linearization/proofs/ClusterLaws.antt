-- Clusters that take effect before an update of the location.
use Rattle.std.proofs.Common.{◌≡◌, ℕ, zero, suc, ◌≤◌, ◌&&◌, not, Bool, true, false, cond, List, [], ◌∷◌, ◌++◌, filter, length, Option, Some, None, remove, refl, sym, ◌∙◌, ap, subst, arith, eqb-true, eq-eqb, true≢false, inl, inr}
use Rattle.std.specs.List.{AllByRecursion}
use Rattle.tatp_tables.specs.Keys.{row_with_number, has_number}
use Rattle.tatp_tables.specs.Database.{Database}
use Rattle.tatp_tables.proofs.KeyLaws.{has-found}
use Rattle.tatp_calls.specs.declared.call.Call.{Call}
use Rattle.tatp_calls.specs.declared.call.Call.TheVariants.{UpdateLocation}
use Rattle.tatp_calls.specs.Transactions.{transaction, updates_location}
use Rattle.tatp_history.specs.declared.event.Event.{Event}
use Rattle.tatp_history.specs.declared.event.Event.TheVariants.{Asks, Ends}
use Rattle.tatp_history.specs.declared.observed.Recorded.{Recorded}
use Rattle.tatp_history.specs.declared.observed.Outcome.TheVariants.{Answered}
use Rattle.tatp_history.specs.declared.observed.Observed.{Observed}
use Rattle.tatp_history.specs.Histories.{IsIn, IsAnswered, IsAnsweredBefore, AreAskedApart}
use Rattle.tatp_history.specs.Changes.{only_reads, has_failed, LeavesRows}
use Rattle.tatp_history.specs.Events.{time_of, IsAnsweredAt, EndsIn}
use Rattle.tatp_history.specs.JustInTime.{Chooses, NoneAskedAt, AreOpen}
use Rattle.tatp_history.specs.Remaining.{HasOrder, HasOrderTo}
use Rattle.tatp_history.specs.Configurations.{Configuration}
use Rattle.tatp_history.proofs.ChangeLaws.{unchanged}
use Rattle.tatp_history.proofs.ChoiceLaws.{chosen_in, rest_in, chooses_some, chooses_length, find_asked}
use Rattle.tatp_history.proofs.OrderLaws.{all_in, in_all, all_map, in_filter, of_filter, apart_filter, apart_is}
use Rattle.tatp_history.proofs.RemainingLaws.{open_chosen}
use Rattle.tatp_history.proofs.UnchangingLaws.{is_other, is_other_true, without_unchanging}
use Rattle.tatp_linearization.specs.declared.ahead.Ahead.{Ahead}
use Rattle.tatp_linearization.specs.AtOnce.{FitsAtOnce}
use Rattle.tatp_linearization.specs.Possible.{CallsTakeEffect}
use Rattle.tatp_linearization.specs.Overwritten.{SetsLocation}
use Rattle.tatp_linearization.specs.Unseen.{location_in, is_location, sees, NoneSaw, AreOfOne}
use Rattle.tatp_linearization.specs.Ahead.{LooksAhead}
use Rattle.tatp_linearization.specs.Clusters.{IsUnread, ReadsOfLocationFit, GoesWith, DropsCalls, KeepOrders, LosesNone}
use Rattle.tatp_linearization.proofs.AheadLaws.{saw_location}
use Rattle.tatp_linearization.proofs.BlindLaws.{set_again}
use Rattle.tatp_linearization.proofs.UnseenLaws.{one_only, one_after, all_others, without_unseen}
use Rattle.tatp_linearization.proofs.PlaceLaws.{chooses_at, all_remove}
use Rattle.tatp_linearization.proofs.PossibleLaws.{SomeTakeEffect, some_on, one_call, unchanging_call}
use Rattle.tatp_linearization.proofs.SettlingLaws.{chooses_mid, shift}

-- ---- filters
filter_swap : (p q : Observed → Bool) (xs : List Observed) → filter q (filter p xs) ≡ filter p (filter q xs)
filter_swap p q [] = refl
filter_swap p q (x ∷ xs) = elim (p x) as (λ b. p x ≡ b → filter q (cond b (x ∷ filter p xs) (filter p xs)) ≡ filter p (cond (q x) (x ∷ filter q xs) (filter q xs))) [
  | true ↦ λ e. elim (q x) as (λ c. cond c (x ∷ filter q (filter p xs)) (filter q (filter p xs)) ≡ filter p (cond c (x ∷ filter q xs) (filter q xs))) [
    | true ↦ ap (λ zs. x ∷ zs) (filter_swap p q xs) ∙ sym (ap (λ b. cond b (x ∷ filter p (filter q xs)) (filter p (filter q xs))) e)
    | false ↦ filter_swap p q xs
  ]
  | false ↦ λ e. elim (q x) as (λ c. filter q (filter p xs) ≡ filter p (cond c (x ∷ filter q xs) (filter q xs))) [
    | true ↦ filter_swap p q xs ∙ sym (ap (λ b. cond b (x ∷ filter p (filter q xs)) (filter p (filter q xs))) e)
    | false ↦ filter_swap p q xs
  ]
] refl

filter_both : (p q : Observed → Bool) (xs : List Observed) → filter q (filter p xs) ≡ filter (λ z. p z && q z) xs
filter_both p q [] = refl
filter_both p q (x ∷ xs) = elim (p x) as (λ b. filter q (cond b (x ∷ filter p xs) (filter p xs)) ≡ cond (b && q x) (x ∷ filter (λ z. p z && q z) xs) (filter (λ z. p z && q z) xs)) [
  | true ↦ elim (q x) as (λ c. cond c (x ∷ filter q (filter p xs)) (filter q (filter p xs)) ≡ cond c (x ∷ filter (λ z. p z && q z) xs) (filter (λ z. p z && q z) xs)) [
    | true ↦ ap (λ zs. x ∷ zs) (filter_both p q xs)
    | false ↦ filter_both p q xs
  ]
  | false ↦ filter_both p q xs
]

filter_all : (xs : List Observed) → filter (λ z. true) xs ≡ xs
filter_all [] = refl
filter_all (x ∷ xs) = ap (λ zs. x ∷ zs) (filter_all xs)

-- the others are those that were asked at another time
chosen_others : (xs : List Observed) (x : Observed) (left : List Observed) → Chooses xs x left → AreAskedApart xs → filter (is_other x.asked) xs ≡ left
chosen_others [] x left c apart = absurd c
chosen_others (y ∷ ys) x left c apart = elim c [
  | inl p ↦
      let others : AllByRecursion (λ (z : Observed). x.asked ≡ z.asked → ⊥) ys = subst (λ (w : Observed). AllByRecursion (λ (z : Observed). w.asked ≡ z.asked → ⊥) ys) (sym p.0) apart.0 in
      ap (λ b. cond b (y ∷ filter (is_other x.asked) ys) (filter (is_other x.asked) ys)) (same_time x y (ap (λ (w : Observed). w.asked) (sym p.0)))
      ∙ (all_others x.asked ys others ∙ sym p.1)
  | inr p ↦
      let other : y.asked ≡ x.asked → ⊥ = in_all (λ (z : Observed). y.asked ≡ z.asked → ⊥) x ys apart.0 (chosen_in ys x p.0 p.2) in
      ap (λ b. cond b (y ∷ filter (is_other x.asked) ys) (filter (is_other x.asked) ys)) (is_other_true x.asked y other)
      ∙ (ap (λ zs. y ∷ zs) (chosen_others ys x p.0 p.2 apart.1) ∙ sym p.1)
]
  where
    same_time : (w z : Observed) → z.asked ≡ w.asked → is_other w.asked z ≡ false
    same_time w z e = ap not (eq-eqb z.asked w.asked e)

none_others : (time : ℕ) (xs : List Observed) → NoneAskedAt time xs → filter (is_other time) xs ≡ xs
none_others time xs none = all_others time xs (all_map (λ (z : Observed). z.asked ≡ time → ⊥) (λ (z : Observed). time ≡ z.asked → ⊥) (λ z n e. n (sym e)) xs none)

pub open_filter : (events : List Event) (test : Observed → Bool) (xs : List Observed) → AreOpen events xs → AreOpen events (filter test xs)
open_filter events test xs are = record {
  ends = λ z h answered. are.ends z (of_filter test z xs h).0 answered;
  fit = λ z h. are.fit z (of_filter test z xs h).0;
  before = λ z h. are.before z (of_filter test z xs h).0;
  apart = apart_filter test xs are.apart;
}

-- ---- reads that saw the location
pub seen_is : (location : ℕ) (o : Option ℕ) → is_location location o ≡ true → o ≡ Some location
seen_is location None e = absurd (true≢false (sym e))
seen_is location (Some seen) e = ap Some (eqb-true seen location e)

not_seen : (location : ℕ) (x : Observed) → not (sees location x) ≡ true → location_in x ≡ Some location → ⊥
not_seen location x e saw =
    let yes : sees location x ≡ true = ap (is_location location) saw ∙ eq-eqb location location refl in
    true≢false (sym e ∙ ap not yes)

seer_leaves : (location : ℕ) (x : Observed) → sees location x ≡ true → LeavesRows x
seer_leaves location x e =
    let saw = saw_location location x (seen_is location (location_in x) e) in
    unchanged x (ap (λ call. cond (only_reads call) true (has_failed x.outcome)) saw.reads)

abbrev pub unseeing : ℕ → Observed → Bool
unseeing location z = not (sees location z)

-- they take effect
seers_take : (v : Database) (location : ℕ) (before xs : List Observed) → ReadsOfLocationFit location v xs → SomeTakeEffect (record { rows = v; opened = before ++ xs }) (record { rows = v; opened = before ++ filter (unseeing location) xs })
seers_take v location before [] fit = (0, refl)
seers_take v location before (x ∷ xs) fit = elim (sees location x) as (λ b. sees location x ≡ b → SomeTakeEffect (record { rows = v; opened = before ++ x ∷ xs }) (record { rows = v; opened = before ++ cond (not b) (x ∷ filter (unseeing location) xs) (filter (unseeing location) xs) })) [
  | true ↦ λ e. let f : FitsAtOnce v x = fit.0 e in
      some_on (record { rows = v; opened = before ++ x ∷ xs }) (record { rows = v; opened = before ++ xs }) (record { rows = v; opened = before ++ filter (unseeing location) xs })
      (unchanging_call v (before ++ x ∷ xs) (before ++ xs) x f (λ d same. (x, before ++ xs, chooses_mid before xs x, f.1, same)))
      (seers_take v location before xs fit.1)
  | false ↦ λ e.
      subst (λ zs. SomeTakeEffect (record { rows = v; opened = zs }) (record { rows = v; opened = before ++ x ∷ filter (unseeing location) xs })) (sym (shift before x xs))
      (subst (λ zs. SomeTakeEffect (record { rows = v; opened = (before ++ x ∷ []) ++ xs }) (record { rows = v; opened = zs })) (sym (shift before x (filter (unseeing location) xs)))
      (seers_take v location (before ++ x ∷ []) xs fit.1))
] refl

-- or needn't be open
seers_out : (Q : Database → Type 0) (events : List Event) (u : Database) (location : ℕ) (before xs : List Observed) → AreOpen events (before ++ xs) → HasOrder Q u events (before ++ xs) → HasOrder Q u events (before ++ filter (unseeing location) xs)
seers_out Q events u location before [] are h = h
seers_out Q events u location before (x ∷ xs) are h = elim (sees location x) as (λ b. sees location x ≡ b → HasOrder Q u events (before ++ cond (not b) (x ∷ filter (unseeing location) xs) (filter (unseeing location) xs))) [
  | true ↦ λ e. let c = chooses_mid before xs x in
      seers_out Q events u location before xs (open_chosen events (before ++ x ∷ xs) x (before ++ xs) c are)
      (without_unchanging events (before ++ x ∷ xs) x (before ++ xs) c are Q u (seer_leaves location x e) h)
  | false ↦ λ e.
      subst (λ zs. HasOrder Q u events zs) (sym (shift before x (filter (unseeing location) xs)))
      (seers_out Q events u location (before ++ x ∷ []) xs (subst (AreOpen events) (shift before x xs) are) (subst (λ zs. HasOrder Q u events zs) (shift before x xs) h))
] refl

-- ---- one cluster takes effect
-- another update of the location then does what it would have done
set_alike : (u : Database) (n location : ℕ) → AreOfOne u → (call : Call) → SetsLocation u call
    → SetsLocation (transaction (UpdateLocation n location) u).database call × (transaction call (transaction (UpdateLocation n location) u).database ≡ transaction call u)
set_alike u n location one call sets = elim (row_with_number u.subscribers n) as (λ o. row_with_number u.subscribers n ≡ o → SetsLocation (updates_location u location o).database call × (transaction call (updates_location u location o).database ≡ transaction call u)) [
  | None ↦ λ e. (sets, refl)
  | Some r ↦ λ e. set_again u r (one_only u.subscribers r one (has-found (has_number n) u.subscribers r e)) location call sets
] refl

module _ (u : Database) (opened : List Observed) (place location : ℕ) (x : Observed) (v : Database) (left : List Observed) (goes : GoesWith u opened place location x v left) where
  pub gone_to : (n : ℕ) → x.call ≡ UpdateLocation n location → AreOfOne u → DropsCalls u opened v left
  gone_to n updates one =
      let others = remove opened place in
      let first : SomeTakeEffect (record { rows = u; opened = opened }) (record { rows = v; opened = others })
      = one_call (record { rows = u; opened = opened }) (record { rows = v; opened = others }) (x, others, chooses_at opened place x goes.at, goes.may, λ i. record { rows = goes.rows i; opened = others }) in
      let second : SomeTakeEffect (record { rows = v; opened = others }) (record { rows = v; opened = left })
      = subst (λ zs. SomeTakeEffect (record { rows = v; opened = others }) (record { rows = v; opened = zs })) (sym goes.others)
      (seers_take v location [] others (all_remove (λ (z : Observed). sees location z ≡ true → FitsAtOnce v z) opened place goes.fit)) in
      let all = some_on (record { rows = u; opened = opened }) (record { rows = v; opened = others }) (record { rows = v; opened = left }) first second in
      record {
        many = all.0;
        effects = all.1;
        alike = λ call sets. subst (λ w. SetsLocation w call × (transaction call w ≡ transaction call u)) (sym (goes.rows ∙ ap (λ (c : Call). (transaction c u).database) updates)) (set_alike u n location one call sets);
      }

-- ---- no order is lost
ends_from : (x : Observed) (events : List Event) (now at : ℕ) (recorded : Recorded) → x.outcome ≡ Answered at recorded → AllByRecursion (λ (event : Event). now ≤ time_of event) events → EndsIn x events → now ≤ at
ends_from x [] now at recorded answered from ends = absurd ends
ends_from x (Asks y ∷ more) now at recorded answered from ends = ends_from x more now at recorded answered from.1 ends
ends_from x (Ends asked time ∷ more) now at recorded answered from ends = elim ends [
  | inl k ↦ let is : IsAnsweredAt time (Answered at recorded) = subst (IsAnsweredAt time) answered k.1 in let le = from.0 in omega (arith, is, le)
  | inr k ↦ ends_from x more now at recorded answered from.1 k
]

abbrev staying : Observed → ℕ → Observed → Bool
staying x location z = unseeing location z && is_other x.asked z

module _ (ahead : Ahead) (now : ℕ) (x : Observed) (location : ℕ) (unread : IsUnread ahead now x location) (opened : List Observed) (there : IsIn x opened) (apart : AreAskedApart opened) where
  keeps : (events : List Event) → LooksAhead ahead now events → KeepOrders events opened (staying x location)
  keeps events looks u after some one among are order =
      let Q : Database → Type 0 = λ v. v ≡ after in
      let mid : List Observed = filter (unseeing location) some in
      let on : AreOpen events mid = open_filter events (unseeing location) some are in
      let first : HasOrder Q u events mid = seers_out Q events u location [] some are order in
      let result : filter (is_other x.asked) mid ≡ filter (staying x location) some = filter_both (unseeing location) (is_other x.asked) some in
      subst (λ zs. HasOrder Q u events zs) result (elim (find_asked x.asked mid) [
        | inl none ↦ subst (λ zs. HasOrder Q u events zs) (sym (none_others x.asked mid none)) first
        | inr some_one ↦
            let y = some_one.0 in
            let own : y ≡ x = apart_is opened y x apart (among y (of_filter (unseeing location) y some some_one.1).0) there some_one.2 in
            let here : IsIn x mid = subst (λ (z : Observed). IsIn z mid) own some_one.1 in
            let c = chooses_some mid x here in
            let answered : IsAnswered x.outcome = subst IsAnswered (sym unread.answered) tt in
            let le : now ≤ unread.at = ends_from x events now unread.at unread.recorded unread.answered looks.from (on.ends x here answered) in
            let next = looks.replaced location unread.at le unread.replaced in
            let unseen : NoneSaw location c.0 = all_in (λ (z : Observed). location_in z ≡ Some location → ⊥) c.0 (λ z h. not_seen location z (of_filter (unseeing location) z some (rest_in mid x c.0 c.1 z h)).1) in
            subst (λ zs. HasOrder Q u events zs) (sym (chosen_others mid x c.0 c.1 on.apart))
            (without_unseen events mid x c.0 c.1 on Q u one unread.number location unread.updates answered next.0 unseen (next.1.reads unread.unread) next.1.there next.1.by
            (subst (IsAnsweredBefore next.0.asked) (sym unread.answered) next.1.later) first)
      ])

pub gone_loses : (ahead : Ahead) (now : ℕ) (u : Database) (opened : List Observed) (place location : ℕ) (x : Observed) (v : Database) (left : List Observed) → GoesWith u opened place location x v left → IsUnread ahead now x location → AreAskedApart opened → LosesNone ahead now opened left
gone_loses ahead now u opened place location x v left goes unread apart =
    let c = chooses_at opened place x goes.at in
    record {
      test = staying x location;
      others = goes.others ∙ (ap (filter (unseeing location)) (sym (chosen_others opened x (remove opened place) c apart))
          ∙ (filter_swap (is_other x.asked) (unseeing location) opened ∙ filter_both (unseeing location) (is_other x.asked) opened));
      kept = keeps ahead now x location unread opened (chosen_in opened x (remove opened place) c) apart;
    }

-- ---- one after another
pub go_none : (u : Database) (opened : List Observed) → DropsCalls u opened u opened
go_none u opened = record { many = 0; effects = refl; alike = λ call sets. (sets, refl) }

pub go_same : (u v : Database) (opened left : List Observed) → v ≡ u → left ≡ opened → DropsCalls u opened v left
go_same u v opened left rows same = subst (λ w. DropsCalls u opened w left) (sym rows) (subst (DropsCalls u opened u) (sym same) (go_none u opened))

pub go_on_to : (u v w : Database) (xs ys zs : List Observed) → DropsCalls u xs v ys → DropsCalls v ys w zs → DropsCalls u xs w zs
go_on_to u v w xs ys zs first second =
    let all = some_on (record { rows = u; opened = xs }) (record { rows = v; opened = ys }) (record { rows = w; opened = zs }) (first.many, first.effects) (second.many, second.effects) in
    record {
      many = all.0;
      effects = all.1;
      alike = λ call sets. let one = first.alike call sets in let two = second.alike call one.0 in (two.0, two.1 ∙ one.1);
    }

pub loses_same : (ahead : Ahead) (now : ℕ) (xs ys : List Observed) → ys ≡ xs → LosesNone ahead now xs ys
loses_same ahead now xs ys same = record {
  test = λ z. true;
  others = same ∙ sym (filter_all xs);
  kept = λ events looks u after some one among are order. subst (λ zs. HasOrderTo after u events zs) (sym (filter_all some)) order;
}

pub loses_on : (ahead : Ahead) (now : ℕ) (xs ys zs : List Observed) → LosesNone ahead now xs ys → LosesNone ahead now ys zs → LosesNone ahead now xs zs
loses_on ahead now xs ys zs first second = record {
  test = λ z. first.test z && second.test z;
  others = second.others ∙ (ap (filter second.test) first.others ∙ filter_both first.test second.test xs);
  kept = λ events looks u after some one among are order.
      subst (λ qs. HasOrderTo after u events qs) (filter_both first.test second.test some)
      (second.kept events looks u after (filter first.test some) one
      (λ z h. let k = of_filter first.test z some h in subst (IsIn z) (sym first.others) (in_filter first.test z xs (among z k.0) k.1))
      (open_filter events first.test some are)
      (first.kept events looks u after some one among are order));
}

pub loses_apart : (ahead : Ahead) (now : ℕ) (xs ys : List Observed) → LosesNone ahead now xs ys → AreAskedApart xs → AreAskedApart ys
loses_apart ahead now xs ys loses apart = subst AreAskedApart (sym loses.others) (apart_filter loses.test xs apart)

-- ---- what calls that take effect leave open
pub calls_all : (P : Observed → Type 0) (n : ℕ) (c d : Configuration) → CallsTakeEffect n c d → AllByRecursion P c.opened → AllByRecursion P d.opened
calls_all P zero c d h all = subst (λ (b : Configuration). AllByRecursion P b.opened) (sym h) all
calls_all P (suc n) c d h all =
    let one = h.1 in
    let left : AllByRecursion P one.1 = all_in P one.1 (λ z k. in_all P z c.opened all (rest_in c.opened one.0 one.1 one.2 z k)) in
    calls_all P n h.0 d h.2 (subst (λ (b : Configuration). AllByRecursion P b.opened) (sym one.4) left)

pub calls_fewer : (n : ℕ) (c d : Configuration) → CallsTakeEffect n c d → length d.opened ≤ length c.opened
calls_fewer zero c d h = subst (λ (b : Configuration). length b.opened ≤ length c.opened) (sym h) (omega arith)
calls_fewer (suc n) c d h =
    let one = h.1 in
    let size = chooses_length c.opened one.0 one.1 one.2 in
    let same : length h.0.opened ≡ length one.1 = ap (λ (b : Configuration). length b.opened) one.4 in
    let rest = calls_fewer n h.0 d h.2 in
    omega (arith, size, same, rest)

pub calls_one : (n : ℕ) (c d : Configuration) → CallsTakeEffect n c d → AreOfOne c.rows → AreOfOne d.rows
calls_one zero c d h one = subst (λ (b : Configuration). AreOfOne b.rows) (sym h) one
calls_one (suc n) c d h one = calls_one n h.0 d h.2 (subst (λ (b : Configuration). AreOfOne b.rows) (sym h.1.4) (one_after h.1.0.call c.rows one))
