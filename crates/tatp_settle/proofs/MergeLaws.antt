-- The histories of separate extents, interleaved in any order, are one history of the database: by induction along the history, of which each entry is a transaction on its extent's homes.
use Rattle.std.proofs.Common.{◌≡◌, ◌≢◌, ℕ, zero, suc, List, [], ◌∷◌, map, drop, Some, slice_get, slice_set, refl, sym, ◌∙◌, ap, subst, arith, ◌⊎◌, inl, inr}
use Rattle.tatp_tables.specs.Database.{Database, of_subscriber, with_subscriber}
use Rattle.tatp_homes.specs.Home.{SubscriberRows, HaveSId, home_in}
use Rattle.tatp_homes.proofs.SubscriberLaws.{of_subscriber-with_subscriber, of_subscriber-with_other}
use Rattle.tatp_numbers.specs.declared.key.Key.{Key}
use Rattle.tatp_numbers.specs.Homes.{home_of_key}
use Rattle.tatp_calls.specs.declared.ask.Ask.TheVariants.{Txn}
use Rattle.tatp_calls.specs.declared.call.Call.{Call}
use Rattle.tatp_calls.specs.declared.entry.Entry.{Entry}
use Rattle.tatp_calls.specs.Calls.{key_of_call}
use Rattle.tatp_calls.specs.Order.{Answers, in_order}
use Rattle.tatp_calls.specs.Transactions.{Answer, transaction}
use Rattle.tatp_procs.specs.Consistent.{IsConsistent}
use Rattle.tatp_procs.specs.Locality.{with_answer}
use Rattle.tatp_procs.proofs.ConsistentAfterLaws.{consistent_after, keys_after}
use Rattle.tatp_procs.proofs.LocalityLaws.{transactions_are_local, rows_stay_own, fails_without_home, named_anywhere}
use Rattle.tatp_extents.specs.Histories.{with_tables, Records, Leads}
use Rattle.tatp_settle.specs.Merging.{PlacedEntry, Begins, AllAreEmpty, without_first, Merges}
use Rattle.tatp_settle.specs.Interleaving.{Interleaves}
use Rattle.tatp_settle.specs.Separate.{Parts, AreSeparate, homes_at, FindsNone, AllFindNone, LogAt, LogsAt, LeadsToLast}

-- ---- lists
pub map_get : {A B : Type 0} (f : A → B) (xs : List A) (i : ℕ) (y : B) → slice_get (map f xs) i ≡ Some y → (x : A) × (slice_get xs i ≡ Some x) × (f x ≡ y)
map_get f [] i y h = absurd cc
map_get f (x ∷ xs) zero y h = (x, refl, cc)
map_get f (x ∷ xs) (suc i) y h = map_get f xs i y h

map_same : {A B : Type 0} (f g : A → B) (xs : List A) → ((i : ℕ) (x : A) → slice_get xs i ≡ Some x → f x ≡ g x) → map f xs ≡ map g xs
map_same f g [] same = refl
map_same f g (x ∷ xs) same = λ i. same 0 x refl i ∷ map_same f g xs (λ j y h. same (suc j) y h) i

-- one element changed, the others as they were
map_set : {A B : Type 0} (f g : A → B) (xs : List A) (place : ℕ) (x : A) → slice_get xs place ≡ Some x → ((i : ℕ) (y : A) → slice_get xs i ≡ Some y → i ≢ place → f y ≡ g y) → slice_set (map f xs) place (g x) ≡ map g xs
map_set f g [] place x h same = absurd cc
map_set f g (y ∷ xs) zero x h same = let e : x ≡ y = cc in λ i. g (e i) ∷ map_same f g xs (λ j z k. same (suc j) z k (λ d. omega (arith, d))) i
map_set f g (y ∷ xs) (suc place) x h same = λ i. same 0 y refl (λ d. omega (arith, d)) i ∷ map_set f g xs place x h (λ j z k n. same (suc j) z k (λ d. n (omega (arith, d)))) i

-- what stands in the logs after one lost its first entry
pub get_without : (logs : List (List Entry)) (e : ℕ) (entry : Entry) (more : List Entry) → slice_get logs e ≡ Some (entry ∷ more) → (n : ℕ) (log : List Entry) → slice_get (without_first logs e) n ≡ Some log
    → ((n ≡ e) × (log ≡ more)) ⊎ ((n ≢ e) × (slice_get logs n ≡ Some log))
get_without [] e entry more h n log g = absurd cc
get_without (first ∷ logs) zero entry more h zero log g = let is : first ≡ entry ∷ more = cc in let rest : drop 1 first ≡ more = ap (drop 1) is in inl (refl, cc)
get_without (first ∷ logs) zero entry more h (suc n) log g = inr (λ d. omega (arith, d), g)
get_without (first ∷ logs) (suc e) entry more h zero log g = inr (λ d. omega (arith, d), g)
get_without (first ∷ logs) (suc e) entry more h (suc n) log g = elim (get_without logs e entry more h n log g) [
  | inl p ↦ inl (ap suc p.0, p.1)
  | inr p ↦ inr (λ d. p.0 (omega (arith, d)), p.1)
]

has_without : (logs : List (List Entry)) (e n : ℕ) (log : List Entry) → slice_get logs n ≡ Some log → (left : List Entry) × (slice_get (without_first logs e) n ≡ Some left)
has_without [] e n log g = absurd cc
has_without (first ∷ logs) zero zero log g = (drop 1 first, refl)
has_without (first ∷ logs) zero (suc n) log g = (log, g)
has_without (first ∷ logs) (suc e) zero log g = (first, refl)
has_without (first ∷ logs) (suc e) (suc n) log g = has_without logs e n log g

-- ---- one entry
module _ (parts : Parts) (apart : AreSeparate parts) where
  -- one entry as a step of the database
  record Step (u : Database) (logs : List (List Entry)) (p : PlacedEntry) : Type 0 where
    pub call : Call
    pub asked : p.entry.ask ≡ Txn call
    pub after : Database
    pub answer : transaction call u ≡ record { reply = p.entry.reply; database = after }
    pub consistent : IsConsistent after
    pub left : LogsAt parts after (without_first logs p.extent)
    pub keys : (key : Key) → home_of_key after.subscribers key ≡ home_of_key u.subscribers key

  -- a key that names none still names none
  stay_none : (u after : Database) → ((call : Call) → home_of_key after.subscribers (key_of_call call) ≡ home_of_key u.subscribers (key_of_call call)) → (log : List Entry) → AllFindNone u log → AllFindNone after log
  stay_none u after keys [] h = tt
  stay_none u after keys (entry ∷ more) h = (record { call = h.0.call; asked = h.0.asked; none = keys h.0.call ∙ h.0.none; reply = h.0.reply }, stay_none u after keys more h.1)

  -- an entry of extent 0
  step_homeless : (u : Database) (logs : List (List Entry)) (entry : Entry) (more : List Entry) → IsConsistent u → LogsAt parts u logs → slice_get logs 0 ≡ Some (entry ∷ more) → Step u logs (record { extent = 0; entry = entry })
  step_homeless u logs entry more is all g =
      let here : AllFindNone u (entry ∷ more) = all 0 (entry ∷ more) g in
      let found : FindsNone u entry = here.0 in
      record {
        call = found.call;
        asked = found.asked;
        after = u;
        answer = fails_without_home found.call u is found.none ∙ ap (λ r. record { reply = r; database = u }) (sym found.reply);
        consistent = is;
        left = λ n log h. elim (get_without logs 0 entry more g n log h) [
          | inl p ↦ subst (λ e. LogAt parts u e log) (sym p.0) (subst (AllFindNone u) (sym p.1) here.1)
          | inr p ↦ all n log p.1
        ];
        keys = λ key. refl;
      }

  -- the homes of an extent after one subscriber's rows were replaced
  module _ (u v : Database) (s : ℕ) (own : HaveSId s v) where
    abbrev w : Database
    w = with_subscriber u s v

    other_home : (t : ℕ) → t ≢ s → home_in u t ≡ home_in w t
    other_home t n = λ i. record { s_id = t; tables = sym (of_subscriber-with_other u s t v (λ d. n (sym d)) own) i }

    own_home : record { s_id = s; tables = v } ≡ home_in w s
    own_home = λ i. record { s_id = s; tables = sym (of_subscriber-with_subscriber u s v own) i }

    other_extent : (e e' place : ℕ) → slice_get (parts.ids e) place ≡ Some s → e' ≢ e → homes_at parts u e' ≡ homes_at parts w e'
    other_extent e e' place at n = map_same (home_in u) (home_in w) (parts.ids e') (λ j t h. other_home t (λ d. n (apart e' e j place s (h ∙ ap Some d) at).0))

    own_extent : (e place : ℕ) → slice_get (parts.ids e) place ≡ Some s → slice_set (homes_at parts u e) place (record { s_id = s; tables = v }) ≡ homes_at parts w e
    own_extent e place at = ap (slice_set (homes_at parts u e) place) own_home ∙ map_set (home_in u) (home_in w) (parts.ids e) place s at (λ j t h n. other_home t (λ d. n (apart e e j place s (h ∙ ap Some d) at).1))

    -- the log of another extent
    other_log : (e place : ℕ) → slice_get (parts.ids e) place ≡ Some s → ((call : Call) → home_of_key w.subscribers (key_of_call call) ≡ home_of_key u.subscribers (key_of_call call))
        → (n : ℕ) (log : List Entry) → n ≢ e → LogAt parts u n log → LogAt parts w n log
    other_log e place at keys zero log d h = stay_none u w keys log h
    other_log e place at keys (suc n) log d h = subst (λ b. Leads b log (parts.last (suc n))) (other_extent e (suc n) place at d) h

  -- an entry of an extent with homes
  step_at_home : (u : Database) (logs : List (List Entry)) (e : ℕ) (entry : Entry) (more : List Entry) → IsConsistent u → LogsAt parts u logs → slice_get logs (suc e) ≡ Some (entry ∷ more) → Step u logs (record { extent = suc e; entry = entry })
  step_at_home u logs e entry more is all g =
      let here : Leads (homes_at parts u (suc e)) (entry ∷ more) (parts.last (suc e)) = all (suc e) (entry ∷ more) g in
      let place : ℕ = here.0 in
      let between : List SubscriberRows = here.1 in
      let r : Records entry place (homes_at parts u (suc e)) between = here.2 in
      let rest : Leads between more (parts.last (suc e)) = here.3 in
      let found = map_get (home_in u) (parts.ids (suc e)) place r.home r.stands in
      let s : ℕ = found.0 in
      let at : slice_get (parts.ids (suc e)) place ≡ Some s = found.1 in
      let same : home_in u s ≡ r.home = found.2 in
      let named : home_of_key u.subscribers (key_of_call r.call) ≡ Some s = named_anywhere u s (key_of_call r.call) is (subst (λ (h : SubscriberRows). home_of_key h.tables.subscribers (key_of_call r.call) ≡ Some h.s_id) (sym same) r.named) in
      let v : Database = (transaction r.call (of_subscriber u s)).database in
      let own : HaveSId s v = rows_stay_own r.call u s is named in
      let after : Database = with_subscriber u s v in
      let local : transaction r.call u ≡ with_answer u s (transaction r.call (of_subscriber u s)) = transactions_are_local r.call u s is named in
      let leaves : (transaction r.call u).database ≡ after = ap (λ (a : Answer). a.database) local in
      let led : between ≡ homes_at parts after (suc e) = r.homes ∙ ap (λ (h : SubscriberRows). slice_set (homes_at parts u (suc e)) place (with_tables h (transaction r.call h.tables).database)) (sym same) ∙ own_extent u v s own (suc e) place at in
      let keys : (key : Key) → home_of_key after.subscribers key ≡ home_of_key u.subscribers key = λ key. ap (λ (d : Database). home_of_key d.subscribers key) (sym leaves) ∙ keys_after r.call u key is r.accepted in
      record {
        call = r.call;
        asked = r.asked;
        after = after;
        answer = local ∙ ap (λ q. record { reply = q; database = after }) (ap (λ (h : SubscriberRows). (transaction r.call h.tables).reply) same ∙ sym r.reply);
        consistent = subst IsConsistent leaves (consistent_after r.call u is r.accepted);
        left = λ n log h. elim (get_without logs (suc e) entry more g n log h) [
          | inl p ↦ subst (λ k. LogAt parts after k log) (sym p.0) (subst (λ l. Leads (homes_at parts after (suc e)) l (parts.last (suc e))) (sym p.1) (subst (λ b. Leads b more (parts.last (suc e))) led rest))
          | inr p ↦ other_log u v s own (suc e) place at (λ call. keys (key_of_call call)) n log p.0 (all n log p.1)
        ];
        keys = keys;
      }

  any_step : (u : Database) (logs : List (List Entry)) (p : PlacedEntry) → IsConsistent u → LogsAt parts u logs → Begins logs p → Step u logs p
  any_step u logs p is all b = by p.extent p.entry b.0 b.1
    where
      by : (e : ℕ) (entry : Entry) (more : List Entry) → slice_get logs e ≡ Some (entry ∷ more) → Step u logs (record { extent = e; entry = entry })
      by zero entry more g = step_homeless u logs entry more is all g
      by (suc e) entry more g = step_at_home u logs e entry more is all g

  -- no entry is left: each extent has its last homes
  ended : (u : Database) (logs : List (List Entry)) → LogsAt parts u logs → AllAreEmpty logs → (e : ℕ) (log : List Entry) → slice_get logs (suc e) ≡ Some log → parts.last (suc e) ≡ homes_at parts u (suc e)
  ended u logs all empty e [] g = all (suc e) [] g
  ended u logs all empty e (entry ∷ more) g = absurd (empty (record { extent = suc e; entry = entry }) (more, g))

  -- THE LAW: logs that lead from a database's homes, interleaved in any order, are a history of the database, which leads to their last homes
  pub every_interleaving_is_one_history : (history : List PlacedEntry) (u : Database) (logs : List (List Entry)) → IsConsistent u → Interleaves logs history → LogsAt parts u logs → LeadsToLast parts u logs history
  every_interleaving_is_one_history [] u logs is m all = record { after = u; consistent = is; answered = record { calls = []; asked = refl; answered = refl }; homes = ended u logs all m; keys = λ key. refl }
  every_interleaving_is_one_history (p ∷ more) u logs is m all =
      let step : Step u logs p = any_step u logs p is all m.0 in
      let rest : LeadsToLast parts step.after (without_first logs p.extent) more = every_interleaving_is_one_history more step.after (without_first logs p.extent) step.consistent m.1 step.left in
      record {
        after = rest.after;
        consistent = rest.consistent;
        answered = record {
          calls = step.call ∷ rest.answered.calls;
          asked = λ i. step.asked i ∷ rest.answered.asked i;
          answered = ap (λ (first : Answer). record { replies = first.reply ∷ (in_order first.database rest.answered.calls).replies; database = (in_order first.database rest.answered.calls).database }) step.answer
              ∙ ap (λ (tail : Answers). record { replies = p.entry.reply ∷ tail.replies; database = tail.database }) rest.answered.answered;
        };
        homes = λ e log g. let found = has_without logs p.extent (suc e) log g in rest.homes e found.0 found.1;
        keys = λ key. rest.keys key ∙ step.keys key;
      }

-- a merge is one of the interleavings
pub merges_interleave : (history : List PlacedEntry) (logs : List (List Entry)) → Merges logs history → Interleaves logs history
merges_interleave [] logs m = m
merges_interleave (p ∷ more) logs m = (m.0.begins, merges_interleave more (without_first logs p.extent) m.1)
