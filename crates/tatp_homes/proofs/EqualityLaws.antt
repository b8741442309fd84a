-- Homes are equal exactly where their cells are.
use Rattle.std.specs.Prelude.{◌≡◌, ℕ, Bool, true, false, ◌&&◌, List, [], ◌∷◌, Option, Some, None, find, slice_index_or, drop, nat_eq}
use Rattle.std.specs.Bool.{Decides}
use Rattle.std.specs.Option.{option_eq}
use Rattle.std.specs.Cmp.Lexicographic.{pointwise, pointwise_decides, bytes_decides}
use Rattle.std.proofs.Common.{refl, sym, ap, ◌∙◌, subst}
use Rattle.std.proofs.lemmas.Bool.Decides.{Decides-eqb, Decides-and, Decides-like, same_from_decides}
use Rattle.tatp_tables.specs.Tuples.{Tuple, Tuples, rows_of, set_of}
use Rattle.tatp_tables.proofs.TupleLaws.{set_of-rows_of}
use Rattle.tatp_tables.specs.Keys.{has_key}
use Rattle.tatp_tables.specs.Database.{Database}
use Rattle.tatp_homes.specs.Home.{SubscriberRows, same_rows, same_tables, same_home}
use Rattle.tatp_homes.specs.Cells.{present, StandAt, HoldHome, tables_in, subscriber_keys, type_keys, forwarding_keys}
use Rattle.tatp_homes.proofs.CellLaws.{rise, first_of, second_of, none_later, rows_of-present}

-- ---- two homes
Decides-same_rows : (u v : Tuples) → Decides (same_rows u v) (u ≡ v)
Decides-same_rows u v = Decides-like (same_rows u v) (λ e. sym (set_of-rows_of u) ∙ ap set_of e ∙ set_of-rows_of v) (ap rows_of) (pointwise_decides bytes_decides (rows_of u) (rows_of v))

Decides-same_tables : (u v : Database) → Decides (same_tables u v) (u ≡ v)
Decides-same_tables u v =
    Decides-like (same_tables u v)
    (λ e i. record { subscribers = e.0 i; accesses = e.1.0 i; facilities = e.1.1.0 i; forwardings = e.1.1.1 i })
    (λ e. (ap (λ (w : Database). w.subscribers) e, (ap (λ (w : Database). w.accesses) e, (ap (λ (w : Database). w.facilities) e, ap (λ (w : Database). w.forwardings) e))))
    (Decides-and (same_rows u.subscribers v.subscribers) _ (Decides-same_rows u.subscribers v.subscribers)
    (Decides-and (same_rows u.accesses v.accesses) _ (Decides-same_rows u.accesses v.accesses)
    (Decides-and (same_rows u.facilities v.facilities) _ (Decides-same_rows u.facilities v.facilities) (Decides-same_rows u.forwardings v.forwardings))))

pub Decides-same_home : (a b : SubscriberRows) → Decides (same_home a b) (a ≡ b)
Decides-same_home a b =
    Decides-like (same_home a b)
    (λ e i. record { s_id = e.0 i; tables = e.1 i })
    (λ e. (ap (λ (h : SubscriberRows). h.s_id) e, ap (λ (h : SubscriberRows). h.tables) e))
    (Decides-and (nat_eq a.s_id b.s_id) _ (Decides-eqb a.s_id b.s_id) (Decides-same_tables a.tables b.tables))

-- ---- their cells
-- the same rows stand in the same cells
same_places : (s : ℕ) (keys : List (List ℕ)) (c d : List (Option Tuple)) → rise keys ≡ true → StandAt s keys c → StandAt s keys d → present c ≡ present d → c ≡ d
same_places s [] [] [] r all also e = refl
same_places s [] [] (y ∷ d) r all also e = absurd also
same_places s [] (x ∷ c) d r all also e = absurd all
same_places s (k ∷ keys) [] d r all also e = absurd all
same_places s (k ∷ keys) (x ∷ c) [] r all also e = absurd also
same_places s (k ∷ keys) (None ∷ c) (None ∷ d) r all also e = ap (λ more. None ∷ more) (same_places s keys c d (second_of _ _ r) all also e)
same_places s (k ∷ keys) (None ∷ c) (Some q ∷ d) r all also e =
    let none = none_later s k keys c (first_of _ _ r) all in
    let some : find (has_key (s ∷ k)) (q ∷ present d) ≡ Some q = rw also.0 refl in
    absurd (cc (sym none ∙ ap (find (has_key (s ∷ k))) e ∙ some))
same_places s (k ∷ keys) (Some q ∷ c) (None ∷ d) r all also e =
    let none = none_later s k keys d (first_of _ _ r) also in
    let some : find (has_key (s ∷ k)) (q ∷ present c) ≡ Some q = rw all.0 refl in
    absurd (cc (sym some ∙ ap (find (has_key (s ∷ k))) e ∙ none))
same_places s (k ∷ keys) (Some q ∷ c) (Some p ∷ d) r all also e =
    λ i. Some (slice_index_or (e i) 0 q) ∷ same_places s keys c d (second_of _ _ r) all.1 also.1 (ap (drop 1) e) i

same_cells : (s t : ℕ) (keys : List (List ℕ)) (c d : List (Option Tuple)) → rise keys ≡ true → StandAt s keys c → StandAt t keys d → s ≡ t → set_of (present c) ≡ set_of (present d) → c ≡ d
same_cells s t keys c d r all also e h =
    let own : StandAt s keys d = subst (λ n. StandAt n keys d) (sym e) also in
    same_places s keys c d r all own (sym (rows_of-present s keys c r all) ∙ ap rows_of h ∙ rows_of-present s keys d r own)

-- what contracts see of cells
abbrev pub home_of : (s : ℕ) (o : Option Tuple) (a f w : List (Option Tuple)) → SubscriberRows
home_of s o a f w = record { s_id = s; tables = tables_in o a f w }

Decides-cell : (o p : Option Tuple) → Decides (option_eq (pointwise nat_eq) o p) (o ≡ p)
Decides-cell None None = (λ _. refl, λ _. refl)
Decides-cell None (Some q) = (λ e. cc, λ e. cc)
Decides-cell (Some q) None = (λ e. cc, λ e. cc)
Decides-cell (Some q) (Some r) = Decides-like _ (ap Some) (λ e. cc) (bytes_decides q r)

abbrev pub cells_eq : List (Option Tuple) → List (Option Tuple) → Bool
cells_eq = pointwise (option_eq (pointwise nat_eq))

-- a test that stands before another, taken or not
pub taken : (v r a b : Bool) → v ≡ r → r ≡ b → a ≡ true → v ≡ (a && b)
taken v r true b e f h = e ∙ f
taken v r false b e f h = cc

pub passed : (v a b : Bool) → v ≡ a → a ≡ false → v ≡ (a && b)
passed v true b e h = cc
passed v false b e h = e

-- whether the s_ids and the cells of two homes are the same, in the order in which they are compared
abbrev pub cells_compared : (s t : ℕ) (o p : Option Tuple) (a b f g w x : List (Option Tuple)) → Bool
cells_compared s t o p a b f g w x = (((nat_eq s t && option_eq (pointwise nat_eq) o p) && cells_eq a b) && cells_eq f g) && cells_eq w x

Decides-cells : (c d : List (Option Tuple)) → Decides (cells_eq c d) (c ≡ d)
Decides-cells c d = pointwise_decides Decides-cell c d

-- two homes are the same exactly where their cells are
module _ (s t : ℕ) (o p : Option Tuple) (a b f g w x : List (Option Tuple)) (h : HoldHome s o a f w) (k : HoldHome t p b g x) where
  abbrev Same : Type 0
  Same = (((s ≡ t) × (o ≡ p)) × (a ≡ b)) × (f ≡ g)

  to_views : Same × (w ≡ x) → home_of s o a f w ≡ home_of t p b g x
  to_views e = λ i. home_of (e.0.0.0.0 i) (e.0.0.0.1 i) (e.0.0.1 i) (e.0.1 i) (e.1 i)

  from_views : home_of s o a f w ≡ home_of t p b g x → Same × (w ≡ x)
  from_views e =
      let own : s ≡ t = ap (λ (r : SubscriberRows). r.s_id) e in
      let one = same_cells s t subscriber_keys (o ∷ []) (p ∷ []) refl h.subscriber_place k.subscriber_place own (ap (λ (r : SubscriberRows). r.tables.subscribers) e) in (
        (
          (
            (own, ap (λ cells. slice_index_or cells 0 None) one),
            same_cells s t type_keys a b refl h.access_places k.access_places own (ap (λ (r : SubscriberRows). r.tables.accesses) e),
          ),
          same_cells s t type_keys f g refl h.facility_places k.facility_places own (ap (λ (r : SubscriberRows). r.tables.facilities) e),
        ),
        same_cells s t forwarding_keys w x refl h.forwarding_places k.forwarding_places own (ap (λ (r : SubscriberRows). r.tables.forwardings) e),
      )

  pub compared : cells_compared s t o p a b f g w x ≡ same_home (home_of s o a f w) (home_of t p b g x)
  compared = same_from_decides _ _
      (Decides-like (cells_compared s t o p a b f g w x) to_views from_views
      (Decides-and _ (cells_eq w x) (Decides-and _ (cells_eq f g) (Decides-and _ (cells_eq a b) (Decides-and (nat_eq s t) (option_eq (pointwise nat_eq) o p) (Decides-eqb s t) (Decides-cell o p)) (Decides-cells a b)) (Decides-cells f g)) (Decides-cells w x)))
      (Decides-same_home (home_of s o a f w) (home_of t p b g x))
