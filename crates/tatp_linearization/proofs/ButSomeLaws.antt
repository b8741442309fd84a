-- Lists of open calls without some that were asked before a time.
use Rattle.std.proofs.Common.{◌≡◌, ℕ, zero, suc, ◌<◌, ◌≤◌, ◌⊎◌, Bool, true, false, cond, List, [], ◌∷◌, filter, length, drop, Some, slice_get, remove, refl, sym, ap, ◌∙◌, subst, arith, inl, inr}
use Rattle.std.specs.List.{AllByRecursion}
use Rattle.tatp_tables.specs.Database.{Database}
use Rattle.tatp_history.specs.declared.observed.Observed.{Observed}
use Rattle.tatp_history.specs.Histories.{IsIn, AreAskedApart}
use Rattle.tatp_history.specs.JustInTime.{Chooses, NoneAskedAt}
use Rattle.tatp_history.proofs.OrderLaws.{in_all, all_in}
use Rattle.tatp_linearization.proofs.PlaceLaws.{drop_at}
use Rattle.tatp_linearization.specs.AtOnce.{AreLeft}
use Rattle.tatp_linearization.specs.Overwritten.{AreButSome}

-- ---- without some
pub but_none_left_out : (F : Observed → Type 0) (k : ℕ) (xs : List Observed) → AreButSome F k xs xs
but_none_left_out F k [] = refl
but_none_left_out F k (x ∷ xs) = inl (xs, refl, but_none_left_out F k xs)

-- where nothing may be left out nothing is
pub but_same : (F : Observed → Type 0) → ((x : Observed) → F x → ⊥) → (k : ℕ) (xs left : List Observed) → AreButSome F k xs left → left ≡ xs
but_same F none k [] left a = a
but_same F none k (x ∷ xs) left a = elim a [
  | inl p ↦ p.1 ∙ ap (λ zs. x ∷ zs) (but_same F none k xs p.0 p.2)
  | inr p ↦ absurd (none x p.1)
]

pub but_map : (F G : Observed → Type 0) → ((x : Observed) → F x → G x) → (k m : ℕ) → k ≤ m → (xs left : List Observed) → AreButSome F k xs left → AreButSome G m xs left
but_map F G f k m le [] left a = a
but_map F G f k m le (x ∷ xs) left a = elim a [
  | inl p ↦ inl (p.0, p.1, but_map F G f k m le xs p.0 p.2)
  | inr p ↦ let lt = p.0 in inr (omega (arith, lt, le), f x p.1, but_map F G f k m le xs left p.2)
]

-- by what is known of each of the calls
pub but_by : (F G : Observed → Type 0) (k m : ℕ) (xs left : List Observed) → AllByRecursion (λ x. x.asked < k → F x → (x.asked < m) × G x) xs → AreButSome F k xs left → AreButSome G m xs left
but_by F G k m [] left all a = a
but_by F G k m (x ∷ xs) left all a = elim a [
  | inl p ↦ inl (p.0, p.1, but_by F G k m xs p.0 all.1 p.2)
  | inr p ↦ let own = all.0 p.0 p.1 in inr (own.0, own.1, but_by F G k m xs left all.1 p.2)
]

-- first without some of one kind, and then without some of another
pub but_split : (F Q : Observed → Type 0) (k m : ℕ) (xs left : List Observed) → AreButSome (λ x. F x × ((x.asked < k) ⊎ Q x)) m xs left
    → (mid : List Observed) × AreButSome F k xs mid × AreButSome (λ x. F x × Q x) m mid left
but_split F Q k m [] left a = ([], refl, a)
but_split F Q k m (x ∷ xs) left a = elim a [
  | inl p ↦ let go = but_split F Q k m xs p.0 p.2 in (x ∷ go.0, inl (go.0, refl, go.1), inl (p.0, p.1, go.2))
  | inr p ↦
      let go = but_split F Q k m xs left p.2 in
      elim p.1.1 [
        | inl early ↦ (go.0, inr (early, p.1.0, go.1), go.2)
        | inr q ↦ (x ∷ go.0, inl (go.0, refl, go.1), inr (p.0, (p.1.0, q), go.2))
      ]
]

-- those of two kinds may be left out in turn
pub but_divide : (F Q : Observed → Type 0) (k : ℕ) (xs left : List Observed) → AreButSome (λ x. F x ⊎ Q x) k xs left → (mid : List Observed) × AreButSome F k xs mid × AreButSome Q k mid left
but_divide F Q k [] left a = ([], refl, a)
but_divide F Q k (x ∷ xs) left a = elim a [
  | inl p ↦ let go = but_divide F Q k xs p.0 p.2 in (x ∷ go.0, inl (go.0, refl, go.1), inl (p.0, p.1, go.2))
  | inr p ↦
      let go = but_divide F Q k xs left p.2 in
      elim p.1 [
        | inl f ↦ (go.0, inr (p.0, f, go.1), go.2)
        | inr q ↦ (x ∷ go.0, inl (go.0, refl, go.1), inr (p.0, q, go.2))
      ]
]

pub but_in : (F : Observed → Type 0) (k : ℕ) (xs left : List Observed) → AreButSome F k xs left → (z : Observed) → IsIn z left → IsIn z xs
but_in F k [] left a z h = subst (IsIn z) a h
but_in F k (x ∷ xs) left a z h = elim a [
  | inl p ↦ let there : IsIn z (x ∷ p.0) = subst (IsIn z) p.1 h in elim there [ inl e ↦ inl e | inr q ↦ inr (but_in F k xs p.0 p.2 z q) ]
  | inr p ↦ inr (but_in F k xs left p.2 z h)
]

pub but_all : (F : Observed → Type 0) (k : ℕ) (P : Observed → Type 0) (xs left : List Observed) → AreButSome F k xs left → AllByRecursion P xs → AllByRecursion P left
but_all F k P [] left a h = subst (AllByRecursion P) (sym a) tt
but_all F k P (x ∷ xs) left a h = elim a [
  | inl p ↦ subst (AllByRecursion P) (sym p.1) (h.0, but_all F k P xs p.0 p.2 h.1)
  | inr p ↦ but_all F k P xs left p.2 h.1
]

pub but_length : (F : Observed → Type 0) (k : ℕ) (xs left : List Observed) → AreButSome F k xs left → length left ≤ length xs
but_length F k [] left a = subst (λ zs. length zs ≤ 0) (sym a) (omega arith)
but_length F k (x ∷ xs) left a = elim a [
  | inl p ↦ let le = but_length F k xs p.0 p.2 in subst (λ zs. length zs ≤ suc (length xs)) (sym p.1) (omega (arith, le))
  | inr p ↦ let le = but_length F k xs left p.2 in omega (arith, le)
]

pub but_filter : (F : Observed → Type 0) (k : ℕ) (test : Observed → Bool) (xs ys : List Observed) → AreButSome F k xs ys → AreButSome F k (filter test xs) (filter test ys)
but_filter F k test [] ys a = subst (λ zs. AreButSome F k [] (filter test zs)) (sym a) refl
but_filter F k test (x ∷ xs) ys a = elim (test x) as (λ b. test x ≡ b → AreButSome F k (cond b (x ∷ filter test xs) (filter test xs)) (filter test ys)) [
  | true ↦ λ e. elim a [
    | inl p ↦ inl (filter test p.0, ap (filter test) p.1 ∙ ap (λ b. cond b (x ∷ filter test p.0) (filter test p.0)) e, but_filter F k test xs p.0 p.2)
    | inr p ↦ inr (p.0, p.1, but_filter F k test xs ys p.2)
  ]
  | false ↦ λ e. elim a [
    | inl p ↦ subst (AreButSome F k (filter test xs)) (sym (ap (filter test) p.1 ∙ ap (λ b. cond b (x ∷ filter test p.0) (filter test p.0)) e)) (but_filter F k test xs p.0 p.2)
    | inr p ↦ but_filter F k test xs ys p.2
  ]
] refl

-- ---- twice without some
-- `ys` are the calls without some asked before the time k, and what may be left out of `ys`, asked before m, may be left out
abbrev pub AreWithin : (Observed → Type 0) → ℕ → ℕ → List Observed → List Observed → Type 0
AreWithin F k m [] ys = ys ≡ []
AreWithin F k m (x ∷ xs) ys = ((rest : List Observed) × (ys ≡ x ∷ rest) × (x.asked < m → F x → x.asked < k) × AreWithin F k m xs rest)
    ⊎ ((x.asked < k) × F x × AreWithin F k m xs ys)

pub within_but : (F : Observed → Type 0) (k m : ℕ) (xs ys zs : List Observed) → AreWithin F k m xs ys → AreButSome F m ys zs → AreButSome F k xs zs
within_but F k m [] ys zs w a = subst (λ qs. AreButSome F m qs zs) w a
within_but F k m (x ∷ xs) ys zs w a = elim w [
  | inl p ↦ let b : AreButSome F m (x ∷ p.0) zs = subst (λ qs. AreButSome F m qs zs) p.1 a in elim b [
    | inl q ↦ inl (q.0, q.1, within_but F k m xs p.0 q.0 p.3 q.2)
    | inr q ↦ inr (p.2 q.0 q.1, q.1, within_but F k m xs p.0 zs p.3 q.2)
  ]
  | inr p ↦ inr (p.0, p.1, within_but F k m xs ys zs p.2 a)
]

-- one place nearer to the first
pub within_kept : (F : Observed → Type 0) (k m : ℕ) (xs ys : List Observed) (i j : ℕ) (x : Observed) → slice_get xs i ≡ Some x → slice_get ys j ≡ Some x → (x.asked < m → F x → x.asked < k)
    → AreWithin F k m (drop (suc i) xs) (drop (suc j) ys) → AreWithin F k m (drop i xs) (drop j ys)
within_kept F k m xs ys i j x at at' early w =
    subst (λ zs. AreWithin F k m zs (drop j ys)) (sym (drop_at xs i x at)) (inl (drop (suc j) ys, drop_at ys j x at', early, w))

pub within_gone : (F : Observed → Type 0) (k m : ℕ) (xs ys : List Observed) (i : ℕ) (x : Observed) → slice_get xs i ≡ Some x → x.asked < k → F x → AreWithin F k m (drop (suc i) xs) ys → AreWithin F k m (drop i xs) ys
within_gone F k m xs ys i x at early f w = subst (λ zs. AreWithin F k m zs ys) (sym (drop_at xs i x at)) (inr (early, f, w))

pub within_end : (F : Observed → Type 0) (k m : ℕ) (xs ys : List Observed) (i j : ℕ) → length xs ≤ i → length ys ≤ j → AreWithin F k m (drop i xs) (drop j ys)
within_end F k m xs ys i j all all' = subst (λ zs. AreWithin F k m zs (drop j ys)) (sym (none_left xs i all)) (none_left ys j all')
  where
    none_left : (zs : List Observed) (n : ℕ) → length zs ≤ n → drop n zs ≡ []
    none_left [] zero le = refl
    none_left [] (suc n) le = refl
    none_left (z ∷ zs) zero le = absurd (omega (arith, le))
    none_left (z ∷ zs) (suc n) le = none_left zs n (omega (arith, le))

-- ---- without the one at a place
pub removed_length : (xs : List Observed) (i : ℕ) → i < length xs → suc (length (remove xs i)) ≡ length xs
removed_length [] i lt = absurd (omega (arith, lt))
removed_length (x ∷ xs) zero lt = refl
removed_length (x ∷ xs) (suc i) lt = ap suc (removed_length xs i (omega (arith, lt)))

pub get_inside : (xs : List Observed) (i : ℕ) (x : Observed) → slice_get xs i ≡ Some x → i < length xs
get_inside [] i x e = absurd cc
get_inside (y ∷ ys) zero x e = omega arith
get_inside (y ∷ ys) (suc i) x e = let lt = get_inside ys i x e in omega (arith, lt)

module _ (F : Observed → Type 0) (k : ℕ) where
  -- one of them is one of all, and without it they are all without it but the same
  pub but_chosen : (xs ys : List Observed) (x : Observed) (left : List Observed) → AreButSome F k xs ys → Chooses ys x left
      → (i : ℕ) × (i < length xs) × (slice_get xs i ≡ Some x) × AreButSome F k (remove xs i) left
  but_chosen [] ys x left a c = absurd (subst (λ qs. Chooses qs x left) a c)
  but_chosen (y ∷ xs) ys x left a c = elim a [
    | inl p ↦ let d : Chooses (y ∷ p.0) x left = subst (λ qs. Chooses qs x left) p.1 c in elim d [
      | inl e ↦ (0, omega arith, ap Some (sym e.0), subst (AreButSome F k xs) (sym e.1) p.2)
      | inr r ↦ let go = but_chosen xs p.0 x r.0 p.2 r.2 in let lt = go.1 in (suc go.0, omega (arith, lt), go.2, inl (r.0, r.1, go.3))
    ]
    | inr p ↦ let go = but_chosen xs ys x left p.2 c in let lt = go.1 in (suc go.0, omega (arith, lt), go.2, inr (p.0, p.1, go.3))
  ]

  -- and back
  pub but_put : (xs : List Observed) (i : ℕ) (x : Observed) (left : List Observed) → slice_get xs i ≡ Some x → AreButSome F k (remove xs i) left → (ys : List Observed) × AreButSome F k xs ys × Chooses ys x left
  but_put [] i x left at a = absurd cc
  but_put (y ∷ xs) zero x left at a = let is : y ≡ x = cc in (y ∷ left, inl (left, refl, a), inl (sym is, refl))
  but_put (y ∷ xs) (suc i) x left at a = elim a [
    | inl p ↦ let go = but_put xs i x p.0 at p.2 in (y ∷ go.0, inl (go.0, refl, go.1), inr (p.0, p.1, go.2))
    | inr p ↦ let go = but_put xs i x left at p.2 in (go.0, inr (p.0, p.1, go.1), go.2)
  ]

  -- the same call is chosen where some of the others are left out
  pub but_chooses : (big : List Observed) (x : Observed) (others : List Observed) → Chooses big x others → (left : List Observed) → AreButSome F k others left → (put : List Observed) × AreButSome F k big put × Chooses put x left
  but_chooses [] x others c left a = absurd c
  but_chooses (y ∷ ys) x others c left a = elim c [
    | inl p ↦ (y ∷ left, inl (left, refl, subst (λ zs. AreButSome F k zs left) p.1 a), inl (p.0, refl))
    | inr p ↦ let own : AreButSome F k (y ∷ p.0) left = subst (λ zs. AreButSome F k zs left) p.1 a in elim own [
      | inl q ↦ let go = but_chooses ys x p.0 p.2 q.0 q.2 in (y ∷ go.0, inl (go.0, refl, go.1), inr (q.0, q.1, go.2))
      | inr q ↦ let go = but_chooses ys x p.0 p.2 left q.2 in (go.0, inr (q.0, q.1, go.1), go.2)
    ]
  ]

  -- a call that is left out
  pub but_gone : (asked : ℕ) (xs : List Observed) (i : ℕ) (x : Observed) (ys : List Observed) → slice_get xs i ≡ Some x → x.asked ≡ asked → NoneAskedAt asked ys → AreButSome F k xs ys → (x.asked < k) × F x × AreButSome F k (remove xs i) ys
  but_gone asked [] i x ys at is none a = absurd cc
  but_gone asked (y ∷ xs) zero x ys at is none a =
      let one : y ≡ x = cc in
      elim a [
        | inl p ↦ let others : NoneAskedAt asked (y ∷ p.0) = subst (NoneAskedAt asked) p.1 none in absurd (others.0 (ap (λ (z : Observed). z.asked) one ∙ is))
        | inr p ↦ (subst (λ (z : Observed). z.asked < k) one p.0, subst F one p.1, p.2)
      ]
  but_gone asked (y ∷ xs) (suc i) x ys at is none a = elim a [
    | inl p ↦
        let others : NoneAskedAt asked (y ∷ p.0) = subst (NoneAskedAt asked) p.1 none in
        let go = but_gone asked xs i x p.0 at is others.1 p.2 in
        (go.0, go.1, inl (p.0, p.1, go.2))
    | inr p ↦ let go = but_gone asked xs i x ys at is none p.2 in (go.0, go.1, inr (p.0, p.1, go.2))
  ]

  pub but_back : (xs : List Observed) (i : ℕ) (x : Observed) (ys : List Observed) → slice_get xs i ≡ Some x → x.asked < k → F x → AreButSome F k (remove xs i) ys → AreButSome F k xs ys
  but_back [] i x ys at early f a = absurd cc
  but_back (y ∷ xs) zero x ys at early f a = let one : y ≡ x = cc in inr (subst (λ (z : Observed). z.asked < k) (sym one) early, subst F (sym one) f, a)
  but_back (y ∷ xs) (suc i) x ys at early f a = elim a [
    | inl p ↦ inl (p.0, p.1, but_back xs i x p.0 at early f p.2)
    | inr p ↦ inr (p.0, p.1, but_back xs i x ys at early f p.2)
  ]

-- ---- times
asked_other : (F : Observed → Type 0) (k asked : ℕ) (xs ys : List Observed) → AllByRecursion (λ (z : Observed). z.asked ≡ asked → ⊥) xs → AreButSome F k xs ys → AreButSome (λ x. F x × (x.asked ≡ asked → ⊥)) k xs ys
asked_other F k asked [] ys none a = a
asked_other F k asked (x ∷ xs) ys none a = elim a [
  | inl p ↦ inl (p.0, p.1, asked_other F k asked xs p.0 none.1 p.2)
  | inr p ↦ inr (p.0, (p.1, none.0), asked_other F k asked xs ys none.1 p.2)
]

-- a call that is there isn't left out
pub but_apart : (F : Observed → Type 0) (k asked : ℕ) (z : Observed) → z.asked ≡ asked → (xs ys : List Observed) → AreAskedApart xs → IsIn z ys → AreButSome F k xs ys → AreButSome (λ x. F x × (x.asked ≡ asked → ⊥)) k xs ys
but_apart F k asked z is [] ys apart there a = a
but_apart F k asked z is (x ∷ xs) ys apart there a = elim a [
  | inl p ↦
      let in_rest : IsIn z (x ∷ p.0) = subst (IsIn z) p.1 there in
      elim in_rest [
        | inl e ↦
            let same : x.asked ≡ asked = ap (λ (w : Observed). w.asked) (sym e) ∙ is in
            inl (p.0, p.1, asked_other F k asked xs p.0 (all_in (λ (w : Observed). w.asked ≡ asked → ⊥) xs (λ w h k. in_all (λ (v : Observed). x.asked ≡ v.asked → ⊥) w xs apart.0 h (same ∙ sym k))) p.2)
        | inr q ↦ inl (p.0, p.1, but_apart F k asked z is xs p.0 apart.1 q p.2)
      ]
  | inr p ↦ inr (p.0, (p.1, λ same. in_all (λ (v : Observed). x.asked ≡ v.asked → ⊥) z xs apart.0 (but_in F k xs ys p.2 z there) (same ∙ sym is)), but_apart F k asked z is xs ys apart.1 there p.2)
]

pub but_none : (F : Observed → Type 0) (k asked : ℕ) (xs ys : List Observed) → AreButSome (λ x. F x × (x.asked ≡ asked → ⊥)) k xs ys → NoneAskedAt asked ys → NoneAskedAt asked xs
but_none F k asked [] ys a none = tt
but_none F k asked (x ∷ xs) ys a none = elim a [
  | inl p ↦ let others : NoneAskedAt asked (x ∷ p.0) = subst (NoneAskedAt asked) p.1 none in (others.0, but_none F k asked xs p.0 p.2 others.1)
  | inr p ↦ (p.1.1, but_none F k asked xs ys p.2 none)
]

pub removed_none : (xs : List Observed) (i : ℕ) (x : Observed) → AreAskedApart xs → slice_get xs i ≡ Some x → NoneAskedAt x.asked (remove xs i)
removed_none [] i x apart at = absurd cc
removed_none (y ∷ xs) zero x apart at =
    let one : y ≡ x = cc in
    all_in (λ (w : Observed). w.asked ≡ x.asked → ⊥) xs (λ w h k. in_all (λ (v : Observed). y.asked ≡ v.asked → ⊥) w xs apart.0 h (ap (λ (v : Observed). v.asked) one ∙ sym k))
removed_none (y ∷ xs) (suc i) x apart at = (
  in_all (λ (v : Observed). y.asked ≡ v.asked → ⊥) x xs apart.0 (get_in xs i x at),
  removed_none xs i x apart.1 at,
)
  where
    get_in : (zs : List Observed) (j : ℕ) (z : Observed) → slice_get zs j ≡ Some z → IsIn z zs
    get_in [] j z e = absurd cc
    get_in (w ∷ ws) zero z e = let is : w ≡ z = cc in inl (sym is)
    get_in (w ∷ ws) (suc j) z e = inr (get_in ws j z e)

all_removed : (P : Observed → Type 0) (xs : List Observed) (i : ℕ) → AllByRecursion P xs → AllByRecursion P (remove xs i)
all_removed P [] zero h = tt
all_removed P [] (suc i) h = tt
all_removed P (y ∷ ys) zero h = h.1
all_removed P (y ∷ ys) (suc i) h = (h.0, all_removed P ys i h.1)

pub removed_apart : (xs : List Observed) (i : ℕ) → AreAskedApart xs → AreAskedApart (remove xs i)
removed_apart [] zero h = tt
removed_apart [] (suc i) h = tt
removed_apart (y ∷ ys) zero h = h.1
removed_apart (y ∷ ys) (suc i) h = (all_removed (λ (z : Observed). y.asked ≡ z.asked → ⊥) ys i h.0, removed_apart ys i h.1)

all_left : (P : Observed → Type 0) (u : Database) (xs left : List Observed) → AreLeft u xs left → AllByRecursion P xs → AllByRecursion P left
all_left P u [] left a h = subst (AllByRecursion P) (sym a) tt
all_left P u (x ∷ xs) left a h = elim a [
  | inl k ↦ all_left P u xs left k.1 h.1
  | inr k ↦ subst (AllByRecursion P) (sym k.1.1) (h.0, all_left P u xs k.1.0 k.1.2 h.1)
]

pub left_apart : (u : Database) (xs left : List Observed) → AreLeft u xs left → AreAskedApart xs → AreAskedApart left
left_apart u [] left a h = subst AreAskedApart (sym a) tt
left_apart u (x ∷ xs) left a h = elim a [
  | inl k ↦ left_apart u xs left k.1 h.1
  | inr k ↦ subst AreAskedApart (sym k.1.1) (all_left (λ (z : Observed). x.asked ≡ z.asked → ⊥) u xs k.1.0 k.1.2 h.0, left_apart u xs k.1.0 k.1.2 h.1)
]

-- ---- reads that fit
-- they go out of both
pub but_left : (u : Database) (F : Observed → Type 0) (k : ℕ) (xs left ys others : List Observed) → AreLeft u xs left → AreButSome F k xs ys → AreLeft u ys others → AreButSome F k left others
but_left u F k [] left ys others a b l =
    let none : AreLeft u [] others = subst (λ qs. AreLeft u qs others) b l in
    subst (λ qs. AreButSome F k qs others) (sym a) none
but_left u F k (x ∷ xs) left ys others a b l = elim a [
  | inl h ↦ elim b [
    | inl p ↦
        let own : AreLeft u (x ∷ p.0) others = subst (λ qs. AreLeft u qs others) p.1 l in
        elim own [ inl q ↦ but_left u F k xs left p.0 others h.1 p.2 q.1 | inr q ↦ absurd (q.0 h.0) ]
    | inr p ↦ but_left u F k xs left ys others h.1 p.2 l
  ]
  | inr h ↦ subst (λ qs. AreButSome F k qs others) (sym h.1.1) (elim b [
    | inl p ↦
        let own : AreLeft u (x ∷ p.0) others = subst (λ qs. AreLeft u qs others) p.1 l in
        elim own [ inl q ↦ absurd (h.0 q.0) | inr q ↦ inl (q.1.0, q.1.1, but_left u F k xs h.1.0 p.0 q.1.0 h.1.2 p.2 q.1.2) ]
    | inr p ↦ inr (p.0, p.1, but_left u F k xs h.1.0 ys others h.1.2 p.2 l)
  ])
]

-- those that are left out went before the reads
pub left_but : (u : Database) (F : Observed → Type 0) (k : ℕ) (xs left zs : List Observed) → AreLeft u xs left → AreButSome F k left zs → (ys : List Observed) × AreButSome F k xs ys × AreLeft u ys zs
left_but u F k [] left zs a b = let none : AreButSome F k [] zs = subst (λ qs. AreButSome F k qs zs) a b in ([], refl, none)
left_but u F k (x ∷ xs) left zs a b = elim a [
  | inl h ↦ let go = left_but u F k xs left zs h.1 b in (x ∷ go.0, inl (go.0, refl, go.1), inl (h.0, go.2))
  | inr h ↦
      let c : AreButSome F k (x ∷ h.1.0) zs = subst (λ qs. AreButSome F k qs zs) h.1.1 b in
      elim c [
        | inl p ↦ let go = left_but u F k xs h.1.0 p.0 h.1.2 p.2 in (x ∷ go.0, inl (go.0, refl, go.1), inr (h.0, (p.0, p.1, go.2)))
        | inr p ↦ let go = left_but u F k xs h.1.0 zs h.1.2 p.2 in (go.0, inr (p.0, p.1, go.1), go.2)
      ]
]
