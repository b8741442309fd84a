-- Which extents and logs have a number.
use Rattle.std.proofs.Common.{◌≡◌, ℕ, zero, suc, ◌+◌, ◌<◌, ◌≤◌, ◌==◌, Bool, true, false, cond, ◌||◌, List, [], ◌∷◌, ◌++◌, map, length, filter, count_by, sum_by, All, Option, Some, None, slice_get, refl, sym, ◌∙◌, ap, arith, zero-add, add-one}
use Rattle.std.specs.List.{flat_map, list_any}
use Rattle.std.specs.Option.{option_to_list, is_some}
use Rattle.std.proofs.lemmas.Bool.{ne_eqb, eq-eqb}
use Rattle.std.proofs.lemmas.List.{append_assoc, length-append}
use Rattle.std.proofs.lemmas.List.Elements.{filter-append, All-head, All-tail}
use Rattle.std.proofs.lemmas.List.Sums.{length-filter, sum_by-cons}
use Rattle.std.proofs.lemmas.List.Concat.{length-flat_map}
use Rattle.tatp_extents.specs.Extents.{ExtentState}
use Rattle.tatp_extents.specs.Chapters.{ChapterState}
use Rattle.tatp_partition.specs.Sites.{SiteState, slot}
use Rattle.tatp_partition.specs.Sound.{IsSite}
use Rattle.tatp_settle.specs.Closings.{ClosedSiteState, ClosedState, ExtentLog, extents_in_slots, extents_of, log_of_homeless, log_of_extent, times_standing, is_here, closed_site, closed_of, IsClosedSite, extents_at}
use Rattle.tatp_settle.proofs.ClosingLaws.{are_closed_sites}

-- the extents in slots have the numbers of their slots, counted from k
abbrev pub AreNumberedFrom : ℕ → List (Option ExtentState) → Type 0
AreNumberedFrom k slots = (i : ℕ) (x : ExtentState) → slice_get slots i ≡ Some (Some x) → x.number ≡ k + i

abbrev pub has_number : ℕ → ExtentState → Bool
has_number e x = x.number == e

next_numbered : (k : ℕ) (v : Option ExtentState) (slots : List (Option ExtentState)) → AreNumberedFrom k (v ∷ slots) → AreNumberedFrom (k + 1) slots
next_numbered k v slots n i x h = let m = n (suc i) x h in omega (arith, m)

kept : (e : ℕ) (x : ExtentState) (xs : List ExtentState) → x.number ≡ e → filter (has_number e) (x ∷ xs) ≡ x ∷ filter (has_number e) xs
kept e x xs h = ap (λ (b : Bool). cond b (x ∷ filter (has_number e) xs) (filter (has_number e) xs)) (eq-eqb x.number e h)

left_out : (e : ℕ) (x : ExtentState) (xs : List ExtentState) → (x.number ≡ e → ⊥) → filter (has_number e) (x ∷ xs) ≡ filter (has_number e) xs
left_out e x xs h = ap (λ (b : Bool). cond b (x ∷ filter (has_number e) xs) (filter (has_number e) xs)) (ne_eqb x.number e h)

before_slots : (slots : List (Option ExtentState)) (k e : ℕ) → e < k → AreNumberedFrom k slots → filter (has_number e) (extents_in_slots slots) ≡ []
before_slots [] k e l n = refl
before_slots (None ∷ slots) k e l n = before_slots slots (k + 1) e (omega (arith, l)) (next_numbered k None slots n)
before_slots (Some x ∷ slots) k e l n =
    left_out e x (extents_in_slots slots) (λ s. let m = n 0 x refl in omega (arith, l, m, s)) ∙ before_slots slots (k + 1) e (omega (arith, l)) (next_numbered k (Some x) slots n)

-- at most one extent in the slots has the number
pub in_slots : (slots : List (Option ExtentState)) (k j : ℕ) → AreNumberedFrom k slots → filter (has_number (k + j)) (extents_in_slots slots) ≡ option_to_list (slot slots j)
in_slots [] k j n = refl
in_slots (None ∷ slots) k zero n = before_slots slots (k + 1) (k + 0) (omega arith) (next_numbered k None slots n)
in_slots (Some x ∷ slots) k zero n =
    kept (k + 0) x (extents_in_slots slots) (n 0 x refl) ∙ ap (λ (xs : List ExtentState). x ∷ xs) (before_slots slots (k + 1) (k + 0) (omega arith) (next_numbered k (Some x) slots n))
in_slots (None ∷ slots) k (suc j) n =
    let e : k + suc j ≡ (k + 1) + j = omega arith in
    ap (λ (m : ℕ). filter (has_number m) (extents_in_slots slots)) e ∙ in_slots slots (k + 1) j (next_numbered k None slots n)
in_slots (Some x ∷ slots) k (suc j) n =
    let e : k + suc j ≡ (k + 1) + j = omega arith in
    left_out (k + suc j) x (extents_in_slots slots) (λ s. let m = n 0 x refl in omega (arith, m, s))
    ∙ (ap (λ (m : ℕ). filter (has_number m) (extents_in_slots slots)) e ∙ in_slots slots (k + 1) j (next_numbered k (Some x) slots n))

numbered_site : (s : ClosedSiteState) → IsClosedSite s → AreNumberedFrom 0 s.slots
numbered_site s h i x g = h.numbered i x g ∙ sym (zero-add i)

-- what a site has under a number
abbrev pub here : ℕ → ClosedSiteState → List ExtentState
here e s = option_to_list (slot s.slots e)

pub in_site : (s : ClosedSiteState) (e : ℕ) → IsClosedSite s → filter (has_number e) (extents_in_slots s.slots) ≡ here e s
in_site s e h = ap (λ (n : ℕ). filter (has_number n) (extents_in_slots s.slots)) (sym (zero-add e)) ∙ in_slots s.slots 0 e (numbered_site s h)

-- what sites and parcels have under a number
pub in_sites : (sites : List ClosedSiteState) (parcels : List ExtentState) (e : ℕ) → All IsClosedSite sites
    → filter (has_number e) (extents_at sites ++ parcels) ≡ flat_map (here e) sites ++ filter (has_number e) parcels
in_sites [] parcels e all = refl
in_sites (s ∷ sites) parcels e all =
    ap (filter (has_number e)) (append_assoc (extents_in_slots s.slots) (extents_at sites) parcels)
    ∙ filter-append (has_number e) (extents_in_slots s.slots) (extents_at sites ++ parcels)
    ∙ (λ i. in_site s e (All-head IsClosedSite s sites all) i ++ in_sites sites parcels e (All-tail IsClosedSite s sites all) i)
    ∙ sym (append_assoc (here e s) (flat_map (here e) sites) (filter (has_number e) parcels))

-- ---- how often a number stands
pub count_cons : {A : Type 0} (p : A → Bool) (x : A) (xs : List A) → count_by p (x ∷ xs) ≡ cond (p x) 1 0 + count_by p xs
count_cons p x xs = sum_by-cons (λ y. cond (p y) 1 0) x xs

count_mapped : {A B : Type 0} (q : B → Bool) (f : A → B) (xs : List A) → count_by q (map f xs) ≡ count_by (λ x. q (f x)) xs
count_mapped q f [] = refl
count_mapped q f (x ∷ xs) = count_cons q (f x) (map f xs) ∙ (ap (λ n. cond (q (f x)) 1 0 + n) (count_mapped q f xs) ∙ sym (count_cons (λ y. q (f y)) x xs))

count_joined : {A : Type 0} (p : A → Bool) (xs ys : List A) → count_by p (xs ++ ys) ≡ count_by p xs + count_by p ys
count_joined p xs ys = sym (length-filter p (xs ++ ys)) ∙ (ap length (filter-append p xs ys) ∙ (length-append (filter p xs) (filter p ys) ∙ (λ i. length-filter p xs i + length-filter p ys i)))

-- how many logs of calls without a home a site adds to those of a number, how many extents, and how many of both
abbrev homeless_of : ℕ → ClosedSiteState → ℕ
homeless_of e s = cond (s.partition == 0) (cond (0 == e) 1 0) 0

abbrev pub standing_of : ℕ → ClosedSiteState → ℕ
standing_of e s = cond (is_here s e) 1 0

homeless_one : (e : ℕ) (s : ClosedSiteState) (b : Bool) (rest : List ClosedSiteState)
    → count_by (λ (log : ExtentLog). log.extent == e) (map log_of_homeless (cond b (s ∷ rest) rest)) ≡ cond b (cond (0 == e) 1 0) 0 + count_by (λ (log : ExtentLog). log.extent == e) (map log_of_homeless rest)
homeless_one e s true rest = count_cons (λ (log : ExtentLog). log.extent == e) (log_of_homeless s) (map log_of_homeless rest)
homeless_one e s false rest = sym (zero-add _)

homeless_counted : (e : ℕ) (sites : List ClosedSiteState) → count_by (λ (log : ExtentLog). log.extent == e) (map log_of_homeless (filter (λ (s : ClosedSiteState). s.partition == 0) sites)) ≡ sum_by (homeless_of e) sites
homeless_counted e [] = refl
homeless_counted e (s ∷ sites) =
    homeless_one e s (s.partition == 0) (filter (λ (s : ClosedSiteState). s.partition == 0) sites) ∙ (ap (λ n. homeless_of e s + n) (homeless_counted e sites) ∙ sym (sum_by-cons (homeless_of e) s sites))

here_counted : (e : ℕ) (sites : List ClosedSiteState) → length (flat_map (here e) sites) ≡ sum_by (λ (s : ClosedSiteState). length (here e s)) sites
here_counted e sites = length-flat_map (here e) sites

-- no extent has the number 0
pub none_at_zero : (s : ClosedSiteState) → IsClosedSite s → slot s.slots 0 ≡ None
none_at_zero s h = by s.slots refl
  where
    by : (slots : List (Option ExtentState)) → s.slots ≡ slots → slot slots 0 ≡ None
    by [] is = refl
    by (None ∷ slots) is = refl
    by (Some x ∷ slots) is =
        let has : slice_get s.slots 0 ≡ Some (Some x) = ap (λ (l : List (Option ExtentState)). slice_get l 0) is in
        let number = h.numbered 0 x has in
        let least = (h.extents 0 x has).of_extent.numbered in
        absurd (omega (arith, number, least))

both_zero : (p : Bool) → cond {A = ℕ} p 1 0 + 0 ≡ cond p 1 0
both_zero true = refl
both_zero false = refl

both_later : (p z z' : Bool) (v : Option ExtentState) → z ≡ false → z' ≡ false → cond {A = ℕ} p (cond z 1 0) 0 + length (option_to_list v) ≡ cond (cond z' p (is_some v)) 1 0
both_later p true z' v h h' = absurd cc
both_later p false true v h h' = absurd cc
both_later true false false None h h' = refl
both_later true false false (Some x) h h' = refl
both_later false false false None h h' = refl
both_later false false false (Some x) h h' = refl

above_zero : (e : ℕ) → suc e ≡ 0 → ⊥
above_zero e z = let k : e + 1 ≡ 0 = add-one e ∙ z in omega (arith, k)

both_of : (s : ClosedSiteState) (e : ℕ) → IsClosedSite s → homeless_of e s + length (here e s) ≡ standing_of e s
both_of s zero h = ap (λ (v : Option ExtentState). cond {A = ℕ} (s.partition == 0) 1 0 + length (option_to_list v)) (none_at_zero s h) ∙ both_zero (s.partition == 0)
both_of s (suc e) h = both_later (s.partition == 0) (0 == suc e) (suc e == 0) (slot s.slots (suc e)) (ne_eqb 0 (suc e) (λ z. above_zero e (sym z))) (ne_eqb (suc e) 0 (above_zero e))

sums : (e : ℕ) (sites : List ClosedSiteState) → All IsClosedSite sites → sum_by (homeless_of e) sites + sum_by (λ (s : ClosedSiteState). length (here e s)) sites ≡ sum_by (standing_of e) sites
sums e [] all = refl
sums e (s ∷ sites) all =
    let one = both_of s e (All-head IsClosedSite s sites all) in
    let rest = sums e sites (All-tail IsClosedSite s sites all) in
    let a = sum_by-cons (homeless_of e) s sites in
    let b = sum_by-cons (λ (s : ClosedSiteState). length (here e s)) s sites in
    let d = sum_by-cons (standing_of e) s sites in
    omega (arith, one, rest, a, b, d)

-- a number stands once for each log of calls without a home that has it, and for each extent
times_of_logs : (c : ClosedState) (e : ℕ) → times_standing c e ≡ sum_by (homeless_of e) c.sites + count_by (has_number e) (extents_of c)
times_of_logs c e =
    count_joined (λ (log : ExtentLog). log.extent == e) (map log_of_homeless (filter (λ (s : ClosedSiteState). s.partition == 0) c.sites)) (map log_of_extent (extents_of c))
    ∙ (λ i. homeless_counted e c.sites i + count_mapped (λ (log : ExtentLog). log.extent == e) log_of_extent (extents_of c) i)

-- a number stands once for each site where it does, and for each parcel
pub times_standing_is : (c : ClosedState) (e : ℕ) → All IsClosedSite c.sites → times_standing c e ≡ sum_by (standing_of e) c.sites + count_by (has_number e) c.parcels
times_standing_is c e all =
    let joined = times_of_logs c e in
    let kept : count_by (has_number e) (extents_of c) ≡ length (flat_map (here e) c.sites ++ filter (has_number e) c.parcels) = sym (length-filter (has_number e) (extents_of c)) ∙ ap length (in_sites c.sites c.parcels e all) in
    let parts = length-append (flat_map (here e) c.sites) (filter (has_number e) c.parcels) in
    let at_sites = here_counted e c.sites in
    let at_parcels = length-filter (has_number e) c.parcels in
    let both = sums e c.sites all in
    omega (arith, joined, kept, parts, at_sites, at_parcels, both)

cond_zero : (p : Bool) → cond {A = ℕ} p 0 0 ≡ 0
cond_zero true = refl
cond_zero false = refl

no_homeless : (e : ℕ) (sites : List ClosedSiteState) → 1 ≤ e → sum_by (homeless_of e) sites ≡ 0
no_homeless e [] l = refl
no_homeless e (s ∷ sites) l =
    let rest = no_homeless e sites l in
    let cons = sum_by-cons (homeless_of e) s sites in
    let none : homeless_of e s ≡ 0 = ap (λ (b : Bool). cond {A = ℕ} (s.partition == 0) (cond b 1 0) 0) (ne_eqb 0 e (λ z. omega (arith, l, z))) ∙ cond_zero (s.partition == 0) in
    omega (arith, rest, cons, none)

-- a number that no extent has doesn't stand
pub none_standing : (c : ClosedState) (e : ℕ) → 1 ≤ e → filter (has_number e) (extents_of c) ≡ [] → times_standing c e ≡ 0
none_standing c e l none =
    let joined = times_of_logs c e in
    let homeless = no_homeless e c.sites l in
    let extents : count_by (has_number e) (extents_of c) ≡ 0 = sym (length-filter (has_number e) (extents_of c)) ∙ ap length none in
    omega (arith, joined, homeless, extents)

abbrev pub IsCounted : {A : Type 0} → (A → Bool) → List A → Type 0
IsCounted p xs = (list_any p xs ≡ true → 1 ≤ count_by p xs) × (list_any p xs ≡ false → count_by p xs ≡ 0)

one_counted : {A : Type 0} (p : A → Bool) (x : A) (xs : List A) → IsCounted p xs → (b : Bool) → p x ≡ b → ((b || list_any p xs) ≡ true → 1 ≤ count_by p (x ∷ xs)) × ((b || list_any p xs) ≡ false → count_by p (x ∷ xs) ≡ 0)
one_counted p x xs rest true is = (λ h. let e : count_by p (x ∷ xs) ≡ 1 + count_by p xs = count_cons p x xs ∙ ap (λ b. cond b 1 0 + count_by p xs) is in omega (arith, e), λ h. absurd cc)
one_counted p x xs rest false is =
    let e : count_by p (x ∷ xs) ≡ 0 + count_by p xs = count_cons p x xs ∙ ap (λ b. cond b 1 0 + count_by p xs) is in
    (λ h. let m = rest.0 h in omega (arith, e, m), λ h. let m = rest.1 h in omega (arith, e, m))

pub any_counted : {A : Type 0} (p : A → Bool) (xs : List A) → IsCounted p xs
any_counted p [] = (λ h. absurd cc, λ h. refl)
any_counted p (x ∷ xs) = one_counted p x xs (any_counted p xs) (p x) refl

-- whether a number stands at a site or in a parcel
abbrev pub stands_anywhere : ℕ → List ClosedSiteState → List ExtentState → Bool
stands_anywhere e sites parcels = list_any (λ s. is_here s e) sites || list_any (has_number e) parcels

pub stands_counted : (c : ClosedState) (e : ℕ) → All IsClosedSite c.sites → (stands_anywhere e c.sites c.parcels ≡ true → times_standing c e ≡ 0 → ⊥) × (stands_anywhere e c.sites c.parcels ≡ false → times_standing c e ≡ 0)
stands_counted c e all = by (list_any (λ s. is_here s e) c.sites) (list_any (has_number e) c.parcels) refl refl
  where
    is : times_standing c e ≡ sum_by (standing_of e) c.sites + count_by (has_number e) c.parcels
    is = times_standing_is c e all

    at_sites : (list_any (λ s. is_here s e) c.sites ≡ true → 1 ≤ sum_by (standing_of e) c.sites) × (list_any (λ s. is_here s e) c.sites ≡ false → sum_by (standing_of e) c.sites ≡ 0)
    at_sites = any_counted (λ s. is_here s e) c.sites

    at_parcels : (list_any (has_number e) c.parcels ≡ true → 1 ≤ count_by (has_number e) c.parcels) × (list_any (has_number e) c.parcels ≡ false → count_by (has_number e) c.parcels ≡ 0)
    at_parcels = any_counted (has_number e) c.parcels

    by : (a b : Bool) → list_any (λ s. is_here s e) c.sites ≡ a → list_any (has_number e) c.parcels ≡ b → ((a || b) ≡ true → times_standing c e ≡ 0 → ⊥) × ((a || b) ≡ false → times_standing c e ≡ 0)
    by true b p q = (λ h z. let m = at_sites.0 p in omega (arith, is, m, z), λ h. absurd cc)
    by false true p q = (λ h z. let m = at_parcels.0 q in omega (arith, is, m, z), λ h. absurd cc)
    by false false p q = (λ h. absurd cc, λ h. let m = at_sites.1 p in let n = at_parcels.1 q in omega (arith, is, m, n))

any_mapped : {A B : Type 0} (p : B → Bool) (f : A → B) (xs : List A) → list_any (λ x. p (f x)) xs ≡ list_any p (map f xs)
any_mapped p f [] = refl
any_mapped p f (x ∷ xs) = ap (λ b. p (f x) || b) (any_mapped p f xs)

-- of sites and parcels that are yet to be gathered
pub stands_gathered : (sites : List SiteState) (parcels : List ExtentState) (chapters : List ChapterState) (e : ℕ) (b : Bool) → All IsSite sites → b ≡ (list_any (λ (s : SiteState). is_here (closed_site s) e) sites || list_any (has_number e) parcels)
    → (b ≡ true → times_standing (closed_of sites parcels chapters) e ≡ 0 → ⊥) × (b ≡ false → times_standing (closed_of sites parcels chapters) e ≡ 0)
stands_gathered sites parcels chapters e b all is =
    let same : b ≡ stands_anywhere e (map closed_site sites) parcels = is ∙ ap (λ a. a || list_any (has_number e) parcels) (any_mapped (λ s. is_here s e) closed_site sites) in
    let counted = stands_counted (closed_of sites parcels chapters) e (are_closed_sites sites all) in
    (λ h. counted.0 (sym same ∙ h), λ h. counted.1 (sym same ∙ h))
