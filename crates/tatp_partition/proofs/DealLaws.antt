-- Extents dealt to the sites of all partitions, the last first.
use Rattle.std.proofs.Common.{◌≡◌, ℕ, ◌+◌, ◌≤◌, ◌==◌, Bool, true, false, cond, List, [], ◌∷◌, ◌++◌, length, filter, Some, None, slice_get, refl, sym, ◌∙◌, ap, subst, inl, inr, arith}
use Rattle.std.proofs.Math.ListN.{length-set}
use Rattle.std.proofs.lemmas.List.{append-nil}
use Rattle.std.proofs.lemmas.Bool.{eq-eqb}
use Rattle.tatp_encoding.specs.Modules.{ModuleState}
use Rattle.tatp_extents.specs.Extents.{ExtentState}
use Rattle.tatp_partition.specs.Opening.{AreNumbered, extent_numbered, opened_site}
use Rattle.tatp_partition.specs.Sites.{SiteState}
use Rattle.tatp_partition.specs.Sound.{IsSite}
use Rattle.tatp_partition.specs.Moving.{with_extent, HasPlaceFor}
use Rattle.tatp_partition.specs.Dealing.{opening_partition, opens_in, dealt_to, IsSiteDealt, AreSitesDealt, LandsAt}
use Rattle.tatp_partition.proofs.ListLaws.{differs, set_cases}
use Rattle.tatp_partition.proofs.OpenLaws.{together, its_range, is_new, empty_place, one_more_in_places}

-- ---- a number that none of these has none of those dealt to a partition has
none_of_one : (f : ExtentState → Bool) (x : ExtentState) (xs : List ExtentState) (e : ℕ) (same passes : Bool) → (x.number == e) ≡ same → cond same (Some x) (extent_numbered xs e) ≡ None
    → (extent_numbered xs e ≡ None → extent_numbered (filter f xs) e ≡ None) → extent_numbered (cond passes (x ∷ filter f xs) (filter f xs)) e ≡ None
none_of_one f x xs e true passes s none more = absurd cc
none_of_one f x xs e false true s none more = ap (λ b. cond b (Some x) (extent_numbered (filter f xs) e)) s ∙ more none
none_of_one f x xs e false false s none more = more none

none_of_filtered : (f : ExtentState → Bool) (xs : List ExtentState) (e : ℕ) → extent_numbered xs e ≡ None → extent_numbered (filter f xs) e ≡ None
none_of_filtered f [] e none = refl
none_of_filtered f (x ∷ xs) e none = none_of_one f x xs e (x.number == e) (f x) refl none (λ k. none_of_filtered f xs e k)

-- ---- one site
pub no_extents : (total : ℕ) → AreNumbered total []
no_extents total = record { numbers = λ i x is. absurd cc; differ = λ i j x y is at other. absurd cc }

has_place : (modul : ModuleState) (partitions p total : ℕ) (placed : List ExtentState) (x : ExtentState) (s : SiteState) → IsSiteDealt modul partitions p total placed s → x.number ≤ total → extent_numbered placed x.number ≡ None → HasPlaceFor s x.number
has_place modul partitions p total placed x s h within none =
    ap (λ (t : SiteState). slice_get t.slots x.number) h.fields
    ∙ empty_place (total + 1) x.number (dealt_to partitions p placed) (omega (arith, within)) (none_of_filtered (opens_in partitions p) placed x.number none)

with_one_more : (modul : ModuleState) (partitions p total : ℕ) (placed : List ExtentState) (x : ExtentState) (s : SiteState) → IsSiteDealt modul partitions p total placed s → x.number ≤ total → opens_in partitions p x ≡ true
    → IsSite (with_extent s x.number (Some x)) → IsSiteDealt modul partitions p total (x ∷ placed) (with_extent s x.number (Some x))
with_one_more modul partitions p total placed x s h within opens site =
    let dealt : List ExtentState = dealt_to partitions p placed in
    record {
      site = site;
      fields =
          ap (λ (t : SiteState). with_extent t x.number (Some x)) h.fields
          ∙ ap (λ k. record (opened_site modul p total [] s.standard) { slots = k }) (one_more_in_places (total + 1) x dealt (omega (arith, within)))
          ∙ ap (λ b. opened_site modul p total (cond b (x ∷ dealt) dealt) s.standard) (sym opens);
    }

without_it : (modul : ModuleState) (partitions p total : ℕ) (placed : List ExtentState) (x : ExtentState) (s : SiteState) → IsSiteDealt modul partitions p total placed s → opens_in partitions p x ≡ false → IsSiteDealt modul partitions p total (x ∷ placed) s
without_it modul partitions p total placed x s h opens =
    let dealt : List ExtentState = dealt_to partitions p placed in
    record { site = h.site; fields = h.fields ∙ ap (λ b. opened_site modul p total (cond b (x ∷ dealt) dealt) s.standard) (sym opens) }

-- ---- all sites
one_more : (modul : ModuleState) (partitions p total : ℕ) (placed : List ExtentState) (x : ExtentState) (sites sites' : List SiteState) → AreSitesDealt modul partitions total placed sites → opening_partition partitions x.number ≡ p → x.number ≤ total
    → LandsAt sites p x sites' → AreSitesDealt modul partitions total (x ∷ placed) sites'
one_more modul partitions p total placed x sites sites' h opens within lands =
    let new : SiteState = with_extent lands.before x.number (Some x) in
    subst (AreSitesDealt modul partitions total (x ∷ placed)) (sym lands.after) (record {
      count = length-set sites p new ∙ h.count;
      each = λ q s is. elim (set_cases sites p q new lands.before s lands.there is) as (λ _. IsSiteDealt modul partitions q total (x ∷ placed) s) [
        | inl here ↦
            let its = with_one_more modul partitions p total placed x lands.before (h.each p lands.before lands.there) within (eq-eqb (opening_partition partitions x.number) p opens) lands.site in
            subst (λ (k : ℕ). IsSiteDealt modul partitions k total (x ∷ placed) s) (sym here.0) (subst (IsSiteDealt modul partitions p total (x ∷ placed)) (sym here.1) its)
        | inr there ↦ without_it modul partitions q total placed x s (h.each q s there.1) (differs (opening_partition partitions x.number) q (λ e. there.0 (sym e ∙ opens)))
      ];
    })

-- ---- one extent after another
pub record AreBeingDealt (modul : ModuleState) (partitions : ℕ) (all rest : List ExtentState) (sites : List SiteState) : Type 0 where
  pub placed : List ExtentState
  pub whole : all ≡ rest ++ placed
  pub dealt : AreSitesDealt modul partitions (length all) placed sites

pub none_dealt : (modul : ModuleState) (partitions : ℕ) (all : List ExtentState) (sites : List SiteState) → AreSitesDealt modul partitions (length all) [] sites → AreBeingDealt modul partitions all all sites
none_dealt modul partitions all sites h = record { placed = []; whole = sym (append-nil all); dealt = h }

pub its_place_is_there : (modul : ModuleState) (partitions p : ℕ) (all left rest : List ExtentState) (x : ExtentState) (sites : List SiteState) (s : SiteState) → AreNumbered (length all) all → left ≡ rest ++ x ∷ [] → AreBeingDealt modul partitions all left sites
    → slice_get sites p ≡ Some s → HasPlaceFor s x.number
its_place_is_there modul partitions p all left rest x sites s numbers last h at =
    let whole = together all rest h.placed x (h.whole ∙ ap (λ xs. xs ++ h.placed) last) in
    has_place modul partitions p (length all) h.placed x s (h.dealt.each p s at) (its_range (length all) all rest h.placed x numbers whole).1 (is_new (length all) all rest h.placed x numbers whole)

pub one_more_dealt : (modul : ModuleState) (partitions p : ℕ) (all left rest : List ExtentState) (x : ExtentState) (sites sites' : List SiteState) → AreNumbered (length all) all → left ≡ rest ++ x ∷ [] → AreBeingDealt modul partitions all left sites
    → opening_partition partitions x.number ≡ p → LandsAt sites p x sites' → AreBeingDealt modul partitions all rest sites'
one_more_dealt modul partitions p all left rest x sites sites' numbers last h opens lands =
    let whole = together all rest h.placed x (h.whole ∙ ap (λ xs. xs ++ h.placed) last) in
    record {
      placed = x ∷ h.placed;
      whole = whole;
      dealt = one_more modul partitions p (length all) h.placed x sites sites' h.dealt opens (its_range (length all) all rest h.placed x numbers whole).1 lands;
    }
