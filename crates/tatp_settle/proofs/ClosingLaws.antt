-- What is left of a closed site is sound.
use Rattle.std.proofs.Common.{◌≡◌, ℕ, zero, suc, ◌==◌, Bool, true, false, List, [], ◌∷◌, map, Option, Some, None, slice_get, refl, sym, ◌∙◌, ap, subst, if◌then◌else◌, ◌++◌, reverse}
use Rattle.std.specs.Option.{option_map}
use Rattle.std.specs.List.{All}
use Rattle.std.proofs.lemmas.List.Elements.{All-map, All-weaker}
use Rattle.std.proofs.lemmas.List.{map-append, append_assoc, reverse-append}
use Rattle.tatp_tables.specs.Database.{Database}
use Rattle.tatp_extents.specs.Extents.{ExtentState, IsExtent, extent_of, with_home_at}
use Rattle.tatp_partition.specs.Sites.{SiteState, RunningCall}
use Rattle.tatp_partition.specs.Sound.{IsSite, extent_set_back, with_entry_rows}
use Rattle.tatp_settle.specs.Closings.{closed_site, IsClosedSite}

-- an extent in its slot, before a change of all
pub before_change : (f : ExtentState → ExtentState) (slots : List (Option ExtentState)) (e : ℕ) (x : ExtentState) → slice_get (map (option_map f) slots) e ≡ Some (Some x)
    → (y : ExtentState) × (slice_get slots e ≡ Some (Some y)) × (f y ≡ x)
before_change f [] e x h = absurd (let k : None ≡ Some (Some x) = h in cc)
before_change f (None ∷ slots) zero x h = absurd (let k : Some None ≡ Some (Some x) = h in cc)
before_change f (Some y ∷ slots) zero x h = (y, refl, let k : Some (Some (f y)) ≡ Some (Some x) = h in cc)
before_change f (v ∷ slots) (suc e) x h = before_change f slots e x h

same_number : (b : Bool) (x y : ExtentState) → x.number ≡ y.number → (if b then x else y).number ≡ y.number
same_number true x y h = h
same_number false x y h = refl

back_number : (h : Option ℕ) (rows : Database) (x : ExtentState) → (with_entry_rows h rows x).number ≡ x.number
back_number None rows x = refl
back_number (Some s) rows x = same_number (extent_of s == x.number) (with_home_at x s (record { s_id = s; tables = rows })) x refl

-- the running call set back, an extent has its number
pub set_back_number : (r : Option RunningCall) (x : ExtentState) → (extent_set_back r x).number ≡ x.number
set_back_number None x = refl
set_back_number (Some r) x = back_number r.call.frame.home r.call.entry x

pub is_closed_site : (s : SiteState) → IsSite s → IsClosedSite (closed_site s)
is_closed_site s h = record {
  numbered = λ e x g.
      let b = before_change (extent_set_back s.running) s.slots e x g in
      ap (λ (z : ExtentState). z.number) (sym b.2) ∙ (set_back_number s.running b.0 ∙ h.numbered e b.0 b.1);
  extents = λ e x g.
      let b = before_change (extent_set_back s.running) s.slots e x g in
      subst IsExtent b.2 (h.extents e b.0 b.1);
  homeless = h.homeless;
  elsewhere = h.elsewhere;
}

-- one more from the end of a list at the end of another, which is turned round later
pub one_popped : {A B : Type 0} (f : A → B) (rest : List A) (x : A) (done : List B) → map f rest ++ reverse (done ++ f x ∷ []) ≡ map f (rest ++ x ∷ []) ++ reverse done
one_popped f rest x done =
    ap (λ ys. map f rest ++ ys) (reverse-append done (f x ∷ []))
    ∙ (sym (append_assoc (map f rest) (f x ∷ []) (reverse done)) ∙ ap (λ ys. ys ++ reverse done) (sym (map-append f rest (x ∷ []))))

-- what is left of closed sites is sound
pub are_closed_sites : (sites : List SiteState) → All IsSite sites → All IsClosedSite (map closed_site sites)
are_closed_sites sites all = All-map IsClosedSite closed_site sites (All-weaker IsSite (λ s. IsClosedSite (closed_site s)) is_closed_site sites all)
