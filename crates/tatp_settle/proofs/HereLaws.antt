-- An extent stands in a site exactly where its first subscriber's home does.
use Rattle.std.proofs.Common.{◌≡◌, ℕ, zero, suc, ◌+◌, ◌-◌, ◌*◌, ◌≤◌, ◌==◌, Bool, true, false, List, [], ◌∷◌, map, length, Option, Some, None, slice_get, refl, sym, ◌∙◌, ap, arith, if◌then◌else◌, Bor}
use Rattle.std.specs.Option.{option_map, option_and_then, option_copied, is_some}
use Rattle.std.proofs.lemmas.List.{length-set}
use Rattle.std.proofs.lemmas.Bool.{ne_eqb}
use Rattle.tatp_limits.specs.declared.limits.TheConstants.{EXTENT_SUBSCRIBERS}
use Rattle.tatp_tables.specs.Database.{Database}
use Rattle.tatp_extents.specs.Extents.{ExtentState, LiesIn, extent_of, home_at, with_home_at, place_in}
use Rattle.tatp_extents.proofs.PlaceLaws.{some_home}
use Rattle.tatp_partition.specs.Sites.{SiteState, RunningCall, slot, home_here}
use Rattle.tatp_partition.specs.Sound.{IsSite, extent_set_back, with_entry_rows}
use Rattle.tatp_settle.specs.Closings.{closed_site, is_here}

same_length : (b : Bool) (x y : ExtentState) → length x.homes ≡ length y.homes → length (if b then x else y).homes ≡ length y.homes
same_length true x y h = h
same_length false x y h = refl

back_entry : (h : Option ℕ) (rows : Database) (x : ExtentState) → length (with_entry_rows h rows x).homes ≡ length x.homes
back_entry None rows x = refl
back_entry (Some s) rows x = same_length (extent_of s == x.number) (with_home_at x s (record { s_id = s; tables = rows })) x (length-set x.homes (place_in x.number s) (record { s_id = s; tables = rows }))

back_length : (r : Option RunningCall) (x : ExtentState) → length (extent_set_back r x).homes ≡ length x.homes
back_length None x = refl
back_length (Some r) x = back_entry r.call.frame.home r.call.entry x

-- a change of all extents leaves each in its slot
slot_changed : (f : ExtentState → ExtentState) (slots : List (Option ExtentState)) (e : ℕ) → is_some (slot (map (option_map f) slots) e) ≡ is_some (slot slots e)
slot_changed f [] e = refl
slot_changed f (None ∷ slots) zero = refl
slot_changed f (Some x ∷ slots) zero = refl
slot_changed f (v ∷ slots) (suc e) = slot_changed f slots e

slot_stands : (slots : List (Option ExtentState)) (e : ℕ) (x : ExtentState) → slot slots e ≡ Some x → slice_get slots e ≡ Some (Some x)
slot_stands [] e x h = absurd (let k : None ≡ Some x = h in cc)
slot_stands (v ∷ slots) zero x h = ap Some (let k : v ≡ Some x = at v h in k)
  where
    at : (v : Option ExtentState) → slot (v ∷ slots) 0 ≡ Some x → v ≡ Some x
    at None h = absurd (let k : None ≡ Some x = h in cc)
    at (Some y) h = h
slot_stands (v ∷ slots) (suc e) x h = slot_stands slots e x h

-- a reference to something, and the thing
pub copied_some : {T : Type 0} (r : Option (Bor T)) → is_some r ≡ is_some (option_copied r)
copied_some None = refl
copied_some (Some x) = refl

by_slot : (s : SiteState) (e : ℕ) (v : Option ExtentState) → IsSite s → 1 ≤ e → slot s.slots e ≡ v → is_some (option_and_then (λ (x : ExtentState). home_at x (EXTENT_SUBSCRIBERS * (e - 1) + 1)) v) ≡ is_some v
by_slot s e None h l is = refl
by_slot s e (Some x) h l is =
    let has = slot_stands s.slots e x is in
    let number : x.number ≡ e = h.numbered e x has in
    let least : 1 ≤ length (extent_set_back s.running x).homes = (h.extents e x has).of_extent.least in
    let same = back_length s.running x in
    let lies : LiesIn (EXTENT_SUBSCRIBERS * (e - 1) + 1) x = (omega (arith, number, l), omega (arith, number, l, least, same)) in
    (some_home x (EXTENT_SUBSCRIBERS * (e - 1) + 1)).1 lies

-- whether the home of an extent's first subscriber is here
pub first_home : (s : SiteState) (e : ℕ) → IsSite s → 1 ≤ e → is_some (home_here s (EXTENT_SUBSCRIBERS * (e - 1) + 1)) ≡ is_here (closed_site s) e
first_home s e h l =
    let of : extent_of (EXTENT_SUBSCRIBERS * (e - 1) + 1) ≡ e = omega (arith, l) in
    ap (λ (n : ℕ). is_some (option_and_then (λ (x : ExtentState). home_at x (EXTENT_SUBSCRIBERS * (e - 1) + 1)) (slot s.slots n))) of
    ∙ (by_slot s e (slot s.slots e) h l refl
    ∙ (sym (slot_changed (extent_set_back s.running) s.slots e)
    ∙ ap (λ (b : Bool). if b then (s.partition == 0) else is_some (slot (map (option_map (extent_set_back s.running)) s.slots) e)) (sym (ne_eqb e 0 (λ z. omega (arith, l, z))))))
