-- Lists of what was done, where they are known.
use Rattle.std.specs.Prelude.{◌≡◌, ℕ, zero, suc, List, [], ◌++◌, Bool, true, false, Option, Some, None, slice_get}

-- a list grows at its end, where it is known afterwards; what wasn't known stays unknown
abbrev pub Grows : {A : Type 0} → Option (List A) → Option (List A) → List A → Type 0
Grows before None more = Unit {0}
Grows None (Some after) more = ⊥
Grows (Some before) (Some after) more = after ≡ before ++ more

-- such things are done, and they are all by which a list grows
abbrev pub Does : {A : Type 0} → (List A → Type 0) → Option (List A) → Option (List A) → Type 0
Does {A = A} AreSuch before after = (more : List A) × AreSuch more × Grows before after more

-- what is known of a list that is kept, unless some of it was lost
abbrev pub known_unless : {A : Type 0} → Bool → List A → Option (List A)
known_unless true kept = None
known_unless false kept = Some kept

-- the first n things of a list were dealt with one after another, each as it has to be
abbrev pub InTurn : {A E : Type 0} → (A → List E → Type 0) → List A → ℕ → List E → Type 0
InTurn IsDealtWith things zero effects = effects ≡ []
InTurn {A = A} {E = E} IsDealtWith things (suc n) effects =
    (before : List E) × (these : List E) × (thing : A)
    × InTurn IsDealtWith things n before
    × (slice_get things n ≡ Some thing)
    × IsDealtWith thing these
    × (effects ≡ before ++ these)
