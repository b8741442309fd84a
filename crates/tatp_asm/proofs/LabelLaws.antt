-- The labels of a draft as a list.
use Rattle.std.proofs.Common.{◌≡◌, ℕ, ap, Bool, true, false, cond, List, [], ◌∷◌, ◌++◌, refl, Option, Some, None}
use Rattle.std.specs.Prelude.{String, string_bytes}
use Rattle.std.specs.String.{string_eq}
use Rattle.std.specs.Str.{bytes_eq}
use Rattle.std.specs.Map.{lookup}
use Rattle.indexmap.specs.IndexMap.{insert_entry}
use Rattle.tatp_asm.specs.Reading.{position_of}
use Rattle.tatp_asm.specs.Views.{labels_view, label_view}

pub lookup_position : {Y : Type 0} (es : List (String Y × ℕ)) (q : List ℕ) → lookup (λ k. bytes_eq q (string_bytes k)) es ≡ position_of (labels_view es) q
lookup_position [] q = refl
lookup_position (e ∷ es) q = ap (λ (o : Option ℕ). cond (bytes_eq q (string_bytes e.0)) (Some e.1) o) (lookup_position es q)

pub insert_label : {Y : Type 0} (es : List (String Y × ℕ)) (k : String Y) (v : ℕ) → position_of (labels_view es) (string_bytes k) ≡ None → labels_view (insert_entry string_eq es k v) ≡ labels_view es ++ ((string_bytes k, v) ∷ [])
insert_label [] k v h = refl
insert_label (e ∷ es) k v h = by (bytes_eq (string_bytes k) (string_bytes e.0)) (insert_label es k v) h
  where
    by : (b : Bool) → (position_of (labels_view es) (string_bytes k) ≡ None → labels_view (insert_entry string_eq es k v) ≡ labels_view es ++ ((string_bytes k, v) ∷ [])) → cond b (Some e.1) (position_of (labels_view es) (string_bytes k)) ≡ None
        → labels_view (cond b ((e.0, v) ∷ es) (e ∷ insert_entry string_eq es k v)) ≡ label_view e ∷ (labels_view es ++ ((string_bytes k, v) ∷ []))
    by true r h = absurd cc
    by false r h = ap (λ (xs : List (List ℕ × ℕ)). label_view e ∷ xs) (r h)
