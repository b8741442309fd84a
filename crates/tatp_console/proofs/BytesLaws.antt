-- Lines that have to be text.
use Rattle.std.proofs.Common.{◌≡◌, ℕ, Bool, true, false, List, None, refl}
use Rattle.std.proofs.lemmas.Str.{IsUtf8-from_is_utf8, is_utf8-from_IsUtf8}
use Rattle.std.specs.Str.{is_utf8, IsUtf8}
use Rattle.tatp_trace_lines.specs.LineFields.{line_of}
use Rattle.tatp_console.specs.EventLines.{line_in}

no_text : (bs : List ℕ) (t : Bool) → is_utf8 bs ≡ t → ¬ (IsUtf8 bs) → t ≡ false
no_text bs true e u = absurd (u (IsUtf8-from_is_utf8 bs e))
no_text bs false e u = refl

pub line_in_text : (bs : List ℕ) → IsUtf8 bs → line_in bs ≡ line_of bs
unfolding line_in
line_in_text bs u = rw (is_utf8-from_IsUtf8 bs u) refl

pub line_in_no_text : (bs : List ℕ) → ¬ (IsUtf8 bs) → line_in bs ≡ None
unfolding line_in
line_in_no_text bs u = rw (no_text bs (is_utf8 bs) refl u) refl
