-- Bytes that may stand in a name are a text.
use Rattle.std.proofs.Common.{◌≡◌, ℕ, zero, suc, ◌<◌, Bool, true, false, ◌&&◌, ◌||◌, ◌==◌, List, [], ◌∷◌, refl, sym, arith}
use Rattle.std.specs.Prelude.{nat_le}
use Rattle.std.specs.List.{list_all}
use Rattle.std.specs.Str.{IsAscii, IsUtf8}
use Rattle.std.proofs.lemmas.Bool.{leb-true, eqb-true}
use Rattle.std.proofs.lemmas.Str.{IsUtf8-from_ascii}
use Rattle.tatp_lines.specs.Numbers.{is_between}
use Rattle.tatp_encoding.specs.Modules.{is_name_byte}

both : (a b : Bool) → (a && b) ≡ true → (a ≡ true) × (b ≡ true)
both true b h = (refl, h)
both false b h = cc

low : (byte : ℕ) (letter : Bool) → letter ≡ is_between 65 90 byte → (letter || byte == 95) ≡ true → byte < 128
low byte true e h = omega (arith, leb-true _ _ (both (nat_le 65 byte) (nat_le byte 90) (sym e)).1)
low byte false e h = omega (arith, eqb-true byte 95 h)

IsAscii-name : (bytes : List ℕ) → list_all is_name_byte bytes ≡ true → IsAscii bytes
IsAscii-name [] h i = omega arith
IsAscii-name (byte ∷ more) h zero = low byte (is_between 65 90 byte) refl (both (is_name_byte byte) (list_all is_name_byte more) h).0
IsAscii-name (byte ∷ more) h (suc i) = IsAscii-name more (both (is_name_byte byte) (list_all is_name_byte more) h).1 i

pub name_is_text : (bytes : List ℕ) → list_all is_name_byte bytes ≡ true → IsUtf8 bytes
name_is_text bytes h = IsUtf8-from_ascii bytes (IsAscii-name bytes h)
