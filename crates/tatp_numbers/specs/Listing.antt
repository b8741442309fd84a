-- What a directory answers, by which subscribers there are.
use Rattle.std.specs.Prelude.{ℕ, ◌&&◌, nat_le, Option, Some, None, if◌then◌else◌, refl}
use Rattle.std.specs.Ordering.{nat_cmp}
use Rattle.std.specs.Coded.{Coded, code_by, coded×, coded_ℕ}
use Rattle.std.specs.FinMap as map
use Rattle.tatp_numbers.specs.declared.key.Key.{Key}
use Rattle.tatp_numbers.specs.declared.key.Key.TheVariants.{Id, Number}

-- how many subscribers there are, their s_ids being 1 to this, and which s_id is at which
-- number
pub record Listing : Type 0 where
  pub count : ℕ
  pub s_ids : map.FinMap nat_cmp ℕ

abbrev pub listing_code : Coded Listing
listing_code = code_by
    (ℕ × map.FinMap nat_cmp ℕ)
    (coded× coded_ℕ (map.code coded_ℕ coded_ℕ))
    (λ l. (l.count, l.s_ids))
    (λ p. record { count = p.0; s_ids = p.1 })
    (λ _. refl)

-- the s_id that a listing gives a key
abbrev pub answer : Listing → Key → Option ℕ
answer l (Id s) = if nat_le 1 s && nat_le s l.count then Some s else None
answer l (Number n) = map.get l.s_ids n
