-- Numbers of fifteen digits.
use Rattle.std.specs.Prelude.{◌≡◌, ℕ, ◌-◌, false, [], ◌++◌, length, replicate, decimal}
use Rattle.std.proofs.Common.{ap, refl, arith}
use Rattle.std.proofs.lemmas.List.{append-nil}
use Rattle.std.specs.Fmt.{padded_integral, number_padding, char_count, styled_decimal, format_spec}
use Rattle.tatp_texts.specs.Text.{fifteen_digits}

-- what `{:015}` writes of a number
pub fifteen_digits_written : (n : ℕ) → styled_decimal (format_spec 32 0 4 15 18446744073709551615) n ≡ fifteen_digits n
unfolding padded_integral char_count
fifteen_digits_written n =
    let none : char_count [] ≡ 0 = refl in
    let gap : number_padding (format_spec 32 0 4 15 18446744073709551615) false [] (length (decimal n)) ≡ 15 - length (decimal n) = omega arith in
    simp append-nil (ap (λ k. replicate k 48 ++ decimal n) gap)
