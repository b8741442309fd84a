-- What is written is read again.
use Rattle.std.proofs.Common.{Option, cond, ltb, ◌≡◌, ℕ, ◌<◌, ◌≤◌, ◌^◌, sym, ap, refl, arith, Some, None, List, decimal}
use Rattle.std.specs.Option.{option_and_then}
use Rattle.std.proofs.lemmas.Bool.{lt-ltb, ltb-true}
use Rattle.std.proofs.lemmas.Option.{cond_some}
use Rattle.tatp_lines.specs.Numbers.{number_of}
use Rattle.tatp_lines.proofs.NumberLaws.{number_of-decimal, decimal-number_of}
use Rattle.tatp_asm.specs.Words.{below}

-- a number below a limit
below_cases : (limit : ℕ) (o : Option ℕ) (n : ℕ) → option_and_then (λ n. cond (ltb n limit) (Some n) None) o ≡ Some n → (o ≡ Some n) × (n < limit)
below_cases limit None n e = absurd cc
below_cases limit (Some m) n e = let p = cond_some (ltb m limit) m n e in let q : m ≡ n = p.1 in (ap Some q, rw (← q) (ltb-true m limit p.0))

pub below_takes : (limit : ℕ) (bs : List ℕ) (n : ℕ) → below limit bs ≡ Some n → (bs ≡ decimal n) × (n < limit)
unfolding below
below_takes limit bs n e = let p = below_cases limit (number_of bs) n e in (sym (decimal-number_of bs n p.0).0, p.1)

pub below_again : (limit n : ℕ) → n < limit → limit ≤ 2 ^ 64 → below limit (decimal n) ≡ Some n
unfolding below
below_again limit n h k = rw (number_of-decimal n (omega arith), lt-ltb n limit h) refl
