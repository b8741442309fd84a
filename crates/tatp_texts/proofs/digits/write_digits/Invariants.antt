use Rattle.std.proofs.Common.{◌≡◌, ◌≤◌, ◌++◌, drop, length}
use Rattle.tatp_texts.specs.Text.{last_digits}
use Rattle.tatp_texts.proofs.digits.write_digits.Given as goal

abbrev pub invariant-digits : goal.invariant-digits
invariant-digits l = record {
  within : l.place ≤ length l.digits;
  joined : last_digits l.place l.rest ++ drop l.place l.digits ≡ last_digits (length l.fn.digits) l.fn.number;
}

abbrev pub decreases-digits : goal.decreases-digits
decreases-digits l = l.place
