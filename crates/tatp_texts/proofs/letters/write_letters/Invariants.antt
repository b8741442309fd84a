use Rattle.std.proofs.Common.{◌≡◌, ◌≤◌, ◌++◌, drop, length}
use Rattle.tatp_texts.specs.Text.{letters_text}
use Rattle.tatp_texts.proofs.letters.write_letters.Given as goal

abbrev pub invariant-letters : goal.invariant-letters
invariant-letters l = record {
  within : l.place ≤ length l.letters;
  joined : letters_text l.place l.rest ++ drop l.place l.letters ≡ letters_text (length l.fn.letters) l.fn.value;
}

abbrev pub decreases-letters : goal.decreases-letters
decreases-letters l = l.place
