use Rattle.tatp_texts.proofs.LetterLaws.{IsReadUpTo}
use Rattle.tatp_texts.proofs.letters.read_letters.Given as goal

abbrev pub invariant-loop-letter : goal.invariant-loop-letter
invariant-loop-letter l = IsReadUpTo l.letters l.letter-index l.packed
