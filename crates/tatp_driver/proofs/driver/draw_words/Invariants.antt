use Rattle.tatp_driver.proofs.DrawnWordsLaws.{AreNext}
use Rattle.tatp_driver.proofs.driver.draw_words.Given as goal

abbrev pub invariant-loop-i : goal.invariant-loop-i
invariant-loop-i g l = AreNext (g.R.Rng.stream l.initial.generator) 7 l.i l.words (g.R.Rng.stream l.generator)
