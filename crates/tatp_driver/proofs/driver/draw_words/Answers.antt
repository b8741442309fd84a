use Rattle.std.proofs.Common.{arith}
use Rattle.tatp_driver.proofs.DrawnWordsLaws.{none_taken, one_taken, all_taken}
use Rattle.tatp_driver.proofs.driver.draw_words.Goals as goal

pub loop-i-init : goal.loop-i-init
loop-i-init g c = none_taken (g.R.Rng.stream c.args.generator.now) _

pub loop-i-preserved : goal.loop-i-preserved
loop-i-preserved g c = one_taken (g.R.Rng.stream c.args.generator.now) 7 c.loop-i.i c.loop-i.words (g.R.Rng.stream c.loop-i.generator)
    c.next_u64.result (g.R.Rng.stream c.next_u64.new.self) c.loop-i.invariant (omega arith) c.next_u64.ensures

pub returns : goal.returns
returns g c = all_taken (g.R.Rng.stream c.args.generator.now) 7 c.loop-i.i c.loop-i.words (g.R.Rng.stream c.loop-i.generator) (omega arith) c.loop-i.invariant
