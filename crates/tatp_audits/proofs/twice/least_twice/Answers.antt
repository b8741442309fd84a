use Rattle.std.proofs.Common.{sym, ◌∙◌, arith}
use Rattle.tatp_audits.proofs.Twins.{stop, go_on, finish}
use Rattle.tatp_audits.proofs.twice.least_twice.Goals as goal

pub returns-then-eq : goal.returns-then-eq
returns-then-eq g c = stop _ c.loop-i.i _ _ _ c.requires (omega arith) (omega arith) c.loop-i.invariant
    c.index-keys-i.is c.index-keys-i-in-loop-i.is c.index-keys-i-then-eq.is (sym c.if-eq.true ∙ c.eq.ensures)

pub loop-i-preserved : goal.loop-i-preserved
loop-i-preserved g c = go_on _ c.loop-i.i _ _ (omega arith) (omega arith) c.loop-i.invariant c.index-keys-i.is c.index-keys-i-in-loop-i.is (sym c.if-eq.false ∙ c.eq.ensures)

pub returns : goal.returns
returns g c = finish _ c.loop-i.i c.requires (omega arith) c.loop-i.invariant
