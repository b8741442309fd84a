use Rattle.std.proofs.Common.{refl}
use Rattle.tatp_audits.proofs.Twins.{twice_of}
use Rattle.tatp_audits.proofs.twice.least_key_twice.Goals as goal

pub returns : goal.returns
returns g c = twice_of _ _ _ _ _ c.in_ok-keys.ensures.moved refl c.deref.ensures.value c.least_twice.ensures
