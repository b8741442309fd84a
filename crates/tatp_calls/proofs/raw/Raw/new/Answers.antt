use Rattle.tatp_limits.specs.declared.limits.TheConstants.{MAX_ARGUMENTS}
use Rattle.tatp_calls.proofs.PaddingLaws.{ArePadded-front}
use Rattle.tatp_calls.proofs.raw.Raw.new.Goals as goal

pub invariant_of-result : goal.invariant_of-result
invariant_of-result c = ArePadded-front MAX_ARGUMENTS c.args.arguments.now c.copy_from_slice.new.self c.copy_from_slice.ensures.after c.requires
