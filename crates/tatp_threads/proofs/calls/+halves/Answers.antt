use Rattle.tatp_threads.proofs.ObstacleLaws.{in_either}
use Rattle.tatp_threads.proofs.calls.+halves.Goals as goal

pub returns : goal.returns
returns g t c = in_either c.args.loaded.now c.args.lists.now c.split_at.result.0.now c.split_at.result.1.now c.join-front.result.0 c.join-front.result.1 c.or.result
    c.split_at.ensures.by_index.0 c.join-front.ensures.first c.join-front.ensures.second c.or.ensures
