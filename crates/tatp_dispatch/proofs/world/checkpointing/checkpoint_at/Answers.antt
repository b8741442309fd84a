use Rattle.std.proofs.Common.{length, refl}
use Rattle.std.proofs.lemmas.Option.{slice_get_read}
use Rattle.tatp_dispatch.proofs.world.checkpointing.checkpoint_at.Goals as goal

pub returns : goal.returns
returns c = record {
  before = c.index_mut.result.now;
  after_it = c.checkpoint.new.self;
  site = slice_get_read c.args.sites.now.items (length c.args.sites.now.items) c.args.p c.index_mut.result.now refl c.requires c.index_mut.ensures.value;
  checkpoints = c.checkpoint.ensures.checkpoints;
  whole = c.checkpoint.ensures.site;
  after = refl;
}
