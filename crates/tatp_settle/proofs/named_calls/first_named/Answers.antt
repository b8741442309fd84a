use Rattle.std.proofs.Common.{Option, IsSome, sym, subst, arith}
use Rattle.tatp_calls.specs.declared.entry.Entry.{Entry}
use Rattle.tatp_settle.proofs.NamedLaws.{first_of_named, some_within}
use Rattle.tatp_settle.proofs.named_calls.first_named.Goals as goal

pub returns : goal.returns
returns c = first_of_named c.args.log.now c.args.directory.now c.entries.least c.entries.index (omega (arith, c.len-index-end.ensures, c.entries-test.false)) c.entries.invariant.seen c.entries.invariant.named

pub unwrap-entry-requires : goal.unwrap-entry-requires
unwrap-entry-requires c = subst (λ (v : Option Entry). IsSome v) (sym c.get.ensures) (some_within c.args.log.now c.entries.index (omega (arith, c.len-index-end.ensures, c.entries-test.true)))
