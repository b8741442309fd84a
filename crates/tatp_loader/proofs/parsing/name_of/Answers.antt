use Rattle.std.proofs.Common.{sym}
use Rattle.tatp_loader.proofs.NameLaws.{name_is_text}
use Rattle.tatp_loader.proofs.parsing.name_of.Goals as goal

pub unreachable-requires : goal.unreachable-requires
unreachable-requires c = c.in-Err.ensures.cases.0 (name_is_text c.args.bytes.now (sym c.if-not-are_name_bytes.ensures))
