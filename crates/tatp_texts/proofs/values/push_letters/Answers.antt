use Rattle.std.proofs.Common.{ℕ, arith, length-take}
use Rattle.tatp_texts.proofs.ValueLaws.{ascii_letters}
use Rattle.tatp_texts.proofs.values.push_letters.Goals as goal

pub push_ascii-requires : goal.push_ascii-requires
push_ascii-requires c = ascii_letters c.write_letters.new.letters c.args.count _ c.args.value c.requires.letters (omega (arith, length-take {A = ℕ}, c.requires.short)) c.write_letters.ensures
