use Rattle.std.proofs.Common.{◌∙◌, sym, ap, subst, Err, arith}
use Rattle.tatp_numbers.specs.Lists.{IdsRunToLength, NumbersStandOnce}
use Rattle.tatp_numbers.proofs.IdLaws.{clean_ids, clean_numbers}
use Rattle.tatp_numbers.proofs.directory.Directory.of_clean.Goals as goal

pub build-requires : goal.build-requires
build-requires c = subst IdsRunToLength (sym c.as_slice.ensures) (clean_ids c.args.rows.now c.requires)

pub unreachable-requires : goal.unreachable-requires
unreachable-requires c =
    let twice = c.build.ensures.twice (c.in-Err-NumberTwice.is ∙ ap Err c.in-Err-NumberTwice.field-0-is) in
    let once = subst NumbersStandOnce (sym c.as_slice.ensures) (clean_numbers c.args.rows.now c.requires) in
    absurd (omega (arith, twice.1, once twice.0))
