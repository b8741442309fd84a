use Rattle.std.proofs.Common.{◌≡◌, List, ℕ, ◌++◌, ◌∙◌, subst}
use Rattle.std.specs.Prelude.{OnOk}
use Rattle.std.specs.String.{string_bytes}
use Rattle.tatp_texts.proofs.NumberLaws.{fifteen_digits_written}
use Rattle.tatp_texts.proofs.ValueLaws.{ascii_digits}
use Rattle.tatp_texts.proofs.values.push_fifteen_digits.Goals as goal

pub push_ascii-requires : goal.push_ascii-requires
push_ascii-requires c = ascii_digits c.write_digits.new.digits 15 c.args.number c.write_digits.ensures

pub returns-clause-ok : goal.returns-clause-ok
returns-clause-ok c =
    subst (λ (ds : List ℕ). OnOk c.push_ascii.result (string_bytes c.push_ascii.new.text ≡ string_bytes c.args.text.now ++ ds))
    (c.write_digits.ensures ∙ fifteen_digits_written c.args.number c.requires) c.push_ascii.ensures.ok
