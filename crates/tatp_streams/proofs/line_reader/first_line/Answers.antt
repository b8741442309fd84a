use Rattle.std.proofs.Common.{rules, ◌∙◌, sym, ap}
use Rattle.std.specs.List.{position}
use Rattle.std.proofs.lemmas.List.{take_rest}
use Rattle.tatp_lines.proofs.LineLaws.{is_line_feed}
use Rattle.tatp_streams.proofs.LineReadingLaws.{line_found, none_found, last_found}
use Rattle.tatp_streams.proofs.line_reader.first_line.Goals as goal

pub returns-in-Some-clause-line : goal.returns-in-Some-clause-line
returns-in-Some-clause-line c =
    line_found c.args.bytes.now c.args.clear c.in-Some.at c.args.ended c.requires.within c.requires.clear
    (sym (c.in-Some.ensures ∙ ap (position is_line_feed) (take_rest c.args.bytes.now c.args.clear)))

pub returns-in-None-clause-line : goal.returns-in-None-clause-line
returns-in-None-clause-line c =
    last_found c.args.bytes.now c.args.ended c.if-ended.true (search rules)
    (none_found c.args.bytes.now c.args.clear c.requires.within c.requires.clear
    (sym (c.in-None.ensures ∙ ap (position is_line_feed) (take_rest c.args.bytes.now c.args.clear))))

pub returns-in-None-2-2-clause-none : goal.returns-in-None-2-2-clause-none
returns-in-None-2-2-clause-none c =
    none_found c.args.bytes.now c.args.clear c.requires.within c.requires.clear
    (sym (c.in-None.ensures ∙ ap (position is_line_feed) (take_rest c.args.bytes.now c.args.clear)))
