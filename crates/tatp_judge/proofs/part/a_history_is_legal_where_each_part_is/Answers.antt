use Rattle.tatp_judge.specs.Parts.{part_of}
use Rattle.tatp_judge.proofs.PartLaws.{legal_here, legal_in_parts, one_part}
use Rattle.tatp_judge.proofs.part.a_history_is_legal_where_each_part_is.Goals as goal

pub returns-clause-legal : goal.returns-clause-legal
returns-clause-legal c = λ u count lines. legal_in_parts u count lines

pub returns-clause-part : goal.returns-clause-part
returns-clause-part c = λ u count number lines. legal_here u (part_of count number) lines

pub returns-clause-one : goal.returns-clause-one
returns-clause-one c = λ u lines. one_part u lines
