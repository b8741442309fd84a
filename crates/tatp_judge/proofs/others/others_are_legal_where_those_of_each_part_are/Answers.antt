use Rattle.tatp_judge.specs.Parts.{part_of}
use Rattle.tatp_judge.proofs.PartLaws.{all_others, others_here, others_in_parts}
use Rattle.tatp_judge.proofs.others.others_are_legal_where_those_of_each_part_are.Goals as goal

pub returns-clause-all : goal.returns-clause-all
returns-clause-all c = λ u lines. all_others u lines

pub returns-clause-others : goal.returns-clause-others
returns-clause-others c = λ u aside count lines. others_in_parts u aside count lines

pub returns-clause-part : goal.returns-clause-part
returns-clause-part c = λ u aside count number lines. others_here u aside (part_of count number) lines
