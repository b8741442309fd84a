use Rattle.std.proofs.Common.{◌≡◌, Ok, None, Some, [], ◌∷◌, ◌++◌, ◌∙◌, List, refl, sym, ap, subst, arith}
use Rattle.std.proofs.lemmas.List.{append-nil}
use Rattle.tatp_history.specs.declared.line.Line.{Line}
use Rattle.tatp_history_lines.specs.Open.{open_call}
use Rattle.tatp_judge.specs.declared.judge.Verdict.TheVariants.{Legal}
use Rattle.tatp_judge.specs.declared.part.Part.{Part}
use Rattle.tatp_judge.specs.Accepted.{IsAcceptedLine}
use Rattle.tatp_judge.specs.Counted.{HasCounted as HasCountedAll}
use Rattle.tatp_judge.specs.Followed.{HasFollowed as HasFollowedAll, HasKept as HasKeptAll}
use Rattle.tatp_judge.specs.Aside.{undecided_in}
use Rattle.tatp_judge.specs.Parts.{line_of_part}
use Rattle.tatp_judge.specs.Verdicts.{IsSaid as IsSaidOfAll}
use Rattle.tatp_judged_inputs.specs.Views.{View, seen}
use Rattle.tatp_judged_inputs.proofs.HistoryLaws.{if_some_is, line_taken, said_accepted}
use Rattle.tatp_judged_inputs.proofs.ViewLaws.{seen_accepted, seen_both, seen_length}
use Rattle.tatp_judged_inputs.proofs.reading.Reading.take.Goals as goal

pub line_of_part-of_part-requires-clause-part : goal.line_of_part-of_part-requires-clause-part
line_of_part-of_part-requires-clause-part c = c.requires.4.possible

pub line_of_part-of_part-requires-clause-followed : goal.line_of_part-of_part-requires-clause-followed
line_of_part-of_part-requires-clause-followed c = let q = c.requires in (q.0.rows, q.1, seen q.0 q.2, q.3)

pub count-requires : goal.count-requires
count-requires c = let q = c.requires in (q.0.rows, q.1, seen q.0 q.2, q.3, q.5)

pub follow-requires-clause-followed : goal.follow-requires-clause-followed
follow-requires-clause-followed c =
    let q = c.requires in
    let few = c.in_ok-push-in-Ok-Some.ensures.few in
    let long = seen_length q.0 q.2 in
    (q.0.rows, q.1, seen q.0 q.2, q.3, omega (arith, few, q.4.count, long))

pub follow-requires-clause-accepted : goal.follow-requires-clause-accepted
follow-requires-clause-accepted c =
    let q = c.requires in
    let own = said_accepted (open_call c.args.self.now.opened) c.args.text.now c.in-Ok-Some.line (let a = c.in-Ok-Some.ensures in let b = c.in-Ok-Some.is in let d = c.in-Ok-Some.field-0-is in let e = c.in-Ok-Some.line-is in cc) in
    let kept = c.line_of_part-of_part.ensures q.0.rows q.1 (seen q.0 q.2) q.3 ∙ ap (λ (p : Part). line_of_part q.0.rows p c.in-Ok-Some.line) (sym q.4.part_is) in
    subst IsAcceptedLine (sym kept) (seen_accepted q.0 c.in-Ok-Some.line own)

-- what is said of the part by one line more
one_seen : (u : View) (past : List Line) (line of_part : Line) (part : Part) → of_part ≡ line_of_part u.rows part line → u.part ≡ part → seen u (past ++ line ∷ []) ≡ seen u past ++ of_part ∷ []
one_seen u past line of_part part is own =
    seen_both u past (line ∷ []) ∙ ap (λ l. seen u past ++ l ∷ []) (ap (λ (p : Part). line_of_part u.rows p line) own ∙ sym is)

pub returns-in_ok-follow-in-Ok-Some-clause-goes_on : goal.returns-in_ok-follow-in-Ok-Some-clause-goes_on
returns-in_ok-follow-in-Ok-Some-clause-goes_on c = λ e u most past followed numbered counted.
    let none : c.in_ok-found-in-Ok-Some.found ≡ None = cc in
    let line = c.in-Ok-Some.line in
    let same = one_seen u past line c.line_of_part-of_part.result c.args.self.now.part (c.line_of_part-of_part.ensures u.rows most (seen u past) followed) numbered.part_is in
    line_taken u most past c.args.number c.args.text.now c.follow.new.self c.args.self.now (record { opened = c.follow-in-Ok-Some.new.self; numbers = c.push.new.self; counts = c.count.new.self; part = c.args.self.now.part }) line (let a = c.in-Ok-Some.ensures in let b = c.in-Ok-Some.is in let d = c.in-Ok-Some.field-0-is in let e = c.in-Ok-Some.line-is in cc)
    (subst (λ ls. HasFollowedAll u.rows most ls c.follow.new.self) (sym same) (c.in_ok-found-in-Ok-Some.ensures.followed (ap Ok none) u.rows most (seen u past) followed)) numbered
    (subst (λ ls. HasCountedAll u.rows ls c.count.new.self) (sym same) (c.count.ensures u.rows most (seen u past) followed counted)) c.in_ok-push-in-Ok-Some.ensures.items refl c.in_ok-follow-in-Ok-Some.ensures.ok

pub returns-in_ok-follow-in-Ok-Some-clause-decided : goal.returns-in_ok-follow-in-Ok-Some-clause-decided
returns-in_ok-follow-in-Ok-Some-clause-decided c =
    let line = c.in-Ok-Some.line in
    if_some_is c.in_ok-found-in-Ok-Some.found (λ verdict is h. λ u most past followed numbered counted.
    let same = one_seen u past line c.line_of_part-of_part.result c.args.self.now.part (c.line_of_part-of_part.ensures u.rows most (seen u past) followed) numbered.part_is in
    record {
      line = line;
      said = (let a = c.in-Ok-Some.ensures in let b = c.in-Ok-Some.is in let d = c.in-Ok-Some.field-0-is in let e = c.in-Ok-Some.line-is in cc);
      part_same = refl;
      numbers_are = c.in_ok-push-in-Ok-Some.ensures.items;
      counted = subst (λ ls. HasCountedAll u.rows ls c.count.new.self) (sym same) (c.count.ensures u.rows most (seen u past) followed counted);
      decided = subst (λ ls. IsSaidOfAll u.rows most ls (undecided_in c.follow.new.self) verdict) (append-nil (seen u past ++ c.line_of_part-of_part.result ∷ []) ∙ sym same) (h u.rows most (seen u past) [] followed);
      kept = λ first s_id e. subst (λ ls. HasKeptAll u.rows ls c.follow.new.self) (sym same) (c.in_ok-found-in-Ok-Some.ensures.kept first s_id (ap Ok (is ∙ ap Some e)) u.rows most (seen u past) followed);
    }) c.in_ok-found-in-Ok-Some.ensures.decided

pub returns-in_ok-follow-in-Ok-Some-clause-never : goal.returns-in_ok-follow-in-Ok-Some-clause-never
returns-in_ok-follow-in-Ok-Some-clause-never c = λ e.
    let legal : c.in_ok-found-in-Ok-Some.found ≡ Some Legal = cc in
    c.in_ok-found-in-Ok-Some.ensures.never (ap Ok legal)
