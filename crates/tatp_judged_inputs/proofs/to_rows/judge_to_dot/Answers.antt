use Rattle.std.specs.Prelude.{ℕ, List, [], IfSome}
use Rattle.std.specs.Option.{option_map}
use Rattle.std.proofs.Common.{◌≡◌, ◌∷◌, ◌++◌, ◌+◌, Option, Ok, Some, None, refl, sym, ap, ◌∙◌, subst}
use Rattle.std.proofs.lemmas.Result.{err_from_is_err_and}
use Rattle.tatp_history.specs.declared.line.Line.{Line}
use Rattle.tatp_streams.specs.LineReading.{lines_left, Stays, with_line}
use Rattle.tatp_inputs.specs.Parts.{is_dot, before_dot}
use Rattle.tatp_judge.specs.declared.judge.Verdict.{Verdict}
use Rattle.tatp_judge.specs.Aside.{undecided_in}
use Rattle.tatp_judged_inputs.specs.Views.{HasCounted, HasFollowed, IsBegun, View, seen}
use Rattle.tatp_judged_inputs.specs.Judged.{IsJudgement, aside_told}
use Rattle.tatp_judged_inputs.specs.Reading.{Decides, IsNumbered, told_by, told_of, RefusesHistory}
use Rattle.tatp_judged_inputs.specs.RowsAtEnd.{ids}
use Rattle.tatp_judged_inputs.proofs.AsideLaws.{ids_told}
use Rattle.tatp_judged_inputs.proofs.HistoryLaws.{by_all, one_numbered}
use Rattle.tatp_judged_inputs.proofs.RowsAtEndLaws.{ToDotSoFar, judged_at_dot, judged_before_dot, reads_to_dot, refused_to_dot, refused_without_dot, to_dot_goes_on, to_dot_starts, told_legal}
use Rattle.tatp_judged_inputs.proofs.to_rows.judge_to_dot.Goals as goal

pub lines-init : goal.lines-init
lines-init g c = record {
  exact = refl;
  told = λ u most is.
      let all = lines_left c.args.lines.now (g.R.Read.remaining c.args.reader.now) in
      to_dot_starts u most c.args.judge.now (record { opened = c.new-2.result; numbers = c.new-3.result; counts = c.in_ok-counts.counts; part = c.args.part.now }) c.args.lines.now.number all is c.new-3.ensures.items c.new-2.ensures (c.in_ok-counts.ensures u.rows most is.followed);
}

pub finish-requires : goal.finish-requires
finish-requires g c = let q = c.requires in let s = (c.lines.invariant.told q.0 q.1 q.2).so_far in (q.0.rows, q.1, seen q.0 s.past, s.followed)

pub judgement-requires : goal.judgement-requires
judgement-requires g c =
    let q = c.requires in
    let s = (c.lines.invariant.told q.0 q.1 q.2).so_far in
    (q.0, q.1, s.past, s.numbered, c.in_ok-verdict.ensures.verdict q.0.rows q.1 (seen q.0 s.past) s.followed, λ line s_id e. c.in_ok-verdict.ensures.kept q.0.rows q.1 (seen q.0 s.past) s.followed, s.counted)

pub take-requires : goal.take-requires
take-requires g c = let q = c.requires in let s = (c.lines.invariant.told q.0 q.1 q.2).so_far in (q.0, q.1, s.past, s.followed, s.numbered, s.counted)

pub returns-then-not-branch-clause-faults : goal.returns-then-not-branch-clause-faults
returns-then-not-branch-clause-faults g c =
    let q = c.requires in
    let all = lines_left c.args.lines.now (g.R.Read.remaining c.args.reader.now) in
    let left = lines_left c.lines.lines (g.R.Read.remaining c.lines.reader) in
    let left' = lines_left c.advance.new.self (g.R.Read.remaining c.advance.new.reader) in
    let met = c.in_ok-advance.ensures.end c.if-not-branch.true in
    refused_without_dot q.0 q.1 c.lines.judge c.lines.reading c.args.lines.now.number c.lines.lines.number (c.number.result + 1) all left left' (c.lines.invariant.told q.0 q.1 q.2) (ap (λ n. n + 1) (c.number.ensures.number ∙ met.number)) met.left met.none met.within

pub returns-then-is_dot-clause-judged : goal.returns-then-is_dot-clause-judged
returns-then-is_dot-clause-judged g c =
    let taken = c.args.lines.now.number in
    let all = lines_left c.args.lines.now (g.R.Read.remaining c.args.reader.now) in
    let left = lines_left c.lines.lines (g.R.Read.remaining c.lines.reader) in
    let left' = lines_left c.advance.new.self (g.R.Read.remaining c.advance.new.reader) in
    let advanced = c.in_ok-advance.ensures.line c.if-not-branch.false in
    let judgement = c.in_ok-judgement.field-0 in
    by_all all (λ a. (u : View) (most : ℕ) → IsBegun u most c.args.part.now c.args.judge.now → IsJudgement u most taken (before_dot a.lines) judgement.judged judgement.undecided.items judgement.window) (λ a e. λ u most is.
    let s = c.lines.invariant.told u most is in
    let text = c.line.result.now in
    let stays = subst (λ t. Stays left (option_map (with_line t) left')) (sym c.line.ensures) advanced.left in
    let on = c.in_ok-verdict.ensures.verdict u.rows most (seen u s.so_far.past) s.so_far.followed in
    judged_at_dot u most c.lines.judge c.lines.reading taken c.lines.lines.number text all left left' a c.in_ok-verdict.verdict judgement.judged (undecided_in c.finish.new.self) judgement.undecided.items judgement.window s e (sym c.is_dot.ensures ∙ c.if-is_dot.true) stays
    on (c.in_ok-judgement.ensures.judged u s.so_far.past s.so_far.counted) (c.in_ok-judgement.ensures.undecided ∙ ap (λ n. aside_told n c.lines.reading.numbers.items (undecided_in c.finish.new.self)) c.number-taken.ensures.number)
    (c.in_ok-judgement.ensures.window u most s.so_far.past s.so_far.numbered on (λ line s_id e. c.in_ok-verdict.ensures.kept u.rows most (seen u s.so_far.past) s.so_far.followed)))

pub returns-then-is_dot-clause-followed : goal.returns-then-is_dot-clause-followed
returns-then-is_dot-clause-followed g c = λ _ _ u most is.
    let all = lines_left c.args.lines.now (g.R.Read.remaining c.args.reader.now) in
    let left = lines_left c.lines.lines (g.R.Read.remaining c.lines.reader) in
    let left' = lines_left c.advance.new.self (g.R.Read.remaining c.advance.new.reader) in
    let advanced = c.in_ok-advance.ensures.line c.if-not-branch.false in
    let s = c.lines.invariant.told u most is in
    let stays = subst (λ t. Stays left (option_map (with_line t) left')) (sym c.line.ensures) advanced.left in (
      s.so_far.past,
      c.in_ok-verdict.ensures.followed u.rows most (seen u s.so_far.past) s.so_far.followed,
      reads_to_dot u most c.lines.judge c.lines.reading c.args.lines.now.number c.lines.lines.number c.advance.new.self.number c.line.result.now all left left' s (sym c.is_dot.ensures ∙ c.if-is_dot.true) advanced.number stays,
    )

pub returns-in_err-verdict-2-clause-faults : goal.returns-in_err-verdict-2-clause-faults
returns-in_err-verdict-2-clause-faults g c =
    let p = err_from_is_err_and c.from_residual-in_err-verdict-2.result c.from_residual-in_err-verdict-2.ensures.1 in
    let q = c.requires in
    let f = c.in_err-verdict-2.field-0.0 in
    let all = lines_left c.args.lines.now (g.R.Read.remaining c.args.reader.now) in
    let left = lines_left c.lines.lines (g.R.Read.remaining c.lines.reader) in
    let left' = lines_left c.advance.new.self (g.R.Read.remaining c.advance.new.reader) in
    let advanced = c.in_ok-advance.ensures.line c.if-not-branch.false in
    let other = ap is_dot (sym c.line.ensures) ∙ (sym c.is_dot.ensures ∙ c.if-is_dot.false) in
    rw (p.1, p.2) (refused_to_dot q.0 q.1 c.lines.judge c.lines.reading c.args.lines.now.number c.lines.lines.number c.number-in-lines.result c.advance.new.self.line f all left left' (c.lines.invariant.told q.0 q.1 q.2) other
    (c.number-in-lines.ensures.number ∙ advanced.number) advanced.left
    (subst (λ text. (past : List Line) (more : List (List ℕ)) → RefusesHistory (told_by c.lines.reading past c.number-in-lines.result (text ∷ more)) f) c.line-in-lines.ensures c.in_err-verdict-2.ensures.faults))

pub judgement-requires-in-Some : goal.judgement-requires-in-Some
judgement-requires-in-Some g c =
    let q = c.requires in
    let s = (c.lines.invariant.told q.0 q.1 q.2).so_far in
    let verdict = c.in-Some.verdict in
    let d = subst (λ found. IfSome found (λ v. (u : View) (most : ℕ) (past : List Line) → HasFollowed u most past c.lines.judge → IsNumbered u c.lines.reading past → HasCounted u past c.lines.reading.counts → Decides u most past c.number-in-lines.result c.line-in-lines.result.now v c.take.new.judge c.lines.reading c.take.new.self))
    c.in-Some.is c.in_ok-verdict-2.ensures.decided q.0 q.1 s.past s.followed s.numbered s.counted in
    (q.0, q.1, s.past ++ d.line ∷ [], one_numbered c.lines.reading c.take.new.self s.past c.number-in-lines.result d.line d.numbers_are d.part_same s.numbered, d.decided, d.kept, d.counted)

pub returns-in-Some-clause-judged : goal.returns-in-Some-clause-judged
returns-in-Some-clause-judged g c =
    let taken = c.args.lines.now.number in
    let all = lines_left c.args.lines.now (g.R.Read.remaining c.args.reader.now) in
    let left = lines_left c.lines.lines (g.R.Read.remaining c.lines.reader) in
    let left' = lines_left c.advance.new.self (g.R.Read.remaining c.advance.new.reader) in
    let advanced = c.in_ok-advance.ensures.line c.if-not-branch.false in
    let verdict = c.in-Some.verdict in
    let number = c.number-in-lines.result in
    let text = c.line-in-lines.result.now in
    let other = ap is_dot (c.line-in-lines.ensures ∙ sym c.line.ensures) ∙ (sym c.is_dot.ensures ∙ c.if-is_dot.false) in
    let decides = subst (λ found. IfSome found (λ v. (u : View) (most : ℕ) (past : List Line) → HasFollowed u most past c.lines.judge → IsNumbered u c.lines.reading past → HasCounted u past c.lines.reading.counts → Decides u most past number text v c.take.new.judge c.lines.reading c.take.new.self))
    c.in-Some.is c.in_ok-verdict-2.ensures.decided in
    let judgement = c.in_ok-judgement-2.field-0 in
    by_all all (λ a. (u : View) (most : ℕ) → IsBegun u most c.args.part.now c.args.judge.now → IsJudgement u most taken (before_dot a.lines) judgement.judged judgement.undecided.items judgement.window) (λ a e. λ u most is.
    let s = c.lines.invariant.told u most is in
    let stays = subst (λ t. Stays left (option_map (with_line t) left')) (sym c.line-in-lines.ensures) advanced.left in
    let d = decides u most s.so_far.past s.so_far.followed s.so_far.numbered s.so_far.counted in
    judged_before_dot u most c.lines.judge c.take.new.judge c.lines.reading c.take.new.self taken c.lines.lines.number number text all left left' a verdict judgement.judged judgement.undecided.items judgement.window s e other (c.number-in-lines.ensures.number ∙ advanced.number) stays
    (λ legal. c.in_ok-verdict-2.ensures.never (ap Ok (c.in-Some.is ∙ ap Some legal))) d
    (c.in_ok-judgement-2.ensures.judged u (s.so_far.past ++ d.line ∷ []) d.counted)
    (c.in_ok-judgement-2.ensures.undecided ∙ ap (λ n. aside_told n c.take.new.self.numbers.items (undecided_in c.take.new.judge)) c.number-taken.ensures.number)
    (c.in_ok-judgement-2.ensures.window u most (s.so_far.past ++ d.line ∷ []) (one_numbered c.lines.reading c.take.new.self s.so_far.past number d.line d.numbers_are d.part_same s.so_far.numbered) d.decided d.kept))

pub returns-in-Some-clause-followed : goal.returns-in-Some-clause-followed
returns-in-Some-clause-followed g c = λ stakes e u most is.
    let s = (c.lines.invariant.told u most is).so_far in
    let verdict = c.in-Some.verdict in
    let decides = subst (λ found. IfSome found (λ v. (u : View) (most : ℕ) (past : List Line) → HasFollowed u most past c.lines.judge → IsNumbered u c.lines.reading past → HasCounted u past c.lines.reading.counts → Decides u most past c.number-in-lines.result c.line-in-lines.result.now v c.take.new.judge c.lines.reading c.take.new.self))
    c.in-Some.is c.in_ok-verdict-2.ensures.decided in
    let d = decides u most s.past s.followed s.numbered s.counted in
    let past = s.past ++ d.line ∷ [] in
    absurd (told_legal u (told_of c.take.new.self past) verdict c.in_ok-judgement-2.field-0.judged stakes (c.in_ok-judgement-2.ensures.judged u past d.counted)
    (λ legal. c.in_ok-verdict-2.ensures.never (ap Ok (c.in-Some.is ∙ ap Some legal))) e)

none_is : (found : Option Verdict) → ((verdict : Verdict) → found ≡ Some verdict → ⊥) → found ≡ None
none_is None h = refl
none_is (Some verdict) h = absurd (h verdict refl)

pub lines-preserved : goal.lines-preserved
lines-preserved g c = record {
  exact = c.in_ok-verdict-2.ensures.exact ∙ c.lines.invariant.exact;
  told = λ u most is.
      let taken = c.args.lines.now.number in
      let all = lines_left c.args.lines.now (g.R.Read.remaining c.args.reader.now) in
      let left = lines_left c.lines.lines (g.R.Read.remaining c.lines.reader) in
      let left' = lines_left c.advance.new.self (g.R.Read.remaining c.advance.new.reader) in
      let advanced = c.in_ok-advance.ensures.line c.if-not-branch.false in
      let s = c.lines.invariant.told u most is in
      let text = c.line-in-lines.result.now in
      let other = ap is_dot (c.line-in-lines.ensures ∙ sym c.line.ensures) ∙ (sym c.is_dot.ensures ∙ c.if-is_dot.false) in
      let on = c.in_ok-verdict-2.ensures.goes_on (ap Ok (none_is c.in_ok-verdict-2.field-0 c.in_default.not-Some)) u most s.so_far.past s.so_far.followed s.so_far.numbered s.so_far.counted in
      let stays = subst (λ t. Stays left (option_map (with_line t) left')) (sym c.line-in-lines.ensures) advanced.left in
      subst (λ n. ToDotSoFar u most c.take.new.judge c.take.new.self taken n all left') c.number-in-lines.ensures.number
      (to_dot_goes_on u most c.lines.judge c.take.new.judge c.lines.reading c.take.new.self taken c.lines.lines.number c.number-in-lines.result text all left left' s other (c.number-in-lines.ensures.number ∙ advanced.number) stays on);
}

pub returns-then-is_dot-clause-named : goal.returns-then-is_dot-clause-named
returns-then-is_dot-clause-named g c = ap ids c.in_ok-judgement.ensures.undecided ∙ ids_told c.number-taken.result c.lines.reading.numbers.items (undecided_in c.finish.new.self)

pub returns-in-Some-clause-named : goal.returns-in-Some-clause-named
returns-in-Some-clause-named g c = ap ids c.in_ok-judgement-2.ensures.undecided ∙ ids_told c.number-taken.result c.take.new.self.numbers.items (undecided_in c.take.new.judge)

pub returns-then-is_dot-clause-exact : goal.returns-then-is_dot-clause-exact
returns-then-is_dot-clause-exact g c = c.in_ok-verdict.ensures.exact ∙ c.lines.invariant.exact

pub returns-in-Some-clause-exact : goal.returns-in-Some-clause-exact
returns-in-Some-clause-exact g c = c.in_ok-verdict-2.ensures.exact ∙ c.lines.invariant.exact
