use Rattle.std.specs.Prelude.{ℕ, List, [], IfSome}
use Rattle.std.specs.Option.{option_map}
use Rattle.std.proofs.Common.{◌≡◌, ◌∷◌, ◌++◌, Option, Ok, Some, None, refl, sym, ap, ◌∙◌, subst}
use Rattle.std.proofs.lemmas.List.{append-nil}
use Rattle.std.proofs.lemmas.Result.{err_from_is_err_and}
use Rattle.tatp_history.specs.declared.line.Line.{Line}
use Rattle.tatp_streams.specs.LineReading.{lines_left, Stays, with_line}
use Rattle.tatp_judge.specs.declared.judge.Verdict.{Verdict}
use Rattle.tatp_judge.specs.Aside.{undecided_in}
use Rattle.tatp_judged_inputs.specs.Views.{HasCounted, HasFollowed, IsBegun, View, seen}
use Rattle.tatp_judged_inputs.specs.Judged.{IsJudgement, aside_told}
use Rattle.tatp_judged_inputs.specs.Reading.{Decides, IsNumbered, told_by, told_of, RefusesHistory}
use Rattle.tatp_judged_inputs.proofs.FrontLaws.{is_judgement}
use Rattle.tatp_judged_inputs.proofs.HistoryLaws.{ReadSoFar, by_all, one_numbered, read_all, read_decided, read_one, read_to_end, reading_goes_on, reading_refused, reading_starts}
use Rattle.tatp_judged_inputs.proofs.judging.judge_history.Goals as goal

pub lines-init : goal.lines-init
lines-init g c = λ u most is.
    let all = lines_left c.args.lines.now (g.R.Read.remaining c.args.reader.now) in
    reading_starts u most c.args.judge.now (record { opened = c.new-2.result; numbers = c.new-3.result; counts = c.in_ok-counts.counts; part = c.args.part.now }) c.args.lines.now.number all is c.new-3.ensures.items c.new-2.ensures (c.in_ok-counts.ensures u.rows most is.followed)

pub finish-requires : goal.finish-requires
finish-requires g c = let q = c.requires in let s = c.lines.invariant q.0 q.1 q.2 in (q.0.rows, q.1, seen q.0 s.past, s.followed)

pub judgement-requires : goal.judgement-requires
judgement-requires g c =
    let q = c.requires in
    let s = c.lines.invariant q.0 q.1 q.2 in
    (q.0, q.1, s.past, s.numbered, c.in_ok-verdict.ensures.verdict q.0.rows q.1 (seen q.0 s.past) s.followed, λ line s_id e. c.in_ok-verdict.ensures.kept q.0.rows q.1 (seen q.0 s.past) s.followed, s.counted)

pub take-requires : goal.take-requires
take-requires g c = let q = c.requires in let s = c.lines.invariant q.0 q.1 q.2 in (q.0, q.1, s.past, s.followed, s.numbered, s.counted)

pub returns-then-not-branch-clause-judged : goal.returns-then-not-branch-clause-judged
returns-then-not-branch-clause-judged g c =
    let taken = c.args.lines.now.number in
    let all = lines_left c.args.lines.now (g.R.Read.remaining c.args.reader.now) in
    let left = lines_left c.lines.lines (g.R.Read.remaining c.lines.reader) in
    let left' = lines_left c.advance.new.self (g.R.Read.remaining c.advance.new.reader) in
    let met = c.in_ok-advance.ensures.end c.if-not-branch.true in
    by_all all (λ a. (u : View) (most : ℕ) → IsBegun u most c.args.part.now c.args.judge.now → IsJudgement u most taken a.lines c.in_ok-judgement.field-0.judged c.in_ok-judgement.field-0.undecided.items c.in_ok-judgement.field-0.window) (λ a e. λ u most is.
    let s = c.lines.invariant u most is in
    let read = read_to_end u most c.lines.judge c.lines.reading taken c.lines.lines.number all left left' a s e met.left met.none met.within in
    subst (λ texts. IsJudgement u most taken texts c.in_ok-judgement.field-0.judged c.in_ok-judgement.field-0.undecided.items c.in_ok-judgement.field-0.window) (append-nil s.read ∙ sym read)
    (is_judgement u most taken c.lines.lines.number s.read [] (told_of c.lines.reading s.past) c.in_ok-verdict.verdict c.in_ok-judgement.field-0.judged (undecided_in c.finish.new.self) c.in_ok-judgement.field-0.undecided.items c.in_ok-judgement.field-0.window
    (read_all c.lines.reading s.past taken c.lines.lines.number s.read s.to) s.numbered.count (λ _. refl)
    (c.in_ok-verdict.ensures.verdict u.rows most (seen u s.past) s.followed) (c.in_ok-judgement.ensures.judged u s.past s.counted)
    (c.in_ok-judgement.ensures.undecided ∙ ap (λ n. aside_told n c.lines.reading.numbers.items (undecided_in c.finish.new.self)) c.number-taken.ensures.number)
    (c.in_ok-judgement.ensures.window u most s.past s.numbered (c.in_ok-verdict.ensures.verdict u.rows most (seen u s.past) s.followed) (λ line s_id e. c.in_ok-verdict.ensures.kept u.rows most (seen u s.past) s.followed))))

pub returns-in_err-verdict-2-clause-faults : goal.returns-in_err-verdict-2-clause-faults
returns-in_err-verdict-2-clause-faults g c =
    let p = err_from_is_err_and c.from_residual-in_err-verdict-2.result c.from_residual-in_err-verdict-2.ensures.1 in
    let q = c.requires in
    let taken = c.args.lines.now.number in
    let f = c.in_err-verdict-2.field-0.0 in
    let all = lines_left c.args.lines.now (g.R.Read.remaining c.args.reader.now) in
    let left = lines_left c.lines.lines (g.R.Read.remaining c.lines.reader) in
    let left' = lines_left c.advance.new.self (g.R.Read.remaining c.advance.new.reader) in
    let advanced = c.in_ok-advance.ensures.line c.if-not-branch.false in
    rw (p.1, p.2) (reading_refused q.0 q.1 c.lines.judge c.lines.reading taken c.lines.lines.number c.number.result c.advance.new.self.line f all left left' (c.lines.invariant q.0 q.1 q.2)
    (c.number.ensures.number ∙ advanced.number) advanced.left
    (subst (λ text. (past : List Line) (more : List (List ℕ)) → RefusesHistory (told_by c.lines.reading past c.number.result (text ∷ more)) f) c.line.ensures c.in_err-verdict-2.ensures.faults))

pub judgement-requires-in-Some : goal.judgement-requires-in-Some
judgement-requires-in-Some g c =
    let q = c.requires in
    let s = c.lines.invariant q.0 q.1 q.2 in
    let verdict = c.in-Some.verdict in
    let d = subst (λ found. IfSome found (λ v. (u : View) (most : ℕ) (past : List Line) → HasFollowed u most past c.lines.judge → IsNumbered u c.lines.reading past → HasCounted u past c.lines.reading.counts → Decides u most past c.number.result c.line.result.now v c.take.new.judge c.lines.reading c.take.new.self))
    c.in-Some.is c.in_ok-verdict-2.ensures.decided q.0 q.1 s.past s.followed s.numbered s.counted in
    (q.0, q.1, s.past ++ d.line ∷ [], one_numbered c.lines.reading c.take.new.self s.past c.number.result d.line d.numbers_are d.part_same s.numbered, d.decided, d.kept, d.counted)

pub returns-in-Some-clause-judged : goal.returns-in-Some-clause-judged
returns-in-Some-clause-judged g c =
    let taken = c.args.lines.now.number in
    let all = lines_left c.args.lines.now (g.R.Read.remaining c.args.reader.now) in
    let left = lines_left c.lines.lines (g.R.Read.remaining c.lines.reader) in
    let left' = lines_left c.advance.new.self (g.R.Read.remaining c.advance.new.reader) in
    let advanced = c.in_ok-advance.ensures.line c.if-not-branch.false in
    let verdict = c.in-Some.verdict in
    let number = c.number.result in
    let next = c.number.ensures.number ∙ advanced.number in
    let decides = subst (λ found. IfSome found (λ v. (u : View) (most : ℕ) (past : List Line) → HasFollowed u most past c.lines.judge → IsNumbered u c.lines.reading past → HasCounted u past c.lines.reading.counts → Decides u most past number c.line.result.now v c.take.new.judge c.lines.reading c.take.new.self))
    c.in-Some.is c.in_ok-verdict-2.ensures.decided in
    by_all all (λ a. (u : View) (most : ℕ) → IsBegun u most c.args.part.now c.args.judge.now → IsJudgement u most taken a.lines c.in_ok-judgement-2.field-0.judged c.in_ok-judgement-2.field-0.undecided.items c.in_ok-judgement-2.field-0.window) (λ a e. λ u most is.
    let s = c.lines.invariant u most is in
    let text = c.line.result.now in
    let d = decides u most s.past s.followed s.numbered s.counted in
    let stays = subst (λ t. Stays left (option_map (with_line t) left')) (sym c.line.ensures) advanced.left in
    let one = read_one u most c.lines.judge c.lines.reading taken c.lines.lines.number text all left left' a s e stays in
    subst (λ texts. IsJudgement u most taken texts c.in_ok-judgement-2.field-0.judged c.in_ok-judgement-2.field-0.undecided.items c.in_ok-judgement-2.field-0.window) (sym one.1)
    (is_judgement u most taken number (s.read ++ text ∷ []) one.0 (record { numbers = c.take.new.self.numbers.items; lines = s.past ++ d.line ∷ [] }) verdict c.in_ok-judgement-2.field-0.judged (undecided_in c.take.new.judge) c.in_ok-judgement-2.field-0.undecided.items c.in_ok-judgement-2.field-0.window
    (read_decided u most verdict c.take.new.judge c.lines.reading c.take.new.self s.past taken c.lines.lines.number number s.read text s.to next d)
    (one_numbered c.lines.reading c.take.new.self s.past number d.line d.numbers_are d.part_same s.numbered).count
    (λ legal. absurd (c.in_ok-verdict-2.ensures.never (ap Ok (c.in-Some.is ∙ ap Some legal)))) d.decided
    (c.in_ok-judgement-2.ensures.judged u (s.past ++ d.line ∷ []) d.counted)
    (c.in_ok-judgement-2.ensures.undecided ∙ ap (λ n. aside_told n c.take.new.self.numbers.items (undecided_in c.take.new.judge)) c.number-taken.ensures.number)
    (c.in_ok-judgement-2.ensures.window u most (s.past ++ d.line ∷ []) (one_numbered c.lines.reading c.take.new.self s.past number d.line d.numbers_are d.part_same s.numbered) d.decided d.kept)))

none_is : (found : Option Verdict) → ((verdict : Verdict) → found ≡ Some verdict → ⊥) → found ≡ None
none_is None h = refl
none_is (Some verdict) h = absurd (h verdict refl)

pub lines-preserved : goal.lines-preserved
lines-preserved g c = λ u most is.
    let taken = c.args.lines.now.number in
    let all = lines_left c.args.lines.now (g.R.Read.remaining c.args.reader.now) in
    let left = lines_left c.lines.lines (g.R.Read.remaining c.lines.reader) in
    let left' = lines_left c.advance.new.self (g.R.Read.remaining c.advance.new.reader) in
    let advanced = c.in_ok-advance.ensures.line c.if-not-branch.false in
    let s = c.lines.invariant u most is in
    let text = c.line.result.now in
    let number = c.number.result in
    let on = c.in_ok-verdict-2.ensures.goes_on (ap Ok (none_is c.in_ok-verdict-2.field-0 c.in_default.not-Some)) u most s.past s.followed s.numbered s.counted in
    let stays = subst (λ t. Stays left (option_map (with_line t) left')) (sym c.line.ensures) advanced.left in
    subst (λ n. ReadSoFar u most c.take.new.judge c.take.new.self taken n all left') c.number.ensures.number
    (reading_goes_on u most c.lines.judge c.take.new.judge c.lines.reading c.take.new.self taken c.lines.lines.number number text all left left' s (c.number.ensures.number ∙ advanced.number) stays on)
