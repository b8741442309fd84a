use Rattle.std.proofs.Common.{◌∙◌, sym, ap, subst, refl, arith}
use Rattle.std.proofs.lemmas.Result.{err_from_is_err_and}
use Rattle.tatp_lines.specs.Lines.{lines_of}
use Rattle.tatp_asm.specs.Heads.{Head}
use Rattle.tatp_asm.specs.Reading.{line_in, start}
use Rattle.tatp_asm.specs.Views.{line_view, state_of}
use Rattle.tatp_asm.proofs.EarlyLaws.{IsOnTheWay, starts, passes_none, passes_some, fails_some, assembled_fault}
use Rattle.tatp_asm.proofs.assembling.procedures.Goals as goal
use Rattle.tatp_asm.proofs.assembling.procedures.Goals.{then-not-is_empty+in-Some-parse_line+in_ok-add_line-in-Some-parse_line, else-not-is_empty}

pub lines-init : goal.lines-init
lines-init c = record {
  number = c.read_head-head.ensures.room;
  fits = tt;
  reading = rw c.new-closed.ensures.items (subst (λ (h : Head). IsOnTheWay c.args.text.now h.line start h.left) (sym c.read_head-head.ensures.value) (starts c.args.text.now));
}

pub returns-in_err-add_line-in-Some-parse_line-clause-early : goal.returns-in_err-add_line-in-Some-parse_line-clause-early
returns-in_err-add_line-in-Some-parse_line-clause-early c = λ fault found before.
    let s = state_of c.lines.closed.items c.lines.draft in
    let here = subst (IsOnTheWay c.args.text.now c.lines.number s) c.in-Some.ensures.line c.lines.invariant.reading in
    let p = err_from_is_err_and c.from_residual-in_err-add_line-in-Some-parse_line.result c.from_residual-in_err-add_line-in-Some-parse_line.ensures.1 in
    let e = c.in_err-add_line-in-Some-parse_line.field-0.0 in
    let is = ap (λ (h : Head). line_in h.version c.in-Some.line.now) (sym c.read_head-head.ensures.value) ∙ sym c.in-Some-parse_line.ensures.value in
    let same = fails_some c.args.text.now c.lines.number s c.in-Some.line.now (lines_of c.in-Some.after.now) (line_view c.in-Some-parse_line.line) e fault (sym c.if-not-is_empty.ensures) here
    is c.in_err-add_line-in-Some-parse_line.ensures.gives c.in_err-add_line-in-Some-parse_line.ensures.early (assembled_fault c.args.text.now fault found) before in
    rw (p.1, p.2, same) refl

pub lines-preserved : goal.lines-preserved
lines-preserved c =
    let s = state_of c.lines.closed.items c.lines.draft in
    let here = subst (IsOnTheWay c.args.text.now c.lines.number s) c.in-Some.ensures.line c.lines.invariant.reading in
    let version = ap (λ (h : Head). line_in h.version c.in-Some.line.now) (sym c.read_head-head.ensures.value) in
    elim c.if-not-is_empty.branch [
      | then-not-is_empty+in-Some-parse_line+in_ok-add_line-in-Some-parse_line w ↦ rw (w.closed-is, w.draft-is) (record {
        number = omega (arith, c.lines.invariant.number, c.in-Some.ensures.shorter);
        fits = w.in_ok-add_line-in-Some-parse_line.ensures.fits;
        reading = passes_some c.args.text.now c.lines.number s (state_of w.add_line.new.closed.items w.add_line.new.draft) c.in-Some.line.now (lines_of c.in-Some.after.now) (line_view w.in-Some-parse_line.line) (sym w.if-not-is_empty.ensures) here
            (version ∙ sym w.in-Some-parse_line.ensures.value) w.in_ok-add_line-in-Some-parse_line.ensures.gives;
      })
      | else-not-is_empty w ↦ rw (w.closed-is, w.draft-is) (record {
        number = omega (arith, c.lines.invariant.number, c.in-Some.ensures.shorter);
        fits = c.lines.invariant.fits;
        reading = passes_none c.args.text.now c.lines.number s c.in-Some.line.now (lines_of c.in-Some.after.now) (sym w.if-not-is_empty.ensures) here;
      })
    ]
