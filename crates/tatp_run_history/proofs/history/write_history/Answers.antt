use Rattle.std.proofs.Common.{◌<◌, sum_by, Some, slice_set, length, refl, sym, ap, subst, ◌∙◌, arith}
use Rattle.std.specs.String.{string_bytes}
use Rattle.std.proofs.lemmas.List.{map-set}
use Rattle.std.proofs.lemmas.Option.{slice_get_read}
use Rattle.std.proofs.lemmas.Result.{err_from_is_err_and}
use Rattle.tatp_logs.specs.Receipts.{receipts_of}
use Rattle.tatp_logs.specs.Lists.{lists_of}
use Rattle.tatp_run_history.specs.ClientLines.{all_lines}
use Rattle.tatp_run_history.specs.Interleaving.{HasFirst, AllAreEmpty}
use Rattle.tatp_run_history.specs.Parts.{rest_of, rests_of}
use Rattle.tatp_run_history.proofs.PartLaws.{rest_at, place_within, not_done}
use Rattle.tatp_run_history.proofs.MergeLaws.{fewer_left}
use Rattle.tatp_run_history.proofs.WritingLaws.{head_pending, line_pending, flushed, all_told, told_held, told_cut}
use Rattle.tatp_run_history.proofs.history.write_history.Goals as goal

pub index-requires : goal.index-requires
index-requires g c =
    let first = subst (λ parts. HasFirst (rests_of parts) c.in-Some.place) c.as_slice.ensures.value c.in-Some.ensures.some in
    omega (arith, place_within c.lines.parts.items c.in-Some.place first, c.lines.parts.ok.0)

pub push_first-requires : goal.push_first-requires
push_first-requires g c =
    let parts = c.lines.parts.items in
    let first = subst (λ parts. HasFirst (rests_of parts) c.in-Some.place) c.as_slice.ensures.value c.in-Some.ensures.some in
    let at = slice_get_read parts (length parts) c.in-Some.place c.index.result.now refl (place_within parts c.in-Some.place first) c.index.ensures in
    not_done parts c.in-Some.place c.index.result.now first at

pub index_mut-requires : goal.index_mut-requires
index_mut-requires g c =
    let first = subst (λ parts. HasFirst (rests_of parts) c.in-Some.place) c.as_slice.ensures.value c.in-Some.ensures.some in
    omega (arith, place_within c.lines.parts.items c.in-Some.place first, c.lines.parts.ok.0)

-- ---- the lines
pub lines-smaller : goal.lines-smaller
lines-smaller g c =
    let parts = c.lines.parts.items in
    let place = c.in-Some.place in
    let first = subst (λ parts. HasFirst (rests_of parts) place) c.as_slice.ensures.value c.in-Some.ensures.some in
    let at = slice_get_read parts (length parts) place c.index.result.now refl (place_within parts place first) c.index.ensures in
    let pushed = c.in_ok-push_first-in-Some.ensures in
    let here = rest_at parts place c.index.result.now at ∙ ap Some pushed.1 in
    subst (λ rests. sum_by length rests < sum_by length (rests_of parts)) (sym (map-set rest_of parts place c.push_first.new.self))
    (fewer_left (rests_of parts) place pushed.0 (rest_of c.push_first.new.self) here)

pub lines-preserved : goal.lines-preserved
lines-preserved g c =
    let lists = all_lines 0 (lists_of c.args.lists.now) (receipts_of c.args.receipts.now) in
    let head = string_bytes c.args.head in
    let old = g.W.Write.contents c.args.writer.now in
    let parts = c.lines.parts.items in
    let place = c.in-Some.place in
    let first = subst (λ parts. HasFirst (rests_of parts) place) c.as_slice.ensures.value c.in-Some.ensures.some in
    let at = slice_get_read parts (length parts) place c.index.result.now refl (place_within parts place first) c.index.ensures in
    let pushed = c.in_ok-push_first-in-Some.ensures in
    let here = rest_at parts place c.index.result.now at ∙ ap Some pushed.1 in
    let longer = line_pending lists (rests_of parts) _ head old (g.W.Write.contents c.lines.writer) (string_bytes c.lines.pending) (string_bytes c.push_first.new.text) place pushed.0 (rest_of c.push_first.new.self)
    c.lines.invariant here (map-set rest_of parts place c.push_first.new.self) pushed.2 in
    flushed lists _ head old (g.W.Write.contents c.lines.writer) (g.W.Write.contents c.write_if_full.new.writer) (string_bytes c.push_first.new.text) (string_bytes c.write_if_full.new.pending) longer c.in_ok-write_if_full-in-Some.ensures.ok

pub returns-in-None-clause-written : goal.returns-in-None-clause-written
returns-in-None-clause-written g c =
    let lists = all_lines 0 (lists_of c.args.lists.now) (receipts_of c.args.receipts.now) in
    let none = subst (λ parts. AllAreEmpty (rests_of parts)) c.as_slice.ensures.value c.in-None.ensures.none in
    all_told lists (rests_of c.lines.parts.items) (string_bytes c.args.head) (g.W.Write.contents c.args.writer.now) (g.W.Write.contents c.lines.writer) (g.W.Write.contents c.write_last.new.writer)
    (string_bytes c.lines.pending) c.lines.invariant none (rw c.as_bytes.ensures.value at c.in_ok-write_last-in-None.ensures.ok)

-- ---- the errors
pub returns-in_err-parts-clause-front : goal.returns-in_err-parts-clause-front
returns-in_err-parts-clause-front g c =
    let p = err_from_is_err_and c.from_residual.result c.from_residual.ensures.1 in
    let lists = all_lines 0 (lists_of c.args.lists.now) (receipts_of c.args.receipts.now) in
    let head = string_bytes c.args.head in
    let old = g.W.Write.contents c.args.writer.now in
    rw p.1 (told_held lists lists head old old head (head_pending lists lists head old refl))

pub returns-in_err-push_first-in-Some-clause-front : goal.returns-in_err-push_first-in-Some-clause-front
returns-in_err-push_first-in-Some-clause-front g c =
    let p = err_from_is_err_and c.from_residual-in_err-push_first-in-Some.result c.from_residual-in_err-push_first-in-Some.ensures.1 in
    let lists = all_lines 0 (lists_of c.args.lists.now) (receipts_of c.args.receipts.now) in
    rw p.1 (told_held lists (rests_of c.lines.parts.items) (string_bytes c.args.head) (g.W.Write.contents c.args.writer.now) (g.W.Write.contents c.lines.writer) (string_bytes c.lines.pending) c.lines.invariant)

pub returns-in_err-write_if_full-in-Some-clause-front : goal.returns-in_err-write_if_full-in-Some-clause-front
returns-in_err-write_if_full-in-Some-clause-front g c =
    let p = err_from_is_err_and c.from_residual-in_err-write_if_full-in-Some.result c.from_residual-in_err-write_if_full-in-Some.ensures.1 in
    let lists = all_lines 0 (lists_of c.args.lists.now) (receipts_of c.args.receipts.now) in
    let head = string_bytes c.args.head in
    let old = g.W.Write.contents c.args.writer.now in
    let parts = c.lines.parts.items in
    let place = c.in-Some.place in
    let first = subst (λ parts. HasFirst (rests_of parts) place) c.as_slice.ensures.value c.in-Some.ensures.some in
    let at = slice_get_read parts (length parts) place c.index.result.now refl (place_within parts place first) c.index.ensures in
    let pushed = c.in_ok-push_first-in-Some.ensures in
    let here = rest_at parts place c.index.result.now at ∙ ap Some pushed.1 in
    let rests = slice_set (rests_of parts) place (rest_of c.push_first.new.self) in
    let longer = line_pending lists (rests_of parts) rests head old (g.W.Write.contents c.lines.writer) (string_bytes c.lines.pending) (string_bytes c.push_first.new.text) place pushed.0 (rest_of c.push_first.new.self)
    c.lines.invariant here refl pushed.2 in
    rw p.1 (told_cut lists rests head old (g.W.Write.contents c.lines.writer) (g.W.Write.contents c.write_if_full.new.writer) (string_bytes c.push_first.new.text) longer c.in_err-write_if_full-in-Some.ensures.front)

pub returns-in_err-write_last-in-None-clause-front : goal.returns-in_err-write_last-in-None-clause-front
returns-in_err-write_last-in-None-clause-front g c =
    let p = err_from_is_err_and c.from_residual-in_err-write_last-in-None.result c.from_residual-in_err-write_last-in-None.ensures.1 in
    let lists = all_lines 0 (lists_of c.args.lists.now) (receipts_of c.args.receipts.now) in
    rw p.1 (told_cut lists (rests_of c.lines.parts.items) (string_bytes c.args.head) (g.W.Write.contents c.args.writer.now) (g.W.Write.contents c.lines.writer) (g.W.Write.contents c.write_last.new.writer)
    (string_bytes c.lines.pending) c.lines.invariant (rw c.as_bytes.ensures.value at c.in_err-write_last-in-None.ensures.front))
