use Rattle.std.proofs.Common.{ℕ, List, OnErr, subst, arith}
use Rattle.std.proofs.lemmas.Result.{err_from_is_err_and}
use Rattle.std.specs.String.{string_bytes}
use Rattle.tatp_dispatch.specs.Gathered.{gathered}
use Rattle.tatp_streams.specs.Writing.{AppendsFront}
use Rattle.tatp_console.proofs.RowsLaws.{rows_so_far, rows_cut, rows_end_cut}
use Rattle.tatp_console.proofs.rows.write_homes.Goals as goal

pub returns-in_err-push_home-clause-front : goal.returns-in_err-push_home-clause-front
returns-in_err-push_home-clause-front g c =
    let p = err_from_is_err_and c.from_residual-in_err-push_home.result c.from_residual-in_err-push_home.ensures.1 in
    rw (p.1) (rows_so_far (gathered c.args.world.now) c.args.subscribers c.homes.before (g.W.Write.contents c.args.writer.now) (g.W.Write.contents c.homes.writer) (string_bytes c.homes.pending)
    c.homes.invariant)

pub returns-in_err-write_if_full-clause-front : goal.returns-in_err-write_if_full-clause-front
returns-in_err-write_if_full-clause-front g c =
    let p = err_from_is_err_and c.from_residual-in_err-write_if_full.result c.from_residual-in_err-write_if_full.ensures.1 in
    rw (p.1) (rows_cut (gathered c.args.world.now) c.args.subscribers c.homes.before (g.W.Write.contents c.args.writer.now) (g.W.Write.contents c.homes.writer) (g.W.Write.contents c.write_if_full.new.writer)
    (string_bytes c.homes.pending) (string_bytes c.push_home.new.pending) c.homes.invariant (omega (arith, c.homes-test.true)) c.in_ok-push_home.ensures c.in_err-write_if_full.ensures.front)

pub returns-clause-front : goal.returns-clause-front
returns-clause-front g c =
    rows_end_cut c.write_last.result (gathered c.args.world.now) c.args.subscribers c.homes.before (g.W.Write.contents c.args.writer.now) (g.W.Write.contents c.homes.writer) (g.W.Write.contents c.write_last.new.writer)
    (string_bytes c.homes.pending) c.homes.invariant
    (subst (λ (b : List ℕ). OnErr c.write_last.result (AppendsFront b (g.W.Write.contents c.homes.writer) (g.W.Write.contents c.write_last.new.writer))) c.as_bytes.ensures.value c.write_last.ensures.front)
