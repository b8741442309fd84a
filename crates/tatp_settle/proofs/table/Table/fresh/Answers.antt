use Rattle.std.proofs.Common.{None, length, refl, sym, ◌∙◌, ◌++◌, ◌∷◌, [], ap, subst, replicate, take, arith}
use Rattle.std.proofs.lemmas.List.{take_all, length-map}
use Rattle.std.proofs.lemmas.Option.{slice_get_read}
use Rattle.tatp_logs.specs.Receipts.{ReceiptsState, receipts_of}
use Rattle.tatp_settle.specs.Runs.{at_call}
use Rattle.tatp_settle.specs.Placing.{IsFresh, cells_of}
use Rattle.tatp_settle.proofs.TableLaws.{fresh_more, fresh_are_fresh, fresh_rows, fresh_row}
use Rattle.tatp_settle.proofs.table.Table.fresh.Goals as goal

pub lists-preserved : goal.lists-preserved
lists-preserved g c =
    c.in_ok-add_row.ensures
    ∙ (ap (λ n. c.lists.table ++ replicate n None ∷ []) c.len.ensures
    ∙ fresh_more (λ (v : ReceiptsState). v.receipts) _ c.args.receipts.now c.lists.table c.lists.list-index c.list-item.result
    (slice_get_read c.args.receipts.now (length c.args.receipts.now) c.lists.list-index c.list-item.result refl c.lists-test.true c.list-item.is)
    c.lists.invariant)

pub returns-clause-fresh : goal.returns-clause-fresh
returns-clause-fresh g c = subst (λ table. IsFresh (at_call (receipts_of c.args.receipts.now)) (cells_of table))
    (ap (fresh_rows _) (sym (take_all c.lists.list-index (receipts_of c.args.receipts.now) (omega (arith, c.lists-test.false, length-map c.args.receipts.now (λ (v : ReceiptsState). v.receipts))))) ∙ sym c.lists.invariant)
    (fresh_are_fresh _ (receipts_of c.args.receipts.now))

pub returns-clause-len : goal.returns-clause-len
returns-clause-len g c =
    ap length c.lists.invariant
    ∙ (length-map (take c.lists.list-index (receipts_of c.args.receipts.now)) (fresh_row _)
    ∙ (ap length (take_all c.lists.list-index (receipts_of c.args.receipts.now) (omega (arith, c.lists-test.false, length-map c.args.receipts.now (λ (v : ReceiptsState). v.receipts))))
    ∙ length-map c.args.receipts.now (λ (v : ReceiptsState). v.receipts)))
