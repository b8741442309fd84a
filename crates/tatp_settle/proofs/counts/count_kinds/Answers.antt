use Rattle.std.proofs.Common.{◌≡◌, List, Some, slice_get, slice_index_or, sym, ◌∙◌, ap, arith}
use Rattle.tatp_calls.specs.declared.ask.Ask.{Ask}
use Rattle.tatp_calls.specs.Calls.{procedure_of}
use Rattle.tatp_settle.specs.Answering.{is_of_kind}
use Rattle.tatp_logs.specs.Lists.{lists_of}
use Rattle.tatp_settle.proofs.CountLaws.{list_here, seen, seen_start, seen_list, count_within}
use Rattle.tatp_settle.proofs.KindLaws.{kinds_of, kind_at, is_a_kind}
use Rattle.tatp_settle.proofs.counts.count_kinds.Goals as goal

here : (c : goal.After-deref-ask-items) → slice_get (lists_of c.args.calls.now) c.lists.list-index ≡ Some c.deref-ask-items.result.now
here c = list_here (λ v. v.items) c.args.calls.now c.lists.list-index c.list-item.result c.lists-test.true c.list-item.is ∙ ap (λ (t : List Ask). Some t) (sym c.deref-ask-items.ensures.value)

pub calls-init : goal.calls-init
calls-init c = (here c, c.lists.invariant ∙ ap kinds_of (sym (seen_start (lists_of c.args.calls.now) c.lists.list-index c.deref-ask-items.result.now)))

pub lists-preserved : goal.lists-preserved
lists-preserved c = c.calls.invariant.1 ∙ ap kinds_of (seen_list (lists_of c.args.calls.now) c.lists.list-index c.deref-ask-items.result.now c.calls.ask-index c.calls.invariant.0 c.calls-test.false)

pub overflow_add-kinds : goal.overflow_add-kinds
overflow_add-kinds c =
    let p = procedure_of c.in-Txn.call in
    let is = ap (λ k. slice_index_or k c.procedure.result 0) c.calls.invariant.1 ∙ (ap (λ k. slice_index_or (kinds_of (seen (lists_of c.args.calls.now) c.lists.list-index c.deref-ask-items.result.now c.calls.ask-index)) k 0) c.procedure.ensures ∙ kind_at (seen (lists_of c.args.calls.now) c.lists.list-index c.deref-ask-items.result.now c.calls.ask-index) p 0 (is_a_kind c.in-Txn.call)) in
    omega (arith, is, c.requires.few, count_within (is_of_kind p) (lists_of c.args.calls.now) c.lists.list-index c.deref-ask-items.result.now c.calls.ask-index c.calls.invariant.0 c.calls-test.true)
