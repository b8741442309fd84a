use Rattle.std.proofs.Common.{◌≡◌, Some, slice_get, sym, ap, ◌∙◌, subst, arith, inl, inr}
use Rattle.tatp_calls.specs.Transactions.{transaction}
use Rattle.tatp_history.specs.Configurations.{Configuration}
use Rattle.tatp_linearization.specs.declared.configuration.Configuration.{Configuration as Held}
use Rattle.tatp_linearization.specs.Listed.{IsListed}
use Rattle.tatp_linearization.proofs.PlaceLaws.{get_at, below_or_is, same_item}
use Rattle.tatp_linearization.proofs.HeldLaws.{has_get}
use Rattle.tatp_linearization.proofs.legal.replies_on.Goals as goal

pub rows-preserved : goal.rows-preserved
rows-preserved c =
    let b : Held = c.index-rows-i.result in
    let at : slice_get c.args.rows.now c.rows.i ≡ Some b = get_at c.args.rows.now c.rows.i b c.rows-test.true c.index-rows-i.is in
    λ k d lt there. (c.in_ok-add_reply.ensures.added (transaction c.args.call.now d.home.tables).reply).1 (elim (below_or_is k c.rows.i lt) [
      | inl less ↦ inl (c.rows.invariant k d less there)
      | inr is ↦
          let one : d ≡ b = same_item c.args.rows.now c.rows.i d b (subst (λ n. slice_get c.args.rows.now n ≡ Some d) is there) at in
          inr (ap (λ (q : Held). (transaction c.args.call.now q.home.tables).reply) one ∙ sym c.reply_on.ensures)
    ])

pub returns : goal.returns
returns c = λ d has.
    let there = has_get c.args.rows.now d has in
    let lt = there.1 in
    subst (λ (e : Configuration). IsListed (transaction c.args.call.now e.rows).reply c.rows.replies.items) (sym there.4) (c.rows.invariant there.0 there.2 (omega (arith, lt, c.rows-test.false)) there.3)
