use Rattle.std.proofs.Common.{◌≡◌, ℕ, suc, ◌+◌, ◌<◌, length, drop, sym, ◌∙◌, subst, true≢false, arith, eqb-true}
use Rattle.tatp_history.specs.declared.observed.Observed.{Observed}
use Rattle.tatp_linearization.specs.Overwritten.{IsBlind, AreButSome}
use Rattle.tatp_linearization.proofs.PlaceLaws.{get_some}
use Rattle.tatp_linearization.proofs.ButSomeLaws.{AreWithin, within_kept, within_gone, within_end, within_but}
use Rattle.tatp_linearization.proofs.covering.is_opened_within.Goals as goal
use Rattle.tatp_linearization.proofs.covering.is_opened_within.Goals.{then-is_kept, else-is_kept+else-not-may_be_left_out}

pub calls-preserved : goal.calls-preserved
calls-preserved c =
    let k = c.args.c.now in
    let d = c.args.d.now in
    let i : ℕ = c.calls.i in
    let inside : c.calls.i < length c.args.c.now.opened.items = omega (arith, c.calls-test.true, c.len-i-end.ensures, c.args.c.now.opened.ok.0) in
    let F : Observed → Type 0 = IsBlind c.args.c.now.home.tables in
    let inv = c.calls.invariant in
    let next : suc c.calls.i ≡ c.calls.i + 1 = omega arith in
    elim c.if-is_kept.branch [
      | then-is_kept w ↦
          let kept = c.is_kept.ensures.kept w.if-is_kept.true in
          let is : c.if-is_kept.j ≡ c.calls.j + 1 = w.j-is in
          let there = kept.inside in
          let step : c.if-is_kept.j ≡ suc c.calls.j = omega (arith, is) in
          record {
            within = λ rest. inv.within (within_kept F k.overwritten d.overwritten k.opened.items d.opened.items i c.calls.j kept.call kept.first kept.second kept.early
                (subst (λ n. AreWithin F k.overwritten d.overwritten (drop n k.opened.items) (drop (suc c.calls.j) d.opened.items)) (sym next)
                (subst (λ n. AreWithin F k.overwritten d.overwritten (drop (c.calls.i + 1) k.opened.items) (drop n d.opened.items)) step rest)));
            inside = omega (arith, is, there);
            same = λ items less. let e = inv.same items less in omega (arith, is, e);
          }
      | else-is_kept+else-not-may_be_left_out w ↦
          let is : c.if-is_kept.j ≡ c.calls.j = w.j-is in
          let at = get_some k.opened.items i inside in
          let gone = w.may_be_left_out.ensures.0 w.if-not-may_be_left_out.false at.0 at.1 in
          let bound = inv.inside in
          record {
            within = λ rest. inv.within (within_gone F k.overwritten d.overwritten k.opened.items (drop c.calls.j d.opened.items) i at.0 at.1 gone.0 gone.1
                (subst (λ n. AreWithin F k.overwritten d.overwritten (drop n k.opened.items) (drop c.calls.j d.opened.items)) (sym next)
                (subst (λ n. AreWithin F k.overwritten d.overwritten (drop (c.calls.i + 1) k.opened.items) (drop n d.opened.items)) is rest)));
            inside = omega (arith, is, bound);
            same = λ items less. absurd (true≢false (sym (c.is_kept.ensures.same items less (sym (inv.same items less))) ∙ w.if-is_kept.false));
          }
    ]

pub returns-clause-covers : goal.returns-clause-covers
returns-clause-covers c = λ yes rows e stands.
    let k = c.args.c.now in
    let d = c.args.d.now in
    let F = IsBlind c.args.c.now.home.tables in
    let end : c.calls.j ≡ c.len.result = eqb-true c.calls.j c.len.result yes in
    let within = c.calls.invariant.within (within_end F k.overwritten d.overwritten k.opened.items d.opened.items c.calls.i c.calls.j
    (omega (arith, c.calls-test.false, c.len-i-end.ensures, c.args.c.now.opened.ok.0)) (omega (arith, end, c.len.ensures, c.args.d.now.opened.ok.0))) in
    record {
      rows = stands.rows ∙ sym rows;
      opened = within_but F k.overwritten d.overwritten k.opened.items d.opened.items e.opened within (subst (λ u. AreButSome (IsBlind u) d.overwritten d.opened.items e.opened) (sym rows) stands.opened);
    }
