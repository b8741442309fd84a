use Rattle.std.proofs.Common.{◌≡◌, Ok, Some, slice_get, remove, sym, ap, ◌∙◌, subst, true≢false}
use Rattle.tatp_homes.specs.Home.{SubscriberRows}
use Rattle.tatp_history.specs.declared.observed.Observed.{Observed}
use Rattle.tatp_history.specs.Histories.{MayHaveReply}
use Rattle.tatp_history.specs.Locality.{AreAccepted}
use Rattle.tatp_calls.specs.Arguments.{arguments_accepted}
use Rattle.tatp_calls.specs.Transactions.{transaction}
use Rattle.tatp_history.specs.Changes.{changes_nothing}
use Rattle.tatp_linearization.specs.AtOnce.{AreLeft}
use Rattle.tatp_linearization.specs.Overwritten.{AreOut}
use Rattle.tatp_linearization.proofs.PlaceLaws.{all_remove, get_at, same_item}
use Rattle.tatp_linearization.proofs.SettlingLaws.{left_all}
use Rattle.tatp_linearization.proofs.configuration.take.Goals as goal

pub returns : goal.returns
returns c =
    let x : Observed = c.index-x.result.now in
    let own = c.args.c.now in
    let at : slice_get c.args.c.now.opened.items c.args.i ≡ Some x = get_at _ _ _ c.requires.inside c.index-x.ensures in
    let rows : c.evaluate.new.home.tables ≡ (transaction x.call c.args.c.now.home.tables).database = c.evaluate.ensures.rows ∙ ap (λ (h : SubscriberRows). (transaction x.call h.tables).database) c.copy-home.ensures in
    let reply = c.evaluate.ensures.reply ∙ ap (λ (h : SubscriberRows). (transaction x.call h.tables).reply) c.copy-home.ensures in
    let others = c.in_ok-opened.ensures ∙ ap (λ xs. remove xs c.args.i) c.as_slice.ensures.value in
    let left = c.settle.new.opened.items in
    let settled : AreLeft (transaction x.call c.args.c.now.home.tables).database (remove c.args.c.now.opened.items c.args.i) left
    = subst (λ u. AreLeft u (remove c.args.c.now.opened.items c.args.i) left) rows (subst (λ xs. AreLeft c.evaluate.new.home.tables xs left) others c.settle.ensures.left) in (
      x,
      record {
        at = at;
        writes = sym c.changes_nothing.ensures ∙ c.if-changes_nothing.false;
        may = subst (MayHaveReply x.outcome) reply (c.allows.ensures.0 c.if-not-allows.false);
        rows = c.settle.ensures.rows ∙ rows;
        settled = settled;
        own = c.settle.ensures.own ∙ (c.evaluate.ensures.same ∙ ap (λ (h : SubscriberRows). h.s_id) c.copy-home.ensures);
        home = c.what_holds_of_every_home.ensures;
        overwritten = record {
          still = c.overwritten_before-overwritten.ensures.still;
          others = subst (AreOut c.args.c.now.home.tables x.call c.args.c.now.overwritten c.overwritten_before-overwritten.result) c.as_slice-2.ensures.value c.overwritten_before-overwritten.ensures.others;
        };
      },
    )

pub overwritten_before-overwritten-requires-clause-accepted : goal.overwritten_before-overwritten-requires-clause-accepted
overwritten_before-overwritten-requires-clause-accepted c =
    let accepts : Observed → Type 0 = λ (z : Observed). arguments_accepted z.call ≡ Ok tt in
    let others = c.in_ok-opened.ensures ∙ ap (λ xs. remove xs c.args.i) c.as_slice.ensures.value in
    subst AreAccepted (sym c.as_slice-2.ensures.value) (left_all accepts c.evaluate.new.home.tables c.in_ok-opened.opened.items c.settle.new.opened.items c.settle.ensures.left
    (subst AreAccepted (sym others) (all_remove accepts c.args.c.now.opened.items c.args.i c.requires.accepted)))

pub returns-then-changes_nothing : goal.returns-then-changes_nothing
returns-then-changes_nothing c = λ y there writes may.
    let x : Observed = c.index-x.result.now in
    let at : slice_get c.args.c.now.opened.items c.args.i ≡ Some x = get_at _ _ _ c.requires.inside c.index-x.ensures in
    let one : y ≡ x = same_item c.args.c.now.opened.items c.args.i y x there at in
    true≢false (sym c.if-changes_nothing.true ∙ (c.changes_nothing.ensures ∙ (ap changes_nothing (sym one) ∙ writes)))

pub returns-then-not-allows : goal.returns-then-not-allows
returns-then-not-allows c = λ y there writes may.
    let x : Observed = c.index-x.result.now in
    let at : slice_get c.args.c.now.opened.items c.args.i ≡ Some x = get_at _ _ _ c.requires.inside c.index-x.ensures in
    let one : y ≡ x = same_item c.args.c.now.opened.items c.args.i y x there at in
    let own : MayHaveReply x.outcome (transaction x.call c.args.c.now.home.tables).reply = subst (λ (z : Observed). MayHaveReply z.outcome (transaction z.call c.args.c.now.home.tables).reply) one may in
    let reply = c.evaluate.ensures.reply ∙ ap (λ (h : SubscriberRows). (transaction x.call h.tables).reply) c.copy-home.ensures in
    true≢false (sym (c.allows.ensures.1 (subst (MayHaveReply x.outcome) (sym reply) own)) ∙ c.if-not-allows.true)
