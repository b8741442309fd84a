use Rattle.std.proofs.Common.{◌≡◌, Bool, Some, filter, not, slice_get, inr, rules, sym, ap, ◌∙◌, subst}
use Rattle.std.proofs.lemmas.Fn.{filter_same}
use Rattle.tatp_homes.specs.Home.{SubscriberRows}
use Rattle.tatp_history.specs.declared.observed.Observed.{Observed}
use Rattle.tatp_history.specs.Histories.{MayHaveReply}
use Rattle.tatp_calls.specs.Transactions.{transaction}
use Rattle.tatp_linearization.specs.Unseen.{sees}
use Rattle.tatp_linearization.specs.Clusters.{ReadsOfLocationFit}
use Rattle.tatp_linearization.proofs.PlaceLaws.{get_at}
use Rattle.tatp_linearization.proofs.clusters.let_go_with.Goals as goal

pub returns : goal.returns
returns c =
    let x : Observed = c.index.result.now in
    let at : slice_get c.args.opened.now.items c.args.place ≡ Some x = get_at _ _ _ c.requires.inside c.index.ensures in
    let rows = c.evaluate.ensures.rows ∙ ap (λ (h : SubscriberRows). (transaction x.call h.tables).database) c.copy-after.ensures in
    let reply = c.evaluate.ensures.reply ∙ ap (λ (h : SubscriberRows). (transaction x.call h.tables).reply) c.copy-after.ensures in
    let test : Observed → Bool = λ z. not (sees c.args.location z) in
    let others : c.retain.new.self.items ≡ filter test c.remove.new.self.items
    = filter_same _ test _ (λ z b g k. (search rules, search rules)) c.remove.new.self.items c.retain.new.self.items c.retain.ensures.filtered in
    inr (
      x,
      record {
        at = at;
        may = subst (MayHaveReply x.outcome) reply (c.allows.ensures.0 c.if-not-allows.false);
        rows = c.reads_of_location_fit.ensures.rows ∙ rows;
        fit = subst (λ v. ReadsOfLocationFit c.args.location v c.args.opened.now.items) (sym c.reads_of_location_fit.ensures.rows)
            (subst (λ xs. ReadsOfLocationFit c.args.location c.evaluate.new.home.tables xs) c.as_slice.ensures.value (c.reads_of_location_fit.ensures.fit c.if-not-reads_of_location_fit.false));
        others = others ∙ ap (filter test) c.remove.ensures.items;
      },
    )
