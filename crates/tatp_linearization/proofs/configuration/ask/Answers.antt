use Rattle.std.proofs.Common.{◌≡◌, [], ◌∷◌, ◌++◌, inr, sym, ap, ◌∙◌, subst, true≢false}
use Rattle.tatp_tables.specs.Database.{Database}
use Rattle.tatp_homes.specs.Home.{SubscriberRows}
use Rattle.tatp_history.specs.declared.observed.Observed.{Observed}
use Rattle.tatp_linearization.specs.AtOnce.{NeedsNoPlace}
use Rattle.tatp_linearization.proofs.configuration.ask.Goals as goal

pub returns-clause-asked : goal.returns-clause-asked
returns-clause-asked c =
    let x : Observed = c.args.x.now in
    let rows : c.copy-home.result.tables ≡ c.args.c.now.home.tables = ap (λ (h : SubscriberRows). h.tables) c.copy-home.ensures in
    let items = c.in_ok-extend_from_slice.ensures.items
    ∙ (ap (λ xs. xs ++ c.as_slice-2.result.now) (c.in_ok-push.ensures.items ∙ ap (λ xs. xs ++ x ∷ []) c.new-opened.ensures.items)
    ∙ ap (λ xs. x ∷ xs) c.as_slice-2.ensures.value) in
    let kept = c.needs_no_place.ensures.rows ∙ rows in
    record {
      follows = inr (
        λ needs. true≢false (sym (c.needs_no_place.ensures.none.1 (subst (λ (u : Database). NeedsNoPlace u x) (sym rows) needs)) ∙ c.if-needs_no_place.false),
        λ i. record { rows = kept i; opened = items i },
      );
      own = c.needs_no_place.ensures.own ∙ ap (λ (h : SubscriberRows). h.s_id) c.copy-home.ensures;
    }
