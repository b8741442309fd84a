use Rattle.std.proofs.Common.{ap, ◌∙◌, ◌++◌, ◌∷◌, []}
use Rattle.tatp_homes.specs.Home.{SubscriberRows}
use Rattle.tatp_tables.specs.Rows.{with_home}
use Rattle.tatp_homes.specs.Cells.{present}
use Rattle.tatp_homes.proofs.ListingLaws.{listed, on_ok}
use Rattle.tatp_homes.proofs.home.Home.append_to.Goals as goal

pub returns-clause-ok : goal.returns-clause-ok
returns-clause-ok c =
    let f = c.self.inside in
    let r = c.args.rows.now in
    on_ok c.append_cells-4.result _ _ (λ last.
    (λ i. record {
      subscribers = (c.in_ok-append_cells.ensures.ok ∙ ap (λ cell. r.subscribers ++ present (cell ∷ [])) c.subscriber_in.ensures) i;
      accesses = (c.in_ok-append_cells-2.ensures.ok ∙ ap (λ cells. r.accesses ++ present cells) c.accesses_in.ensures) i;
      facilities = (c.in_ok-append_cells-3.ensures.ok ∙ ap (λ cells. r.facilities ++ present cells) c.facilities_in.ensures) i;
      forwardings = (last ∙ ap (λ cells. r.forwardings ++ present cells) c.forwardings_in.ensures) i;
    })
    ∙ listed f.s_id f.subscriber f.accesses f.facilities f.forwardings r c.self.invariant
    ∙ ap (λ (h : SubscriberRows). with_home r h.tables) c.self.view_is) c.append_cells-4.ensures.ok
