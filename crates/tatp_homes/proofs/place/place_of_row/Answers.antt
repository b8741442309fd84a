use Rattle.std.proofs.Common.{◌≡◌, length, rules, sym, ◌∙◌}
use Rattle.tatp_homes.proofs.StorageLaws.{five_in_domain, five_fit}
use Rattle.tatp_homes.proofs.place.place_of_row.Goals as goal

pub returns-then-in_domain-3-clause-domain : goal.returns-then-in_domain-3-clause-domain
returns-then-in_domain-3-clause-domain c =
    let long : length c.args.row.now ≡ 5 = search rules in
    c.forwarding_place.ensures.domain
    ∙ five_fit _ _ _ _ _ (sym c.if-in_domain.ensures) (sym c.if-in_domain-2.ensures) (sym c.if-in_domain-3.ensures) ∙ sym (five_in_domain c.args.row.now long)
