use Rattle.std.proofs.Common.{[], ◌∷◌, sym, ap, ◌∙◌}
use Rattle.tatp_homes.specs.Changes.{put_tables}
use Rattle.tatp_evaluation.proofs.WriteLaws.{location_leaves}
use Rattle.tatp_evaluation.proofs.writes.update_location.Goals as goal

pub returns-clause-rows : goal.returns-clause-rows
returns-clause-rows c =
    c.put.ensures.tables ∙ (ap (λ s. put_tables c.args.home.now.tables 33 (s ∷ 0 ∷ 0 ∷ []) c.args.vlr_location) c.s_id-s_id.ensures
    ∙ location_leaves c.args.home.now c.what_holds_of_every_home.ensures c.args.sub_nbr c.args.vlr_location (sym c.has_number.ensures ∙ c.if-not-has_number.false) c.requires.location)
