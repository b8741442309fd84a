use Rattle.std.proofs.Common.{[], ◌∷◌, slice_index, sym, ap, ◌∙◌}
use Rattle.tatp_tables.specs.Database.{Database}
use Rattle.tatp_homes.specs.Changes.{put_tables}
use Rattle.tatp_evaluation.proofs.WriteLaws.{updates}
use Rattle.tatp_evaluation.proofs.writes.update_subscriber_data.Goals as goal

pub returns-clause-reply : goal.returns-clause-reply
returns-clause-reply c =
    let law = updates c.args.home.now c.what_holds_of_every_home.ensures (slice_index c.args.facility 0) c.args.bit_1 (slice_index c.args.facility 1) c.args.data_a (sym c.has_facility.ensures ∙ c.if-not-has_facility.false) c.requires.bit_1 c.requires.data_a in
    c.set-2.ensures ∙ law.reply

pub returns-clause-rows : goal.returns-clause-rows
returns-clause-rows c =
    let law = updates c.args.home.now c.what_holds_of_every_home.ensures (slice_index c.args.facility 0) c.args.bit_1 (slice_index c.args.facility 1) c.args.data_a (sym c.has_facility.ensures ∙ c.if-not-has_facility.false) c.requires.bit_1 c.requires.data_a in
    c.put-2.ensures.tables ∙ (ap (λ (u : Database). put_tables u 44 (slice_index c.args.facility 0 ∷ slice_index c.args.facility 1 ∷ 0 ∷ []) c.args.data_a) c.put.ensures.tables ∙ law.rows)
