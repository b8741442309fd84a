use Rattle.std.proofs.Common.{[], ◌∷◌, slice_index, sym, ap, ◌∙◌}
use Rattle.tatp_homes.specs.Changes.{insert_answer, insert_tables}
use Rattle.tatp_calls.specs.declared.reply.Reply.TheVariants.{Failed}
use Rattle.tatp_evaluation.proofs.WriteLaws.{reply_to_insert, inserts}
use Rattle.tatp_evaluation.proofs.writes.insert_call_forwarding.Goals as goal

pub returns-in-Ok-clause-reply : goal.returns-in-Ok-clause-reply
returns-in-Ok-clause-reply c =
    let law = inserts c.args.home.now c.what_holds_of_every_home.ensures c.args.sub_nbr (slice_index c.args.columns 0) (slice_index c.args.columns 1) (slice_index c.args.columns 2) (slice_index c.args.columns 3) (sym c.has_number.ensures ∙ c.if-not-has_number.false) c.requires.facility c.requires.start c.requires.end c.requires.number in
    c.set-in-Ok.ensures ∙ (ap reply_to_insert (sym c.in-Ok.is ∙ c.insert_cf.ensures.answer)
    ∙ (ap (λ s. reply_to_insert (insert_answer c.args.home.now.tables (s ∷ slice_index c.args.columns 0 ∷ slice_index c.args.columns 1 ∷ slice_index c.args.columns 2 ∷ slice_index c.args.columns 3 ∷ []))) c.s_id.ensures ∙ law.reply))

pub returns-in-Ok-clause-rows : goal.returns-in-Ok-clause-rows
returns-in-Ok-clause-rows c =
    let law = inserts c.args.home.now c.what_holds_of_every_home.ensures c.args.sub_nbr (slice_index c.args.columns 0) (slice_index c.args.columns 1) (slice_index c.args.columns 2) (slice_index c.args.columns 3) (sym c.has_number.ensures ∙ c.if-not-has_number.false) c.requires.facility c.requires.start c.requires.end c.requires.number in
    c.insert_cf.ensures.tables ∙ (ap (λ s. insert_tables c.args.home.now.tables (s ∷ slice_index c.args.columns 0 ∷ slice_index c.args.columns 1 ∷ slice_index c.args.columns 2 ∷ slice_index c.args.columns 3 ∷ [])) c.s_id.ensures ∙ law.rows)

pub returns-in-Err-clause-reply : goal.returns-in-Err-clause-reply
returns-in-Err-clause-reply c =
    let law = inserts c.args.home.now c.what_holds_of_every_home.ensures c.args.sub_nbr (slice_index c.args.columns 0) (slice_index c.args.columns 1) (slice_index c.args.columns 2) (slice_index c.args.columns 3) (sym c.has_number.ensures ∙ c.if-not-has_number.false) c.requires.facility c.requires.start c.requires.end c.requires.number in
    c.set-in-Err.ensures ∙ (ap Failed c.insert_failure.ensures ∙ (ap reply_to_insert (sym c.in-Err.is ∙ c.insert_cf.ensures.answer)
    ∙ (ap (λ s. reply_to_insert (insert_answer c.args.home.now.tables (s ∷ slice_index c.args.columns 0 ∷ slice_index c.args.columns 1 ∷ slice_index c.args.columns 2 ∷ slice_index c.args.columns 3 ∷ []))) c.s_id.ensures ∙ law.reply)))

pub returns-in-Err-clause-rows : goal.returns-in-Err-clause-rows
returns-in-Err-clause-rows c =
    let law = inserts c.args.home.now c.what_holds_of_every_home.ensures c.args.sub_nbr (slice_index c.args.columns 0) (slice_index c.args.columns 1) (slice_index c.args.columns 2) (slice_index c.args.columns 3) (sym c.has_number.ensures ∙ c.if-not-has_number.false) c.requires.facility c.requires.start c.requires.end c.requires.number in
    c.insert_cf.ensures.tables ∙ (ap (λ s. insert_tables c.args.home.now.tables (s ∷ slice_index c.args.columns 0 ∷ slice_index c.args.columns 1 ∷ slice_index c.args.columns 2 ∷ slice_index c.args.columns 3 ∷ [])) c.s_id.ensures ∙ law.rows)
