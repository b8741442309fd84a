use Rattle.std.proofs.Common.{[], ◌∷◌, sym, ap, ◌∙◌}
use Rattle.tatp_homes.specs.Changes.{delete_answer, delete_tables}
use Rattle.tatp_evaluation.proofs.WriteLaws.{reply_to_delete, removes}
use Rattle.tatp_evaluation.proofs.writes.delete_call_forwarding.Goals as goal

pub returns-in-Ok-clause-reply : goal.returns-in-Ok-clause-reply
returns-in-Ok-clause-reply c =
    let law = removes c.args.home.now c.what_holds_of_every_home.ensures c.args.sub_nbr c.args.sf_type c.args.start_time (sym c.has_number.ensures ∙ c.if-not-has_number.false) in
    c.set-in-Ok.ensures ∙ (ap reply_to_delete (sym c.in-Ok.is ∙ c.delete_cf.ensures.answer)
    ∙ (ap (λ s. reply_to_delete (delete_answer c.args.home.now.tables (s ∷ c.args.sf_type ∷ c.args.start_time ∷ []))) c.s_id-s_id.ensures ∙ law.reply))

pub returns-in-Ok-clause-rows : goal.returns-in-Ok-clause-rows
returns-in-Ok-clause-rows c =
    let law = removes c.args.home.now c.what_holds_of_every_home.ensures c.args.sub_nbr c.args.sf_type c.args.start_time (sym c.has_number.ensures ∙ c.if-not-has_number.false) in
    c.delete_cf.ensures.tables ∙ (ap (λ s. delete_tables c.args.home.now.tables (s ∷ c.args.sf_type ∷ c.args.start_time ∷ [])) c.s_id-s_id.ensures ∙ law.rows)

pub returns-in-Err-clause-reply : goal.returns-in-Err-clause-reply
returns-in-Err-clause-reply c =
    let law = removes c.args.home.now c.what_holds_of_every_home.ensures c.args.sub_nbr c.args.sf_type c.args.start_time (sym c.has_number.ensures ∙ c.if-not-has_number.false) in
    c.set-in-Err.ensures ∙ (ap reply_to_delete (sym c.in-Err.is ∙ c.delete_cf.ensures.answer)
    ∙ (ap (λ s. reply_to_delete (delete_answer c.args.home.now.tables (s ∷ c.args.sf_type ∷ c.args.start_time ∷ []))) c.s_id-s_id.ensures ∙ law.reply))

pub returns-in-Err-clause-rows : goal.returns-in-Err-clause-rows
returns-in-Err-clause-rows c =
    let law = removes c.args.home.now c.what_holds_of_every_home.ensures c.args.sub_nbr c.args.sf_type c.args.start_time (sym c.has_number.ensures ∙ c.if-not-has_number.false) in
    c.delete_cf.ensures.tables ∙ (ap (λ s. delete_tables c.args.home.now.tables (s ∷ c.args.sf_type ∷ c.args.start_time ∷ [])) c.s_id-s_id.ensures ∙ law.rows)
