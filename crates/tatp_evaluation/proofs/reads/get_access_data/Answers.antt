use Rattle.std.proofs.Common.{[], ◌∷◌, sym, ◌∙◌}
use Rattle.tatp_calls.specs.declared.reply.Reply.TheVariants.{Values}
use Rattle.tatp_procs.proofs.ConsistentLaws.{IsConsistent-home}
use Rattle.tatp_evaluation.proofs.ReadLaws.{access_read}
use Rattle.tatp_evaluation.proofs.reads.get_access_data.Goals as goal

pub returns : goal.returns
returns c =
    c.set-2.ensures ∙ ((λ i. Values (c.column.ensures i ∷ c.column-2.ensures i ∷ c.column-3.ensures i ∷ c.column-4.ensures i ∷ []))
    ∙ access_read c.args.home.now.tables c.args.s_id c.args.ai_type (IsConsistent-home c.args.home.now c.what_holds_of_every_home.ensures) (sym c.has_access.ensures ∙ c.if-not-has_access.false))
