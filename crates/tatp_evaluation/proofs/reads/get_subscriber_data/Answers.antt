use Rattle.std.proofs.Common.{◌≡◌, [], ◌∷◌, sym, ◌∙◌, subst, arith}
use Rattle.tatp_homes.proofs.StoredLaws.{AreFirst, first_set}
use Rattle.tatp_procs.proofs.ConsistentLaws.{IsConsistent-home}
use Rattle.tatp_evaluation.proofs.ReadLaws.{column_of, subscriber_read}
use Rattle.tatp_evaluation.proofs.reads.get_subscriber_data.Goals as goal

pub loop-place-preserved : goal.loop-place-preserved
loop-place-preserved c = first_set 0 34 c.loop-place.place (column_of c.args.home.now.tables (c.args.s_id ∷ 0 ∷ 0 ∷ [])) c.loop-place.row c.column.result c.loop-place-test.true c.loop-place.invariant c.column.ensures

pub returns : goal.returns
returns c =
    let all : c.loop-place.place ≡ 34 = omega (arith, c.loop-place-test.false, c.loop-place.auto.place-end) in
    c.set-2.ensures ∙ subscriber_read c.args.home.now.tables c.args.s_id c.loop-place.row (IsConsistent-home c.args.home.now c.what_holds_of_every_home.ensures) (sym c.has_sub.ensures ∙ c.if-not-has_sub.false)
    (subst (λ n. AreFirst 0 34 n (column_of c.args.home.now.tables (c.args.s_id ∷ 0 ∷ 0 ∷ [])) c.loop-place.row) all c.loop-place.invariant)
