use Rattle.std.proofs.Common.{◌≡◌, List, Err, sym, ap, ◌∙◌, subst, true≢false}
use Rattle.tatp_history.specs.Configurations.{Configuration}
use Rattle.tatp_linearization.specs.declared.configuration.Configuration.{Configuration as Held}
use Rattle.tatp_linearization.specs.Held.{TakeSome}
use Rattle.tatp_linearization.specs.Covering.{FromOne, MayCome}
use Rattle.tatp_linearization.specs.Possible.{AreMoreThan}
use Rattle.tatp_linearization.proofs.PossibleLaws.{come_many}
use Rattle.tatp_linearization.proofs.SearchedLaws.{kept_exactly}
use Rattle.tatp_linearization.proofs.ToRowsLaws.{kept_to, to_kept}
use Rattle.tatp_linearization.proofs.explanations.Explanations.leads_to.Goals as goal

pub returns-in-Ok-true-clause-explained : goal.returns-in-Ok-true-clause-explained
returns-in-Ok-true-clause-explained c = λ _ u past reached rise have.
    let rows = c.args.rows.now.tables in
    let h = c.in-Ok-true.ensures.there c.in-Ok-true.field-0-test in
    kept_to u past c.args.self.now.configurations.items (kept_exactly c.args.self.now u past c.requires.exact reached) rows rise have
    (subst (λ (cs : List Held). (d : Configuration) × FromOne MayCome cs d × (d.rows ≡ rows)) c.as_slice.ensures.value h)

pub returns-in-Ok-false-clause-unexplained : goal.returns-in-Ok-false-clause-unexplained
returns-in-Ok-false-clause-unexplained c = λ _ u past reached rise have s.
    let rows = c.args.rows.now.tables in
    let h = to_kept u past c.args.self.now.configurations.items (kept_exactly c.args.self.now u past c.requires.exact reached) rows rise have s in
    let from = subst (λ (cs : List Held). FromOne TakeSome cs h.0) (sym c.as_slice.ensures.value) h.1 in
    true≢false (sym (c.in-Ok-false.ensures.other h.0 from h.2) ∙ c.in-Ok-false.field-0-test)

pub returns-in-Err-MoreThanMost-clause-undecided : goal.returns-in-Err-MoreThanMost-clause-undecided
returns-in-Err-MoreThanMost-clause-undecided c = λ _ u past reached.
    come_many u past c.args.self.now.most c.args.self.now.configurations.items (kept_exactly c.args.self.now u past c.requires.exact reached).sound
    (subst (λ (cs : List Held). AreMoreThan c.args.self.now.most (FromOne MayCome cs)) c.as_slice.ensures.value (c.in-Err-MoreThanMost.ensures.many (ap Err c.in-Err-MoreThanMost.field-0-is)))
