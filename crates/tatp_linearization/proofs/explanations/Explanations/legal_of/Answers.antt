use Rattle.std.proofs.Common.{◌≡◌, ◌+◌, Vec, Global, Some, Ok, slice_get, sym, ap, subst}
use Rattle.tatp_calls.specs.declared.reply.Reply.{Reply}
use Rattle.tatp_linearization.specs.Single.{answered_with}
use Rattle.tatp_linearization.specs.Legal.{events_with}
use Rattle.tatp_linearization.specs.Listed.{IsExplainedBy}
use Rattle.tatp_linearization.proofs.PlaceLaws.{get_at, same_item}
use Rattle.tatp_linearization.proofs.ListedLaws.{Sifting, sifting_none, sifting_added, sifting_same, sifting_all}
use Rattle.tatp_linearization.proofs.explanations.Explanations.legal_of.Goals as goal
use Rattle.tatp_linearization.proofs.explanations.Explanations.legal_of.Goals.{in-Explained+in_ok-add_reply-in-Explained, in-Unexplained}

pub replies-init : goal.replies-init
replies-init c =
    let told = λ (reply : Reply). events_with (answered_with c.args.x.now c.args.at reply) c.args.cut.now in
    subst (Sifting c.args.self.now told c.args.replies.now 0) (sym c.new-legal.ensures.items) (sifting_none c.args.self.now told c.args.replies.now)

pub replies-preserved : goal.replies-preserved
replies-preserved c =
    let told = λ (reply : Reply). events_with (answered_with c.args.x.now c.args.at reply) c.args.cut.now in
    let all = c.args.replies.now in
    let own = c.args.self.now in
    let r : Reply = c.index-replies-i.result in
    let at : slice_get c.args.replies.now c.replies.i ≡ Some r = get_at c.args.replies.now c.replies.i r c.replies-test.true c.index-replies-i.is in
    elim c.match-branch-2.branch [
      | in-Explained+in_ok-add_reply-in-Explained w ↦
          let again : Reply = w.index-replies-i-in-Explained.result in
          let there : slice_get c.args.replies.now c.replies.i ≡ Some again = get_at c.args.replies.now c.replies.i again c.replies-test.true w.index-replies-i-in-Explained.is in
          let one : r ≡ again = same_item c.args.replies.now c.replies.i r again at there in
          subst (λ (v : Vec Reply Global). Sifting own told all (c.replies.i + 1) v.items) (sym w.legal-is)
          (sifting_added own told all c.replies.i again c.replies.legal.items w.add_reply.new.replies.items there c.replies.invariant
          (subst (λ q. IsExplainedBy own (told q)) one (c.in_ok-explain_with.ensures.explained (ap Ok w.in-Explained.is)))
          w.in_ok-add_reply-in-Explained.ensures.added w.in_ok-add_reply-in-Explained.ensures.once)
      | in-Unexplained w ↦
          subst (λ (v : Vec Reply Global). Sifting own told all (c.replies.i + 1) v.items) (sym w.legal-is)
          (sifting_same own told all c.replies.i r c.replies.legal.items at c.replies.invariant (c.in_ok-explain_with.ensures.unexplained (ap Ok w.in-Unexplained.is)))
    ]

pub returns-in-Undecided-clause-unknown : goal.returns-in-Undecided-clause-unknown
returns-in-Undecided-clause-unknown c = λ _ u past reached. (c.index-replies-i.result, c.in_ok-explain_with.ensures.undecided (ap Ok c.in-Undecided.is) u past reached)

pub returns-clause-sifted : goal.returns-clause-sifted
returns-clause-sifted c =
    let told = λ (reply : Reply). events_with (answered_with c.args.x.now c.args.at reply) c.args.cut.now in
    sifting_all c.args.self.now told c.args.replies.now c.replies.i c.replies.legal.items c.replies.invariant c.replies-test.false
