use Rattle.std.proofs.Common.{◌≡◌, ◌↔◌, ◌⊎◌, List, sym, ◌∙◌, subst, true≢false}
use Rattle.tatp_calls.specs.declared.reply.Reply.{Reply}
use Rattle.tatp_linearization.specs.Listed.{IsListed, AreEachOnce}
use Rattle.tatp_linearization.proofs.ListedLaws.{listed_more, once_more}
use Rattle.tatp_linearization.proofs.legal.add_reply.Goals as goal

pub returns-clause-added : goal.returns-clause-added
returns-clause-added c = λ other. subst (λ (xs : List Reply). IsListed other xs ↔ (IsListed other c.args.replies.now.items ⊎ (other ≡ c.args.reply.now))) (sym c.in_ok-push.ensures.items) (listed_more c.args.replies.now.items c.args.reply.now other)

pub returns-clause-once : goal.returns-clause-once
returns-clause-once c = λ once. subst AreEachOnce (sym c.in_ok-push.ensures.items) (once_more c.args.replies.now.items c.args.reply.now once (λ there.
    true≢false (sym (c.is_listed.ensures.1 (subst (IsListed c.args.reply.now) (sym c.as_slice.ensures.value) there)) ∙ c.if-is_listed.false)))
