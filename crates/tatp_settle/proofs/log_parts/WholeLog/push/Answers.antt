use Rattle.std.proofs.Common.{◌≡◌, ℕ, ◌+◌, ◌++◌, ◌∷◌, [], List, length, refl, sym, ◌∙◌, ap, subst}
use Rattle.tatp_settle.specs.declared.log_parts.JoinedPart.{JoinedPart}
use Rattle.tatp_settle.specs.WholeLogs.{AreJoined, entries_of_parts}
use Rattle.tatp_settle.proofs.WholeLogLaws.{entries_in, some_sum, joined_more, entries_more}
use Rattle.tatp_settle.proofs.log_parts.WholeLog.push.Goals as goal

pub returns : goal.returns
returns c = ap (λ (parts : List JoinedPart). entries_of_parts parts) c.in_ok-push.ensures.items ∙ entries_more c.self.inside.parts.items _ c.args.self.now c.self.view_is

pub invariant_of-self-2 : goal.invariant_of-self-2
invariant_of-self-2 c =
    let part : JoinedPart = record { first = c.self.inside.len; entries = c.args.entries } in
    let sum : c.in_ok-len.len ≡ c.self.inside.len + length (entries_in part) = some_sum c.checked_add.result _ (c.self.inside.len + c.len.result) c.in_ok-len.len c.checked_add.ensures c.in_ok-len.ensures.ok_part ∙ ap (λ n. c.self.inside.len + n) c.len.ensures in
    subst (λ (parts : List JoinedPart). AreJoined 0 parts c.in_ok-len.len) (sym c.in_ok-push.ensures.items)
    (subst (λ (n : ℕ). AreJoined 0 (c.self.inside.parts.items ++ part ∷ []) n) (sym sum) (joined_more 0 c.self.inside.parts.items part c.self.inside.len c.self.invariant refl))
