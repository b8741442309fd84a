use Rattle.std.proofs.Common.{◌≡◌, ◌<◌, List, [], ◌∷◌, length, Some, slice_get, slice_set, refl, sym, ap, ◌∙◌, subst, arith}
use Rattle.tatp_calls.specs.declared.call.Call.{Call}
use Rattle.tatp_calls.specs.Transactions.{transaction}
use Rattle.tatp_history.specs.Histories.{MayHaveReply}
use Rattle.tatp_linearization.specs.declared.configuration.Configuration.{Configuration as Held}
use Rattle.tatp_linearization.specs.Single.{answered_with}
use Rattle.tatp_linearization.proofs.PlaceLaws.{get_at, same_item}
use Rattle.tatp_linearization.proofs.SearchedLaws.{alone_goes_on, alone_searched}
use Rattle.tatp_linearization.proofs.SingleLaws.{alone_answered, was_answered, other_rises, other_ends}
use Rattle.tatp_linearization.proofs.explanations.Explanations.follow_alone.Goals as goal

-- the only one is at the first place
first_is : (cs : List Held) (b d : Held) → cs ≡ d ∷ [] → (0 < length cs → slice_get cs 0 ≡ Some b) → b ≡ d
first_is cs b d is at = same_item (d ∷ []) 0 b d (subst (λ xs. slice_get xs 0 ≡ Some b) is (at (subst (λ xs. 0 < length xs) (sym is) (omega arith)))) refl

pub searched_call-call-requires : goal.searched_call-call-requires
searched_call-call-requires c = record { some = subst (λ (xs : List Held). 0 < length xs) (sym c.requires.single.1) (omega arith) }

pub evaluate-requires : goal.evaluate-requires
evaluate-requires c = record { accepted = c.searched_call-call.ensures.accepted c.requires.accepted }

pub returns-clause-reached : goal.returns-clause-reached
returns-clause-reached c =
    let d : Held = c.requires.single.0 in
    let items = c.args.self.now.configurations.items in
    let b : Held = c.index_mut.result.now in
    let same : b ≡ d = first_is items b d c.requires.single.1 (λ lt. get_at items 0 b lt c.index_mut.ensures.value) in
    let after : Held = record { home = c.evaluate.new.home; opened = b.opened; overwritten = b.overwritten } in
    let x = c.args.x.now in
    let call : Call = c.searched_call-call.result in
    let reply : c.evaluate.new.reply ≡ (transaction call d.home.tables).reply = c.evaluate.ensures.reply ∙ ap (λ (q : Held). (transaction call q.home.tables).reply) same in
    let rows : c.evaluate.new.home.tables ≡ (transaction call d.home.tables).database = c.evaluate.ensures.rows ∙ ap (λ (q : Held). (transaction call q.home.tables).database) same in
    let there : slice_set items 0 after ≡ after ∷ [] = ap (λ (xs : List Held). slice_set xs 0 after) c.requires.single.1 in
    λ yes at u past reached.
    let told = c.searched_call-call.ensures.searched u past reached in
    record {
      from = reached.from;
      begins = reached.begins;
      kept = alone_goes_on c.args.self.now.exact u reached.from reached.begins x at past items d c.requires.single.1 c.requires.single.2 reached.kept after (slice_set items 0 after)
          (subst (MayHaveReply x.outcome) (reply ∙ ap (λ (q : Call). (transaction q d.home.tables).reply) told) (c.allows.ensures.0 yes)) there
          (rows ∙ ap (λ (q : Call). (transaction q d.home.tables).database) told) (ap (λ (q : Held). q.opened.items) same ∙ c.requires.single.2);
      some = subst (λ (xs : List Held). 0 < length xs) (sym there) (omega arith);
    }

pub returns-clause-explained : goal.returns-clause-explained
returns-clause-explained c =
    let d : Held = c.requires.single.0 in
    let items = c.args.self.now.configurations.items in
    let b : Held = c.index_mut.result.now in
    let same : b ≡ d = first_is items b d c.requires.single.1 (λ lt. get_at items 0 b lt c.index_mut.ensures.value) in
    let x = c.args.x.now in
    let call : Call = c.searched_call-call.result in
    let reply : c.evaluate.new.reply ≡ (transaction call d.home.tables).reply = c.evaluate.ensures.reply ∙ ap (λ (q : Held). (transaction call q.home.tables).reply) same in
    λ at u past reached rise have.
    let is = reply ∙ ap (λ (q : Call). (transaction q d.home.tables).reply) (c.searched_call-call.ensures.searched u past reached) in
    let law = alone_searched c.args.self.now.exact u reached.from reached.begins x at past items d c.requires.single.1 c.requires.single.2 reached.kept rise have (was_answered x.outcome at (alone_answered x at past have)) in (
      λ yes. law.0 (subst (MayHaveReply x.outcome) is (c.allows.ensures.0 yes)),
      λ s. c.allows.ensures.1 (subst (MayHaveReply x.outcome) (sym is) (law.1 s)),
    )

pub returns-clause-only : goal.returns-clause-only
returns-clause-only c =
    let d : Held = c.requires.single.0 in
    let items = c.args.self.now.configurations.items in
    let b : Held = c.index_mut.result.now in
    let same : b ≡ d = first_is items b d c.requires.single.1 (λ lt. get_at items 0 b lt c.index_mut.ensures.value) in
    let x = c.args.x.now in
    let call : Call = c.searched_call-call.result in
    let reply : c.evaluate.new.reply ≡ (transaction call d.home.tables).reply = c.evaluate.ensures.reply ∙ ap (λ (q : Held). (transaction call q.home.tables).reply) same in
    λ at other u past reached rise have.
    let is = reply ∙ ap (λ (q : Call). (transaction q d.home.tables).reply) (c.searched_call-call.ensures.searched u past reached) in
    let law = alone_searched c.args.self.now.exact u reached.from reached.begins (answered_with x at other) at past items d c.requires.single.1 c.requires.single.2 reached.kept (other_rises x at other past rise) (other_ends x at other past have) tt in (
      λ s. law.1 s ∙ sym is,
      λ e. law.0 (e ∙ is),
    )
