use Rattle.std.proofs.Common.{[], ◌∷◌, true, false, refl, subst, arith}
use Rattle.tatp_partition.specs.declared.item.Item.{Item}
use Rattle.tatp_workers.specs.Growing.{Grows}
use Rattle.tatp_workers.specs.declared.requester.AskEffect.TheVariants.{Asks}
use Rattle.tatp_workers.proofs.ConversationLaws.{has_asked, has_not_asked, has_asked_all, has_no_room}
use Rattle.tatp_workers.proofs.client.Client.ask_next.Goals as goal

pub returns-in_default : goal.returns-in_default
returns-in_default g c = has_asked_all g.Q.Requester.effects c.args.directory.now c.args.lists.now c.args.self.now _ c.requires c.in_default.ensures.none refl refl refl refl refl

pub returns-then-room-eq0 : goal.returns-then-room-eq0
returns-then-room-eq0 g c = has_no_room g.Q.Requester.effects c.args.directory.now c.args.lists.now c.args.self.now _ c.in-Some.ask.now c.in-Some.ensures.some (omega (arith, c.room.ensures, c.if-room-eq0.true)) refl

pub invariant_of-self-then-ask : goal.invariant_of-self-then-ask
invariant_of-self-then-ask g c = record { waits = λ _. (omega (arith, c.room.ensures, c.if-room-eq0.false), c.in-Some.ensures.few) }

pub returns-then-ask : goal.returns-then-ask
returns-then-ask g c =
    let grows = subst (λ (i : Item). Grows (g.Q.Requester.effects c.args.self.now.end) (g.Q.Requester.effects c.ask.new.end) (Asks i true ∷ [])) c.item_of-item.ensures c.if-ask.ensures in
    has_asked g.Q.Requester.effects c.args.directory.now c.args.lists.now c.args.self.now _ c.in-Some.ask.now c.requires c.in-Some.ensures.some grows refl refl refl refl (omega arith)

pub returns-else-ask : goal.returns-else-ask
returns-else-ask g c =
    let grows = subst (λ (i : Item). Grows (g.Q.Requester.effects c.args.self.now.end) (g.Q.Requester.effects c.ask.new.end) (Asks i false ∷ [])) c.item_of-item.ensures c.if-ask.ensures in
    has_not_asked g.Q.Requester.effects c.args.directory.now c.args.lists.now c.args.self.now _ c.in-Some.ask.now c.requires c.in-Some.ensures.some grows refl refl refl refl
