use Rattle.std.proofs.Common.{◌≡◌, Bool, false, List, [], ◌∷◌, refl, sym, subst, rules}
use Rattle.tatp_workers.specs.Growing.{Grows}
use Rattle.tatp_workers.specs.Effects.{Follows}
use Rattle.tatp_workers.specs.declared.offers.Offered.{Offered}
use Rattle.tatp_workers.specs.declared.effects.Effect.{Effect}
use Rattle.tatp_workers.specs.declared.effects.Effect.TheVariants.{Sends, Answers}
use Rattle.tatp_workers.specs.declared.delivery.Delivery.TheVariants.{Dropped}
use Rattle.tatp_workers.proofs.GrowthLaws.{grown_twice}
use Rattle.tatp_workers.proofs.effects.follow.Goals as goal

pub returns-then-not-send : goal.returns-then-not-send
returns-then-not-send g c =
    let item = c.args.item.now in
    let effects : List Effect = Sends item false ∷ Answers item.client Dropped ∷ [] in
    let came_back : c.send.result ≡ false = search rules in
    let sent = subst (λ (b : Bool). Grows (g.E.Answering.effects c.args.executing.now) (g.E.Answering.effects c.send.new.self) (Sends item b ∷ [])) came_back c.send.ensures in
    (effects, subst (λ (o : Offered). Follows item o effects) (sym c.in-Away.is) (false, refl), grown_twice _ _ _ _ _ sent c.answer.ensures)
