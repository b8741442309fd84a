use Rattle.std.proofs.Common.{◌≡◌, ◌↔◌, Bool, IsTrue, not, true, false, [], refl}
use Rattle.tatp_settle.specs.Closings.{closed_of, times_standing}
use Rattle.tatp_settle.proofs.StandingLaws.{stands_gathered}
use Rattle.tatp_settle.proofs.gathering.is_missing.Goals as goal

-- a test answered the other way round
opposite : (A : Type 0) (b : Bool) → (b ≡ true → A → ⊥) → (b ≡ false → A) → IsTrue (not b) ↔ A
opposite A true apart other = (λ t. cc, λ a. absurd (apart refl a))
opposite A false apart other = (λ t. other refl, λ a. refl)

pub returns : goal.returns
returns c =
    let counted = stands_gathered c.args.sites.now c.args.parcels.now [] c.args.number c.stands.result c.requires.sound c.stands.ensures in
    opposite (times_standing (closed_of c.args.sites.now c.args.parcels.now []) c.args.number ≡ 0) c.stands.result counted.0 counted.1
