use Rattle.std.proofs.Common.{◌↔◌, Bool, IsTrue, not, true, false, refl, sym, ◌∙◌}
use Rattle.tatp_settle.proofs.DifferLaws.{agrees_not, differs_here}
use Rattle.tatp_settle.proofs.differences.Differing.differs_at.Goals as goal

-- a test answered the other way round
opposite : (A D : Type 0) (b : Bool) → IsTrue b ↔ A → (A → D → ⊥) → ((A → ⊥) → D) → IsTrue (not b) ↔ D
opposite A D true h apart other = (λ t. cc, λ d. absurd (apart (h.0 refl) d))
opposite A D false h apart other = (λ t. other (λ a. let f : IsTrue false = h.1 a in cc), λ d. refl)

pub returns : goal.returns
returns c = opposite _ _ c.agrees.result c.agrees.ensures
    (agrees_not _ _ _ _ c.requires.matched c.requires.placed _ _ c.in-Some-cell.cell _ _ (sym c.cell.ensures ∙ c.in-Some-cell.is) (sym c.in-Some-at.ensures) (sym c.in-Some.ensures))
    (differs_here _ _ _ _ c.requires.matched c.requires.placed _ _ c.in-Some-cell.cell _ _ (sym c.cell.ensures ∙ c.in-Some-cell.is) (sym c.in-Some-at.ensures) (sym c.in-Some.ensures))
