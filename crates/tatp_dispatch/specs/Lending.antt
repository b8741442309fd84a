-- What the system is once a result that borrows from it is gone.
use Rattle.std.specs.Prelude.{⊤, []}
use Rattle.std.specs.Borrow.{follows_so, MutBor, Fml}
use mathlib.Core.Option.{none}
use mir.Syntax.{named}
use Rattle.tatp_dispatch.specs.Worlds.{WorldState}
use Rattle.tatp_dispatch.specs.contracts.world.World.{the_row}

-- the system is left so; `named 1` is the place of its own lifetime in the signature
abbrev pub LeavesSo : MutBor WorldState → (WorldState → Type 0) → Fml
LeavesSo w IsSo =
    let row = the_row (record { mir = named 1; lft = [] }) in
    follows_so row row w.ghost_name none (λ _ _. ⊤) IsSo
