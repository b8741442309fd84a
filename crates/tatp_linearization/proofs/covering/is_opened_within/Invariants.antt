use Rattle.std.proofs.Common.{◌≡◌, ◌≤◌, length, drop}
use Rattle.tatp_linearization.specs.Overwritten.{IsBlind}
use Rattle.tatp_linearization.proofs.ButSomeLaws.{AreWithin}
use Rattle.tatp_linearization.proofs.covering.is_opened_within.Given as goal

abbrev pub invariant-calls : goal.invariant-calls
invariant-calls l = record {
  within : AreWithin (IsBlind l.c.home.tables) l.c.overwritten l.d.overwritten (drop l.i l.c.opened.items) (drop l.j l.d.opened.items)
      → AreWithin (IsBlind l.c.home.tables) l.c.overwritten l.d.overwritten l.c.opened.items l.d.opened.items;
  inside : l.j ≤ length l.d.opened.items;
  same : l.c.opened.items ≡ l.d.opened.items → l.d.overwritten ≤ l.c.overwritten → l.j ≡ l.i;
}
