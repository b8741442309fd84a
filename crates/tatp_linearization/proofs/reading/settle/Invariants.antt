use Rattle.std.proofs.Common.{◌≡◌, ◌-◌, List, ◌++◌, take, drop}
use Rattle.tatp_history.specs.declared.observed.Observed.{Observed}
use Rattle.tatp_history.specs.Locality.{AreAccepted}
use Rattle.tatp_linearization.specs.AtOnce.{AreLeft}
use Rattle.tatp_linearization.proofs.reading.settle.Given as goal

abbrev pub invariant-calls : goal.invariant-calls
invariant-calls l = record {
  stands : (rest : List Observed) × (l.opened.items ≡ take (l.count - l.i) l.fn.opened.items ++ rest)
      × AreLeft l.fn.home.tables (drop (l.count - l.i) l.fn.opened.items) rest;
  accepted : AreAccepted l.opened.items;
  rows : l.home.tables ≡ l.fn.home.tables;
  own : l.home.s_id ≡ l.fn.home.s_id;
}
