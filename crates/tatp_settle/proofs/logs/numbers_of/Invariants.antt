use Rattle.std.proofs.Common.{◌≡◌, ◌+◌, ◌≤◌, ◌^◌, drop, max}
use Rattle.std.specs.List.{fold}
use Rattle.tatp_extents.specs.Extents.{ExtentState}
use Rattle.tatp_settle.specs.Closings.{above_all}
use Rattle.tatp_settle.proofs.logs.numbers_of.Given as goal

abbrev pub invariant-extents : goal.invariant-extents
invariant-extents l = record {
  value : fold (λ most (x : ExtentState). max most (x.number + 1)) l.count (drop l.extent-index l.extents) ≡ above_all l.extents;
  most : l.count ≤ 2 ^ 32;
}
