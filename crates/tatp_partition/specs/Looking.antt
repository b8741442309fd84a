-- What looking at a site shows.
use Rattle.std.specs.Prelude.{◌≡◌, None, IsSomeAnd, Result, Ok, Err}
use Rattle.tatp_debug.specs.Snapshots.{IsSnapshot}
use Rattle.tatp_debug.specs.declared.snapshot.Snapshot.{Snapshot}
use Rattle.tatp_partition.specs.Sites.{SiteState, RunningCall}
use Rattle.tatp_partition.specs.declared.refusal.SiteRefusal.{SiteRefusal}
use Rattle.tatp_partition.specs.declared.refusal.SiteRefusal.TheVariants.{NotRunning}

-- what looking at a site answers: a snapshot of the call that runs; that none runs
abbrev pub Looks : SiteState → Result Snapshot SiteRefusal → Type 0
Looks s (Ok snapshot) =
    IsSomeAnd s.running (λ (r : RunningCall). IsSnapshot s.modul r.call.frame snapshot)
Looks s (Err refusal) = (refusal ≡ NotRunning) × (s.running ≡ None)
