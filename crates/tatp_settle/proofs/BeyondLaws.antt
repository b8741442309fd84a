-- No extent that the closing doesn't have is a cause.
use Rattle.std.proofs.Common.{◌≡◌, ℕ, ◌≤◌, ◌==◌, [], Contains, arith}
use Rattle.std.proofs.lemmas.Bool.{eq-eqb}
use Rattle.tatp_settle.specs.declared.extents.ExtentCause.{ExtentCause}
use Rattle.tatp_settle.specs.declared.extents.ExtentCause.TheVariants.{IsAsMixed, InParcel, StandsTwice}
use Rattle.tatp_settle.specs.Closings.{ClosedState, ExtentLog, logs_of, extents_numbered, IsClosed}
use Rattle.tatp_settle.specs.Runs.{Run}
use Rattle.tatp_settle.specs.ExtentTests.{IsExtentCause}
use Rattle.tatp_settle.proofs.StandingLaws.{has_number, none_standing, times_standing_is, any_counted}
use Rattle.tatp_settle.proofs.TestLaws.{decides_passes}
use Rattle.tatp_settle.proofs.LogTestLaws.{parcel_is}

-- no log has the number
no_log : (c : ClosedState) (e : ℕ) → 1 ≤ e → extents_numbered c e ≡ [] → (log : ExtentLog) → Contains (logs_of c) log → log.extent ≡ e → ⊥
no_log c e l none log stands is =
    let times = none_standing c e l none in
    let some = (any_counted (λ (log : ExtentLog). log.extent == e) (logs_of c)).0 ((decides_passes (λ (log : ExtentLog). log.extent == e) (logs_of c)).1 (log, stands, eq-eqb log.extent e is)) in
    omega (arith, times, some)

pub not_beyond : (cause : ExtentCause) (run : Run) (e : ℕ) → IsClosed run.closed → 1 ≤ e → extents_numbered run.closed e ≡ [] → IsExtentCause cause run e → ⊥
not_beyond IsAsMixed run e h l none is = no_log run.closed e l none is.0 is.1 is.2
not_beyond InParcel run e h l none is =
    let c : ClosedState = run.closed in
    let none = none_standing c e l none in
    let some = (any_counted (has_number e) c.parcels).0 ((parcel_is c e).1 is) in
    let times = times_standing_is c e h.sites in
    omega (arith, none, some, times)
not_beyond StandsTwice run e h l none is = let none = none_standing run.closed e l none in omega (arith, none, is)
