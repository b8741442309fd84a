use Rattle.std.proofs.Common.{List, ◌==◌, ◌∙◌, ap, sym, subst}
use Rattle.std.specs.Bool.{Decides}
use Rattle.std.specs.List.{list_any}
use Rattle.tatp_extents.specs.Extents.{ExtentState}
use Rattle.tatp_settle.specs.declared.extents.ExtentCause.{ExtentCause}
use Rattle.tatp_settle.specs.Causes.{IsInParcel}
use Rattle.tatp_settle.specs.Closings.{ClosedState}
use Rattle.tatp_settle.specs.ExtentTests.{IsExtentCause}
use Rattle.tatp_settle.specs.Runs.{shown}
use Rattle.tatp_settle.proofs.LogTestLaws.{parcel_is}
use Rattle.tatp_settle.proofs.extents.is_cause.Goals as goal

pub returns-in-InParcel : goal.returns-in-InParcel
returns-in-InParcel c =
    let closed : ClosedState = c.args.run.now.closed.now in
    subst (λ (k : ExtentCause). Decides c.is_one_of.result (IsExtentCause k (shown c.args.run.now) c.args.number)) (sym c.in-InParcel.is)
    (subst (λ r. Decides r (IsInParcel closed c.args.number)) (sym (c.is_one_of.ensures ∙ ap (λ (xs : List ExtentState). list_any (λ (x : ExtentState). x.number == c.args.number) xs) c.parcels.ensures)) (parcel_is closed c.args.number))
