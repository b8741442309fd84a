use Rattle.std.proofs.Common.{◌≡◌, ◌∙◌, Option, List, Some, None, sym, ap, find, ◌==◌}
use Rattle.std.specs.Option.{option_or, option_copied}
use Rattle.tatp_extents.specs.Extents.{ExtentState}
use Rattle.tatp_settle.specs.Closings.{ClosedSiteState}
use Rattle.tatp_settle.proofs.LogLaws.{found_in, found_anywhere}
use Rattle.tatp_settle.proofs.logs.extent_numbered.Goals as goal

pub returns-in-Some : goal.returns-in-Some
returns-in-Some c =
    let at : found_in c.args.closed.now.sites c.args.number ≡ Some c.in-Some.extent.now =
    ap (λ (xs : List ClosedSiteState). found_in xs c.args.number) (sym c.sites.ensures.value) ∙ (sym c.extent_at.ensures ∙ ap option_copied c.in-Some.is) in
    ap (λ (v : Option ExtentState). option_or v (find (λ (x : ExtentState). x.number == c.args.number) c.args.closed.now.parcels)) (sym at) ∙ sym (found_anywhere c.args.closed.now c.args.number)

pub returns-in-None : goal.returns-in-None
returns-in-None c =
    let at : found_in c.args.closed.now.sites c.args.number ≡ None =
    ap (λ (xs : List ClosedSiteState). found_in xs c.args.number) (sym c.sites.ensures.value) ∙ (sym c.extent_at.ensures ∙ ap option_copied c.in-None.is) in
    c.first_of.ensures
    ∙ (ap (λ (xs : List ExtentState). find (λ (x : ExtentState). x.number == c.args.number) xs) c.parcels.ensures
    ∙ (ap (λ (v : Option ExtentState). option_or v (find (λ (x : ExtentState). x.number == c.args.number) c.args.closed.now.parcels)) (sym at) ∙ sym (found_anywhere c.args.closed.now c.args.number)))
