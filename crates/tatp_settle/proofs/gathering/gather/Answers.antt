use Rattle.std.proofs.Common.{◌≡◌, ℕ, Option, IfNone, [], All, sym, subst}
use Rattle.tatp_extents.specs.Chapters.{IsChapter}
use Rattle.tatp_settle.specs.Closings.{ClosedState, closed_of, IsMissing, IsClosed}
use Rattle.tatp_settle.specs.Settlements.{IsLeastMissing}
use Rattle.tatp_settle.proofs.MissingLaws.{missing_without, least_with}
use Rattle.tatp_settle.proofs.gathering.gather.Goals as goal

is_closed : (c : goal.After-unpack_all) → IsClosed (record { sites = c.close_all.new.closed.items; parcels = c.unpack_all.new.extents.items; chapters = c.args.chapters.items })
is_closed c =
    let gathered : ClosedState = closed_of c.args.sites.items c.args.parcels.items c.args.chapters.items in
    let same : gathered ≡ record { sites = c.close_all.new.closed.items; parcels = c.unpack_all.new.extents.items; chapters = c.args.chapters.items } =
    λ i. record { sites = sym c.close_all.ensures.closed i; parcels = sym c.unpack_all.ensures.extents i; chapters = c.args.chapters.items } in
    let items : closed_of c.deref-2.result.now c.deref-3.result.now [] ≡ closed_of c.args.sites.items c.args.parcels.items [] = λ i. closed_of (c.deref-2.ensures.value i) (c.deref-3.ensures.value i) [] in
    let none : (e : ℕ) → IsMissing (closed_of c.deref-2.result.now c.deref-3.result.now []) e → ⊥ =
    subst (λ (r : Option ℕ). IfNone r ((e : ℕ) → IsMissing (closed_of c.deref-2.result.now c.deref-3.result.now []) e → ⊥)) c.in_default.is c.least_missing.ensures.none in
    record {
      sites = c.close_all.ensures.holds;
      parcels = c.unpack_all.ensures.holds;
      chapters = subst (All IsChapter) c.deref.ensures.value c.what_holds_of_these_chapters.ensures;
      whole = λ e missing. none e (subst (λ (d : ClosedState). IsMissing d e) (sym items) (missing_without c.args.sites.items c.args.parcels.items c.args.chapters.items e (subst (λ (d : ClosedState). IsMissing d e) (sym same) missing)));
    }

pub invariant_of-result : goal.invariant_of-result
invariant_of-result c = is_closed c

pub returns-clause-whole : goal.returns-clause-whole
returns-clause-whole c = is_closed c

pub returns-in-Some-clause-refusal : goal.returns-in-Some-clause-refusal
returns-in-Some-clause-refusal c =
    let items : closed_of c.deref-2.result.now c.deref-3.result.now [] ≡ closed_of c.args.sites.items c.args.parcels.items [] = λ i. closed_of (c.deref-2.ensures.value i) (c.deref-3.ensures.value i) [] in
    least_with c.args.sites.items c.args.parcels.items c.args.chapters.items c.in-Some.number (subst (λ (d : ClosedState). IsLeastMissing d c.in-Some.number) items c.in-Some.ensures.missing)
