use Rattle.std.proofs.Common.{◌≡◌, Bool, Bor, List, Option, Some, Decides, sym, ap, subst}
use Rattle.std.specs.Option.{option_copied, option_map}
use Rattle.std.proofs.lemmas.Bool.Decides.{Decides-like}
use Rattle.std.proofs.lemmas.Option.{same_Some}
use Rattle.std.proofs.lemmas.Slice.Eq.{slice_eq-Decides}
use Rattle.tatp_homes.specs.Home.{SubscriberRows}
use Rattle.tatp_homes.proofs.EqualityLaws.{Decides-same_home}
use Rattle.tatp_settle.specs.declared.log_parts.LogPart.{LogPart}
use Rattle.tatp_settle.proofs.joins.goes_on_from.Goals as goal

-- whether the homes are those that are due
same_homes : (before due : List SubscriberRows) (r : Bool) → Decides r (before ≡ due) → Decides r (Some before ≡ Some due)
same_homes before due r h = Decides-like r (λ (e : before ≡ due). ap Some e) (λ e. same_Some before due e) h

pub returns-in-Some-Some : goal.returns-in-Some-Some
returns-in-Some-Some c =
    subst (λ (part : Option LogPart). Decides c.eq.result (option_map (λ (p : LogPart). p.before.now) part ≡ option_copied c.args.due)) (sym c.in-Some-Some.is-0)
    (subst (λ (due : Option (Bor (List SubscriberRows))). Decides c.eq.result (Some c.in-Some-Some.part.before.now ≡ option_copied due)) (sym c.in-Some-Some.is-1)
    (same_homes c.in-Some-Some.part.before.now c.in-Some-Some.due.now c.eq.result (slice_eq-Decides Decides-same_home c.in-Some-Some.part.before.now c.in-Some-Some.due.now c.eq.result c.eq.ensures)))
