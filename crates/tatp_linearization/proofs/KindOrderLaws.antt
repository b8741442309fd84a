-- Where a call is answered next, each order may begin with a call of its kind.
use Rattle.std.proofs.Common.{◌≡◌, ℕ, List, [], ◌∷◌, Ok, refl, sym, ◌∙◌, ap, subst, inl, inr}
use Rattle.tatp_tables.specs.Database.{Database}
use Rattle.tatp_calls.specs.Arguments.{arguments_accepted}
use Rattle.tatp_procs.specs.Consistent.{IsConsistent}
use Rattle.tatp_calls.specs.Transactions.{transaction}
use Rattle.tatp_procs.proofs.ConsistentAfterLaws.{consistent_after}
use Rattle.tatp_history.specs.declared.event.Event.{Event}
use Rattle.tatp_history.specs.declared.event.Event.TheVariants.{Ends}
use Rattle.tatp_history.specs.declared.observed.Observed.{Observed}
use Rattle.tatp_history.specs.Histories.{IsIn, MayHaveReply, AreAnsweredInOrder, rows_after}
use Rattle.tatp_history.specs.Events.{TimesRise, HaveEnds}
use Rattle.tatp_history.specs.Locality.{AreAccepted}
use Rattle.tatp_history.specs.JustInTime.{AreOpen}
use Rattle.tatp_history.specs.Remaining.{IsOrderFrom}
use Rattle.tatp_history.specs.Configurations.{Configuration}
use Rattle.tatp_history.proofs.OrderLaws.{all_in, in_all}
use Rattle.tatp_history.proofs.ChoiceLaws.{chooses_some, in_cases, rest_in}
use Rattle.tatp_history.proofs.EventLaws.{answered_at, before_answered, ends_after}
use Rattle.tatp_history.proofs.RemainingLaws.{left_ends, open_chosen, put_first, taken_off, first_opens}
use Rattle.tatp_linearization.specs.AtOnce.{TakesOne}
use Rattle.tatp_linearization.specs.Going.{LeadsOn}
use Rattle.tatp_linearization.specs.Kinds.{kind_of}
use Rattle.tatp_linearization.proofs.AtOnceLaws.{one_open, one_settled, first_takes}
use Rattle.tatp_linearization.proofs.KindLaws.{Commute, commute, same_kind}

-- ---- two calls that commute
-- the second of an order may come first
second_first : (u : Database) (asked at : ℕ) (rest : List Event) (opened : List Observed) → HaveEnds (Ends asked at ∷ rest) → AreOpen (Ends asked at ∷ rest) opened → (n y : Observed) → IsIn n opened → IsIn y opened → Commute u y.call n.call
    → (order : List Observed) → IsOrderFrom u (Ends asked at ∷ rest) opened (n ∷ y ∷ order) → IsOrderFrom u (Ends asked at ∷ rest) opened (y ∷ n ∷ order) × (rows_after u (y ∷ n ∷ order) ≡ rows_after u (n ∷ y ∷ order))
second_first u asked at rest opened have are n y first second both order ok =
    let events : List Event = Ends asked at ∷ rest in (
      record {
        made = (ok.made.1.0, (ok.made.0, ok.made.1.1));
        once = ((λ e. ok.once.0.0 (sym e), ok.once.1.0), (ok.once.0.1, ok.once.1.1));
        all = λ z left answered. elim (ok.all z left answered) [
          | inl e ↦ inr (inl e)
          | inr k ↦ elim k [ inl e ↦ inl e | inr q ↦ inr (inr q) ]
        ];
        real_time = (
          ((λ precedes. ends_after y.asked events n (are.before y second) (left_ends events opened have are n (inl first) (before_answered n.outcome y.asked precedes)) precedes), ok.real_time.1.0),
          (ok.real_time.0.1, ok.real_time.1.1),
        );
        replies = (
          subst (MayHaveReply y.outcome) both.first ok.replies.1.0,
          (
            subst (MayHaveReply n.outcome) (sym both.second) ok.replies.0,
            subst (λ v. AreAnsweredInOrder v order) both.rows ok.replies.1.1,
          ),
        );
      },
      ap (λ v. rows_after v order) (sym both.rows),
    )

-- ---- the first of a kind
abbrev IsFirst : Database → List Event → List Observed → List Observed → Observed → Type 0
IsFirst u events opened order x = (y : Observed) × (others : List Observed) × IsIn y opened × (kind_of y.call ≡ kind_of x.call) × IsOrderFrom u events opened (y ∷ others) × (rows_after u (y ∷ others) ≡ rows_after u order)

kind_first : (asked at : ℕ) (rest : List Event) → TimesRise (Ends asked at ∷ rest) → HaveEnds (Ends asked at ∷ rest) → (order : List Observed) (u : Database) (opened : List Observed) → IsConsistent u → AreAccepted opened → AreOpen (Ends asked at ∷ rest) opened
    → (x : Observed) → IsIn x opened → x.asked ≡ asked → IsOrderFrom u (Ends asked at ∷ rest) opened order → IsFirst u (Ends asked at ∷ rest) opened order x
kind_first asked at rest rise have [] u opened is accepted are x there same ok = absurd (ok.all x (inl there) (answered_at x.outcome at ((are.fit x there).0 same)))
kind_first asked at rest rise have (z ∷ order) u opened is accepted are x there same ok =
    let events : List Event = Ends asked at ∷ rest in
    let opens : IsIn z opened = first_opens u asked at rest rise opened are x there same z order ok in
    elim (same_kind (kind_of z.call) (kind_of x.call)) [
      | inl e ↦ (z, order, opens, e, ok, refl)
      | inr other ↦
          let accepts : Observed → Type 0 = λ (w : Observed). arguments_accepted w.call ≡ Ok tt in
          let own = in_all accepts z opened accepted opens in
          let some = chooses_some opened z opens in
          let left : List Observed = some.0 in
          let stays : IsIn x some.0 = elim (in_cases opened z some.0 some.1 x there) [ inl e ↦ absurd (other (ap (λ (w : Observed). kind_of w.call) (sym e))) | inr k ↦ k ] in
          let later = kind_first asked at rest rise have order (transaction z.call u).database some.0 (consistent_after z.call u is own) (all_in accepts some.0 (λ w h. in_all accepts w opened accepted (rest_in opened z some.0 some.1 w h)))
          (open_chosen events opened z some.0 some.1 are) x stays same (taken_off u events opened z some.0 order are some.1 ok) in
          let y = later.0 in
          let in_opened : IsIn y opened = rest_in opened z some.0 some.1 y later.2 in
          let back = put_first u events opened z some.0 (y ∷ later.1) have are some.1 ok.replies.0 later.4 in
          let both = commute u y.call z.call is (in_all accepts y opened accepted in_opened) own (λ e. other (sym e ∙ later.3)) in
          let swapped = second_first u asked at rest opened have are z y opens in_opened both later.1 back in
          (y, z ∷ later.1, in_opened, later.3, swapped.0, swapped.1 ∙ later.5)
    ]

-- ---- the law
-- before the end of a call that is open an open call of its kind takes effect
pub kind_on : (after : Database) (asked at : ℕ) (rest : List Event) (c : Configuration) → IsConsistent c.rows → AreAccepted c.opened → (x : Observed) → IsIn x c.opened → x.asked ≡ asked → LeadsOn after (Ends asked at ∷ rest) c
    → (d : Configuration) × (one : TakesOne c d) × (kind_of one.0.call ≡ kind_of x.call) × LeadsOn after (Ends asked at ∷ rest) d
kind_on after asked at rest c is accepted x there same on =
    let events : List Event = Ends asked at ∷ rest in
    let first = kind_first asked at rest on.rise on.ends on.order.0 c.rows c.opened is accepted on.waiting x there same on.order.1 in
    let next = first_takes (λ v. v ≡ after) events on.ends c on.settled on.waiting first.0 first.2 first.1 first.4 (first.5 ∙ on.order.2) in (
      next.0,
      next.1,
      ap (λ (w : Observed). kind_of w.call) next.2 ∙ first.3,
      record { rise = on.rise; ends = on.ends; waiting = one_open events c next.0 next.1 on.waiting; settled = one_settled c next.0 next.1; order = next.3 },
    )
