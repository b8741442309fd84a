use Rattle.std.proofs.Common.{◌≡◌, sym, ◌∙◌, subst, refl}
use Rattle.std.specs.Prelude.{nat_eq, ◌&&◌}
use Rattle.std.specs.Option.{option_eq}
use Rattle.std.specs.Cmp.Lexicographic.{pointwise}
use Rattle.std.proofs.lemmas.Bool.Decides.{Decides-at, Decides-eqb}
use Rattle.std.proofs.lemmas.Bool.{false_from_ne_true}
use Rattle.tatp_homes.specs.Home.{same_home}
use Rattle.tatp_homes.proofs.EqualityLaws.{Decides-same_home, home_of, cells_eq, taken, passed, compared}
use Rattle.tatp_homes.proofs.home.comparing.HomePartialEq.eq.Goals as goal
use Rattle.tatp_homes.proofs.home.comparing.HomePartialEq.eq.Goals.{then-self-other, else-self-other, then-eq, else-eq, then-eq-2, else-eq-2}

pub returns-then-eq-3-clause-value : goal.returns-then-eq-3-clause-value
returns-then-eq-3-clause-value c =
    let f = c.self.inside in
    let g = c.other.inside in
    let first : c.if-self-other.value ≡ (nat_eq f.s_id g.s_id && option_eq (pointwise nat_eq) f.subscriber g.subscriber) = elim c.if-self-other.branch [
      | then-self-other w ↦ taken _ _ _ _ w.value-is (w.eq.ensures ∙ (λ i. option_eq (pointwise nat_eq) (w.subscriber_in.ensures i) (w.subscriber_in-then-self-other.ensures i))) ((Decides-eqb f.s_id g.s_id).1 w.if-self-other.true)
      | else-self-other w ↦ passed _ _ _ w.value-is (false_from_ne_true (nat_eq f.s_id g.s_id) (λ e. w.if-self-other.false ((Decides-eqb f.s_id g.s_id).0 e)))
    ] in
    let second : c.if-eq.value ≡ ((nat_eq f.s_id g.s_id && option_eq (pointwise nat_eq) f.subscriber g.subscriber) && cells_eq f.accesses g.accesses) = elim c.if-eq.branch [
      | then-eq w ↦ taken _ _ _ _ w.value-is (w.eq-then-eq.ensures ∙ (λ i. cells_eq (w.accesses_in.ensures i) (w.accesses_in-then-eq.ensures i))) (sym first ∙ w.if-eq.true)
      | else-eq w ↦ passed _ _ _ (w.value-is ∙ first) (sym first ∙ w.if-eq.false)
    ] in
    let third : c.if-eq-2.value ≡ (((nat_eq f.s_id g.s_id && option_eq (pointwise nat_eq) f.subscriber g.subscriber) && cells_eq f.accesses g.accesses) && cells_eq f.facilities g.facilities) = elim c.if-eq-2.branch [
      | then-eq-2 w ↦ taken _ _ _ _ w.value-is (w.eq-then-eq-2.ensures ∙ (λ i. cells_eq (w.facilities_in.ensures i) (w.facilities_in-then-eq-2.ensures i))) (sym second ∙ w.if-eq-2.true)
      | else-eq-2 w ↦ passed _ _ _ (w.value-is ∙ second) (sym second ∙ w.if-eq-2.false)
    ] in
    subst (λ home. c.eq-then-eq-3.result ≡ same_home home c.args.other.now) c.self.view_is
    (subst (λ home. c.eq-then-eq-3.result ≡ same_home (home_of f.s_id f.subscriber f.accesses f.facilities f.forwardings) home) c.other.view_is
    (taken _ _ _ _ refl (c.eq-then-eq-3.ensures ∙ (λ i. cells_eq (c.forwardings_in.ensures i) (c.forwardings_in-then-eq-3.ensures i))) (sym third ∙ c.if-eq-3.true)
    ∙ compared f.s_id g.s_id f.subscriber g.subscriber f.accesses g.accesses f.facilities g.facilities f.forwardings g.forwardings c.self.invariant c.other.invariant))

pub returns-then-eq-3-clause-same : goal.returns-then-eq-3-clause-same
returns-then-eq-3-clause-same c = Decides-at _ _ (returns-then-eq-3-clause-value c) (Decides-same_home c.args.self.now c.args.other.now)

pub returns-else-eq-3-clause-value : goal.returns-else-eq-3-clause-value
returns-else-eq-3-clause-value c =
    let f = c.self.inside in
    let g = c.other.inside in
    let first : c.if-self-other.value ≡ (nat_eq f.s_id g.s_id && option_eq (pointwise nat_eq) f.subscriber g.subscriber) = elim c.if-self-other.branch [
      | then-self-other w ↦ taken _ _ _ _ w.value-is (w.eq.ensures ∙ (λ i. option_eq (pointwise nat_eq) (w.subscriber_in.ensures i) (w.subscriber_in-then-self-other.ensures i))) ((Decides-eqb f.s_id g.s_id).1 w.if-self-other.true)
      | else-self-other w ↦ passed _ _ _ w.value-is (false_from_ne_true (nat_eq f.s_id g.s_id) (λ e. w.if-self-other.false ((Decides-eqb f.s_id g.s_id).0 e)))
    ] in
    let second : c.if-eq.value ≡ ((nat_eq f.s_id g.s_id && option_eq (pointwise nat_eq) f.subscriber g.subscriber) && cells_eq f.accesses g.accesses) = elim c.if-eq.branch [
      | then-eq w ↦ taken _ _ _ _ w.value-is (w.eq-then-eq.ensures ∙ (λ i. cells_eq (w.accesses_in.ensures i) (w.accesses_in-then-eq.ensures i))) (sym first ∙ w.if-eq.true)
      | else-eq w ↦ passed _ _ _ (w.value-is ∙ first) (sym first ∙ w.if-eq.false)
    ] in
    let third : c.if-eq-2.value ≡ (((nat_eq f.s_id g.s_id && option_eq (pointwise nat_eq) f.subscriber g.subscriber) && cells_eq f.accesses g.accesses) && cells_eq f.facilities g.facilities) = elim c.if-eq-2.branch [
      | then-eq-2 w ↦ taken _ _ _ _ w.value-is (w.eq-then-eq-2.ensures ∙ (λ i. cells_eq (w.facilities_in.ensures i) (w.facilities_in-then-eq-2.ensures i))) (sym second ∙ w.if-eq-2.true)
      | else-eq-2 w ↦ passed _ _ _ (w.value-is ∙ second) (sym second ∙ w.if-eq-2.false)
    ] in
    subst (λ home. c.if-eq-2.value ≡ same_home home c.args.other.now) c.self.view_is
    (subst (λ home. c.if-eq-2.value ≡ same_home (home_of f.s_id f.subscriber f.accesses f.facilities f.forwardings) home) c.other.view_is
    (passed _ _ _ third (sym third ∙ c.if-eq-3.false)
    ∙ compared f.s_id g.s_id f.subscriber g.subscriber f.accesses g.accesses f.facilities g.facilities f.forwardings g.forwardings c.self.invariant c.other.invariant))

pub returns-else-eq-3-clause-same : goal.returns-else-eq-3-clause-same
returns-else-eq-3-clause-same c = Decides-at _ _ (returns-else-eq-3-clause-value c) (Decides-same_home c.args.self.now c.args.other.now)
