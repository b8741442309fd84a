use Rattle.std.proofs.Common.{◌≡◌, ℕ, suc, ◌+◌, ◌-◌, ◌<◌, ◌≤◌, List, ◌∷◌, ◌++◌, length, take, drop, Some, Ok, slice_get, remove, refl, sym, ap, ◌∙◌, subst, arith, inl, inr}
use Rattle.tatp_tables.specs.Database.{Database}
use Rattle.tatp_calls.specs.Arguments.{arguments_accepted}
use Rattle.tatp_history.specs.declared.observed.Observed.{Observed}
use Rattle.tatp_history.specs.Locality.{AreAccepted}
use Rattle.tatp_linearization.specs.AtOnce.{AreLeft, IsSettledAt}
use Rattle.tatp_linearization.proofs.PlaceLaws.{drop_at, take_at, remove_at, get_mid, get_some, take_length, all_remove}
use Rattle.tatp_linearization.proofs.reading.settle.Goals as goal

-- one place nearer to the first
module _ (u : Database) (old cur new rest : List Observed) (place : ℕ) (inside : place < length old) (stands : cur ≡ take (suc place) old ++ rest) (left : AreLeft u (drop (suc place) old) rest)
    (settled : (x : Observed) → slice_get cur place ≡ Some x → IsSettledAt u x (new ≡ remove cur place) (new ≡ cur)) where
  here : (x : Observed) × (slice_get old place ≡ Some x)
  here = get_some old place inside

  cur_is : cur ≡ take place old ++ here.0 ∷ rest
  cur_is = stands ∙ take_at old place here.0 rest here.1

  cur_at : slice_get cur place ≡ Some here.0
  cur_at = subst (λ xs. slice_get xs place ≡ Some here.0) (sym cur_is) (get_mid old place here.0 rest (omega (arith, inside)))

  nearer : (next : List Observed) × (new ≡ take place old ++ next) × AreLeft u (drop place old) next
  nearer = elim (settled here.0 cur_at) [
    | inl k ↦ (
      rest,
      k.1 ∙ (ap (λ xs. remove xs place) cur_is ∙ remove_at old place here.0 rest (omega (arith, inside))),
      subst (λ xs. AreLeft u xs rest) (sym (drop_at old place here.0 here.1)) (inl (k.0, left)),
    )
    | inr k ↦ (
      here.0 ∷ rest,
      k.1 ∙ cur_is,
      subst (λ xs. AreLeft u xs (here.0 ∷ rest)) (sym (drop_at old place here.0 here.1)) (inr (k.0, (rest, refl, left))),
    )
  ]

  all_nearer : AreAccepted cur → AreAccepted new
  all_nearer all = elim (settled here.0 cur_at) [
    | inl k ↦ subst AreAccepted (sym k.1) (all_remove (λ (x : Observed). arguments_accepted x.call ≡ Ok tt) cur place all)
    | inr k ↦ subst AreAccepted (sym k.1) all
  ]

pub settle_at-requires : goal.settle_at-requires
settle_at-requires c =
    let size : c.len-count.result ≡ length c.args.opened.now.items = c.len-count.ensures ∙ c.args.opened.now.ok.0 in
    let long : c.len-count.result - c.calls.i ≤ length (take (c.len-count.result - c.calls.i) c.args.opened.now.items ++ c.calls.invariant.stands.0) = take_length c.args.opened.now.items (c.len-count.result - c.calls.i) c.calls.invariant.stands.0 (omega (arith, size)) in
    let own : c.len-count.result - c.calls.i ≤ length c.calls.opened.items = subst (λ xs. c.len-count.result - c.calls.i ≤ length xs) (sym c.calls.invariant.stands.1) long in
    record {
      inside = omega (arith, own, c.calls-test.true);
      accepted = c.calls.invariant.accepted;
    }

pub calls-preserved : goal.calls-preserved
calls-preserved c =
    let old = c.args.opened.now.items in
    let cur = c.calls.opened.items in
    let new = c.settle_at.new.opened.items in
    let u : Database = c.args.home.now.tables in
    let place : ℕ = c.len-count.result - 1 - c.calls.i in
    let size : c.len-count.result ≡ length c.args.opened.now.items = c.len-count.ensures ∙ c.args.opened.now.ok.0 in
    let more : c.len-count.result - c.calls.i ≡ suc (c.len-count.result - 1 - c.calls.i) = omega (arith, c.calls-test.true) in
    let less : c.len-count.result - 1 - c.calls.i ≡ c.len-count.result - (c.calls.i + 1) = omega (arith, c.calls-test.true) in
    let rest = c.calls.invariant.stands.0 in
    let stands = subst (λ k. cur ≡ take k old ++ rest) more c.calls.invariant.stands.1 in
    let left = subst (λ k. AreLeft u (drop k old) rest) more c.calls.invariant.stands.2 in
    let settled : (x : Observed) → slice_get cur place ≡ Some x → IsSettledAt u x (new ≡ remove cur place) (new ≡ cur)
    = λ x at. subst (λ v. IsSettledAt v x (new ≡ remove cur place) (new ≡ cur)) c.calls.invariant.rows (c.settle_at.ensures.left x at) in
    let inside : place < length old = omega (arith, size, c.calls-test.true) in
    record {
      stands = subst (λ k. (next : List Observed) × (new ≡ take k old ++ next) × AreLeft u (drop k old) next) less (nearer u old cur new rest place inside stands left settled);
      accepted = all_nearer u old cur new rest place inside stands left settled c.calls.invariant.accepted;
      rows = c.settle_at.ensures.rows ∙ c.calls.invariant.rows;
      own = c.settle_at.ensures.own ∙ c.calls.invariant.own;
    }

pub returns-clause-left : goal.returns-clause-left
returns-clause-left c =
    let old = c.args.opened.now.items in
    let u : Database = c.args.home.now.tables in
    let none : c.len-count.result - c.calls.i ≡ 0 = omega (arith, c.calls-test.false) in
    let all = subst (λ k. (rest : List Observed) × (c.calls.opened.items ≡ take k old ++ rest) × AreLeft u (drop k old) rest) none c.calls.invariant.stands in
    subst (AreLeft u old) (sym all.1) all.2
