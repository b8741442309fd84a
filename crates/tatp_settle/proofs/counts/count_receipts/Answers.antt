use Rattle.std.proofs.Common.{◌≡◌, ℕ, ◌+◌, not, cond, true, false, List, Some, count_by, slice_get, sym, ◌∙◌, ap, arith}
use Rattle.tatp_logs.specs.declared.receipt.Receipt.{Receipt}
use Rattle.tatp_logs.specs.Receipts.{ReceiptsState, receipt_seen, receipts_of}
use Rattle.tatp_settle.specs.Receipts.{is_done}
use Rattle.tatp_settle.proofs.CountLaws.{list_here, seen, seen_start, seen_list, counted_next, none_missing, count_within}
use Rattle.tatp_settle.proofs.counts.count_receipts.Goals as goal
use Rattle.tatp_settle.proofs.counts.count_receipts.Goals.{in-None, in-Some+then-is_done, in-Some+else-is_done}

here : (c : goal.After-len-index-end) → slice_get (receipts_of c.args.receipts.now) c.lists.list-index ≡ Some c.list-item.result.receipts
here c = list_here (λ (v : ReceiptsState). v.receipts) c.args.receipts.now c.lists.list-index c.list-item.result c.lists-test.true c.list-item.is

pub receipts-init : goal.receipts-init
receipts-init c = let start = seen_start (receipts_of c.args.receipts.now) c.lists.list-index c.list-item.result.receipts in (
  here c,
  c.lists.invariant.0 ∙ ap (λ t. count_by is_done t) (sym start),
  c.lists.invariant.1 ∙ ap (λ t. count_by (λ receipt. not (is_done receipt)) t) (sym start),
)

-- one more receipt, of a completed call or of a refused one
one_done : (lists : List (List Receipt)) (i : ℕ) (list : List Receipt) (j : ℕ) (r : Receipt) (n m : ℕ) → slice_get list j ≡ Some r → is_done r ≡ true → n ≡ count_by is_done (seen lists i list j) → m ≡ count_by (λ receipt. not (is_done receipt)) (seen lists i list j)
    → (n + 1 ≡ count_by is_done (seen lists i list (j + 1))) × (m ≡ count_by (λ receipt. not (is_done receipt)) (seen lists i list (j + 1)))
one_done lists i list j r n m at is_so done refused = (
  omega (arith, done, counted_next is_done lists i list j r at ∙ ap (λ b. count_by is_done (seen lists i list j) + cond b 1 0) is_so),
  omega (arith, refused, counted_next (λ (receipt : Receipt). not (is_done receipt)) lists i list j r at ∙ ap (λ b. count_by (λ (receipt : Receipt). not (is_done receipt)) (seen lists i list j) + cond (not b) 1 0) is_so),
)

one_refused : (lists : List (List Receipt)) (i : ℕ) (list : List Receipt) (j : ℕ) (r : Receipt) (n m : ℕ) → slice_get list j ≡ Some r → is_done r ≡ false → n ≡ count_by is_done (seen lists i list j) → m ≡ count_by (λ receipt. not (is_done receipt)) (seen lists i list j)
    → (n ≡ count_by is_done (seen lists i list (j + 1))) × (m + 1 ≡ count_by (λ receipt. not (is_done receipt)) (seen lists i list (j + 1)))
one_refused lists i list j r n m at is_not done refused = (
  omega (arith, done, counted_next is_done lists i list j r at ∙ ap (λ b. count_by is_done (seen lists i list j) + cond b 1 0) is_not),
  omega (arith, refused, counted_next (λ (receipt : Receipt). not (is_done receipt)) lists i list j r at ∙ ap (λ b. count_by (λ (receipt : Receipt). not (is_done receipt)) (seen lists i list j) + cond (not b) 1 0) is_not),
)

pub receipts-preserved : goal.receipts-preserved
receipts-preserved c =
    let lists = receipts_of c.args.receipts.now in
    let list = c.list-item.result.receipts in
    elim c.match-get.branch [
      | in-None w ↦ absurd (none_missing list c.receipts.index (omega (arith, c.receipts-test.true, c.len-index-end.ensures)) (sym w.in-None.ensures))
      | in-Some+then-is_done w ↦ rw w.completed-is (rw w.refused-is (
          let one = one_done lists c.lists.list-index list c.receipts.index (receipt_seen w.in-Some.receipt) c.receipts.completed c.receipts.refused (sym w.in-Some.ensures) (sym w.if-is_done.ensures) c.receipts.invariant.1 c.receipts.invariant.2 in
          (c.receipts.invariant.0, one.0, one.1)))
      | in-Some+else-is_done w ↦ rw w.completed-is (rw w.refused-is (
          let one = one_refused lists c.lists.list-index list c.receipts.index (receipt_seen w.in-Some.receipt) c.receipts.completed c.receipts.refused (sym w.in-Some.ensures) (sym w.if-is_done.ensures) c.receipts.invariant.1 c.receipts.invariant.2 in
          (c.receipts.invariant.0, one.0, one.1)))
    ]

pub overflow_add-completed : goal.overflow_add-completed
overflow_add-completed c = omega (arith, c.receipts.invariant.1, c.requires.few, count_within is_done (receipts_of c.args.receipts.now) c.lists.list-index c.list-item.result.receipts c.receipts.index c.receipts.invariant.0 (omega (arith, c.receipts-test.true, c.len-index-end.ensures)))

pub overflow_add-refused : goal.overflow_add-refused
overflow_add-refused c = omega (arith, c.receipts.invariant.2, c.requires.few, count_within (λ receipt. not (is_done receipt)) (receipts_of c.args.receipts.now) c.lists.list-index c.list-item.result.receipts c.receipts.index c.receipts.invariant.0 (omega (arith, c.receipts-test.true, c.len-index-end.ensures)))

pub lists-preserved : goal.lists-preserved
lists-preserved c = let all = seen_list (receipts_of c.args.receipts.now) c.lists.list-index c.list-item.result.receipts c.receipts.index c.receipts.invariant.0 (omega (arith, c.receipts-test.false, c.len-index-end.ensures)) in (
  c.receipts.invariant.1 ∙ ap (λ t. count_by is_done t) all,
  c.receipts.invariant.2 ∙ ap (λ t. count_by (λ receipt. not (is_done receipt)) t) all,
)
