-- The verdict on a run, from what each pass finds.
use Rattle.std.proofs.Common.{◌≡◌, ℕ, suc, true, false, List, [], ◌∷◌, length, Option, Some, None, Result, Ok, Err, IfOk, slice_get, refl, sym, ap, ◌∙◌, subst, arith, inl, inr}
use Rattle.std.specs.Option.{option_map, is_some}
use Rattle.std.specs.Result.{result_err}
use Rattle.std.proofs.lemmas.Bool.{false≢true}
use Rattle.std.proofs.lemmas.List.{length-append}
use Rattle.std.proofs.lemmas.Result.{IfOk-at_ok}
use Rattle.tatp_tables.specs.Clean.{IsClean}
use Rattle.tatp_tables.specs.Database.{database_of}
use Rattle.tatp_tables.specs.declared.row.Rows.{Rows}
use Rattle.tatp_audits.specs.declared.verdict.Verdict.{Verdict}
use Rattle.tatp_audits.specs.Audits.{AllPass, IsVerdict, tests, says_clean}
use Rattle.tatp_audits.proofs.Verdicts.{pass_and_fail, pass_from_clean}
use Rattle.tatp_calls.specs.declared.ask.Ask.{Ask}
use Rattle.tatp_logs.specs.declared.receipt.Receipt.{Receipt}
use Rattle.tatp_settle.specs.declared.places.CallPlace.{CallPlace}
use Rattle.tatp_settle.specs.declared.places.ChapterPlace.{ChapterPlace}
use Rattle.tatp_settle.specs.declared.cause.Unsettled.{Unsettled}
use Rattle.tatp_settle.specs.declared.cause.Unsettled.TheVariants.{Mixed, ParcelLeft, Doubled, ChapterMissing, ChapterTwice, ChapterDiffers, CallMissing, ReceiptMissing, ReplyDiffers, StampOrder, HasHome, Audit}
use Rattle.tatp_settle.specs.Closings.{IsClosed}
use Rattle.tatp_settle.specs.Runs.{Run, at_call, joined, rows_left}
use Rattle.tatp_settle.specs.Answering.{AreMatched}
use Rattle.tatp_settle.specs.Placing.{ArePlaced}
use Rattle.tatp_settle.specs.Interleaving.{IsOneHistoryInAnyOrder}
use Rattle.tatp_settle.specs.Settlements.{IsOneHistory}
use Rattle.tatp_settle.specs.CallPlaces.{IsFirstCall, HoldsNowhere}
use Rattle.tatp_settle.specs.Causes.{IsUnjoined, NamesHome, IsUnmatched, IsFirstCause, HasNoCause}
use Rattle.tatp_settle.specs.ChapterTables.{IsFirstChapter}
use Rattle.tatp_settle.specs.CauseOrder.{NoneOfFirst, IsFirstOf, IsFirstInCalls}
use Rattle.tatp_settle.proofs.CauseLaws.{none_unjoined, first_unjoined, none_named, first_named}
use Rattle.tatp_settle.proofs.RunLaws.{runs_are_one_history_in_any_order}
use Rattle.tatp_settle.proofs.SettledLaws.{one_history}

pub join_cause_is : (run : Run) (v : Option ChapterPlace) → IsFirstChapter (IsUnjoined run.population run.closed) v → NoneOfFirst 5 run
    → IsFirstOf 6 run (option_map (λ (chapter : ChapterPlace). ChapterDiffers chapter.extent chapter.index) v)
join_cause_is run None first before = none_unjoined run before first
join_cause_is run (Some chapter) first before = first_unjoined run chapter.extent chapter.index before first

pub home_cause_is : (run : Run) (v : Option CallPlace) → IsFirstCall (NamesHome (database_of run.population).subscribers run.closed) v → NoneOfFirst 10 run
    → IsFirstOf 11 run (option_map (λ (call : CallPlace). HasHome call.client call.number) v)
home_cause_is run None first before = none_named run before first
home_cause_is run (Some call) first before = first_named run call.client call.number before first

-- ---- as many receipts as calls
same_length : {A B : Type 0} (xs : List A) (ys : List B) → ((n : ℕ) → is_some (slice_get xs n) ≡ is_some (slice_get ys n)) → length xs ≡ length ys
same_length [] [] h = refl
same_length [] (y ∷ ys) h = absurd (let k : false ≡ true = h 0 in cc)
same_length (x ∷ xs) [] h = absurd (let k : true ≡ false = h 0 in cc)
same_length (x ∷ xs) (y ∷ ys) h = let rest = same_length xs ys (λ n. h (suc n)) in omega (arith, rest)

none_listed : {A : Type 0} (xs : List A) → ((n : ℕ) → is_some (slice_get xs n) ≡ false) → length xs ≡ 0
none_listed [] h = refl
none_listed (x ∷ xs) h = absurd (let k : true ≡ false = h 0 in cc)

same_count : {A B : Type 0} (xs : List (List A)) (ys : List (List B)) → ((c n : ℕ) → is_some (at_call xs c n) ≡ is_some (at_call ys c n)) → length (joined xs) ≡ length (joined ys)
same_count {A} {B} [] [] h = refl
same_count {A} {B} [] (y ∷ ys) h =
    let first = none_listed y (λ n. sym (h 0 n)) in
    let rest = same_count {A = A} {B = B} [] ys (λ c n. h (suc c) n) in
    let all = length-append y (joined ys) in
    omega (arith, first, rest, all)
same_count {A} {B} (x ∷ xs) [] h =
    let first = none_listed x (λ n. h 0 n) in
    let rest = same_count {A = A} {B = B} xs [] (λ c n. h (suc c) n) in
    let all = length-append x (joined xs) in
    omega (arith, first, rest, all)
same_count {A} {B} (x ∷ xs) (y ∷ ys) h =
    let first = same_length x y (λ n. h 0 n) in
    let rest = same_count xs ys (λ c n. h (suc c) n) in
    let all = length-append x (joined xs) in
    let others = length-append y (joined ys) in
    omega (arith, first, rest, all, others)

beside : (client number : ℕ) (ask : Option Ask) (receipt : Option Receipt) → ((AreMatched client number ask receipt → ⊥) → ⊥) → is_some receipt ≡ is_some ask
beside client number None None h = refl
beside client number None (Some receipt) h = absurd (h (λ x. x))
beside client number (Some ask) None h = absurd (h (λ x. x))
beside client number (Some ask) (Some receipt) h = refl

-- where all calls have their receipts there are as many
pub as_many_receipts : (calls : List (List Ask)) (receipts : List (List Receipt)) → HoldsNowhere (IsUnmatched calls receipts) → length (joined receipts) ≡ length (joined calls)
as_many_receipts calls receipts h = same_count receipts calls (λ c n. beside c n (at_call calls c n) (at_call receipts c n) (h c n))

-- ---- what is known where no cause is found
-- a run in which no cause holds, and whose rows now are clean, is one history
pub judged : (run : Run) → IsClean run.population → IsClosed run.closed → NoneOfFirst 11 run → ArePlaced run.closed run.receipts → IsClean (rows_left run) → IsOneHistory run
judged run population closed none placed clean = one_history run placed.0 population closed none placed.1 clean

-- all tests pass where a verdict on the rows says that they are clean
all_pass : (rows : Rows) (verdict : Verdict) → IsVerdict rows verdict → says_clean verdict ≡ true → AllPass (tests rows)
all_pass rows verdict (inl fails) clean = pass_from_clean rows (Some verdict) fails clean
all_pass rows verdict (inr passed) clean = passed.0

-- and then every verdict on them does
says_so : (rows : Rows) (verdict : Verdict) → AllPass (tests rows) → IsVerdict rows verdict → says_clean verdict ≡ false → ⊥
says_so rows verdict pass (inl fails) dirty = pass_and_fail (tests rows) verdict pass fails
says_so rows verdict pass (inr passed) dirty = false≢true (sym dirty ∙ ap says_clean passed.1)

-- a run in which none of the other causes holds, and whose rows now are told to be clean, has none
pub no_cause : (run : Run) (verdict : Verdict) → NoneOfFirst 11 run → IsVerdict (rows_left run) verdict → says_clean verdict ≡ true → HasNoCause run
no_cause run verdict none told clean (Mixed e) h = none (Mixed e) (omega arith) h
no_cause run verdict none told clean (ParcelLeft e) h = none (ParcelLeft e) (omega arith) h
no_cause run verdict none told clean (Doubled e) h = none (Doubled e) (omega arith) h
no_cause run verdict none told clean (ChapterMissing e i) h = none (ChapterMissing e i) (omega arith) h
no_cause run verdict none told clean (ChapterTwice e i) h = none (ChapterTwice e i) (omega arith) h
no_cause run verdict none told clean (ChapterDiffers e i) h = none (ChapterDiffers e i) (omega arith) h
no_cause run verdict none told clean (CallMissing c n) h = none (CallMissing c n) (omega arith) h
no_cause run verdict none told clean (ReceiptMissing c n) h = none (ReceiptMissing c n) (omega arith) h
no_cause run verdict none told clean (ReplyDiffers c n) h = none (ReplyDiffers c n) (omega arith) h
no_cause run verdict none told clean (StampOrder c n) h = none (StampOrder c n) (omega arith) h
no_cause run verdict none told clean (HasHome c n) h = none (HasHome c n) (omega arith) h
no_cause run verdict none told clean (Audit other) h = says_so (rows_left run) other (all_pass (rows_left run) verdict told clean) h.0 h.1

-- the logs of a run that is one history are one in any order that keeps their own
pub one_history_in_any_order : (run : Run) → IsClean run.population → IsClosed run.closed → IsOneHistory run → IsOneHistoryInAnyOrder run
one_history_in_any_order run population closed one = runs_are_one_history_in_any_order run population closed one.extents

-- what a pass that found nothing says
pub none_found : (kinds : ℕ) (run : Run) (v : Option Unsettled) → v ≡ None → IsFirstOf kinds run v → NoneOfFirst kinds run
none_found kinds run v is first = subst (λ (w : Option Unsettled). IsFirstOf kinds run w) is first

-- what a pass that found a cause says
pub cause_found : (kinds : ℕ) (run : Run) (v : Option Unsettled) (cause : Unsettled) → v ≡ Some cause → IsFirstOf kinds run v → IsFirstCause run cause
cause_found kinds run v cause is first = subst (λ (w : Option Unsettled). IsFirstOf kinds run w) is first

-- what judging the calls says where none of them is a cause, and where one is
pub none_in_calls : {C E : Type 0} (run : Run) {r : Result (Result C Unsettled) E} {v : Result C Unsettled} {counts : C} → r ≡ Ok v → v ≡ Ok counts → IfOk r (λ judged. IsFirstInCalls run (result_err judged)) → IsFirstInCalls run None
none_in_calls {C} run was is h = subst (λ (w : Result C Unsettled). IsFirstInCalls run (result_err w)) is (IfOk-at_ok (λ (w : Result C Unsettled). IsFirstInCalls run (result_err w)) was h)

pub one_in_calls : {C E : Type 0} (run : Run) {r : Result (Result C Unsettled) E} {v : Result C Unsettled} {cause : Unsettled} → r ≡ Ok v → v ≡ Err cause → IfOk r (λ judged. IsFirstInCalls run (result_err judged)) → IsFirstInCalls run (Some cause)
one_in_calls {C} run was is h = subst (λ (w : Result C Unsettled). IsFirstInCalls run (result_err w)) is (IfOk-at_ok (λ (w : Result C Unsettled). IsFirstInCalls run (result_err w)) was h)
