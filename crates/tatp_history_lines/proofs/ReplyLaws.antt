-- A recorded reply and its text: what is printed is read, and what is read is printed so.
use Rattle.std.proofs.Common.{◌≡◌, ℕ, ◌<◌, ◌^◌, ◌∙◌, sym, ap, subst, Bool, true, false, cond, List, [], ◌∷◌, ◌++◌, length, refl, arith, Some, None, decimal, codes, bytes_eq}
use Rattle.std.proofs.lemmas.List.Splits.{slice_split_none, slice_split_at, join_with_byte-slice_split}
use Rattle.std.proofs.lemmas.Option.{none-some, same_Some, option_and_then_some, cond_some}
use Rattle.std.specs.List.{All, join_with_byte}
use Rattle.std.specs.Option.{option_and_then}
use Rattle.tatp_texts.specs.Text.{fields_of, value_of, digits_of, letters_of}
use Rattle.tatp_texts.proofs.FieldLaws.{is_space}
use Rattle.tatp_lines.specs.Numbers.{number_of, is_number}
use Rattle.tatp_calls.specs.declared.call.Call.{Call}
use Rattle.tatp_calls.specs.declared.call.Call.TheVariants.{GetSubscriberData, GetNewDestination, GetAccessData, UpdateSubscriberData, UpdateLocation, InsertCallForwarding, DeleteCallForwarding}
use Rattle.tatp_calls.specs.declared.reply.Reply.{Reply}
use Rattle.tatp_calls.specs.declared.reply.Reply.TheVariants.{Values, Failed, Trapped, Refused}
use Rattle.tatp_calls.specs.declared.ask.Ask.TheVariants.{Txn}
use Rattle.tatp_calls.specs.ReplyText.{answer_columns, reply_text}
use Rattle.tatp_history.specs.declared.observed.Recorded.{Recorded}
use Rattle.tatp_history.specs.declared.observed.Recorded.TheVariants.{Exactly, Success, Failure}
use Rattle.tatp_history_lines.specs.Words.{short_number_of}
use Rattle.tatp_history_lines.specs.ReplyValues.{printed_value_of, values_within, has_values}
use Rattle.tatp_history_lines.specs.Recordings.{with_values, success_of, ended, failure_of, reply_of_fields, reply_of, recorded_of, recorded_text, HasReplyForm, HasForm}
use Rattle.tatp_history_lines.specs.LineText.{reply_numbers, recorded_numbers}
use Rattle.tatp_history_lines.proofs.WordLaws.{option_map_some, chosen, same_bytes, short_read, short_written, word_no_space, decimal_no_space}
use Rattle.tatp_history_lines.proofs.ValuesLaws.{joined_texts, fields_of_texts, within_written, within_read}

-- ---- what is read is printed so
-- a reply that prints as these fields
abbrev PrintsAs : Call → List (List ℕ) → Reply → Type 0
PrintsAs call fields reply = (reply_text (Txn call) reply ≡ join_with_byte 32 fields) × HasReplyForm call reply

success_printed : (call : Call) (word : List ℕ) (fields : List (List ℕ)) (reply : Reply) → bytes_eq word (codes "OK") ≡ true → success_of call fields ≡ Some reply → PrintsAs call (word ∷ fields) reply
success_printed call word fields reply t h = option_and_then_some (with_values call) (values_within (answer_columns call) fields) reply h (λ values is then.
    let form = cond_some (has_values call (length values)) (Values values) reply then in
    let read = within_read (answer_columns call) fields values is in
    subst (PrintsAs call (word ∷ fields)) form.1
    (joined_texts (answer_columns call) values (codes "OK") read.1 ∙ (λ i. join_with_byte 32 (sym (same_bytes word (codes "OK") t) i ∷ sym read.0 i)), (form.0, read.1)))

ended_some : (reply y : Reply) (fields : List (List ℕ)) → ended reply fields ≡ Some y → (fields ≡ []) × (reply ≡ y)
ended_some reply y [] h = (refl, same_Some reply y h)
ended_some reply y (field ∷ fields) h = absurd (none-some y h)

failure_printed : (call : Call) (word : List ℕ) (fields : List (List ℕ)) (reply : Reply) → bytes_eq word (codes "FAILED") ≡ true → failure_of fields ≡ Some reply → PrintsAs call (word ∷ fields) reply
failure_printed call word [] reply t h = absurd (none-some reply h)
failure_printed call word (field ∷ more) reply t h = option_and_then_some (λ n. ended (Failed n) more) (short_number_of field) reply h (λ n is then.
    let end = ended_some (Failed n) reply more then in
    let short = short_read field n is in
    subst (PrintsAs call (word ∷ field ∷ more)) end.1
    ((λ i. join_with_byte 32 (sym (same_bytes word (codes "FAILED") t) i ∷ sym short.0 i ∷ sym end.0 i)), short.1))

fields_printed : (call : Call) (fields : List (List ℕ)) (reply : Reply) → reply_of_fields call fields ≡ Some reply → PrintsAs call fields reply
fields_printed call [] reply h = absurd (none-some reply h)
fields_printed call (word ∷ fields) reply h =
    chosen (PrintsAs call (word ∷ fields)) (bytes_eq word (codes "OK")) (success_of call fields) _ reply h (λ t e. success_printed call word fields reply t e) (λ h.
    chosen (PrintsAs call (word ∷ fields)) (bytes_eq word (codes "FAILED")) (failure_of fields) None reply h (λ t e. failure_printed call word fields reply t e) (λ h. absurd (none-some reply h)))

reply_printed : (call : Call) (text : List ℕ) (reply : Reply) → reply_of call text ≡ Some reply → (reply_text (Txn call) reply ≡ text) × HasReplyForm call reply
unfolding reply_of
reply_printed call text reply h =
    let read = fields_printed call (fields_of text) reply h in
    (read.0 ∙ join_with_byte-slice_split 32 text, read.1)

abbrev IsRecordedAs : Call → List ℕ → Recorded → Type 0
IsRecordedAs call text recorded = (recorded_text call recorded ≡ text) × HasForm call recorded

pub recorded_printed : (call : Call) (text : List ℕ) (recorded : Recorded) → recorded_of call text ≡ Some recorded → IsRecordedAs call text recorded
recorded_printed call text recorded h =
    chosen (IsRecordedAs call text) (bytes_eq text (codes "OK ?")) (Some Success) _ recorded h
    (λ t e. subst (IsRecordedAs call text) (same_Some Success recorded e) (sym (same_bytes text (codes "OK ?") t), tt)) (λ h.
    chosen (IsRecordedAs call text) (bytes_eq text (codes "FAILED ?")) (Some Failure) _ recorded h
    (λ t e. subst (IsRecordedAs call text) (same_Some Failure recorded e) (sym (same_bytes text (codes "FAILED ?") t), tt)) (λ h.
    let reply = option_map_some Exactly (reply_of call text) recorded h in
    subst (IsRecordedAs call text) reply.2 (reply_printed call text reply.0 reply.1)))

-- ---- what is printed is read
values_read : (call : Call) (values : List ℕ) → HasReplyForm call (Values values) → All (λ n. n < 2 ^ 64) values → reply_of call (reply_text (Txn call) (Values values)) ≡ Some (Values values)
unfolding reply_of
values_read call values form f =
    ap (reply_of_fields call) (fields_of_texts (answer_columns call) values (codes "OK") (word_no_space (codes "OK") refl) f form.1)
    ∙ (ap (option_and_then (with_values call)) (within_written (answer_columns call) values f form.1)
    ∙ ap (λ b. cond b (Some (Values values)) None) form.0)

failure_fields : (n : ℕ) → n < 2 ^ 32 → fields_of (codes "FAILED " ++ decimal n) ≡ codes "FAILED" ∷ decimal n ∷ []
failure_fields n h =
    slice_split_at is_space (codes "FAILED") 32 (decimal n) (word_no_space (codes "FAILED") refl) refl
    ∙ ap (λ rest. codes "FAILED" ∷ rest) (slice_split_none is_space (decimal n) (decimal_no_space n (omega arith)))

failure_read : (call : Call) (n : ℕ) → n < 2 ^ 32 → reply_of call (reply_text (Txn call) (Failed n)) ≡ Some (Failed n)
unfolding reply_of
failure_read call n h = ap (reply_of_fields call) (failure_fields n h) ∙ ap (option_and_then (λ m. ended (Failed m) [])) (short_written n h)

reply_read : (call : Call) (reply : Reply) → HasReplyForm call reply → All (λ n. n < 2 ^ 64) (reply_numbers reply) → reply_of call (reply_text (Txn call) reply) ≡ Some reply
reply_read call (Values values) form f = values_read call values form f
reply_read call (Failed n) form f = failure_read call n form
reply_read call (Trapped trap) form f = absurd form
reply_read call Refused form f = absurd form

-- what records any success or any failure records no reply
mark : List ℕ
mark = codes "?"

no_success : (call : Call) → reply_of call (codes "OK ?") ≡ None
unfolding reply_of values_within printed_value_of value_of number_of is_number digits_of letters_of
no_success (GetSubscriberData s) = refl
no_success (GetNewDestination s t b e) = refl
no_success (GetAccessData s t) = refl
no_success (UpdateSubscriberData s x t y) = refl
no_success (UpdateLocation n v) = refl
no_success (InsertCallForwarding n t b e x) = refl
no_success (DeleteCallForwarding n t b) = refl

no_failure : (call : Call) → reply_of call (codes "FAILED ?") ≡ None
unfolding reply_of number_of is_number
no_failure call = refl

is_not : (call : Call) (text words : List ℕ) (reply : Reply) (t : Bool) → bytes_eq text words ≡ t → reply_of call words ≡ None → reply_of call text ≡ Some reply → t ≡ false
is_not call text words reply true e n h = absurd (none-some reply (sym n ∙ (ap (reply_of call) (sym (same_bytes text words e)) ∙ h)))
is_not call text words reply false e n h = refl

exactly_read : (call : Call) (text : List ℕ) (reply : Reply) → reply_of call text ≡ Some reply → recorded_of call text ≡ Some (Exactly reply)
exactly_read call text reply h =
    rw (
      is_not call text (codes "OK ?") reply (bytes_eq text (codes "OK ?")) refl (no_success call) h,
      is_not call text (codes "FAILED ?") reply (bytes_eq text (codes "FAILED ?")) refl (no_failure call) h,
      h,
    ) refl

pub recorded_read : (call : Call) (recorded : Recorded) → HasForm call recorded → All (λ n. n < 2 ^ 64) (recorded_numbers recorded) → recorded_of call (recorded_text call recorded) ≡ Some recorded
recorded_read call (Exactly reply) form f = exactly_read call (reply_text (Txn call) reply) reply (reply_read call reply form f)
recorded_read call Success form f = refl
recorded_read call Failure form f = refl
