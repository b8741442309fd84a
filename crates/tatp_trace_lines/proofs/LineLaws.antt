-- A line and its text: what is printed is read, and what is read is printed so.
use Rattle.std.proofs.Common.{◌≡◌, ℕ, zero, suc, ◌<◌, ◌≤◌, ◌^◌, ◌∙◌, sym, ap, subst, Bool, true, false, not, cond, ◌&&◌, leb, List, [], ◌∷◌, ◌++◌, length, refl, arith, Option, Some, None, bytes_eq, codes, decimal, map, drop, inl, inr, ◌⊎◌}
use Rattle.std.proofs.lemmas.Bool.{and_parts, false≢true}
use Rattle.std.proofs.lemmas.Bool.Decides.{nat_tests}
use Rattle.std.proofs.lemmas.List.{append-nil}
use Rattle.std.proofs.lemmas.List.Elements.{All-nil, All-cons, All-head, All-tail}
use Rattle.std.proofs.lemmas.List.Splits.{slice_split_none, slice_split_at, join_with_byte-slice_split}
use Rattle.std.proofs.lemmas.Option.{none-some, same_Some, option_and_then_some}
use Rattle.std.proofs.lemmas.Slice.Eq.{bytes_eq-Decides}
use Rattle.std.specs.List.{All, list_all, join_with_byte, onto_first}
use Rattle.std.specs.Option.{IfSome, option_map, option_and_then}
use Rattle.tatp_limits.specs.declared.limits.TheConstants.{MAX_ARGUMENTS, MAX_STEPS}
use Rattle.tatp_lines.specs.Numbers.{number_of}
use Rattle.tatp_lines.proofs.NumberLaws.{number_of-decimal, decimal-number_of}
use Rattle.tatp_texts.specs.Text.{fields_of, value_of}
use Rattle.tatp_texts.proofs.FieldLaws.{is_space}
use Rattle.tatp_texts.proofs.ValueLaws.{HasNoSpace, value_text-value_of}
use Rattle.tatp_numbers.specs.declared.key.Key.{Key}
use Rattle.tatp_numbers.specs.declared.key.Key.TheVariants.{Id, Number}
use Rattle.tatp_calls.specs.declared.call.Call.{Call}
use Rattle.tatp_calls.specs.declared.ask.Ask.TheVariants.{Txn, Raw}
use Rattle.tatp_calls.specs.Asks.{RawCall}
use Rattle.tatp_calls.specs.Calls.{arguments_of}
use Rattle.tatp_calls.specs.CallText.{call_of_fields, call_of_line, call_text, is_printable_call}
use Rattle.tatp_calls.proofs.CallTextLaws.{call_of_line-call_text, call_text_of_read}
use Rattle.tatp_events.specs.declared.event.Event.TheVariants.{Submit, Begin, Deny, Step, Take, Give, Route, Checkpoint, Stop, Resume, One, Break, Clear}
use Rattle.tatp_trace_lines.specs.declared.line.TraceLine.{TraceLine}
use Rattle.tatp_trace_lines.specs.declared.line.TraceLine.TheVariants.{Event, Steps, Look, Home, Audit}
use Rattle.tatp_trace_lines.specs.LineFields.{next_number, ended, one_number, two_numbers, three_numbers, numbers_within, submit_of, key_of, raw_call_of, raw_of, steps_of, line_of_fields, line_of}
use Rattle.tatp_trace_lines.specs.LineText.{with_numbers, key_word, key_number, line_numbers, line_text, HasForm}

-- ---- what is read is printed so
-- a line that prints as these fields
abbrev PrintsAs : List (List ℕ) → TraceLine → Type 0
PrintsAs fields line = (line_text line ≡ join_with_byte 32 fields) × HasForm line

-- the fields are those of a text, or none
abbrev AreFields : List (List ℕ) → Type 0
AreFields fields = (fields ≡ []) ⊎ ((text : List ℕ) × (fields ≡ fields_of text))

same_bytes : (a b : List ℕ) → bytes_eq a b ≡ true → a ≡ b
same_bytes a b h = (bytes_eq-Decides a b).0 h

-- a word and numbers are the word and the numbers' texts, joined by spaces
numbers_joined : (word : List ℕ) (numbers : List ℕ) → with_numbers word numbers ≡ join_with_byte 32 (word ∷ map decimal numbers)
numbers_joined word [] = append-nil word
numbers_joined word (n ∷ numbers) = ap (λ rest. word ++ (32 ∷ rest)) (numbers_joined (decimal n) numbers)

number_read : (field : List ℕ) (n : ℕ) → number_of field ≡ Some n → decimal n ≡ field
number_read field n h = (decimal-number_of field n h).0

next_number_some : {A P : Type 0} (fields : List (List ℕ)) (rest : ℕ → List (List ℕ) → Option A) (y : A) → next_number fields rest ≡ Some y
    → ((n : ℕ) (more : List (List ℕ)) → fields ≡ decimal n ∷ more → rest n more ≡ Some y → P) → P
next_number_some [] rest y h f = absurd (none-some y h)
next_number_some (field ∷ more) rest y h f = option_and_then_some (λ n. rest n more) (number_of field) y h (λ n is then. f n more (ap (λ x. x ∷ more) (sym (number_read field n is))) then)

ended_some : {A : Type 0} (x y : A) (fields : List (List ℕ)) → ended x fields ≡ Some y → (fields ≡ []) × (x ≡ y)
ended_some x y [] h = (refl, same_Some x y h)
ended_some x y (field ∷ fields) h = absurd (none-some y h)

option_map_some : {T U : Type 0} (f : T → U) (o : Option T) (y : U) → option_map f o ≡ Some y → (x : T) × (o ≡ Some x) × (f x ≡ y)
option_map_some f None y h = absurd (none-some y h)
option_map_some f (Some x) y h = (x, refl, same_Some (f x) y h)

one_read : (fields : List (List ℕ)) (n : ℕ) → one_number fields ≡ Some n → fields ≡ decimal n ∷ []
one_read fields n h = next_number_some fields ended n h (λ m more is then. let e = ended_some m n more then in is ∙ (λ i. decimal (e.1 i) ∷ e.0 i))

two_read : (fields : List (List ℕ)) (n : ℕ × ℕ) → two_numbers fields ≡ Some n → fields ≡ decimal n.0 ∷ decimal n.1 ∷ []
two_read fields n h = next_number_some fields (λ a more. option_map (λ b. (a, b)) (one_number more)) n h (λ a more is then.
    let b = option_map_some (λ b. (a, b)) (one_number more) n then in
    is ∙ (ap (λ rest. decimal a ∷ rest) (one_read more b.0 b.1) ∙ ap (λ (m : ℕ × ℕ). decimal m.0 ∷ decimal m.1 ∷ []) b.2))

three_read : (fields : List (List ℕ)) (n : ℕ × ℕ × ℕ) → three_numbers fields ≡ Some n → fields ≡ decimal n.0 ∷ decimal n.1 ∷ decimal n.2 ∷ []
three_read fields n h = next_number_some fields (λ a more. option_map (λ (b : ℕ × ℕ). (a, b.0, b.1)) (two_numbers more)) n h (λ a more is then.
    let b = option_map_some (λ (b : ℕ × ℕ). (a, b.0, b.1)) (two_numbers more) n then in
    is ∙ (ap (λ rest. decimal a ∷ rest) (two_read more b.0 b.1) ∙ ap (λ (m : ℕ × ℕ × ℕ). decimal m.0 ∷ decimal m.1 ∷ decimal m.2 ∷ []) b.2))

within_read : (room : ℕ) (fields : List (List ℕ)) (numbers : List ℕ) → numbers_within room fields ≡ Some numbers → (fields ≡ map decimal numbers) × (length numbers ≤ room)
within_read zero [] numbers h = let e : [] ≡ numbers = same_Some [] numbers h in subst (λ ns. ([] ≡ map decimal ns) × (length ns ≤ 0)) e (refl, omega arith)
within_read (suc room) [] numbers h = let e : [] ≡ numbers = same_Some [] numbers h in subst (λ ns. ([] ≡ map decimal ns) × (length ns ≤ suc room)) e (refl, omega arith)
within_read zero (field ∷ fields) numbers h = absurd (none-some numbers h)
within_read (suc room) (field ∷ fields) numbers h =
    option_and_then_some (λ n. option_map (λ rest. n ∷ rest) (numbers_within room fields)) (number_of field) numbers h (λ n is then.
    let rest = option_map_some (λ rest. n ∷ rest) (numbers_within room fields) numbers then in
    let own = within_read room fields rest.0 rest.1 in
    subst (λ ns. (field ∷ fields ≡ map decimal ns) × (length ns ≤ suc room)) rest.2 ((λ i. sym (number_read field n is) i ∷ own.0 i), omega (arith, own.1)))

-- a line of a word and numbers
of_numbers : (word keyword : List ℕ) (fields : List (List ℕ)) (numbers : List ℕ) (line : TraceLine) → bytes_eq word keyword ≡ true → fields ≡ map decimal numbers → line_text line ≡ with_numbers keyword numbers → HasForm line → PrintsAs (word ∷ fields) line
of_numbers word keyword fields numbers line t is text form =
    (text ∙ (numbers_joined keyword numbers ∙ (λ i. join_with_byte 32 (sym (same_bytes word keyword t) i ∷ sym is i))), form)

of_one : (word keyword : List ℕ) (fields : List (List ℕ)) (build : ℕ → TraceLine) (line : TraceLine) → bytes_eq word keyword ≡ true → ((n : ℕ) → line_text (build n) ≡ with_numbers keyword (n ∷ [])) → ((n : ℕ) → HasForm (build n))
    → option_map build (one_number fields) ≡ Some line → PrintsAs (word ∷ fields) line
of_one word keyword fields build line t text form h =
    let n = option_map_some build (one_number fields) line h in
    subst (PrintsAs (word ∷ fields)) n.2 (of_numbers word keyword fields (n.0 ∷ []) (build n.0) t (one_read fields n.0 n.1) (text n.0) (form n.0))

of_two : (word keyword : List ℕ) (fields : List (List ℕ)) (build : ℕ × ℕ → TraceLine) (line : TraceLine) → bytes_eq word keyword ≡ true → ((n : ℕ × ℕ) → line_text (build n) ≡ with_numbers keyword (n.0 ∷ n.1 ∷ [])) → ((n : ℕ × ℕ) → HasForm (build n))
    → option_map build (two_numbers fields) ≡ Some line → PrintsAs (word ∷ fields) line
of_two word keyword fields build line t text form h =
    let n = option_map_some build (two_numbers fields) line h in
    subst (PrintsAs (word ∷ fields)) n.2 (of_numbers word keyword fields (n.0.0 ∷ n.0.1 ∷ []) (build n.0) t (two_read fields n.0 n.1) (text n.0) (form n.0))

of_three : (word keyword : List ℕ) (fields : List (List ℕ)) (build : ℕ × ℕ × ℕ → TraceLine) (line : TraceLine) → bytes_eq word keyword ≡ true → ((n : ℕ × ℕ × ℕ) → line_text (build n) ≡ with_numbers keyword (n.0 ∷ n.1 ∷ n.2 ∷ [])) → ((n : ℕ × ℕ × ℕ) → HasForm (build n))
    → option_map build (three_numbers fields) ≡ Some line → PrintsAs (word ∷ fields) line
of_three word keyword fields build line t text form h =
    let n = option_map_some build (three_numbers fields) line h in
    subst (PrintsAs (word ∷ fields)) n.2 (of_numbers word keyword fields (n.0.0 ∷ n.0.1 ∷ n.0.2 ∷ []) (build n.0) t (three_read fields n.0 n.1) (text n.0) (form n.0))

-- steps
within : (count : ℕ) → (leb 1 count && leb count MAX_STEPS) ≡ true → (1 ≤ count) × (count ≤ MAX_STEPS)
within count h = (grind (arith, nat_tests), grind (arith, nat_tests))

steps_some : (p count : ℕ) (line : TraceLine) (b : Bool) → (b ≡ true → (1 ≤ count) × (count ≤ MAX_STEPS)) → cond b (Some (Steps p count)) None ≡ Some line → (line ≡ Steps p count) × (1 ≤ count) × (count ≤ MAX_STEPS)
steps_some p count line true f h = let w = f refl in (sym (same_Some (Steps p count) line h), w.0, w.1)
steps_some p count line false f h = absurd (none-some line h)

of_steps : (word : List ℕ) (fields : List (List ℕ)) (line : TraceLine) → bytes_eq word (codes "steps") ≡ true → option_and_then (λ (n : ℕ × ℕ). steps_of n.0 n.1) (two_numbers fields) ≡ Some line → PrintsAs (word ∷ fields) line
of_steps word fields line t h = option_and_then_some (λ (n : ℕ × ℕ). steps_of n.0 n.1) (two_numbers fields) line h (λ n is then.
    let s = steps_some n.0 n.1 line (leb 1 n.1 && leb n.1 MAX_STEPS) (within n.1) then in
    subst (PrintsAs (word ∷ fields)) (sym s.0) (of_numbers word (codes "steps") fields (n.0 ∷ n.1 ∷ []) (Steps n.0 n.1) t (two_read fields n is) refl (s.1, s.2)))

of_audit : (word : List ℕ) (fields : List (List ℕ)) (line : TraceLine) → bytes_eq word (codes "audit") ≡ true → ended Audit fields ≡ Some line → PrintsAs (word ∷ fields) line
of_audit word fields line t h =
    let e = ended_some Audit line fields h in
    subst (PrintsAs (word ∷ fields)) e.1 (of_numbers word (codes "audit") fields [] Audit t e.0 (sym (append-nil (codes "audit"))) tt)

-- the fields after the first are those of a text, or none
tail_of_first : (b : ℕ) (field : List ℕ) (more : List (List ℕ)) (parts : List (List ℕ)) → ((part : List ℕ) (rest : List (List ℕ)) → parts ≡ part ∷ rest → AreFields rest) → onto_first b parts ≡ field ∷ more → AreFields more
tail_of_first b field more [] f h = inl (sym (ap (drop 1) h))
tail_of_first b field more (part ∷ rest) f h = subst AreFields (ap (drop 1) h) (f part rest refl)

tail_of_test : (b : ℕ) (bs : List ℕ) (t : Bool) (field : List ℕ) (more : List (List ℕ)) → ((part : List ℕ) (rest : List (List ℕ)) → fields_of bs ≡ part ∷ rest → AreFields rest) → cond t ([] ∷ fields_of bs) (onto_first b (fields_of bs)) ≡ field ∷ more → AreFields more
tail_of_test b bs true field more f h = inr (bs, sym (ap (drop 1) h))
tail_of_test b bs false field more f h = tail_of_first b field more (fields_of bs) f h

tail_of_split : (text : List ℕ) (field : List ℕ) (more : List (List ℕ)) → fields_of text ≡ field ∷ more → AreFields more
tail_of_split [] field more h = inl (sym (ap (drop 1) h))
tail_of_split (b ∷ bs) field more h = tail_of_test b bs (is_space b) field more (tail_of_split bs) h

tail_fields : (field : List ℕ) (more : List (List ℕ)) → AreFields (field ∷ more) → AreFields more
tail_fields field more (inl none) = absurd (cc none)
tail_fields field more (inr (text, is)) = tail_of_split text field more (sym is)

-- a call line
call_printed : (text : List ℕ) (fields : List (List ℕ)) (call : Call) → fields ≡ fields_of text → call_of_fields fields ≡ Some call → (call_text call ≡ join_with_byte 32 fields) × (is_printable_call call ≡ true)
unfolding call_of_line
call_printed text fields call is h =
    let read = call_text_of_read text (Some call) (sym (ap call_of_fields (sym is) ∙ h)) in
    (read.0 ∙ sym (ap (join_with_byte 32) is ∙ join_with_byte-slice_split 32 text), read.1)

submit_joined : (word : List ℕ) (client : ℕ) (call : Call) (fields : List (List ℕ)) → bytes_eq word (codes "submit") ≡ true → AreFields fields → call_of_fields fields ≡ Some call → PrintsAs (word ∷ decimal client ∷ fields) (Event (Submit client (Txn call)))
submit_joined word client call [] t of h = absurd (none-some call h)
submit_joined word client call (field ∷ more) t (inl none) h = absurd (cc none)
submit_joined word client call (field ∷ more) t (inr (text, is)) h =
    let p = call_printed text (field ∷ more) call is h in
    ((λ i. sym (same_bytes word (codes "submit") t) i ++ (32 ∷ (decimal client ++ (32 ∷ p.0 i)))), p.1)

of_submit : (word : List ℕ) (fields : List (List ℕ)) (line : TraceLine) → bytes_eq word (codes "submit") ≡ true → AreFields fields → submit_of fields ≡ Some line → PrintsAs (word ∷ fields) line
of_submit word fields line t of h = next_number_some fields (λ client more. option_map (λ call. Event (Submit client (Txn call))) (call_of_fields more)) line h (λ client more is then.
    let call = option_map_some (λ call. Event (Submit client (Txn call))) (call_of_fields more) line then in
    subst (λ fs. PrintsAs (word ∷ fs) line) (sym is) (subst (PrintsAs (word ∷ decimal client ∷ more)) call.2 (submit_joined word client call.0 more t (tail_fields (decimal client) more (subst AreFields is of)) call.1)))

-- a call of any procedure
key_cases : (word : List ℕ) (n : ℕ) (key : Key) (s t : Bool) → (s ≡ true → word ≡ codes "id") → (t ≡ true → word ≡ codes "number") → cond s (Some (Id n)) (cond t (Some (Number n)) None) ≡ Some key → (word ≡ key_word key) × (n ≡ key_number key)
key_cases word n key true t f g h = let e = same_Some (Id n) key h in subst (λ k. (word ≡ key_word k) × (n ≡ key_number k)) e (f refl, refl)
key_cases word n key false true f g h = let e = same_Some (Number n) key h in subst (λ k. (word ≡ key_word k) × (n ≡ key_number k)) e (g refl, refl)
key_cases word n key false false f g h = absurd (none-some key h)

key_some : (word : List ℕ) (n : ℕ) (key : Key) → key_of word n ≡ Some key → (word ≡ key_word key) × (n ≡ key_number key)
key_some word n key h = key_cases word n key (bytes_eq word (codes "id")) (bytes_eq word (codes "number")) (same_bytes word (codes "id")) (same_bytes word (codes "number")) h

-- the fields of such a call
abbrev raw_fields : ℕ → RawCall → List (List ℕ)
raw_fields client call = decimal client ∷ decimal call.procedure ∷ key_word call.key ∷ decimal (key_number call.key) ∷ map decimal call.arguments

abbrev AreOfRaw : List (List ℕ) → TraceLine → Type 0
AreOfRaw fields line = (client : ℕ) × (call : RawCall) × (line ≡ Event (Submit client (Raw call))) × (fields ≡ raw_fields client call) × (length call.arguments ≤ MAX_ARGUMENTS)

raw_call_some : (client procedure : ℕ) (fields : List (List ℕ)) (line : TraceLine) → raw_call_of client procedure fields ≡ Some line → AreOfRaw (decimal client ∷ decimal procedure ∷ fields) line
raw_call_some client procedure [] line h = absurd (none-some line h)
raw_call_some client procedure (word ∷ fields) line h =
    next_number_some fields _ line h (λ n more is then.
    option_and_then_some _ (key_of word n) line then (λ key named rest.
    let key_is = key_some word n key named in
    let arguments = option_map_some _ (numbers_within MAX_ARGUMENTS more) line rest in
    let read = within_read MAX_ARGUMENTS more arguments.0 arguments.1 in (
      client,
      record { procedure = procedure; arguments = arguments.0; key = key },
      sym arguments.2,
      (λ i. decimal client ∷ decimal procedure ∷ key_is.0 i ∷ (is ∙ (λ j. decimal (key_is.1 j) ∷ read.0 j)) i),
      read.1,
    )))

raw_some : (fields : List (List ℕ)) (line : TraceLine) → raw_of fields ≡ Some line → AreOfRaw fields line
raw_some fields line h = next_number_some fields _ line h (λ client more is then.
    next_number_some more (raw_call_of client) line then (λ procedure rest is₂ then₂.
    subst (λ fs. AreOfRaw fs line) (sym (is ∙ ap (λ fs. decimal client ∷ fs) is₂)) (raw_call_some client procedure rest line then₂)))

raw_joined : (client : ℕ) (call : RawCall) → line_text (Event (Submit client (Raw call))) ≡ join_with_byte 32 (codes "raw" ∷ raw_fields client call)
raw_joined client call = ap (λ rest. codes "raw " ++ (decimal client ++ (32 ∷ (decimal call.procedure ++ (32 ∷ rest))))) (numbers_joined (key_word call.key) (key_number call.key ∷ call.arguments))

of_raw : (word : List ℕ) (fields : List (List ℕ)) (line : TraceLine) → bytes_eq word (codes "raw") ≡ true → raw_of fields ≡ Some line → PrintsAs (word ∷ fields) line
of_raw word fields line t h =
    let r = raw_some fields line h in
    subst (PrintsAs (word ∷ fields)) (sym r.2) (raw_joined r.0 r.1 ∙ (λ i. join_with_byte 32 (sym (same_bytes word (codes "raw") t) i ∷ sym r.3 i)), r.4)

-- one word's choice, or the rest
by_word : (P : TraceLine → Type 0) (t : Bool) (o rest : Option TraceLine) (line : TraceLine) → cond t o rest ≡ Some line → (t ≡ true → o ≡ Some line → P line) → (rest ≡ Some line → P line) → P line
by_word P true o rest line h f g = f refl h
by_word P false o rest line h f g = g h

fields_read : (fields : List (List ℕ)) (line : TraceLine) → AreFields fields → line_of_fields fields ≡ Some line → PrintsAs fields line
fields_read [] line of h = absurd (none-some line h)
fields_read (word ∷ fields) line of h =
    by_word (PrintsAs (word ∷ fields)) _ _ _ line h (λ t e. of_submit word fields line t (tail_fields word fields of) e) (λ h.
    by_word (PrintsAs (word ∷ fields)) _ _ _ line h (λ t e. of_raw word fields line t e) (λ h.
    by_word (PrintsAs (word ∷ fields)) _ _ _ line h (λ t e. of_one word (codes "begin") fields (λ p. Event (Begin p)) line t (λ n. refl) (λ n. tt) e) (λ h.
    by_word (PrintsAs (word ∷ fields)) _ _ _ line h (λ t e. of_one word (codes "deny") fields (λ p. Event (Deny p)) line t (λ n. refl) (λ n. tt) e) (λ h.
    by_word (PrintsAs (word ∷ fields)) _ _ _ line h (λ t e. of_one word (codes "step") fields (λ p. Event (Step p)) line t (λ n. refl) (λ n. tt) e) (λ h.
    by_word (PrintsAs (word ∷ fields)) _ _ _ line h (λ t e. of_one word (codes "one") fields (λ p. Event (One p)) line t (λ n. refl) (λ n. tt) e) (λ h.
    by_word (PrintsAs (word ∷ fields)) _ _ _ line h (λ t e. of_steps word fields line t e) (λ h.
    by_word (PrintsAs (word ∷ fields)) _ _ _ line h (λ t e. of_two word (codes "take") fields (λ n. Event (Take n.0 n.1)) line t (λ n. refl) (λ n. tt) e) (λ h.
    by_word (PrintsAs (word ∷ fields)) _ _ _ line h (λ t e. of_two word (codes "give") fields (λ n. Event (Give n.0 n.1)) line t (λ n. refl) (λ n. tt) e) (λ h.
    by_word (PrintsAs (word ∷ fields)) _ _ _ line h (λ t e. of_two word (codes "route") fields (λ n. Event (Route n.0 n.1)) line t (λ n. refl) (λ n. tt) e) (λ h.
    by_word (PrintsAs (word ∷ fields)) _ _ _ line h (λ t e. of_two word (codes "checkpoint") fields (λ n. Event (Checkpoint n.0 n.1)) line t (λ n. refl) (λ n. tt) e) (λ h.
    by_word (PrintsAs (word ∷ fields)) _ _ _ line h (λ t e. of_one word (codes "stop") fields (λ p. Event (Stop p)) line t (λ n. refl) (λ n. tt) e) (λ h.
    by_word (PrintsAs (word ∷ fields)) _ _ _ line h (λ t e. of_one word (codes "resume") fields (λ p. Event (Resume p)) line t (λ n. refl) (λ n. tt) e) (λ h.
    by_word (PrintsAs (word ∷ fields)) _ _ _ line h (λ t e. of_three word (codes "break") fields (λ n. Event (Break n.0 n.1 n.2)) line t (λ n. refl) (λ n. tt) e) (λ h.
    by_word (PrintsAs (word ∷ fields)) _ _ _ line h (λ t e. of_three word (codes "clear") fields (λ n. Event (Clear n.0 n.1 n.2)) line t (λ n. refl) (λ n. tt) e) (λ h.
    by_word (PrintsAs (word ∷ fields)) _ _ _ line h (λ t e. of_one word (codes "look") fields Look line t (λ n. refl) (λ n. tt) e) (λ h.
    by_word (PrintsAs (word ∷ fields)) _ _ _ line h (λ t e. of_two word (codes "home") fields (λ n. Home n.0 n.1) line t (λ n. refl) (λ n. tt) e) (λ h.
    by_word (PrintsAs (word ∷ fields)) _ _ _ line h (λ t e. of_audit word fields line t e) (λ h. absurd (none-some line h)))))))))))))))))))

line_text-line_of : (text : List ℕ) (line : TraceLine) → line_of text ≡ Some line → (line_text line ≡ text) × HasForm line
unfolding line_of
line_text-line_of text line h =
    let read = fields_read (fields_of text) line (inr (text, refl)) h in
    (read.0 ∙ join_with_byte-slice_split 32 text, read.1)

-- as the function's clauses say it
pub line_text_of_read : (text : List ℕ) (result : Option TraceLine) → result ≡ line_of text → IfSome result (λ line. line_text line ≡ text) × IfSome result HasForm
line_text_of_read text None e = (tt, tt)
line_text_of_read text (Some line) e = line_text-line_of text line (sym e)

-- ---- what is printed is read
digits_have_no_space : (n : ℕ) → n < 2 ^ 64 → HasNoSpace (decimal n)
unfolding value_of
digits_have_no_space n h = (value_text-value_of 0 (decimal n) n (number_of-decimal n h)).2

-- so the fields of a word, of numbers and of what follows them are these
fields_of_numbers : (word numbers : List ℕ) → HasNoSpace word → All (λ n. n < 2 ^ 64) numbers → fields_of (with_numbers word numbers) ≡ word ∷ map decimal numbers
fields_of_numbers word [] w f = rw (append-nil word) (slice_split_none is_space word w)
fields_of_numbers word (n ∷ numbers) w f =
    slice_split_at is_space word 32 (with_numbers (decimal n) numbers) w refl ∙ ap (λ rest. word ∷ rest) (fields_of_numbers (decimal n) numbers (digits_have_no_space n (All-head (λ n. n < 2 ^ 64) n numbers f)) (All-tail (λ n. n < 2 ^ 64) n numbers f))

-- a number, and what follows its space
number_first : (n : ℕ) (rest : List ℕ) → n < 2 ^ 64 → fields_of (decimal n ++ 32 ∷ rest) ≡ decimal n ∷ fields_of rest
number_first n rest h = slice_split_at is_space (decimal n) 32 rest (digits_have_no_space n h) refl

-- numbers are read
one_of_decimal : (n : ℕ) → n < 2 ^ 64 → one_number (decimal n ∷ []) ≡ Some n
one_of_decimal n h = rw (number_of-decimal n h) refl

two_of_decimal : (n m : ℕ) → n < 2 ^ 64 → m < 2 ^ 64 → two_numbers (decimal n ∷ decimal m ∷ []) ≡ Some (n, m)
two_of_decimal n m h k = rw (number_of-decimal n h, number_of-decimal m k) refl

three_of_decimal : (n m o : ℕ) → n < 2 ^ 64 → m < 2 ^ 64 → o < 2 ^ 64 → three_numbers (decimal n ∷ decimal m ∷ decimal o ∷ []) ≡ Some (n, m, o)
three_of_decimal n m o h k l = rw (number_of-decimal n h, number_of-decimal m k, number_of-decimal o l) refl

within_of_decimal : (room : ℕ) (numbers : List ℕ) → All (λ n. n < 2 ^ 64) numbers → length numbers ≤ room → numbers_within room (map decimal numbers) ≡ Some numbers
within_of_decimal zero [] f l = refl
within_of_decimal (suc room) [] f l = refl
within_of_decimal zero (n ∷ numbers) f l = absurd (omega arith)
within_of_decimal (suc room) (n ∷ numbers) f l =
    rw (number_of-decimal n (All-head (λ n. n < 2 ^ 64) n numbers f), within_of_decimal room numbers (All-tail (λ n. n < 2 ^ 64) n numbers f) (omega arith)) refl

no_of_not : (b : Bool) → not b ≡ true → b ≡ false
no_of_not true h = absurd (false≢true h)
no_of_not false h = refl

word_no_space : (word : List ℕ) → list_all (λ byte. not (is_space byte)) word ≡ true → HasNoSpace word
word_no_space [] h = All-nil (λ byte. is_space byte ≡ false)
word_no_space (b ∷ bs) h =
    let p = and_parts (not (is_space b)) (list_all (λ byte. not (is_space byte)) bs) h in
    All-cons (λ byte. is_space byte ≡ false) b bs (no_of_not (is_space b) p.0) (word_no_space bs p.1)

-- numbers of a line, each below 2 ^ 64
abbrev AreSmall : List ℕ → Type 0
AreSmall numbers = All (λ n. n < 2 ^ 64) numbers

first_small : (n : ℕ) (numbers : List ℕ) → AreSmall (n ∷ numbers) → n < 2 ^ 64
first_small n numbers f = All-head (λ n. n < 2 ^ 64) n numbers f

later_small : (n : ℕ) (numbers : List ℕ) → AreSmall (n ∷ numbers) → AreSmall numbers
later_small n numbers f = All-tail (λ n. n < 2 ^ 64) n numbers f

-- a line of a word and numbers is read by these fields
numbers_line : (word numbers : List ℕ) (line : TraceLine) → list_all (λ byte. not (is_space byte)) word ≡ true → AreSmall numbers → line_of_fields (word ∷ map decimal numbers) ≡ Some line → line_of (with_numbers word numbers) ≡ Some line
unfolding line_of
numbers_line word numbers line w f h = ap line_of_fields (fields_of_numbers word numbers (word_no_space word w) f) ∙ h

one_line : (word : List ℕ) (build : ℕ → TraceLine) (n : ℕ) → list_all (λ byte. not (is_space byte)) word ≡ true → AreSmall (n ∷ []) → line_of_fields (word ∷ decimal n ∷ []) ≡ option_map build (one_number (decimal n ∷ [])) → line_of (with_numbers word (n ∷ [])) ≡ Some (build n)
one_line word build n w f h = numbers_line word (n ∷ []) (build n) w f (h ∙ ap (option_map build) (one_of_decimal n (first_small n [] f)))

two_line : (word : List ℕ) (build : ℕ × ℕ → TraceLine) (n m : ℕ) → list_all (λ byte. not (is_space byte)) word ≡ true → AreSmall (n ∷ m ∷ []) → line_of_fields (word ∷ decimal n ∷ decimal m ∷ []) ≡ option_map build (two_numbers (decimal n ∷ decimal m ∷ [])) → line_of (with_numbers word (n ∷ m ∷ [])) ≡ Some (build (n, m))
two_line word build n m w f h = numbers_line word (n ∷ m ∷ []) (build (n, m)) w f (h ∙ ap (option_map build) (two_of_decimal n m (first_small n (m ∷ []) f) (first_small m [] (later_small n (m ∷ []) f))))

three_line : (word : List ℕ) (build : ℕ × ℕ × ℕ → TraceLine) (n m o : ℕ) → list_all (λ byte. not (is_space byte)) word ≡ true → AreSmall (n ∷ m ∷ o ∷ []) → line_of_fields (word ∷ decimal n ∷ decimal m ∷ decimal o ∷ []) ≡ option_map build (three_numbers (decimal n ∷ decimal m ∷ decimal o ∷ [])) → line_of (with_numbers word (n ∷ m ∷ o ∷ [])) ≡ Some (build (n, m, o))
three_line word build n m o w f h =
    let f₂ = later_small n (m ∷ o ∷ []) f in
    numbers_line word (n ∷ m ∷ o ∷ []) (build (n, m, o)) w f (h ∙ ap (option_map build) (three_of_decimal n m o (first_small n (m ∷ o ∷ []) f) (first_small m (o ∷ []) f₂) (first_small o [] (later_small m (o ∷ []) f₂))))

tests_within : (count : ℕ) → 1 ≤ count → count ≤ MAX_STEPS → (leb 1 count && leb count MAX_STEPS) ≡ true
tests_within count h k = grind (arith, nat_tests)

steps_line : (p count : ℕ) → AreSmall (p ∷ count ∷ []) → 1 ≤ count → count ≤ MAX_STEPS → line_of (line_text (Steps p count)) ≡ Some (Steps p count)
steps_line p count f h k = numbers_line (codes "steps") (p ∷ count ∷ []) (Steps p count) refl f
    (ap (option_and_then (λ (n : ℕ × ℕ). steps_of n.0 n.1)) (two_of_decimal p count (first_small p (count ∷ []) f) (first_small count [] (later_small p (count ∷ []) f)))
    ∙ ap (λ b. cond b (Some (Steps p count)) None) (tests_within count h k))

call_read : (call : Call) → AreSmall (arguments_of call) → is_printable_call call ≡ true → call_of_fields (fields_of (call_text call)) ≡ Some call
unfolding call_of_line
call_read call f h = call_of_line-call_text call f h

submit_line : (client : ℕ) (call : Call) → AreSmall (client ∷ arguments_of call) → is_printable_call call ≡ true → line_of (line_text (Event (Submit client (Txn call)))) ≡ Some (Event (Submit client (Txn call)))
unfolding line_of
submit_line client call f h =
    let small = first_small client (arguments_of call) f in
    let fields = slice_split_at is_space (codes "submit") 32 (decimal client ++ 32 ∷ call_text call) (word_no_space (codes "submit") refl) refl ∙ ap (λ rest. codes "submit" ∷ rest) (number_first client (call_text call) small) in
    ap line_of_fields fields ∙ rw (number_of-decimal client small, call_read call (later_small client (arguments_of call) f) h) refl

key_read : (key : Key) → key_of (key_word key) (key_number key) ≡ Some key
key_read (Id n) = refl
key_read (Number n) = refl

key_no_space : (key : Key) → list_all (λ byte. not (is_space byte)) (key_word key) ≡ true
key_no_space (Id n) = refl
key_no_space (Number n) = refl

raw_line : (client : ℕ) (call : RawCall) → AreSmall (client ∷ call.procedure ∷ key_number call.key ∷ call.arguments) → length call.arguments ≤ MAX_ARGUMENTS → line_of (line_text (Event (Submit client (Raw call)))) ≡ Some (Event (Submit client (Raw call)))
unfolding line_of
raw_line client call f h =
    let f₂ = later_small client (call.procedure ∷ key_number call.key ∷ call.arguments) f in
    let f₃ = later_small call.procedure (key_number call.key ∷ call.arguments) f₂ in
    let c = first_small client (call.procedure ∷ key_number call.key ∷ call.arguments) f in
    let p = first_small call.procedure (key_number call.key ∷ call.arguments) f₂ in
    let k = first_small (key_number call.key) call.arguments f₃ in
    let keyed = with_numbers (key_word call.key) (key_number call.key ∷ call.arguments) in
    let fields = slice_split_at is_space (codes "raw") 32 (decimal client ++ 32 ∷ (decimal call.procedure ++ 32 ∷ keyed)) (word_no_space (codes "raw") refl) refl
    ∙ ap (λ rest. codes "raw" ∷ rest) (number_first client (decimal call.procedure ++ 32 ∷ keyed) c
    ∙ ap (λ rest. decimal client ∷ rest) (number_first call.procedure keyed p
    ∙ ap (λ rest. decimal call.procedure ∷ rest) (fields_of_numbers (key_word call.key) (key_number call.key ∷ call.arguments) (word_no_space (key_word call.key) (key_no_space call.key)) f₃))) in
    ap line_of_fields fields
    ∙ rw (number_of-decimal client c, number_of-decimal call.procedure p, number_of-decimal (key_number call.key) k, key_read call.key, within_of_decimal MAX_ARGUMENTS call.arguments (later_small (key_number call.key) call.arguments f₃) h) refl

pub line_of-line_text : (line : TraceLine) → All (λ n. n < 2 ^ 64) (line_numbers line) → HasForm line → line_of (line_text line) ≡ Some line
line_of-line_text (Event (Submit client (Txn call))) f h = submit_line client call f h
line_of-line_text (Event (Submit client (Raw call))) f h = raw_line client call f h
line_of-line_text (Event (Begin p)) f h = one_line (codes "begin") (λ p. Event (Begin p)) p refl f refl
line_of-line_text (Event (Deny p)) f h = one_line (codes "deny") (λ p. Event (Deny p)) p refl f refl
line_of-line_text (Event (Step p)) f h = one_line (codes "step") (λ p. Event (Step p)) p refl f refl
line_of-line_text (Event (Take p e)) f h = two_line (codes "take") (λ n. Event (Take n.0 n.1)) p e refl f refl
line_of-line_text (Event (Give p e)) f h = two_line (codes "give") (λ n. Event (Give n.0 n.1)) p e refl f refl
line_of-line_text (Event (Route e m)) f h = two_line (codes "route") (λ n. Event (Route n.0 n.1)) e m refl f refl
line_of-line_text (Event (Checkpoint p e)) f h = two_line (codes "checkpoint") (λ n. Event (Checkpoint n.0 n.1)) p e refl f refl
line_of-line_text (Event (Stop p)) f h = one_line (codes "stop") (λ p. Event (Stop p)) p refl f refl
line_of-line_text (Event (Resume p)) f h = one_line (codes "resume") (λ p. Event (Resume p)) p refl f refl
line_of-line_text (Event (One p)) f h = one_line (codes "one") (λ p. Event (One p)) p refl f refl
line_of-line_text (Event (Break p procedure pc)) f h = three_line (codes "break") (λ n. Event (Break n.0 n.1 n.2)) p procedure pc refl f refl
line_of-line_text (Event (Clear p procedure pc)) f h = three_line (codes "clear") (λ n. Event (Clear n.0 n.1 n.2)) p procedure pc refl f refl
line_of-line_text (Steps p count) f h = steps_line p count f h.0 h.1
line_of-line_text (Look p) f h = one_line (codes "look") Look p refl f refl
line_of-line_text (Home p s) f h = two_line (codes "home") (λ n. Home n.0 n.1) p s refl f refl
line_of-line_text Audit f h = numbers_line (codes "audit") [] Audit refl f refl
