-- Lemmas on a call and its line: what is printed is read, and what is read is printed so.
use Rattle.std.proofs.Common.{sym, Option, ◌≡◌, ℕ, ◌<◌, ◌^◌, ◌∙◌, ap, subst, Bool, true, false, not, List, [], ◌∷◌, ◌++◌, slice_index, refl, Some, Result, Ok, Err, String, Global, suc, cond, length, arith, bytes_eq, None}
use Rattle.std.proofs.lemmas.Bool.{and_parts, false≢true}
use Rattle.std.proofs.lemmas.List.{append-nil}
use Rattle.std.proofs.lemmas.List.Elements.{All-nil, All-cons, All-head, All-tail}
use Rattle.std.proofs.lemmas.List.Splits.{slice_split_none, slice_split_at, join_with_byte-slice_split}
use Rattle.std.proofs.lemmas.Option.{none-some, same_Some, option_and_then_some}
use Rattle.std.proofs.lemmas.Slice.Eq.{bytes_eq-Decides}
use Rattle.std.specs.List.{All, list_all, join_with_byte}
use Rattle.std.specs.String.{string_bytes}
use Rattle.std.specs.Result.{IfOk}
use Rattle.std.specs.Option.{IfSome, option_map}
use Rattle.tatp_texts.specs.Text.{fields_of, value_of, value_text, is_printable}
use Rattle.tatp_texts.proofs.FieldLaws.{is_space}
use Rattle.tatp_texts.proofs.ValueLaws.{HasNoSpace, value_of-value_text, value_text-value_of}
use Rattle.tatp_calls.specs.declared.call.Call.{Call}
use Rattle.tatp_calls.specs.declared.call.Call.TheVariants.{GetSubscriberData, GetNewDestination, GetAccessData, UpdateSubscriberData, UpdateLocation, InsertCallForwarding, DeleteCallForwarding}
use Rattle.tatp_calls.specs.Calls.{arguments_of}
use Rattle.tatp_calls.specs.Arguments.{columns_of}
use Rattle.tatp_calls.specs.ValuesText.{values_of, values_text, are_printable}
use Rattle.tatp_calls.specs.CallText.{call_of_fields, call_of_line, name_of, call_text, is_printable_call}

-- ---- values
-- a value of each column, that prints in its form
record ArePrintable (columns values : List ℕ) : Type 0 where
  pub printable : are_printable columns values ≡ true
  pub small : All (λ v. v < 2 ^ 64) values

head_printable : (c : ℕ) (cs : List ℕ) (v : ℕ) (vs : List ℕ) → ArePrintable (c ∷ cs) (v ∷ vs) → (is_printable c v ≡ true) × (v < 2 ^ 64)
head_printable c cs v vs p = ((and_parts (is_printable c v) (are_printable cs vs) p.printable).0, All-head (λ n. n < 2 ^ 64) v vs p.small)

tail_printable : (c : ℕ) (cs : List ℕ) (v : ℕ) (vs : List ℕ) → ArePrintable (c ∷ cs) (v ∷ vs) → ArePrintable cs vs
tail_printable c cs v vs p = record { printable = (and_parts (is_printable c v) (are_printable cs vs) p.printable).1; small = All-tail (λ n. n < 2 ^ 64) v vs p.small }

value_written : (c : ℕ) (cs : List ℕ) (v : ℕ) (vs : List ℕ) → ArePrintable (c ∷ cs) (v ∷ vs) → value_of c (value_text c v) ≡ Some v
value_written c cs v vs p = let h = head_printable c cs v vs p in value_of-value_text c v h.0 h.1

no_space : (c : ℕ) (cs : List ℕ) (v : ℕ) (vs : List ℕ) → ArePrintable (c ∷ cs) (v ∷ vs) → HasNoSpace (value_text c v)
no_space c cs v vs p = (value_text-value_of c (value_text c v) v (value_written c cs v vs p)).2

-- the texts of the values
abbrev texts_of : List ℕ → List ℕ → List (List ℕ)
texts_of [] vs = []
texts_of (c ∷ cs) [] = []
texts_of (c ∷ cs) (v ∷ vs) = value_text c v ∷ texts_of cs vs

-- they are the fields of the printed line
fields_of-values_text : (columns values front : List ℕ) → HasNoSpace front → ArePrintable columns values → fields_of (front ++ values_text columns values) ≡ front ∷ texts_of columns values
unfolding values_text
fields_of-values_text [] [] front n p = rw (append-nil front) (slice_split_none is_space front n)
fields_of-values_text [] (v ∷ vs) front n p = absurd (false≢true p.printable)
fields_of-values_text (c ∷ cs) [] front n p = absurd (false≢true p.printable)
fields_of-values_text (c ∷ cs) (v ∷ vs) front n p =
    slice_split_at is_space front 32 (value_text c v ++ values_text cs vs) n refl ∙ ap (λ parts. front ∷ parts) (fields_of-values_text cs vs (value_text c v) (no_space c cs v vs p) (tail_printable c cs v vs p))

-- and these are read as the values
values_of-texts_of : (columns values : List ℕ) → ArePrintable columns values → values_of columns (texts_of columns values) ≡ Some values
unfolding values_of
values_of-texts_of [] [] p = refl
values_of-texts_of [] (v ∷ vs) p = absurd (false≢true p.printable)
values_of-texts_of (c ∷ cs) [] p = absurd (false≢true p.printable)
values_of-texts_of (c ∷ cs) (v ∷ vs) p = rw (value_written c cs v vs p, values_of-texts_of cs vs (tail_printable c cs v vs p)) refl

-- ---- the call
no_of_not : (b : Bool) → not b ≡ true → b ≡ false
no_of_not true h = absurd (false≢true h)
no_of_not false h = refl

word_no_space : (word : List ℕ) → list_all (λ byte. not (is_space byte)) word ≡ true → HasNoSpace word
word_no_space [] h = All-nil (λ byte. is_space byte ≡ false)
word_no_space (b ∷ bs) h =
    let p = and_parts (not (is_space b)) (list_all (λ byte. not (is_space byte)) bs) h in
    All-cons (λ byte. is_space byte ≡ false) b bs (no_of_not (is_space b) p.0) (word_no_space bs p.1)

call_read : (call : Call) (build : List ℕ → Call) → call_of_fields (name_of call ∷ texts_of (columns_of call) (arguments_of call)) ≡ option_map build (values_of (columns_of call) (texts_of (columns_of call) (arguments_of call)))
    → build (arguments_of call) ≡ call → HasNoSpace (name_of call) → All (λ v. v < 2 ^ 64) (arguments_of call) → is_printable_call call ≡ true → call_of_line (call_text call) ≡ Some call
unfolding call_of_line
call_read call build e b n f h =
    let p : ArePrintable (columns_of call) (arguments_of call) = record { printable = h; small = f } in
    ap call_of_fields (fields_of-values_text (columns_of call) (arguments_of call) (name_of call) n p) ∙ (e ∙ (ap (option_map build) (values_of-texts_of (columns_of call) (arguments_of call) p) ∙ ap Some b))

pub call_of_line-call_text : (call : Call) → All (λ v. v < 2 ^ 64) (arguments_of call) → is_printable_call call ≡ true → call_of_line (call_text call) ≡ Some call
call_of_line-call_text (GetSubscriberData s) f h = call_read (GetSubscriberData s) (λ a. GetSubscriberData (slice_index a 0)) refl refl (word_no_space (name_of (GetSubscriberData s)) refl) f h
call_of_line-call_text (GetNewDestination s t b e) f h = call_read (GetNewDestination s t b e) (λ a. GetNewDestination (slice_index a 0) (slice_index a 1) (slice_index a 2) (slice_index a 3)) refl refl (word_no_space (name_of (GetNewDestination s t b e)) refl) f h
call_of_line-call_text (GetAccessData s t) f h = call_read (GetAccessData s t) (λ a. GetAccessData (slice_index a 0) (slice_index a 1)) refl refl (word_no_space (name_of (GetAccessData s t)) refl) f h
call_of_line-call_text (UpdateSubscriberData s x t y) f h = call_read (UpdateSubscriberData s x t y) (λ a. UpdateSubscriberData (slice_index a 0) (slice_index a 1) (slice_index a 2) (slice_index a 3)) refl refl (word_no_space (name_of (UpdateSubscriberData s x t y)) refl) f h
call_of_line-call_text (UpdateLocation n v) f h = call_read (UpdateLocation n v) (λ a. UpdateLocation (slice_index a 0) (slice_index a 1)) refl refl (word_no_space (name_of (UpdateLocation n v)) refl) f h
call_of_line-call_text (InsertCallForwarding n t b e x) f h = call_read (InsertCallForwarding n t b e x) (λ a. InsertCallForwarding (slice_index a 0) (slice_index a 1) (slice_index a 2) (slice_index a 3) (slice_index a 4)) refl refl (word_no_space (name_of (InsertCallForwarding n t b e x)) refl) f h
call_of_line-call_text (DeleteCallForwarding n t b) f h = call_read (DeleteCallForwarding n t b) (λ a. DeleteCallForwarding (slice_index a 0) (slice_index a 1) (slice_index a 2)) refl refl (word_no_space (name_of (DeleteCallForwarding n t b)) refl) f h

-- as the function's clause says it
pub printed_read_back : {E : Type 0} (r : Result (String Global) E) (call : Call) (name columns values : List ℕ) → name ≡ name_of call → columns ≡ columns_of call → values ≡ arguments_of call → All (λ v. v < 2 ^ 64) values
    → IfOk r (λ text. string_bytes text ≡ name ++ values_text columns values) → IfOk r (λ text. is_printable_call call ≡ true → call_of_line (string_bytes text) ≡ Some call)
printed_read_back (Err e) call name columns values n k a f h = tt
printed_read_back (Ok text) call name columns values n k a f h = λ p.
    ap call_of_line (h ∙ (λ j. n j ++ values_text (k j) (a j))) ∙ call_of_line-call_text call (subst (All (λ v. v < 2 ^ 64)) a f) p

-- ---- what is read is printed so
option_map_some : {T U : Type 0} (f : T → U) (o : Option T) (y : U) → option_map f o ≡ Some y → (x : T) × (o ≡ Some x) × (f x ≡ y)
option_map_some f None y h = absurd (none-some y h)
option_map_some f (Some x) y h = (x, refl, same_Some (f x) y h)

-- the fields that are read are the values' texts
abbrev AreTexts : List ℕ → List (List ℕ) → List ℕ → Type 0
AreTexts columns fields vs = (texts_of columns vs ≡ fields) × (are_printable columns vs ≡ true)

more_texts : (c : ℕ) (cs field : List ℕ) (more : List (List ℕ)) (v : ℕ) (rest vs : List ℕ) → value_of c field ≡ Some v → AreTexts cs more rest → v ∷ rest ≡ vs → AreTexts (c ∷ cs) (field ∷ more) vs
more_texts c cs field more v rest vs h r e =
    let value = value_text-value_of c field v h in
    subst (AreTexts (c ∷ cs) (field ∷ more)) e (rw (value.0, r.0) refl, rw (value.1, r.1) refl)

texts_of-values_of : (columns : List ℕ) (fields : List (List ℕ)) (vs : List ℕ) → values_of columns fields ≡ Some vs → AreTexts columns fields vs
unfolding values_of
texts_of-values_of [] [] vs h = let e : [] ≡ vs = same_Some [] vs h in subst (AreTexts [] []) e (refl, refl)
texts_of-values_of [] (field ∷ more) vs h = absurd (none-some vs h)
texts_of-values_of (c ∷ cs) [] vs h = absurd (none-some vs h)
texts_of-values_of (c ∷ cs) (field ∷ more) vs h =
    option_and_then_some (λ v. option_map (λ rest. v ∷ rest) (values_of cs more)) (value_of c field) vs h (λ v is then.
    let rest = option_map_some (λ rest. v ∷ rest) (values_of cs more) vs then in
    more_texts c cs field more v rest.0 vs is (texts_of-values_of cs more rest.0 rest.1) rest.2)

-- there is a value of each column
printable_length : (columns vs : List ℕ) → are_printable columns vs ≡ true → length vs ≡ length columns
printable_length [] [] h = refl
printable_length [] (v ∷ vs) h = absurd (false≢true h)
printable_length (c ∷ cs) [] h = absurd (false≢true h)
printable_length (c ∷ cs) (v ∷ vs) h = ap suc (printable_length cs vs (and_parts (is_printable c v) (are_printable cs vs) h).1)

-- the printed line is the fields joined by spaces
joined-values_text : (columns vs front : List ℕ) → are_printable columns vs ≡ true → front ++ values_text columns vs ≡ join_with_byte 32 (front ∷ texts_of columns vs)
unfolding values_text
joined-values_text [] [] front h = append-nil front
joined-values_text [] (v ∷ vs) front h = absurd (false≢true h)
joined-values_text (c ∷ cs) [] front h = absurd (false≢true h)
joined-values_text (c ∷ cs) (v ∷ vs) front h = ap (λ rest. front ++ (32 ∷ rest)) (joined-values_text cs vs (value_text c v) (and_parts (is_printable c v) (are_printable cs vs) h).1)

-- a call that prints as these fields
abbrev PrintsAs : List (List ℕ) → Call → Type 0
PrintsAs fields call = (call_text call ≡ join_with_byte 32 fields) × (is_printable_call call ≡ true)

same_bytes : (a b : List ℕ) → bytes_eq a b ≡ true → a ≡ b
same_bytes a b h = (bytes_eq-Decides a b).0 h

printed : (name : List ℕ) (fields : List (List ℕ)) (call : Call) (vs : List ℕ) → bytes_eq name (name_of call) ≡ true → values_of (columns_of call) fields ≡ Some vs → (length vs ≡ length (columns_of call) → arguments_of call ≡ vs) → PrintsAs (name ∷ fields) call
printed name fields call vs t h g =
    let texts = texts_of-values_of (columns_of call) fields vs h in
    let own : arguments_of call ≡ vs = g (printable_length (columns_of call) vs texts.1) in
    (ap (λ values. name_of call ++ values_text (columns_of call) values) own ∙ (joined-values_text (columns_of call) vs (name_of call) texts.1 ∙ (λ i. join_with_byte 32 (sym (same_bytes name (name_of call) t) i ∷ texts.0 i))), ap (are_printable (columns_of call)) own ∙ texts.1)

-- so many values are those at their places
one_of : (vs : List ℕ) → length vs ≡ 1 → slice_index vs 0 ∷ [] ≡ vs
one_of [] h = absurd (omega arith)
one_of (v ∷ []) h = refl
one_of (v ∷ w ∷ vs) h = absurd (omega arith)

two_of : (vs : List ℕ) → length vs ≡ 2 → slice_index vs 0 ∷ slice_index vs 1 ∷ [] ≡ vs
two_of [] h = absurd (omega arith)
two_of (v ∷ vs) h = ap (λ rest. v ∷ rest) (one_of vs (omega arith))

three_of : (vs : List ℕ) → length vs ≡ 3 → slice_index vs 0 ∷ slice_index vs 1 ∷ slice_index vs 2 ∷ [] ≡ vs
three_of [] h = absurd (omega arith)
three_of (v ∷ vs) h = ap (λ rest. v ∷ rest) (two_of vs (omega arith))

four_of : (vs : List ℕ) → length vs ≡ 4 → slice_index vs 0 ∷ slice_index vs 1 ∷ slice_index vs 2 ∷ slice_index vs 3 ∷ [] ≡ vs
four_of [] h = absurd (omega arith)
four_of (v ∷ vs) h = ap (λ rest. v ∷ rest) (three_of vs (omega arith))

five_of : (vs : List ℕ) → length vs ≡ 5 → slice_index vs 0 ∷ slice_index vs 1 ∷ slice_index vs 2 ∷ slice_index vs 3 ∷ slice_index vs 4 ∷ [] ≡ vs
five_of [] h = absurd (omega arith)
five_of (v ∷ vs) h = ap (λ rest. v ∷ rest) (four_of vs (omega arith))

-- one name's choice, or the rest
by_name : (P : Call → Type 0) (t : Bool) (build : List ℕ → Call) (o : Option (List ℕ)) (rest : Option Call) (call : Call) → cond t (option_map build o) rest ≡ Some call → (t ≡ true → (vs : List ℕ) → o ≡ Some vs → P (build vs)) → (rest ≡ Some call → P call) → P call
by_name P true build o rest call h f g = let read = option_map_some build o call h in subst P read.2 (f refl read.0 read.1)
by_name P false build o rest call h f g = g h

fields_read : (fields : List (List ℕ)) (call : Call) → call_of_fields fields ≡ Some call → PrintsAs fields call
fields_read [] call h = absurd (none-some call h)
fields_read (name ∷ fields) call h =
    by_name (PrintsAs (name ∷ fields)) _ (λ a. GetSubscriberData (slice_index a 0)) (values_of (0 ∷ []) fields) _ call h (λ t vs e. printed name fields (GetSubscriberData (slice_index vs 0)) vs t e (one_of vs)) (λ h₁.
    by_name (PrintsAs (name ∷ fields)) _ (λ a. GetNewDestination (slice_index a 0) (slice_index a 1) (slice_index a 2) (slice_index a 3)) (values_of (0 ∷ 41 ∷ 48 ∷ 49 ∷ []) fields) _ call h₁ (λ t vs e. printed name fields (GetNewDestination (slice_index vs 0) (slice_index vs 1) (slice_index vs 2) (slice_index vs 3)) vs t e (four_of vs)) (λ h₂.
    by_name (PrintsAs (name ∷ fields)) _ (λ a. GetAccessData (slice_index a 0) (slice_index a 1)) (values_of (0 ∷ 35 ∷ []) fields) _ call h₂ (λ t vs e. printed name fields (GetAccessData (slice_index vs 0) (slice_index vs 1)) vs t e (two_of vs)) (λ h₃.
    by_name (PrintsAs (name ∷ fields)) _ (λ a. UpdateSubscriberData (slice_index a 0) (slice_index a 1) (slice_index a 2) (slice_index a 3)) (values_of (0 ∷ 2 ∷ 41 ∷ 44 ∷ []) fields) _ call h₃ (λ t vs e. printed name fields (UpdateSubscriberData (slice_index vs 0) (slice_index vs 1) (slice_index vs 2) (slice_index vs 3)) vs t e (four_of vs)) (λ h₄.
    by_name (PrintsAs (name ∷ fields)) _ (λ a. UpdateLocation (slice_index a 0) (slice_index a 1)) (values_of (1 ∷ 33 ∷ []) fields) _ call h₄ (λ t vs e. printed name fields (UpdateLocation (slice_index vs 0) (slice_index vs 1)) vs t e (two_of vs)) (λ h₅.
    by_name (PrintsAs (name ∷ fields)) _ (λ a. InsertCallForwarding (slice_index a 0) (slice_index a 1) (slice_index a 2) (slice_index a 3) (slice_index a 4)) (values_of (1 ∷ 41 ∷ 48 ∷ 49 ∷ 50 ∷ []) fields) _ call h₅ (λ t vs e. printed name fields (InsertCallForwarding (slice_index vs 0) (slice_index vs 1) (slice_index vs 2) (slice_index vs 3) (slice_index vs 4)) vs t e (five_of vs)) (λ h₆.
    by_name (PrintsAs (name ∷ fields)) _ (λ a. DeleteCallForwarding (slice_index a 0) (slice_index a 1) (slice_index a 2)) (values_of (1 ∷ 41 ∷ 48 ∷ []) fields) _ call h₆ (λ t vs e. printed name fields (DeleteCallForwarding (slice_index vs 0) (slice_index vs 1) (slice_index vs 2)) vs t e (three_of vs)) (λ h₇. absurd (none-some call h₇))))))))

call_text-call_of_line : (line : List ℕ) (call : Call) → call_of_line line ≡ Some call → (call_text call ≡ line) × (is_printable_call call ≡ true)
unfolding call_of_line
call_text-call_of_line line call h =
    let read = fields_read (fields_of line) call h in
    (read.0 ∙ join_with_byte-slice_split 32 line, read.1)

-- as the function's clauses say it
pub call_text_of_read : (line : List ℕ) (result : Option Call) → result ≡ call_of_line line → IfSome result (λ call. call_text call ≡ line) × IfSome result (λ call. is_printable_call call ≡ true)
call_text_of_read line None e = (tt, tt)
call_text_of_read line (Some call) e = call_text-call_of_line line call (sym e)
