-- Lemmas on the values of a reply: what is read, what is printed, and that each gives the other back.
use Rattle.std.proofs.Common.{◌≡◌, ℕ, zero, suc, ◌<◌, ◌≤◌, ◌^◌, ◌∙◌, sym, ap, subst, Bool, true, false, cond, ◌||◌, List, [], ◌∷◌, ◌++◌, length, drop, refl, arith, Option, Some, None, decimal, append_assoc, length-append, add-one, slice_get}
use Rattle.std.proofs.lemmas.Bool.{false≢true, and_parts}
use Rattle.std.proofs.lemmas.Fmt.{decimal_nonempty}
use Rattle.std.proofs.lemmas.Bool.Decides.{nat_tests}
use Rattle.std.proofs.lemmas.Iterator.Adapters.{option_map_id}
use Rattle.std.proofs.lemmas.List.{append-nil}
use Rattle.std.proofs.lemmas.List.Elements.{All-head, All-tail}
use Rattle.std.proofs.lemmas.List.Splits.{slice_split_none, slice_split_at}
use Rattle.std.proofs.lemmas.Option.{none-some, same_Some, option_and_then_some, cond_some}
use Rattle.std.specs.List.{All, list_all, join_with_byte}
use Rattle.std.specs.Option.{option_map, option_and_then}
use Rattle.std.specs.Str.{all_ascii_digits}
use Rattle.std.specs.Str.Parse.{digits_value}
use Rattle.std.specs.Char.{is_ascii_digit}
use Rattle.tatp_lines.specs.Numbers.{is_between, is_number, number_of}
use Rattle.tatp_lines.proofs.NumberLaws.{number_of-decimal, decimal-number_of}
use Rattle.tatp_tables.specs.Domains.{is_in_domain}
use Rattle.tatp_texts.specs.declared.form.Form.{Form}
use Rattle.tatp_texts.specs.declared.form.Form.TheVariants.{Decimal, FifteenDigits, Letters}
use Rattle.tatp_texts.specs.Text.{fields_of, form_of, is_decimal, value_in, value_of, value_text, is_printable, digits_of, letters_of}
use Rattle.tatp_texts.proofs.FieldLaws.{is_space}
use Rattle.tatp_texts.proofs.NumberLaws.{exact_test_parts}
use Rattle.tatp_texts.proofs.ValueLaws.{HasNoSpace, value_of-value_text, value_text-value_of}
use Rattle.tatp_calls.specs.ValuesText.{values_text}
use Rattle.tatp_history_lines.specs.ReplyValues.{if_outside, or_else, printed_value_of, values_within}
use Rattle.tatp_history_lines.proofs.WordLaws.{option_map_some, number_no_space}

-- ---- one value
outside_cases : (b : Bool) (n v : ℕ) → cond b None (Some n) ≡ Some v → (b ≡ false) × (n ≡ v)
outside_cases true n v h = absurd (none-some v h)
outside_cases false n v h = (refl, same_Some n v h)

outside_text : (c n : ℕ) → is_in_domain c n ≡ false → value_text c n ≡ decimal n
unfolding value_text
outside_text c n h = rw h refl

-- what is read is printed so
printed_cases : (c : ℕ) (text : List ℕ) (v : ℕ) (o : Option ℕ) → value_of c text ≡ o → or_else o (option_and_then (if_outside c) (number_of text)) ≡ Some v → (value_text c v ≡ text) × HasNoSpace text
printed_cases c text v (Some w) e h =
    let is : w ≡ v = same_Some w v h in
    let own = value_text-value_of c text w e in
    (subst (λ n. value_text c n ≡ text) is own.0, own.2)
printed_cases c text v None e h = option_and_then_some (if_outside c) (number_of text) v h (λ n is then.
    let o = outside_cases (is_in_domain c n) n v then in
    (subst (λ m. value_text c m ≡ text) o.1 (outside_text c n o.0 ∙ (decimal-number_of text n is).0), number_no_space text n is))

pub value_printed : (c : ℕ) (text : List ℕ) (v : ℕ) → printed_value_of c text ≡ Some v → (value_text c v ≡ text) × HasNoSpace text
unfolding printed_value_of
value_printed c text v h = printed_cases c text v (value_of c text) refl h

-- ---- what is printed is read
number_value : (text : List ℕ) (n : ℕ) → number_of text ≡ Some n → digits_value 10 text ≡ n
unfolding number_of
number_value text n h = (cond_some (is_number text) (digits_value 10 text) n h).1

-- no digits are letters
letter_or_digit : (b : ℕ) → is_between 65 90 b ≡ true → is_ascii_digit b ≡ true → ⊥
letter_or_digit b h k = grind (arith, nat_tests)

letters_or_digits : (text : List ℕ) → 0 < length text → list_all (is_between 65 90) text ≡ true → all_ascii_digits text ≡ true → ⊥
letters_or_digits [] l h k = omega arith
letters_or_digits (b ∷ bs) l h k =
    letter_or_digit b (and_parts (is_between 65 90 b) (list_all (is_between 65 90) bs) h).0 (and_parts (is_ascii_digit b) (all_ascii_digits bs) k).0

-- a number in decimal that is read in another form is that number
same_in_form : (form : Form) (v w : ℕ) → v < 2 ^ 64 → is_decimal form ≡ false → value_in form (decimal v) ≡ Some w → w ≡ v
unfolding digits_of letters_of
same_in_form Decimal v w l d h = absurd (false≢true (sym d))
same_in_form FifteenDigits v w l d h =
    sym (cond_some _ (digits_value 10 (decimal v)) w h).1 ∙ number_value (decimal v) v (number_of-decimal v l)
same_in_form (Letters k) v w l d h =
    let letters = exact_test_parts k (length (decimal v)) (list_all (is_between 65 90) (decimal v)) (cond_some _ _ w h).0 in
    absurd (letters_or_digits (decimal v) (decimal_nonempty v l) letters.1 (decimal-number_of (decimal v) v (number_of-decimal v l)).2)

not_decimal : (d b : Bool) → (d || b) ≡ false → (d ≡ false) × (b ≡ false)
not_decimal true b h = absurd (false≢true (sym h))
not_decimal false b h = (refl, h)

read_outside : (c v : ℕ) (o : Option ℕ) → v < 2 ^ 64 → is_printable c v ≡ false → value_of c (decimal v) ≡ o → or_else o (option_and_then (if_outside c) (number_of (decimal v))) ≡ Some v
unfolding value_of
read_outside c v (Some w) l p e =
    let is : w ≡ v = same_in_form (form_of c) v w l (not_decimal (is_decimal (form_of c)) (is_in_domain c v) p).0 e in
    absurd (false≢true (sym p ∙ subst (λ n. is_printable c n ≡ true) is (value_text-value_of c (decimal v) w e).1))
read_outside c v None l p e = rw (number_of-decimal v l, (not_decimal (is_decimal (form_of c)) (is_in_domain c v) p).1) refl

read_cases : (c v : ℕ) (t : Bool) → is_printable c v ≡ t → v < 2 ^ 64 → printed_value_of c (value_text c v) ≡ Some v
unfolding printed_value_of
read_cases c v true p l = rw (value_of-value_text c v p l) refl
read_cases c v false p l =
    let text = outside_text c v (not_decimal (is_decimal (form_of c)) (is_in_domain c v) p).1 in
    rw text (read_outside c v (value_of c (decimal v)) l p refl)

pub value_read : (c v : ℕ) → v < 2 ^ 64 → printed_value_of c (value_text c v) ≡ Some v
value_read c v l = read_cases c v (is_printable c v) refl l

value_no_space : (c v : ℕ) → v < 2 ^ 64 → HasNoSpace (value_text c v)
value_no_space c v l = (value_printed c (value_text c v) v (value_read c v l)).1

-- ---- all values
-- the texts of the values
abbrev pub texts_of : List ℕ → List ℕ → List (List ℕ)
texts_of [] vs = []
texts_of (c ∷ cs) [] = []
texts_of (c ∷ cs) (v ∷ vs) = value_text c v ∷ texts_of cs vs

-- the printed line is the fields joined by spaces
pub joined_texts : (columns vs front : List ℕ) → length vs ≤ length columns → front ++ values_text columns vs ≡ join_with_byte 32 (front ∷ texts_of columns vs)
unfolding values_text
joined_texts [] [] front h = append-nil front
joined_texts [] (v ∷ vs) front h = absurd (omega arith)
joined_texts (c ∷ cs) [] front h = append-nil front
joined_texts (c ∷ cs) (v ∷ vs) front h = ap (λ rest. front ++ (32 ∷ rest)) (joined_texts cs vs (value_text c v) (omega arith))

-- these are its fields
pub fields_of_texts : (columns vs front : List ℕ) → HasNoSpace front → All (λ v. v < 2 ^ 64) vs → length vs ≤ length columns → fields_of (front ++ values_text columns vs) ≡ front ∷ texts_of columns vs
unfolding values_text
fields_of_texts [] [] front n f h = rw (append-nil front) (slice_split_none is_space front n)
fields_of_texts [] (v ∷ vs) front n f h = absurd (omega arith)
fields_of_texts (c ∷ cs) [] front n f h = rw (append-nil front) (slice_split_none is_space front n)
fields_of_texts (c ∷ cs) (v ∷ vs) front n f h =
    slice_split_at is_space front 32 (value_text c v ++ values_text cs vs) n refl
    ∙ ap (λ parts. front ∷ parts) (fields_of_texts cs vs (value_text c v) (value_no_space c v (All-head (λ v. v < 2 ^ 64) v vs f)) (All-tail (λ v. v < 2 ^ 64) v vs f) (omega arith))

-- and these are read as the values
pub within_written : (columns vs : List ℕ) → All (λ v. v < 2 ^ 64) vs → length vs ≤ length columns → values_within columns (texts_of columns vs) ≡ Some vs
unfolding values_within
within_written [] [] f h = refl
within_written [] (v ∷ vs) f h = absurd (omega arith)
within_written (c ∷ cs) [] f h = refl
within_written (c ∷ cs) (v ∷ vs) f h =
    rw (value_read c v (All-head (λ v. v < 2 ^ 64) v vs f), within_written cs vs (All-tail (λ v. v < 2 ^ 64) v vs f) (omega arith)) refl

-- the fields that are read are the values' texts
abbrev AreTexts : List ℕ → List (List ℕ) → List ℕ → Type 0
AreTexts columns fields vs = (fields ≡ texts_of columns vs) × (length vs ≤ length columns)

pub within_read : (columns : List ℕ) (fields : List (List ℕ)) (vs : List ℕ) → values_within columns fields ≡ Some vs → AreTexts columns fields vs
unfolding values_within
within_read [] [] vs h = subst (AreTexts [] []) (same_Some [] vs h) (refl, omega arith)
within_read (c ∷ cs) [] vs h = subst (AreTexts (c ∷ cs) []) (same_Some [] vs h) (refl, omega arith)
within_read [] (field ∷ more) vs h = absurd (none-some vs h)
within_read (c ∷ cs) (field ∷ more) vs h =
    option_and_then_some (λ v. option_map (λ rest. v ∷ rest) (values_within cs more)) (printed_value_of c field) vs h (λ v is then.
    let rest = option_map_some (λ rest. v ∷ rest) (values_within cs more) vs then in
    let own = within_read cs more rest.0 rest.1 in
    subst (AreTexts (c ∷ cs) (field ∷ more)) rest.2 ((λ i. sym (value_printed c field v is).0 i ∷ own.0 i), omega (arith, own.1)))

-- ---- read one after another
-- values that those of the fields left complete
pub record AreReadUpTo (columns : List ℕ) (all : List (List ℕ)) (values : List ℕ) (left : List (List ℕ)) : Type 0 where
  pub completed : option_map (λ rest. values ++ rest) (values_within (drop (length values) columns) left) ≡ values_within columns all

pub none_read : (columns : List ℕ) (all : List (List ℕ)) (values : List ℕ) → values ≡ [] → AreReadUpTo columns all values all
none_read columns all values e = subst (λ vs. AreReadUpTo columns all vs all) (sym e) (record { completed = option_map_id (values_within columns all) })

nothing_within : (columns : List ℕ) → values_within columns [] ≡ Some []
unfolding values_within
nothing_within [] = refl
nothing_within (c ∷ cs) = refl

-- no field is left
pub none_left : (columns : List ℕ) (all : List (List ℕ)) (values : List ℕ) (left : List (List ℕ)) → AreReadUpTo columns all values left → left ≡ [] → values_within columns all ≡ Some values
none_left columns all values left r e =
    sym r.completed ∙ (ap (λ fields. option_map (λ rest. values ++ rest) (values_within (drop (length values) columns) fields)) e
    ∙ (ap (option_map (λ rest. values ++ rest)) (nothing_within (drop (length values) columns)) ∙ ap Some (append-nil values)))

drop_at : (xs : List ℕ) (k x : ℕ) → slice_get xs k ≡ Some x → drop k xs ≡ x ∷ drop (suc k) xs
drop_at [] k x h = absurd (none-some x h)
drop_at (y ∷ ys) zero x h = ap (λ z. z ∷ ys) (same_Some y x h)
drop_at (y ∷ ys) (suc k) x h = drop_at ys k x h

drop_past : (xs : List ℕ) (k : ℕ) → slice_get xs k ≡ None → drop k xs ≡ []
drop_past [] zero h = refl
drop_past [] (suc k) h = refl
drop_past (y ∷ ys) zero h = absurd (none-some y (sym h))
drop_past (y ∷ ys) (suc k) h = drop_past ys k h

no_column : (field : List ℕ) (more : List (List ℕ)) → values_within [] (field ∷ more) ≡ None
unfolding values_within
no_column field more = refl

one_column : (c : ℕ) (cs field : List ℕ) (more : List (List ℕ)) → values_within (c ∷ cs) (field ∷ more) ≡ option_and_then (λ v. option_map (λ rest. v ∷ rest) (values_within cs more)) (printed_value_of c field)
unfolding values_within
one_column c cs field more = refl

-- a field has no column
pub too_many_left : (columns : List ℕ) (all : List (List ℕ)) (values : List ℕ) (left more : List (List ℕ)) (field : List ℕ) → AreReadUpTo columns all values left → left ≡ field ∷ more → slice_get columns (length values) ≡ None → values_within columns all ≡ None
too_many_left columns all values left more field r e h =
    sym r.completed ∙ ap (option_map (λ rest. values ++ rest)) ((λ i. values_within (drop_past columns (length values) h i) (e i)) ∙ no_column field more)

left_within : (columns : List ℕ) (values : List ℕ) (left more : List (List ℕ)) (field : List ℕ) (c : ℕ) → left ≡ field ∷ more → slice_get columns (length values) ≡ Some c
    → values_within (drop (length values) columns) left ≡ option_and_then (λ v. option_map (λ rest. v ∷ rest) (values_within (drop (suc (length values)) columns) more)) (printed_value_of c field)
left_within columns values left more field c e h =
    (λ i. values_within (drop_at columns (length values) c h i) (e i)) ∙ one_column c (drop (suc (length values)) columns) field more

-- a field is no value
pub bad_left : (columns : List ℕ) (all : List (List ℕ)) (values : List ℕ) (left more : List (List ℕ)) (field : List ℕ) (c : ℕ) → AreReadUpTo columns all values left → left ≡ field ∷ more → slice_get columns (length values) ≡ Some c → printed_value_of c field ≡ None
    → values_within columns all ≡ None
bad_left columns all values left more field c r e h b =
    sym r.completed ∙ ap (option_map (λ rest. values ++ rest)) (left_within columns values left more field c e h ∙ ap (option_and_then (λ v. option_map (λ rest. v ∷ rest) (values_within (drop (suc (length values)) columns) more))) b)

onto_both : (front longer : List ℕ) (n : ℕ) (o : Option (List ℕ)) → longer ≡ front ++ n ∷ [] → option_map (λ rest. longer ++ rest) o ≡ option_map (λ rest. front ++ rest) (option_map (λ rest. n ∷ rest) o)
onto_both front longer n None e = refl
onto_both front longer n (Some rest) e = ap Some (ap (λ xs. xs ++ rest) e ∙ append_assoc front (n ∷ []) rest)

pub one_read : (columns : List ℕ) (all : List (List ℕ)) (values longer : List ℕ) (left more : List (List ℕ)) (field : List ℕ) (c v : ℕ) → AreReadUpTo columns all values left → left ≡ field ∷ more → slice_get columns (length values) ≡ Some c → printed_value_of c field ≡ Some v → longer ≡ values ++ v ∷ []
    → AreReadUpTo columns all longer more
one_read columns all values longer left more field c v r e h b l =
    let rest = values_within (drop (suc (length values)) columns) more in
    let count : length longer ≡ suc (length values) = ap length l ∙ length-append values (v ∷ []) ∙ add-one (length values) in
    record {
      completed = ap (λ n. option_map (λ rest. longer ++ rest) (values_within (drop n columns) more)) count
          ∙ (onto_both values longer v rest l
          ∙ (ap (λ o. option_map (λ rest. values ++ rest) (option_and_then (λ v. option_map (λ rest. v ∷ rest) (values_within (drop (suc (length values)) columns) more)) o)) (sym b)
          ∙ (ap (option_map (λ rest. values ++ rest)) (sym (left_within columns values left more field c e h)) ∙ r.completed)));
    }
