-- Lemmas on values, printed one after another.
use Rattle.std.proofs.Common.{◌≡◌, ℕ, zero, suc, ◌+◌, ◌<◌, ◌≤◌, ◌∙◌, sym, ap, List, [], ◌∷◌, ◌++◌, length, drop, get_or, refl, decimal, append_assoc, add-one, drop-cons, Result, Ok, Err, codes}
use Rattle.std.specs.Result.{OnOk}
use Rattle.std.proofs.lemmas.List.{append-nil, drop_all}
use Rattle.tatp_texts.specs.Text.{value_text}
use Rattle.tatp_calls.specs.declared.ask.Ask.{Ask}
use Rattle.tatp_calls.specs.declared.reply.Reply.{Reply}
use Rattle.tatp_calls.specs.declared.reply.Reply.TheVariants.{Failed}
use Rattle.tatp_calls.specs.ValuesText.{values_text}
use Rattle.tatp_calls.specs.ReplyText.{reply_text}
use Rattle.tatp_calls.proofs.DecimalLaws.{in_decimal}

-- a text that the values from place i on complete
pub record IsPrintedUpTo (columns values all : List ℕ) (i : ℕ) (text : List ℕ) : Type 0 where
  pub completed : text ++ values_text (drop i columns) (drop i values) ≡ all

pub none_printed : (columns values text : List ℕ) → IsPrintedUpTo columns values (text ++ values_text columns values) 0 text
none_printed columns values text = record { completed = refl }

first_printed : (columns : List ℕ) (i v : ℕ) (more : List ℕ) → values_text (drop i columns) (v ∷ more) ≡ 32 ∷ value_text (get_or columns i 255) v ++ values_text (drop (suc i) columns) more
unfolding values_text
first_printed [] zero v more = ap (λ t. 32 ∷ t ++ values_text [] more) (in_decimal v)
first_printed [] (suc i) v more = ap (λ t. 32 ∷ t ++ values_text [] more) (in_decimal v)
first_printed (c ∷ columns) zero v more = refl
first_printed (c ∷ columns) (suc i) v more = first_printed columns i v more

pub value_printed : (columns values all : List ℕ) (i column : ℕ) (text longer : List ℕ) → IsPrintedUpTo columns values all i text → i < length values → column ≡ get_or columns i 255 → longer ≡ text ++ 32 ∷ value_text column (get_or values i 0) → IsPrintedUpTo columns values all (i + 1) longer
value_printed columns values all i column text longer p l k e =
    let more = values_text (drop (suc i) columns) (drop (suc i) values) in
    let value = value_text (get_or columns i 255) (get_or values i 0) in
    let whole : longer ≡ text ++ 32 ∷ value = e ∙ ap (λ c. text ++ 32 ∷ value_text c (get_or values i 0)) k in
    let here : values_text (drop i columns) (drop i values) ≡ 32 ∷ value ++ more = ap (values_text (drop i columns)) (drop-cons values i 0 l) ∙ first_printed columns i (get_or values i 0) (drop (suc i) values) in
    record { completed = ap (λ n. longer ++ values_text (drop n columns) (drop n values)) (add-one i) ∙ (ap (λ front. front ++ more) whole ∙ (append_assoc text (32 ∷ value) more ∙ (ap (λ rest. text ++ rest) (sym here) ∙ p.completed))) }

nothing_printed : (columns : List ℕ) → values_text columns [] ≡ []
unfolding values_text
nothing_printed [] = refl
nothing_printed (c ∷ columns) = refl

pub all_printed : (columns values all : List ℕ) (i : ℕ) (text : List ℕ) → IsPrintedUpTo columns values all i text → length values ≤ i → text ≡ all
all_printed columns values all i text p l =
    let done : drop i values ≡ [] = drop_all i values l in
    let rest : values_text (drop i columns) (drop i values) ≡ [] = ap (values_text (drop i columns)) done ∙ nothing_printed (drop i columns) in
    sym (append-nil text) ∙ (ap (λ more. text ++ more) (sym rest) ∙ p.completed)

-- words, and values after them
pub words_and_values : (old words values between text : List ℕ) → between ≡ old ++ words → text ≡ between ++ values → text ≡ old ++ (words ++ values)
words_and_values old words values between text w v = v ∙ (ap (λ front. front ++ values) w ∙ append_assoc old words values)

-- the line of a failure
pub failure_printed : {E : Type 0} (r : Result (Unit {0}) E) (ask : Ask) (reply : Reply) (n number : ℕ) (old between text : List ℕ) → reply ≡ Failed n → number ≡ n → between ≡ old ++ codes "FAILED "
    → OnOk r (text ≡ between ++ decimal number) → OnOk r (text ≡ old ++ reply_text ask reply)
failure_printed (Err e) ask reply n number old between text is same w h = tt
failure_printed (Ok done) ask reply n number old between text is same w h =
    words_and_values old (codes "FAILED ") (decimal n) between text w (h ∙ ap (λ v. between ++ decimal v) same)
    ∙ ap (λ answer. old ++ reply_text ask answer) (sym is)
