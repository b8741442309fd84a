-- Lemmas on numbers, appended one after another.
use Rattle.std.proofs.Common.{◌≡◌, ℕ, suc, ◌+◌, ◌<◌, ◌≤◌, ◌∙◌, sym, ap, List, ◌∷◌, ◌++◌, length, drop, get_or, refl, decimal, append_assoc, add-one, drop-cons}
use Rattle.std.proofs.lemmas.List.{append-nil, drop_all}
use Rattle.tatp_trace_lines.specs.LineText.{numbers_text}

-- a text that the numbers from place i on complete
pub record ArePushedUpTo (numbers all : List ℕ) (i : ℕ) (text : List ℕ) : Type 0 where
  pub completed : text ++ numbers_text (drop i numbers) ≡ all

pub none_pushed : (numbers text : List ℕ) → ArePushedUpTo numbers (text ++ numbers_text numbers) 0 text
none_pushed numbers text = record { completed = refl }

regrouped : (text number rest : List ℕ) → (text ++ (32 ∷ number)) ++ rest ≡ text ++ (32 ∷ number ++ rest)
regrouped text number rest = append_assoc text (32 ∷ number) rest

pub one_pushed : (numbers all : List ℕ) (i n : ℕ) (text longer : List ℕ) → ArePushedUpTo numbers all i text → i < length numbers → n ≡ get_or numbers i 0 → longer ≡ text ++ (32 ∷ decimal n) → ArePushedUpTo numbers all (i + 1) longer
one_pushed numbers all i n text longer p l k e =
    let rest = numbers_text (drop (suc i) numbers) in
    let first : numbers_text (drop i numbers) ≡ 32 ∷ decimal n ++ rest = ap numbers_text (drop-cons numbers i 0 l) ∙ ap (λ m. 32 ∷ decimal m ++ rest) (sym k) in
    record { completed = ap (λ j. longer ++ numbers_text (drop j numbers)) (add-one i) ∙ (ap (λ front. front ++ rest) e ∙ (regrouped text (decimal n) rest ∙ (ap (λ more. text ++ more) (sym first) ∙ p.completed))) }

pub all_pushed : (numbers all : List ℕ) (i : ℕ) (text : List ℕ) → ArePushedUpTo numbers all i text → length numbers ≤ i → text ≡ all
all_pushed numbers all i text p l = sym (append-nil text) ∙ (ap (λ more. text ++ numbers_text more) (sym (drop_all i numbers l)) ∙ p.completed)
