-- How many calls ended so, after one line more.
use Rattle.std.proofs.Common.{◌≡◌, ◌≢◌, ℕ, suc, ◌+◌, ◌≤◌, ◌∙◌, sym, ap, Bool, true, false, cond, List, [], ◌∷◌, ◌++◌, length, filter, refl, arith, Option, Some, None, inl, inr}
use Rattle.tatp_tables.specs.Database.{Database}
use Rattle.tatp_history.specs.declared.line.Line.{Line}
use Rattle.tatp_history.specs.declared.line.Line.TheVariants.{Ask, End, Abort, Lost}
use Rattle.tatp_history.specs.declared.observed.Outcome.{Outcome}
use Rattle.tatp_history.specs.declared.observed.Outcome.TheVariants.{Answered, Aborted, Unknown}
use Rattle.tatp_history.specs.declared.observed.Observed.{Observed}
use Rattle.tatp_history.specs.HistoryLines.{client_of, end_at, end_of, call_at, calls_from, calls_of}
use Rattle.tatp_history.proofs.SubscriberEventLaws.{same_or_not}
use Rattle.tatp_judge.specs.declared.asked.Asked.{Asked}
use Rattle.tatp_judge.specs.Asked.{AskedCalls, none_asked, with_asked, asked_call, asked_by, asked_after, asked_in_all}
use Rattle.tatp_judge.specs.Counted.{has_call}
use Rattle.tatp_judge.specs.Stakes.{how_many, was_answered, was_aborted, is_unknown}
use Rattle.tatp_judge.proofs.NextLineLaws.{own_end, other_end}
use Rattle.tatp_judge.proofs.NoneLaws.{asked_same, by_other}

abbrev pub bit : Bool → ℕ
bit true = 1
bit false = 0

counted : (b : Bool) (x : Observed) (rest : List Observed) → length (cond b (x ∷ rest) rest) ≡ bit b + length rest
counted true x rest = omega arith
counted false x rest = omega arith

one_of : (ended : Outcome → Bool) (x : Observed) (rest : List Observed) → how_many ended (x ∷ rest) ≡ bit (ended x.outcome) + how_many ended rest
one_of ended x rest = counted (ended x.outcome) x (filter (λ (y : Observed). ended y.outcome) rest)

-- ---- all of them
pub each_ends : (calls : List Observed) → how_many was_answered calls + how_many was_aborted calls + how_many is_unknown calls ≡ length calls
each_ends [] = refl
each_ends (x ∷ calls) =
    let rest = each_ends calls in
    let a = one_of was_answered x calls in
    let b = one_of was_aborted x calls in
    let c = one_of is_unknown x calls in
    let one = one_outcome x.outcome in
    omega (arith, rest, a, b, c, one)
  where
    one_outcome : (o : Outcome) → bit (was_answered o) + bit (was_aborted o) + bit (is_unknown o) ≡ 1
    one_outcome (Answered at recorded) = refl
    one_outcome (Aborted at) = refl
    one_outcome Unknown = refl

calls_few : (lines : List Line) (number : ℕ) → length (calls_from number lines) ≤ length lines
calls_few [] number = omega arith
calls_few (Ask client call ∷ more) number = let rest = calls_few more (suc number) in omega (arith, rest)
calls_few (End client recorded ∷ more) number = let rest = calls_few more (suc number) in omega (arith, rest)
calls_few (Abort client ∷ more) number = let rest = calls_few more (suc number) in omega (arith, rest)
calls_few (Lost client ∷ more) number = let rest = calls_few more (suc number) in omega (arith, rest)

pub few_calls : (lines : List Line) → length (calls_of lines) ≤ length lines
few_calls lines = calls_few lines 1

-- ---- one call more
abbrev pub asks_one : Line → ℕ
asks_one (Ask client call) = 1
asks_one (End client recorded) = 0
asks_one (Abort client) = 0
asks_one (Lost client) = 0

asked_more : (lines : List Line) (line : Line) (number : ℕ) → length (calls_from number (lines ++ line ∷ [])) ≡ length (calls_from number lines) + asks_one line
asked_more [] (Ask client call) number = refl
asked_more [] (End client recorded) number = refl
asked_more [] (Abort client) number = refl
asked_more [] (Lost client) number = refl
asked_more (Ask client call ∷ more) line number = let rest = asked_more more line (suc number) in omega (arith, rest)
asked_more (End client recorded ∷ more) line number = asked_more more line (suc number)
asked_more (Abort client ∷ more) line number = asked_more more line (suc number)
asked_more (Lost client ∷ more) line number = asked_more more line (suc number)

pub asked_next_line : (lines : List Line) (line : Line) → length (calls_of (lines ++ line ∷ [])) ≡ length (calls_of lines) + asks_one line
asked_next_line lines line = asked_more lines line 1

-- ---- one that ended
-- how another client's call ends
end_still : (client number : ℕ) (lines : List Line) (line : Line) → client_of line ≢ client → end_of client number (lines ++ line ∷ []) ≡ end_of client number lines
end_still client number [] line n = other_end client number line [] n
end_still client number (first ∷ more) line n = elim (same_or_not (client_of first) client) [
  | inl e ↦ own_end client number first (more ++ line ∷ []) e ∙ sym (own_end client number first more e)
  | inr k ↦ other_end client number first (more ++ line ∷ []) k ∙ (end_still client (suc number) more line n ∙ sym (other_end client number first more k))
]

-- the open call, if there is one and it ends so
abbrev pub one_if : Option Asked → Bool → ℕ
one_if None b = 0
one_if (Some asked) b = bit b

pub none_if : (o : Option Asked) → one_if o false ≡ 0
none_if None = refl
none_if (Some asked) = refl

pub one_called : (o : Option Asked) (b called : Bool) → called ≡ has_call o → one_if o b ≡ cond called (bit b) 0
one_called None b called e = ap (λ x. cond x (bit b) 0) (sym e)
one_called (Some asked) b called e = ap (λ x. cond x (bit b) 0) (sym e)

pub one_at : (called b : Bool) → called ≡ b → cond called (bit true) 0 ≡ cond b 1 0
one_at called b e = ap (λ x. cond x 1 0) e

module _ (u : Database) (ended : Outcome → Bool) (never : ended Unknown ≡ false) where
  alone : (number : ℕ) (line : Line) → how_many ended (calls_from number (line ∷ [])) ≡ 0
  alone number (Ask client call) = one_of ended (call_at number client call []) [] ∙ ap (λ b. bit b + 0) never
  alone number (End client recorded) = refl
  alone number (Abort client) = refl
  alone number (Lost client) = refl

  own_first : (number client : ℕ) (asked : AskedCalls) (first : Line) (more : List Line) → client_of first ≡ client
      → how_many ended (calls_from number (first ∷ more)) ≡ one_if (asked_by u number asked first client) (ended (end_of client (suc number) more)) + how_many ended (calls_from (suc number) more)
  own_first number client asked (Ask other call) more e =
      let one : Option Asked = Some (asked_call u number call) in
      let rest = how_many ended (calls_from (suc number) more) in
      one_of ended (call_at number other call more) (calls_from (suc number) more)
      ∙ (ap (λ c. bit (ended (end_of c (suc number) more)) + rest) e
      ∙ ap (λ o. one_if o (ended (end_of client (suc number) more)) + rest) (sym (ap (with_asked asked other one) (sym e) ∙ asked_same asked other one)))
  own_first number client asked (End other recorded) more e = let none : how_many ended (calls_from (suc number) more) ≡ 0 + how_many ended (calls_from (suc number) more) = omega arith in none ∙ ap (λ o. one_if o (ended (end_of client (suc number) more)) + how_many ended (calls_from (suc number) more)) (sym (ap (with_asked asked other None) (sym e) ∙ asked_same asked other None))
  own_first number client asked (Abort other) more e = let none : how_many ended (calls_from (suc number) more) ≡ 0 + how_many ended (calls_from (suc number) more) = omega arith in none ∙ ap (λ o. one_if o (ended (end_of client (suc number) more)) + how_many ended (calls_from (suc number) more)) (sym (ap (with_asked asked other None) (sym e) ∙ asked_same asked other None))
  own_first number client asked (Lost other) more e = let none : how_many ended (calls_from (suc number) more) ≡ 0 + how_many ended (calls_from (suc number) more) = omega arith in none ∙ ap (λ o. one_if o (ended (end_of client (suc number) more)) + how_many ended (calls_from (suc number) more)) (sym (ap (with_asked asked other None) (sym e) ∙ asked_same asked other None))

  other_first : (number : ℕ) (first line : Line) (more : List Line) → client_of line ≢ client_of first
      → how_many ended (calls_from number (first ∷ (more ++ line ∷ []))) + how_many ended (calls_from (suc number) more)
      ≡ how_many ended (calls_from number (first ∷ more)) + how_many ended (calls_from (suc number) (more ++ line ∷ []))
  other_first number (Ask client call) line more n =
      let longer = one_of ended (call_at number client call (more ++ line ∷ [])) (calls_from (suc number) (more ++ line ∷ [])) in
      let shorter = one_of ended (call_at number client call more) (calls_from (suc number) more) in
      let same : bit (ended (end_of client (suc number) (more ++ line ∷ []))) ≡ bit (ended (end_of client (suc number) more)) = ap (λ o. bit (ended o)) (end_still client (suc number) more line n) in
      omega (arith, longer, shorter, same)
  other_first number (End client recorded) line more n = omega arith
  other_first number (Abort client) line more n = omega arith
  other_first number (Lost client) line more n = omega arith

  -- so many end so, with the client's call that is open before these lines
  both : (lines : List Line) (line : Line) (number last : ℕ) (asked : AskedCalls) → number + length lines ≡ last
      → how_many ended (calls_from number (lines ++ line ∷ [])) + one_if (asked (client_of line)) (ended (end_of (client_of line) number (lines ++ line ∷ [])))
      ≡ how_many ended (calls_from number lines) + one_if (asked_after u number asked lines (client_of line)) (ended (end_at last line)) + one_if (asked (client_of line)) (ended (end_of (client_of line) number lines))
  both [] line number last asked n =
      let at : number ≡ last = omega (arith, n) in
      let client = client_of line in
      let none = alone number line in
      let ends : one_if (asked client) (ended (end_of client number (line ∷ []))) ≡ one_if (asked client) (ended (end_at last line)) = ap (λ o. one_if (asked client) (ended o)) (own_end client number line [] refl ∙ ap (λ k. end_at k line) at) in
      let before : one_if (asked client) (ended Unknown) ≡ 0 = ap (one_if (asked client)) never ∙ none_if (asked client) in
      omega (arith, none, ends, before)
  both (first ∷ more) line number last asked n =
      let m : number + suc (length more) ≡ last = n in
      let client = client_of line in
      let rest = both more line (suc number) last (asked_by u number asked first) (omega (arith, m)) in
      elim (same_or_not (client_of first) client) [
        | inl e ↦
            let same : one_if (asked client) (ended (end_of client number (first ∷ (more ++ line ∷ [])))) ≡ one_if (asked client) (ended (end_of client number (first ∷ more)))
            = ap (λ o. one_if (asked client) (ended o)) (own_end client number first (more ++ line ∷ []) e ∙ sym (own_end client number first more e)) in
            let longer = own_first number client asked first (more ++ line ∷ []) e in
            let shorter = own_first number client asked first more e in
            omega (arith, rest, same, longer, shorter)
        | inr k ↦
            let was : asked_by u number asked first client ≡ asked client = by_other u number asked first client k in
            let longer : one_if (asked_by u number asked first client) (ended (end_of client (suc number) (more ++ line ∷ []))) ≡ one_if (asked client) (ended (end_of client number (first ∷ (more ++ line ∷ []))))
            = (λ i. one_if (was i) (ended (sym (other_end client number first (more ++ line ∷ []) k) i))) in
            let shorter : one_if (asked_by u number asked first client) (ended (end_of client (suc number) more)) ≡ one_if (asked client) (ended (end_of client number (first ∷ more)))
            = (λ i. one_if (was i) (ended (sym (other_end client number first more k) i))) in
            let others = other_first number first line more (λ e. k (sym e)) in
            omega (arith, rest, longer, shorter, others)
      ]

  pub count_next : (lines : List Line) (line : Line)
      → how_many ended (calls_of (lines ++ line ∷ [])) ≡ how_many ended (calls_of lines) + one_if (asked_in_all u lines (client_of line)) (ended (end_at (suc (length lines)) line))
  count_next lines line = let all = both lines line 1 (suc (length lines)) none_asked (omega arith) in omega (arith, all)
