-- A history and its parts.
use Rattle.std.proofs.Common.{◌≡◌, ℕ, suc, ◌+◌, ◌-◌, ◌%◌, ◌<◌, ◌≤◌, ◌∙◌, ◌==◌, sym, ap, subst, Bool, true, false, cond, List, [], ◌∷◌, filter, refl, arith, Option, Some, None, eqb-true, eq-eqb, ◌↔◌}
use Rattle.std.proofs.lemmas.Bool.{false≢true}
use Rattle.tatp_tables.specs.Database.{Database, of_subscriber}
use Rattle.tatp_procs.specs.Consistent.{IsConsistent}
use Rattle.tatp_history.specs.declared.line.Line.{Line}
use Rattle.tatp_history.specs.declared.line.Line.TheVariants.{Ask, End, Abort, Lost}
use Rattle.tatp_history.specs.declared.observed.Outcome.{Outcome}
use Rattle.tatp_history.specs.declared.observed.Observed.{Observed}
use Rattle.tatp_history.specs.Histories.{IsStrictlySerializable, IsStrictlySerializableTo}
use Rattle.tatp_history.specs.HistoryLines.{client_of, end_at, end_of, call_at, calls_from, calls_of, AreAcceptedLines}
use Rattle.tatp_history.specs.Locality.{subscriber_of, is_this, is_on, calls_on, FailsWithout, FailWithout}
use Rattle.tatp_history.proofs.FinalLaws.{combined_to, parted_to}
use Rattle.tatp_history.proofs.LineLaws.{are_calls}
use Rattle.tatp_history.proofs.LocalityLaws.{combined, parted}
use Rattle.tatp_history.proofs.OrderLaws.{all_filter}
use Rattle.tatp_judge.specs.declared.aside.Undecided.{Undecided}
use Rattle.tatp_judge.specs.declared.part.Part.{Part}
use Rattle.tatp_judge.specs.Finishing.{LeadsInPart, LeadsTo, Leaves}
use Rattle.tatp_judge.specs.Parts.{is_of_part, line_of_part, lines_of_part, part_of, whole}
use Rattle.tatp_judge.specs.Verdicts.{AreOthersLegal, IsLegal}

module _ (u : Database) (part : Part) where
  -- whether a call is of the part
  abbrev is_here : Observed → Bool
  is_here x = is_of_part part (subscriber_of u x.call)

  -- ---- calls
  ends_alike : (line : Line) (client number : ℕ) (rest : Outcome) → cond (client_of (line_of_part u part line) == client) (end_at number (line_of_part u part line)) rest ≡ cond (client_of line == client) (end_at number line) rest
  ends_alike (Ask other call) client number rest = elim (is_of_part part (subscriber_of u call)) as (λ b. cond (client_of (cond b (Ask other call) (Lost other)) == client) (end_at number (cond b (Ask other call) (Lost other))) rest ≡ cond (other == client) (end_at number (Ask other call)) rest) [
    | true ↦ refl
    | false ↦ refl
  ]
  ends_alike (End other recorded) client number rest = refl
  ends_alike (Abort other) client number rest = refl
  ends_alike (Lost other) client number rest = refl

  end_same : (client number : ℕ) (lines : List Line) → end_of client number (lines_of_part u part lines) ≡ end_of client number lines
  end_same client number [] = refl
  end_same client number (line ∷ more) =
      ends_alike line client number (end_of client (suc number) (lines_of_part u part more))
      ∙ ap (cond (client_of line == client) (end_at number line)) (end_same client (suc number) more)

  calls_here : (number : ℕ) (lines : List Line) → calls_from number (lines_of_part u part lines) ≡ filter is_here (calls_from number lines)
  calls_here number [] = refl
  calls_here number (Ask client call ∷ more) = elim (is_of_part part (subscriber_of u call))
      as (λ b. calls_from number (cond b (Ask client call) (Lost client) ∷ lines_of_part u part more) ≡ cond b (call_at number client call more ∷ filter is_here (calls_from (suc number) more)) (filter is_here (calls_from (suc number) more))) [
        | true ↦ λ i. record { asked = number; call = call; outcome = end_same client (suc number) more i } ∷ calls_here (suc number) more i
        | false ↦ calls_here (suc number) more
      ]
  calls_here number (End client recorded ∷ more) = calls_here (suc number) more
  calls_here number (Abort client ∷ more) = calls_here (suc number) more
  calls_here number (Lost client ∷ more) = calls_here (suc number) more

  -- ---- calls on a subscriber
  on_it : (s : ℕ) (o : Option ℕ) → is_this s o ≡ true → o ≡ Some s
  on_it s None h = absurd (false≢true h)
  on_it s (Some t) h = ap Some (eqb-true t s h)

  -- of the part
  on_here : (s : ℕ) (calls : List Observed) → is_of_part part (Some s) ≡ true → calls_on u s (filter is_here calls) ≡ calls_on u s calls
  on_here s [] own = refl
  on_here s (x ∷ more) own = elim (is_here x)
      as (λ b. is_here x ≡ b → calls_on u s (cond b (x ∷ filter is_here more) (filter is_here more)) ≡ calls_on u s (x ∷ more)) [
        | true ↦ λ e. ap (λ zs. cond (is_on u s x.call) (x ∷ zs) zs) (on_here s more own)
        | false ↦ λ e. on_here s more own ∙ sym (ap (λ b. cond b (x ∷ calls_on u s more) (calls_on u s more)) (not_on e))
      ] refl
    where
      not_on : is_here x ≡ false → is_on u s x.call ≡ false
      not_on e = elim (is_on u s x.call) as (λ b. is_on u s x.call ≡ b → b ≡ false) [
        | true ↦ λ h. let here : is_here x ≡ true = ap (is_of_part part) (on_it s (subscriber_of u x.call) h) ∙ own in sym here ∙ e
        | false ↦ λ h. refl
      ] refl

  -- of another
  on_other : (s : ℕ) (calls : List Observed) → is_of_part part (Some s) ≡ false → calls_on u s (filter is_here calls) ≡ []
  on_other s [] own = refl
  on_other s (x ∷ more) own = elim (is_here x)
      as (λ b. is_here x ≡ b → calls_on u s (cond b (x ∷ filter is_here more) (filter is_here more)) ≡ []) [
        | true ↦ λ e. ap (λ b. cond b (x ∷ calls_on u s (filter is_here more)) (calls_on u s (filter is_here more))) (not_on e) ∙ on_other s more own
        | false ↦ λ e. on_other s more own
      ] refl
    where
      not_on : is_here x ≡ true → is_on u s x.call ≡ false
      not_on e = elim (is_on u s x.call) as (λ b. is_on u s x.call ≡ b → b ≡ false) [
        | true ↦ λ h. sym e ∙ (ap (is_of_part part) (on_it s (subscriber_of u x.call) h) ∙ own)
        | false ↦ λ h. refl
      ] refl

  -- ---- lines
  accepted_here : (lines : List Line) → AreAcceptedLines lines → AreAcceptedLines (lines_of_part u part lines)
  accepted_here [] h = tt
  accepted_here (Ask client call ∷ more) h = elim (is_of_part part (subscriber_of u call)) as (λ b. AreAcceptedLines (cond b (Ask client call) (Lost client) ∷ lines_of_part u part more)) [
    | true ↦ (h.0, accepted_here more h.1)
    | false ↦ accepted_here more h.1
  ]
  accepted_here (End client recorded ∷ more) h = accepted_here more h
  accepted_here (Abort client ∷ more) h = accepted_here more h
  accepted_here (Lost client ∷ more) h = accepted_here more h

  pub each_here : (lines : List Line) → IsConsistent u → AreAcceptedLines lines → IsLegal u (lines_of_part u part lines) → (s : ℕ) → is_of_part part (Some s) ≡ true → IsStrictlySerializable (of_subscriber u s) (calls_on u s (calls_of lines))
  each_here lines consistent accepted h s own =
      subst (IsStrictlySerializable (of_subscriber u s)) (ap (calls_on u s) (calls_here 1 lines) ∙ on_here s (calls_of lines) own)
      ((parted u (calls_of (lines_of_part u part lines)) consistent (are_calls 1 (lines_of_part u part lines) (accepted_here lines accepted)) h).each s)

  -- ---- calls that name no subscriber
  fails_anyway : (s_id : Option ℕ) (outcome : Outcome) → part.number ≡ 1 → is_of_part part s_id ≡ false → FailsWithout s_id outcome
  fails_anyway (Some s) outcome first e = tt
  fails_anyway None outcome first e = absurd (false≢true (sym e ∙ eq-eqb part.number 1 first))

  fail_all : (calls : List Observed) → part.number ≡ 1 → FailWithout u (filter is_here calls) → FailWithout u calls
  fail_all [] first h = tt
  fail_all (x ∷ more) first h = elim (is_here x) as (λ b. is_here x ≡ b → FailWithout u (cond b (x ∷ filter is_here more) (filter is_here more)) → FailWithout u (x ∷ more)) [
    | true ↦ λ e k. (k.0, fail_all more first k.1)
    | false ↦ λ e k. (fails_anyway (subscriber_of u x.call) x.outcome first e, fail_all more first k)
  ] refl h

  pub none_here : (lines : List Line) → IsConsistent u → AreAcceptedLines lines → part.number ≡ 1 → IsLegal u (lines_of_part u part lines) → FailWithout u (calls_of lines)
  none_here lines consistent accepted first h =
      fail_all (calls_of lines) first (subst (FailWithout u) (calls_here 1 lines) ((parted u (calls_of (lines_of_part u part lines)) consistent (are_calls 1 (lines_of_part u part lines) (accepted_here lines accepted)) h).none))

  -- ---- of a legal history
  nothing_called : (s : ℕ) → IsStrictlySerializable (of_subscriber u s) []
  nothing_called s = ([], record { made = tt; once = tt; all = λ x h a. h; real_time = tt; replies = tt })

  pub legal_here : (lines : List Line) → IsConsistent u → AreAcceptedLines lines → IsLegal u lines → IsLegal u (lines_of_part u part lines)
  legal_here lines consistent accepted h =
      let all = parted u (calls_of lines) consistent (are_calls 1 lines accepted) h in
      combined u (calls_of (lines_of_part u part lines)) consistent (are_calls 1 (lines_of_part u part lines) (accepted_here lines accepted)) (record {
        each = λ s. subst (IsStrictlySerializable (of_subscriber u s)) (sym (ap (calls_on u s) (calls_here 1 lines))) (elim (is_of_part part (Some s))
            as (λ b. is_of_part part (Some s) ≡ b → IsStrictlySerializable (of_subscriber u s) (calls_on u s (filter is_here (calls_of lines)))) [
              | true ↦ λ e. subst (IsStrictlySerializable (of_subscriber u s)) (sym (on_here s (calls_of lines) e)) (all.each s)
              | false ↦ λ e. subst (IsStrictlySerializable (of_subscriber u s)) (sym (on_other s (calls_of lines) e)) (nothing_called s)
            ] refl);
        none = subst (FailWithout u) (sym (calls_here 1 lines)) (all_filter (λ (x : Observed). FailsWithout (subscriber_of u x.call) x.outcome) is_here (calls_of lines) all.none);
      })

-- ---- rows at the end
module _ (u : Database) (part : Part) (after : Database) where
  same_leaves : (s : ℕ) (lines : List Line) → is_of_part part (Some s) ≡ true → calls_on u s (calls_of (lines_of_part u part lines)) ≡ calls_on u s (calls_of lines)
  same_leaves s lines own = ap (calls_on u s) (calls_here u part 1 lines) ∙ on_here u part s (calls_of lines) own

  pub leaves_here : (s : ℕ) (lines : List Line) → is_of_part part (Some s) ≡ true → Leaves u s (lines_of_part u part lines) (of_subscriber after s) → Leaves u s lines (of_subscriber after s)
  leaves_here s lines own = subst (λ calls. IsStrictlySerializableTo (of_subscriber u s) calls (of_subscriber after s)) (same_leaves s lines own)

  pub leads_here : (lines : List Line) → IsConsistent u → AreAcceptedLines lines → LeadsTo u lines after → LeadsInPart u part [] (lines_of_part u part lines) after
  leads_here lines consistent accepted h = record {
    legal = legal_here u part lines consistent accepted (h.0, h.1);
    leave = λ s own _. subst (λ calls. IsStrictlySerializableTo (of_subscriber u s) calls (of_subscriber after s)) (sym (same_leaves s lines own))
        ((parted_to u (calls_of lines) after consistent (are_calls 1 lines accepted) h).each s);
  }

-- ---- all parts
pub legal_in_parts : (u : Database) (count : ℕ) (lines : List Line) → IsConsistent u → AreAcceptedLines lines → 1 ≤ count → ((number : ℕ) → 1 ≤ number → number ≤ count → IsLegal u (lines_of_part u (part_of count number) lines)) → IsLegal u lines
legal_in_parts u count lines consistent accepted some each =
    combined u (calls_of lines) consistent (are_calls 1 lines accepted) (record {
      each = λ s.
          let rest : s % count < count = omega (arith, some) in
          let number = s % count + 1 in
          let own : s % count ≡ number - 1 = omega arith in
          each_here u (part_of count number) lines consistent accepted (each number (omega arith) (omega (arith, rest))) s (eq-eqb (s % count) (number - 1) own);
      none = none_here u (part_of count 1) lines consistent accepted refl (each 1 (omega arith) some);
    })

pub leads_in_parts : (u after : Database) (count : ℕ) (lines : List Line) → IsConsistent u → IsConsistent after → AreAcceptedLines lines → 1 ≤ count
    → ((number : ℕ) → 1 ≤ number → number ≤ count → LeadsInPart u (part_of count number) [] (lines_of_part u (part_of count number) lines) after) → LeadsTo u lines after
leads_in_parts u after count lines consistent consistent_after accepted some each =
    combined_to u (calls_of lines) after consistent (are_calls 1 lines accepted) consistent_after (record {
      each = λ s.
          let rest : s % count < count = omega (arith, some) in
          let number = s % count + 1 in
          let own : s % count ≡ number - 1 = omega arith in
          let here = eq-eqb (s % count) (number - 1) own in
          leaves_here u (part_of count number) after s lines here ((each number (omega arith) (omega (arith, rest))).leave s here (λ none. none));
      none = none_here u (part_of count 1) lines consistent accepted refl (each 1 (omega arith) some).legal;
    })

-- ---- subscribers that are set aside
pub all_others : (u : Database) (lines : List Line) → IsConsistent u → AreAcceptedLines lines → IsLegal u lines ↔ AreOthersLegal u [] lines
all_others u lines consistent accepted = (
  λ h. let all = parted u (calls_of lines) consistent (are_calls 1 lines accepted) h in record { each = λ s _. all.each s; none = all.none },
  λ h. combined u (calls_of lines) consistent (are_calls 1 lines accepted) (record { each = λ s. h.each s (λ none. none); none = h.none }),
)

pub others_in_parts : (u : Database) (aside : List Undecided) (count : ℕ) (lines : List Line) → 1 ≤ count → ((number : ℕ) → 1 ≤ number → number ≤ count → AreOthersLegal u aside (lines_of_part u (part_of count number) lines)) → AreOthersLegal u aside lines
others_in_parts u aside count lines some each = record {
  each = λ s other.
      let rest : s % count < count = omega (arith, some) in
      let number = s % count + 1 in
      let own : s % count ≡ number - 1 = omega arith in
      let here = eq-eqb (s % count) (number - 1) own in
      subst (IsStrictlySerializable (of_subscriber u s)) (ap (calls_on u s) (calls_here u (part_of count number) 1 lines) ∙ on_here u (part_of count number) s (calls_of lines) here)
      ((each number (omega arith) (omega (arith, rest))).each s other);
  none = fail_all u (part_of count 1) (calls_of lines) refl (subst (FailWithout u) (calls_here u (part_of count 1) 1 lines) (each 1 (omega arith) some).none);
}

pub others_here : (u : Database) (aside : List Undecided) (part : Part) (lines : List Line) → AreOthersLegal u aside lines → AreOthersLegal u aside (lines_of_part u part lines)
others_here u aside part lines h = record {
  each = λ s other. subst (IsStrictlySerializable (of_subscriber u s)) (sym (ap (calls_on u s) (calls_here u part 1 lines))) (elim (is_of_part part (Some s))
      as (λ b. is_of_part part (Some s) ≡ b → IsStrictlySerializable (of_subscriber u s) (calls_on u s (filter (λ x. is_of_part part (subscriber_of u x.call)) (calls_of lines)))) [
        | true ↦ λ e. subst (IsStrictlySerializable (of_subscriber u s)) (sym (on_here u part s (calls_of lines) e)) (h.each s other)
        | false ↦ λ e. subst (IsStrictlySerializable (of_subscriber u s)) (sym (on_other u part s (calls_of lines) e)) (nothing_called u part s)
      ] refl);
  none = subst (FailWithout u) (sym (calls_here u part 1 lines)) (all_filter (λ (x : Observed). FailsWithout (subscriber_of u x.call) x.outcome) (λ x. is_of_part part (subscriber_of u x.call)) (calls_of lines) h.none);
}

-- the one part
mod_one : (s : ℕ) → s % 1 ≡ 0
mod_one s = let lt : s % 1 < 1 = omega arith in omega (arith, lt)

all_here : (u : Database) (line : Line) → line_of_part u whole line ≡ line
all_here u (Ask client call) = ap (λ b. cond b (Ask client call) (Lost client)) (own (subscriber_of u call))
  where
    own : (o : Option ℕ) → is_of_part whole o ≡ true
    own None = refl
    own (Some s) = eq-eqb (s % 1) 0 (mod_one s)
all_here u (End client recorded) = refl
all_here u (Abort client) = refl
all_here u (Lost client) = refl

pub one_part : (u : Database) (lines : List Line) → lines_of_part u whole lines ≡ lines
one_part u [] = refl
one_part u (line ∷ more) = λ i. all_here u line i ∷ one_part u more i
