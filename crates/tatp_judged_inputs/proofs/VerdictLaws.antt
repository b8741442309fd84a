-- There is one verdict on a history.
use Rattle.std.proofs.Common.{◌≡◌, ℕ, zero, suc, ◌+◌, ◌-◌, ◌<◌, ◌≤◌, List, [], ◌∷◌, ◌++◌, length, take, Option, Some, None, Result, Ok, Err, refl, sym, ap, subst, ◌∙◌, arith, inl, inr}
use Rattle.std.proofs.lemmas.Bool.{cases_lt}
use Rattle.std.proofs.lemmas.List.{take-take}
use Rattle.tatp_tables.specs.Database.{Database, database_of}
use Rattle.tatp_tables.specs.declared.row.Rows.{Rows}
use Rattle.tatp_history.specs.declared.line.Line.{Line}
use Rattle.tatp_history.specs.Histories.{IsStrictlySerializable}
use Rattle.tatp_history.specs.HistoryLines.{calls_of}
use Rattle.tatp_history.proofs.LineLaws.{calls_of_first, calls_in_time}
use Rattle.tatp_history.proofs.PrefixLaws.{prefixes}
use Rattle.tatp_history_lines.specs.declared.fault.LineFault.{LineFault}
use Rattle.tatp_history_lines.specs.Open.{CallsOpen, opened_by}
use Rattle.tatp_judged_inputs.specs.HistoryTexts.{Told, BadText, said_in, onto, tell_on, history_from, none_open}
use Rattle.tatp_inputs.specs.Parts.{before_dot}
use Rattle.tatp_judge.specs.declared.aside.Undecided.{Undecided}
use Rattle.tatp_judge.specs.Verdicts.{AreOthersLegal}
use Rattle.tatp_judge.proofs.AsideLaws.{first_on}
use Rattle.tatp_judge.proofs.NoneLaws.{first_fail}
use Rattle.tatp_judge.specs.declared.stakes.Stakes.{Stakes}
use Rattle.tatp_judged_inputs.specs.Views.{IsFirstUnreached, IsLegalBut, LeadsTo, View, seen}
use Rattle.tatp_judged_inputs.proofs.ViewLaws.{seen_both}
use Rattle.tatp_judged_inputs.specs.declared.judging.Judged.TheVariants.{Legal}
use Rattle.tatp_judged_inputs.specs.Judged.{TellLegal, TellIllegal, IsIllegalAt}
use Rattle.tatp_judged_inputs.specs.RowsAtEnd.{Bring, IsJudgedTo, IsUnreachedAt, rows_at_end}

-- ---- what the first texts tell begins what all of them do
abbrev lines_told : Result Told BadText → List Line
lines_told (Ok told) = told.lines
lines_told (Err bad) = []

abbrev Begins : Result Told BadText → Result Told BadText → Type 0
Begins first all = (s t : Told) → first ≡ Ok s → all ≡ Ok t → (more : List Line) × (t.lines ≡ s.lines ++ more)

-- a line before both
begins_onto : (number : ℕ) (line : Line) (first all : Result Told BadText) → Begins first all → Begins (onto number line first) (onto number line all)
begins_onto number line (Err bad) all so s t e h = absurd cc
begins_onto number line (Ok first) (Err bad) so s t e h = absurd cc
begins_onto number line (Ok first) (Ok all) so s t e h =
    let own = so first all refl refl in
    (own.0, sym (ap lines_told h) ∙ (ap (λ lines. line ∷ lines) own.1 ∙ ap (λ lines. lines ++ own.0) (ap lines_told e)))

begins_on : (number : ℕ) (opened : CallsOpen) (said : Result (Option Line) LineFault) (first all : CallsOpen → Result Told BadText) → ((after : CallsOpen) → Begins (first after) (all after))
    → Begins (tell_on number opened said first) (tell_on number opened said all)
begins_on number opened (Err fault) first all so s t e h = absurd cc
begins_on number opened (Ok None) first all so s t e h = so opened s t e h
begins_on number opened (Ok (Some line)) first all so s t e h = begins_onto number line (first (opened_by opened line)) (all (opened_by opened line)) (so (opened_by opened line)) s t e h

begins : (n : ℕ) (opened : CallsOpen) (number : ℕ) (texts : List (List ℕ)) → Begins (history_from opened number (take n texts)) (history_from opened number texts)
begins zero opened number texts s t e h = (t.lines, ap (λ lines. lines ++ t.lines) (ap lines_told e))
begins (suc n) opened number [] s t e h = ([], sym (ap lines_told h) ∙ ap (λ lines. lines ++ []) (ap lines_told e))
begins (suc n) opened number (text ∷ more) s t e h =
    begins_on number opened (said_in opened text) (λ after. history_from after (number + 1) (take n more)) (λ after. history_from after (number + 1) more) (λ after. begins n after (number + 1) more) s t e h

-- ---- so they are legal where all are
legal_first : (u : View) (aside : List Undecided) (first second : List Line) → IsLegalBut u aside (first ++ second) → IsLegalBut u aside first
legal_first u [] first second h =
    let ours = seen u first in
    let others = seen u second in
    subst (IsStrictlySerializable u.rows) (calls_of_first ours others 1 (length ours) (omega arith))
    (prefixes (length ours) u.rows (calls_of (ours ++ others)) (calls_in_time 1 (ours ++ others)) (subst (λ ls. IsStrictlySerializable u.rows (calls_of ls)) (seen_both u first second) h))
legal_first u (one ∷ more) first second h =
    let ours = seen u first in
    let others = seen u second in
    let all = subst (AreOthersLegal u.rows (one ∷ more)) (seen_both u first second) h in
    record {
      each = λ s apart. first_on u.rows s ours others (all.each s apart);
      none = first_fail u.rows ours others all.none;
    }

pub first_legal : (u : View) (aside : List Undecided) (taken n : ℕ) (texts : List (List ℕ)) → TellLegal u aside taken texts → TellIllegal u aside taken (take n texts) → ⊥
first_legal u aside taken n texts legal illegal =
    let b = begins n none_open (taken + 1) texts illegal.0 legal.0 illegal.1 legal.1 in
    illegal.2 (legal_first u aside illegal.0.lines b.0 (subst (IsLegalBut u aside) b.1 legal.2))

-- ---- one verdict
pub legal_nowhere_illegal : (u : View) (aside : List Undecided) (taken : ℕ) (texts : List (List ℕ)) (number : ℕ) → TellLegal u aside taken texts → IsIllegalAt u aside taken texts number → ⊥
legal_nowhere_illegal u aside taken texts number legal is = first_legal u aside taken (number - taken) texts legal is.illegal

not_before : (u : View) (aside : List Undecided) (taken : ℕ) (texts : List (List ℕ)) (n m : ℕ) → IsIllegalAt u aside taken texts n → IsIllegalAt u aside taken texts m → n < m → ⊥
not_before u aside taken texts n m a b lt =
    let within : n - taken ≤ m - taken - 1 = omega (arith, lt, a.later, b.later) in
    first_legal u aside taken (n - taken) (take (m - taken - 1) texts) b.before (subst (TellIllegal u aside taken) (sym (take-take (n - taken) (m - taken - 1) texts within)) a.illegal)

pub illegal_at_one : (u : View) (aside : List Undecided) (taken : ℕ) (texts : List (List ℕ)) (n m : ℕ) → IsIllegalAt u aside taken texts n → IsIllegalAt u aside taken texts m → n ≡ m
illegal_at_one u aside taken texts n m a b = elim (cases_lt n m) [
  | inl lt ↦ absurd (not_before u aside taken texts n m a b lt)
  | inr le ↦ elim (cases_lt m n) [ inl lt ↦ absurd (not_before u aside taken texts m n b a lt) | inr ge ↦ omega (arith, le, ge) ]
]

-- ---- with the rows at the end
same_rows : (r : Result Rows ℕ) (a b : Rows) → r ≡ Ok a → r ≡ Ok b → a ≡ b
same_rows r a b e h = cc

pub same_told : (r : Result Told BadText) (a b : Told) → r ≡ Ok a → r ≡ Ok b → a ≡ b
same_told r a b e h = cc

-- what holds of what the texts bring holds of it anywhere
brought_once : (taken : ℕ) (texts : List (List ℕ)) (P Q : List Line → Database → Type 0) (a : Bring taken texts P) (b : Bring taken texts Q) → P b.holds.0.lines (database_of b.rows)
brought_once taken texts P Q a b =
    subst (λ r. P b.holds.0.lines (database_of r)) (same_rows (rows_at_end taken texts) a.rows b.rows a.read b.read)
    (subst (λ (t : Told). P t.lines (database_of a.rows)) (same_told (history_from none_open (taken + 1) (before_dot texts)) a.holds.0 b.holds.0 a.holds.1 b.holds.1) a.holds.2)

pub legal_nowhere_unreached : (u : View) (aside : List Undecided) (taken : ℕ) (texts : List (List ℕ)) (stakes : Stakes) (number s : ℕ) → IsJudgedTo u aside taken texts (Legal stakes) → IsUnreachedAt u aside taken texts number s → ⊥
legal_nowhere_unreached u aside taken texts stakes number s legal is =
    let leads = brought_once taken texts (LeadsTo u aside) (λ lines after. IsFirstUnreached u aside lines after s) legal.0 is.unreached in
    let unreached = is.unreached.holds.2 in
    unreached.here (leads.leave s unreached.own unreached.other)

not_earlier : (u : View) (aside : List Undecided) (taken : ℕ) (texts : List (List ℕ)) (n m s t : ℕ) → IsUnreachedAt u aside taken texts n s → IsUnreachedAt u aside taken texts m t → s < t → ⊥
not_earlier u aside taken texts n m s t a b lt =
    let here = brought_once taken texts (λ lines after. IsFirstUnreached u aside lines after s) (λ lines after. IsFirstUnreached u aside lines after t) a.unreached b.unreached in
    here.here (b.unreached.holds.2.before s here.first lt here.own here.other)

pub unreached_at_one : (u : View) (aside : List Undecided) (taken : ℕ) (texts : List (List ℕ)) (n m s t : ℕ) → IsUnreachedAt u aside taken texts n s → IsUnreachedAt u aside taken texts m t → s ≡ t
unreached_at_one u aside taken texts n m s t a b = elim (cases_lt s t) [
  | inl lt ↦ absurd (not_earlier u aside taken texts n m s t a b lt)
  | inr le ↦ elim (cases_lt t s) [ inl lt ↦ absurd (not_earlier u aside taken texts m n t s b a lt) | inr ge ↦ omega (arith, le, ge) ]
]
