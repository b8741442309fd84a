-- The first texts tell the first lines.
use Rattle.std.specs.Prelude.{◌≡◌, ℕ, zero, suc, ◌+◌, ◌-◌, ◌<◌, ◌≤◌, List, [], ◌∷◌, ◌++◌, length, take, slice_get, slice_index, Option, Some, None, Result, Ok, Err}
use Rattle.std.specs.List.{AllByRecursion}
use Rattle.std.proofs.Common.{refl, sym, ap, subst, ◌∙◌, arith}
use Rattle.std.proofs.lemmas.List.{append-nil, length-append, take_all}
use Rattle.std.proofs.lemmas.Option.{none-some, same_Some}
use Rattle.tatp_tables.specs.Database.{of_subscriber}
use Rattle.tatp_history.specs.Histories.{IsStrictlySerializable}
use Rattle.tatp_history.specs.HistoryLines.{calls_of}
use Rattle.tatp_history.specs.Locality.{calls_on, FailWithout}
use Rattle.tatp_history.proofs.OrderLaws.{all_map}
use Rattle.tatp_history.specs.declared.line.Line.{Line}
use Rattle.tatp_history_lines.specs.declared.fault.LineFault.{LineFault}
use Rattle.tatp_history_lines.specs.Open.{CallsOpen, opened_by}
use Rattle.tatp_judged_inputs.specs.declared.judging.Window.{Window}
use Rattle.tatp_judged_inputs.specs.HistoryTexts.{Told, BadText, said_in, onto, tell_on, history_from, none_open}
use Rattle.tatp_judge.specs.declared.aside.Undecided.{Undecided}
use Rattle.tatp_judge.specs.declared.judge.Verdict.{Verdict}
use Rattle.tatp_judge.specs.declared.judge.Verdict.TheVariants as verdicts
use Rattle.tatp_judged_inputs.specs.Views.{AreUndecided, IsLegalBut, IsSaid, IsUnexplained, IsVerdictOn, NeedMoreBy, View, seen}
use Rattle.tatp_judged_inputs.proofs.ViewLaws.{seen_length, seen_take}
use Rattle.tatp_judge.specs.Verdicts.{IsFirstIllegal, IsLegalBut as AreLegalBut, NeedMoreBy as NeedMoreByAll}
use Rattle.tatp_judge.proofs.AsideLaws.{need_taken}
use Rattle.tatp_judged_inputs.specs.declared.judging.Judged.{Judged}
use Rattle.tatp_judged_inputs.specs.declared.judging.Judged.TheVariants.{Illegal}
use Rattle.tatp_judged_inputs.specs.Judged.{first_told, IsWindowTold, IsJudgement, IsWindowBy, IsWindowOf, Tell, TellLegal, TellIllegal, AreUndecidedAt, IsIllegalAt, IsUndecidedAt, IsJudged, IsTold, aside_told, number_after}
use Rattle.tatp_judged_inputs.proofs.AsideLaws.{AreRising, each_told, ids_told, order_told, same_verdict}
use Rattle.tatp_judged_inputs.proofs.HistoryLaws.{ReadAll}

taken : {X : Type 0} (n : ℕ) (xs : List X) → n ≤ length xs → length (take n xs) ≡ n
taken zero xs le = refl
taken (suc n) [] le = absurd (omega (arith, le))
taken (suc n) (x ∷ xs) le = ap suc (taken n xs (omega (arith, le)))

got_index : (xs : List ℕ) (k : ℕ) → k < length xs → slice_get xs k ≡ Some (slice_index xs k)
got_index [] k lt = absurd (omega (arith, lt))
got_index (x ∷ xs) zero lt = refl
got_index (x ∷ xs) (suc k) lt = got_index xs k (omega (arith, lt))

-- the first k lines
abbrev front : ℕ → Told → Told
front k t = record { numbers = take k t.numbers; lines = take k t.lines }

abbrev nothing : Told
nothing = record { numbers = []; lines = [] }

abbrev told_ok : Told → Result Told BadText
told_ok t = Ok t

same_Ok : (x y : Told) → told_ok x ≡ told_ok y → x ≡ y
same_Ok x y e = cc

abbrev told_err : BadText → Result Told BadText
told_err bad = Err bad

no_Err : (bad : BadText) (t : Told) → told_err bad ≡ told_ok t → ⊥
no_Err bad t e = cc

onto_some : (n : ℕ) (line : Line) (r : Result Told BadText) (t : Told) → onto n line r ≡ Ok t → (more : Told) × (r ≡ Ok more) × (record { numbers = n ∷ more.numbers; lines = line ∷ more.lines } ≡ t)
onto_some n line (Ok more) t e = (more, refl, same_Ok (record { numbers = n ∷ more.numbers; lines = line ∷ more.lines }) t e)
onto_some n line (Err bad) t e = absurd (no_Err bad t e)

-- so many of the texts, the last of which has the number, tell the lines up to place k
record IsFront (opened : CallsOpen) (taken : ℕ) (texts : List (List ℕ)) (t : Told) (k number : ℕ) : Type 0 where
  pub count : ℕ
  pub number_is : number ≡ taken + suc count
  pub within : suc count ≤ length texts
  pub with : history_from opened (taken + 1) (take (suc count) texts) ≡ Ok (front (suc k) t)
  pub without : history_from opened (taken + 1) (take count texts) ≡ Ok (front k t)

-- the first texts, by what the first of them says
taken_texts : (opened : CallsOpen) (taken : ℕ) (text : List ℕ) (more : List (List ℕ)) (said : Result (Option Line) LineFault) (n : ℕ) → said_in opened text ≡ said
    → history_from opened (taken + 1) (take (suc n) (text ∷ more)) ≡ tell_on (taken + 1) opened said (λ after. history_from after (taken + 1 + 1) (take n more))
taken_texts opened taken text more said n e = ap (λ s. tell_on (taken + 1) opened s (λ after. history_from after (taken + 1 + 1) (take n more))) e

-- a text that says nothing
after_nothing : (opened : CallsOpen) (taken : ℕ) (text : List ℕ) (more : List (List ℕ)) (t : Told) (k number : ℕ) → said_in opened text ≡ Ok None → IsFront opened (taken + 1) more t k number → IsFront opened taken (text ∷ more) t k number
after_nothing opened taken text more t k number e f = record {
  count = suc f.count;
  number_is = omega (arith, f.number_is);
  within = omega (arith, f.within);
  with = taken_texts opened taken text more (Ok None) (suc f.count) e ∙ f.with;
  without = taken_texts opened taken text more (Ok None) f.count e ∙ f.without;
}

-- a line, and one of those that follow
abbrev onto_told : ℕ → Line → Told → Told
onto_told n line m = record { numbers = n ∷ m.numbers; lines = line ∷ m.lines }

after_line : (opened : CallsOpen) (taken : ℕ) (text : List ℕ) (more : List (List ℕ)) (line : Line) (m : Told) (k number : ℕ) → said_in opened text ≡ Ok (Some line) → IsFront (opened_by opened line) (taken + 1) more m k number
    → IsFront opened taken (text ∷ more) (onto_told (taken + 1) line m) (suc k) number
after_line opened taken text more line m k number e f = record {
  count = suc f.count;
  number_is = omega (arith, f.number_is);
  within = omega (arith, f.within);
  with = taken_texts opened taken text more (Ok (Some line)) (suc f.count) e ∙ ap (onto (taken + 1) line) f.with;
  without = taken_texts opened taken text more (Ok (Some line)) f.count e ∙ ap (onto (taken + 1) line) f.without;
}

-- the line itself
the_line : (opened : CallsOpen) (taken : ℕ) (text : List ℕ) (more : List (List ℕ)) (line : Line) (m : Told) → said_in opened text ≡ Ok (Some line) → IsFront opened taken (text ∷ more) (onto_told (taken + 1) line m) 0 (taken + 1)
the_line opened taken text more line m e = record {
  count = 0;
  number_is = omega arith;
  within = omega arith;
  with = taken_texts opened taken text more (Ok (Some line)) 0 e;
  without = refl;
}

front_of_line : (opened : CallsOpen) (taken : ℕ) (text : List ℕ) (more : List (List ℕ)) (line : Line) (m : Told) (k number : ℕ) → said_in opened text ≡ Ok (Some line) → slice_get (onto_told (taken + 1) line m).numbers k ≡ Some number
    → ((j : ℕ) → slice_get m.numbers j ≡ Some number → IsFront (opened_by opened line) (taken + 1) more m j number) → IsFront opened taken (text ∷ more) (onto_told (taken + 1) line m) k number
front_of_line opened taken text more line m zero number e h own =
    subst (IsFront opened taken (text ∷ more) (onto_told (taken + 1) line m) 0) (same_Some (taken + 1) number h) (the_line opened taken text more line m e)
front_of_line opened taken text more line m (suc j) number e h own = after_line opened taken text more line m j number e (own j h)

front_by : (opened : CallsOpen) (taken : ℕ) (text : List ℕ) (more : List (List ℕ)) (t : Told) (k number : ℕ) (said : Result (Option Line) LineFault) → said_in opened text ≡ said
    → ((o : CallsOpen) (t : Told) (k : ℕ) → history_from o (taken + 1 + 1) more ≡ Ok t → slice_get t.numbers k ≡ Some number → IsFront o (taken + 1) more t k number)
    → tell_on (taken + 1) opened said (λ after. history_from after (taken + 1 + 1) more) ≡ Ok t → slice_get t.numbers k ≡ Some number → IsFront opened taken (text ∷ more) t k number
front_by opened taken text more t k number (Err fault) e own h at = absurd (no_Err (record { number = taken + 1; fault = fault }) t h)
front_by opened taken text more t k number (Ok None) e own h at = after_nothing opened taken text more t k number e (own opened t k h at)
front_by opened taken text more t k number (Ok (Some line)) e own h at =
    let m = onto_some (taken + 1) line (history_from (opened_by opened line) (taken + 1 + 1) more) t h in
    subst (λ t. IsFront opened taken (text ∷ more) t k number) m.2
    (front_of_line opened taken text more line m.0 k number e (ap (λ (t : Told). slice_get t.numbers k) m.2 ∙ at) (λ j got. own (opened_by opened line) m.0 j m.1 got))

front_of : (opened : CallsOpen) (taken : ℕ) (texts : List (List ℕ)) (t : Told) (k number : ℕ) → history_from opened (taken + 1) texts ≡ Ok t → slice_get t.numbers k ≡ Some number → IsFront opened taken texts t k number
front_of opened taken [] t k number h at =
    let none : nothing ≡ t = same_Ok nothing t h in
    absurd (none-some number (ap (λ (t : Told). slice_get t.numbers k) none ∙ at))
front_of opened taken (text ∷ more) t k number h at = front_by opened taken text more t k number (said_in opened text) refl (λ o t k h at. front_of o (taken + 1) more t k number h at) h at

pub told_illegal : (u : View) (aside : List Undecided) (taken : ℕ) (texts : List (List ℕ)) (t : Told) (n number : ℕ) → history_from none_open (taken + 1) texts ≡ Ok t → IsFirstIllegal u.rows aside (seen u t.lines) n → slice_get t.numbers (n - 1) ≡ Some number → IsIllegalAt u aside taken texts number
told_illegal u aside taken texts t n number h first at =
    let f = front_of none_open taken texts t (n - 1) number h at in
    let last : suc (n - 1) ≡ n = omega (arith, first.first) in
    let some : suc f.count ≡ number - taken = omega (arith, f.number_is) in
    let fewer : f.count ≡ number - taken - 1 = omega (arith, f.number_is) in
    record {
      later = omega (arith, f.number_is);
      within = omega (arith, f.number_is, f.within);
      illegal = (front (suc (n - 1)) t, sym (ap (λ m. history_from none_open (taken + 1) (take m texts)) some) ∙ f.with, λ legal. first.illegal (subst (AreLegalBut u.rows aside) (sym (seen_take u n t.lines)) (subst (λ m. IsLegalBut u aside (take m t.lines)) last legal)));
      before = (front (n - 1) t, sym (ap (λ m. history_from none_open (taken + 1) (take m texts)) fewer) ∙ f.without, subst (AreLegalBut u.rows aside) (seen_take u (n - 1) t.lines) first.before);
    }

-- ---- verdicts
pub taken_front : (k : ℕ) (read more : List (List ℕ)) → k ≤ length read → take k (read ++ more) ≡ take k read
taken_front zero read more le = refl
taken_front (suc k) [] more le = absurd (omega (arith, le))
taken_front (suc k) (text ∷ read) more le = ap (λ ts. text ∷ ts) (taken_front k read more (omega (arith, le)))

-- what holds of the first lines that are told holds of the texts up to the last of these
front_told : (taken : ℕ) (read more : List (List ℕ)) (t : Told) (n number : ℕ) (P : Told → Type 0) → history_from none_open (taken + 1) read ≡ Ok t → 1 ≤ n → slice_get t.numbers (n - 1) ≡ Some number → P (first_told n t)
    → Tell taken (take (number - taken) (read ++ more)) P
front_told taken read more t n number P h some at holds =
    let f = front_of none_open taken read t (n - 1) number h at in
    let last : suc (n - 1) ≡ n = omega (arith, some) in
    let count : suc f.count ≡ number - taken = omega (arith, f.number_is) in
    let same : take (number - taken) (read ++ more) ≡ take (suc f.count) read
    = taken_front (number - taken) read more (omega (arith, f.within, count)) ∙ ap (λ m. take m read) (sym count) in (
      first_told (suc (n - 1)) t,
      ap (history_from none_open (taken + 1)) same ∙ f.with,
      subst (λ m. P (first_told m t)) (sym last) holds,
    )

first_seen : (u : View) (n : ℕ) (lines : List Line) → take (length (take n lines)) (seen u (take n lines)) ≡ take n (seen u lines)
first_seen u n lines = let count = seen_length u (take n lines) in take_all (length (take n lines)) (seen u (take n lines)) (omega (arith, count)) ∙ sym (seen_take u n lines)

unexplained_there : (u : View) (lines : List Line) (n : ℕ) (s_id : Option ℕ) → IsUnexplained u lines n s_id → IsUnexplained u (take n lines) (length (take n lines)) s_id
unexplained_there u lines n None h = λ fail. h (subst (λ ls. FailWithout u.rows (calls_of ls)) (first_seen u n lines) fail)
unexplained_there u lines n (Some s) h = λ explained.
    h (subst (λ ls. IsStrictlySerializable (of_subscriber u.rows s) (calls_on u.rows s (calls_of ls))) (first_seen u n lines) explained)

-- unread texts follow
illegal_stays : (u : View) (aside : List Undecided) (taken : ℕ) (read more : List (List ℕ)) (number : ℕ) → IsIllegalAt u aside taken read number → IsIllegalAt u aside taken (read ++ more) number
illegal_stays u aside taken read more number h =
    let both = length-append read more in
    let same : take (number - taken) read ≡ take (number - taken) (read ++ more) = sym (taken_front (number - taken) read more (omega (arith, h.within))) in
    let fewer : take (number - taken - 1) read ≡ take (number - taken - 1) (read ++ more) = sym (taken_front (number - taken - 1) read more (omega (arith, h.within))) in
    record {
      later = h.later;
      within = omega (arith, h.within, both);
      illegal = subst (TellIllegal u aside taken) same h.illegal;
      before = subst (TellLegal u aside taken) fewer h.before;
    }

-- a subscriber that is set aside, by the number of the line
need_there : (u : View) (most n s : ℕ) (lines : List Line) → n ≤ length lines → NeedMoreBy u most lines n s → NeedMoreBy u most (take n lines) (length (take n lines)) s
need_there u most n s lines within h =
    let counted = seen_length u lines in
    subst (λ k. NeedMoreBy u most (take n lines) k s) (sym (taken n lines within))
    (subst (λ ls. NeedMoreByAll u.rows most ls n s) (seen_take u n lines) (need_taken u.rows most n s (seen u lines) (omega (arith, within, counted)) h))

undecided_there : (u : View) (most taken_lines n s : ℕ) (read more : List (List ℕ)) (t : Told) → history_from none_open (taken_lines + 1) read ≡ Ok t → length t.numbers ≡ length t.lines → n ≤ length t.lines → NeedMoreBy u most t.lines n s
    → IsUndecidedAt u most taken_lines (read ++ more) (number_after taken_lines t.numbers n) s
undecided_there u most taken_lines zero s read more t all count within h =
    let none : taken_lines - taken_lines ≡ 0 = omega arith in
    record {
      later = omega arith;
      within = omega arith;
      many = subst (λ k. Tell taken_lines (take k (read ++ more)) (λ told. NeedMoreBy u most told.lines (length told.lines) s)) (sym none) (nothing, refl, need_there u most 0 s t.lines within h);
    }
undecided_there u most taken_lines (suc n) s read more t all count within h =
    let number = slice_index t.numbers n in
    let at : slice_get t.numbers n ≡ Some number = got_index t.numbers n (omega (arith, within, count)) in
    let f = front_of none_open taken_lines read t n number all at in
    let both = length-append read more in
    let same : n ≡ suc n - 1 = omega arith in
    record {
      later = omega (arith, f.number_is);
      within = omega (arith, f.number_is, f.within, both);
      many = front_told taken_lines read more t (suc n) number (λ told. NeedMoreBy u most told.lines (length told.lines) s) all (omega arith) (subst (λ k. slice_get t.numbers k ≡ Some number) same at) (need_there u most (suc n) s t.lines within h);
    }

-- the numbers rise
AreLater : ℕ → List ℕ → Type 0
AreLater taken numbers = AllByRecursion (λ n. taken < n) numbers × AreRising numbers

later_still : (taken : ℕ) (numbers : List ℕ) → AllByRecursion (λ n. taken + 1 < n) numbers → AllByRecursion (λ n. taken < n) numbers
later_still taken [] h = tt
later_still taken (n ∷ more) h = let lt : taken + 1 < n = h.0 in (omega (arith, lt), later_still taken more h.1)

at_least : (number : ℕ) (numbers : List ℕ) → AllByRecursion (λ n. number < n) numbers → AllByRecursion (λ n. number ≤ n) numbers
at_least number [] h = tt
at_least number (n ∷ more) h = let lt : number < n = h.0 in (omega (arith, lt), at_least number more h.1)

later_by : (opened : CallsOpen) (taken : ℕ) (more : List (List ℕ)) (t : Told) (said : Result (Option Line) LineFault) → ((o : CallsOpen) (t : Told) → history_from o (taken + 1 + 1) more ≡ Ok t → AreLater (taken + 1) t.numbers)
    → tell_on (taken + 1) opened said (λ after. history_from after (taken + 1 + 1) more) ≡ Ok t → AreLater taken t.numbers
unfolding AreLater
later_by opened taken more t (Err fault) own h = absurd (no_Err (record { number = taken + 1; fault = fault }) t h)
later_by opened taken more t (Ok None) own h = let rest = own opened t h in (later_still taken t.numbers rest.0, rest.1)
later_by opened taken more t (Ok (Some line)) own h =
    let m = onto_some (taken + 1) line (history_from (opened_by opened line) (taken + 1 + 1) more) t h in
    let rest = own (opened_by opened line) m.0 m.1 in
    subst (λ (t : Told). AllByRecursion (λ n. taken < n) t.numbers × AreRising t.numbers) m.2
    ((omega arith, later_still taken m.0.numbers rest.0), (at_least (taken + 1) m.0.numbers rest.0, rest.1))

numbers_rise : (opened : CallsOpen) (taken : ℕ) (texts : List (List ℕ)) (t : Told) → history_from opened (taken + 1) texts ≡ Ok t → AreLater taken t.numbers
unfolding AreLater
numbers_rise opened taken [] t h = subst (λ (t : Told). AllByRecursion (λ n. taken < n) t.numbers × AreRising t.numbers) (same_Ok nothing t h) (tt, tt)
numbers_rise opened taken (text ∷ more) t h = later_by opened taken more t (said_in opened text) (λ o t h. numbers_rise o (taken + 1) more t h) h

pub aside_there : (u : View) (most taken : ℕ) (read more : List (List ℕ)) (t : Told) (aside : List Undecided) → history_from none_open (taken + 1) read ≡ Ok t → length t.numbers ≡ length t.lines → AreUndecided u most t.lines aside
    → AreUndecidedAt u most taken (read ++ more) (aside_told taken t.numbers aside)
unfolding AreLater
aside_there u most taken read more t aside all count are =
    let rise = numbers_rise none_open taken read t all in
    let long = seen_length u t.lines in
    record {
      each = each_told (λ one. NeedMoreBy u most t.lines one.line one.s_id) (λ one. IsUndecidedAt u most taken (read ++ more) one.line one.s_id) taken t.numbers aside
          (λ one h. let within = h.within in undecided_there u most taken one.line one.s_id read more t all count (omega (arith, within, long)) h) are.each;
      order = order_told taken t.numbers aside rise.0 rise.1
          (all_map (λ (one : Undecided). NeedMoreBy u most t.lines one.line one.s_id) (λ (one : Undecided). one.line ≤ length t.numbers) (λ one h. let within = h.within in omega (arith, within, long, count)) aside are.each) are.order;
    }

is_judged : (u : View) (aside : List Undecided) (taken : ℕ) (read more : List (List ℕ)) (t : Told) (verdict : Verdict) (judged : Judged) → history_from none_open (taken + 1) read ≡ Ok t → (verdict ≡ verdicts.Legal → more ≡ []) → IsVerdictOn u aside t.lines verdict
    → IsTold u t verdict judged → IsJudged u aside taken (read ++ more) judged
is_judged u aside taken read more t verdicts.Legal judged all last legal told =
    let tell = ap (history_from none_open (taken + 1)) (ap (λ ts. read ++ ts) (last refl) ∙ append-nil read) ∙ all in
    subst (IsJudged u aside taken (read ++ more)) (sym told.2) ((t, tell, legal), (t, tell, told.1))
is_judged u aside taken read more t (verdicts.Illegal first s_id) judged all last illegal told =
    subst (IsJudged u aside taken (read ++ more)) (sym told.2) (
      illegal_stays u aside taken read more told.0 (told_illegal u aside taken read t first told.0 all illegal.0 told.1),
      front_told taken read more t first told.0 (λ t. IsUnexplained u t.lines (length t.lines) s_id) all illegal.0.first told.1 (unexplained_there u t.lines first s_id illegal.1),
      illegal.2,
    )

-- ---- the lines that are told
window_there : (u : View) (taken number : ℕ) (read more : List (List ℕ)) (t : Told) (first : ℕ) (s_id : Option ℕ) (window : Window) → history_from none_open (taken + 1) read ≡ Ok t → 1 ≤ first → slice_get t.numbers (first - 1) ≡ Some number
    → IsWindowBy u t (verdicts.Illegal first s_id) window → IsWindowOf u taken (read ++ more) (Illegal number s_id) window
window_there u taken number read more t first None window h some at by = by
window_there u taken number read more t first (Some s) window h some at by = front_told taken read more t first number (λ t. IsWindowTold u s t window) h some at by

window_told : (u : View) (aside : List Undecided) (taken : ℕ) (read more : List (List ℕ)) (t : Told) (verdict : Verdict) (judged : Judged) (window : Window) → history_from none_open (taken + 1) read ≡ Ok t → IsVerdictOn u aside t.lines verdict → IsTold u t verdict judged → IsWindowBy u t verdict window
    → IsWindowOf u taken (read ++ more) judged window
window_told u aside taken read more t verdicts.Legal judged window all is told by = subst (λ j. IsWindowOf u taken (read ++ more) j window) (sym told.2) by
window_told u aside taken read more t (verdicts.Illegal first s_id) judged window all is told by =
    subst (λ j. IsWindowOf u taken (read ++ more) j window) (sym told.2) (window_there u taken told.0 read more t first s_id window all is.0.first told.1 by)

pub is_judgement : (u : View) (most taken number : ℕ) (read more : List (List ℕ)) (t : Told) (verdict : Verdict) (judged : Judged) (aside told : List Undecided) (window : Window) → ReadAll taken number read t → length t.numbers ≡ length t.lines → (verdict ≡ verdicts.Legal → more ≡ [])
    → IsSaid u most t.lines aside verdict → IsTold u t verdict judged → told ≡ aside_told taken t.numbers aside → IsWindowBy u t verdict window → IsJudgement u most taken (read ++ more) judged told window
is_judgement u most taken number read more t verdict judged aside told window all count last is by same shown =
    let numbered = aside_told taken t.numbers aside in
    let on = same_verdict u aside numbered t.lines verdict (sym (ids_told taken t.numbers aside)) is.verdict_is in
    subst (λ xs. IsJudgement u most taken (read ++ more) judged xs window) (sym same) (record {
      judged_is = is_judged u numbered taken read more t verdict judged all.told last on by;
      aside_are = aside_there u most taken read more t aside all.told count is.aside_are;
      window_is = window_told u numbered taken read more t verdict judged window all.told on by shown;
    })
