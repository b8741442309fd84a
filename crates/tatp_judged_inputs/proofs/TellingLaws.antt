-- The lines that are told, by their numbers in the input.
use Rattle.std.proofs.Common.{◌≡◌, ℕ, ◌+◌, ◌-◌, ◌<◌, ◌≤◌, ◌∙◌, suc, sym, ap, subst, get_or, Option, Some, List, [], ◌∷◌, ◌++◌, length, take, get_or-take, slice_index, refl, arith, append_assoc, codes}
use Rattle.std.specs.List.{All}
use Rattle.std.specs.Option.{IfSome}
use Rattle.std.proofs.lemmas.List.{append-nil, take_all, take_more}
use Rattle.tatp_history.specs.declared.line.Line.{Line}
use Rattle.tatp_calls.specs.declared.ask.Ask.{Ask}
use Rattle.tatp_calls.specs.declared.ask.Ask.TheVariants.{Txn}
use Rattle.tatp_calls.specs.declared.reply.Reply.{Reply}
use Rattle.tatp_judge.specs.declared.legal.LegalReplies.{LegalReplies}
use Rattle.tatp_judge.specs.declared.aside.Undecided.{Undecided}
use Rattle.tatp_judge.specs.declared.judge.Judge.{Judge}
use Rattle.tatp_judge.specs.declared.judge.Verdict.{Verdict}
use Rattle.tatp_judge.specs.declared.judge.Verdict.TheVariants.{Illegal}
use Rattle.tatp_judge.specs.Aside.{undecided_in}
use Rattle.tatp_judge.specs.Verdicts.{IsOther}
use Rattle.tatp_judged_inputs.proofs.ViewLaws.{seen_length}
use Rattle.tatp_judged_inputs.specs.Views.{AreNumbersTold, AreRepliesTold, HasKept, IsSaid, IsUnexplained, IsVerdictOn, View}
use Rattle.tatp_judged_inputs.specs.declared.judging.Window.{Window}
use Rattle.tatp_judged_inputs.specs.declared.reading.Reading.{Reading}
use Rattle.tatp_judged_inputs.specs.Reading.{IsKeptFor, told_of}
use Rattle.tatp_judged_inputs.specs.Judged.{first_told, in_input, IsWindowTold}
use Rattle.tatp_judged_inputs.specs.Judging.{could_line, could_lines, legal_lines, more_line, number_line, subscriber_line, undecided_lines, window_lines}

-- ---- numbers
input_both : (numbers xs ys : List ℕ) → in_input numbers (xs ++ ys) ≡ in_input numbers xs ++ in_input numbers ys
input_both numbers [] ys = refl
input_both numbers (x ∷ xs) ys = ap (λ zs. slice_index numbers (x - 1) ∷ zs) (input_both numbers xs ys)

pub one_told : (numbers lines told : List ℕ) (i number : ℕ) → told ≡ in_input numbers (take i lines) → i < length lines → number ≡ slice_index numbers (slice_index lines i - 1)
    → told ++ number ∷ [] ≡ in_input numbers (take (i + 1) lines)
one_told numbers lines told i number so lt is =
    let line = slice_index lines i in
    let last : number ≡ slice_index numbers (line - 1) = is in
    (λ j. so j ++ last j ∷ [])
    ∙ (sym (input_both numbers (take i lines) (line ∷ [])) ∙ ap (in_input numbers) (sym (take_more lines i 0 lt)))

-- only the first numbers are looked at
in_front : (n : ℕ) (numbers lines : List ℕ) → All (λ k. (1 ≤ k) × (k ≤ n)) lines → in_input (take n numbers) lines ≡ in_input numbers lines
in_front n numbers [] h = refl
in_front n numbers (line ∷ more) h =
    let bounds : (1 ≤ line) × (line ≤ n) = h 0 line (omega arith) in
    let same : slice_index (take n numbers) (line - 1) ≡ slice_index numbers (line - 1) = get_or-take n numbers (line - 1) 0 (omega (arith, bounds.0, bounds.1)) in
    (λ j. same j ∷ in_front n numbers more (λ k d lt. h (suc k) d (omega (arith, lt))) j)

pub all_wider : (n m : ℕ) (lines : List ℕ) → n ≤ m → All (λ k. (1 ≤ k) × (k ≤ n)) lines → All (λ k. (1 ≤ k) × (k ≤ m)) lines
all_wider n m lines le h k d lt = let bounds = h k d lt in (bounds.0, omega (arith, bounds.1, le))

-- ---- a verdict that names a subscriber
pub kept_there : (u : View) (most : ℕ) (past : List Line) (verdict : Verdict) (judge : Judge) (line : ℕ) (named : Option ℕ) (s : ℕ) → verdict ≡ Illegal line named → named ≡ Some s → IsSaid u most past (undecided_in judge) verdict → IsKeptFor u past verdict judge
    → HasKept u past judge × (line ≤ length past) × IsUnexplained u past line (Some s) × IsOther (undecided_in judge) (Some s)
kept_there u most past verdict judge line named s e f on kept =
    let is : verdict ≡ Illegal line (Some s) = e ∙ ap (λ o. Illegal line o) f in
    let here = subst (IsVerdictOn u (undecided_in judge) past) is on.verdict_is in
    let counted = seen_length u past in
    (kept line (Some s) is, omega (arith, here.0.within, counted), here.1, here.2)

pub told_window : (u : View) (past : List Line) (r : Reading) (s line : ℕ) (lines : List ℕ) (window : Window) → AreNumbersTold u s (take line past) lines
    → IfSome window.legal (λ legal. AreRepliesTold u s (take line past) legal.call legal.replies.items)
    → All (λ n. (1 ≤ n) × (n ≤ line)) lines → window.lines.items ≡ in_input r.numbers.items lines → IsWindowTold u s (first_told line (told_of r past)) window
told_window u past r s line lines window are legal within is = record {
  lines = lines;
  numbers = are;
  lines_are = is ∙ sym (in_front line r.numbers.items lines within);
  legal = legal;
}

-- ---- lines
lines_both : (xs ys : List ℕ) → window_lines (xs ++ ys) ≡ window_lines xs ++ window_lines ys
lines_both [] ys = refl
lines_both (x ∷ xs) ys = ap (λ text. number_line (codes "LINE ") x ++ text) (lines_both xs ys) ∙ sym (append_assoc (number_line (codes "LINE ") x) (window_lines xs) (window_lines ys))

pub one_line : (window : List ℕ) (i : ℕ) (old now longer : List ℕ) → now ≡ old ++ window_lines (take i window) → i < length window → longer ≡ now ++ number_line (codes "LINE ") (slice_index window i) → longer ≡ old ++ window_lines (take (i + 1) window)
one_line window i old now longer so lt is =
    let line = number_line (codes "LINE ") (slice_index window i) in
    is ∙ (ap (λ text. text ++ line) so ∙ (append_assoc old (window_lines (take i window)) line
    ∙ ap (λ text. old ++ text) (ap (λ text. window_lines (take i window) ++ text) (sym (append-nil line))
    ∙ (sym (lines_both (take i window) (slice_index window i ∷ [])) ∙ ap window_lines (sym (take_more window i 0 lt))))))

-- a text appended to one that was appended
pub both_told : (old now longer first second : List ℕ) → now ≡ old ++ first → longer ≡ now ++ second → longer ≡ old ++ (first ++ second)
both_told old now longer first second so is = is ∙ (ap (λ text. text ++ second) so ∙ append_assoc old first second)

-- ---- replies
could_both : (ask : Ask) (xs ys : List Reply) → could_lines ask (xs ++ ys) ≡ could_lines ask xs ++ could_lines ask ys
could_both ask [] ys = refl
could_both ask (x ∷ xs) ys = ap (λ text. could_line ask x ++ text) (could_both ask xs ys) ∙ sym (append_assoc (could_line ask x) (could_lines ask xs) (could_lines ask ys))

pub one_reply : (ask : Ask) (replies : List Reply) (i : ℕ) (reply : Reply) (old now longer : List ℕ) → now ≡ old ++ could_lines ask (take i replies) → i < length replies → reply ≡ get_or replies i reply → longer ≡ now ++ could_line ask reply
    → longer ≡ old ++ could_lines ask (take (i + 1) replies)
one_reply ask replies i reply old now longer so lt at is =
    let line = could_line ask reply in
    is ∙ (ap (λ text. text ++ line) so ∙ (append_assoc old (could_lines ask (take i replies)) line
    ∙ ap (λ text. old ++ text) (ap (λ text. could_lines ask (take i replies) ++ text) (sym (append-nil line))
    ∙ (sym (could_both ask (take i replies) (reply ∷ []))
    ∙ ap (could_lines ask) (ap (λ r. take i replies ++ r ∷ []) at ∙ sym (take_more replies i reply lt))))))

pub few_told : (legal : LegalReplies) → length legal.replies.items ≤ 8 → could_lines (Txn legal.call) legal.replies.items ≡ legal_lines (Some legal)
few_told legal few =
    let none : length legal.replies.items - 8 ≡ 0 = omega (arith, few) in
    ap (could_lines (Txn legal.call)) (sym (take_all 8 legal.replies.items few))
    ∙ (sym (append-nil (could_lines (Txn legal.call) (take 8 legal.replies.items)))
    ∙ ap (λ n. could_lines (Txn legal.call) (take 8 legal.replies.items) ++ more_line n) (sym none))

-- ---- subscribers that are set aside
abbrev pub one_aside : Undecided → List ℕ
one_aside one = number_line (codes "UNDECIDED ") one.line ++ subscriber_line (Some one.s_id)

aside_both : (xs ys : List Undecided) → undecided_lines (xs ++ ys) ≡ undecided_lines xs ++ undecided_lines ys
aside_both [] ys = refl
aside_both (x ∷ xs) ys =
    let number = number_line (codes "UNDECIDED ") x.line in
    let named = subscriber_line (Some x.s_id) in
    ap (λ text. number ++ (named ++ text)) (aside_both xs ys)
    ∙ (ap (λ text. number ++ text) (sym (append_assoc named (undecided_lines xs) (undecided_lines ys))) ∙ sym (append_assoc number (named ++ undecided_lines xs) (undecided_lines ys)))

pub one_undecided : (aside : List Undecided) (i : ℕ) (other : Undecided) (old now longer : List ℕ) → now ≡ old ++ undecided_lines (take i aside) → i < length aside → longer ≡ now ++ one_aside (get_or aside i other) → longer ≡ old ++ undecided_lines (take (i + 1) aside)
one_undecided aside i other old now longer so lt is =
    let one = get_or aside i other in
    let number = number_line (codes "UNDECIDED ") one.line in
    let named = subscriber_line (Some one.s_id) in
    is ∙ (ap (λ text. text ++ one_aside one) so ∙ (append_assoc old (undecided_lines (take i aside)) (one_aside one)
    ∙ ap (λ text. old ++ text) (ap (λ text. undecided_lines (take i aside) ++ (number ++ text)) (sym (append-nil named))
    ∙ (sym (aside_both (take i aside) (one ∷ []))
    ∙ ap undecided_lines (sym (take_more aside i other lt))))))
