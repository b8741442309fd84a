-- The first illegal line, by what is said of each window.
use Rattle.std.proofs.Common.{◌≡◌, ℕ, zero, suc, ◌+◌, ◌-◌, ◌<◌, ◌≤◌, ◌⊎◌, ◌∙◌, sym, ap, subst, Bool, true, false, cond, List, [], ◌∷◌, ◌++◌, length, map, slice_get, take, refl, arith, Option, Some, None, ne_eqb, inl, inr}
use Rattle.std.specs.List.{range_with_len}
use Rattle.std.proofs.lemmas.Bool.{cases_lt}
use Rattle.std.proofs.lemmas.List.{take_all}
use Rattle.std.proofs.lemmas.Option.{none-some, same_Some}
use Rattle.tatp_tables.specs.Database.{Database, of_subscriber}
use Rattle.tatp_homes.specs.Home.{SubscriberRows, home_in}
use Rattle.tatp_numbers.specs.Listing.{Listing}
use Rattle.tatp_calls.specs.declared.call.Call.{Call}
use Rattle.tatp_calls.specs.Calls.{key_of_call}
use Rattle.tatp_history.specs.declared.line.Line.{Line}
use Rattle.tatp_history.specs.declared.line.Line.TheVariants.{Ask, End, Abort, Lost}
use Rattle.tatp_history.specs.declared.observed.Observed.{Observed}
use Rattle.tatp_history.specs.Histories.{IsStrictlySerializable}
use Rattle.tatp_history.specs.HistoryLines.{calls_of, AreAcceptedLines}
use Rattle.tatp_history.specs.Locality.{subscriber_of, is_this, is_on, calls_on, FailWithout}
use Rattle.tatp_history.proofs.LineLaws.{are_calls}
use Rattle.tatp_history.proofs.LocalityLaws.{combined, parted}
use Rattle.tatp_history.proofs.SubscriberEventLaws.{same_or_not}
use Rattle.tatp_linearization.specs.declared.first.First.TheVariants.{Never, At}
use Rattle.tatp_judge.specs.declared.judge.Judge.{Judge}
use Rattle.tatp_judge.specs.Followed.{HasRead, IsSearchable}
use Rattle.tatp_judge.specs.Population.{IsDirectoryOf}
use Rattle.tatp_judge.specs.Searched.{AreHomesOf}
use Rattle.tatp_judge.specs.declared.aside.Undecided.{Undecided}
use Rattle.tatp_judge.specs.declared.judge.Verdict.TheVariants.{Illegal}
use Rattle.tatp_judge.specs.Verdicts.{AreOthersLegal, IsAside, IsLegalBut, IsOther, IsUnexplained, IsVerdictOn}
use Rattle.tatp_judge.specs.Windows.{IsExplainedBefore, IsFirstOf}
use Rattle.tatp_judge.proofs.AsideLaws.{aside_last, aside_more, aside_one}

-- ---- homes
home_from : (u : Database) (n first p : ℕ) (home : SubscriberRows) → slice_get (map (home_in u) (range_with_len first n)) p ≡ Some home → home ≡ home_in u (first + p)
home_from u zero first p home h = absurd (none-some home h)
home_from u (suc n) first zero home h = sym (same_Some (home_in u first) home h) ∙ ap (home_in u) (omega arith)
home_from u (suc n) first (suc p) home h = home_from u n (first + 1) p home h ∙ ap (home_in u) (omega arith)

pub home_at : (u : Database) (homes : List SubscriberRows) (p : ℕ) (home : SubscriberRows) → AreHomesOf u homes → slice_get homes p ≡ Some home → home.tables ≡ of_subscriber u (suc p)
home_at u homes p home are h =
    let is = home_from u (length homes) 1 p home (ap (λ hs. slice_get hs p) (sym are) ∙ h) in
    ap (λ (h : SubscriberRows). h.tables) is ∙ ap (of_subscriber u) (omega arith)

pub home_own : (u : Database) (homes : List SubscriberRows) (p : ℕ) (home : SubscriberRows) → AreHomesOf u homes → slice_get homes p ≡ Some home → home.s_id ≡ suc p
home_own u homes p home are h = ap (λ (h : SubscriberRows). h.s_id) (home_from u (length homes) 1 p home (ap (λ hs. slice_get hs p) (sym are) ∙ h)) ∙ omega arith

-- ---- subscribers that aren't there
pub named_within : (u : Database) (n : ℕ) (directory : Listing) (call : Call) (s : ℕ) → IsDirectoryOf u n directory → subscriber_of u call ≡ Some s → (1 ≤ s) × (s ≤ n)
named_within u n directory call s d h = d.named (key_of_call call) s (d.keys (key_of_call call) ∙ h)

pub not_on : (u : Database) (n : ℕ) (directory : Listing) (s : ℕ) → IsDirectoryOf u n directory → ((1 ≤ s) × (s ≤ n) → ⊥) → (call : Call) → is_on u s call ≡ false
not_on u n directory s d out call = cases (subscriber_of u call) refl
  where
    cases : (o : Option ℕ) → subscriber_of u call ≡ o → is_this s o ≡ false
    cases None e = refl
    cases (Some t) e = elim (same_or_not t s) [
      | inl same ↦ absurd (out (subst (λ k. (1 ≤ k) × (k ≤ n)) same (named_within u n directory call t d e)))
      | inr other ↦ ne_eqb t s other
    ]

pub none_on : (u : Database) (s : ℕ) → ((call : Call) → is_on u s call ≡ false) → (calls : List Observed) → calls_on u s calls ≡ []
none_on u s f [] = refl
none_on u s f (x ∷ calls) = ap (λ b. cond b (x ∷ calls_on u s calls) (calls_on u s calls)) (f x.call) ∙ none_on u s f calls

no_calls_serializable : (v : Database) → IsStrictlySerializable v []
no_calls_serializable v = ([], record { made = tt; once = tt; all = λ x h a. h; real_time = tt; replies = tt })

accepted_front : (k : ℕ) (lines : List Line) → AreAcceptedLines lines → AreAcceptedLines (take k lines)
accepted_front zero lines h = tt
accepted_front (suc k) [] h = tt
accepted_front (suc k) (Ask client call ∷ more) h = (h.0, accepted_front k more h.1)
accepted_front (suc k) (End client recorded ∷ more) h = accepted_front k more h
accepted_front (suc k) (Abort client ∷ more) h = accepted_front k more h
accepted_front (suc k) (Lost client ∷ more) h = accepted_front k more h

pub none_explained : (u : Database) (n : ℕ) (directory : Listing) (s : ℕ) (lines : List Line) → IsDirectoryOf u n directory → ((1 ≤ s) × (s ≤ n) → ⊥) → IsStrictlySerializable (of_subscriber u s) (calls_on u s (calls_of lines))
none_explained u n directory s lines d out = subst (IsStrictlySerializable (of_subscriber u s)) (sym (none_on u s (not_on u n directory s d out) (calls_of lines))) (no_calls_serializable (of_subscriber u s))

pub there_or_not : (s n : ℕ) → ((1 ≤ s) × (s ≤ n)) ⊎ ((1 ≤ s) × (s ≤ n) → ⊥)
there_or_not zero n = inr (λ h. omega (arith, h.0))
there_or_not (suc k) n = elim (cases_lt k n) [ inl lt ↦ inl (omega arith, omega (arith, lt)) | inr le ↦ inr (λ h. omega (arith, h.1, le)) ]

-- ---- all together
pub others_of : (u : Database) (lines : List Line) (judge : Judge) (aside : List Undecided) (k : ℕ) → HasRead u lines judge → IsLegalBut u aside (take k lines) → AreOthersLegal u aside (take k lines)
others_of u lines judge [] k read h =
    let all = parted u (calls_of (take k lines)) read.consistent (are_calls 1 (take k lines) (accepted_front k lines read.accepted)) h in
    record { each = λ s _. all.each s; none = all.none }
others_of u lines judge (one ∷ more) k read h = h

pub legal_but : (u : Database) (lines : List Line) (judge : Judge) (aside : List Undecided) (k : ℕ) → HasRead u lines judge → AreOthersLegal u aside (take k lines) → IsLegalBut u aside (take k lines)
legal_but u lines judge [] k read h =
    combined u (calls_of (take k lines)) read.consistent (are_calls 1 (take k lines) (accepted_front k lines read.accepted))
    (record { each = λ s. h.each s (λ none. none); none = h.none })
legal_but u lines judge (one ∷ more) k read h = h

-- ---- the loop over windows
-- before the least line all is explained of the subscribers up to a place, but for those set aside, and at it the calls on one aren't
pub record IsLeast (u : Database) (lines : List Line) (aside : List Undecided) (i least : ℕ) (whose : Option ℕ) : Type 0 where
  pub first : 1 ≤ least
  pub each : (place : ℕ) → place < i → (IsAside aside (suc place) → ⊥) → IsExplainedBefore u (suc place) lines least
  pub none : (k : ℕ) → k < least → k ≤ length lines → FailWithout u (calls_of (take k lines))
  pub unexplained : least ≤ length lines → IsUnexplained u lines least whose
  pub other : IsOther aside whose
  pub early : (t : ℕ) → whose ≡ Some t → t ≤ i

pub least_known : (u : Database) (most : ℕ) (lines : List Line) (illegal : Bool) (s_id : Option ℕ) (judge : Judge) (aside : List Undecided) → IsSearchable u most lines illegal s_id judge → illegal ≡ true → s_id ≡ None → IsLeast u lines aside 0 judge.number None
least_known u most lines illegal s_id judge aside is e none = subst (λ k. IsLeast u lines aside 0 k None) (sym is.read.number_is) (record {
  first = is.some e;
  each = λ place lt. absurd (omega (arith, lt));
  none = λ k lt le. is.none k le (λ _ _. lt);
  unexplained = λ le. subst (IsUnexplained u lines (length lines)) none (is.whose e);
  other = tt;
  early = λ t n. absurd (none-some t n);
})

pub least_unknown : (u : Database) (most : ℕ) (lines : List Line) (illegal : Bool) (s_id : Option ℕ) (judge : Judge) (aside : List Undecided) → IsSearchable u most lines illegal s_id judge → (illegal ≡ true → s_id ≡ None → ⊥) → IsLeast u lines aside 0 (judge.number + 1) None
least_unknown u most lines illegal s_id judge aside is not = subst (λ k. IsLeast u lines aside 0 (k + 1) None) (sym is.read.number_is) (record {
  first = omega arith;
  each = λ place lt. absurd (omega (arith, lt));
  none = λ k lt le. is.none k le (λ t n. absurd (not t n));
  unexplained = λ le. absurd (omega (arith, le));
  other = tt;
  early = λ t n. absurd (none-some t n);
})

-- another name of both
pub least_moved : {u : Database} {lines : List Line} {aside : List Undecided} {i least same : ℕ} {whose whoever : Option ℕ} → same ≡ least → whoever ≡ whose → IsLeast u lines aside i least whose → IsLeast u lines aside i same whoever
least_moved {u} {lines} {aside} {i} {least} {same} {whose} {whoever} e f h = subst (λ o. IsLeast u lines aside i same o) (sym f) (subst (λ k. IsLeast u lines aside i k whose) (sym e) h)

-- one window more
each_more : (u : Database) (lines : List Line) (aside : List Undecided) (i least : ℕ) → ((place : ℕ) → place < i → (IsAside aside (suc place) → ⊥) → IsExplainedBefore u (suc place) lines least) → ((IsAside aside (suc i) → ⊥) → IsExplainedBefore u (suc i) lines least)
    → (place : ℕ) → place < i + 1 → (IsAside aside (suc place) → ⊥) → IsExplainedBefore u (suc place) lines least
each_more u lines aside i least each one place lt other = elim (cases_lt place i) [
  | inl early ↦ each place early other
  | inr late ↦ let same : i ≡ place = omega (arith, lt, late) in subst (λ p. (IsAside aside (suc p) → ⊥) → IsExplainedBefore u (suc p) lines least) same one other
]

later_still : (whose : Option ℕ) (i : ℕ) → ((t : ℕ) → whose ≡ Some t → t ≤ i) → (t : ℕ) → whose ≡ Some t → t ≤ i + 1
later_still whose i early t e = let le = early t e in omega (arith, le)

-- which says nothing new
pub least_passed : (u : Database) (lines : List Line) (aside : List Undecided) (i least : ℕ) (whose : Option ℕ) → IsLeast u lines aside i least whose → ((IsAside aside (suc i) → ⊥) → IsExplainedBefore u (suc i) lines least) → IsLeast u lines aside (i + 1) least whose
least_passed u lines aside i least whose is one = record {
  first = is.first;
  each = each_more u lines aside i least is.each one;
  none = is.none;
  unexplained = is.unexplained;
  other = is.other;
  early = later_still whose i is.early;
}

pub least_never : (u : Database) (most : ℕ) (lines : List Line) (aside : List Undecided) (i least : ℕ) (whose : Option ℕ) → IsLeast u lines aside i least whose → IsFirstOf u most (suc i) lines Never → IsLeast u lines aside (i + 1) least whose
least_never u most lines aside i least whose is told = least_passed u lines aside i least whose is (λ _ k lt le. told k (omega (arith, le)) le)

pub least_later : (u : Database) (most : ℕ) (lines : List Line) (aside : List Undecided) (i least line : ℕ) (whose : Option ℕ) → IsLeast u lines aside i least whose → IsFirstOf u most (suc i) lines (At line) → least ≤ line → IsLeast u lines aside (i + 1) least whose
least_later u most lines aside i least line whose is told later = least_passed u lines aside i least whose is (λ _ k lt le. told.2 k (omega (arith, lt, later)) le)

pub least_sooner : (u : Database) (most : ℕ) (lines : List Line) (aside : List Undecided) (i least line : ℕ) (whose : Option ℕ) → IsLeast u lines aside i least whose → IsFirstOf u most (suc i) lines (At line) → line < least → (IsAside aside (suc i) → ⊥) → IsLeast u lines aside (i + 1) line (Some (i + 1))
least_sooner u most lines aside i least line whose is told sooner other =
    let next : suc i ≡ i + 1 = omega arith in
    record {
      first = told.0;
      each = each_more u lines aside i line (λ place lt own k early le. is.each place lt own k (omega (arith, early, sooner)) le) (λ _. told.2);
      none = λ k lt le. is.none k (omega (arith, lt, sooner)) le;
      unexplained = λ le. subst (λ s. IsUnexplained u lines line (Some s)) next told.3;
      other = λ own. other (subst (IsAside aside) (sym next) own);
      early = λ t e. let same : i + 1 ≡ t = same_Some (i + 1) t e in omega (arith, same);
    }

-- the subscriber is set aside
pub least_aside : (u : Database) (lines : List Line) (aside : List Undecided) (one : Undecided) (i least : ℕ) (whose : Option ℕ) → IsLeast u lines aside i least whose → one.s_id ≡ suc i → IsLeast u lines (aside ++ one ∷ []) (i + 1) least whose
least_aside u lines aside one i least whose is own = record {
  first = is.first;
  each = each_more u lines (aside ++ one ∷ []) i least (λ place lt other. is.each place lt (λ k. other (aside_more aside (one ∷ []) (suc place) k)))
      (λ other. absurd (other (subst (IsAside (aside ++ one ∷ [])) own (aside_last aside one))));
  none = is.none;
  unexplained = is.unexplained;
  other = still whose is.other is.early;
  early = later_still whose i is.early;
}
  where
    still : (o : Option ℕ) → IsOther aside o → ((t : ℕ) → o ≡ Some t → t ≤ i) → IsOther (aside ++ one ∷ []) o
    still None h early = tt
    still (Some t) h early = λ k. elim (aside_one aside one t k) [
      | inl was ↦ h was
      | inr same ↦ let le = early t refl in omega (arith, le, own, same)
    ]

-- all windows
others_before : (u : Database) (lines : List Line) (judge : Judge) (aside : List Undecided) (i least k : ℕ) (whose : Option ℕ) → HasRead u lines judge → IsLeast u lines aside i least whose → length judge.windows.items ≤ i → k < least → k ≤ length lines → AreOthersLegal u aside (take k lines)
others_before u lines judge aside i least k whose read is all lt le = record {
  each = λ s other. elim (there_or_not s (length judge.windows.items)) [
    | inl there ↦
        let same : suc (s - 1) ≡ s = omega (arith, there.0) in
        subst (λ t. (IsAside aside t → ⊥) → IsStrictlySerializable (of_subscriber u t) (calls_on u t (calls_of (take k lines)))) same (λ own. is.each (s - 1) (omega (arith, there.0, there.1, all)) own k lt le) other
    | inr out ↦ none_explained u (length judge.windows.items) judge.directory s (take k lines) read.directory_is out
  ];
  none = is.none k lt le;
}

-- what is unexplained isn't legal
pub not_legal : (u : Database) (lines : List Line) (aside : List Undecided) (n : ℕ) (whose : Option ℕ) → IsUnexplained u lines n whose → IsOther aside whose → AreOthersLegal u aside (take n lines) → ⊥
not_legal u lines aside n None fails other legal = fails legal.none
not_legal u lines aside n (Some s) fails other legal = fails (legal.each s other)

pub least_illegal : (u : Database) (lines : List Line) (judge : Judge) (aside : List Undecided) (i least : ℕ) (whose : Option ℕ) → HasRead u lines judge → IsLeast u lines aside i least whose → length judge.windows.items ≤ i → least ≤ judge.number → IsVerdictOn u aside lines (Illegal least whose)
least_illegal u lines judge aside i least whose read is all le =
    let within : least ≤ length lines = omega (arith, le, read.number_is) in (
      record {
        first = is.first;
        within = within;
        illegal = λ h. not_legal u lines aside least whose (is.unexplained within) is.other (others_of u lines judge aside least read h);
        before = legal_but u lines judge aside (least - 1) read (others_before u lines judge aside i least (least - 1) whose read is all (omega (arith, is.first)) (omega (arith, within)));
      },
      is.unexplained within,
      is.other,
    )

pub least_none : (u : Database) (lines : List Line) (judge : Judge) (aside : List Undecided) (i least : ℕ) (whose : Option ℕ) → HasRead u lines judge → IsLeast u lines aside i least whose → length judge.windows.items ≤ i → judge.number < least → IsLegalBut u aside lines
least_none u lines judge aside i least whose read is all lt =
    subst (IsLegalBut u aside) (take_all (length lines) lines (omega arith))
    (legal_but u lines judge aside (length lines) read (others_before u lines judge aside i least (length lines) whose read is all (omega (arith, lt, read.number_is)) (omega arith)))

pub others_now : (u : Database) (lines : List Line) (judge : Judge) (aside : List Undecided) → HasRead u lines judge → IsLegalBut u aside lines → AreOthersLegal u aside lines
others_now u lines judge aside read h =
    subst (AreOthersLegal u aside) (take_all (length lines) lines (omega arith))
    (others_of u lines judge aside (length lines) read (subst (IsLegalBut u aside) (sym (take_all (length lines) lines (omega arith))) h))
