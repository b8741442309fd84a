-- What the judge keeps, after one line more.
use Rattle.std.specs.Prelude.{IfSome}
use Rattle.std.proofs.Common.{◌≡◌, ℕ, suc, ◌+◌, ◌-◌, ◌^◌, ◌<◌, ◌≤◌, ◌∙◌, ◌==◌, sym, ap, subst, Bool, true, false, cond, eqb, List, [], ◌∷◌, ◌++◌, length, take, slice_get, refl, arith, Option, Some, None, nat_eq, eq-eqb, ne_eqb, inl, inr}
use Rattle.std.proofs.lemmas.List.{length-append}
use Rattle.std.proofs.lemmas.Option.{none-some, same_Some}
use Rattle.indexmap.specs.IndexMap.{get}
use Rattle.tatp_tables.specs.Database.{Database, of_subscriber}
use Rattle.tatp_numbers.specs.Listing.{Listing}
use Rattle.tatp_history.specs.declared.line.Line.{Line}
use Rattle.tatp_history.specs.declared.line.Line.TheVariants.{Ask, End, Abort, Lost}
use Rattle.tatp_history.specs.HistoryLines.{client_of, end_at, calls_of, AreAcceptedLines}
use Rattle.tatp_history.specs.Events.{TimesRise}
use Rattle.tatp_history.specs.Histories.{IsStrictlySerializable}
use Rattle.tatp_history.specs.Locality.{calls_on, FailsWithout, FailWithout}
use Rattle.tatp_history.specs.SubscriberEvents.{OpenCalls, no_calls, opened_by, opened_after}
use Rattle.tatp_history.proofs.SubscriberEventLaws.{same_or_not}
use Rattle.tatp_judge.specs.declared.asked.Asked.{Asked}
use Rattle.tatp_judge.specs.declared.aside.Undecided.{Undecided}
use Rattle.tatp_judge.specs.declared.judge.Judge.{Judge}
use Rattle.tatp_judge.specs.declared.judge.Verdict.{Verdict}
use Rattle.tatp_judge.specs.declared.judge.Verdict.TheVariants.{Legal, Illegal}
use Rattle.tatp_judge.specs.declared.window.Window.{Window}
use Rattle.tatp_judge.specs.Accepted.{IsAcceptedLine}
use Rattle.tatp_judge.specs.Asked.{AskedCalls, none_asked, with_asked, asked_call, asked_by, asked_after, asked_in_all, asked_on}
use Rattle.tatp_judge.specs.Followed.{HasNoted, HasFollowed, EndsAs}
use Rattle.tatp_judge.specs.NextLine.{asks_of}
use Rattle.tatp_judge.specs.Population.{IsDirectoryOf}
use Rattle.tatp_judge.specs.Steps.{AreEach, AsksCall, EndsCall, IsNotedBy, NotesLine, also_asked}
use Rattle.tatp_judge.specs.Verdicts.{IsLegalBut, IsSaid, IsUnexplained}
use Rattle.tatp_judge.proofs.AsideLaws.{kept_counted, kept_few, kept_open, still_aside, undecided_stay}
use Rattle.tatp_judge.proofs.ClosingLaws.{rise_both}
use Rattle.tatp_judge.proofs.FollowedLaws.{noting_exact, still_exact}
use Rattle.tatp_judge.proofs.NoneLaws.{MayEnd, asked_next, still_fail, fails_itself}
use Rattle.tatp_judge.proofs.NumberLaws.{front}
use Rattle.tatp_judge.proofs.SearchLaws.{named_within}
use Rattle.tatp_judge.proofs.StepLaws.{both_noted}
use Rattle.tatp_judge.proofs.WindowLaws.{counted_then, window_next, some_waits}
use Rattle.tatp_judge.proofs.WritingLaws.{later_rise}

-- ---- open calls
turned : (a b : ℕ) → eqb a b ≡ eqb b a
turned a b = elim (same_or_not a b) [
  | inl e ↦ eq-eqb a b e ∙ sym (eq-eqb b a (sym e))
  | inr n ↦ ne_eqb a b n ∙ sym (ne_eqb b a (λ e. n (sym e)))
]

on_cond : (s : ℕ) (b : Bool) (one other : Option Asked) → cond b (asked_on s one) (asked_on s other) ≡ asked_on s (cond b one other)
on_cond s true one other = refl
on_cond s false one other = refl

module _ (u : Database) where
  opened_on : (s number : ℕ) (asked : AskedCalls) (line : Line) → opened_by u s number (λ c. asked_on s (asked c)) line ≡ (λ c. asked_on s (asked_by u number asked line c))
  opened_on s number asked (Ask client call) = λ i c. on_cond s (c == client) (Some (asked_call u number call)) (asked c) i
  opened_on s number asked (End client recorded) = λ i c. on_cond s (c == client) None (asked c) i
  opened_on s number asked (Abort client) = λ i c. on_cond s (c == client) None (asked c) i
  opened_on s number asked (Lost client) = λ i c. on_cond s (c == client) None (asked c) i

  opened_all : (s : ℕ) (lines : List Line) (number : ℕ) (asked : AskedCalls) → opened_after u s number (λ c. asked_on s (asked c)) lines ≡ (λ c. asked_on s (asked_after u number asked lines c))
  opened_all s [] number asked = refl
  opened_all s (line ∷ more) number asked =
      ap (λ (o : OpenCalls). opened_after u s (suc number) o more) (opened_on s number asked line) ∙ opened_all s more (suc number) (asked_by u number asked line)

  -- the calls open on a subscriber are those of all that are on it
  pub opened_is : (s : ℕ) (lines : List Line) (client : ℕ) → opened_after u s 1 no_calls lines client ≡ asked_on s (asked_in_all u lines client)
  opened_is s lines client = ap (λ (o : OpenCalls). o client) (opened_all s lines 1 none_asked)

  -- each is on a subscriber that there is, or on none
  AreWithin : ℕ → AskedCalls → Type 0
  AreWithin n asked = (client : ℕ) (one : Asked) (s : ℕ) → asked client ≡ Some one → one.s_id ≡ Some s → (1 ≤ s) × (s ≤ n)

  with_within : (n : ℕ) (asked : AskedCalls) (client : ℕ) (one : Option Asked) → AreWithin n asked → ((a : Asked) (s : ℕ) → one ≡ Some a → a.s_id ≡ Some s → (1 ≤ s) × (s ≤ n)) → AreWithin n (with_asked asked client one)
  unfolding AreWithin
  with_within n asked client one within own other a s h e = elim (other == client) as (λ b. cond b one (asked other) ≡ Some a → (1 ≤ s) × (s ≤ n)) [
    | true ↦ λ k. own a s k e
    | false ↦ λ k. within other a s k e
  ] h

  by_within : (n number : ℕ) (directory : Listing) (asked : AskedCalls) (line : Line) → IsDirectoryOf u n directory → AreWithin n asked → AreWithin n (asked_by u number asked line)
  by_within n number directory asked (Ask client call) d within = with_within n asked client (Some (asked_call u number call)) within
      (λ a s h e. named_within u n directory call s d (ap (λ (x : Asked). x.s_id) (same_Some (asked_call u number call) a h) ∙ e))
  by_within n number directory asked (End client recorded) d within = with_within n asked client None within (λ a s h e. absurd (none-some a h))
  by_within n number directory asked (Abort client) d within = with_within n asked client None within (λ a s h e. absurd (none-some a h))
  by_within n number directory asked (Lost client) d within = with_within n asked client None within (λ a s h e. absurd (none-some a h))

  after_within : (n : ℕ) (directory : Listing) (lines : List Line) (number : ℕ) (asked : AskedCalls) → IsDirectoryOf u n directory → AreWithin n asked → AreWithin n (asked_after u number asked lines)
  after_within n directory [] number asked d within = within
  after_within n directory (line ∷ more) number asked d within = after_within n directory more (suc number) (asked_by u number asked line) d (by_within n number directory asked line d within)

  pub asked_within : (n : ℕ) (directory : Listing) (lines : List Line) (client : ℕ) (one : Asked) (s : ℕ) → IsDirectoryOf u n directory → asked_in_all u lines client ≡ Some one → one.s_id ≡ Some s → (1 ≤ s) × (s ≤ n)
  unfolding AreWithin
  asked_within n directory lines client one s d = after_within n directory lines 1 none_asked d (λ c a s h e. absurd (none-some a h)) client one s

  -- ---- one line more
  asked_both : (number : ℕ) (asked : AskedCalls) (line : Line) (c : ℕ) → also_asked u number (with_asked asked (client_of line) None) line c ≡ asked_by u number asked line c
  asked_both number asked (Ask client call) c = elim (c == client) as (λ b. cond b (Some (asked_call u number call)) (cond b None (asked c)) ≡ cond b (Some (asked_call u number call)) (asked c)) [ true ↦ refl | false ↦ refl ]
  asked_both number asked (End client recorded) c = refl
  asked_both number asked (Abort client) c = refl
  asked_both number asked (Lost client) c = refl

  accepted_next : (lines : List Line) (line : Line) → AreAcceptedLines lines → IsAcceptedLine line → AreAcceptedLines (lines ++ line ∷ [])
  accepted_next [] (Ask client call) h k = (k, tt)
  accepted_next [] (End client recorded) h k = tt
  accepted_next [] (Abort client) h k = tt
  accepted_next [] (Lost client) h k = tt
  accepted_next (Ask client call ∷ more) line h k = (h.0, accepted_next more line h.1 k)
  accepted_next (End client recorded ∷ more) line h k = accepted_next more line h k
  accepted_next (Abort client ∷ more) line h k = accepted_next more line h k
  accepted_next (Lost client ∷ more) line h k = accepted_next more line h k

  -- a call ends, and then one may be asked
  pub then_noted : (ended : Option Asked) (number : ℕ) (line : Line) (old mid new : Judge) → mid.directory ≡ old.directory → mid.asked ≡ old.asked → mid.undecided.items ≡ old.undecided.items → new.directory ≡ mid.directory → new.undecided.items ≡ mid.undecided.items
      → ((other : ℕ) → get nat_eq new.asked other ≡ also_asked u number (get nat_eq mid.asked) line other) → AreEach (λ place. EndsCall (asked_on (suc place) ended) number line) old.windows.items mid.windows.items
      → AreEach (λ place. AsksCall (asks_of u (suc place) number line)) mid.windows.items new.windows.items → IsNotedBy u ended number line old new
  then_noted ended number line old mid new mid_directory mid_asked mid_undecided directory undecided asked ends asks = record {
    directory_is = directory ∙ mid_directory;
    undecided_is = undecided ∙ mid_undecided;
    asked_are = λ client. asked client ∙ ap (λ m. also_asked u number (get nat_eq m) line client) mid_asked;
    windows_are = both_noted u ended number line old.windows.items mid.windows.items new.windows.items ends asks;
  }

  pub one_longer : (lines : List Line) (line : Line) → length (lines ++ line ∷ []) ≡ suc (length lines)
  one_longer lines line = length-append lines (line ∷ []) ∙ omega arith

  pub has_noted : (most : ℕ) (lines : List Line) (line : Line) (number : ℕ) (ended : Option Asked) (old mid new after : Judge) → HasFollowed u most lines old → IsAcceptedLine line → length lines + 2 < 2 ^ 64 → number ≡ old.number + 1
      → ended ≡ get nat_eq old.asked (client_of line) → ((c : ℕ) → get nat_eq mid.asked c ≡ cond (eqb (client_of line) c) None (get nat_eq old.asked c)) → mid.directory ≡ old.directory → mid.windows.items ≡ old.windows.items → mid.undecided.items ≡ old.undecided.items → after.exact ≡ old.exact
      → IsNotedBy u ended number line mid new → after.undecided.items ≡ new.undecided.items → after.directory ≡ new.directory → after.windows.items ≡ new.windows.items → ((c : ℕ) → get nat_eq after.asked c ≡ get nat_eq new.asked c) → after.number ≡ number → HasNoted u most (lines ++ line ∷ []) after
  has_noted most lines line number ended old mid new after is accepted room next ended_is removed mid_directory mid_windows mid_undecided exact noted after_undecided after_directory after_windows after_asked after_number =
      let read = is.noted.read in
      let now : number ≡ suc (length lines) = omega (arith, next, read.number_is) in
      let client = client_of line in
      let was : ended ≡ asked_in_all u lines client = ended_is ∙ is.noted.asked_are client in
      let count : length after.windows.items ≡ length old.windows.items = ap length after_windows ∙ (noted.windows_are.count ∙ ap length mid_windows) in
      let mid_asked : (λ (c : ℕ). get nat_eq mid.asked c) ≡ with_asked (asked_in_all u lines) client None
      = λ i c. (removed c ∙ (ap (λ b. cond b None (get nat_eq old.asked c)) (turned client c) ∙ ap (λ o. cond (c == client) None o) (is.noted.asked_are c))) i in
      record {
        read = record {
          consistent = read.consistent;
          directory_is = subst (λ n. IsDirectoryOf u n after.directory) (sym count) (subst (λ (d : Listing). IsDirectoryOf u (length old.windows.items) d) (sym (after_directory ∙ (noted.directory_is ∙ mid_directory))) read.directory_is);
          number_is = after_number ∙ (now ∙ sym (one_longer lines line));
          accepted = accepted_next lines line read.accepted accepted;
          room = let long = one_longer lines line in omega (arith, long, room);
          exact_are = still_exact (λ place w next. NotesLine (asked_on (suc place) ended) (asks_of u (suc place) number line) number line w next) old after exact
              (record {
                count = count;
                each = λ place w h.
                    let found = noted.windows_are.each place w (ap (λ ws. slice_get ws place) (sym after_windows) ∙ h) in
                    (found.0, ap (λ ws. slice_get ws place) (sym mid_windows) ∙ found.1, found.2);
              })
              (λ place. noting_exact (asked_on (suc place) ended) (asks_of u (suc place) number line) number line) read.exact_are;
        };
        asked_are = λ c. after_asked c ∙ (noted.asked_are c
            ∙ (ap (λ (a : AskedCalls). also_asked u number a line c) mid_asked
            ∙ (asked_both number (asked_in_all u lines) line c
            ∙ (ap (λ k. asked_by u k (asked_in_all u lines) line c) now ∙ ap (λ (a : AskedCalls). a c) (sym (asked_next u lines line 1 (suc (length lines)) none_asked (omega arith)))))));
        windows_are = λ place w h.
            let found = noted.windows_are.each place w (ap (λ ws. slice_get ws place) (sym after_windows) ∙ h) in
            let at = ap (λ ws. slice_get ws place) (sym mid_windows) ∙ found.1 in
            let one : asked_on (suc place) ended ≡ opened_after u (suc place) 1 no_calls lines client = ap (asked_on (suc place)) was ∙ sym (opened_is (suc place) lines client) in
            let notes : NotesLine (opened_after u (suc place) 1 no_calls lines client) (asks_of u (suc place) (suc (length lines)) line) (suc (length lines)) line found.0 w
            = subst (λ (o : Option ℕ). NotesLine o (asks_of u (suc place) (suc (length lines)) line) (suc (length lines)) line found.0 w) one
            (subst (λ k. NotesLine (asked_on (suc place) ended) (asks_of u (suc place) k line) k line found.0 w) now found.2) in
            elim (is.noted.windows_are place found.0 at) [
              | inl k ↦ inl (
                notes.aside_is ∙ k.0,
                window_next u most (suc place) lines line found.0 w accepted (notes.kept k.0) (λ none. (is.forgets place found.0 at (λ e. none-some (suc place) e) k.0 none).numbers) k.1,
              )
              | inr c ↦ inr (counted_then u (suc place) lines line found.0 w notes.aside_is notes.waits_are c)
            ];
        aside = still_aside u most lines (lines ++ line ∷ []) old after (λ place w next. NotesLine (asked_on (suc place) ended) (asks_of u (suc place) number line) number line w next)
            is.noted.aside (after_undecided ∙ (noted.undecided_is ∙ mid_undecided))
            (record {
              count = count;
              each = λ place w h.
                  let found = noted.windows_are.each place w (ap (λ ws. slice_get ws place) (sym after_windows) ∙ h) in
                  (found.0, ap (λ ws. slice_get ws place) (sym mid_windows) ∙ found.1, found.2);
            })
            (λ place w next notes. notes.aside_is) (undecided_stay u most lines (line ∷ []) old.undecided.items is.noted.aside.undecided);
      }

  -- the windows before the line: a call that ends is counted, and there is room for one more
  pub waits_there : (most : ℕ) (lines : List Line) (judge : Judge) (client : ℕ) (ended : Option Asked) → HasNoted u most lines judge → ended ≡ get nat_eq judge.asked client
      → (place : ℕ) (w : Window) (asked : ℕ) → asked_on (suc place) ended ≡ Some asked → slice_get judge.windows.items place ≡ Some w → 0 < w.waiting
  waits_there most lines judge client ended is ended_is place w asked h at =
      some_waits (opened_after u (suc place) 1 no_calls lines) w.waiting client asked (kept_counted u most (suc place) lines w (is.windows_are place w at))
      (opened_is (suc place) lines client ∙ (ap (asked_on (suc place)) (sym (ended_is ∙ is.asked_are client)) ∙ h))

  -- ---- how it ends
  front_is : (lines : List Line) (line : Line) (k : ℕ) → k ≡ length lines → take k (lines ++ line ∷ []) ≡ lines
  front_is lines line k e = ap (λ n. take n (lines ++ line ∷ [])) e ∙ first_all lines
    where
      first_all : (ls : List Line) → take (length ls) (ls ++ line ∷ []) ≡ ls
      first_all [] = refl
      first_all (first ∷ more) = ap (λ xs. first ∷ xs) (first_all more)

  pub ends_as : (lines : List Line) (line : Line) (number : ℕ) (asked : Asked) → FailWithout u (calls_of lines) → number ≡ suc (length lines) → asked_in_all u lines (client_of line) ≡ Some asked → EndsAs u (lines ++ line ∷ []) asked (end_at number line)
  ends_as lines line number asked none now is =
      let longer = one_longer lines line in
      let ends : end_at (suc (length lines)) line ≡ end_at number line = ap (λ k. end_at k line) (sym now) in
      record {
        some = omega (arith, longer);
        before = subst (λ ls. FailWithout u (calls_of ls)) (sym (front_is lines line (length (lines ++ line ∷ []) - 1) (omega (arith, longer)))) none;
        now = (
          λ may. still_fail u lines line none (subst (λ (o : Option Asked). MayEnd u o (end_at (suc (length lines)) line)) (sym is) (subst (FailsWithout asked.s_id) (sym ends) may)),
          λ fail. subst (FailsWithout asked.s_id) ends (subst (λ (o : Option Asked). MayEnd u o (end_at (suc (length lines)) line)) is (fails_itself u lines line fail)),
        );
      }

  pub none_ended : (lines : List Line) (line : Line) → FailWithout u (calls_of lines) → asked_in_all u lines (client_of line) ≡ None → FailWithout u (calls_of (lines ++ line ∷ []))
  none_ended lines line none is = still_fail u lines line none (subst (λ (o : Option Asked). MayEnd u o (end_at (suc (length lines)) line)) (sym is) tt)

-- ---- verdicts on longer histories
unexplained_stays : (u : Database) (lines more : List Line) (n : ℕ) (s_id : Option ℕ) → n ≤ length lines → IsUnexplained u lines n s_id → IsUnexplained u (lines ++ more) n s_id
unexplained_stays u lines more n None within h = λ fail. h (subst (λ ls. FailWithout u (calls_of ls)) (front n lines more within) fail)
unexplained_stays u lines more n (Some s) within h = λ explained. h (subst (λ ls. IsStrictlySerializable (of_subscriber u s) (calls_on u s (calls_of ls))) (front n lines more within) explained)

pub said_stays : (u : Database) (most : ℕ) (lines more : List Line) (aside : List Undecided) (verdict : Verdict) → (verdict ≡ Legal → ⊥) → IsSaid u most lines aside verdict → IsSaid u most (lines ++ more) aside verdict
said_stays u most lines more aside Legal never h = absurd (never refl)
said_stays u most lines more aside (Illegal n s_id) never h =
    let all : length lines ≤ length (lines ++ more) = let sum = length-append lines more in omega (arith, sum) in
    let is = h.verdict_is in
    record {
      aside_are = undecided_stay u most lines more aside h.aside_are;
      verdict_is = (
        record {
          first = is.0.first;
          within = omega (arith, is.0.within, all);
          illegal = λ legal. is.0.illegal (subst (IsLegalBut u aside) (front n lines more is.0.within) legal);
          before = subst (IsLegalBut u aside) (sym (front (n - 1) lines more (omega (arith, is.0.within)))) is.0.before;
        },
        unexplained_stays u lines more n s_id is.0.within is.1,
        is.2,
      );
    }

-- ---- all of a line
module _ (u : Database) (most : ℕ) (lines : List Line) (line : Line) (ended : Option Asked) (old : Judge) (is : HasFollowed u most lines old) (ended_is : ended ≡ get nat_eq old.asked (client_of line)) where
  pub ended_was : ended ≡ asked_in_all u lines (client_of line)
  ended_was = ended_is ∙ is.noted.asked_are (client_of line)

  pub ends_within : IfSome ended (λ asked. IfSome asked.s_id (λ s. (1 ≤ s) × (s ≤ length old.windows.items)))
  ends_within = cases ended ended_was
    where
      named : (asked : Asked) (o : Option ℕ) → asked.s_id ≡ o → asked_in_all u lines (client_of line) ≡ Some asked → IfSome o (λ s. (1 ≤ s) × (s ≤ length old.windows.items))
      named asked None e k = tt
      named asked (Some s) e k = asked_within u (length old.windows.items) old.directory lines (client_of line) asked s is.noted.read.directory_is k e

      cases : (o : Option Asked) → o ≡ asked_in_all u lines (client_of line) → IfSome o (λ asked. IfSome asked.s_id (λ s. (1 ≤ s) × (s ≤ length old.windows.items)))
      cases None e = tt
      cases (Some asked) e = named asked asked.s_id refl (sym e)

  pub rise_there : (place : ℕ) (w : Window) → slice_get old.windows.items place ≡ Some w → w.aside ≡ false → TimesRise w.events.items
  rise_there place w at unmarked = let window = kept_open u most (suc place) lines w (is.noted.windows_are place w at) unmarked in later_rise window.before w.events.items (rise_both u most (suc place) lines w window)

  pub room_there : (place : ℕ) (w : Window) → slice_get old.windows.items place ≡ Some w → w.waiting + 1 < 2 ^ 64
  room_there place w at = let few = kept_few u most (suc place) lines w (is.noted.windows_are place w at) in let room = is.noted.read.room in omega (arith, few, room)
