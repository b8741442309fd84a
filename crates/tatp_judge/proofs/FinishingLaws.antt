-- Whether some order of the calls leads to rows, subscriber by subscriber.
use Rattle.std.proofs.Common.{◌≡◌, ℕ, zero, suc, ◌+◌, ◌-◌, ◌<◌, ◌≤◌, ◌⊎◌, ◌∙◌, ◌&&◌, sym, ap, subst, nat_le, true, false, List, [], ◌∷◌, ◌++◌, length, set, get_or, slice_get, take, refl, arith, Option, Some, None, Ok, cond, is_some, inl, inr}
use Rattle.std.specs.Option.{option_map}
use Rattle.std.proofs.lemmas.Bool.{cases_lt}
use Rattle.std.proofs.lemmas.List.{length-set, take_all}
use Rattle.std.proofs.lemmas.Option.{none-some}
use Rattle.tatp_tables.specs.Tuples.{Tuple, Tuples, has, set_of}
use Rattle.tatp_tables.specs.Keys.{has_key, row_at}
use Rattle.tatp_tables.specs.Clean.{count_of_key, IsClean}
use Rattle.tatp_tables.specs.Database.{Database, database_of, of_subscriber}
use Rattle.tatp_tables.specs.declared.row.Rows.{Rows}
use Rattle.tatp_tables.specs.declared.table.Table.TheVariants.{Subscriber}
use Rattle.tatp_tables.proofs.FindLaws.{find-set_of}
use Rattle.tatp_tables.proofs.KeyLaws.{row_at-has, row_at-none}
use Rattle.tatp_tables.proofs.TupleLaws.{same_tuples}
use Rattle.tatp_homes.specs.Home.{HaveParents, IsHome}
use Rattle.tatp_numbers.specs.declared.key.Key.{Key}
use Rattle.tatp_numbers.specs.declared.key.Key.TheVariants.{Id}
use Rattle.tatp_numbers.specs.Homes.{s_id_of, home_of_key}
use Rattle.tatp_numbers.specs.Listing.{Listing, answer}
use Rattle.tatp_numbers.proofs.FindLaws.{none_found, s_id_found, PassesOnce-counted}
use Rattle.tatp_numbers.proofs.IdLaws.{clean_ids, no_other_id}
use Rattle.tatp_calls.specs.Arguments.{arguments_accepted}
use Rattle.tatp_procs.specs.Consistent.{IsConsistent}
use Rattle.tatp_calls.specs.Transactions.{transaction}
use Rattle.tatp_procs.proofs.ConsistentAfterLaws.{consistent_after, keys_after}
use Rattle.tatp_procs.proofs.ConsistentLaws.{IsConsistent-clean, IsConsistent-home}
use Rattle.tatp_procs.proofs.HomeRowLaws.{AreHome-of_subscriber, row_at-own}
use Rattle.tatp_history.specs.declared.line.Line.{Line}
use Rattle.tatp_history.specs.declared.observed.Observed.{Observed}
use Rattle.tatp_history.specs.Histories.{IsIn, IsStrictlySerializableTo, rows_after}
use Rattle.tatp_history.specs.HistoryLines.{calls_of, AreAcceptedLines}
use Rattle.tatp_history.specs.Locality.{AreAccepted, calls_on, is_on}
use Rattle.tatp_history.proofs.LineLaws.{are_calls}
use Rattle.tatp_history.proofs.OrderLaws.{all_filter, all_map, in_all}
use Rattle.tatp_judge.specs.declared.aside.Undecided.{Undecided}
use Rattle.tatp_judge.specs.declared.judge.Judge.{Judge}
use Rattle.tatp_judge.specs.declared.window.Window.{Window}
use Rattle.tatp_judge.specs.declared.part.Part.{Part}
use Rattle.tatp_judge.specs.Finishing.{Leaves, LeaveInPart, IsFirstUnreached}
use Rattle.tatp_judge.specs.Parts.{is_of_part}
use Rattle.tatp_judge.specs.Followed.{HasFollowed}
use Rattle.tatp_judge.specs.Population.{IsDirectoryOf}
use Rattle.tatp_judge.specs.Aside.{SetsAside}
use Rattle.tatp_judge.specs.Steps.{AreEach}
use Rattle.tatp_judge.specs.Verdicts.{AreOthersLegal, AreUndecided, IsAside, IsLegalBut, NeedMoreBy}
use Rattle.tatp_judge.specs.Windows.{IsWindowAfter}
use Rattle.tatp_judge.proofs.AsideLaws.{aside_last, aside_more, aside_one, kept_open, not_aside, undecided_more}
use Rattle.tatp_history.proofs.SubscriberEventLaws.{same_or_not}
use Rattle.tatp_judge.proofs.PlaceLaws.{found_at, got_other}
use Rattle.tatp_judge.proofs.SearchLaws.{legal_but, none_on, not_on, others_now}

-- ---- a subscriber that isn't there has no rows
no_row : (o : Option Tuple) → option_map s_id_of o ≡ None → o ≡ None
no_row None h = refl
no_row (Some row) h = absurd (none-some (s_id_of row) (sym h))

-- a row whose parent isn't there
no_child : (n : ℕ) (parents rows : Tuples) → HaveParents n parents rows → ((row : Tuple) → has parents row ≡ false) → (row : Tuple) → has rows row ≡ false
no_child n parents rows are none row = elim (has rows row) as (λ b. has rows row ≡ b → b ≡ false) [
  | true ↦ λ e. elim (row_at parents (take n row)) as (λ o. row_at parents (take n row) ≡ o → is_some o ≡ true → true ≡ false) [
    | None ↦ λ _ some. sym some
    | Some parent ↦ λ found _. sym (row_at-has parents (take n row) parent found) ∙ none parent
  ] refl (are row e)
  | false ↦ λ e. refl
] refl

module _ (u : Database) (s : ℕ) (is : IsConsistent u) (none : home_of_key u.subscribers (Id s) ≡ None) where
  own_home : IsHome (record { s_id = s; tables = of_subscriber u s })
  own_home = AreHome-of_subscriber u s is

  no_subscriber : (row : Tuple) → has (of_subscriber u s).subscribers row ≡ false
  no_subscriber row = elim (has (of_subscriber u s).subscribers row) as (λ b. has (of_subscriber u s).subscribers row ≡ b → b ≡ false) [
    | true ↦ λ e. sym (own_home.own Subscriber row e) ∙ row_at-none (of_subscriber u s).subscribers (s ∷ []) row (row_at-own u.subscribers s [] ∙ no_row (row_at u.subscribers (s ∷ [])) none) e
    | false ↦ λ e. refl
  ] refl

  no_facility : (row : Tuple) → has (of_subscriber u s).facilities row ≡ false
  no_facility = no_child 1 (of_subscriber u s).subscribers (of_subscriber u s).facilities own_home.parents.of_facilities no_subscriber

  no_access : (row : Tuple) → has (of_subscriber u s).accesses row ≡ false
  no_access = no_child 1 (of_subscriber u s).subscribers (of_subscriber u s).accesses own_home.parents.of_accesses no_subscriber

  no_forwarding : (row : Tuple) → has (of_subscriber u s).forwardings row ≡ false
  no_forwarding = no_child 2 (of_subscriber u s).facilities (of_subscriber u s).forwardings own_home.parents.of_forwardings no_facility

nothing_of : (u v : Database) (s : ℕ) → IsConsistent u → IsConsistent v → home_of_key u.subscribers (Id s) ≡ None → home_of_key v.subscribers (Id s) ≡ None → of_subscriber u s ≡ of_subscriber v s
nothing_of u v s is is' none none' = λ i. record {
  subscribers = same_tuples (of_subscriber u s).subscribers (of_subscriber v s).subscribers (λ q. no_subscriber u s is none q ∙ sym (no_subscriber v s is' none' q)) i;
  accesses = same_tuples (of_subscriber u s).accesses (of_subscriber v s).accesses (λ q. no_access u s is none q ∙ sym (no_access v s is' none' q)) i;
  facilities = same_tuples (of_subscriber u s).facilities (of_subscriber v s).facilities (λ q. no_facility u s is none q ∙ sym (no_facility v s is' none' q)) i;
  forwardings = same_tuples (of_subscriber u s).forwardings (of_subscriber v s).forwardings (λ q. no_forwarding u s is none q ∙ sym (no_forwarding v s is' none' q)) i;
}

-- ---- a subscriber stays, whatever is called
keys_at_end : (order : List Observed) (v : Database) (key : Key) → IsConsistent v → AreAccepted order → home_of_key (rows_after v order).subscribers key ≡ home_of_key v.subscribers key
keys_at_end [] v key is accepted = refl
keys_at_end (x ∷ xs) v key is accepted = keys_at_end xs (transaction x.call v).database key (consistent_after x.call v is accepted.0) accepted.1 ∙ keys_after x.call v key is accepted.0

own_key : (u : Database) (s : ℕ) → home_of_key (of_subscriber u s).subscribers (Id s) ≡ home_of_key u.subscribers (Id s)
own_key u s = ap (option_map s_id_of) (row_at-own u.subscribers s [])

accepted_on : (u : Database) (s : ℕ) (lines : List Line) → AreAcceptedLines lines → AreAccepted (calls_on u s (calls_of lines))
accepted_on u s lines accepted = all_filter (λ (x : Observed). arguments_accepted x.call ≡ Ok tt) (λ (x : Observed). is_on u s x.call) (calls_of lines) (are_calls 1 lines accepted).accepted

same_subscriber : (u : Database) (s : ℕ) (lines : List Line) (after : Database) → IsConsistent u → AreAcceptedLines lines → Leaves u s lines (of_subscriber after s) → home_of_key after.subscribers (Id s) ≡ home_of_key u.subscribers (Id s)
same_subscriber u s lines after is accepted h =
    let calls = calls_on u s (calls_of lines) in
    let each : AreAccepted h.0 = all_map (λ x. IsIn x calls) (λ (x : Observed). arguments_accepted x.call ≡ Ok tt) (λ x there. in_all (λ (y : Observed). arguments_accepted y.call ≡ Ok tt) x calls (accepted_on u s lines accepted) there) h.0 h.1.made in
    let consistent = IsConsistent-home (record { s_id = s; tables = of_subscriber u s }) (AreHome-of_subscriber u s is) in
    sym (own_key after s) ∙ (ap (λ (v : Database). home_of_key v.subscribers (Id s)) (sym h.2) ∙ (keys_at_end h.0 (of_subscriber u s) (Id s) consistent each ∙ own_key u s))

-- ---- which subscribers there are
clean_there : (r : Rows) (s : ℕ) → IsClean r → 1 ≤ s → s ≤ length r.subscribers → home_of_key (set_of r.subscribers) (Id s) ≡ Some s
clean_there r s clean least most =
    let xs = r.subscribers in
    let one : count_of_key (s ∷ []) xs ≡ 1 = clean_ids r clean s least most in
    ap (option_map s_id_of) (find-set_of (has_key (s ∷ [])) xs (PassesOnce-counted (has_key (s ∷ [])) xs (omega (arith, one)))) ∙ s_id_found s xs (omega (arith, one))

clean_none : (r : Rows) (s : ℕ) → IsClean r → (1 ≤ s → length r.subscribers < s) → home_of_key (set_of r.subscribers) (Id s) ≡ None
clean_none r s clean out =
    let xs = r.subscribers in
    let none : count_of_key (s ∷ []) xs ≡ 0 = no_other_id xs s (clean_ids r clean) out in
    ap (option_map s_id_of) (find-set_of (has_key (s ∷ [])) xs (PassesOnce-counted (has_key (s ∷ [])) xs (omega (arith, none)))) ∙ ap (option_map s_id_of) (none_found (has_key (s ∷ [])) xs none)

listed_none : (u : Database) (n s : ℕ) (d : Listing) → IsDirectoryOf u n d → ((1 ≤ s) × (s ≤ n) → ⊥) → home_of_key u.subscribers (Id s) ≡ None
listed_none u n s d is out = sym (is.keys (Id s)) ∙ elim (nat_le 1 s && nat_le s d.count) as (λ b. (nat_le 1 s && nat_le s d.count) ≡ b → answer d (Id s) ≡ None) [
  | true ↦ λ e. absurd (out (is.named (Id s) s (ap (λ b. cond b (Some s) None) e)))
  | false ↦ λ e. ap (λ b. cond b (Some s) None) e
] refl

-- ---- the loop over subscribers
-- of those of the part up to a place some order leaves the rows, but for those set aside; the windows of the others are as they were
pub record LeavesSoFar (u : Database) (most : ℕ) (part : Part) (lines : List Line) (after : Database) (i : ℕ) (old now : Judge) : Type 0 where
  pub count : length now.windows.items ≡ length old.windows.items
  pub later : (place : ℕ) (w : Window) → i ≤ place → slice_get now.windows.items place ≡ Some w → slice_get old.windows.items place ≡ Some w
  pub undecided : AreUndecided u most lines now.undecided.items
  pub number_is : now.number ≡ old.number
  pub still : (s : ℕ) → IsAside old.undecided.items s → IsAside now.undecided.items s
  pub fresh : (s : ℕ) → IsAside now.undecided.items s → IsAside old.undecided.items s ⊎ (s ≤ i)
  pub each : (place : ℕ) → place < i → is_of_part part (Some (suc place)) ≡ true → (IsAside now.undecided.items (suc place) → ⊥) → Leaves u (suc place) lines (of_subscriber after (suc place))

pub none_left_yet : (u : Database) (most : ℕ) (part : Part) (lines : List Line) (after : Database) (judge : Judge) → HasFollowed u most lines judge → LeavesSoFar u most part lines after 0 judge judge
none_left_yet u most part lines after judge is = record {
  count = refl;
  later = λ place w le at. at;
  undecided = is.noted.aside.undecided;
  number_is = refl;
  still = λ s own. own;
  fresh = λ s own. inl own;
  each = λ place lt. absurd (omega (arith, lt));
}

-- one subscriber more, of which this is so
passed : (u : Database) (most : ℕ) (part : Part) (lines : List Line) (after : Database) (i : ℕ) (old now : Judge) → LeavesSoFar u most part lines after i old now → (is_of_part part (Some (suc i)) ≡ true → (IsAside now.undecided.items (suc i) → ⊥) → Leaves u (suc i) lines (of_subscriber after (suc i)))
    → (place : ℕ) → place < i + 1 → is_of_part part (Some (suc place)) ≡ true → (IsAside now.undecided.items (suc place) → ⊥) → Leaves u (suc place) lines (of_subscriber after (suc place))
passed u most part lines after i old now is here place early = elim (cases_lt place i) [
  | inl before ↦ is.each place before
  | inr late ↦ let same : i ≡ place = omega (arith, early, late) in subst (λ p. is_of_part part (Some (suc p)) ≡ true → (IsAside now.undecided.items (suc p) → ⊥) → Leaves u (suc p) lines (of_subscriber after (suc p))) same here
]

wider : (s i : ℕ) (was : Type 0) → was ⊎ (s ≤ i) → was ⊎ (s ≤ i + 1)
wider s i was h = elim h [ inl k ↦ inl k | inr le ↦ inr (omega (arith, le)) ]

pub one_passed_over : (u : Database) (most : ℕ) (part : Part) (lines : List Line) (after : Database) (i : ℕ) (old now : Judge) → LeavesSoFar u most part lines after i old now
    → (is_of_part part (Some (suc i)) ≡ true → (IsAside now.undecided.items (suc i) → ⊥) → Leaves u (suc i) lines (of_subscriber after (suc i))) → LeavesSoFar u most part lines after (i + 1) old now
one_passed_over u most part lines after i old now is here = record {
  count = is.count;
  later = λ place w le at. is.later place w (omega (arith, le)) at;
  undecided = is.undecided;
  number_is = is.number_is;
  still = is.still;
  fresh = λ s own. wider s i (IsAside old.undecided.items s) (is.fresh s own);
  each = passed u most part lines after i old now is here;
}

pub one_left_more : (u : Database) (most : ℕ) (part : Part) (lines : List Line) (after : Database) (i : ℕ) (old now new : Judge) (w : Window) → LeavesSoFar u most part lines after i old now → new.windows.items ≡ set now.windows.items i w → new.undecided.items ≡ now.undecided.items → new.number ≡ now.number → Leaves u (suc i) lines (of_subscriber after (suc i))
    → LeavesSoFar u most part lines after (i + 1) old new
one_left_more u most part lines after i old now new w is windows undecided number here = record {
  count = ap length windows ∙ (length-set now.windows.items i w ∙ is.count);
  later = λ place v le at. is.later place v (omega (arith, le)) (sym (got_other now.windows.items i place w (λ e. omega (arith, e, le))) ∙ (ap (λ ws. slice_get ws place) (sym windows) ∙ at));
  undecided = subst (AreUndecided u most lines) (sym undecided) is.undecided;
  number_is = number ∙ is.number_is;
  still = λ s own. subst (λ xs. IsAside xs s) (sym undecided) (is.still s own);
  fresh = λ s own. wider s i (IsAside old.undecided.items s) (is.fresh s (subst (λ xs. IsAside xs s) undecided own));
  each = λ place early own other. passed u most part lines after i old now is (λ _ _. here) place early own (λ k. other (subst (λ xs. IsAside xs (suc place)) (sym undecided) k));
}

-- one that is set aside
pub one_aside_more : (u : Database) (most : ℕ) (part : Part) (lines : List Line) (after : Database) (i : ℕ) (old now mid new : Judge) (w : Window) → HasFollowed u most lines old → LeavesSoFar u most part lines after i old now → mid.windows.items ≡ set now.windows.items i w → mid.undecided.items ≡ now.undecided.items → mid.number ≡ now.number
    → new.number ≡ mid.number → new.undecided.items ≡ mid.undecided.items ++ record { line = mid.number; s_id = i + 1 } ∷ [] → AreEach (SetsAside (i + 1)) mid.windows.items new.windows.items → NeedMoreBy u most lines (length lines) (suc i) → (IsAside now.undecided.items (suc i) → ⊥) → LeavesSoFar u most part lines after (i + 1) old new
one_aside_more u most part lines after i old now mid new w followed is windows undecided number numbered told sets many other =
    let one : Undecided = record { line = mid.number; s_id = i + 1 } in
    let next : suc i ≡ i + 1 = omega arith in
    let all : new.undecided.items ≡ now.undecided.items ++ one ∷ [] = told ∙ ap (λ xs. xs ++ one ∷ []) undecided in
    record {
      count = sets.count ∙ (ap length windows ∙ (length-set now.windows.items i w ∙ is.count));
      later = λ place v le at.
          let found = sets.each place v at in
          elim found.2 [
            | inl k ↦ absurd (omega (arith, k.0, le))
            | inr k ↦ is.later place v (omega (arith, le)) (sym (got_other now.windows.items i place w (λ e. omega (arith, e, le))) ∙ (ap (λ ws. slice_get ws place) (sym windows) ∙ (found.1 ∙ ap Some (sym k.1))))
          ];
      undecided = subst (AreUndecided u most lines) (sym all) (undecided_more u most lines now.undecided.items one is.undecided (number ∙ (is.number_is ∙ followed.noted.read.number_is))
          (subst (NeedMoreBy u most lines (length lines)) next many) (λ k. other (subst (IsAside now.undecided.items) (sym next) k)));
      number_is = numbered ∙ (number ∙ is.number_is);
      still = λ s own. subst (λ xs. IsAside xs s) (sym all) (aside_more now.undecided.items (one ∷ []) s (is.still s own));
      fresh = λ s own. elim (aside_one now.undecided.items one s (subst (λ xs. IsAside xs s) all own)) [
        | inl was ↦ wider s i (IsAside old.undecided.items s) (is.fresh s was)
        | inr same ↦ inr (omega (arith, same))
      ];
      each = λ place early own apart. elim (same_or_not place i) [
        | inl e ↦ absurd (apart (subst (λ xs. IsAside xs (suc place)) (sym all) (subst (IsAside (now.undecided.items ++ one ∷ [])) (omega (arith, e)) (aside_last now.undecided.items one))))
        | inr n ↦ is.each place (omega (arith, early, n)) own (λ k. apart (subst (λ xs. IsAside xs (suc place)) (sym all) (aside_more now.undecided.items (one ∷ []) (suc place) k)))
      ];
    }

-- a window that isn't marked
pub window_there : (u : Database) (most : ℕ) (part : Part) (lines : List Line) (after : Database) (i : ℕ) (old now : Judge) (w : Window) → HasFollowed u most lines old → LeavesSoFar u most part lines after i old now → i < length now.windows.items → w ≡ get_or now.windows.items i w → w.aside ≡ false → IsWindowAfter u most (suc i) lines w
window_there u most part lines after i old now w is so_far lt at unmarked =
    kept_open u most (suc i) lines w (is.noted.windows_are i w (so_far.later i w (omega arith) (found_at now.windows.items i w lt at))) unmarked

-- the rows may be asked for of its window
pub exact_there : (u : Database) (most : ℕ) (part : Part) (lines : List Line) (after : Database) (i : ℕ) (old now : Judge) (w : Window) → HasFollowed u most lines old → LeavesSoFar u most part lines after i old now → i < length now.windows.items → w ≡ get_or now.windows.items i w → w.aside ≡ false → w.explanations.exact ≡ old.exact
exact_there u most part lines after i old now w is so_far lt at unmarked =
    is.noted.read.exact_are i w (so_far.later i w (omega arith) (found_at now.windows.items i w lt at)) unmarked

pub not_yet_aside : (u : Database) (most : ℕ) (part : Part) (lines : List Line) (after : Database) (i : ℕ) (old now : Judge) (w : Window) → HasFollowed u most lines old → LeavesSoFar u most part lines after i old now → i < length now.windows.items → w ≡ get_or now.windows.items i w → w.aside ≡ false → IsAside now.undecided.items (suc i) → ⊥
not_yet_aside u most part lines after i old now w is so_far lt at unmarked own = elim (so_far.fresh (suc i) own) [
  | inl was ↦ not_aside u most lines old i w is.noted.aside (so_far.later i w (omega arith) (found_at now.windows.items i w lt at)) unmarked was
  | inr le ↦ omega (arith, le)
]

pub aside_there : (u : Database) (most : ℕ) (part : Part) (lines : List Line) (after : Database) (i : ℕ) (old now : Judge) (w : Window) → HasFollowed u most lines old → LeavesSoFar u most part lines after i old now → i < length now.windows.items → w ≡ get_or now.windows.items i w → w.aside ≡ true → IsAside now.undecided.items (suc i)
aside_there u most part lines after i old now w is so_far lt at mark = so_far.still (suc i) (is.noted.aside.listed i w (so_far.later i w (omega arith) (found_at now.windows.items i w lt at)) mark)

-- ---- the verdict
pub not_reached : (u : Database) (most : ℕ) (part : Part) (lines : List Line) (after : Database) (i : ℕ) (old now : Judge) → LeavesSoFar u most part lines after i old now → is_of_part part (Some (suc i)) ≡ true → (IsAside now.undecided.items (suc i) → ⊥)
    → (Leaves u (suc i) lines (of_subscriber after (suc i)) → ⊥) → IsFirstUnreached u part now.undecided.items lines after (i + 1)
not_reached u most part lines after i old now so_far own other never =
    let next : suc i ≡ i + 1 = omega arith in
    subst (IsFirstUnreached u part now.undecided.items lines after) next (record {
      first = omega arith;
      own = own;
      other = other;
      here = never;
      before = λ t least lt there apart. let one : suc (t - 1) ≡ t = omega (arith, least) in
          subst (λ s. Leaves u s lines (of_subscriber after s)) one (so_far.each (t - 1) (omega (arith, least, lt)) (ap (λ s. is_of_part part (Some s)) one ∙ there) (λ k. apart (subst (IsAside now.undecided.items) one k)));
    })

-- there are more subscribers at the end
pub more_at_end : (u : Database) (most : ℕ) (part : Part) (lines : List Line) (r : Rows) (i : ℕ) (old now : Judge) → HasFollowed u most lines old → IsClean r → LeavesSoFar u most part lines (database_of r) i old now
    → is_of_part part (Some (suc i)) ≡ true → i < length r.subscribers → length now.windows.items ≤ i → IsFirstUnreached u part now.undecided.items lines (database_of r) (i + 1)
more_at_end u most part lines r i old now is clean so_far own lt all =
    let read = is.noted.read in
    not_reached u most part lines (database_of r) i old now so_far own
    (λ aside. elim (so_far.fresh (suc i) aside) [
      | inl was ↦ let within = is.noted.aside.there (suc i) was in omega (arith, within.1, all, so_far.count)
      | inr le ↦ omega (arith, le)
    ])
    (λ leaves.
    none-some (suc i) (sym (listed_none u (length old.windows.items) (suc i) old.directory read.directory_is (λ within. omega (arith, within.1, all, so_far.count)))
    ∙ (sym (same_subscriber u (suc i) lines (database_of r) read.consistent read.accepted leaves) ∙ clean_there r (suc i) clean (omega arith) (omega (arith, lt)))))

-- there are fewer
pub fewer_at_end : (u : Database) (most : ℕ) (part : Part) (lines : List Line) (r : Rows) (i : ℕ) (old now : Judge) → HasFollowed u most lines old → IsClean r → LeavesSoFar u most part lines (database_of r) i old now
    → is_of_part part (Some (suc i)) ≡ true → (IsAside now.undecided.items (suc i) → ⊥) → length r.subscribers ≤ i → i < length now.windows.items → IsFirstUnreached u part now.undecided.items lines (database_of r) (i + 1)
fewer_at_end u most part lines r i old now is clean so_far own other end lt =
    let read = is.noted.read in
    not_reached u most part lines (database_of r) i old now so_far own other (λ leaves.
    none-some (suc i) (sym (clean_none r (suc i) clean (λ _. omega (arith, end)))
    ∙ (same_subscriber u (suc i) lines (database_of r) read.consistent read.accepted leaves ∙ (sym (read.directory_is.keys (Id (suc i))) ∙ read.directory_is.each (suc i) (omega arith) (omega (arith, lt, so_far.count))))))

-- of each subscriber some order leaves the rows
no_calls_leave : (u : Database) (s : ℕ) (lines : List Line) (after : Database) → calls_on u s (calls_of lines) ≡ [] → of_subscriber u s ≡ of_subscriber after s → Leaves u s lines (of_subscriber after s)
no_calls_leave u s lines after none same =
    subst (λ calls. IsStrictlySerializableTo (of_subscriber u s) calls (of_subscriber after s)) (sym none) ([], record { made = tt; once = tt; all = λ x h a. h; real_time = tt; replies = tt }, same)

outside : (u : Database) (most : ℕ) (lines : List Line) (r : Rows) (judge : Judge) (s : ℕ) → HasFollowed u most lines judge → IsClean r → (1 ≤ s → length judge.windows.items < s) → (1 ≤ s → length r.subscribers < s) → Leaves u s lines (of_subscriber (database_of r) s)
outside u most lines r judge s is clean out out_at_end =
    let read = is.noted.read in
    let n = length judge.windows.items in
    let nobody : (1 ≤ s) × (s ≤ n) → ⊥ = λ within. let lt = out within.0 in omega (arith, within.1, lt) in
    no_calls_leave u s lines (database_of r) (none_on u s (not_on u n judge.directory s read.directory_is nobody) (calls_of lines))
    (nothing_of u (database_of r) s read.consistent (IsConsistent-clean r clean) (listed_none u n s judge.directory read.directory_is nobody) (clean_none r s clean out_at_end))

pub all_reached : (u : Database) (most : ℕ) (part : Part) (lines : List Line) (r : Rows) (i : ℕ) (old now : Judge) → HasFollowed u most lines old → IsClean r → LeavesSoFar u most part lines (database_of r) i old now
    → length r.subscribers ≤ i → length now.windows.items ≤ i → LeaveInPart u part now.undecided.items lines (database_of r)
all_reached u most part lines r i old now is clean so_far end all zero own other = outside u most lines r old 0 is clean (λ le. absurd (omega (arith, le))) (λ le. absurd (omega (arith, le)))
all_reached u most part lines r i old now is clean so_far end all (suc p) own other = elim (cases_lt p i) [
  | inl lt ↦ so_far.each p lt own other
  | inr le ↦ let count = so_far.count in outside u most lines r old (suc p) is clean (λ _. omega (arith, le, all, count)) (λ _. omega (arith, le, end))
]

-- what is legal stays so, where more are set aside
pub still_legal : (u : Database) (most : ℕ) (part : Part) (lines : List Line) (after : Database) (i : ℕ) (old now : Judge) → HasFollowed u most lines old → LeavesSoFar u most part lines after i old now → IsLegalBut u old.undecided.items lines → IsLegalBut u now.undecided.items lines
still_legal u most part lines after i old now is so_far h =
    let read = is.noted.read in
    let all : take (length lines) lines ≡ lines = take_all (length lines) lines (omega arith) in
    let legal = others_now u lines old old.undecided.items read h in
    let fewer : AreOthersLegal u now.undecided.items lines = record { each = λ s other. legal.each s (λ own. other (so_far.still s own)); none = legal.none } in
    subst (IsLegalBut u now.undecided.items) all (legal_but u lines old now.undecided.items (length lines) read (subst (AreOthersLegal u now.undecided.items) (sym all) fewer))
