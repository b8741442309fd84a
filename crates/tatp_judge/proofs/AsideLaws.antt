-- Subscribers that are set aside.
use Rattle.std.proofs.Common.{◌≡◌, ℕ, zero, suc, ◌<◌, ◌≤◌, ◌⊎◌, ◌∙◌, sym, ap, subst, false, List, [], ◌∷◌, ◌++◌, length, slice_get, take, refl, arith, Some, inl, inr, append_assoc}
use Rattle.std.specs.List.{AllByRecursion}
use Rattle.std.proofs.lemmas.Bool.{false≢true}
use Rattle.std.proofs.lemmas.List.{append-nil, length-append, take-take, take_all}
use Rattle.std.proofs.lemmas.Option.{none-some}
use Rattle.tatp_tables.specs.Database.{Database, of_subscriber}
use Rattle.tatp_history.specs.declared.line.Line.{Line}
use Rattle.tatp_history.specs.Histories.{IsStrictlySerializable}
use Rattle.tatp_history.specs.HistoryLines.{calls_of}
use Rattle.tatp_history.specs.Locality.{calls_on}
use Rattle.tatp_history.specs.SubscriberEvents.{events_of, no_calls, opened_after}
use Rattle.tatp_history.proofs.OrderLaws.{all_map}
use Rattle.tatp_linearization.specs.Possible.{NeedMore}
use Rattle.tatp_judge.specs.declared.aside.Undecided.{Undecided}
use Rattle.tatp_judge.specs.declared.judge.Judge.{Judge}
use Rattle.tatp_judge.specs.declared.window.Window.{Window}
use Rattle.tatp_judge.specs.Aside.{AddsAside, AreSetAside, SetsAside}
use Rattle.tatp_judge.specs.Steps.{AreEach}
use Rattle.tatp_judge.specs.Verdicts.{AreInOrder, AreUndecided, IsAside, NeedMoreBy}
use Rattle.tatp_judge.specs.Windows.{AreCounted, IsKept, IsWindowAfter}
use Rattle.tatp_judge.proofs.FirstLinesLaws.{fewer_explained, now_explained, taken}
use Rattle.tatp_judge.proofs.NumberLaws.{front}

-- ---- one more
pub aside_more : (xs ys : List Undecided) (s : ℕ) → IsAside xs s → IsAside (xs ++ ys) s
aside_more [] ys s h = absurd h
aside_more (one ∷ xs) ys s h = elim h [ inl e ↦ inl e | inr k ↦ inr (aside_more xs ys s k) ]

pub aside_last : (xs : List Undecided) (one : Undecided) → IsAside (xs ++ one ∷ []) one.s_id
aside_last [] one = inl refl
aside_last (first ∷ xs) one = inr (aside_last xs one)

pub aside_one : (xs : List Undecided) (one : Undecided) (s : ℕ) → IsAside (xs ++ one ∷ []) s → IsAside xs s ⊎ (one.s_id ≡ s)
aside_one [] one s h = elim h [ inl e ↦ inr e | inr k ↦ absurd k ]
aside_one (first ∷ xs) one s h = elim h [ inl e ↦ inl (inl e) | inr k ↦ elim (aside_one xs one s k) [ inl m ↦ inl (inr m) | inr e ↦ inr e ] ]

all_and : (P : Undecided → Type 0) (xs : List Undecided) (one : Undecided) → AllByRecursion P xs → P one → AllByRecursion P (xs ++ one ∷ [])
all_and P [] one h k = (k, tt)
all_and P (first ∷ xs) one h k = (h.0, all_and P xs one h.1 k)

in_order : (xs : List Undecided) (one : Undecided) → AllByRecursion (λ first. first.line ≤ one.line) xs → (IsAside xs one.s_id → ⊥) → AreInOrder xs → AreInOrder (xs ++ one ∷ [])
in_order [] one early new h = (tt, tt)
in_order (first ∷ xs) one early new h = (all_and (λ other. (first.line ≤ other.line) × (first.s_id ≡ other.s_id → ⊥)) xs one h.0 (early.0, λ e. new (inl e)), in_order xs one early.1 (λ k. new (inr k)) h.1)

pub undecided_more : (u : Database) (most : ℕ) (lines : List Line) (xs : List Undecided) (one : Undecided) → AreUndecided u most lines xs → one.line ≡ length lines → NeedMoreBy u most lines (length lines) one.s_id → (IsAside xs one.s_id → ⊥) → AreUndecided u most lines (xs ++ one ∷ [])
undecided_more u most lines xs one are last many new = record {
  each = all_and (λ (x : Undecided). NeedMoreBy u most lines x.line x.s_id) xs one are.each (subst (λ k. NeedMoreBy u most lines k one.s_id) (sym last) many);
  order = in_order xs one (all_map (λ (x : Undecided). NeedMoreBy u most lines x.line x.s_id) (λ (x : Undecided). x.line ≤ one.line) (λ x h. let within = h.within in omega (arith, last, within)) xs are.each) new are.order;
}

pub adds_none : (judge : Judge) → AddsAside judge judge
adds_none judge = record { more = []; undecided_are = sym (append-nil judge.undecided.items); lines_are = tt }

pub adds_same : (old now new : Judge) → new.undecided.items ≡ now.undecided.items → AddsAside old now → AddsAside old new
adds_same old now new same is = record { more = is.more; undecided_are = same ∙ is.undecided_are; lines_are = is.lines_are }

pub adds_one : (old now new : Judge) (s_id : ℕ) → AddsAside old now → now.number ≡ old.number → new.undecided.items ≡ now.undecided.items ++ record { line = now.number; s_id = s_id } ∷ [] → AddsAside old new
adds_one old now new s_id is same told =
    let one : Undecided = record { line = now.number; s_id = s_id } in
    record {
      more = is.more ++ one ∷ [];
      undecided_are = told ∙ (ap (λ xs. xs ++ one ∷ []) is.undecided_are ∙ append_assoc old.undecided.items is.more (one ∷ []));
      lines_are = all_and (λ (x : Undecided). x.line ≡ old.number) is.more one is.lines_are same;
    }

-- ---- more lines
longer : (lines more : List Line) → length lines ≤ length (lines ++ more)
longer lines more = let sum = length-append lines more in omega (arith, sum)

pub need_stays : (u : Database) (most : ℕ) (lines more : List Line) (line s : ℕ) → NeedMoreBy u most lines line s → NeedMoreBy u most (lines ++ more) line s
need_stays u most lines more line s h =
    let all = longer lines more in
    record {
      within = omega (arith, h.within, all);
      first = h.first;
      by = h.by;
      many = subst (λ ls. NeedMore most (of_subscriber u s) (events_of u s ls)) (sym (front h.first lines more (omega (arith, h.by, h.within)))) h.many;
    }

pub need_taken : (u : Database) (most n s : ℕ) (lines : List Line) → n ≤ length lines → NeedMoreBy u most lines n s → NeedMoreBy u most (take n lines) n s
need_taken u most n s lines within h = record {
  within = let all = taken n lines within in omega (arith, all);
  first = h.first;
  by = h.by;
  many = subst (λ ls. NeedMore most (of_subscriber u s) (events_of u s ls)) (sym (take-take h.first n lines h.by)) h.many;
}

pub undecided_stay : (u : Database) (most : ℕ) (lines more : List Line) (xs : List Undecided) → AreUndecided u most lines xs → AreUndecided u most (lines ++ more) xs
undecided_stay u most lines more xs are = record {
  each = all_map (λ (x : Undecided). NeedMoreBy u most lines x.line x.s_id) (λ (x : Undecided). NeedMoreBy u most (lines ++ more) x.line x.s_id) (λ x h. need_stays u most lines more x.line x.s_id h) xs are.each;
  order = are.order;
}

-- the calls on a subscriber in the first lines
pub first_on : (u : Database) (s : ℕ) (first second : List Line) → IsStrictlySerializable (of_subscriber u s) (calls_on u s (calls_of (first ++ second))) → IsStrictlySerializable (of_subscriber u s) (calls_on u s (calls_of first))
first_on u s first second h =
    let all = first ++ second in
    let le = longer first second in
    subst (λ ls. IsStrictlySerializable (of_subscriber u s) (calls_on u s (calls_of ls))) (front (length first) first second (omega arith) ∙ take_all (length first) first (omega arith))
    (fewer_explained u s (length all) all (omega arith) (now_explained u s all h) (length first) (omega (arith, le)) le)

-- ---- windows
-- none is set aside before any line
pub none_aside : (u : Database) (most : ℕ) (judge : Judge) → judge.undecided.items ≡ [] → ((place : ℕ) (w : Window) → slice_get judge.windows.items place ≡ Some w → w.aside ≡ false) → AreSetAside u most [] judge
none_aside u most judge none unmarked = record {
  undecided = subst (AreUndecided u most []) (sym none) (record { each = tt; order = tt });
  there = λ s own. absurd (subst (λ xs. IsAside xs s) none own);
  marked = λ place w at own. absurd (subst (λ xs. IsAside xs (suc place)) none own);
  listed = λ place w at mark. absurd (false≢true (sym (unmarked place w at) ∙ mark));
}

-- each window has the mark of one of the old
pub still_aside : (u : Database) (most : ℕ) (lines now : List Line) (old new : Judge) (Stands : ℕ → Window → Window → Type 0) → AreSetAside u most lines old → new.undecided.items ≡ old.undecided.items → AreEach Stands old.windows.items new.windows.items
    → ((place : ℕ) (w after : Window) → Stands place w after → after.aside ≡ w.aside) → AreUndecided u most now old.undecided.items → AreSetAside u most now new
still_aside u most lines now old new Stands are same each marks undecided = record {
  undecided = subst (AreUndecided u most now) (sym same) undecided;
  there = λ s own. let is = are.there s (subst (λ xs. IsAside xs s) same own) in (is.0, omega (arith, is.1, each.count));
  marked = λ place w at own.
      let found = each.each place w at in
      marks place found.0 w found.2 ∙ are.marked place found.0 found.1 (subst (λ xs. IsAside xs (suc place)) same own);
  listed = λ place w at mark.
      let found = each.each place w at in
      subst (λ xs. IsAside xs (suc place)) (sym same) (are.listed place found.0 found.1 (sym (marks place found.0 w found.2) ∙ mark));
}

pub one_more_aside : (u : Database) (most : ℕ) (lines : List Line) (old new : Judge) (one : Undecided) → AreSetAside u most lines old → new.undecided.items ≡ old.undecided.items ++ one ∷ [] → AreEach (SetsAside one.s_id) old.windows.items new.windows.items
    → one.line ≡ length lines → NeedMoreBy u most lines (length lines) one.s_id → (IsAside old.undecided.items one.s_id → ⊥) → 1 ≤ one.s_id → one.s_id ≤ length old.windows.items → AreSetAside u most lines new
one_more_aside u most lines old new one are more each last many fresh first within = record {
  undecided = subst (AreUndecided u most lines) (sym more) (undecided_more u most lines old.undecided.items one are.undecided last many fresh);
  there = λ s own. elim (aside_one old.undecided.items one s (subst (λ xs. IsAside xs s) more own)) [
    | inl was ↦ let is = are.there s was in (is.0, omega (arith, is.1, each.count))
    | inr same ↦ (omega (arith, same, first), omega (arith, same, within, each.count))
  ];
  marked = λ place w at own.
      let found = each.each place w at in
      elim found.2 [
        | inl here ↦ here.1.aside_is
        | inr there ↦ elim (aside_one old.undecided.items one (suc place) (subst (λ xs. IsAside xs (suc place)) more own)) [
          | inl was ↦ ap (λ (v : Window). v.aside) there.1 ∙ are.marked place found.0 found.1 was
          | inr same ↦ absurd (there.0 (sym same))
        ]
      ];
  listed = λ place w at mark.
      let found = each.each place w at in
      subst (λ xs. IsAside xs (suc place)) (sym more) (elim found.2 [
        | inl here ↦ subst (IsAside (old.undecided.items ++ one ∷ [])) (sym here.0) (aside_last old.undecided.items one)
        | inr there ↦ aside_more old.undecided.items (one ∷ []) (suc place) (are.listed place found.0 found.1 (ap (λ (v : Window). v.aside) (sym there.1) ∙ mark))
      ]);
}

-- ---- what is kept of a subscriber
pub kept_open : (u : Database) (most s : ℕ) (lines : List Line) (w : Window) → IsKept u most s lines w → w.aside ≡ false → IsWindowAfter u most s lines w
kept_open u most s lines w kept unmarked = elim kept [ inl k ↦ k.1 | inr c ↦ absurd (false≢true (sym unmarked ∙ c.aside)) ]

pub kept_counted : (u : Database) (most s : ℕ) (lines : List Line) (w : Window) → IsKept u most s lines w → AreCounted (opened_after u s 1 no_calls lines) w.waiting
kept_counted u most s lines w kept = elim kept [ inl k ↦ k.1.counted | inr c ↦ c.counted ]

pub kept_few : (u : Database) (most s : ℕ) (lines : List Line) (w : Window) → IsKept u most s lines w → w.waiting ≤ length lines
kept_few u most s lines w kept = elim kept [ inl k ↦ k.1.few | inr c ↦ c.few ]

-- a subscriber whose window isn't marked isn't set aside
pub not_aside : (u : Database) (most : ℕ) (lines : List Line) (judge : Judge) (place : ℕ) (w : Window) → AreSetAside u most lines judge → slice_get judge.windows.items place ≡ Some w → w.aside ≡ false → IsAside judge.undecided.items (suc place) → ⊥
not_aside u most lines judge place w are at unmarked own = false≢true (sym unmarked ∙ are.marked place w at own)

pub place_within : (ws : List Window) (place : ℕ) (w : Window) → slice_get ws place ≡ Some w → place < length ws
place_within [] place w at = absurd (none-some w at)
place_within (v ∷ ws) zero w at = omega arith
place_within (v ∷ ws) (suc place) w at = let lt = place_within ws place w at in omega (arith, lt)
