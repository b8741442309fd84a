-- Rows that calls leave, as the search holds them.
use Rattle.std.proofs.Common.{◌≡◌, ℕ, zero, suc, ◌+◌, ◌<◌, ◌≤◌, List, [], ◌∷◌, ◌++◌, length, take, Some, get_or, slice_get, refl, sym, ◌∙◌, ap, subst, arith, inl, inr}
use Rattle.std.proofs.lemmas.List.{append-nil, append_assoc}
use Rattle.tatp_tables.specs.Database.{Database}
use Rattle.tatp_calls.specs.declared.call.Call.{Call}
use Rattle.tatp_calls.specs.Order.{in_order}
use Rattle.tatp_calls.specs.Transactions.{transaction}
use Rattle.tatp_history.specs.declared.event.Event.{Event}
use Rattle.tatp_history.specs.declared.event.Event.TheVariants.{Asks, Ends}
use Rattle.tatp_history.specs.declared.observed.Observed.{Observed}
use Rattle.tatp_history.specs.Events.{asked_in}
use Rattle.tatp_history.specs.Configurations.{Configuration}
use Rattle.tatp_linearization.specs.declared.configuration.Configuration.{Configuration as Held}
use Rattle.tatp_linearization.specs.Possible.{AreMoreThan}
use Rattle.tatp_linearization.specs.Held.{seen, Has, AreApart, Adds, StandFirst, IsOldOr, HoldsOfOne}
use Rattle.tatp_linearization.specs.Legal.{IsAmong, MayLeave, calls_in, open_calls}
use Rattle.tatp_linearization.specs.Leaving.{without_calls, left_by, AreFrom, AreClosed}
use Rattle.tatp_linearization.proofs.PlaceLaws.{take_more, all_get, all_more, below_or_is, same_item}
use Rattle.tatp_linearization.proofs.HeldLaws.{get_has, has_get}
use Rattle.tatp_linearization.proofs.PossibleLaws.{more_than}

-- ---- lists that begin with others
pub first_same : (cs : List Held) → StandFirst cs cs
first_same cs = ([], sym (append-nil cs))

pub first_on : (old mid new : List Held) → StandFirst old mid → StandFirst mid new → StandFirst old new
first_on old mid new first second = (first.0 ++ second.0, second.1 ∙ (ap (λ xs. xs ++ second.0) first.1 ∙ append_assoc old first.0 second.0))

get_first : (xs ys : List Held) (i : ℕ) (c : Held) → i < length xs → slice_get (xs ++ ys) i ≡ Some c → slice_get xs i ≡ Some c
get_first [] ys i c lt h = absurd (omega (arith, lt))
get_first (x ∷ xs) ys zero c lt h = h
get_first (x ∷ xs) ys (suc i) c lt h = get_first xs ys i c (omega (arith, lt)) h

pub first_get : (old new : List Held) (i : ℕ) (c : Held) → StandFirst old new → i < length old → slice_get new i ≡ Some c → slice_get old i ≡ Some c
first_get old new i c first lt h = get_first old first.0 i c lt (subst (λ cs. slice_get cs i ≡ Some c) first.1 h)

has_first : (xs ys : List Held) (d : Configuration) → Has xs d → Has (xs ++ ys) d
has_first [] ys d h = absurd h
has_first (x ∷ xs) ys d h = elim h [ inl e ↦ inl e | inr k ↦ inr (has_first xs ys d k) ]

pub first_has : (old new : List Held) (d : Configuration) → StandFirst old new → Has old d → Has new d
first_has old new d first h = subst (λ cs. Has cs d) (sym first.1) (has_first old first.0 d h)

longer : (xs ys : List Held) → length xs ≤ length (xs ++ ys)
longer [] ys = omega arith
longer (x ∷ xs) ys = let more = longer xs ys in omega (arith, more)

pub first_longer : (old new : List Held) → StandFirst old new → length old ≤ length new
first_longer old new first = subst (λ cs. length old ≤ length cs) (sym first.1) (longer old first.0)

-- ---- calls one after another
one_more : (v : Database) (order : List Call) (call : Call) → (in_order v (order ++ call ∷ [])).database ≡ (transaction call (in_order v order).database).database
one_more v [] call = refl
one_more v (first ∷ order) call = one_more (transaction first v).database order call

pub leave_more : (calls : List Call) (c d : Configuration) (call : Call) → MayLeave calls c d → IsAmong call calls → MayLeave calls c (left_by call d)
leave_more calls c d call h among = record {
  order = h.order ++ call ∷ [];
  made = all_more (λ (other : Call). IsAmong other calls) h.order call h.made among;
  rows = ap (λ (b : Configuration). left_by call b) h.rows ∙ (λ i. record { rows = sym (one_more c.rows h.order call) i; opened = [] });
}

pub leave_none : (calls : List Call) (c : Configuration) → MayLeave calls c (without_calls c)
leave_none calls c = record { order = []; made = tt; rows = refl }

pub get_among : (calls : List Call) (i : ℕ) (call : Call) → slice_get calls i ≡ Some call → IsAmong call calls
get_among [] i call e = absurd cc
get_among (x ∷ xs) zero call e = let is : x ≡ call = cc in inl (sym is)
get_among (x ∷ xs) (suc i) call e = inr (get_among xs i call e)

pub among_get : (calls : List Call) (call : Call) → IsAmong call calls → (i : ℕ) × (i < length calls) × (slice_get calls i ≡ Some call)
among_get [] call h = absurd h
among_get (x ∷ xs) call h = elim h [
  | inl e ↦ (0, omega arith, ap Some (sym e))
  | inr k ↦ let r = among_get xs call k in let lt = r.1 in (suc r.0, omega (arith, lt), r.2)
]

-- ---- what the first calls leave of the rows at a place
pub record AddedLeft (most : ℕ) (calls : List Call) (place : ℕ) (old : List Held) (i : ℕ) (new : List Held) : Type 0 where
  pub first : StandFirst old new
  pub left : (c : Held) → slice_get old place ≡ Some c → (j : ℕ) (call : Call) → j < i → slice_get calls j ≡ Some call → Has new (left_by call (seen c))
  pub from : (start : List Held) → AreFrom calls start old → AreFrom calls start new
  pub apart : (s : ℕ) → AreApart s old → AreApart s new
  pub room : length old ≤ most → length new ≤ most

pub added_none : (most : ℕ) (calls : List Call) (place : ℕ) (old : List Held) → AddedLeft most calls place old 0 old
added_none most calls place old = record {
  first = first_same old;
  left = λ c at j call lt there. absurd (omega (arith, lt));
  from = λ start h. h;
  apart = λ s h. h;
  room = λ h. h;
}

pub added_more : (most : ℕ) (calls : List Call) (place : ℕ) (old : List Held) (i : ℕ) (call : Call) (before new : List Held) (b d : Held) → place < length old → slice_get calls i ≡ Some call → slice_get before place ≡ Some b
    → seen d ≡ left_by call (seen b) → d.home.s_id ≡ b.home.s_id → AddedLeft most calls place old i before → Adds before (λ e. e ≡ seen d) new → StandFirst before new
    → (AreApart d.home.s_id before → AreApart d.home.s_id new) → (length before ≤ most → length new ≤ most) → AddedLeft most calls place old (i + 1) new
added_more most calls place old i call before new b d inside at stands is own p adds first aparts room = record {
  first = first_on old before new p.first first;
  left = λ c there j other lt asks. elim (below_or_is j i lt) [
    | inl k ↦ (adds (left_by other (seen c))).1 (inl (p.left c there j other k asks))
    | inr e ↦
        let same : other ≡ call = same_item calls i other call (subst (λ k. slice_get calls k ≡ Some other) e asks) at in
        let one : c ≡ b = same_item old place c b there (first_get old before place b p.first inside stands) in
        (adds (left_by other (seen c))).1 (inr (ap (λ (q : Call). left_by q (seen c)) same ∙ (ap (λ (q : Held). left_by call (seen q)) one ∙ sym is)))
  ];
  from = λ start h e k. elim ((adds e).0 k) [
    | inl q ↦ p.from start h e q
    | inr q ↦
        let before_it = p.from start h (seen b) (get_has before place b stands) in
        (before_it.0, before_it.1, subst (MayLeave calls before_it.0) (sym (q ∙ is)) (leave_more calls before_it.0 (seen b) call before_it.2 (get_among calls i call at)))
  ];
  apart = λ s h.
      let k = p.apart s h in
      subst (λ t. AreApart t before → AreApart t new) (own ∙ all_get (λ (c : Held). c.home.s_id ≡ s) before place b k.own stands) aparts k;
  room = λ h. room (p.room h);
}

pub added_many : (most : ℕ) (calls : List Call) (place : ℕ) (old : List Held) (i : ℕ) (call : Call) (before : List Held) (b d : Held) → slice_get calls i ≡ Some call → slice_get before place ≡ Some b → seen d ≡ left_by call (seen b)
    → d.home.s_id ≡ b.home.s_id → AddedLeft most calls place old i before → (AreApart d.home.s_id before → AreMoreThan most (IsOldOr before (λ e. e ≡ seen d)))
    → (s : ℕ) → AreApart s old → (start : List Held) → AreFrom calls start old → AreMoreThan most (HoldsOfOne (MayLeave calls) start)
added_many most calls place old i call before b d at stands is own p many s apart start from =
    let k = p.apart s apart in
    let same : d.home.s_id ≡ s = own ∙ all_get (λ (c : Held). c.home.s_id ≡ s) before place b k.own stands in
    more_than most (IsOldOr before (λ e. e ≡ seen d)) (HoldsOfOne (MayLeave calls) start) (λ e h. elim h [
      | inl q ↦ p.from start from e q
      | inr q ↦
          let before_it = p.from start from (seen b) (get_has before place b stands) in
          (before_it.0, before_it.1, subst (MayLeave calls before_it.0) (sym (q ∙ is)) (leave_more calls before_it.0 (seen b) call before_it.2 (get_among calls i call at)))
    ]) (many (subst (λ t. AreApart t before) (sym same) k))

pub added_all : (most : ℕ) (calls : List Call) (place : ℕ) (old : List Held) (i : ℕ) (new : List Held) → AddedLeft most calls place old i new → length calls ≤ i
    → (c : Held) → slice_get old place ≡ Some c → (call : Call) → IsAmong call calls → Has new (left_by call (seen c))
added_all most calls place old i new p le c at call among = let there = among_get calls call among in let lt = there.1 in p.left c at there.0 call (omega (arith, lt, le)) there.2

-- ---- the rows of the first configurations
pub record Started (most : ℕ) (set : List Held) (i : ℕ) (rows : List Held) : Type 0 where
  pub starts : (j : ℕ) (c : Held) → j < i → slice_get set j ≡ Some c → Has rows (without_calls (seen c))
  pub from : (calls : List Call) → AreFrom calls set rows
  pub apart : (s : ℕ) → AreApart s set → AreApart s rows
  pub room : length rows ≤ most

pub started_none : (most : ℕ) (set : List Held) → Started most set 0 []
started_none most set = record {
  starts = λ j c lt at. absurd (omega (arith, lt));
  from = λ calls d h. absurd h;
  apart = λ s h. record { own = tt; distinct = tt };
  room = omega arith;
}

pub started_more : (most : ℕ) (set : List Held) (i : ℕ) (c d : Held) (before new : List Held) → slice_get set i ≡ Some c → seen d ≡ without_calls (seen c) → d.home.s_id ≡ c.home.s_id → Started most set i before → Adds before (λ e. e ≡ seen d) new
    → (AreApart d.home.s_id before → AreApart d.home.s_id new) → (length before ≤ most → length new ≤ most) → Started most set (i + 1) new
started_more most set i c d before new at is own p adds aparts room = record {
  starts = λ j b lt there. elim (below_or_is j i lt) [
    | inl k ↦ (adds (without_calls (seen b))).1 (inl (p.starts j b k there))
    | inr e ↦ let one : b ≡ c = same_item set i b c (subst (λ k. slice_get set k ≡ Some b) e there) at in (adds (without_calls (seen b))).1 (inr (ap (λ (q : Held). without_calls (seen q)) one ∙ sym is))
  ];
  from = λ calls e h. elim ((adds e).0 h) [
    | inl k ↦ p.from calls e k
    | inr k ↦ (seen c, get_has set i c at, subst (MayLeave calls (seen c)) (sym (k ∙ is)) (leave_none calls (seen c)))
  ];
  apart = λ s h. subst (λ t. AreApart t before → AreApart t new) (own ∙ all_get (λ (b : Held). b.home.s_id ≡ s) set i c h.own at) aparts (p.apart s h);
  room = room p.room;
}

pub started_many : (most : ℕ) (set : List Held) (i : ℕ) (c d : Held) (before : List Held) → slice_get set i ≡ Some c → seen d ≡ without_calls (seen c) → d.home.s_id ≡ c.home.s_id → Started most set i before
    → (AreApart d.home.s_id before → AreMoreThan most (IsOldOr before (λ e. e ≡ seen d))) → (s : ℕ) → AreApart s set → (calls : List Call) → AreMoreThan most (HoldsOfOne (MayLeave calls) set)
started_many most set i c d before at is own p many s apart calls =
    let same : d.home.s_id ≡ s = own ∙ all_get (λ (b : Held). b.home.s_id ≡ s) set i c apart.own at in
    more_than most (IsOldOr before (λ e. e ≡ seen d)) (HoldsOfOne (MayLeave calls) set) (λ e h. elim h [
      | inl k ↦ p.from calls e k
      | inr k ↦ (seen c, get_has set i c at, subst (MayLeave calls (seen c)) (sym (k ∙ is)) (leave_none calls (seen c)))
    ]) (many (subst (λ t. AreApart t before) (sym same) (p.apart s apart)))

pub started_all : (most : ℕ) (set : List Held) (i : ℕ) (rows : List Held) → Started most set i rows → length set ≤ i → (c : Configuration) → Has set c → Has rows (without_calls c)
started_all most set i rows p le c h =
    let there = has_get set c h in
    let lt = there.1 in
    subst (λ (d : Configuration). Has rows (without_calls d)) (sym there.4) (p.starts there.0 there.2 (omega (arith, lt, le)) there.3)

-- ---- all that the calls leave
pub record Closing (most : ℕ) (set : List Held) (calls : List Call) (i : ℕ) (rows : List Held) : Type 0 where
  pub starts : (c : Configuration) → Has set c → Has rows (without_calls c)
  pub closed : (j : ℕ) (c : Held) → j < i → slice_get rows j ≡ Some c → (call : Call) → IsAmong call calls → Has rows (left_by call (seen c))
  pub from : AreFrom calls set rows
  pub apart : (s : ℕ) → AreApart s set → AreApart s rows
  pub room : length rows ≤ most

pub closing_none : (most : ℕ) (set : List Held) (calls : List Call) (rows : List Held) → ((c : Configuration) → Has set c → Has rows (without_calls c)) → ((others : List Call) → AreFrom others set rows)
    → ((s : ℕ) → AreApart s set → AreApart s rows) → length rows ≤ most → Closing most set calls 0 rows
closing_none most set calls rows starts from apart room = record { starts = starts; closed = λ j c lt at call among. absurd (omega (arith, lt)); from = from calls; apart = apart; room = room }

pub closing_more : (most : ℕ) (set : List Held) (calls : List Call) (i : ℕ) (before new : List Held) → i < length before → Closing most set calls i before → StandFirst before new
    → ((c : Held) → slice_get before i ≡ Some c → (call : Call) → IsAmong call calls → Has new (left_by call (seen c))) → ((start : List Held) → AreFrom calls start before → AreFrom calls start new)
    → ((s : ℕ) → AreApart s before → AreApart s new) → (length before ≤ most → length new ≤ most) → Closing most set calls (i + 1) new
closing_more most set calls i before new inside p first left from apart room = record {
  starts = λ c h. first_has before new (without_calls c) first (p.starts c h);
  closed = λ j c lt at call among. elim (below_or_is j i lt) [
    | inl k ↦ first_has before new (left_by call (seen c)) first (p.closed j c k (first_get before new j c first (omega (arith, k, inside)) at) call among)
    | inr e ↦ left c (first_get before new i c first inside (subst (λ k. slice_get new k ≡ Some c) e at)) call among
  ];
  from = from set p.from;
  apart = λ s h. apart s (p.apart s h);
  room = room p.room;
}

pub closing_all : (most : ℕ) (set : List Held) (calls : List Call) (i : ℕ) (rows : List Held) → Closing most set calls i rows → length rows ≤ i → AreClosed calls rows
closing_all most set calls i rows p le d h call among =
    let there = has_get rows d h in
    let lt = there.1 in
    subst (λ (b : Configuration). Has rows (left_by call b)) (sym there.4) (p.closed there.0 there.2 (omega (arith, lt, le)) there.3 call among)

-- ---- the calls that are tried
both_calls : (xs ys : List Observed) → calls_in (xs ++ ys) ≡ calls_in xs ++ calls_in ys
both_calls [] ys = refl
both_calls (x ∷ xs) ys = ap (λ zs. x.call ∷ zs) (both_calls xs ys)

both_open : (cs ds : List Held) → open_calls (cs ++ ds) ≡ open_calls cs ++ open_calls ds
both_open [] ds = refl
both_open (c ∷ cs) ds = ap (λ zs. calls_in c.opened.items ++ zs) (both_open cs ds) ∙ sym (append_assoc (calls_in c.opened.items) (open_calls cs) (open_calls ds))

pub added_calls : (old : List Call) (xs : List Observed) (i : ℕ) (x : Observed) (before new : List Call) → slice_get xs i ≡ Some x → before ≡ old ++ calls_in (take i xs) → new ≡ before ++ x.call ∷ [] → new ≡ old ++ calls_in (take (i + 1) xs)
added_calls old xs i x before new at is pushed =
    pushed ∙ (ap (λ zs. zs ++ x.call ∷ []) is ∙ (append_assoc old (calls_in (take i xs)) (x.call ∷ []) ∙ ap (λ zs. old ++ zs) (sym (both_calls (take i xs) (x ∷ [])) ∙ ap calls_in (sym (take_more xs i x at)))))

pub opened_more : (cs : List Held) (i : ℕ) (c : Held) → slice_get cs i ≡ Some c → open_calls (take (i + 1) cs) ≡ open_calls (take i cs) ++ calls_in c.opened.items
opened_more cs i c at = ap open_calls (take_more cs i c at) ∙ (both_open (take i cs) (c ∷ []) ∙ ap (λ zs. open_calls (take i cs) ++ zs) (append-nil (calls_in c.opened.items)))

both_asked : (es fs : List Event) → asked_in (es ++ fs) ≡ asked_in es ++ asked_in fs
both_asked [] fs = refl
both_asked (Asks x ∷ es) fs = ap (λ zs. x ∷ zs) (both_asked es fs)
both_asked (Ends asked at ∷ es) fs = both_asked es fs

pub asked_more : (old : List Call) (events : List Event) (i : ℕ) (event : Event) (before new : List Call) → slice_get events i ≡ Some event → before ≡ old ++ calls_in (asked_in (take i events)) → new ≡ before ++ calls_in (asked_in (event ∷ [])) → new ≡ old ++ calls_in (asked_in (take (i + 1) events))
asked_more old events i event before new at is added =
    added ∙ (ap (λ zs. zs ++ calls_in (asked_in (event ∷ []))) is ∙ (append_assoc old (calls_in (asked_in (take i events))) (calls_in (asked_in (event ∷ [])))
    ∙ ap (λ zs. old ++ zs) (sym (both_calls (asked_in (take i events)) (asked_in (event ∷ []))) ∙ ap calls_in (sym (both_asked (take i events) (event ∷ [])) ∙ ap asked_in (sym (take_more events i event at))))))

pub at_or : {X : Type 0} (xs : List X) (i : ℕ) (x : X) → i < length xs → slice_get xs i ≡ Some (get_or xs i x)
at_or [] i x lt = absurd (omega (arith, lt))
at_or (y ∷ ys) zero x lt = refl
at_or (y ∷ ys) (suc i) x lt = at_or ys i x (omega (arith, lt))
