-- The rows of the whole, written subscriber by subscriber.
use Rattle.std.proofs.Common.{◌≡◌, ℕ, zero, suc, ◌+◌, ◌<◌, ◌≤◌, ◌∙◌, refl, sym, ap, subst, arith, List, [], ◌++◌, length, take, drop, Option, Some, None, Bool, true, codes, append_assoc, take-append-drop, inl, inr, slice_get, Result, OnOk, OnErr}
use Rattle.std.specs.Option.{option_map}
use Rattle.std.specs.Io.KnownBytes.{Appends}
use Rattle.std.proofs.Math.Nat.{eq-or-lt_of_le}
use Rattle.std.proofs.Math.Seq.{take-append_seam}
use Rattle.std.proofs.lemmas.Bool.{cases_lt}
use Rattle.std.proofs.lemmas.List.{append-nil}
use Rattle.std.proofs.lemmas.Option.{same_Some, slice_get_cases}
use Rattle.std.proofs.lemmas.Result.{on_ok_weaker, on_err_weaker}
use Rattle.tatp_tables.specs.Database.{Database, of_subscriber}
use Rattle.tatp_homes.specs.Home.{SubscriberRows}
use Rattle.tatp_partition.specs.Sites.{SiteState, RunningCall, home_here}
use Rattle.tatp_dispatch.specs.Gathered.{gathered}
use Rattle.tatp_dispatch.specs.Serving.{IsWorld}
use Rattle.tatp_dispatch.specs.Shown.{set_back}
use Rattle.tatp_dispatch.specs.Worlds.{WorldState}
use Rattle.tatp_dispatch.proofs.IdleLaws.{none_set_back}
use Rattle.tatp_dispatch.proofs.SeenLaws.{homes_seen}
use Rattle.tatp_trace_lines.specs.HomeText.{home_text}
use Rattle.tatp_streams.specs.Writing.{AppendsFront, KeepsOrAppends}
use Rattle.tatp_streams.proofs.StreamLaws.{appends_none, appends_both}
use Rattle.tatp_console.specs.RowsWritten.{rows_text, rows_told}

-- ---- no call runs
-- at the first so many sites
abbrev pub RestUpTo : WorldState → ℕ → Type 0
RestUpTo w p = (q : ℕ) (s : SiteState) → q < p → slice_get w.sites q ≡ Some s → s.running ≡ None

pub rest_from_start : (w : WorldState) → RestUpTo w 0
rest_from_start w q s before there = absurd (omega (arith, before))

none_of_none : {A B : Type 0} (f : A → B) (x : Option A) → option_map f x ≡ None → x ≡ None
none_of_none f None e = refl
none_of_none f (Some a) e = cc

pub rest_at_one_more : (w : WorldState) (p : ℕ) (s : SiteState) → RestUpTo w p → slice_get w.sites p ≡ Some s
    → None ≡ option_map (λ (r : RunningCall). r.client) s.running → RestUpTo w (p + 1)
rest_at_one_more w p s rest at none q t before there =
    let le : q ≤ p = omega (arith, before) in
    elim (eq-or-lt_of_le le) as (λ _. t.running ≡ None) [
      | inl e ↦ subst (λ (x : SiteState). x.running ≡ None) (same_Some s t (sym at ∙ (ap (slice_get w.sites) (sym e) ∙ there))) (none_of_none (λ (r : RunningCall). r.client) s.running (sym none))
      | inr less ↦ rest q t less there
    ]

-- there is no further site
pub nothing_back : (w : WorldState) (p : ℕ) → RestUpTo w p → slice_get w.sites p ≡ None → set_back w ≡ gathered w
nothing_back w p rest none = none_set_back (gathered w) w.sites (λ q s there. elim (cases_lt q p) as (λ _. s.running ≡ None) [ inl less ↦ rest q s less there | inr past ↦ absurd (no_site q s past there) ])
  where
    no_site : (q : ℕ) (s : SiteState) → p ≤ q → slice_get w.sites q ≡ Some s → ⊥
    no_site q s past there =
        elim (slice_get_cases w.sites p).1 as (λ _. ⊥) [
          | inl here ↦ absurd (let f : None ≡ Some here.0 = sym none ∙ here.2 in cc)
          | inr end ↦ elim (slice_get_cases w.sites q).1 as (λ _. ⊥) [
            | inl here ↦ absurd (omega (arith, here.1, end.0, past))
            | inr out ↦ absurd (let f : None ≡ Some s = sym out.1 ∙ there in cc)
          ]
        ]

-- ---- a home
pub home_found : (w : WorldState) (p s_id : ℕ) (s : SiteState) (home : SubscriberRows) → IsWorld w → slice_get w.sites p ≡ Some s → home_here s s_id ≡ Some home → of_subscriber (gathered w) s_id ≡ home.tables
home_found w p s_id s home is at here = homes_seen w p s is at s_id home here

pub home_pushed : (u tables : Database) (s_id : ℕ) (old told new : List ℕ) → of_subscriber u s_id ≡ tables → told ≡ home_text tables → new ≡ old ++ told
    → new ≡ old ++ home_text (of_subscriber u s_id)
home_pushed u tables s_id old told new is e n = n ∙ ap (λ text. old ++ text) (e ∙ ap home_text (sym is))

-- ---- the writing
-- what is written, what is pending and the rows that are left are the whole text
pub record RowsSoFar (u : Database) (n done : ℕ) (old new : Option (List ℕ)) (pending : List ℕ) : Type 0 where
  pub written : List ℕ
  pub left : ℕ
  pub counted : done + left ≡ n
  pub held : Appends old new written
  pub whole : rows_told n u ≡ written ++ (pending ++ rows_text u (done + 1) left)

pub rows_start : (u : Database) (n : ℕ) (old : Option (List ℕ)) (none pending : List ℕ) → none ≡ [] → pending ≡ none ++ codes ".\n" → RowsSoFar u n 0 old old pending
rows_start u n old none pending e p =
    let first : pending ≡ codes ".\n" = p ∙ ap (λ front. front ++ codes ".\n") e in
    record { written = []; left = n; counted = omega arith; held = appends_none old; whole = ap (λ front. front ++ rows_text u 1 n) (sym first) }

rows_split : (u : Database) (n : ℕ) (written pending longer home rest : List ℕ) → rows_told n u ≡ written ++ (pending ++ (home ++ rest)) → longer ≡ pending ++ home → rows_told n u ≡ written ++ (longer ++ rest)
rows_split u n written pending longer home rest h e = h ∙ ap (λ ts. written ++ ts) (sym (append_assoc pending home rest) ∙ ap (λ front. front ++ rest) (sym e))

-- the rows of one subscriber more are pending
home_more : (u : Database) (n done left : ℕ) (old new : Option (List ℕ)) (written pending longer : List ℕ) → done < n → done + left ≡ n → Appends old new written
    → rows_told n u ≡ written ++ (pending ++ rows_text u (done + 1) left) → longer ≡ pending ++ home_text (of_subscriber u (done + 1)) → RowsSoFar u n (done + 1) old new longer
home_more u n done zero old new written pending longer before counted held whole e = absurd (omega (arith, before, counted))
home_more u n done (suc left) old new written pending longer before counted held whole e = record {
  written = written;
  left = left;
  counted = omega (arith, counted);
  held = held;
  whole = rows_split u n written pending longer (home_text (of_subscriber u (done + 1))) (rows_text u (done + 1 + 1) left) whole e;
}

rows_go_on : (u : Database) (n done : ℕ) (old new : Option (List ℕ)) (pending longer : List ℕ) → done < n → RowsSoFar u n done old new pending
    → longer ≡ pending ++ home_text (of_subscriber u (done + 1)) → RowsSoFar u n (done + 1) old new longer
rows_go_on u n done old new pending longer before r e = home_more u n done r.left old new r.written pending longer before r.counted r.held r.whole e

-- what is pending is written
flushed : (u : Database) (n done : ℕ) (old new then : Option (List ℕ)) (pending : List ℕ) → RowsSoFar u n done old new pending → Appends new then pending → RowsSoFar u n done old then []
flushed u n done old new then pending r h = record {
  written = r.written ++ pending;
  left = r.left;
  counted = r.counted;
  held = appends_both old new then r.written pending r.held h;
  whole = r.whole ∙ sym (append_assoc r.written pending (rows_text u (done + 1) r.left));
}

-- or not
rows_written : (u : Database) (n done : ℕ) (old new then : Option (List ℕ)) (pending rest : List ℕ) → RowsSoFar u n done old new pending → KeepsOrAppends pending rest new then → RowsSoFar u n done old then rest
rows_written u n done old new then pending rest r o =
    elim o [ inl same ↦ rw (same.0, same.1) r | inr told ↦ rw told.1 (flushed u n done old new then pending r told.0) ]

pub rows_next : (u : Database) (n done : ℕ) (old new then : Option (List ℕ)) (pending longer rest : List ℕ) → RowsSoFar u n done old new pending → done < n
    → longer ≡ pending ++ home_text (of_subscriber u (done + 1)) → KeepsOrAppends longer rest new then → RowsSoFar u n (done + 1) old then rest
rows_next u n done old new then pending longer rest r before e o = rows_written u n (done + 1) old new then longer rest (rows_go_on u n done old new pending longer before r e) o

-- a front of a text
front_of : (whole front rest : List ℕ) (old new : Option (List ℕ)) → whole ≡ front ++ rest → Appends old new front → AppendsFront whole old new
front_of whole front rest old new e h = (length front, subst (Appends old new) (sym (ap (take (length front)) e ∙ take-append_seam front rest)) h)

-- nothing of what is pending is written
pub rows_so_far : (u : Database) (n done : ℕ) (old new : Option (List ℕ)) (pending : List ℕ) → RowsSoFar u n done old new pending → AppendsFront (rows_told n u) old new
rows_so_far u n done old new pending r = front_of (rows_told n u) r.written (pending ++ rows_text u (done + 1) r.left) old new r.whole r.held

-- a front of it is
rows_up_to : (u : Database) (n done : ℕ) (old new then : Option (List ℕ)) (pending : List ℕ) → RowsSoFar u n done old new pending → AppendsFront pending new then → AppendsFront (rows_told n u) old then
rows_up_to u n done old new then pending r h =
    let k = h.0 in
    let rest = rows_text u (done + 1) r.left in
    front_of (rows_told n u) (r.written ++ take k pending) (drop k pending ++ rest) old then
    (r.whole ∙ (ap (λ p. r.written ++ (p ++ rest)) (sym (take-append-drop k pending)) ∙ (ap (λ ts. r.written ++ ts) (append_assoc (take k pending) (drop k pending) rest) ∙ sym (append_assoc r.written (take k pending) (drop k pending ++ rest)))))
    (appends_both old new then r.written (take k pending) r.held h.1)

pub rows_cut : (u : Database) (n done : ℕ) (old new then : Option (List ℕ)) (pending longer : List ℕ) → RowsSoFar u n done old new pending → done < n
    → longer ≡ pending ++ home_text (of_subscriber u (done + 1)) → AppendsFront longer new then → AppendsFront (rows_told n u) old then
rows_cut u n done old new then pending longer r before e h = rows_up_to u n (done + 1) old new then longer (rows_go_on u n done old new pending longer before r e) h

-- all of it is, and it is the last
no_rows_left : (u : Database) (first left : ℕ) → left ≡ 0 → rows_text u first left ≡ []
no_rows_left u first left e = rw e refl

all_rows : (u : Database) (n done : ℕ) (old new then : Option (List ℕ)) (pending : List ℕ) → RowsSoFar u n done old new pending → n ≤ done → Appends new then pending → Appends old then (rows_told n u)
all_rows u n done old new then pending r end h =
    subst (Appends old then)
    (sym (r.whole ∙ ap (λ ts. r.written ++ ts) (ap (λ ts. pending ++ ts) (no_rows_left u (done + 1) r.left (omega (arith, r.counted, end))) ∙ append-nil pending)))
    (appends_both old new then r.written pending r.held h)

pub rows_end : {E : Type 0} (result : Result (Unit {0}) E) (u : Database) (n done : ℕ) (old new then : Option (List ℕ)) (pending : List ℕ) → RowsSoFar u n done old new pending → n ≤ done
    → OnOk result (Appends new then pending) → OnOk result (Appends old then (rows_told n u))
rows_end result u n done old new then pending r end h = on_ok_weaker result (all_rows u n done old new then pending r end) h

pub rows_end_cut : {E : Type 0} (result : Result (Unit {0}) E) (u : Database) (n done : ℕ) (old new then : Option (List ℕ)) (pending : List ℕ) → RowsSoFar u n done old new pending
    → OnErr result (AppendsFront pending new then) → OnErr result (AppendsFront (rows_told n u) old then)
rows_end_cut result u n done old new then pending r h = on_err_weaker result (rows_up_to u n done old new then pending r) h

-- ---- where no call runs
pub written_at_rest : {E : Type 0} (r : Result (Unit {0}) E) (w : WorldState) (n : ℕ) (old new : Option (List ℕ)) (rest : Bool) → rest ≡ true → (rest ≡ true → set_back w ≡ gathered w)
    → OnOk r (Appends old new (rows_told n (gathered w))) → OnOk r (Appends old new (rows_told n (set_back w)))
written_at_rest r w n old new rest is e h = rw (e is) h

pub cut_at_rest : {E : Type 0} (r : Result (Unit {0}) E) (w : WorldState) (n : ℕ) (old new : Option (List ℕ)) (rest : Bool) → rest ≡ true → (rest ≡ true → set_back w ≡ gathered w)
    → OnErr r (AppendsFront (rows_told n (gathered w)) old new) → OnErr r (AppendsFront (rows_told n (set_back w)) old new)
cut_at_rest r w n old new rest is e h = rw (e is) h

pub nothing_written : (text : List ℕ) (known : Option (List ℕ)) → AppendsFront text known known
nothing_written text known = (0, appends_none known)
