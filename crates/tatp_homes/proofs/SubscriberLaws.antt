-- The rows of one s_id in a database, taken out and put in.
use Rattle.std.specs.Prelude.{◌≡◌, ℕ, Bool, true, false, ◌&&◌, ◌||◌, not, [], ◌∷◌, ◌≢◌}
use Rattle.std.proofs.Common.{refl, sym, ap, ◌∙◌}
use Rattle.std.proofs.lemmas.Bool.{and_parts, false_from_ne_true}
use Rattle.tatp_tables.specs.Tuples.{Tuple, Tuples, has, union}
use Rattle.tatp_tables.proofs.TupleLaws.{same_tuples, has-retain_rows, has-union}
use Rattle.tatp_tables.specs.Keys.{has_key}
use Rattle.tatp_tables.proofs.KeyLaws.{key_heads}
use Rattle.tatp_tables.specs.Database.{Database, in_table, rows_with_s_id, rows_without_s_id, of_subscriber, with_subscriber}
use Rattle.tatp_homes.specs.Home.{HaveSId}
use Rattle.tatp_tables.specs.declared.table.Table.{Table}
use Rattle.tatp_tables.specs.declared.table.Table.TheVariants.{Subscriber, AccessInfo, SpecialFacility, CallForwarding}

-- ---- one table
-- each row has this s_id
abbrev pub AreOf : ℕ → Tuples → Type 0
AreOf s v = (q : Tuple) → has v q ≡ true → has_key (s ∷ []) q ≡ true

pub has-rows_with_s_id : (s : ℕ) (u : Tuples) (q : Tuple) → has (rows_with_s_id s u) q ≡ (has u q && has_key (s ∷ []) q)
has-rows_with_s_id s u q = has-retain_rows (has_key (s ∷ [])) u q

-- the rows of one s_id replaced
abbrev pub replaced_rows : ℕ → Tuples → Tuples → Tuples
replaced_rows s u v = union (rows_without_s_id s u) v

pub has-replaced_rows : (s : ℕ) (u v : Tuples) (q : Tuple) → has (replaced_rows s u v) q ≡ ((has u q && not (has_key (s ∷ []) q)) || has v q)
has-replaced_rows s u v q = has-union (rows_without_s_id s u) v q ∙ ap (λ b. b || has v q) (has-retain_rows (λ row. not (has_key (s ∷ []) row)) u q)

pub AreOf-rows_with_s_id : (s : ℕ) (u : Tuples) → AreOf s (rows_with_s_id s u)
AreOf-rows_with_s_id s u q h = (and_parts (has u q) (has_key (s ∷ []) q) (sym (has-rows_with_s_id s u q) ∙ h)).1

-- by cases on the tests
taken_back : (a h c : Bool) → (c ≡ true → h ≡ true) → (((a && not h) || c) && h) ≡ c
taken_back true true true i = refl
taken_back true true false i = refl
taken_back true false true i = i refl
taken_back true false false i = refl
taken_back false true true i = refl
taken_back false true false i = refl
taken_back false false true i = i refl
taken_back false false false i = refl

put_in_again : (a h : Bool) → ((a && not h) || (a && h)) ≡ a
put_in_again true true = refl
put_in_again true false = refl
put_in_again false h = refl

put_twice : (a h c d : Bool) → (c ≡ true → h ≡ true) → (((((a && not h) || c) && not h) || d)) ≡ ((a && not h) || d)
put_twice true true true d i = refl
put_twice true true false d i = refl
put_twice true false c d i = refl
put_twice false true true d i = refl
put_twice false true false d i = refl
put_twice false false true d i = cc (i refl)
put_twice false false false d i = refl

untouched : (a h c k : Bool) → (c ≡ true → h ≡ true) → (h ≡ true → k ≡ false) → (((a && not h) || c) && k) ≡ (a && k)
untouched a true c true i j = cc (j refl)
untouched true true true false i j = refl
untouched true true false false i j = refl
untouched false true true false i j = refl
untouched false true false false i j = refl
untouched a false true k i j = cc (i refl)
untouched true false false k i j = refl
untouched false false false k i j = refl

kept : (a h : Bool) → (a ≡ true → h ≡ true) → (a && h) ≡ a
kept true true i = refl
kept true false i = cc (i refl)
kept false h i = refl

all_replaced : (a h b : Bool) → (a ≡ true → h ≡ true) → ((a && not h) || b) ≡ b
all_replaced true true b i = refl
all_replaced true false b i = cc (i refl)
all_replaced false h b i = refl

-- rows that are all of one s_id are its rows
pub rows_with_s_id-own : (s : ℕ) (v : Tuples) → AreOf s v → rows_with_s_id s v ≡ v
rows_with_s_id-own s v own = same_tuples _ _ (λ q. has-rows_with_s_id s v q ∙ kept (has v q) (has_key (s ∷ []) q) (own q))

-- and what replaces them is all there is
pub replaced_rows-own : (s : ℕ) (v w : Tuples) → AreOf s v → replaced_rows s v w ≡ w
replaced_rows-own s v w own = same_tuples _ _ (λ q. has-replaced_rows s v w q ∙ all_replaced (has v q) (has_key (s ∷ []) q) (has w q) (own q))

-- what was put in is there
pub rows_with_s_id-replaced : (s : ℕ) (u v : Tuples) → AreOf s v → rows_with_s_id s (replaced_rows s u v) ≡ v
rows_with_s_id-replaced s u v own = same_tuples _ _ (λ q. has-rows_with_s_id s (replaced_rows s u v) q
    ∙ ap (λ b. b && has_key (s ∷ []) q) (has-replaced_rows s u v q)
    ∙ taken_back (has u q) (has_key (s ∷ []) q) (has v q) (own q))

-- to put in what is there changes nothing
pub replaced_rows-same : (s : ℕ) (u : Tuples) → replaced_rows s u (rows_with_s_id s u) ≡ u
replaced_rows-same s u = same_tuples _ _ (λ q. has-replaced_rows s u (rows_with_s_id s u) q
    ∙ ap (λ b. (has u q && not (has_key (s ∷ []) q)) || b) (has-rows_with_s_id s u q)
    ∙ put_in_again (has u q) (has_key (s ∷ []) q))

-- the last that is put in counts
pub replaced_rows-twice : (s : ℕ) (u v w : Tuples) → AreOf s v → replaced_rows s (replaced_rows s u v) w ≡ replaced_rows s u w
replaced_rows-twice s u v w own = same_tuples _ _ (λ q. has-replaced_rows s (replaced_rows s u v) w q
    ∙ ap (λ b. (b && not (has_key (s ∷ []) q)) || has w q) (has-replaced_rows s u v q)
    ∙ put_twice (has u q) (has_key (s ∷ []) q) (has v q) (has w q) (own q)
    ∙ sym (has-replaced_rows s u w q))

other_s_id : (s other : ℕ) → s ≢ other → (q : Tuple) → has_key (s ∷ []) q ≡ true → has_key (other ∷ []) q ≡ false
other_s_id s other n q h = false_from_ne_true (has_key (other ∷ []) q) (λ k. n (key_heads s other q h k))

-- the rows of other s_ids stay
pub rows_with_s_id-other : (s other : ℕ) (u v : Tuples) → s ≢ other → AreOf s v → rows_with_s_id other (replaced_rows s u v) ≡ rows_with_s_id other u
rows_with_s_id-other s other u v n own = same_tuples _ _ (λ q. has-rows_with_s_id other (replaced_rows s u v) q
    ∙ ap (λ b. b && has_key (other ∷ []) q) (has-replaced_rows s u v q)
    ∙ untouched (has u q) (has_key (s ∷ []) q) (has v q) (has_key (other ∷ []) q) (own q) (other_s_id s other n q)
    ∙ sym (has-rows_with_s_id other u q))

-- ---- the four tables
pub HaveSId-of_subscriber : (u : Database) (s : ℕ) → HaveSId s (of_subscriber u s)
HaveSId-of_subscriber u s Subscriber = AreOf-rows_with_s_id s u.subscribers
HaveSId-of_subscriber u s AccessInfo = AreOf-rows_with_s_id s u.accesses
HaveSId-of_subscriber u s SpecialFacility = AreOf-rows_with_s_id s u.facilities
HaveSId-of_subscriber u s CallForwarding = AreOf-rows_with_s_id s u.forwardings

pub in_table-of_subscriber : (t : Table) (u : Database) (s : ℕ) → in_table t (of_subscriber u s) ≡ rows_with_s_id s (in_table t u)
in_table-of_subscriber Subscriber u s = refl
in_table-of_subscriber AccessInfo u s = refl
in_table-of_subscriber SpecialFacility u s = refl
in_table-of_subscriber CallForwarding u s = refl

pub in_table-with_subscriber : (t : Table) (u : Database) (s : ℕ) (v : Database) → in_table t (with_subscriber u s v) ≡ replaced_rows s (in_table t u) (in_table t v)
in_table-with_subscriber Subscriber u s v = refl
in_table-with_subscriber AccessInfo u s v = refl
in_table-with_subscriber SpecialFacility u s v = refl
in_table-with_subscriber CallForwarding u s v = refl

pub of_subscriber-with_subscriber : (u : Database) (s : ℕ) (v : Database) → HaveSId s v → of_subscriber (with_subscriber u s v) s ≡ v
of_subscriber-with_subscriber u s v own = λ i. record {
  subscribers = rows_with_s_id-replaced s u.subscribers v.subscribers (own Subscriber) i;
  accesses = rows_with_s_id-replaced s u.accesses v.accesses (own AccessInfo) i;
  facilities = rows_with_s_id-replaced s u.facilities v.facilities (own SpecialFacility) i;
  forwardings = rows_with_s_id-replaced s u.forwardings v.forwardings (own CallForwarding) i;
}

pub with_subscriber-of_subscriber : (u : Database) (s : ℕ) → with_subscriber u s (of_subscriber u s) ≡ u
with_subscriber-of_subscriber u s = λ i. record {
  subscribers = replaced_rows-same s u.subscribers i;
  accesses = replaced_rows-same s u.accesses i;
  facilities = replaced_rows-same s u.facilities i;
  forwardings = replaced_rows-same s u.forwardings i;
}

pub with_subscriber-with_subscriber : (u : Database) (s : ℕ) (v w : Database) → HaveSId s v → with_subscriber (with_subscriber u s v) s w ≡ with_subscriber u s w
with_subscriber-with_subscriber u s v w own = λ i. record {
  subscribers = replaced_rows-twice s u.subscribers v.subscribers w.subscribers (own Subscriber) i;
  accesses = replaced_rows-twice s u.accesses v.accesses w.accesses (own AccessInfo) i;
  facilities = replaced_rows-twice s u.facilities v.facilities w.facilities (own SpecialFacility) i;
  forwardings = replaced_rows-twice s u.forwardings v.forwardings w.forwardings (own CallForwarding) i;
}

pub of_subscriber-with_other : (u : Database) (s other : ℕ) (v : Database) → s ≢ other → HaveSId s v → of_subscriber (with_subscriber u s v) other ≡ of_subscriber u other
of_subscriber-with_other u s other v n own = λ i. record {
  subscribers = rows_with_s_id-other s other u.subscribers v.subscribers n (own Subscriber) i;
  accesses = rows_with_s_id-other s other u.accesses v.accesses n (own AccessInfo) i;
  facilities = rows_with_s_id-other s other u.facilities v.facilities n (own SpecialFacility) i;
  forwardings = rows_with_s_id-other s other u.forwardings v.forwardings n (own CallForwarding) i;
}

pub of_subscriber-own : (v : Database) (s : ℕ) → HaveSId s v → of_subscriber v s ≡ v
of_subscriber-own v s own = λ i. record {
  subscribers = rows_with_s_id-own s v.subscribers (own Subscriber) i;
  accesses = rows_with_s_id-own s v.accesses (own AccessInfo) i;
  facilities = rows_with_s_id-own s v.facilities (own SpecialFacility) i;
  forwardings = rows_with_s_id-own s v.forwardings (own CallForwarding) i;
}

pub with_subscriber-own : (v : Database) (s : ℕ) (w : Database) → HaveSId s v → with_subscriber v s w ≡ w
with_subscriber-own v s w own = λ i. record {
  subscribers = replaced_rows-own s v.subscribers w.subscribers (own Subscriber) i;
  accesses = replaced_rows-own s v.accesses w.accesses (own AccessInfo) i;
  facilities = replaced_rows-own s v.facilities w.facilities (own SpecialFacility) i;
  forwardings = replaced_rows-own s v.forwardings w.forwardings (own CallForwarding) i;
}
