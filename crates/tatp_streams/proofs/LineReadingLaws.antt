-- Lines that are taken one after another.
use Rattle.std.proofs.Common.{◌≡◌, ℕ, ◌+◌, ◌-◌, ◌*◌, ◌<◌, ◌≤◌, ◌∙◌, refl, sym, ap, subst, Bool, true, false, cond, not, List, [], ◌∷◌, ◌++◌, length, take, drop, Option, Some, None, arith, eqb, ltb, length-append, length-drop, length-take-le, append_assoc, take_all}
use Rattle.std.specs.List.{position, position_or_len}
use Rattle.std.specs.Option.{option_map, IfSome}
use Rattle.std.specs.Io.KnownBytes.{Consumes, IsAtEnd}
use Rattle.std.proofs.lemmas.Bool.Decides.{nat_tests}
use Rattle.std.proofs.Math.Seq.{drop-length}
use Rattle.std.proofs.lemmas.List.{append-nil, take-append-drop, take-append-le, drop-append-le}
use Rattle.std.proofs.lemmas.List.Folds.{prefix_len-append}
use Rattle.std.proofs.lemmas.List.Sums.{prefix_len-le-length}
use Rattle.std.proofs.lemmas.Option.{same_Some, none-some}
use Rattle.tatp_limits.specs.declared.limits.TheConstants.{MAX_INPUT_LIMIT}
use Rattle.tatp_lines.specs.Lines.{lines_of}
use Rattle.tatp_lines.proofs.LineLaws.{is_line_feed, lines_of-nil, lines_of_first, lines_of_last}
use Rattle.tatp_streams.specs.LineReading.{LineReaderState, nothing_taken, LinesLeft, IsWithinLimit, left_with, lines_left, Stays, Relates, steps_left, with_line, TakesLine, MeetsEnd, ReadsMore, HasNoLineFeed, HoldsNoLine, IsFirstLine}

-- ---- the place of the first line feed
place_of_none : (n l : ℕ) → n ≤ l → cond (ltb n l) (Some n) None ≡ None → n ≡ l
place_of_none n l h e = grind (arith, nat_tests)

none_of_place : (n l : ℕ) → n ≡ l → cond {A = Option ℕ} (ltb n l) (Some n) None ≡ None
none_of_place n l e = grind (arith, nat_tests)

place_of_some : (n l k : ℕ) → cond (ltb n l) (Some n) None ≡ Some k → (n ≡ k) × (n < l)
place_of_some n l k e = (grind (arith, nat_tests), grind (arith, nat_tests))

no_place : (bytes : List ℕ) → HasNoLineFeed bytes → position_or_len is_line_feed bytes ≡ length bytes
no_place bytes h = place_of_none (position_or_len is_line_feed bytes) (length bytes) (prefix_len-le-length (λ b. not (is_line_feed b)) bytes) h

after_all : (n l m : ℕ) → n ≡ l → cond (eqb n l) (l + m) n ≡ l + m
after_all n l m e = grind (arith, nat_tests)

before_all : (n l m : ℕ) → n < l → cond (eqb n l) m n ≡ n
before_all n l m h = grind (arith, nat_tests)

-- it is the same, whatever follows
place_kept : (bytes more : List ℕ) → position_or_len is_line_feed bytes < length bytes → position_or_len is_line_feed (bytes ++ more) ≡ position_or_len is_line_feed bytes
place_kept bytes more h =
    prefix_len-append (λ b. not (is_line_feed b)) bytes more
    ∙ before_all (position_or_len is_line_feed bytes) (length bytes) (length bytes + position_or_len is_line_feed more) h

-- bytes without one stand before it
place_after : (clear rest : List ℕ) → HasNoLineFeed clear → position_or_len is_line_feed (clear ++ rest) ≡ length clear + position_or_len is_line_feed rest
place_after clear rest h =
    prefix_len-append (λ b. not (is_line_feed b)) clear rest
    ∙ after_all (position_or_len is_line_feed clear) (length clear) (position_or_len is_line_feed rest) (no_place clear h)

place_past : (bytes : List ℕ) (clear : ℕ) → clear ≤ length bytes → HasNoLineFeed (take clear bytes) → position_or_len is_line_feed bytes ≡ clear + position_or_len is_line_feed (drop clear bytes)
place_past bytes clear h none =
    ap (position_or_len is_line_feed) (sym (take-append-drop clear bytes)) ∙ place_after (take clear bytes) (drop clear bytes) none
    ∙ ap (λ n. n + position_or_len is_line_feed (drop clear bytes)) (length-take-le clear bytes h)

-- ---- the first line
-- it ends at a line feed
found : (bytes more : List ℕ) (n : ℕ) → position_or_len is_line_feed bytes ≡ n → n < length bytes
    → lines_of (bytes ++ more) ≡ take n bytes ∷ lines_of (drop (n + 1) bytes ++ more)
found bytes more n e h =
    let here : position_or_len is_line_feed (bytes ++ more) ≡ n = place_kept bytes more (omega (arith, e, h)) ∙ e in
    lines_of_first (bytes ++ more) (take n bytes) (drop (n + 1) bytes ++ more) (omega (arith, here, h, length-append bytes more))
    (sym (ap (λ k. take k (bytes ++ more)) here ∙ take-append-le n bytes more (omega (arith, h))))
    (sym (ap (λ k. drop (k + 1) (bytes ++ more)) here ∙ drop-append-le (n + 1) bytes more (omega (arith, h))))

pub line_found : (bytes : List ℕ) (clear at : ℕ) (ended : Bool) → clear ≤ length bytes → HasNoLineFeed (take clear bytes) → position (λ byte. eqb byte 10) (drop clear bytes) ≡ Some at
    → IsFirstLine bytes ended (clear + at) (clear + at + 1)
line_found bytes clear at ended h none e =
    let p = place_of_some (position_or_len is_line_feed (drop clear bytes)) (length (drop clear bytes)) at e in
    let here : position_or_len is_line_feed bytes ≡ clear + at = place_past bytes clear h none ∙ ap (λ n. clear + n) p.0 in
    let within : clear + at < length bytes = omega (arith, p.0, p.1, h, length-drop clear bytes) in
    record {
      some = omega arith;
      long_within = omega arith;
      taken_within = omega (arith, within);
      first = λ more end. found bytes more (clear + at) here within;
    }

-- none has one
pub none_found : (bytes : List ℕ) (clear : ℕ) → clear ≤ length bytes → HasNoLineFeed (take clear bytes) → position (λ byte. eqb byte 10) (drop clear bytes) ≡ None → HasNoLineFeed bytes
none_found bytes clear h none e =
    none_of_place (position_or_len is_line_feed bytes) (length bytes)
    (place_past bytes clear h none ∙ (ap (λ n. clear + n) (no_place (drop clear bytes) e) ∙ omega (arith, h, length-drop clear bytes)))

-- the last lacks it
last_alone : (bytes : List ℕ) → 0 < length bytes → HasNoLineFeed bytes → lines_of (bytes ++ []) ≡ take (length bytes) bytes ∷ lines_of (drop (length bytes) bytes ++ [])
last_alone bytes some none =
    ap lines_of (append-nil bytes) ∙ lines_of_last bytes some (omega (arith, no_place bytes none))
    ∙ sym (ap (λ line. line ∷ lines_of (drop (length bytes) bytes ++ [])) (take_all (length bytes) bytes (omega arith)) ∙ ap (λ rest. bytes ∷ lines_of (rest ++ [])) (drop-length bytes))

pub last_found : (bytes : List ℕ) (ended : Bool) → ended ≡ true → 0 < length bytes → HasNoLineFeed bytes → IsFirstLine bytes ended (length bytes) (length bytes)
last_found bytes ended e some none = record {
  some = some;
  long_within = omega arith;
  taken_within = omega arith;
  first = λ more end. subst (λ later. lines_of (bytes ++ later) ≡ take (length bytes) bytes ∷ lines_of (drop (length bytes) bytes ++ later)) (sym (end e)) (last_alone bytes some none);
}

pub empty_is_nil : (bytes : List ℕ) → length bytes ≡ 0 → bytes ≡ []
empty_is_nil [] h = refl
empty_is_nil (b ∷ bs) h = absurd (omega (arith, h))

-- ---- steps of a reader of lines
fewer_by : (ahead ahead' : List ℕ) (n n' e e' taken : ℕ) → 0 < taken → taken ≤ length ahead → ahead' ≡ drop taken ahead → n' ≡ n → e' ≡ e
    → n' + length ahead' + e' < n + length ahead + e
fewer_by ahead ahead' n n' e e' taken some within h same ended = omega (arith, some, within, ap length h, length-drop taken ahead, same, ended)

same_left : (a b : LinesLeft) → a.lines ≡ b.lines → a.input.bytes ≡ b.input.bytes → a.input.limit ≡ b.input.limit → a ≡ b
same_left a b lines bytes limit = rw (lines, bytes, limit) refl

none_past_end : (ended : Bool) (more : List ℕ) → ended ≡ true → cond ended [] more ≡ []
none_past_end true more e = refl
none_past_end false more e = cc

all_before_end : (ended : Bool) (more : List ℕ) → (ended ≡ true → more ≡ []) → cond ended [] more ≡ more
all_before_end true more h = sym (h refl)
all_before_end false more h = refl

-- the first line is taken
taken_of : (ahead : List ℕ) (line ahead' more : List ℕ) (ended : Bool) (long taken : ℕ) → IsFirstLine ahead ended long taken → line ≡ take long ahead → ahead' ≡ drop taken ahead
    → line ∷ lines_of (ahead' ++ cond ended [] more) ≡ lines_of (ahead ++ cond ended [] more)
taken_of ahead line ahead' more ended long taken h l r = rw (l, r) (sym (h.first (cond ended [] more) (none_past_end ended more)))

left_of_known : (old new : LineReaderState) (known : Option (List ℕ))
    → ((more : List ℕ) → with_line new.line (left_with new (cond new.ended [] more)) ≡ left_with old (cond old.ended [] more))
    → Stays (lines_left old known) (option_map (with_line new.line) (lines_left new known))
left_of_known old new None h = tt
left_of_known old new (Some more) h = ap Some (h more)

pub takes_line : (old new : LineReaderState) (known : Option (List ℕ)) (long taken : ℕ) → IsFirstLine old.ahead old.ended long taken
    → new.line ≡ take long old.ahead → new.ahead ≡ drop taken old.ahead → new.count ≡ old.count → new.limit ≡ old.limit → new.ended ≡ old.ended → new.number ≡ old.number + 1 → new.number ≤ MAX_INPUT_LIMIT → TakesLine old known new known
takes_line old new known long taken h line ahead count limit ended number few = record {
  left = left_of_known old new known
      (λ more. same_left (with_line new.line (left_with new (cond new.ended [] more))) (left_with old (cond old.ended [] more))
      (rw ended (taken_of old.ahead new.line new.ahead more old.ended long taken h line ahead))
      (rw (count, ended) refl) limit);
  number = number;
  few = few;
  fewer = fewer_by old.ahead new.ahead (2 * (old.limit - old.count)) (2 * (new.limit - new.count)) (cond old.ended 0 1) (cond new.ended 0 1) taken
      h.some h.taken_within ahead (rw (count, limit) refl) (ap (λ b. cond b 0 1) ended);
}

-- bytes are read
pub not_true : (b : Bool) → not b ≡ true → b ≡ false
not_true true e = cc
not_true false e = refl

pub not_false : (b : Bool) → not b ≡ false → b ≡ true
not_false true e = refl
not_false false e = cc

read_on : (ahead xs ys read : List ℕ) → xs ≡ read ++ ys → (ahead ++ read) ++ ys ≡ ahead ++ xs
read_on ahead xs ys read e = append_assoc ahead read ys ∙ ap (λ more. ahead ++ more) (sym e)

left_after : (old new : LineReaderState) (had has : Option (List ℕ)) (read : List ℕ) → Consumes had has read → old.ended ≡ false → (new.ended ≡ true → IsAtEnd has)
    → new.ahead ≡ old.ahead ++ read → new.count ≡ old.count + length read → new.limit ≡ old.limit → Stays (lines_left old had) (lines_left new has)
left_after old new None has read c o e a n limit = tt
left_after old new (Some xs) None read c o e a n limit = absurd c
left_after old new (Some xs) (Some ys) read c o e a n limit =
    ap Some (same_left (left_with new (cond new.ended [] ys)) (left_with old (cond old.ended [] xs))
    (rw (o, all_before_end new.ended ys e, a) (ap lines_of (read_on old.ahead xs ys read c)))
    (rw (o, all_before_end new.ended ys e, n) (omega (arith, ap length c, length-append read ys))) limit)

fewer_after : (c c' a a' k e' most : ℕ) (ended : Bool) → c' ≡ c + k → a' ≡ a + k → c' ≤ most → e' ≡ cond ended 0 1 → (ended ≡ false → 0 < k)
    → 2 * (most - c') + a' + e' < 2 * (most - c) + a + 1
fewer_after c c' a a' k e' most true count ahead within e more = omega (arith, count, ahead, within, e)
fewer_after c c' a a' k e' most false count ahead within e more = omega (arith, count, ahead, within, e, more refl)

pub reads_more : (old new : LineReaderState) (had has : Option (List ℕ)) (read : List ℕ) → Consumes had has read → old.ended ≡ false → (new.ended ≡ true → IsAtEnd has) → (new.ended ≡ false → 0 < length read)
    → new.ahead ≡ old.ahead ++ read → new.count ≡ old.count + length read → new.limit ≡ old.limit → new.count ≤ old.limit → new.number ≡ old.number → ReadsMore old had new has
reads_more old new had has read c o e more a n limit within number = record {
  left = left_after old new had has read c o e a n limit;
  number = number;
  fewer = rw (o, limit) (fewer_after old.count new.count (length old.ahead) (length new.ahead) (length read) (cond new.ended 0 1) old.limit new.ended n (ap length a ∙ length-append old.ahead read) within refl more);
}

-- the end
none_left : (s : LineReaderState) (known : Option (List ℕ)) → HoldsNoLine s → s.ended ≡ true → IfSome (lines_left s known) (λ left. left.lines ≡ [])
none_left s None h e = tt
none_left s (Some more) h e = rw (h.last e, e) lines_of-nil

no_longer : (s : LineReaderState) (known : Option (List ℕ)) → s.ended ≡ true → s.count ≤ s.limit → IfSome (lines_left s known) (λ left. IsWithinLimit left.input)
no_longer s None e h = tt
no_longer s (Some more) e h = rw e (omega (arith, h))

-- ---- one step after another
pub stays_same : {A : Type 0} (a : Option A) → Stays a a
stays_same None = tt
stays_same (Some x) = refl

pub stays_both : {A : Type 0} (a b c : Option A) → Stays a b → Stays b c → Stays a c
stays_both None b c h k = tt
stays_both (Some x) None c h k = absurd (none-some x h)
stays_both (Some x) (Some y) c h k = k ∙ h

pub takes_later : (old now new : LineReaderState) (had have has : Option (List ℕ)) → Stays (lines_left old had) (lines_left now have) → now.number ≡ old.number → steps_left now ≤ steps_left old
    → TakesLine now have new has → TakesLine old had new has
takes_later old now new had have has same number fewer t = record {
  left = stays_both (lines_left old had) (lines_left now have) (option_map (with_line new.line) (lines_left new has)) same t.left;
  number = t.number ∙ ap (λ n. n + 1) number;
  few = t.few;
  fewer = omega (arith, fewer, t.fewer);
}

pub meets_end : (old now : LineReaderState) (had has : Option (List ℕ)) → Stays (lines_left old had) (lines_left now has) → now.number ≡ old.number
    → HoldsNoLine now → now.ended ≡ true → now.count ≤ now.limit → MeetsEnd old had now has
meets_end old now had has same number none ended within = record {
  left = same;
  none = none_left now has none ended;
  within = no_longer now has ended within;
  number = number;
}

-- ---- what holds of the lines that were left and that are
pub relates_from_start : (all : Option LinesLeft) (P : LinesLeft → LinesLeft → Type 0) → ((left : LinesLeft) → P left left) → Relates all all P
relates_from_start None P h = tt
relates_from_start (Some left) P h = h left

pub relates_line : (all left left' : Option LinesLeft) (line : List ℕ) (P Q : LinesLeft → LinesLeft → Type 0) → Relates all left P → Stays left (option_map (with_line line) left')
    → ((a l : LinesLeft) → P a (with_line line l) → Q a l) → Relates all left' Q
relates_line None left left' line P Q h s so = tt
relates_line (Some a) None left' line P Q h s so = absurd h
relates_line (Some a) (Some l) None line P Q h s so = absurd (none-some l s)
relates_line (Some a) (Some l) (Some k) line P Q h s so = so a k (subst (P a) (sym (same_Some (with_line line k) l s)) h)

pub relates_end : (all left left' : Option LinesLeft) (P Q : LinesLeft → LinesLeft → Type 0) → Relates all left P → Stays left left'
    → IfSome left' (λ l. l.lines ≡ []) → IfSome left' (λ l. IsWithinLimit l.input)
    → ((a l : LinesLeft) → l.lines ≡ [] → IsWithinLimit l.input → P a l → Q a l) → Relates all left' Q
relates_end None left left' P Q h s none within so = tt
relates_end (Some a) None left' P Q h s none within so = absurd h
relates_end (Some a) (Some l) None P Q h s none within so = absurd (none-some l s)
relates_end (Some a) (Some l) (Some k) P Q h s none within so = so a k none within (subst (P a) (sym (same_Some k l s)) h)

pub relates_as : (all left : Option LinesLeft) (P Q : LinesLeft → LinesLeft → Type 0) → Relates all left P → ((a l : LinesLeft) → P a l → Q a l) → Relates all left Q
relates_as None left P Q h so = tt
relates_as (Some a) None P Q h so = absurd h
relates_as (Some a) (Some l) P Q h so = so a l h

-- one after another
pub relates_then : (all between left : Option LinesLeft) (P Q R : LinesLeft → LinesLeft → Type 0) → Relates all between P → Relates between left Q
    → ((a b l : LinesLeft) → P a b → Q b l → R a l) → Relates all left R
relates_then None between left P Q R h k so = tt
relates_then (Some a) None left P Q R h k so = absurd h
relates_then (Some a) (Some b) None P Q R h k so = absurd k
relates_then (Some a) (Some b) (Some l) P Q R h k so = so a b l h k

pub relates_known : (all left : Option LinesLeft) (P : LinesLeft → LinesLeft → Type 0) (Q R : LinesLeft → Type 0) → Relates all left P → IfSome left Q → ((a l : LinesLeft) → P a l → Q l → R a) → IfSome all R
relates_known None left P Q R h k so = tt
relates_known (Some a) None P Q R h k so = absurd h
relates_known (Some a) (Some l) P Q R h k so = so a l h k

-- of the lines that were left alone
pub relates_all : (all left : Option LinesLeft) (P : LinesLeft → LinesLeft → Type 0) (Q : LinesLeft → Type 0) → Relates all left P → ((a l : LinesLeft) → P a l → Q a) → IfSome all Q
relates_all None left P Q h so = tt
relates_all (Some a) None P Q h so = absurd h
relates_all (Some a) (Some l) P Q h so = so a l h

-- ---- an input of which nothing is taken
pub of_input : (known : Option (List ℕ)) (limit : ℕ) (P : LinesLeft → Type 0) → IfSome (lines_left (nothing_taken limit) known) P
    → IfSome known (λ input. P (record { lines = lines_of input; input = record { bytes = length input; limit = limit } }))
of_input None limit P h = tt
of_input (Some input) limit P h =
    let whole : 0 + length input ≡ length input = omega arith in
    subst (λ n. P (record { lines = lines_of input; input = record { bytes = n; limit = limit } })) whole h
