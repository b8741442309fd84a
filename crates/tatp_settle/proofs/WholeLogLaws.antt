-- Whole logs, joined from their parts: in which part an entry stands.
use Rattle.std.proofs.Common.{◌≡◌, ℕ, zero, suc, ◌+◌, ◌-◌, ◌<◌, ◌≤◌, inl, inr, true, false, leb, List, [], ◌∷◌, ◌++◌, length, get_or, Option, Some, None, SomeIff, IfSome, slice_get, Bor, refl, sym, ◌∙◌, ap, subst, append-nil, length-append, arith}
use Rattle.std.specs.List.Sorted.{IsNonDecreasingBy, IsPartitionPoint, IsPartitionedBy}
use Rattle.std.specs.Option.{option_copied}
use Rattle.std.proofs.lemmas.Bool.{leb-true, leb-false, cases_lt}
use Rattle.std.proofs.lemmas.List.{flat_map_more}
use Rattle.std.proofs.lemmas.List.Sorted.{IsPartitionedBy-leb}
use Rattle.std.proofs.lemmas.Option.{same_Some, none-some, slice_get_within, slice_get_past, slice_get-get_or, get_or_from_slice_get}
use Rattle.tatp_calls.specs.declared.entry.Entry.{Entry}
use Rattle.tatp_logs.specs.Logs.{IsOfCall}
use Rattle.tatp_settle.specs.declared.log_parts.JoinedPart.{JoinedPart}
use Rattle.tatp_settle.specs.WholeLogs.{entries_of_parts, AreJoined, entry_in_part}

abbrev pub entries_in : JoinedPart → List Entry
entries_in part = part.entries.now.entries

-- ---- one part more
pub some_sum : (o : Option ℕ) (P : Type 0) (sum x : ℕ) → SomeIff o P sum → o ≡ Some x → x ≡ sum
some_sum None P sum x h is = absurd (none-some x is)
some_sum (Some y) P sum x h is = sym (same_Some y x is) ∙ h.1

pub joined_more : (before : ℕ) (parts : List JoinedPart) (part : JoinedPart) (len : ℕ) → AreJoined before parts len → part.first ≡ len → AreJoined before (parts ++ part ∷ []) (len + length (entries_in part))
joined_more before [] part len h is = (is ∙ h, ap (λ (n : ℕ). n + length (entries_in part)) h)
joined_more before (p ∷ parts) part len h is = (h.0, joined_more (before + length (entries_in p)) parts part len h.1 is)

pub entries_more : (parts : List JoinedPart) (part : JoinedPart) (log : List Entry) → entries_of_parts parts ≡ log → entries_of_parts (parts ++ part ∷ []) ≡ log ++ entries_in part
entries_more parts part log is = sym (flat_map_more entries_in [] parts part) ∙ ap (λ (l : List Entry). l ++ entries_in part) is

-- how many entries there are
pub counted : (before : ℕ) (parts : List JoinedPart) (len : ℕ) → AreJoined before parts len → before + length (entries_of_parts parts) ≡ len
counted before [] len h = omega (arith, h)
counted before (p ∷ more) len h =
    let rest = counted (before + length (entries_in p)) more len h.1 in
    let both = length-append (entries_in p) (entries_of_parts more) in
    omega (arith, rest, both)

-- ---- the entry of a place
got_front : {A : Type 0} (xs ys : List A) (n : ℕ) → n < length xs → slice_get (xs ++ ys) n ≡ slice_get xs n
got_front [] ys n l = absurd (omega (arith, l))
got_front (x ∷ xs) ys zero l = refl
got_front (x ∷ xs) ys (suc n) l = got_front xs ys n (omega (arith, l))

got_back : {A : Type 0} (xs ys : List A) (n : ℕ) → length xs ≤ n → slice_get (xs ++ ys) n ≡ slice_get ys (n - length xs)
got_back [] ys n l = ap (λ (m : ℕ). slice_get ys m) (let e : n ≡ n - 0 = omega arith in e)
got_back (x ∷ xs) ys zero l = absurd (omega (arith, l))
got_back (x ∷ xs) ys (suc n) l = got_back xs ys n (omega (arith, l)) ∙ ap (λ (m : ℕ). slice_get ys m) (let e : n - length xs ≡ suc n - suc (length xs) = omega arith in e)

pub none_there : {A : Type 0} (xs : List A) (n : ℕ) → n < length xs → slice_get xs n ≡ None → ⊥
none_there [] n l e = omega (arith, l)
none_there (x ∷ xs) zero l e = none-some x (sym e)
none_there (x ∷ xs) (suc n) l e = none_there xs n (omega (arith, l)) e

-- no part begins before the first
first_least : (before : ℕ) (parts : List JoinedPart) (len j : ℕ) (p : JoinedPart) → AreJoined before parts len → slice_get parts j ≡ Some p → before ≤ p.first
first_least before [] len j p h at = absurd (none-some p at)
first_least before (q ∷ more) len zero p h at = let is : q.first ≡ p.first = ap (λ (x : JoinedPart). x.first) (same_Some q p at) in omega (arith, h.0, is)
first_least before (q ∷ more) len (suc j) p h at = let rest = first_least (before + length (entries_in q)) more len j p h.1 at in omega (arith, rest)

parts_rise : (before : ℕ) (parts : List JoinedPart) (len : ℕ) → AreJoined before parts len → IsNonDecreasingBy (λ (p : JoinedPart). p.first) parts
parts_rise before [] len h i j d l w = absurd (omega (arith, w))
parts_rise before (p ∷ more) len h zero zero d l w = omega arith
parts_rise before (p ∷ more) len h zero (suc j) d l w =
    let rest = first_least (before + length (entries_in p)) more len j (get_or more j d) h.1 (slice_get-get_or more j d (omega (arith, w))) in
    omega (arith, h.0, rest)
parts_rise before (p ∷ more) len h (suc i) zero d l w = absurd (omega (arith, l))
parts_rise before (p ∷ more) len h (suc i) (suc j) d l w = parts_rise (before + length (entries_in p)) more len h.1 i j d (omega (arith, l)) (omega (arith, w))

-- no part that begins by a place comes after one that begins later
pub parts_parted : (parts : List JoinedPart) (len index : ℕ) → AreJoined 0 parts len → IsPartitionedBy (λ (p : JoinedPart). leb p.first index) parts
parts_parted parts len index h = IsPartitionedBy-leb (λ (p : JoinedPart). p.first) parts index (parts_rise 0 parts len h)

in_first : (q : JoinedPart) (more : List JoinedPart) (len index : ℕ) → AreJoined (q.first + length (entries_in q)) more len → ((r : JoinedPart) → slice_get more 0 ≡ Some r → index < r.first) → q.first ≤ index
    → slice_get (entries_of_parts (q ∷ more)) (index - q.first) ≡ slice_get (entries_in q) (index - q.first)
in_first q [] len index h last l = ap (λ (xs : List Entry). slice_get xs (index - q.first)) (append-nil (entries_in q))
in_first q (r ∷ more) len index h last l = let k = last r refl in got_front (entries_in q) (entries_of_parts (r ∷ more)) (index - q.first) (omega (arith, k, h.0, l))

-- the last part that begins by the place has its entry, if any has
in_part : (before : ℕ) (parts : List JoinedPart) (len j index : ℕ) (p : JoinedPart) → AreJoined before parts len → slice_get parts j ≡ Some p → p.first ≤ index → ((q : JoinedPart) → slice_get parts (suc j) ≡ Some q → index < q.first)
    → slice_get (entries_of_parts parts) (index - before) ≡ slice_get (entries_in p) (index - p.first)
in_part before [] len j index p h at l last = absurd (none-some p at)
in_part before (q ∷ more) len zero index p h at l last =
    let is : q ≡ p = same_Some q p at in
    ap (λ (n : ℕ). slice_get (entries_of_parts (q ∷ more)) (index - n)) (sym h.0)
    ∙ (in_first q more len index (subst (λ (n : ℕ). AreJoined (n + length (entries_in q)) more len) (sym h.0) h.1) last (subst (λ (x : JoinedPart). x.first ≤ index) (sym is) l)
    ∙ ap (λ (x : JoinedPart). slice_get (entries_in x) (index - x.first)) is)
in_part before (q ∷ more) len (suc j) index p h at l last =
    let least : before + length (entries_in q) ≤ p.first = first_least (before + length (entries_in q)) more len j p h.1 at in
    let further : (index - before) - length (entries_in q) ≡ index - (before + length (entries_in q)) = omega arith in
    got_back (entries_in q) (entries_of_parts more) (index - before) (omega (arith, least, l))
    ∙ (ap (λ (n : ℕ). slice_get (entries_of_parts more) n) further ∙ in_part (before + length (entries_in q)) more len j index p h.1 at l last)

pub stands_around : (parts : List JoinedPart) (len j index : ℕ) (p : JoinedPart) → AreJoined 0 parts len → slice_get parts j ≡ Some p → p.first ≤ index → ((q : JoinedPart) → slice_get parts (suc j) ≡ Some q → index < q.first)
    → slice_get (entries_of_parts parts) index ≡ slice_get (entries_in p) (index - p.first)
stands_around parts len j index p h at l last = ap (λ (n : ℕ). slice_get (entries_of_parts parts) n) (let e : index ≡ index - 0 = omega arith in e) ∙ in_part 0 parts len j index p h at l last

-- where the next part, if there is one, begins at this end
pub stands_before_end : (parts : List JoinedPart) (len number index end : ℕ) (p : JoinedPart) (next : Option (Bor JoinedPart)) → AreJoined 0 parts len → slice_get parts number ≡ Some p → option_copied next ≡ slice_get parts (number + 1)
    → IfSome next (λ (q : Bor JoinedPart). end ≡ q.now.first) → p.first ≤ index → index < end → slice_get (entries_of_parts parts) index ≡ slice_get (entries_in p) (index - p.first)
stands_before_end parts len number index end p next h at is ends l lt = stands_around parts len number index p h at l (λ q k. later next is ends q (ap (λ (n : ℕ). slice_get parts n) (let e : number + 1 ≡ suc number = omega arith in e) ∙ k))
  where
    later : (next : Option (Bor JoinedPart)) → option_copied next ≡ slice_get parts (number + 1) → IfSome next (λ (q : Bor JoinedPart). end ≡ q.now.first) → (q : JoinedPart) → slice_get parts (number + 1) ≡ Some q → index < q.first
    later None is ends q k = absurd (none-some q (is ∙ k))
    later (Some r) is ends q k = let same : r.now.first ≡ q.first = ap (λ (x : JoinedPart). x.first) (same_Some r.now q (is ∙ k)) in omega (arith, lt, ends, same)

-- so many parts begin by the place
abbrev pub Begin : List JoinedPart → ℕ → ℕ → Type 0
Begin parts index count = IsPartitionPoint (λ (p : JoinedPart). leb p.first index ≡ true) (λ (p : JoinedPart). leb p.first index ≡ false) parts count

-- where none does, there is no part
pub none_begins : (parts : List JoinedPart) (len index : ℕ) → AreJoined 0 parts len → Begin parts index 0 → slice_get (entries_of_parts parts) index ≡ None
none_begins [] len index h begin = refl
none_begins (p ∷ more) len index h begin =
    let above : index < p.first = leb-false p.first index (begin.1 0 p (omega arith) (omega arith)) in
    absurd (omega (arith, above, h.0))

module _ (parts : List JoinedPart) (len index count : ℕ) (h : AreJoined 0 parts len) (begin : Begin parts index count) (some : 1 ≤ count) where
  begins_by : (p : JoinedPart) → slice_get parts (count - 1) ≡ Some p → p.first ≤ index
  begins_by p at =
      let is : get_or parts (count - 1) p ≡ p = get_or_from_slice_get parts (count - 1) p p at in
      leb-true p.first index (subst (λ (x : JoinedPart). leb x.first index ≡ true) is (begin.0 (count - 1) p (omega arith) (omega (arith, some))))

  next_later : (q : JoinedPart) → slice_get parts (suc (count - 1)) ≡ Some q → index < q.first
  next_later q at =
      let within = slice_get_within parts (suc (count - 1)) q at in
      let is : get_or parts (suc (count - 1)) q ≡ q = get_or_from_slice_get parts (suc (count - 1)) q q at in
      leb-false q.first index (subst (λ (x : JoinedPart). leb x.first index ≡ false) is (begin.1 (suc (count - 1)) q (omega (arith, some)) within))

  stands_in : (p : JoinedPart) → slice_get parts (count - 1) ≡ Some p → slice_get (entries_of_parts parts) index ≡ slice_get (entries_in p) (index - p.first)
  stands_in p at = stands_around parts len (count - 1) index p h at (begins_by p at) next_later

  -- the last of them begins by it, and has its entry
  pub last_begins : (r : Option (Bor JoinedPart)) → option_copied r ≡ slice_get parts (count - 1) → IfSome r (λ (part : Bor JoinedPart). part.now.first ≤ index)
  last_begins None is = tt
  last_begins (Some p) is = begins_by p.now (sym is)

  pub last_has : (r : Option (Bor JoinedPart)) → count ≤ length parts → option_copied r ≡ slice_get parts (count - 1) → slice_get (entries_of_parts parts) index ≡ entry_in_part (option_copied r) index
  last_has (Some p) all is = stands_in p.now (sym is)
  last_has None all is = absurd (none_there parts (count - 1) (omega (arith, some, all)) (sym is))

-- ---- whose call an entry is
pub within_part : (log : List Entry) (index : ℕ) (p : JoinedPart) → index < length log → slice_get log index ≡ slice_get (entries_in p) (index - p.first) → index - p.first < length (entries_in p)
within_part log index p l is = elim (cases_lt (index - p.first) (length (entries_in p))) as (λ _. index - p.first < length (entries_in p)) [
  | inl less ↦ less
  | inr past ↦ absurd (none_there log index l (is ∙ slice_get_past (entries_in p) (index - p.first) past))
]

pub call_of_part : (log : List Entry) (index : ℕ) (p : JoinedPart) (client number : ℕ) → slice_get log index ≡ slice_get (entries_in p) (index - p.first) → IsOfCall (entries_in p) (index - p.first) client number → IsOfCall log index client number
call_of_part log index p client number is call = record { entry = call.entry; stands = is ∙ call.stands; of_client = call.of_client; of_number = call.of_number }
