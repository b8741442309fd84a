-- What a directory answers is the home of the key among the set of its rows.
use Rattle.std.specs.Prelude.{◌≡◌, ℕ, ◌≤◌, ◌<◌, Bool, cond, nat_le, nat_eq, ◌&&◌, List, [], ◌∷◌, Some, None, find, length, count_by}
use Rattle.std.specs.Option.{option_map}
use Rattle.std.specs.Map.{lookup}
use Rattle.std.specs.Ordering.{nat_cmp}
use Rattle.std.specs.Cmp.{nat_cmp_total, unsigned_tied}
use Rattle.std.specs.FinMap as map
use Rattle.std.proofs.Common.{sym, ap, ◌∙◌, arith, inl, inr}
use Rattle.std.proofs.lemmas.Bool.{and_from, and_left, and_right, cases_lt, cond-true, cond-false, le-leb, lt-leb}
use Rattle.tatp_tables.specs.Tuples.{Tuple, rows_of, set_of}
use Rattle.tatp_tables.specs.Keys.{has_key, has_number}
use Rattle.tatp_tables.specs.Clean.{count_of_key}
use Rattle.tatp_tables.proofs.FindLaws.{find-set_of}
use Rattle.tatp_numbers.specs.Homes.{s_id_of, home_of_key}
use Rattle.tatp_numbers.specs.Listing.{Listing, answer}
use Rattle.tatp_numbers.specs.Lists.{s_id_at, IdsRunToLength, NumbersStandOnce}
use Rattle.tatp_numbers.specs.declared.key.Key.{Key}
use Rattle.tatp_numbers.specs.declared.key.Key.TheVariants.{Id, Number}
use Rattle.tatp_numbers.proofs.IdLaws.{no_other_id}
use Rattle.tatp_numbers.proofs.FindLaws.{none_found, s_id_found, PassesOnce-counted}

-- what is looked up in the finite map of entries
pub get-from_entries : (es : List (ℕ × ℕ)) (n : ℕ) → map.get (map.from_entries {R = nat_cmp} es) n ≡ lookup (nat_eq n) es
get-from_entries [] n = map.get-empty nat_cmp n
get-from_entries (e ∷ es) n = map.get-insert nat_cmp_total (map.from_entries es) e.0 e.1 n ∙ (λ i. cond (unsigned_tied n e.0 i) (Some e.1) (get-from_entries es n i))

-- within the ids the answer is the s_id, outside it is none
answer-inside : (l : Listing) (s : ℕ) → 1 ≤ s → s ≤ l.count → answer l (Id s) ≡ Some s
answer-inside l s least most = cond-true (nat_le 1 s && nat_le s l.count) (Some s) None (and_from (nat_le 1 s) (nat_le s l.count) (le-leb 1 s least) (le-leb s l.count most))

answer-below : (l : Listing) (s : ℕ) → s < 1 → answer l (Id s) ≡ None
answer-below l s lt = cond-false (nat_le 1 s && nat_le s l.count) (Some s) None (and_left (nat_le 1 s) (nat_le s l.count) (lt-leb 1 s lt))

answer-above : (l : Listing) (s : ℕ) → l.count < s → answer l (Id s) ≡ None
answer-above l s lt = cond-false (nat_le 1 s && nat_le s l.count) (Some s) None (and_right (nat_le 1 s) (nat_le s l.count) (lt-leb s l.count lt))

-- in the set of the rows the same is found as in the list
home-counted : (xs : List Tuple) (p : Tuple → Bool) → count_by p xs ≤ 1 → option_map s_id_of (find p (rows_of (set_of xs))) ≡ option_map s_id_of (find p xs)
home-counted xs p once = ap (option_map s_id_of) (find-set_of p xs (PassesOnce-counted p xs once))

home-none : (xs : List Tuple) (s : ℕ) → count_of_key (s ∷ []) xs ≡ 0 → home_of_key (set_of xs) (Id s) ≡ None
home-none xs s none = home-counted xs (has_key (s ∷ [])) (omega (arith, none)) ∙ ap (option_map s_id_of) (none_found (has_key (s ∷ [])) xs none)

home-one : (xs : List Tuple) (s : ℕ) → count_of_key (s ∷ []) xs ≡ 1 → home_of_key (set_of xs) (Id s) ≡ Some s
home-one xs s one = home-counted xs (has_key (s ∷ [])) (omega (arith, one)) ∙ s_id_found s xs (omega (arith, one))

answer-of_id : (xs : List Tuple) (s_ids : map.FinMap nat_cmp ℕ) (s : ℕ) → IdsRunToLength xs → answer (record { count = length xs; s_ids = s_ids }) (Id s) ≡ home_of_key (set_of xs) (Id s)
answer-of_id xs s_ids s ids = let l : Listing = record { count = length xs; s_ids = s_ids } in elim (cases_lt s 1) [
  | inl below ↦ answer-below l s below ∙ sym (home-none xs s (no_other_id xs s ids (λ least. absurd (omega arith))))
  | inr least ↦ elim (cases_lt (length xs) s) [
    | inl above ↦ answer-above l s above ∙ sym (home-none xs s (no_other_id xs s ids (λ _. above)))
    | inr most ↦ answer-inside l s least most ∙ sym (home-one xs s (ids s least most))
  ]
]

pub answer-home : (xs : List Tuple) (es : List (ℕ × ℕ)) → IdsRunToLength xs → NumbersStandOnce xs → ((n : ℕ) → lookup (nat_eq n) es ≡ s_id_at xs n)
    → (key : Key) → answer (record { count = length xs; s_ids = map.from_entries es }) key ≡ home_of_key (set_of xs) key
answer-home xs es ids differ found (Id s) = answer-of_id xs (map.from_entries es) s ids
answer-home xs es ids differ found (Number n) = get-from_entries es n ∙ found n ∙ sym (home-counted xs (has_number n) (differ n))
