-- A listing that grows by a number.
use Rattle.std.proofs.Common.{◌≡◌, ℕ, ◌+◌, refl, sym, ap, true, false, List, [], ◌∷◌, ◌++◌, add-one}
use Rattle.std.specs.List.{flat_map}
use Rattle.std.proofs.lemmas.List.{append-nil, map-append}
use Rattle.std.proofs.lemmas.Grind.{flat_map-append}
use Rattle.tatp_explanations.specs.declared.explanation.Explanation.{Explanation}
use Rattle.tatp_explanations.specs.Names.{name_of}
use Rattle.tatp_explanations.specs.Numbers.{is_explained, numbers_below}
use Rattle.tatp_explanations.specs.Texts.{line_text, IsListing}

pub nothing_listed : IsListing [] []
nothing_listed = record { rows = []; own = refl; named = refl; told = refl }

pub one_more : (n : ℕ) (text line : List ℕ) (row : Explanation) → IsListing (numbers_below n) text
    → row.number ≡ n → row.name.now ≡ name_of n → is_explained n ≡ true → line ≡ line_text row → IsListing (numbers_below (n + 1)) (text ++ line)
one_more n text line row before own named known told = record {
  rows = before.rows ++ row ∷ [];
  own = rw (add-one, map-append, before.own, own, known) refl;
  named = rw (add-one, known, map-append, map-append, before.named, named) refl;
  told = rw (flat_map-append, before.told, told) (ap (λ rest. flat_map line_text before.rows ++ rest) (sym (append-nil (line_text row))));
}

pub no_more : (n : ℕ) (text : List ℕ) → IsListing (numbers_below n) text → is_explained n ≡ false → IsListing (numbers_below (n + 1)) text
no_more n text before unknown = record {
  rows = before.rows;
  own = rw (add-one, unknown, append-nil) before.own;
  named = rw (add-one, unknown, append-nil) before.named;
  told = before.told;
}
