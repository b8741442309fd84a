-- Lemmas on the fields of a line.
use Rattle.std.proofs.Common.{◌≡◌, ℕ, ◌<◌, Bool, List, [], ◌∷◌, length, arith, eqb}
use Rattle.std.specs.List.{position_or_len, before_first, after_first}
use Rattle.std.proofs.lemmas.List.Splits.{slice_split_first, slice_split_none}
use Rattle.std.proofs.lemmas.List.Sums.{fails_before_first}
use Rattle.tatp_texts.specs.Text.{fields_of}

abbrev pub is_space : ℕ → Bool
is_space byte = eqb byte 32

-- a field that ends at a space, and what follows
pub fields_first : (bs front rest : List ℕ) → position_or_len is_space bs < length bs → front ≡ before_first is_space bs → rest ≡ after_first is_space bs → fields_of bs ≡ front ∷ fields_of rest
fields_first bs front rest h f r = rw (f, r) (slice_split_first is_space bs 0 h)

-- the last field
pub fields_last : (bs : List ℕ) → position_or_len is_space bs ≡ length bs → fields_of bs ≡ bs ∷ []
fields_last bs h = slice_split_none is_space bs (λ k d l. fails_before_first is_space bs k d (omega arith))
