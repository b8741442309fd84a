-- Texts put together.
use Rattle.std.proofs.Common.{◌≡◌, refl, List, ◌++◌, ℕ}
use Rattle.std.proofs.lemmas.List.{append_assoc}

-- twelve texts in a row, put together from the last or from the first
pub twelve_together : (a b c d e f g h i j k l : List ℕ) → a ++ (b ++ (c ++ (d ++ (e ++ (f ++ (g ++ (h ++ (i ++ (j ++ (k ++ l)))))))))) ≡ a ++ b ++ c ++ d ++ e ++ f ++ g ++ h ++ i ++ j ++ k ++ l
twelve_together a b c d e f g h i j k l = simp append_assoc refl
