-- The front of a text.
use Rattle.std.proofs.Common.{◌≡◌, ℕ, suc, ◌+◌, ◌-◌, ◌≤◌, ◌∙◌, ap, Bool, true, false, cond, List, [], ◌∷◌, drop, arith}
use Rattle.std.specs.Prelude.{codes}
use Rattle.std.specs.Str.{bytes_eq}
use Rattle.tatp_instr.specs.declared.version.Version.TheVariants.{One, Two}
use Rattle.tatp_lines.specs.Lines.{lines_of}
use Rattle.tatp_asm.specs.Heads.{Head, head_from, head_of}

-- ---- where the lines after it stand
pub record IsPlaced (n : ℕ) (texts : List (List ℕ)) (head : Head) : Type 0 where
  pub later : n ≤ head.line
  pub left : drop (head.line - n) texts ≡ head.left

passed : (n : ℕ) (x : List ℕ) (texts : List (List ℕ)) (head : Head) → IsPlaced (n + 1) texts head → IsPlaced n (x ∷ texts) head
passed n x texts head w =
    let q : head.line - n ≡ suc (head.line - (n + 1)) = omega (arith, w.later) in
    record { later = omega (arith, w.later); left = ap (λ (k : ℕ). drop k (x ∷ texts)) q ∙ w.left }

at_once : (n : ℕ) (texts : List (List ℕ)) → IsPlaced n texts (record { version = One; line = n; left = texts })
at_once n texts =
    let q : n - n ≡ 0 = omega arith in
    record { later = omega arith; left = ap (λ (k : ℕ). drop k texts) q }

after_one : (n : ℕ) (x : List ℕ) (texts : List (List ℕ)) → IsPlaced n (x ∷ texts) (record { version = Two; line = n + 1; left = texts })
after_one n x texts =
    let q : n + 1 - n ≡ 1 = omega arith in
    record { later = omega arith; left = ap (λ (k : ℕ). drop k (x ∷ texts)) q }

placed : (n : ℕ) (texts : List (List ℕ)) → IsPlaced n texts (head_from n texts)
placed n [] = at_once n []
placed n ([] ∷ texts) = passed n [] texts (head_from (n + 1) texts) (placed (n + 1) texts)
placed n ((b ∷ bs) ∷ texts) = by (bytes_eq (b ∷ bs) (codes "version 2"))
  where
    by : (t : Bool) → IsPlaced n ((b ∷ bs) ∷ texts) (cond t (record { version = Two; line = n + 1; left = texts }) (record { version = One; line = n; left = (b ∷ bs) ∷ texts }))
    by true = after_one n (b ∷ bs) texts
    by false = at_once n ((b ∷ bs) ∷ texts)

pub head_placed : (text : List ℕ) → IsPlaced 1 (lines_of text) (head_of text)
unfolding head_of
head_placed text = placed 1 (lines_of text)
