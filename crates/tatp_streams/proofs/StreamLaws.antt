-- The bytes that a reader has left and a writer holds.
use Rattle.std.proofs.Common.{◌≡◌, ℕ, ◌≤◌, ◌∙◌, sym, ap, subst, List, [], ◌++◌, length, refl, Option, Some, None, append_assoc}
use Rattle.std.specs.Io.KnownBytes.{Appends, Consumes, Keeps, IsAtEnd}
use Rattle.std.specs.Option.{IfSome}
use Rattle.std.proofs.lemmas.List.{append-nil}

pub appends_none : (known : Option (List ℕ)) → Appends known known []
appends_none None = tt
appends_none (Some xs) = sym (append-nil xs)

pub appends_keeps : (a b : Option (List ℕ)) → Keeps a b → Appends a b []
appends_keeps None b h = tt
appends_keeps (Some xs) None h = h
appends_keeps (Some xs) (Some ys) h = h ∙ sym (append-nil xs)

pub appends_both : (a b c : Option (List ℕ)) (xs ys : List ℕ) → Appends a b xs → Appends b c ys → Appends a c (xs ++ ys)
appends_both None b c xs ys h k = tt
appends_both (Some us) None c xs ys h k = absurd h
appends_both (Some us) (Some bs) None xs ys h k = k
appends_both (Some us) (Some bs) (Some cs) xs ys h k = k ∙ (ap (λ ws. ws ++ ys) h ∙ append_assoc us xs ys)

pub consumes_none : (known : Option (List ℕ)) → Consumes known known []
consumes_none None = tt
consumes_none (Some xs) = refl

pub consumes_both : (a b c : Option (List ℕ)) (xs ys : List ℕ) → Consumes a b xs → Consumes b c ys → Consumes a c (xs ++ ys)
consumes_both None b c xs ys h k = tt
consumes_both (Some us) None c xs ys h k = absurd h
consumes_both (Some us) (Some bs) None xs ys h k = k
consumes_both (Some us) (Some bs) (Some cs) xs ys h k = h ∙ (ap (λ ws. xs ++ ws) k ∙ sym (append_assoc xs ys cs))

pub consumed_all : (a b : Option (List ℕ)) (xs : List ℕ) → Consumes a b xs → IsAtEnd b → IfSome a (λ input. xs ≡ input)
consumed_all None b xs h k = tt
consumed_all (Some us) None xs h k = absurd h
consumed_all (Some us) (Some bs) xs h k = sym (h ∙ (ap (λ ws. xs ++ ws) k ∙ append-nil xs))

pub appends_then_keeps : (a b c : Option (List ℕ)) (xs : List ℕ) → Appends a b xs → Keeps b c → Appends a c xs
appends_then_keeps None b c xs h k = tt
appends_then_keeps (Some us) None c xs h k = absurd h
appends_then_keeps (Some us) (Some bs) None xs h k = k
appends_then_keeps (Some us) (Some bs) (Some cs) xs h k = k ∙ h

-- what was all taken is no longer than what took it may hold
pub input_within : (known : Option (List ℕ)) (taken : List ℕ) (most : ℕ) → IfSome known (λ input. taken ≡ input) → length taken ≤ most → IfSome known (λ input. length input ≤ most)
input_within None taken most h k = tt
input_within (Some input) taken most h k = subst (λ xs. length xs ≤ most) h k
