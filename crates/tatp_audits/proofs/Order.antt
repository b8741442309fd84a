-- The order of keys, and steps of a search for the least.
use Rattle.std.specs.Prelude.{◌≡◌, Bool, true, false, ◌||◌, Option}
use Rattle.std.proofs.Common.{refl, sym, ap, subst, ◌∙◌}
use Rattle.std.specs.Cmp.Lexicographic.{slice_cmp, nat_list_cmp_total}
use Rattle.std.specs.Cmp.{tied_itself, eq_by_cmp_equiv, upto}
use Rattle.std.specs.Ordering.{nat_cmp, is_eq, is_gt, is_lt, ordering_reverse}
use Rattle.std.specs.declared.cmp.Ordering.{Ordering}
use Rattle.std.specs.declared.cmp.Ordering.TheVariants.{Less, Equal, Greater}
use Rattle.tatp_tables.specs.Tuples.{Tuple, same}
use Rattle.tatp_audits.specs.Failing.{is_above, NoneFails, IsLeast, Finds}

pub same_itself : (k : Tuple) → same k k ≡ true
same_itself k = ap is_eq (tied_itself nat_list_cmp_total k)

pub same_turned : (a b : Tuple) → same a b ≡ same b a
same_turned = (eq_by_cmp_equiv nat_list_cmp_total).symm

pub above_chain : (a b c : Tuple) → is_above a b ≡ false → is_above b c ≡ false → is_above a c ≡ false
above_chain = upto nat_list_cmp_total

pub above_itself : (k : Tuple) → is_above k k ≡ false
above_itself k = ap is_gt (tied_itself nat_list_cmp_total k)

tied : (o : Ordering) → is_eq o ≡ true → is_gt o ≡ false
tied Less e = refl
tied Equal e = refl
tied Greater e = cc

pub above_same : (a b : Tuple) → same a b ≡ true → is_above a b ≡ false
above_same a b e = tied _ e

turned : (o : Ordering) → is_lt (ordering_reverse o) ≡ false → is_gt o ≡ false
turned Less e = refl
turned Equal e = refl
turned Greater e = cc

-- what a sort says of neighbours
pub above_from_sort : (a b : Tuple) → is_lt (slice_cmp nat_cmp b a) ≡ false → is_above a b ≡ false
above_from_sort a b e = turned _ (ap is_lt (sym (nat_list_cmp_total.antisymm b a)) ∙ e)

both : (o : Ordering) → is_gt o ≡ false → is_gt (ordering_reverse o) ≡ false → is_eq o ≡ true
both Less e f = cc
both Equal e f = refl
both Greater e f = cc

pub same_from_both : (a b : Tuple) → is_above a b ≡ false → is_above b a ≡ false → same a b ≡ true
same_from_both a b e f = both _ e (ap is_gt (sym (nat_list_cmp_total.antisymm b a)) ∙ f)

-- what a search finds goes by the test's answers
pub Finds-same : (f g : Tuple → Bool) (found : Option Tuple) → ((k : Tuple) → f k ≡ g k) → Finds f found → Finds g found
Finds-same f g found e h = subst (λ t. Finds t found) (λ i k. e k i) h

-- one more failing key: the least so far, or the new one
pub found_first : (fails : Tuple → Bool) (key : Tuple) → NoneFails fails → IsLeast (λ k. fails k || same k key) key
found_first fails key none = ((λ i. none key i || same_itself key i), λ other h. above_same key other (same_turned key other ∙ only (fails other) (same other key) (none other) h))
  where
    only : (a b : Bool) → a ≡ false → (a || b) ≡ true → b ≡ true
    only true b e h = cc
    only false b e h = h

either : (a b : Bool) (G : Type 0) → (a || b) ≡ true → (a ≡ true → G) → (b ≡ true → G) → G
either true b G h f g = f refl
either false b G h f g = g h

or_true : (b : Bool) → (b || true) ≡ true
or_true true = refl
or_true false = refl

pub found_lower : (fails : Tuple → Bool) (best key : Tuple) → IsLeast fails best → is_above key best ≡ false → IsLeast (λ k. fails k || same k key) key
found_lower fails best key least le = (
  (λ i. fails key || same_itself key i) ∙ or_true (fails key),
  λ other h. either (fails other) (same other key) (is_above key other ≡ false) h
      (λ e. above_chain key best other le (least.1 other e)) (λ e. above_same key other (same_turned key other ∙ e)),
)

pub found_kept : (fails : Tuple → Bool) (best key : Tuple) → IsLeast fails best → is_above best key ≡ false → IsLeast (λ k. fails k || same k key) best
found_kept fails best key least le = (
  (λ i. least.0 i || same best key),
  λ other h. either (fails other) (same other key) (is_above best other ≡ false) h
      (λ e. least.1 other e) (λ e. above_chain best key other le (above_same key other (same_turned key other ∙ e))),
)

reversed : (o : Ordering) → is_gt (ordering_reverse o) ≡ true → is_gt o ≡ false
reversed Less e = refl
reversed Equal e = cc
reversed Greater e = cc

pub above_back : (a b : Tuple) → is_above b a ≡ true → is_above a b ≡ false
above_back a b e = reversed _ (ap is_gt (sym (nat_list_cmp_total.antisymm b a)) ∙ e)

-- the lower of two least keys is the least that fails either test
pub found_first_of : (f g : Tuple → Bool) (one other : Tuple) → IsLeast f one → IsLeast g other → is_above one other ≡ false → IsLeast (λ k. f k || g k) one
found_first_of f g one other first second le = (
  (λ i. first.0 i || g one),
  λ k h. either (f k) (g k) (is_above one k ≡ false) h
      (λ e. first.1 k e) (λ e. above_chain one other k le (second.1 k e)),
)

pub found_second_of : (f g : Tuple → Bool) (one other : Tuple) → IsLeast f one → IsLeast g other → is_above other one ≡ false → IsLeast (λ k. f k || g k) other
found_second_of f g one other first second le = (
  (λ i. f other || second.0 i) ∙ or_true (f other),
  λ k h. either (f k) (g k) (is_above other k ≡ false) h
      (λ e. above_chain other one k le (first.1 k e)) (λ e. second.1 k e),
)
