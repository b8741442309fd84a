-- Calls of which no two overlap have one serial order, their own.
use Rattle.std.proofs.Common.{◌≡◌, ◌↔◌, ℕ, suc, ◌<◌, ◌≤◌, List, [], ◌∷◌, refl, sym, ◌∙◌, ap, subst, arith, inl, inr}
use Rattle.std.proofs.lemmas.Bool.{cases_lt}
use Rattle.std.specs.List.{AllByRecursion}
use Rattle.tatp_tables.specs.Database.{Database}
use Rattle.tatp_calls.specs.declared.call.Call.{Call}
use Rattle.tatp_calls.specs.declared.reply.Reply.{Reply}
use Rattle.tatp_calls.specs.Order.{in_order}
use Rattle.tatp_calls.specs.Transactions.{transaction}
use Rattle.tatp_history.specs.declared.observed.Outcome.{Outcome}
use Rattle.tatp_history.specs.declared.observed.Outcome.TheVariants.{Answered, Aborted, Unknown}
use Rattle.tatp_history.specs.declared.observed.Observed.{Observed}
use Rattle.tatp_history.specs.Histories.{IsIn, IsAnswered, IsAnsweredBefore, Precedes, AreAskedApart, KeepsRealTime, AreAnsweredInOrder, IsStrictlySerializable}
use Rattle.tatp_history.specs.HistoryLines.{calls_from, calls_of}
use Rattle.tatp_history.specs.Locality.{AreInTime}
use Rattle.tatp_history.specs.Turns.{AreInTurn, lines_in_turn, calls_made, replies_had}
use Rattle.tatp_history.proofs.OrderLaws.{all_map, all_both, all_in, in_all}
use Rattle.tatp_history.proofs.LineLaws.{asked_from, calls_in_time}

-- ---- times
-- a call that wasn't answered before it was asked precedes none that was asked no later
asked_later : (o : Outcome) (asked time : ℕ) → (IsAnsweredBefore asked o → ⊥) → IsAnsweredBefore time o → asked < time
asked_later (Answered at recorded) asked time own before = elim (cases_lt at asked) [
  | inl lt ↦ absurd (own lt)
  | inr le ↦ omega (arith, before, le)
]
asked_later (Aborted at) asked time own before = absurd before
asked_later Unknown asked time own before = absurd before

turn_apart : (calls : List Observed) → AreInTurn calls → AreInTime calls → AreAskedApart calls
turn_apart [] turn own = tt
turn_apart (x ∷ more) turn own = (
  all_map (λ (y : Observed). Precedes x y) (λ (y : Observed). x.asked ≡ y.asked → ⊥) (λ y h e. let lt = asked_later x.outcome x.asked y.asked own.0 h in omega (arith, lt, e)) more turn.1,
  turn_apart more turn.2 own.1,
)

turn_keeps : (calls : List Observed) → AreInTurn calls → AreInTime calls → KeepsRealTime calls
turn_keeps [] turn own = tt
turn_keeps (x ∷ more) turn own = (
  all_map (λ (y : Observed). Precedes x y × (Precedes y y → ⊥)) (λ (y : Observed). Precedes y x → ⊥)
      (λ y h before. let lt = asked_later x.outcome x.asked y.asked own.0 h.0 in let gt = asked_later y.outcome y.asked x.asked h.1 before in omega (arith, lt, gt)) more
      (all_both (λ (y : Observed). Precedes x y) (λ (y : Observed). Precedes y y → ⊥) more turn.1 own.1),
  turn_keeps more turn.2 own.1,
)

turn_answered : (calls : List Observed) → AreInTurn calls → (x : Observed) → IsIn x calls → IsAnswered x.outcome
turn_answered [] turn x h = absurd h
turn_answered (y ∷ more) turn x h = elim h [
  | inl e ↦ subst (λ (z : Observed). IsAnswered z.outcome) (sym e) turn.0
  | inr k ↦ turn_answered more turn.2 x k
]

-- ---- the order
-- what has all of them, each once, in real time, is their own order
turn_order : (calls order : List Observed) → AreInTurn calls → AreAskedApart calls → AllByRecursion (λ z. IsIn z calls) order → AreAskedApart order → ((z : Observed) → IsIn z calls → IsIn z order) → KeepsRealTime order → order ≡ calls
turn_order [] [] turn apart made once all keeps = refl
turn_order [] (o ∷ os) turn apart made once all keeps = absurd made.0
turn_order (x ∷ more) [] turn apart made once all keeps = absurd (all x (inl refl))
turn_order (x ∷ more) (o ∷ os) turn apart made once all keeps =
    let others : (z : Observed) → IsIn z more → x.asked ≡ z.asked → ⊥ = λ z there. in_all (λ (y : Observed). x.asked ≡ y.asked → ⊥) z more apart.0 there in
    elim made.0 [
      | inl e ↦
          let rest : os ≡ more = turn_order more os turn.2 apart.1
          (all_in (λ z. IsIn z more) os (λ z there. elim (in_all (λ y. IsIn y (x ∷ more)) z os made.1 there) [
            | inl f ↦ absurd (in_all (λ (y : Observed). o.asked ≡ y.asked → ⊥) z os once.0 there (ap (λ (w : Observed). w.asked) (e ∙ sym f)))
            | inr k ↦ k
          ])) once.1
          (λ z there. elim (all z (inr there)) [
            | inl f ↦ absurd (others z there (ap (λ (w : Observed). w.asked) (sym e ∙ sym f)))
            | inr k ↦ k
          ]) keeps.1 in
          λ i. e i ∷ rest i
      | inr k ↦ elim (all x (inl refl)) [
        | inl f ↦ absurd (others o k (ap (λ (w : Observed). w.asked) f))
        | inr q ↦ absurd (in_all (λ (y : Observed). Precedes y o → ⊥) x os keeps.0 q (in_all (λ (y : Observed). Precedes x y) o more turn.1 k))
      ]
    ]

itself : (calls : List Observed) → AllByRecursion (λ z. IsIn z calls) calls
itself calls = all_in (λ z. IsIn z calls) calls (λ z h. h)

pub in_turn : (u : Database) (calls : List Observed) → AreInTurn calls → AreInTime calls → IsStrictlySerializable u calls ↔ AreAnsweredInOrder u calls
in_turn u calls turn own = (
  λ s. subst (AreAnsweredInOrder u) (turn_order calls s.0 turn (turn_apart calls turn own) s.1.made s.1.once (λ z h. s.1.all z h (turn_answered calls turn z h)) s.1.real_time) s.1.replies,
  λ runs. (
    calls,
    record {
      made = itself calls;
      once = turn_apart calls turn own;
      all = λ z h answered. h;
      real_time = turn_keeps calls turn own;
      replies = runs;
    },
  ),
)

-- ---- a client that waits for each reply
lines_turn : (pairs : List (Call × Reply)) (number : ℕ) → AreInTurn (calls_from number (lines_in_turn pairs))
lines_turn [] number = tt
lines_turn (p ∷ more) number = (
  tt,
  all_map (λ (y : Observed). suc (suc number) ≤ y.asked) (λ (y : Observed). suc number < y.asked) (λ y h. omega (arith, h)) (calls_from (suc (suc number)) (lines_in_turn more)) (asked_from (suc (suc number)) (lines_in_turn more)),
  lines_turn more (suc (suc number)),
)

same_replies : (pairs : List (Call × Reply)) (number : ℕ) (u : Database) → AreAnsweredInOrder u (calls_from number (lines_in_turn pairs)) → replies_had pairs ≡ (in_order u (calls_made pairs)).replies
same_replies [] number u runs = refl
same_replies (p ∷ more) number u runs = λ i. runs.0 i ∷ same_replies more (suc (suc number)) (transaction p.0 u).database runs.1 i

first_reply : List Reply → Reply → Reply
first_reply [] other = other
first_reply (r ∷ more) other = r

later_replies : List Reply → List Reply
later_replies [] = []
later_replies (r ∷ more) = more

replies_same : (pairs : List (Call × Reply)) (number : ℕ) (u : Database) → replies_had pairs ≡ (in_order u (calls_made pairs)).replies → AreAnsweredInOrder u (calls_from number (lines_in_turn pairs))
unfolding first_reply later_replies
replies_same [] number u e = tt
replies_same (p ∷ more) number u e = (
  ap (λ rs. first_reply rs p.1) e,
  replies_same more (suc (suc number)) (transaction p.0 u).database (ap later_replies e),
)

pub lines_are_in_turn : (u : Database) (pairs : List (Call × Reply)) → IsStrictlySerializable u (calls_of (lines_in_turn pairs)) ↔ (replies_had pairs ≡ (in_order u (calls_made pairs)).replies)
lines_are_in_turn u pairs =
    let law = in_turn u (calls_of (lines_in_turn pairs)) (lines_turn pairs 1) (calls_in_time 1 (lines_in_turn pairs)) in (
      λ s. same_replies pairs 1 u (law.0 s),
      λ e. law.1 (replies_same pairs 1 u e),
    )
