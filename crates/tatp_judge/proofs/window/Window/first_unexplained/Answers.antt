use Rattle.std.proofs.Common.{◌≡◌, ◌==◌, ℕ, Bool, false, vec_len, List, [], length, sym, ap, ◌∙◌, arith, eqb-true, eq-eqb, true≢false, inl, inr}
use Rattle.tatp_tables.specs.Database.{of_subscriber}
use Rattle.tatp_history.specs.declared.event.Event.{Event}
use Rattle.tatp_judge.proofs.ClosingLaws.{all_explained, begins_before, first_told, none_left}
use Rattle.tatp_judge.proofs.window.Window.first_unexplained.Goals as goal

pub returns-then-is_empty-clause-first : goal.returns-then-is_empty-clause-first
returns-then-is_empty-clause-first c = λ u most s lines is now.
    let w = c.args.self.now in
    all_explained u most s lines w is
    (none_left w.events.items (sym w.events.ok.0 ∙ eqb-true (vec_len w.events) 0 (sym c.is_empty.ensures ∙ c.if-is_empty.true)))

-- a list that isn't empty
some : (es : List Event) (b : Bool) (n : ℕ) → n ≡ length es → b ≡ (n == 0) → b ≡ false → es ≡ [] → ⊥
some es b n count is not none = true≢false (sym (is ∙ eq-eqb n 0 (count ∙ ap length none)) ∙ not)

pub first_unexplained-requires-clause-reached : goal.first_unexplained-requires-clause-reached
first_unexplained-requires-clause-reached c = let w = c.args.self.now in elim c.requires [
  | inl none ↦ absurd (some w.events.items c.is_empty.result (vec_len w.events) w.events.ok.0 c.is_empty.ensures c.if-is_empty.false none)
  | inr found ↦ (of_subscriber found.0 found.2, found.4.before, found.4.reached)
]

pub first_unexplained-requires-clause-times : goal.first_unexplained-requires-clause-times
first_unexplained-requires-clause-times c = let w = c.args.self.now in
    let filled = some w.events.items c.is_empty.result (vec_len w.events) w.events.ok.0 c.is_empty.ensures c.if-is_empty.false in
    elim c.requires [
      | inl none ↦ absurd (filled none)
      | inr found ↦ let lt = begins_before found.0 found.1 found.2 found.3 w found.4 filled in omega (arith, lt, found.5)
    ]

pub returns-clause-first : goal.returns-clause-first
returns-clause-first c = let w = c.args.self.now in
    first_told w c.args.number c.as_slice.result.now c.first_unexplained.result c.as_slice.ensures.value
    (some w.events.items c.is_empty.result (vec_len w.events) w.events.ok.0 c.is_empty.ensures c.if-is_empty.false)
    c.first_unexplained.ensures.never c.first_unexplained.ensures.explained c.first_unexplained.ensures.unexplained c.first_unexplained.ensures.within c.first_unexplained.ensures.undecided
