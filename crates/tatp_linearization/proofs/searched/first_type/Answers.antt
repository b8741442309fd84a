use Rattle.std.proofs.Common.{ℕ, Bool, true, false, is_some, [], ◌∷◌, sym, ◌∙◌}
use Rattle.tatp_tables.specs.Keys.{row_at}
use Rattle.tatp_linearization.proofs.SearchedCallLaws.{first_is, second_is, third_is, last_is}
use Rattle.tatp_linearization.proofs.searched.first_type.Goals as goal

pub returns-then-has_facility : goal.returns-then-has_facility
returns-then-has_facility c =
    let p : ℕ → Bool = λ t. is_some (row_at c.args.home.now.tables.facilities (c.args.s_id ∷ t ∷ [])) in
    sym (first_is p (sym c.has_facility.ensures ∙ c.if-has_facility.true))

pub returns-then-has_facility-2 : goal.returns-then-has_facility-2
returns-then-has_facility-2 c =
    let p : ℕ → Bool = λ t. is_some (row_at c.args.home.now.tables.facilities (c.args.s_id ∷ t ∷ [])) in
    sym (second_is p (sym c.has_facility.ensures ∙ c.if-has_facility.false) (sym c.has_facility-2.ensures ∙ c.if-has_facility-2.true))

pub returns-then-has_facility-3 : goal.returns-then-has_facility-3
returns-then-has_facility-3 c =
    let p : ℕ → Bool = λ t. is_some (row_at c.args.home.now.tables.facilities (c.args.s_id ∷ t ∷ [])) in
    sym (third_is p (sym c.has_facility.ensures ∙ c.if-has_facility.false) (sym c.has_facility-2.ensures ∙ c.if-has_facility-2.false) (sym c.has_facility-3.ensures ∙ c.if-has_facility-3.true))

pub returns-then-has_facility-4 : goal.returns-then-has_facility-4
returns-then-has_facility-4 c =
    let p : ℕ → Bool = λ t. is_some (row_at c.args.home.now.tables.facilities (c.args.s_id ∷ t ∷ [])) in
    sym (last_is p true (sym c.has_facility.ensures ∙ c.if-has_facility.false) (sym c.has_facility-2.ensures ∙ c.if-has_facility-2.false) (sym c.has_facility-3.ensures ∙ c.if-has_facility-3.false) (sym c.has_facility-4.ensures ∙ c.if-has_facility-4.true))

pub returns : goal.returns
returns c =
    let p : ℕ → Bool = λ t. is_some (row_at c.args.home.now.tables.facilities (c.args.s_id ∷ t ∷ [])) in
    sym (last_is p false (sym c.has_facility.ensures ∙ c.if-has_facility.false) (sym c.has_facility-2.ensures ∙ c.if-has_facility-2.false) (sym c.has_facility-3.ensures ∙ c.if-has_facility-3.false) (sym c.has_facility-4.ensures ∙ c.if-has_facility-4.false))
