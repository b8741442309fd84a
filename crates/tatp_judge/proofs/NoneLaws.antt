-- The calls that name no subscriber after one line more, and in the first lines.
use Rattle.std.proofs.Common.{◌≡◌, ◌≢◌, ℕ, suc, ◌+◌, ◌⊎◌, ◌∙◌, sym, ap, subst, nat_le, true, false, cond, List, [], ◌∷◌, ◌++◌, length, map, filter, refl, arith, Option, Some, None, eq-eqb, ne_eqb, inl, inr}
use Rattle.tatp_tables.specs.Database.{Database}
use Rattle.tatp_history.specs.declared.line.Line.{Line}
use Rattle.tatp_history.specs.declared.line.Line.TheVariants.{Ask, End, Abort, Lost}
use Rattle.tatp_history.specs.declared.observed.Outcome.{Outcome}
use Rattle.tatp_history.specs.declared.observed.Outcome.TheVariants.{Answered, Aborted, Unknown}
use Rattle.tatp_history.specs.declared.observed.Observed.{Observed}
use Rattle.tatp_history.specs.HistoryLines.{client_of, end_at, end_of, calls_from, calls_of}
use Rattle.tatp_history.specs.Locality.{subscriber_of, FailsWithout, FailWithout}
use Rattle.tatp_history.specs.Prefixes.{outcome_by, call_by, calls_by}
use Rattle.tatp_history.proofs.LineLaws.{calls_of_first}
use Rattle.tatp_history.proofs.SubscriberEventLaws.{same_or_not}
use Rattle.tatp_judge.specs.declared.asked.Asked.{Asked}
use Rattle.tatp_judge.specs.Asked.{AskedCalls, none_asked, with_asked, asked_call, asked_by, asked_after, asked_in_all}
use Rattle.tatp_judge.proofs.NextLineLaws.{own_end, other_end}

-- ---- open calls
pub asked_same : (asked : AskedCalls) (client : ℕ) (one : Option Asked) → with_asked asked client one client ≡ one
asked_same asked client one = ap (λ b. cond b one (asked client)) (eq-eqb client client refl)

asked_other : (asked : AskedCalls) (client other : ℕ) (one : Option Asked) → other ≢ client → with_asked asked client one other ≡ asked other
asked_other asked client other one n = ap (λ b. cond b one (asked other)) (ne_eqb other client n)

module _ (u : Database) where
  pub by_other : (number : ℕ) (asked : AskedCalls) (line : Line) (client : ℕ) → client_of line ≢ client → asked_by u number asked line client ≡ asked client
  by_other number asked (Ask other call) client n = asked_other asked other client (Some (asked_call u number call)) (λ e. n (sym e))
  by_other number asked (End other recorded) client n = asked_other asked other client None (λ e. n (sym e))
  by_other number asked (Abort other) client n = asked_other asked other client None (λ e. n (sym e))
  by_other number asked (Lost other) client n = asked_other asked other client None (λ e. n (sym e))

  pub asked_next : (lines : List Line) (line : Line) (number last : ℕ) (asked : AskedCalls) → number + length lines ≡ last → asked_after u number asked (lines ++ line ∷ []) ≡ asked_by u last (asked_after u number asked lines) line
  asked_next [] line number last asked n = let at : number ≡ last = omega (arith, n) in ap (λ k. asked_by u k asked line) at
  asked_next (first ∷ more) line number last asked n =
      let m : number + suc (length more) ≡ last = n in asked_next more line (suc number) last (asked_by u number asked first) (omega (arith, m))

  -- ---- one line more
  unknown_fails : (subscriber : Option ℕ) → FailsWithout subscriber Unknown
  unknown_fails None = λ h. absurd h
  unknown_fails (Some s) = tt

  -- the open call, if there is one, may end so
  abbrev pub MayEnd : Option Asked → Outcome → Type 0
  MayEnd None outcome = Unit {0}
  MayEnd (Some asked) outcome = FailsWithout asked.s_id outcome

  end_fails : (lines : List Line) (line : Line) (number last client : ℕ) (asked : AskedCalls) (one : Asked) → number + length lines ≡ last → asked client ≡ Some one → FailsWithout one.s_id (end_of client number lines)
      → MayEnd (asked_after u number asked lines (client_of line)) (end_at last line) → FailsWithout one.s_id (end_of client number (lines ++ line ∷ []))
  end_fails [] line number last client asked one n has fails may = elim (same_or_not (client_of line) client) [
    | inl e ↦
        let at : last ≡ number = omega (arith, n) in
        let here : FailsWithout one.s_id (end_at last line) = subst (λ o. MayEnd o (end_at last line)) (ap asked e ∙ has) may in
        subst (FailsWithout one.s_id) (ap (λ k. end_at k line) at ∙ sym (own_end client number line [] e)) here
    | inr k ↦ subst (FailsWithout one.s_id) (sym (other_end client number line [] k)) (unknown_fails one.s_id)
  ]
  end_fails (first ∷ more) line number last client asked one n has fails may =
      let m : number + suc (length more) ≡ last = n in
      elim (same_or_not (client_of first) client) [
        | inl e ↦ subst (FailsWithout one.s_id) (own_end client number first more e ∙ sym (own_end client number first (more ++ line ∷ []) e)) fails
        | inr k ↦ subst (FailsWithout one.s_id) (sym (other_end client number first (more ++ line ∷ []) k))
            (end_fails more line (suc number) last client (asked_by u number asked first) one (omega (arith, m)) (by_other number asked first client k ∙ has)
            (subst (FailsWithout one.s_id) (other_end client number first more k) fails) may)
      ]

  fail_next : (lines : List Line) (line : Line) (number last : ℕ) (asked : AskedCalls) → number + length lines ≡ last → FailWithout u (calls_from number lines)
      → MayEnd (asked_after u number asked lines (client_of line)) (end_at last line) → FailWithout u (calls_from number (lines ++ line ∷ []))
  fail_next [] (Ask client call) number last asked n fail may = (unknown_fails (subscriber_of u call), tt)
  fail_next [] (End client recorded) number last asked n fail may = tt
  fail_next [] (Abort client) number last asked n fail may = tt
  fail_next [] (Lost client) number last asked n fail may = tt
  fail_next (Ask client call ∷ more) line number last asked n fail may =
      let m : number + suc (length more) ≡ last = n in
      let one : Asked = asked_call u number call in (
        end_fails more line (suc number) last client (with_asked asked client (Some one)) one (omega (arith, m)) (asked_same asked client (Some one)) fail.0 may,
        fail_next more line (suc number) last (with_asked asked client (Some one)) (omega (arith, m)) fail.1 may,
      )
  fail_next (End client recorded ∷ more) line number last asked n fail may =
      let m : number + suc (length more) ≡ last = n in fail_next more line (suc number) last (with_asked asked client None) (omega (arith, m)) fail may
  fail_next (Abort client ∷ more) line number last asked n fail may =
      let m : number + suc (length more) ≡ last = n in fail_next more line (suc number) last (with_asked asked client None) (omega (arith, m)) fail may
  fail_next (Lost client ∷ more) line number last asked n fail may =
      let m : number + suc (length more) ≡ last = n in fail_next more line (suc number) last (with_asked asked client None) (omega (arith, m)) fail may

  pub still_fail : (lines : List Line) (line : Line) → FailWithout u (calls_of lines) → MayEnd (asked_in_all u lines (client_of line)) (end_at (suc (length lines)) line) → FailWithout u (calls_of (lines ++ line ∷ []))
  still_fail lines line fail may = fail_next lines line 1 (suc (length lines)) none_asked (omega arith) fail may

  -- where all fail, the open call fails, or it was asked before these lines
  own_fails : (lines : List Line) (line : Line) (number last : ℕ) (asked : AskedCalls) → number + length lines ≡ last → FailWithout u (calls_from number (lines ++ line ∷ []))
      → ((asked_after u number asked lines (client_of line) ≡ asked (client_of line)) × (end_of (client_of line) number (lines ++ line ∷ []) ≡ end_at last line))
      ⊎ MayEnd (asked_after u number asked lines (client_of line)) (end_at last line)
  own_fails [] line number last asked n fail = let at : number ≡ last = omega (arith, n) in inl (refl, own_end (client_of line) number line [] refl ∙ ap (λ k. end_at k line) at)
  own_fails (first ∷ more) line number last asked n fail =
      let m : number + suc (length more) ≡ last = n in
      elim (own_fails more line (suc number) last (asked_by u number asked first) (omega (arith, m)) (others first fail)) [
        | inr may ↦ inr may
        | inl same ↦ elim (same_or_not (client_of first) (client_of line)) [
          | inl e ↦ inr (subst (λ o. MayEnd o (end_at last line)) (sym same.0) (own first e same.1 fail))
          | inr k ↦ inl (same.0 ∙ by_other number asked first (client_of line) k, other_end (client_of line) number first (more ++ line ∷ []) k ∙ same.1)
        ]
      ]
    where
      others : (first : Line) → FailWithout u (calls_from number (first ∷ (more ++ line ∷ []))) → FailWithout u (calls_from (suc number) (more ++ line ∷ []))
      others (Ask client call) h = h.1
      others (End client recorded) h = h
      others (Abort client) h = h
      others (Lost client) h = h

      own : (first : Line) → client_of first ≡ client_of line → end_of (client_of line) (suc number) (more ++ line ∷ []) ≡ end_at last line → FailWithout u (calls_from number (first ∷ (more ++ line ∷ [])))
          → MayEnd (asked_by u number asked first (client_of line)) (end_at last line)
      own (Ask client call) e is h =
          let one : Asked = asked_call u number call in
          subst (λ o. MayEnd o (end_at last line)) (sym (ap (with_asked asked client (Some one)) (sym e) ∙ asked_same asked client (Some one)))
          (subst (FailsWithout (subscriber_of u call)) (ap (λ c. end_of c (suc number) (more ++ line ∷ [])) e ∙ is) h.0)
      own (End client recorded) e is h = subst (λ o. MayEnd o (end_at last line)) (sym (ap (with_asked asked client None) (sym e) ∙ asked_same asked client None)) tt
      own (Abort client) e is h = subst (λ o. MayEnd o (end_at last line)) (sym (ap (with_asked asked client None) (sym e) ∙ asked_same asked client None)) tt
      own (Lost client) e is h = subst (λ o. MayEnd o (end_at last line)) (sym (ap (with_asked asked client None) (sym e) ∙ asked_same asked client None)) tt

  pub fails_itself : (lines : List Line) (line : Line) → FailWithout u (calls_of (lines ++ line ∷ [])) → MayEnd (asked_in_all u lines (client_of line)) (end_at (suc (length lines)) line)
  fails_itself lines line fail = elim (own_fails lines line 1 (suc (length lines)) none_asked (omega arith) fail) [
    | inl same ↦ subst (λ o. MayEnd o (end_at (suc (length lines)) line)) (sym same.0) tt
    | inr may ↦ may
  ]

  -- ---- the first lines
  fails_by : (subscriber : Option ℕ) (time : ℕ) (outcome : Outcome) → FailsWithout subscriber outcome → FailsWithout subscriber (outcome_by time outcome)
  fails_by (Some s) time outcome h = tt
  fails_by None time (Answered at recorded) h = elim (nat_le at time) as (λ b. FailsWithout None (cond b (Answered at recorded) Unknown)) [
    | true ↦ h
    | false ↦ λ k. absurd k
  ]
  fails_by None time (Aborted at) h = elim (nat_le at time) as (λ b. FailsWithout None (cond b (Aborted at) Unknown)) [
    | true ↦ h
    | false ↦ λ k. absurd k
  ]
  fails_by None time Unknown h = h

  calls_fail_by : (time : ℕ) (calls : List Observed) → FailWithout u calls → FailWithout u (calls_by time calls)
  calls_fail_by time [] h = tt
  calls_fail_by time (x ∷ calls) h = elim (nat_le x.asked time) as (λ b. FailWithout u (map (call_by time) (cond b (x ∷ filter (λ (y : Observed). nat_le y.asked time) calls) (filter (λ (y : Observed). nat_le y.asked time) calls)))) [
    | true ↦ (fails_by (subscriber_of u x.call) time x.outcome h.0, calls_fail_by time calls h.1)
    | false ↦ calls_fail_by time calls h.1
  ]

  pub first_fail : (first second : List Line) → FailWithout u (calls_of (first ++ second)) → FailWithout u (calls_of first)
  first_fail first second h = subst (FailWithout u) (calls_of_first first second 1 (length first) (omega arith)) (calls_fail_by (length first) (calls_of (first ++ second)) h)
