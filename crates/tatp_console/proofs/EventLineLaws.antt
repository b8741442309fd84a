-- Lemmas on what is told of events and lines, one after another.
use Rattle.std.proofs.Common.{◌≡◌, ℕ, ◌+◌, ◌∙◌, sym, ap, subst, List, [], ◌∷◌, ◌++◌, refl, replicate, append_assoc, Result, Option, Some, None, codes}
use Rattle.std.proofs.lemmas.List.{append-nil, replicate-append-replicate}
use Rattle.tatp_events.specs.declared.event.Event.{Event as AnEvent}
use Rattle.tatp_events.specs.declared.event.Event.TheVariants.{Step}
use Rattle.tatp_events.specs.declared.event.Answer.{Answer}
use Rattle.tatp_events.specs.declared.refusal.Refusal.{Refusal}
use Rattle.tatp_dispatch.specs.Worlds.{WorldState}
use Rattle.tatp_dispatch.specs.Events.{Happens}
use Rattle.tatp_dispatch.specs.Serving.{Tells}
use Rattle.tatp_trace_lines.specs.declared.line.TraceLine.{TraceLine}
use Rattle.tatp_trace_lines.specs.declared.line.TraceLine.TheVariants.{Event, Steps, Look, Home, Audit}
use Rattle.tatp_trace_lines.specs.AnswerText.{answered_text}
use Rattle.tatp_console.specs.Looking.{told_line, TellsLook, home_told}
use Rattle.tatp_console.specs.EventLines.{TellsEvent, TellsEvents, TellsVerdict, AppendsEvent, AppendsSteps, AppendsLine}

-- events, and one more
pub events_more : (w b c : WorldState) (events : List AnEvent) (answers : List (Result Answer Refusal)) (told : List ℕ) (event : AnEvent) (answered : Result Answer Refusal) (first : List ℕ)
    → TellsEvents w events answers told b → TellsEvent b event answered first c → TellsEvents w (events ++ event ∷ []) (answers ++ answered ∷ []) (told ++ first) c
events_more w b c [] [] told event answered first t e =
    (c, first, [], subst (λ x. TellsEvent x event answered first c) t.1 e, ap (λ front. front ++ first) t.0 ∙ sym (append-nil first), (refl, refl))
events_more w b c [] (a ∷ answers) told event answered first t e = absurd t
events_more w b c (v ∷ events) [] told event answered first t e = absurd t
events_more w b c (v ∷ events) (a ∷ answers) told event answered first t e =
    (t.0, t.1, t.2 ++ first, t.3, ap (λ front. front ++ first) t.4 ∙ append_assoc t.1 t.2 first, events_more t.0 b c events answers t.2 event answered first t.5 e)

-- ---- texts that were appended to
pub event_appended : (w w' : WorldState) (event : AnEvent) (answered : Result Answer Refusal) (old between new : List ℕ) → Happens w event answered w' → Tells w answered w'
    → between ≡ old ++ answered_text answered → new ≡ between ++ 10 ∷ [] → AppendsEvent w event old new w'
event_appended w w' event answered old between new h t b n = record {
  answered = answered;
  told = told_line (answered_text answered);
  tells = record { happens = h; tells = t; line = refl };
  appended = n ∙ (ap (λ front. front ++ 10 ∷ []) b ∙ append_assoc old (answered_text answered) (10 ∷ []));
}

pub no_step : (w : WorldState) (p : ℕ) (text : List ℕ) → AppendsSteps w p 0 text text w
no_step w p text = record { answers = []; told = []; tells = (refl, refl); appended = sym (append-nil text) }

pub one_step : (w : WorldState) (p count : ℕ) (old between new : List ℕ) (now after : WorldState) → AppendsSteps w p count old between now → AppendsEvent now (Step p) between new after → AppendsSteps w p (count + 1) old new after
one_step w p count old between new now after s e = record {
  answers = s.answers ++ e.answered ∷ [];
  told = s.told ++ e.told;
  tells = subst (λ steps. TellsEvents w steps (s.answers ++ e.answered ∷ []) (s.told ++ e.told) after) (replicate-append-replicate count 1 (Step p))
      (events_more w now after (replicate count (Step p)) s.answers s.told (Step p) e.answered e.told s.tells e.tells);
  appended = e.appended ∙ (ap (λ front. front ++ e.told) s.appended ∙ append_assoc old s.told e.told);
}

-- ---- a line
pub line_of_event : (w w' : WorldState) (event : AnEvent) (line : TraceLine) (old new : List ℕ) → line ≡ Event event → AppendsEvent w event old new w' → AppendsLine w (Some line) old new w'
line_of_event w w' event line old new is e = subst (λ l. AppendsLine w (Some l) old new w') (sym is) (record {
  answers = e.answered ∷ [];
  told = e.told;
  tells = (w', e.told, [], e.tells, sym (append-nil e.told), (refl, refl));
  appended = e.appended;
})

pub line_of_steps : (w w' : WorldState) (p count : ℕ) (line : TraceLine) (old new : List ℕ) → line ≡ Steps p count → AppendsSteps w p count old new w' → AppendsLine w (Some line) old new w'
line_of_steps w w' p count line old new is s = subst (λ l. AppendsLine w (Some l) old new w') (sym is) (record { answers = s.answers; told = s.told; tells = s.tells; appended = s.appended })

pub look_appended : (w : WorldState) (p : ℕ) (line : TraceLine) (old told new : List ℕ) → line ≡ Look p → TellsLook w p told → new ≡ old ++ told → AppendsLine w (Some line) old new w
look_appended w p line old told new is t n = subst (λ l. AppendsLine w (Some l) old new w) (sym is) (record { answers = []; told = told; tells = (t, refl, refl); appended = n })

pub home_appended : (w : WorldState) (p s_id : ℕ) (line : TraceLine) (old told new : List ℕ) → line ≡ Home p s_id → told ≡ home_told w p s_id → new ≡ old ++ told → AppendsLine w (Some line) old new w
home_appended w p s_id line old told new is t n = subst (λ l. AppendsLine w (Some l) old new w) (sym is) (record { answers = []; told = told; tells = (t, refl, refl); appended = n })

pub verdict_appended : (w : WorldState) (line : TraceLine) (old told new : List ℕ) → line ≡ Audit → TellsVerdict w told → new ≡ old ++ told → AppendsLine w (Some line) old new w
verdict_appended w line old told new is t n = subst (λ l. AppendsLine w (Some l) old new w) (sym is) (record { answers = []; told = told; tells = (t, refl, refl); appended = n })

pub bad_appended : (w : WorldState) (line : Option TraceLine) (old new : List ℕ) → line ≡ None → new ≡ old ++ codes "REFUSED 5 BadLine\n" → AppendsLine w line old new w
bad_appended w line old new is n = subst (λ l. AppendsLine w l old new w) (sym is) (record { answers = []; told = codes "REFUSED 5 BadLine\n"; tells = (refl, refl, refl); appended = n })

pub line_read : (w w' : WorldState) (line : TraceLine) (read : Option TraceLine) (old new : List ℕ) → read ≡ Some line → AppendsLine w (Some line) old new w' → AppendsLine w read old new w'
line_read w w' line read old new is a = subst (λ l. AppendsLine w l old new w') (sym is) a
