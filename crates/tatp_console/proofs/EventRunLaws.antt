-- What is told of lines, one after another, and the run that their events are.
use Rattle.std.proofs.Common.{◌≡◌, ℕ, ◌∙◌, sym, ap, subst, Bool, true, false, List, [], ◌∷◌, ◌++◌, refl, replicate, append_assoc, Result, Option, Some, None, if◌then◌else◌}
use Rattle.std.proofs.lemmas.List.{append-nil}
use Rattle.tatp_events.specs.declared.event.Event.{Event as AnEvent}
use Rattle.tatp_events.specs.declared.event.Event.TheVariants.{Step}
use Rattle.tatp_events.specs.declared.event.Answer.{Answer}
use Rattle.tatp_events.specs.declared.refusal.Refusal.{Refusal}
use Rattle.tatp_dispatch.specs.Runs.{Runs}
use Rattle.tatp_dispatch.specs.Serving.{IsWorld}
use Rattle.tatp_dispatch.specs.Worlds.{WorldState}
use Rattle.tatp_dispatch.proofs.RunningLaws.{runs_nothing, runs_more}
use Rattle.tatp_trace_lines.specs.declared.line.TraceLine.{TraceLine}
use Rattle.tatp_trace_lines.specs.declared.line.TraceLine.TheVariants.{Event, Steps, Look, Home, Audit}
use Rattle.tatp_console.specs.EventLines.{line_in, is_comment, TellsEvents, TellsLine, TellsUnlessComment, TellsOf, TellsLines, events_of, events_told, events_in}

-- ---- one line more
pub no_lines : (echoed : Bool) (w : WorldState) → TellsLines echoed w [] [] [] w
no_lines echoed w = (refl, refl, refl)

pub lines_more : (echoed : Bool) (w b c : WorldState) (lines : List (List ℕ)) (answers : List (Result Answer Refusal)) (told : List ℕ) (line : List ℕ) (here : List (Result Answer Refusal)) (first : List ℕ)
    → TellsLines echoed w lines answers told b → TellsOf echoed b line here first c → TellsLines echoed w (lines ++ line ∷ []) (answers ++ here) (told ++ first) c
lines_more echoed w b c [] answers told line here first t l = (
  c,
  here,
  [],
  first,
  [],
  subst (λ x. TellsOf echoed x line here first c) t.2 l,
  ap (λ front. front ++ here) t.0 ∙ sym (append-nil here),
  ap (λ front. front ++ first) t.1 ∙ sym (append-nil first),
  (refl, refl, refl),
)
lines_more echoed w b c (x ∷ lines) answers told line here first t l = (
  t.0,
  t.1,
  t.2 ++ here,
  t.3,
  t.4 ++ first,
  t.5,
  ap (λ front. front ++ here) t.6 ∙ append_assoc t.1 t.2 here,
  ap (λ front. front ++ first) t.7 ∙ append_assoc t.3 t.4 first,
  lines_more echoed t.0 b c lines t.2 t.4 line here first t.8 l,
)

-- ---- the run
runs_events : (o w w' : WorldState) (es : List AnEvent) (ys : List (Result Answer Refusal)) (events : List AnEvent) (answers : List (Result Answer Refusal)) (told : List ℕ)
    → Runs o es ys w → TellsEvents w events answers told w' → Runs o (es ++ events) (ys ++ answers) w'
runs_events o w w' es ys [] [] told r t = subst (λ x. Runs o (es ++ []) (ys ++ []) x) (sym t.1) (subst (λ xs. Runs o xs (ys ++ []) w) (sym (append-nil es)) (subst (λ zs. Runs o es zs w) (sym (append-nil ys)) r))
runs_events o w w' es ys [] (a ∷ answers) told r t = absurd t
runs_events o w w' es ys (e ∷ events) [] told r t = absurd t
runs_events o w w' es ys (e ∷ events) (a ∷ answers) told r t =
    let later = runs_events o t.0 w' (es ++ e ∷ []) (ys ++ a ∷ []) events answers t.2 (runs_more o w t.0 es ys e a r t.3.happens t.3.tells) t.5 in
    subst (λ xs. Runs o xs (ys ++ a ∷ answers) w') (append_assoc es (e ∷ []) events) (subst (λ zs. Runs o ((es ++ e ∷ []) ++ events) zs w') (append_assoc ys (a ∷ []) answers) later)

runs_no_event : (o w w' : WorldState) (es : List AnEvent) (ys answers : List (Result Answer Refusal)) → Runs o es ys w → answers ≡ [] → w' ≡ w → Runs o (es ++ []) (ys ++ answers) w'
runs_no_event o w w' es ys answers r a k =
    subst (λ x. Runs o (es ++ []) (ys ++ answers) x) (sym k) (subst (λ xs. Runs o xs (ys ++ answers) w) (sym (append-nil es)) (subst (λ zs. Runs o es (ys ++ zs) w) (sym a) (subst (λ zs. Runs o es zs w) (sym (append-nil ys)) r)))

runs_line : (o w w' : WorldState) (es : List AnEvent) (ys : List (Result Answer Refusal)) (line : Option TraceLine) (answers : List (Result Answer Refusal)) (told : List ℕ)
    → Runs o es ys w → TellsLine w line answers told w' → Runs o (es ++ events_of line) (ys ++ answers) w'
runs_line o w w' es ys (Some (Event event)) answers told r t = runs_events o w w' es ys (event ∷ []) answers told r t
runs_line o w w' es ys (Some (Steps p count)) answers told r t = runs_events o w w' es ys (replicate count (Step p)) answers told r t
runs_line o w w' es ys (Some (Look p)) answers told r t = runs_no_event o w w' es ys answers r t.1 t.2
runs_line o w w' es ys (Some (Home p s_id)) answers told r t = runs_no_event o w w' es ys answers r t.1 t.2
runs_line o w w' es ys (Some Audit) answers told r t = runs_no_event o w w' es ys answers r t.1 t.2
runs_line o w w' es ys None answers told r t = runs_no_event o w w' es ys answers r t.1 t.2

-- a comment has no event
runs_unless_comment : (o w w' : WorldState) (es : List AnEvent) (ys : List (Result Answer Refusal)) (comment : Bool) (line : List ℕ) (answers : List (Result Answer Refusal)) (told : List ℕ)
    → Runs o es ys w → TellsUnlessComment comment w line answers told w' → Runs o (es ++ (if comment then [] else events_of (line_in line))) (ys ++ answers) w'
runs_unless_comment o w w' es ys true line answers told r t = runs_no_event o w w' es ys answers r t.1 t.2
runs_unless_comment o w w' es ys false line answers told r t = runs_line o w w' es ys (line_in line) answers told r t

runs_told : (echoed : Bool) (o w w' : WorldState) (es : List AnEvent) (ys : List (Result Answer Refusal)) (line : List ℕ) (answers : List (Result Answer Refusal)) (told : List ℕ)
    → Runs o es ys w → TellsOf echoed w line answers told w' → Runs o (es ++ events_told echoed line) (ys ++ answers) w'
runs_told false o w w' es ys line answers told r t = runs_line o w w' es ys (line_in line) answers told r t
runs_told true o w w' es ys line answers told r t = runs_unless_comment o w w' es ys (is_comment line) line answers t.0 r t.2

runs_lines : (echoed : Bool) (o w w' : WorldState) (es : List AnEvent) (ys : List (Result Answer Refusal)) (lines : List (List ℕ)) (answers : List (Result Answer Refusal)) (told : List ℕ)
    → Runs o es ys w → TellsLines echoed w lines answers told w' → Runs o (es ++ events_in echoed lines) (ys ++ answers) w'
runs_lines echoed o w w' es ys [] answers told r t = runs_no_event o w w' es ys answers r t.0 t.2
runs_lines echoed o w w' es ys (line ∷ lines) answers told r t =
    let later = runs_lines echoed o t.0 w' (es ++ events_told echoed line) (ys ++ t.1) lines t.2 t.4 (runs_told echoed o w t.0 es ys line t.1 t.3 r t.5) t.8 in
    subst (λ zs. Runs o (es ++ events_in echoed (line ∷ lines)) (ys ++ zs) w') (sym t.6)
    (subst (λ xs. Runs o xs (ys ++ (t.1 ++ t.2)) w') (append_assoc es (events_told echoed line) (events_in echoed lines))
    (subst (λ zs. Runs o ((es ++ events_told echoed line) ++ events_in echoed lines) zs w') (append_assoc ys t.1 t.2) later))

pub lines_run : (echoed : Bool) (w w' : WorldState) (lines : List (List ℕ)) (answers : List (Result Answer Refusal)) (told : List ℕ) → IsWorld w → TellsLines echoed w lines answers told w' → Runs w (events_in echoed lines) answers w'
lines_run echoed w w' lines answers told good t = runs_lines echoed w w w' [] [] lines answers told (runs_nothing w good) t
