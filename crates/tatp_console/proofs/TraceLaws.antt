-- What is answered to the lines of `trace`.
use Rattle.std.proofs.Common.{ℕ, Bool, false, List, [], ◌∷◌, ◌++◌, ◌∙◌, refl, sym, subst, inl, inr, Result}
use Rattle.std.proofs.lemmas.List.{append-nil}
use Rattle.tatp_encoding.specs.Modules.{ModuleState}
use Rattle.tatp_events.specs.declared.event.Answer.{Answer}
use Rattle.tatp_events.specs.declared.refusal.Refusal.{Refusal}
use Rattle.tatp_dispatch.specs.Worlds.{WorldState}
use Rattle.tatp_dispatch.proofs.BenchmarkLaws.{benchmark}
use Rattle.tatp_console.specs.EventLines.{line_in, AppendsLine, TellsLines, events_in}
use Rattle.tatp_console.proofs.EventRunLaws.{lines_run}
use Rattle.tatp_tasks.specs.declared.setup.Setup.{Setup}
use Rattle.tatp_inputs.specs.Work.{Work}
use Rattle.tatp_console.specs.Answers.{AppendsAnswer, AnswersLines, AnswersLinesOf, AnswersWork, AnswersSome, AnswersMost, AnswersFront}
use Rattle.tatp_console.specs.Tracing.{answers_events, no_ending, TellsWork, TellsFront}

-- ---- a line
pub line_told : (w w' : WorldState) (line old new : List ℕ) → AppendsLine w (line_in line) old new w' → AppendsAnswer (answers_events false) w line old new w'
line_told w w' line old new a = record { text = a.told; answered = (a.answers, a.tells); appended = a.appended }

-- ---- lines
abbrev HasAnswers : Bool → WorldState → List (List ℕ) → List ℕ → WorldState → Type 0
HasAnswers echoed w lines text w' = (answers : List (Result Answer Refusal)) × TellsLines echoed w lines answers text w'

lines_told : (echoed : Bool) (w w' : WorldState) (lines : List (List ℕ)) (text : List ℕ) → AnswersLines (answers_events echoed) w lines text w' → HasAnswers echoed w lines text w'
lines_told echoed w w' [] text t = ([], (refl, t.0, t.1))
lines_told echoed w w' (line ∷ lines) text t =
    let later = lines_told echoed t.0 w' lines t.2 t.5 in
    (t.3.0 ++ later.0, (t.0, t.3.0, later.0, t.1, t.2, t.3.1, refl, t.4, later.1))

-- ---- the lines of an input
lines_of_work_told : (setup : Setup) (echoed : Bool) (m : ModuleState) (work : Work) (text : List ℕ) (after : WorldState) → AnswersLinesOf (answers_events echoed) setup m work text after → TellsWork setup echoed m work text
lines_of_work_told setup echoed m work text after a =
    let told = lines_told echoed a.opened after work.lines text a.answered in
    let runs = lines_run echoed a.opened after work.lines told.0 text a.world told.1 in
    record {
      few = a.few;
      clean = a.clean;
      tells = record {
        opened = a.opened;
        after = after;
        answers = told.0;
        is_opened = a.is_opened;
        tells = told.1;
        runs = runs;
        benchmark = benchmark m work.rows setup.partitions setup.clients a.opened after (events_in echoed work.lines) told.0 a.world a.is_opened runs;
      };
    }

pub work_told : (setup : Setup) (echoed : Bool) (m : ModuleState) (work : Work) (text : List ℕ) → AnswersWork (answers_events echoed) no_ending setup m work text → TellsWork setup echoed m work text
work_told setup echoed m work text a = lines_of_work_told setup echoed m work text a.after
    (subst (λ told. AnswersLinesOf (answers_events echoed) setup m work told a.after) (sym (a.ended ∙ append-nil a.told)) a.answered)

some_told : (setup : Setup) (echoed : Bool) (m : ModuleState) (work : Work) (front : List ℕ) → AnswersSome (answers_events echoed) setup m work front → TellsFront setup echoed m work front
some_told setup echoed m work front f = record {
  lines = f.lines;
  later = f.later;
  rest = f.rest;
  first = f.split;
  tells = lines_of_work_told setup echoed m (record work { lines = f.lines }) (front ++ f.rest) f.after f.answered;
}

most_told : (setup : Setup) (echoed : Bool) (m : ModuleState) (work : Work) (front : List ℕ) → AnswersMost (answers_events echoed) no_ending setup m work front → TellsFront setup echoed m work front
most_told setup echoed m work front f = record {
  lines = work.lines;
  later = [];
  rest = f.0;
  first = sym (append-nil work.lines);
  tells = work_told setup echoed m work (front ++ f.0) f.1;
}

pub front_told : (setup : Setup) (echoed : Bool) (m : ModuleState) (work : Work) (front : List ℕ) → AnswersFront (answers_events echoed) no_ending setup m work front → TellsFront setup echoed m work front
front_told setup echoed m work front f = elim f [ inl some ↦ some_told setup echoed m work front some | inr most ↦ most_told setup echoed m work front most ]
