-- What is answered to the lines of `call`.
use Rattle.std.proofs.Common.{◌≡◌, ℕ, ◌+◌, ◌<◌, ◌∙◌, sym, ap, subst, arith, Bool, true, false, List, [], ◌∷◌, ◌++◌, length, Some, Result, Ok, Err, refl, append_assoc, inl, inr}
use Rattle.std.specs.Result.{result_err}
use Rattle.std.proofs.lemmas.List.{append-nil}
use Rattle.tatp_limits.specs.declared.limits.TheConstants.{MAX_INPUT_LIMIT}
use Rattle.tatp_encoding.specs.Modules.{ModuleState}
use Rattle.tatp_tables.specs.Database.{Database}
use Rattle.tatp_calls.specs.declared.ask.Ask.TheVariants.{Txn}
use Rattle.tatp_calls.specs.declared.call.Call.{Call}
use Rattle.tatp_calls.specs.declared.call.Call.TheVariants.{GetSubscriberData, GetNewDestination, GetAccessData, UpdateSubscriberData, UpdateLocation, InsertCallForwarding, DeleteCallForwarding}
use Rattle.tatp_calls.specs.declared.domains.BadArgument.{BadArgument as Bad}
use Rattle.tatp_calls.specs.declared.reply.Reply.{Reply}
use Rattle.tatp_calls.specs.Arguments.{arguments_accepted}
use Rattle.tatp_calls.specs.Asked.{has_procedure, bad_argument}
use Rattle.tatp_calls.specs.ReplyText.{reply_text}
use Rattle.tatp_procs.specs.Standard.{standard_module}
use Rattle.tatp_events.specs.declared.refusal.Refusal.{Refusal}
use Rattle.tatp_events.specs.declared.refusal.Refusal.TheVariants.{BadArgument}
use Rattle.tatp_trace_lines.specs.AnswerText.{refused_text}
use Rattle.tatp_dispatch.specs.Calling.{MakesCall, CallsOnce}
use Rattle.tatp_dispatch.specs.Resting.{IsAtRest, IsOutcomeAtRest}
use Rattle.tatp_dispatch.specs.Shown.{set_back}
use Rattle.tatp_dispatch.specs.Worlds.{WorldState}
use Rattle.tatp_dispatch.proofs.RestLaws.{longer_at_rest, call_from_rest}
use Rattle.tatp_tasks.specs.declared.setup.Setup.{Setup}
use Rattle.tatp_inputs.specs.Work.{Work}
use Rattle.tatp_console.specs.Answers.{IsReady, StaysReady, AppendsAnswer, AnswersLines, AnswersWork, AnswersSome, AnswersFront}
use Rattle.tatp_console.specs.RowsWritten.{rows_if_asked}
use Rattle.tatp_console.specs.Replying.{IsAtRestAfter, AnswersCall, AnswersLine, RepliesTo, answers_call, outcome_text, rows_after}
use Rattle.tatp_console.specs.Served.{call_in, call_answer, line_answer, replies, database_after, rows_left, Served, ServedFront}

-- ---- from rest
has_standard : (call : Call) → has_procedure standard_module (Txn call) ≡ true
has_standard (GetSubscriberData s) = refl
has_standard (GetNewDestination s t b e) = refl
has_standard (GetAccessData s t) = refl
has_standard (UpdateSubscriberData s x t y) = refl
has_standard (UpdateLocation n v) = refl
has_standard (InsertCallForwarding n t b e x) = refl
has_standard (DeleteCallForwarding n t b) = refl

made_from_rest : (lines : ℕ) (call : Call) (w w' : WorldState) (outcome : Result Reply Refusal) → lines < MAX_INPUT_LIMIT → IsAtRestAfter lines w → MakesCall w 0 (Txn call) outcome w' → IsOutcomeAtRest (bad_argument (Txn call)) outcome × IsAtRest (lines + 1) w'
made_from_rest lines call w w' outcome few at made =
    call_from_rest w lines (Txn call) outcome w' at.world at.rest (omega (arith, few))
    (ap (λ (m : ModuleState). has_procedure m (Txn call)) at.standard ∙ has_standard call) made

-- whatever becomes of the call
pub rests_after : (call : Call) (w w' : WorldState) → ((outcome : Result Reply Refusal) × MakesCall w 0 (Txn call) outcome w') → StaysReady IsAtRestAfter w w'
rests_after call w w' made = λ lines few at. record {
  standard = made.1.modul ∙ at.standard;
  world = made.1.world;
  rest = (made_from_rest lines call w w' made.0 few at made.1).1;
}

-- nothing was done for the line
pub rests_on : (w : WorldState) → StaysReady IsAtRestAfter w w
rests_on w = λ lines few at. record { standard = at.standard; world = at.world; rest = longer_at_rest lines (lines + 1) w (omega arith) at.rest }

pub standard_after : (w b : WorldState) → IsReady IsAtRestAfter w → StaysReady IsAtRestAfter w b → b.modul ≡ standard_module
standard_after w b ready stays = (stays ready.0 ready.1 ready.2).standard

-- ---- a line
reply_appended : (w w' : WorldState) (line old told new : List ℕ) → AnswersLine line (set_back w) old told (set_back w') → new ≡ told ++ 10 ∷ [] → AppendsAnswer answers_call w line old new w'
reply_appended w w' line old told new a e =
    let text = (line_answer a.refused (call_in line) (set_back w)).text in
    record {
      text = text ++ 10 ∷ [];
      answered = record { refused = a.refused; told = refl; database = a.database };
      appended = e ∙ (ap (λ ts. ts ++ 10 ∷ []) a.told ∙ append_assoc old text (10 ∷ []));
    }

-- a call is answered as its line is
pub call_answered : (line : List ℕ) (call : Call) (w w' : WorldState) (old new : List ℕ) → call_in line ≡ Some call → IsReady IsAtRestAfter w → AnswersCall w call old new w' → AnswersLine line (set_back w) old new (set_back w')
call_answered line call w w' old new is ready a =
    by_outcome (arguments_accepted call) refl a.outcome (made_from_rest ready.0 call w w' a.outcome ready.1 ready.2 a.made).0 a.made a.told
  where
    answer_is : (refused : Bool) (fits : Result (Unit {0}) Bad) → arguments_accepted call ≡ fits → line_answer refused (call_in line) (set_back w) ≡ call_answer refused call fits (set_back w)
    answer_is refused fits e = ap (λ c. line_answer refused c (set_back w)) is ∙ ap (λ f. call_answer refused call f (set_back w)) e

    by_outcome : (fits : Result (Unit {0}) Bad) → arguments_accepted call ≡ fits → (outcome : Result Reply Refusal) → IsOutcomeAtRest (result_err fits) outcome → MakesCall w 0 (Txn call) outcome w' → new ≡ old ++ outcome_text call outcome → AnswersLine line (set_back w) old new (set_back w')
    by_outcome (Err bad) e outcome by made told =
        let same : CallsOnce w 0 (Txn call) (Err (BadArgument bad)) w' = subst (λ (o : Result Reply Refusal). CallsOnce w 0 (Txn call) o w') by made.call in
        record {
          refused = false;
          told = told ∙ ap (λ o. old ++ outcome_text call o) by ∙ ap (λ t. old ++ t.text) (sym (answer_is false (Err bad) e));
          database = same.back ∙ ap (λ t. t.database) (sym (answer_is false (Err bad) e));
        }
    by_outcome (Ok fit) e (Ok reply) by made told =
        let replied = made.transaction call ready.2.standard refl in
        record {
          refused = false;
          told = told ∙ ap (λ r. old ++ reply_text (Txn call) r) (sym (ap (λ t. t.reply) replied)) ∙ ap (λ t. old ++ t.text) (sym (answer_is false (Ok fit) e));
          database = sym (ap (λ t. t.database) replied) ∙ ap (λ t. t.database) (sym (answer_is false (Ok fit) e));
        }
    by_outcome (Ok fit) e (Err refusal) by made told = record {
      refused = true;
      told = told ∙ ap (λ r. old ++ refused_text r) by ∙ ap (λ t. old ++ t.text) (sym (answer_is true (Ok fit) e));
      database = made.call.back ∙ ap (λ t. t.database) (sym (answer_is true (Ok fit) e));
    }

-- what is kept of calls is let go after it
pub line_replied : (w b w' : WorldState) (line old told new : List ℕ) → AnswersLine line (set_back w) old told (set_back b) → new ≡ told ++ 10 ∷ [] → set_back w' ≡ set_back b
    → AppendsAnswer answers_call w line old new w'
line_replied w b w' line old told new a e back = reply_appended w w' line old told new (subst (λ (u : Database). AnswersLine line (set_back w) old told u) (sym back) a) e

-- ---- lines, whichever marks and lines come after them
-- some marks are those of the lines: with others after them the replies to the lines and to others are the text, and after it the replies to the others
abbrev HasReplies : WorldState → List (List ℕ) → List ℕ → WorldState → Type 0
HasReplies w lines text w' =
    (marks : List Bool) × ((later : List Bool) (more : List (List ℕ)) → replies (marks ++ later) (lines ++ more) (set_back w) ≡ text ++ replies later more (set_back w'))
    × ((later : List Bool) (more : List (List ℕ)) → database_after (marks ++ later) (lines ++ more) (set_back w) ≡ database_after later more (set_back w'))

no_line : (w w' : WorldState) (text : List ℕ) → text ≡ [] → w' ≡ w → HasReplies w [] text w'
no_line w w' text e same = ([], λ later more. rw (e, same) refl, λ later more. rw same refl)

line_before : (w b w' : WorldState) (line : List ℕ) (lines : List (List ℕ)) (text first rest : List ℕ) → RepliesTo line (set_back w) first (set_back b) → text ≡ first ++ rest
    → HasReplies b lines rest w' → HasReplies w (line ∷ lines) text w'
unfolding replies database_after
line_before w b w' line lines text first rest r e h = (
  r.refused ∷ h.0,
  λ later more.
      let reply = (line_answer r.refused (call_in line) (set_back w)).text in
      let others = replies later more (set_back w') in
      ap (λ u. reply ++ 10 ∷ replies (h.0 ++ later) (lines ++ more) u) (sym r.database)
      ∙ (ap (λ ts. reply ++ 10 ∷ ts) (h.1 later more)
      ∙ sym (ap (λ ts. ts ++ others) e ∙ (append_assoc first rest others ∙ (ap (λ ts. ts ++ (rest ++ others)) r.told ∙ append_assoc reply (10 ∷ []) (rest ++ others))))),
  λ later more. ap (λ u. database_after (h.0 ++ later) (lines ++ more) u) (sym r.database) ∙ h.2 later more,
)

lines_replied : (w w' : WorldState) (lines : List (List ℕ)) (text : List ℕ) → AnswersLines answers_call w lines text w' → HasReplies w lines text w'
lines_replied w w' [] text t = no_line w w' text t.0 t.1
lines_replied w w' (line ∷ lines) text t = line_before w t.0 w' line lines text t.1 t.2 t.3 t.4 (lines_replied t.0 w' lines t.2 t.5)

-- ---- the lines of an input
-- all of them are answered, and the rows follow
with_rows : (rows : Bool) (n : ℕ) (text told whole : List ℕ) (after : WorldState) (u : Database) → text ≡ told ++ rows_after rows n after → whole ≡ told → u ≡ set_back after
    → text ≡ whole ++ rows_if_asked rows n u
with_rows rows n text told whole after u ended same back = rw (same, back) ended

pub all_served : (rows : Bool) (setup : Setup) (m : ModuleState) (work : Work) (text : List ℕ) → AnswersWork answers_call (rows_after rows) setup m work text → Served rows work text
unfolding replies database_after
all_served rows setup m work text all =
    let a = all.answered in
    let h = lines_replied a.opened all.after work.lines all.told a.answered in (
      h.0 ++ [],
      record {
        few = a.few;
        clean = a.clean;
        replied = with_rows rows (length work.rows.subscribers) text all.told _ all.after _ all.ended
            (ap (λ u. replies (h.0 ++ []) work.lines u) (sym a.is_opened.back)
            ∙ (ap (λ ls. replies (h.0 ++ []) ls (set_back a.opened)) (sym (append-nil work.lines))
            ∙ (h.1 [] [] ∙ append-nil all.told)))
            (ap (λ u. database_after (h.0 ++ []) work.lines u) (sym a.is_opened.back)
            ∙ (ap (λ ls. database_after (h.0 ++ []) ls (set_back a.opened)) (sym (append-nil work.lines)) ∙ h.2 [] []));
      },
    )

-- some of them are
some_served : (rows : Bool) (setup : Setup) (m : ModuleState) (work : Work) (front : List ℕ) → AnswersSome answers_call setup m work front → ServedFront rows work front
some_served rows setup m work front f =
    let a = f.answered in
    let h = lines_replied a.opened f.after f.lines (front ++ f.rest) a.answered in
    let others = replies [] f.later (set_back f.after) in
    let last = rows_left rows (h.0 ++ []) work in (
      (f.rest ++ others) ++ last,
      (
        h.0 ++ [],
        record {
          few = a.few;
          clean = a.clean;
          replied = sym (append_assoc front (f.rest ++ others) last)
              ∙ ap (λ ts. ts ++ last)
              (sym (ap (λ u. replies (h.0 ++ []) work.lines u) (sym a.is_opened.back)
              ∙ (ap (λ ls. replies (h.0 ++ []) ls (set_back a.opened)) f.split
              ∙ (h.1 [] f.later ∙ append_assoc front f.rest others))));
        },
      ),
    )

pub front_served : (rows : Bool) (setup : Setup) (m : ModuleState) (work : Work) (front : List ℕ) → AnswersFront answers_call (rows_after rows) setup m work front → ServedFront rows work front
front_served rows setup m work front f =
    elim f [ inl some ↦ some_served rows setup m work front some | inr most ↦ (most.0, all_served rows setup m work (front ++ most.0) most.1) ]
