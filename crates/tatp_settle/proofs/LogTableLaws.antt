-- The whole logs of all numbers, put into one list.
use Rattle.std.proofs.Common.{◌≡◌, ℕ, zero, suc, ◌+◌, ◌<◌, ◌≤◌, ◌⊎◌, inl, inr, List, [], ◌∷◌, ◌++◌, length, Option, None, refl, sym, ◌∙◌, ap, subst, arith}
use Rattle.std.proofs.lemmas.Option.{slice_get_past}
use Rattle.std.proofs.lemmas.Bool.{cases_lt}
use Rattle.std.proofs.lemmas.List.{length_push}
use Rattle.std.specs.Option.{option_map_or}
use Rattle.tatp_calls.specs.declared.entry.Entry.{Entry}
use Rattle.tatp_extents.specs.Chapters.{chapters_listed, entries_joined}
use Rattle.tatp_settle.specs.Closings.{ClosedState, ExtentLog, log_numbered, chapter_numbered, entries_numbered, least_above}
use Rattle.tatp_settle.specs.LogTables.{log_in, HasLogs}

-- a number without a log has no entries
pub without_log : (c : ClosedState) (e : ℕ) → log_numbered c e ≡ None → entries_numbered c e ≡ []
without_log c e none =
    ap (λ (v : Option ExtentLog). entries_joined (chapters_listed (chapter_numbered c e) 0 (option_map_or (λ (log : ExtentLog). log.chapters) v 0)) ++ option_map_or (λ (log : ExtentLog). log.entries) v []) none

-- the list has the logs of the numbers below the count, and no more
pub record LogsBelow (closed : ClosedState) (logs : List (List Entry)) (count : ℕ) : Type 0 where
  pub len : length logs ≡ count
  pub are : (e : ℕ) → e < count → entries_numbered closed e ≡ log_in logs e

pub logs_start : (closed : ClosedState) → LogsBelow closed [] 0
logs_start closed = record { len = refl; are = λ e l. absurd (omega (arith, l)) }

none_past : (logs : List (List Entry)) (e : ℕ) → length logs ≤ e → log_in logs e ≡ []
none_past logs e l = ap (λ (v : Option (List Entry)). option_map_or (λ (log : List Entry). log) v []) (slice_get_past logs e l)

kept : (logs : List (List Entry)) (log : List Entry) (e : ℕ) → e < length logs → log_in (logs ++ log ∷ []) e ≡ log_in logs e
kept [] log e l = absurd (omega (arith, l))
kept (x ∷ logs) log zero l = refl
kept (x ∷ logs) log (suc e) l = kept logs log e (omega (arith, l))

last : (logs : List (List Entry)) (log : List Entry) → log_in (logs ++ log ∷ []) (length logs) ≡ log
last [] log = refl
last (x ∷ logs) log = last logs log

pub logs_more : (closed : ClosedState) (logs : List (List Entry)) (log : List Entry) (count : ℕ) → LogsBelow closed logs count → log ≡ entries_numbered closed count → LogsBelow closed (logs ++ log ∷ []) (count + 1)
logs_more closed logs log count h is = record {
  len = length_push logs log ∙ ap (λ (n : ℕ). n + 1) h.len;
  are = λ e l. by_cases e (cases_lt e count) l;
}
  where
    by_cases : (e : ℕ) → (e < count) ⊎ (count ≤ e) → e < count + 1 → entries_numbered closed e ≡ log_in (logs ++ log ∷ []) e
    by_cases e (inl l) within = h.are e l ∙ sym (kept logs log e (omega (arith, l, h.len)))
    by_cases e (inr l) within =
        let here : count ≡ e = omega (arith, l, within) in
        subst (λ (n : ℕ). entries_numbered closed n ≡ log_in (logs ++ log ∷ []) n) here (sym is ∙ (sym (last logs log) ∙ ap (λ (n : ℕ). log_in (logs ++ log ∷ []) n) h.len))

pub logs_all : (closed : ClosedState) (logs : List (List Entry)) (count : ℕ) → LogsBelow closed logs count → count ≡ least_above closed → ((e : ℕ) → count ≤ e → log_numbered closed e ≡ None) → HasLogs closed logs
logs_all closed logs count h is past = record { count = h.len ∙ is; are = λ e. by_cases e (cases_lt e count) }
  where
    by_cases : (e : ℕ) → (e < count) ⊎ (count ≤ e) → entries_numbered closed e ≡ log_in logs e
    by_cases e (inl l) = h.are e l
    by_cases e (inr l) = without_log closed e (past e l) ∙ sym (none_past logs e (omega (arith, l, h.len)))
