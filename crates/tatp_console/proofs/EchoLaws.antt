-- What is told of lines that are echoed.
use Rattle.std.proofs.Common.{◌≡◌, ℕ, ◌∙◌, sym, ap, subst, true, false, List, [], ◌∷◌, ◌++◌, refl, append_assoc, codes}
use Rattle.std.specs.Str.Lossy.{utf8_lossy}
use Rattle.std.proofs.lemmas.List.{append-nil}
use Rattle.tatp_dispatch.specs.Worlds.{WorldState}
use Rattle.tatp_console.specs.EventLines.{line_in, echo_of, is_comment, TellsUnlessComment, AppendsLine}
use Rattle.tatp_console.specs.Answers.{AppendsAnswer}
use Rattle.tatp_console.specs.Tracing.{answers_events}

-- the line itself
pub echo_pushed : (old first second new line text : List ℕ) → text ≡ utf8_lossy line → first ≡ old ++ codes "> " → second ≡ first ++ text → new ≡ second ++ codes "\n" → new ≡ old ++ echo_of line
echo_pushed old first second new line text t f s n =
    rw (n, s, f, t) (append_assoc (old ++ codes "> ") (utf8_lossy line) (10 ∷ []) ∙ append_assoc old (codes "> ") (utf8_lossy line ++ 10 ∷ []))

-- to a comment nothing is answered
pub comment_told : (w : WorldState) (line old new : List ℕ) → is_comment line ≡ true → new ≡ old ++ echo_of line → AppendsAnswer (answers_events true) w line old new w
comment_told w line old new c n = record {
  text = echo_of line;
  answered = ([], ([], sym (append-nil (echo_of line)), subst (λ is. TellsUnlessComment is w line [] [] w) (sym c) (refl, refl, refl)));
  appended = n;
}

-- what is answered to another line stands behind it
pub answer_told : (w w' : WorldState) (line old between new : List ℕ) → is_comment line ≡ false → between ≡ old ++ echo_of line → AppendsLine w (line_in line) between new w' → AppendsAnswer (answers_events true) w line old new w'
answer_told w w' line old between new c b a = record {
  text = echo_of line ++ a.told;
  answered = (a.answers, (a.told, refl, subst (λ is. TellsUnlessComment is w line a.answers a.told w') (sym c) a.tells));
  appended = a.appended ∙ (ap (λ front. front ++ a.told) b ∙ append_assoc old (echo_of line) a.told);
}
