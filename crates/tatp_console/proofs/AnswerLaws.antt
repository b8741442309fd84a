-- What answering lines one after another keeps.
use Rattle.std.proofs.Common.{◌≡◌, ℕ, ◌∙◌, sym, ap, subst, List, [], ◌∷◌, ◌++◌, take, drop, refl, Option, Some, None, append_assoc, take-append-drop, inl, inr, ◌⊎◌}
use Rattle.std.specs.Option.{option_map, IfSome}
use Rattle.std.specs.Io.KnownBytes.{Appends}
use Rattle.std.proofs.lemmas.List.{append-nil}
use Rattle.tatp_dispatch.specs.Worlds.{WorldState}
use Rattle.tatp_streams.specs.LineReading.{LinesLeft, InputSize, IsWithinLimit, Stays, Relates, with_line}
use Rattle.tatp_streams.proofs.LineReadingLaws.{relates_from_start, relates_line, relates_end, relates_all, relates_as}
use Rattle.tatp_streams.specs.Writing.{AppendsFront, KeepsOrAppends}
use Rattle.tatp_streams.proofs.StreamLaws.{appends_none, appends_both}
use Rattle.tatp_console.specs.Answers.{Answering, AppendsAnswer, AnswersLines, AnswersAll, AnswersUpTo, AnswersToEnd, AnswersInEnding}

-- ---- one line more
no_lines : (answers : Answering) (w : WorldState) → AnswersLines answers w [] [] w
no_lines answers w = (refl, refl)

lines_more : (answers : Answering) (w b c : WorldState) (lines : List (List ℕ)) (text line first : List ℕ)
    → AnswersLines answers w lines text b → answers b line first c → AnswersLines answers w (lines ++ line ∷ []) (text ++ first) c
lines_more answers w b c [] text line first t l = (
  c,
  first,
  [],
  subst (λ x. answers x line first c) t.1 l,
  ap (λ front. front ++ first) t.0 ∙ sym (append-nil first),
  (refl, refl),
)
lines_more answers w b c (x ∷ lines) text line first t l = (
  t.0,
  t.1,
  t.2 ++ first,
  t.3,
  ap (λ front. front ++ first) t.4 ∙ append_assoc t.1 t.2 first,
  lines_more answers t.0 b c lines t.2 line first t.5 l,
)

-- ---- what is written and what is pending is answered to the lines so far, from the whole w on
pub record Going (answers : Answering) (w : WorldState) (all : List (List ℕ)) (old new : Option (List ℕ)) (pending : List ℕ) (left : List (List ℕ)) (now : WorldState) : Type 0 where
  pub first : List (List ℕ)
  pub written : List ℕ
  pub split : all ≡ first ++ left
  pub answered : AnswersLines answers w first (written ++ pending) now
  pub held : Appends old new written

pub goes_from_start : (answers : Answering) (w : WorldState) (all : List (List ℕ)) (old : Option (List ℕ)) (pending : List ℕ)
    → pending ≡ [] → Going answers w all old old pending all w
goes_from_start answers w all old pending e = record {
  first = [];
  written = [];
  split = refl;
  answered = subst (λ text. AnswersLines answers w [] text w) (sym e) (no_lines answers w);
  held = appends_none old;
}

-- a line is answered
pub goes_on : (answers : Answering) (w now after : WorldState) (all left more : List (List ℕ)) (old new : Option (List ℕ)) (pending longer line : List ℕ)
    → Going answers w all old new pending left now → left ≡ line ∷ more → AppendsAnswer answers now line pending longer after → Going answers w all old new longer more after
goes_on answers w now after all left more old new pending longer line g e a = record {
  first = g.first ++ line ∷ [];
  written = g.written;
  split = g.split ∙ (ap (λ ls. g.first ++ ls) e ∙ sym (append_assoc g.first (line ∷ []) more));
  answered = subst (λ text. AnswersLines answers w (g.first ++ line ∷ []) text after) (append_assoc g.written pending a.text ∙ ap (λ text. g.written ++ text) (sym a.appended))
      (lines_more answers w now after g.first (g.written ++ pending) line a.text g.answered a.answered);
  held = g.held;
}

-- what is pending is written
flushed : (answers : Answering) (w now : WorldState) (all left : List (List ℕ)) (old new then : Option (List ℕ)) (pending : List ℕ)
    → Going answers w all old new pending left now → Appends new then pending → Going answers w all old then [] left now
flushed answers w now all left old new then pending g h = record {
  first = g.first;
  written = g.written ++ pending;
  split = g.split;
  answered = subst (λ text. AnswersLines answers w g.first text now) (sym (append-nil (g.written ++ pending))) g.answered;
  held = appends_both old new then g.written pending g.held h;
}

-- it is written or not
pub goes_written : (answers : Answering) (w now : WorldState) (all left : List (List ℕ)) (old new then : Option (List ℕ)) (pending rest : List ℕ)
    → Going answers w all old new pending left now → KeepsOrAppends pending rest new then → Going answers w all old then rest left now
goes_written answers w now all left old new then pending rest g o =
    elim o [ inl same ↦ rw (same.0, same.1) g | inr told ↦ rw told.1 (flushed answers w now all left old new then pending g told.0) ]

-- the end
pub goes_to_end : (answers : Answering) (w now : WorldState) (all left : List (List ℕ)) (old new then : Option (List ℕ)) (pending : List ℕ)
    → Going answers w all old new pending left now → left ≡ [] → Appends new then pending → AnswersAll answers w all old then now
goes_to_end answers w now all left old new then pending g e h = record {
  text = g.written ++ pending;
  answered = subst (λ ls. AnswersLines answers w ls (g.written ++ pending) now) (sym (g.split ∙ (ap (λ ls. g.first ++ ls) e ∙ append-nil g.first))) g.answered;
  written = appends_both old new then g.written pending g.held h;
}

-- a front of what is pending was written
pub goes_up_to : (answers : Answering) (w now : WorldState) (all left : List (List ℕ)) (old new then : Option (List ℕ)) (pending : List ℕ)
    → Going answers w all old new pending left now → AppendsFront pending new then → AnswersUpTo answers w all old then
goes_up_to answers w now all left old new then pending g h =
    let n = h.0 in
    record {
      first = g.first;
      later = left;
      after = now;
      front = g.written ++ take n pending;
      rest = drop n pending;
      split = g.split;
      answered = subst (λ text. AnswersLines answers w g.first text now) (ap (λ text. g.written ++ text) (sym (take-append-drop n pending)) ∙ sym (append_assoc g.written (take n pending) (drop n pending))) g.answered;
      written = appends_both old new then g.written (take n pending) g.held h.1;
    }

-- nothing of what is pending was written
pub goes_so_far : (answers : Answering) (w now : WorldState) (all left : List (List ℕ)) (old new : Option (List ℕ)) (pending : List ℕ)
    → Going answers w all old new pending left now → AnswersUpTo answers w all old new
goes_so_far answers w now all left old new pending g = record {
  first = g.first;
  later = left;
  after = now;
  front = g.written;
  rest = pending;
  split = g.split;
  answered = g.answered;
  written = g.held;
}

-- ---- of the lines that were left and that are, where those of the input are known
pub record GoingOn (answers : Answering) (w : WorldState) (old new : Option (List ℕ)) (pending : List ℕ) (now : WorldState) (all left : LinesLeft) : Type 0 where
  pub goes : Going answers w all.lines old new pending left.lines now
  pub input : left.input ≡ all.input

pub starts : (answers : Answering) (w : WorldState) (all : Option LinesLeft) (old : Option (List ℕ)) (pending : List ℕ) → pending ≡ []
    → Relates all all (GoingOn answers w old old pending w)
starts answers w all old pending e =
    relates_from_start all (GoingOn answers w old old pending w)
    (λ left. record { goes = goes_from_start answers w left.lines old pending e; input = refl })

-- what was pending is written or not, and then a line is answered
answered_next : (answers : Answering) (w now after : WorldState) (old new then : Option (List ℕ)) (pending rest longer line : List ℕ) (a l : LinesLeft)
    → KeepsOrAppends pending rest new then → AppendsAnswer answers now line rest longer after
    → GoingOn answers w old new pending now a (with_line line l) → GoingOn answers w old then longer after a l
answered_next answers w now after old new then pending rest longer line a l kept answered g = record {
  goes = goes_on answers w now after a.lines (line ∷ l.lines) l.lines old then rest longer line (goes_written answers w now a.lines (line ∷ l.lines) old new then pending rest g.goes kept) refl answered;
  input = g.input;
}

pub answers_next : (answers : Answering) (w now after : WorldState) (all left left' : Option LinesLeft) (old new then : Option (List ℕ)) (pending rest longer line : List ℕ)
    → Relates all left (GoingOn answers w old new pending now) → Stays left (option_map (with_line line) left') → KeepsOrAppends pending rest new then → AppendsAnswer answers now line rest longer after
    → Relates all left' (GoingOn answers w old then longer after)
answers_next answers w now after all left left' old new then pending rest longer line h s kept answered =
    relates_line all left left' line (GoingOn answers w old new pending now) (GoingOn answers w old then longer after) h s
    (λ a l g. answered_next answers w now after old new then pending rest longer line a l kept answered g)

-- and what is pending is written or not
pub writes_next : (answers : Answering) (w now : WorldState) (all left : Option LinesLeft) (old new then : Option (List ℕ)) (pending rest : List ℕ)
    → Relates all left (GoingOn answers w old new pending now) → KeepsOrAppends pending rest new then → Relates all left (GoingOn answers w old then rest now)
writes_next answers w now all left old new then pending rest h kept =
    relates_as all left (GoingOn answers w old new pending now) (GoingOn answers w old then rest now) h
    (λ a l g. record { goes = goes_written answers w now a.lines l.lines old new then pending rest g.goes kept; input = g.input })

-- the end
pub answers_all : (answers : Answering) (w now : WorldState) (all left left' : Option LinesLeft) (old new then : Option (List ℕ)) (pending : List ℕ)
    → Relates all left (GoingOn answers w old new pending now) → Stays left left' → IfSome left' (λ l. l.lines ≡ []) → IfSome left' (λ l. IsWithinLimit l.input) → Appends new then pending
    → IfSome all (λ a. AnswersAll answers w a.lines old then now × IsWithinLimit a.input)
answers_all answers w now all left left' old new then pending h s none within written =
    relates_all all left' (λ a l. AnswersAll answers w a.lines old then now × IsWithinLimit a.input) (λ a. AnswersAll answers w a.lines old then now × IsWithinLimit a.input)
    (relates_end all left left' (GoingOn answers w old new pending now) (λ a l. AnswersAll answers w a.lines old then now × IsWithinLimit a.input) h s none within
    (λ a l empty short g. (goes_to_end answers w now a.lines l.lines old new then pending g.goes empty written, subst (λ (i : InputSize). IsWithinLimit i) g.input short)))
    (λ a l both. both)

pub lines_answered : (P Q : LinesLeft → Type 0) (all : Option LinesLeft) → IfSome all (λ a. P a × Q a) → IfSome all P
lines_answered P Q None h = tt
lines_answered P Q (Some a) h = h.0

pub length_known : (P Q : LinesLeft → Type 0) (all : Option LinesLeft) → IfSome all (λ a. P a × Q a) → IfSome all Q
length_known P Q None h = tt
length_known P Q (Some a) h = h.1

-- a front of what is pending was written, or nothing
pub answers_up_to : (answers : Answering) (w now : WorldState) (all left : Option LinesLeft) (old new then : Option (List ℕ)) (pending : List ℕ)
    → Relates all left (GoingOn answers w old new pending now) → AppendsFront pending new then → IfSome all (λ a. AnswersUpTo answers w a.lines old then)
answers_up_to answers w now all left old new then pending h front =
    relates_all all left (GoingOn answers w old new pending now) (λ a. AnswersUpTo answers w a.lines old then) h
    (λ a l g. goes_up_to answers w now a.lines l.lines old new then pending g.goes front)

pub answers_so_far : (answers : Answering) (w now : WorldState) (all left : Option LinesLeft) (old new : Option (List ℕ)) (pending : List ℕ)
    → Relates all left (GoingOn answers w old new pending now) → IfSome all (λ a. AnswersUpTo answers w a.lines old new)
answers_so_far answers w now all left old new pending h =
    relates_all all left (GoingOn answers w old new pending now) (λ a. AnswersUpTo answers w a.lines old new) h
    (λ a l g. goes_so_far answers w now a.lines l.lines old new pending g.goes)

-- ---- what follows the answers
-- it is written
pub answers_to_end : (answers : Answering) (ending : WorldState → List ℕ) (w after : WorldState) (all : Option LinesLeft) (old between new : Option (List ℕ))
    → IfSome all (λ a. AnswersAll answers w a.lines old between after) → Appends between new (ending after) → IfSome all (λ a. AnswersToEnd answers ending w a.lines old new)
answers_to_end answers ending w after None old between new h written = tt
answers_to_end answers ending w after (Some a) old between new h written =
    record { after = after; told = h.text; answered = h.answered; written = appends_both old between new h.text (ending after) h.written written }

-- a front of it is
pub answers_in_ending : (answers : Answering) (ending : WorldState → List ℕ) (w after : WorldState) (all : Option LinesLeft) (old between new : Option (List ℕ))
    → IfSome all (λ a. AnswersAll answers w a.lines old between after) → AppendsFront (ending after) between new
    → IfSome all (λ a. AnswersUpTo answers w a.lines old new ⊎ AnswersInEnding answers ending w a.lines old new)
answers_in_ending answers ending w after None old between new h front = tt
answers_in_ending answers ending w after (Some a) old between new h front =
    let n = front.0 in
    let last = ending after in
    inr (record {
      after = after;
      told = h.text;
      front = h.text ++ take n last;
      rest = drop n last;
      answered = h.answered;
      split = append_assoc h.text (take n last) (drop n last) ∙ ap (λ text. h.text ++ text) (take-append-drop n last);
      written = appends_both old between new h.text (take n last) h.written front.1;
    })

-- the answers aren't all written
pub answers_before_ending : (answers : Answering) (ending : WorldState → List ℕ) (w : WorldState) (all : Option LinesLeft) (old new : Option (List ℕ))
    → IfSome all (λ a. AnswersUpTo answers w a.lines old new) → IfSome all (λ a. AnswersUpTo answers w a.lines old new ⊎ AnswersInEnding answers ending w a.lines old new)
answers_before_ending answers ending w None old new h = tt
answers_before_ending answers ending w (Some a) old new h = inl h
