-- A history up to a line `.`, and the rows after it.
use Rattle.std.specs.Prelude.{◌≡◌, ℕ, ◌+◌, ◌-◌, ◌≤◌, List, [], ◌∷◌, ◌++◌, length, Option, Some, None, Ok, Err, IfSome}
use Rattle.std.specs.List.{AllByRecursion}
use Rattle.std.specs.Option.{option_map}
use Rattle.std.proofs.Common.{refl, sym, ap, subst, ◌∙◌, append_assoc, cond, true, false, arith, inl, inr}
use Rattle.std.proofs.lemmas.List.{append-nil, take_all}
use Rattle.tatp_tables.specs.Database.{Database, database_of}
use Rattle.tatp_tables.specs.declared.row.Rows.{Rows}
use Rattle.tatp_extents.specs.Opening.{RefusesRows}
use Rattle.tatp_extents.specs.declared.open_error.OpenError.{OpenError}
use Rattle.tatp_history.specs.declared.line.Line.{Line}
use Rattle.tatp_history_lines.specs.Open.{open_call}
use Rattle.tatp_streams.specs.declared.fault.StreamFault.TheVariants.{NoMemory, ReadFault, WriteFault}
use Rattle.tatp_streams.specs.LineReading.{LinesLeft, IsWithinLimit, Relates, Stays, with_line}
use Rattle.tatp_streams.proofs.LineReadingLaws.{relates_as, relates_known}
use Rattle.tatp_inputs.specs.declared.fault.InputFault.{InputFault}
use Rattle.tatp_inputs.specs.declared.fault.InputFault.TheVariants as input
use Rattle.tatp_inputs.specs.Parts.{is_dot, before_dot, after_dot}
use Rattle.tatp_inputs.specs.Refusing.{RefusesReading}
use Rattle.tatp_inputs.specs.RowLines.{rows_of_lines}
use Rattle.tatp_judge.specs.declared.finishing.FinalVerdict.{FinalVerdict}
use Rattle.tatp_judge.specs.declared.finishing.FinalVerdict.TheVariants as final
use Rattle.tatp_judge.specs.declared.judge.Judge.{Judge}
use Rattle.tatp_judge.specs.declared.judge.Verdict.{Verdict}
use Rattle.tatp_judge.specs.declared.judge.Verdict.TheVariants as verdicts
use Rattle.tatp_judge.specs.declared.stakes.Stakes.{Stakes}
use Rattle.tatp_judged_inputs.specs.Views.{HasCounted, IsBegun, IsFinalVerdictOn, IsFirstUnreached, AreUndecided, IsLegalBut, IsSaid, LeadsTo, NeedMoreBy, View}
use Rattle.tatp_judge.specs.declared.aside.Undecided.{Undecided}
use Rattle.tatp_judge.specs.Aside.{undecided_in}
use Rattle.tatp_judge.specs.Verdicts.{AreInOrder}
use Rattle.tatp_history.proofs.OrderLaws.{all_map}
use Rattle.tatp_judged_inputs.proofs.AsideLaws.{first_same, ids_at, ids_both, rest_same, same_aside, same_but, some_none}
use Rattle.tatp_judged_inputs.proofs.ViewLaws.{seen_length}
use Rattle.tatp_judged_inputs.proofs.VerdictLaws.{same_told}
use Rattle.tatp_judged_inputs.specs.declared.judging.Window.{Window}
use Rattle.tatp_judged_inputs.specs.HistoryTexts.{Told, history_from, none_open}
use Rattle.tatp_judged_inputs.specs.Judged.{Tell, IsUntold, IsJudged, IsJudgement, IsTold, AreUndecidedAt, IsUndecidedAt, IsWindowBy, IsWindowOf, aside_told}
use Rattle.tatp_judged_inputs.specs.Judging.{RefusesTexts, history_fault, input_fault}
use Rattle.tatp_judged_inputs.specs.Reading.{Decides, GoesOn, ReadsToDot, RefusesHistory, told_by, told_of}
use Rattle.tatp_judged_inputs.specs.RowsAtEnd.{AreAdmitted, Bring, IsJudgedTo, IsJudgementTo, dot_number, ids, rows_after, rows_at_end, told_at, told_by_rows}
use Rattle.tatp_judged_inputs.specs.declared.fault.JudgeFault.TheVariants.{BadLine, Unopened}
use Rattle.tatp_judged_inputs.specs.declared.history_fault.HistoryFault.{HistoryFault}
use Rattle.tatp_judged_inputs.specs.declared.history_fault.HistoryFault.TheVariants as history
use Rattle.tatp_judged_inputs.specs.declared.judging.Judged.{Judged}
use Rattle.tatp_judged_inputs.specs.declared.judging.Judged.TheVariants.{Legal, Illegal, Unreached}
use Rattle.tatp_judged_inputs.specs.declared.reading.Reading.{Reading}
use Rattle.tatp_judged_inputs.proofs.FrontLaws.{is_judgement}
use Rattle.tatp_judged_inputs.proofs.HistoryLaws.{ReadSoFar, by_all, one_numbered, read_all, read_decided, read_one, read_to_end, reading_goes_on, reading_starts, none_read, one_more_read, split_next}

-- ---- the line `.`
-- none of these is one
abbrev pub NoDots : List (List ℕ) → Type 0
NoDots texts = AllByRecursion (λ text. is_dot text ≡ false) texts

before_front : (read more : List (List ℕ)) → NoDots read → before_dot (read ++ more) ≡ read ++ before_dot more
before_front [] more none = refl
before_front (text ∷ read) more none = ap (λ b. cond b [] (text ∷ before_dot (read ++ more))) none.0 ∙ ap (λ texts. text ∷ texts) (before_front read more none.1)

after_front : (read more : List (List ℕ)) → NoDots read → after_dot (read ++ more) ≡ after_dot more
after_front [] more none = refl
after_front (text ∷ read) more none = ap (λ b. cond b (Some (read ++ more)) (after_dot (read ++ more))) none.0 ∙ after_front read more none.1

no_dots_more : (read : List (List ℕ)) (text : List ℕ) → NoDots read → is_dot text ≡ false → NoDots (read ++ text ∷ [])
no_dots_more [] text none is = (is, tt)
no_dots_more (first ∷ read) text none is = (none.0, no_dots_more read text none.1 is)

-- it is the next of the texts
before_it : (texts read : List (List ℕ)) (text : List ℕ) (rest : List (List ℕ)) → texts ≡ (read ++ text ∷ []) ++ rest → NoDots read → is_dot text ≡ true → before_dot texts ≡ read
before_it texts read text rest e none is =
    ap before_dot (e ∙ append_assoc read (text ∷ []) rest) ∙ (before_front read (text ∷ rest) none ∙ (ap (λ b. read ++ cond b [] (text ∷ before_dot rest)) is ∙ append-nil read))

after_it : (texts read : List (List ℕ)) (text : List ℕ) (rest : List (List ℕ)) → texts ≡ (read ++ text ∷ []) ++ rest → NoDots read → is_dot text ≡ true → after_dot texts ≡ Some rest
after_it texts read text rest e none is =
    ap after_dot (e ∙ append_assoc read (text ∷ []) rest) ∙ (after_front read (text ∷ rest) none ∙ ap (λ b. cond b (Some rest) (after_dot rest)) is)

-- another text is the next
before_later : (texts read : List (List ℕ)) (text : List ℕ) (rest : List (List ℕ)) → texts ≡ (read ++ text ∷ []) ++ rest → NoDots read → is_dot text ≡ false → before_dot texts ≡ (read ++ text ∷ []) ++ before_dot rest
before_later texts read text rest e none is = ap before_dot e ∙ before_front (read ++ text ∷ []) rest (no_dots_more read text none is)

-- there is none
missing : (taken now n : ℕ) (texts read : List (List ℕ)) → texts ≡ read → NoDots read → taken + length read ≡ now → n ≡ now + 1 → rows_at_end taken texts ≡ Err n
missing taken now n texts read e none count next =
    let without : after_dot texts ≡ None = ap after_dot (e ∙ sym (append-nil read)) ∙ after_front read [] none in
    let number : taken + length texts + 1 ≡ n = omega (arith, ap length e, count, next) in
    ap (rows_after (taken + length texts + 1) (dot_number taken texts + 1)) without ∙ ap Err number

-- ---- the loop
pub record ToDotSoFar (u : View) (most : ℕ) (judge : Judge) (r : Reading) (taken now : ℕ) (all left : Option LinesLeft) : Type 0 where
  pub so_far : ReadSoFar u most judge r taken now all left
  pub no_dots : NoDots so_far.read

pub to_dot_starts : (u : View) (most : ℕ) (judge : Judge) (r : Reading) (n : ℕ) (left : Option LinesLeft) → IsBegun u most r.part judge → r.numbers.items ≡ [] → ((client : ℕ) → open_call r.opened client ≡ None) → HasCounted u [] r.counts → ToDotSoFar u most judge r n n left left
to_dot_starts u most judge r n left followed h o counted = record {
  so_far = reading_starts u most judge r n left followed h o counted;
  no_dots = subst NoDots (sym (none_read u most judge r n left followed h o counted)) tt;
}

pub to_dot_goes_on : (u : View) (most : ℕ) (judge judge' : Judge) (r r' : Reading) (taken now number : ℕ) (text : List ℕ) (all left left' : Option LinesLeft) (s : ToDotSoFar u most judge r taken now all left) → is_dot text ≡ false → number ≡ now + 1
    → Stays left (option_map (with_line text) left') → GoesOn u most s.so_far.past number text judge' r r' → ToDotSoFar u most judge' r' taken number all left'
to_dot_goes_on u most judge judge' r r' taken now number text all left left' s is next stays on = record {
  so_far = reading_goes_on u most judge judge' r r' taken now number text all left left' s.so_far next stays on;
  no_dots = subst NoDots (sym (one_more_read u most judge judge' r r' taken now number text all left left' s.so_far next stays on)) (no_dots_more s.so_far.read text s.no_dots is);
}

-- ---- at the line `.`
pub judged_at_dot : (u : View) (most : ℕ) (judge : Judge) (r : Reading) (taken now : ℕ) (text : List ℕ) (all left left' : Option LinesLeft) (a : LinesLeft) (verdict : Verdict) (judged : Judged) (aside told : List Undecided) (window : Window) (s : ToDotSoFar u most judge r taken now all left) → all ≡ Some a
    → is_dot text ≡ true → Stays left (option_map (with_line text) left') → IsSaid u most s.so_far.past aside verdict → IsTold u (told_of r s.so_far.past) verdict judged → told ≡ aside_told taken r.numbers.items aside → IsWindowBy u (told_of r s.so_far.past) verdict window
    → IsJudgement u most taken (before_dot a.lines) judged told window
judged_at_dot u most judge r taken now text all left left' a verdict judged aside told window s e is stays on by same shown =
    let read = s.so_far.read in
    let one = read_one u most judge r taken now text all left left' a s.so_far e stays in
    subst (λ texts. IsJudgement u most taken texts judged told window) (append-nil read ∙ sym (before_it a.lines read text one.0 one.1 s.no_dots is))
    (is_judgement u most taken now read [] (told_of r s.so_far.past) verdict judged aside told window (read_all r s.so_far.past taken now read s.so_far.to) s.so_far.numbered.count (λ _. refl) on by same shown)

pub reads_to_dot : (u : View) (most : ℕ) (judge : Judge) (r : Reading) (taken now number : ℕ) (text : List ℕ) (all left left' : Option LinesLeft) (s : ToDotSoFar u most judge r taken now all left) → is_dot text ≡ true → number ≡ now + 1
    → Stays left (option_map (with_line text) left') → Relates all left' (ReadsToDot s.so_far.past taken number)
reads_to_dot u most judge r taken now number text all left left' s is next stays =
    let read = s.so_far.read in
    let whole = read_all r s.so_far.past taken now read s.so_far.to in
    relates_as all left' (λ a l. a.lines ≡ (read ++ text ∷ []) ++ l.lines) (ReadsToDot s.so_far.past taken number) (split_next read text all left left' s.so_far.split stays)
    (λ a l e.
    let before = before_it a.lines read text l.lines e s.no_dots is in
    record {
      told = told_of r s.so_far.past;
      tell = ap (history_from none_open (taken + 1)) before ∙ whole.told;
      lines_are = refl;
      later = after_it a.lines read text l.lines e s.no_dots is;
      counted = omega (arith, next, whole.count, ap length before);
    })

-- ---- why nothing is said
pub by_history_fault : (taken : ℕ) (texts : List (List ℕ)) (fault : HistoryFault) → RefusesHistory (history_from none_open (taken + 1) (before_dot texts)) fault → RefusesTexts true taken texts (history_fault fault)
by_history_fault taken texts (history.BadLine n) h = inl h
by_history_fault taken texts (history.BadArgument n bad) h = h
by_history_fault taken texts (history.Stream NoMemory) h = tt
by_history_fault taken texts (history.Stream ReadFault) h = tt
by_history_fault taken texts (history.Stream WriteFault) h = h

pub all_by_history_fault : (taken : ℕ) (texts : List (List ℕ)) (fault : HistoryFault) → RefusesHistory (history_from none_open (taken + 1) texts) fault → RefusesTexts false taken texts (history_fault fault)
all_by_history_fault taken texts (history.BadLine n) h = inl h
all_by_history_fault taken texts (history.BadArgument n bad) h = h
all_by_history_fault taken texts (history.Stream NoMemory) h = tt
all_by_history_fault taken texts (history.Stream ReadFault) h = tt
all_by_history_fault taken texts (history.Stream WriteFault) h = h

-- a text before the line `.`
pub refused_to_dot : (u : View) (most : ℕ) (judge : Judge) (r : Reading) (taken now number : ℕ) (text : List ℕ) (fault : HistoryFault) (all left left' : Option LinesLeft) → ToDotSoFar u most judge r taken now all left → is_dot text ≡ false → number ≡ now + 1
    → Stays left (option_map (with_line text) left') → ((past : List Line) (more : List (List ℕ)) → RefusesHistory (told_by r past number (text ∷ more)) fault) → IfSome all (λ a. RefusesTexts true taken a.lines (history_fault fault))
refused_to_dot u most judge r taken now number text fault all left left' s is next stays refused =
    by_all all (λ a. RefusesTexts true taken a.lines (history_fault fault)) (λ a e.
    let read = s.so_far.read in
    let one = read_one u most judge r taken now text all left left' a s.so_far e stays in
    let rest = before_dot one.0 in
    by_history_fault taken a.lines fault
    (subst (λ told. RefusesHistory told fault)
    (sym (ap (history_from none_open (taken + 1)) (before_later a.lines read text one.0 one.1 s.no_dots is ∙ append_assoc read (text ∷ []) rest) ∙ (s.so_far.to.told (text ∷ rest) ∙ ap (λ k. told_by r s.so_far.past k (text ∷ rest)) (sym next))))
    (refused s.so_far.past rest)))

-- the line `.` itself
pub refused_without_dot : (u : View) (most : ℕ) (judge : Judge) (r : Reading) (taken now n : ℕ) (all left left' : Option LinesLeft) → ToDotSoFar u most judge r taken now all left → n ≡ now + 1 → Stays left left' → IfSome left' (λ l. l.lines ≡ [])
    → IfSome left' (λ l. IsWithinLimit l.input) → IfSome all (λ a. RefusesTexts true taken a.lines (history_fault (history.BadLine n)))
refused_without_dot u most judge r taken now n all left left' s next stays none within =
    by_all all (λ a. RefusesTexts true taken a.lines (BadLine n)) (λ a e.
    inr (refl, missing taken now n a.lines s.so_far.read (read_to_end u most judge r taken now all left left' a s.so_far e stays none within) s.no_dots s.so_far.to.count next))

-- ---- what is decided before the rows
pub told_legal : (u : View) (t : Told) (verdict : Verdict) (judged : Judged) (stakes : Stakes) → IsTold u t verdict judged → (verdict ≡ verdicts.Legal → ⊥) → judged ≡ Legal stakes → ⊥
told_legal u t verdicts.Legal judged stakes told never e = never refl
told_legal u t (verdicts.Illegal first s_id) judged stakes told never e = let is = told.2 in cc

decided_before : (u : View) (aside : List Undecided) (taken : ℕ) (texts : List (List ℕ)) (judged : Judged) → ((stakes : Stakes) → judged ≡ Legal stakes → ⊥) → IsJudged u aside taken (before_dot texts) judged → IsJudgedTo u aside taken texts judged
decided_before u aside taken texts (Legal stakes) never h = absurd (never stakes refl)
decided_before u aside taken texts (Illegal number s_id) never h = h
decided_before u aside taken texts (Unreached number s) never h = absurd h

pub judgement_before : (u : View) (most taken : ℕ) (texts : List (List ℕ)) (judged : Judged) (aside : List Undecided) (window : Window) → ((stakes : Stakes) → judged ≡ Legal stakes → ⊥) → IsJudgement u most taken (before_dot texts) judged aside window → IsJudgementTo u most taken texts judged aside window
judgement_before u most taken texts judged aside window never h = record {
  judged_is = decided_before u aside taken texts judged never h.judged_is;
  aside_are = h.aside_are;
  window_is = h.window_is;
}

-- a text decides, and the judge isn't asked again
pub judged_before_dot : (u : View) (most : ℕ) (judge judge' : Judge) (r r' : Reading) (taken now number : ℕ) (text : List ℕ) (all left left' : Option LinesLeft) (a : LinesLeft) (verdict : Verdict) (judged : Judged) (told : List Undecided) (window : Window) (s : ToDotSoFar u most judge r taken now all left)
    → all ≡ Some a → is_dot text ≡ false → number ≡ now + 1 → Stays left (option_map (with_line text) left') → (verdict ≡ verdicts.Legal → ⊥) → (d : Decides u most s.so_far.past number text verdict judge' r r') → IsTold u (told_of r' (s.so_far.past ++ d.line ∷ [])) verdict judged
    → told ≡ aside_told taken r'.numbers.items (undecided_in judge') → IsWindowBy u (told_of r' (s.so_far.past ++ d.line ∷ [])) verdict window → IsJudgement u most taken (before_dot a.lines) judged told window
judged_before_dot u most judge judge' r r' taken now number text all left left' a verdict judged told window s e is next stays never d by same shown =
    let read = s.so_far.read in
    let one = read_one u most judge r taken now text all left left' a s.so_far e stays in
    subst (λ texts. IsJudgement u most taken texts judged told window) (sym (before_later a.lines read text one.0 one.1 s.no_dots is))
    (is_judgement u most taken number (read ++ text ∷ []) (before_dot one.0) (told_of r' (s.so_far.past ++ d.line ∷ [])) verdict judged (undecided_in judge') told window
    (read_decided u most verdict judge' r r' s.so_far.past taken now number read text s.so_far.to next d)
    (one_numbered r r' s.so_far.past number d.line d.numbers_are d.part_same s.so_far.numbered).count (λ legal. absurd (never legal)) d.decided by same shown)

-- ---- the rows
brings : (taken dot : ℕ) (past : List Line) (a l : LinesLeft) (rows : Rows) (Holds : List Line → Database → Type 0) → ReadsToDot past taken dot a l → rows_of_lines (dot + 1) l.lines ≡ Ok rows → AreAdmitted rows → Holds past (database_of rows) → Bring taken a.lines Holds
brings taken dot past a l rows Holds reads read admitted holds = record {
  rows = rows;
  read = ap (rows_after (taken + length a.lines + 1) (dot_number taken a.lines + 1)) reads.later ∙ (ap (λ n. rows_of_lines (n + 1) l.lines) (sym reads.counted) ∙ read);
  admitted = admitted;
  holds = (reads.told, reads.tell, subst (λ lines. Holds lines (database_of rows)) (sym reads.lines_are) holds);
}

-- a subscriber that is set aside for them
undecided_by_rows : (u : View) (most taken dot line s : ℕ) (past : List Line) (a l : LinesLeft) → ReadsToDot past taken dot a l → NeedMoreBy u most past line s → IsUndecidedAt u most taken (before_dot a.lines) (dot - 1) s
undecided_by_rows u most taken dot line s past a l reads many = record {
  later = omega (arith, reads.counted);
  within = omega (arith, reads.counted);
  many = subst (λ texts. Tell taken texts (λ told. NeedMoreBy u most told.lines (length told.lines) s)) (sym (take_all (dot - 1 - taken) (before_dot a.lines) (omega (arith, reads.counted))))
      (reads.told, reads.tell, subst (λ lines. NeedMoreBy u most lines (length lines) s) (sym reads.lines_are) (need_all u most line s past many));
}
  where
    need_all : (u : View) (most line s : ℕ) (lines : List Line) → NeedMoreBy u most lines line s → NeedMoreBy u most lines (length lines) s
    need_all u most line s lines h = let long = seen_length u lines in record { within = omega (arith, long); first = h.first; by = omega (arith, h.by, h.within, long); many = h.many }

-- what the judge says of them
pub record EndsWith (u : View) (most : ℕ) (past : List Line) (rows : Rows) (verdict : FinalVerdict) (old more : List Undecided) : Type 0 where
  pub verdict_is : IsFinalVerdictOn u (old ++ more) past (database_of rows) verdict
  pub aside_are : AreUndecided u most past (old ++ more)
  pub legal : IsLegalBut u old past → IsLegalBut u (old ++ more) past

said_by_rows : (u : View) (most taken dot : ℕ) (past : List Line) (a l : LinesLeft) (rows : Rows) (stakes : Stakes) (verdict : FinalVerdict) (told old more : List Undecided) → ReadsToDot past taken dot a l → rows_of_lines (dot + 1) l.lines ≡ Ok rows → AreAdmitted rows → ids told ≡ ids old
    → IsJudged u told taken (before_dot a.lines) (Legal stakes) → EndsWith u most past rows verdict old more → IsJudgedTo u (told ++ told_at (dot - 1) more) taken a.lines (told_by_rows stakes verdict dot)
said_by_rows u most taken dot past a l rows stakes verdict told old more reads read admitted same legal is =
    let both : ids (old ++ more) ≡ ids (told ++ told_at (dot - 1) more) = ids_both old more ∙ ((λ i. sym same i ++ sym (ids_at (dot - 1) more) i) ∙ sym (ids_both told (told_at (dot - 1) more))) in
    let here = same_told (history_from none_open (taken + 1) (before_dot a.lines)) legal.0.0 reads.told legal.0.1 reads.tell in
    let before = same_but u told old past same (subst (λ lines. IsLegalBut u told lines) (ap (λ (t : Told). t.lines) here ∙ reads.lines_are) legal.0.2) in
    let explained = same_but u (old ++ more) (told ++ told_at (dot - 1) more) past both (is.legal before) in
    by verdict both explained is.verdict_is
  where
    by : (v : FinalVerdict) → ids (old ++ more) ≡ ids (told ++ told_at (dot - 1) more) → IsLegalBut u (told ++ told_at (dot - 1) more) past → IsFinalVerdictOn u (old ++ more) past (database_of rows) v → IsJudgedTo u (told ++ told_at (dot - 1) more) taken a.lines (told_by_rows stakes v dot)
    by final.Reached both explained h = (
      brings taken dot past a l rows (LeadsTo u (told ++ told_at (dot - 1) more)) reads read admitted
          (record { legal = explained; leave = λ s own apart. h s own (λ k. apart (same_aside (old ++ more) (told ++ told_at (dot - 1) more) s both k)) }),
      legal.1,
    )
    by (final.Unreached s) both explained h = record {
      number_is = reads.counted;
      legal = (reads.told, reads.tell, subst (λ lines. IsLegalBut u (told ++ told_at (dot - 1) more) lines) (sym reads.lines_are) explained);
      unreached = brings taken dot past a l rows (λ lines after. IsFirstUnreached u (told ++ told_at (dot - 1) more) lines after s) reads read admitted (record {
        first = h.first;
        own = h.own;
        other = λ k. h.other (same_aside (told ++ told_at (dot - 1) more) (old ++ more) s (sym both) k);
        here = h.here;
        before = λ t least lt there apart. h.before t least lt there (λ k. apart (same_aside (old ++ more) (told ++ told_at (dot - 1) more) t both k));
      });
    }

-- those that are told, in order
all_parts : (P : Undecided → Type 0) (xs ys : List Undecided) → AllByRecursion P (xs ++ ys) → AllByRecursion P ys
all_parts P [] ys h = h
all_parts P (x ∷ xs) ys h = all_parts P xs ys h.1

all_joined : (P : Undecided → Type 0) (xs ys : List Undecided) → AllByRecursion P xs → AllByRecursion P ys → AllByRecursion P (xs ++ ys)
all_joined P [] ys h k = k
all_joined P (x ∷ xs) ys h k = (h.0, all_joined P xs ys h.1 k)

all_at : (P Q : Undecided → Type 0) (line : ℕ) (xs : List Undecided) → ((x : Undecided) → P x → Q (record { line = line; s_id = x.s_id })) → AllByRecursion P xs → AllByRecursion Q (told_at line xs)
all_at P Q line [] f h = tt
all_at P Q line (x ∷ xs) f h = (f x h.0, all_at P Q line xs f h.1)

order_at : (line : ℕ) (more : List Undecided) → AreInOrder more → AreInOrder (told_at line more)
order_at line [] h = tt
order_at line (one ∷ more) h = (
  all_at (λ other. (one.line ≤ other.line) × (one.s_id ≡ other.s_id → ⊥)) (λ other. (line ≤ other.line) × (one.s_id ≡ other.s_id → ⊥)) line more (λ other k. (omega arith, k.1)) h.0,
  order_at line more h.1,
)

all_first : (P : Undecided → Type 0) (xs ys : List Undecided) → AllByRecursion P (xs ++ ys) → AllByRecursion P xs
all_first P [] ys h = tt
all_first P (x ∷ xs) ys h = (h.0, all_first P xs ys h.1)

order_joined : (line : ℕ) (told old more : List Undecided) → ids told ≡ ids old → AllByRecursion (λ one. one.line ≤ line) told → AreInOrder told → AreInOrder (old ++ more) → AreInOrder (told ++ told_at line more)
order_joined line [] [] more same within order both = order_at line more both
order_joined line [] (one ∷ old) more same within order both = absurd (some_none one.s_id (ids old) (sym same))
order_joined line (first ∷ told) [] more same within order both = absurd (some_none first.s_id (ids told) same)
order_joined line (first ∷ told) (one ∷ old) more same within order both = (
  all_joined (λ other. (first.line ≤ other.line) × (first.s_id ≡ other.s_id → ⊥)) told (told_at line more) order.0
      (all_at (λ other. (one.line ≤ other.line) × (one.s_id ≡ other.s_id → ⊥)) (λ other. (first.line ≤ other.line) × (first.s_id ≡ other.s_id → ⊥)) line more
      (λ other k. (within.0, λ e. k.1 (sym (first_same first.s_id one.s_id (ids told) (ids old) same) ∙ e))) (all_parts (λ other. (one.line ≤ other.line) × (one.s_id ≡ other.s_id → ⊥)) old more both.0)),
  order_joined line told old more (rest_same first.s_id one.s_id (ids told) (ids old) same) within.1 order.1 both.1,
)

aside_by_rows : (u : View) (most taken dot : ℕ) (past : List Line) (a l : LinesLeft) (told old more : List Undecided) → ReadsToDot past taken dot a l → ids told ≡ ids old → AreUndecidedAt u most taken (before_dot a.lines) told → AreUndecided u most past (old ++ more)
    → AreUndecidedAt u most taken (before_dot a.lines) (told ++ told_at (dot - 1) more)
aside_by_rows u most taken dot past a l told old more reads same are both = record {
  each = all_joined (λ one. IsUndecidedAt u most taken (before_dot a.lines) one.line one.s_id) told (told_at (dot - 1) more) are.each
      (all_at (λ one. NeedMoreBy u most past one.line one.s_id) (λ one. IsUndecidedAt u most taken (before_dot a.lines) one.line one.s_id) (dot - 1) more (λ one h. undecided_by_rows u most taken dot one.line one.s_id past a l reads h)
      (all_parts (λ one. NeedMoreBy u most past one.line one.s_id) old more both.each));
  order = order_joined (dot - 1) told old more same
      (all_map (λ (one : Undecided). IsUndecidedAt u most taken (before_dot a.lines) one.line one.s_id) (λ (one : Undecided). one.line ≤ dot - 1) (λ one h. let within = h.within in omega (arith, within, reads.counted)) told are.each) are.order both.order;
}

-- no lines are told with it
window_by_rows : (u : View) (taken dot : ℕ) (texts : List (List ℕ)) (stakes : Stakes) (verdict : FinalVerdict) (window : Window) → IsUntold window → IsWindowOf u taken texts (told_by_rows stakes verdict dot) window
window_by_rows u taken dot texts stakes final.Reached window none = none
window_by_rows u taken dot texts stakes (final.Unreached s) window none = none

both_known : (all left : Option LinesLeft) (P : LinesLeft → LinesLeft → Type 0) (Q R S : LinesLeft → Type 0) → Relates all left P → IfSome left Q → IfSome all R → ((a l : LinesLeft) → P a l → Q l → R a → S a) → IfSome all S
both_known None left P Q R S h q r f = tt
both_known (Some a) None P Q R S h q r f = absurd h
both_known (Some a) (Some l) P Q R S h q r f = f a l h q r

pub judged_by_rows : (u : View) (most taken dot : ℕ) (past : List Line) (all left : Option LinesLeft) (rows : Rows) (stakes : Stakes) (verdict : FinalVerdict) (told old more : List Undecided) (window : Window) → Relates all left (ReadsToDot past taken dot) → IfSome left (λ l. rows_of_lines (dot + 1) l.lines ≡ Ok rows)
    → AreAdmitted rows → ids told ≡ ids old → IfSome all (λ a. IsJudgement u most taken (before_dot a.lines) (Legal stakes) told window) → EndsWith u most past rows verdict old more
    → IfSome all (λ a. IsJudgementTo u most taken a.lines (told_by_rows stakes verdict dot) (told ++ told_at (dot - 1) more) window)
judged_by_rows u most taken dot past all left rows stakes verdict told old more window reads read admitted same legal is =
    both_known all left (ReadsToDot past taken dot) (λ l. rows_of_lines (dot + 1) l.lines ≡ Ok rows) (λ a. IsJudgement u most taken (before_dot a.lines) (Legal stakes) told window) (λ a. IsJudgementTo u most taken a.lines (told_by_rows stakes verdict dot) (told ++ told_at (dot - 1) more) window) reads read legal
    (λ a l to r known. record {
      judged_is = said_by_rows u most taken dot past a l rows stakes verdict told old more to r admitted same known.judged_is is;
      aside_are = aside_by_rows u most taken dot past a l told old more to same known.aside_are is.aside_are;
      window_is = window_by_rows u taken dot (before_dot a.lines) stakes verdict window known.window_is;
    })

-- they are refused
no_rows : (taken dot : ℕ) (past : List Line) (a l : LinesLeft) (fault : InputFault) → ReadsToDot past taken dot a l → RefusesReading (rows_of_lines (dot + 1) l.lines) fault → RefusesTexts true taken a.lines (input_fault fault)
no_rows taken dot past a l (input.BadLine n) reads h =
    inr (refl, ap (rows_after (taken + length a.lines + 1) (dot_number taken a.lines + 1)) reads.later ∙ (ap (λ n. rows_of_lines (n + 1) l.lines) (sym reads.counted) ∙ h))
no_rows taken dot past a l (input.Stream NoMemory) reads h = tt
no_rows taken dot past a l (input.Stream ReadFault) reads h = tt
no_rows taken dot past a l (input.Stream WriteFault) reads h = h

pub rows_not_read : (taken dot : ℕ) (past : List Line) (all left : Option LinesLeft) (fault : InputFault) → Relates all left (ReadsToDot past taken dot) → IfSome left (λ l. RefusesReading (rows_of_lines (dot + 1) l.lines) fault)
    → IfSome all (λ a. RefusesTexts true taken a.lines (input_fault fault))
rows_not_read taken dot past all left fault reads h =
    relates_known all left (ReadsToDot past taken dot) (λ l. RefusesReading (rows_of_lines (dot + 1) l.lines) fault) (λ a. RefusesTexts true taken a.lines (input_fault fault)) reads h (λ a l to refused. no_rows taken dot past a l fault to refused)

pub rows_not_admitted : (taken dot : ℕ) (past : List Line) (all left : Option LinesLeft) (rows : Rows) (error : OpenError) → Relates all left (ReadsToDot past taken dot) → IfSome left (λ l. rows_of_lines (dot + 1) l.lines ≡ Ok rows) → RefusesRows rows error
    → IfSome all (λ a. RefusesTexts true taken a.lines (Unopened error))
rows_not_admitted taken dot past all left rows error reads read refused =
    relates_known all left (ReadsToDot past taken dot) (λ l. rows_of_lines (dot + 1) l.lines ≡ Ok rows) (λ a. RefusesTexts true taken a.lines (Unopened error)) reads read
    (λ a l to r. (refl, (rows, ap (rows_after (taken + length a.lines + 1) (dot_number taken a.lines + 1)) to.later ∙ (ap (λ n. rows_of_lines (n + 1) l.lines) (sym to.counted) ∙ r), refused)))
