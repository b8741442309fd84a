-- Reading a history text by text.
use Rattle.std.specs.Prelude.{◌≡◌, ℕ, ◌+◌, List, [], ◌∷◌, ◌++◌, Option, Some, None, Result, Ok, Err, IfSome}
use Rattle.std.specs.Str.{is_utf8}
use Rattle.std.proofs.Common.{refl, sym, ap, subst, ◌∙◌, append_assoc, length, length-append, cond, Bool, true, false, arith}
use Rattle.std.proofs.lemmas.List.{append-nil}
use Rattle.tatp_calls.specs.declared.call.Call.{Call}
use Rattle.tatp_calls.specs.declared.domains.BadArgument.{BadArgument as Bad}
use Rattle.tatp_calls.specs.Arguments.{arguments_accepted}
use Rattle.tatp_streams.specs.LineReading.{LinesLeft, IsWithinLimit, Relates, Stays, with_line}
use Rattle.tatp_streams.proofs.LineReadingLaws.{relates_all, relates_end, relates_from_start, relates_line}
use Rattle.std.specs.Option.{option_map}
use Rattle.tatp_history.specs.declared.line.Line.{Line}
use Rattle.tatp_history.specs.declared.line.Line.TheVariants.{Ask, End, Abort, Lost}
use Rattle.tatp_history_lines.specs.declared.fault.LineFault.{LineFault}
use Rattle.tatp_history_lines.specs.declared.fault.LineFault.TheVariants as lines
use Rattle.tatp_history_lines.specs.Lines.{line_of, is_passed_over, if_accepted, accepted, told}
use Rattle.tatp_history_lines.specs.Open.{CallsOpen, open_call, opened_by}
use Rattle.tatp_judge.specs.declared.judge.Judge.{Judge}
use Rattle.tatp_judge.specs.declared.judge.Verdict.{Verdict}
use Rattle.tatp_judge.specs.Accepted.{IsAcceptedLine}
use Rattle.tatp_judged_inputs.specs.Views.{HasCounted, HasFollowed, IsBegun, View}
use Rattle.tatp_judge.specs.Parts.{IsPart}
use Rattle.tatp_judged_inputs.specs.declared.history_fault.HistoryFault.{HistoryFault}
use Rattle.tatp_judged_inputs.specs.declared.reading.Reading.{Reading}
use Rattle.tatp_judged_inputs.specs.HistoryTexts.{Told, BadText, said_in, onto, tell_on, history_from, none_open}
use Rattle.tatp_judged_inputs.specs.Reading.{IsNumbered, told_of, before, told_by, GoesOn, Decides, RefusesText, RefusesHistory}

-- ---- one text
abbrev pub with_one : Told → ℕ → Line → Told
with_one told n line = record { numbers = told.numbers ++ n ∷ []; lines = told.lines ++ line ∷ [] }

before_more : (first : Told) (n : ℕ) (line : Line) (r : Result Told BadText) → before first (onto n line r) ≡ before (with_one first n line) r
before_more first n line (Ok more) = λ i. Ok (record {
  numbers = sym (append_assoc first.numbers (n ∷ []) more.numbers) i;
  lines = sym (append_assoc first.lines (line ∷ []) more.lines) i;
})
before_more first n line (Err bad) = refl

told_more : (r : Reading) (past : List Line) (n : ℕ) (text : List ℕ) (more : List (List ℕ)) (said : Result (Option Line) LineFault) → said_in (open_call r.opened) text ≡ said
    → told_by r past n (text ∷ more) ≡ before (told_of r past) (tell_on n (open_call r.opened) said (λ after. history_from after (n + 1) more))
told_more r past n text more said e = ap (λ s. before (told_of r past) (tell_on n (open_call r.opened) s (λ after. history_from after (n + 1) more))) e

pub none_taken : (u : View) (most : ℕ) (past : List Line) (n : ℕ) (text : List ℕ) (judge : Judge) (r : Reading) → said_in (open_call r.opened) text ≡ Ok None → HasFollowed u most past judge → IsNumbered u r past → HasCounted u past r.counts → GoesOn u most past n text judge r r
none_taken u most past n text judge r e followed numbered counted = record {
  now = past;
  followed = followed;
  numbered = numbered;
  counted = counted;
  told = λ more. sym (told_more r past n text more (Ok None) e);
}

pub one_numbered : {u : View} (old new : Reading) (past : List Line) (n : ℕ) (line : Line) → new.numbers.items ≡ old.numbers.items ++ n ∷ [] → new.part ≡ old.part → IsNumbered u old past → IsNumbered u new (past ++ line ∷ [])
one_numbered {u} old new past n line numbers same numbered = record {
  count = ap length numbers ∙ (length-append old.numbers.items (n ∷ []) ∙ (ap (λ k. k + 1) numbered.count ∙ sym (length-append past (line ∷ []))));
  part_is = numbered.part_is ∙ sym same;
  possible = subst IsPart (sym same) numbered.possible;
}

pub line_taken : (u : View) (most : ℕ) (past : List Line) (n : ℕ) (text : List ℕ) (judge : Judge) (old new : Reading) (line : Line) → said_in (open_call old.opened) text ≡ Ok (Some line) → HasFollowed u most (past ++ line ∷ []) judge → IsNumbered u old past
    → HasCounted u (past ++ line ∷ []) new.counts → new.numbers.items ≡ old.numbers.items ++ n ∷ [] → new.part ≡ old.part → ((client : ℕ) → open_call new.opened client ≡ opened_by (open_call old.opened) line client) → GoesOn u most past n text judge old new
line_taken u most past n text judge old new line e followed numbered counted numbers same opened = record {
  now = past ++ line ∷ [];
  followed = followed;
  numbered = one_numbered old new past n line numbers same numbered;
  counted = counted;
  told = λ more.
      (λ i. before (record { numbers = numbers i; lines = past ++ line ∷ [] }) (history_from (λ client. opened client i) (n + 1) more))
      ∙ (sym (before_more (told_of old past) n line (history_from (opened_by (open_call old.opened) line) (n + 1) more)) ∙ sym (told_more old past n text more (Ok (Some line)) e));
}

by_fault : (n : ℕ) (told : Result Told BadText) (fault : LineFault) (f : HistoryFault) → told ≡ Err (record { number = n; fault = fault }) → RefusesText n fault f → RefusesHistory told f
by_fault n told lines.BadLine f e h = subst (RefusesHistory told) (sym h) e
by_fault n told (lines.BadArgument bad) f e h = subst (RefusesHistory told) (sym h) e

pub text_refused : (r : Reading) (n : ℕ) (text : List ℕ) (fault : LineFault) (f : HistoryFault) → said_in (open_call r.opened) text ≡ Err fault → RefusesText n fault f → (past : List Line) (more : List (List ℕ)) → RefusesHistory (told_by r past n (text ∷ more)) f
text_refused r n text fault f e h past more = by_fault n (told_by r past n (text ∷ more)) fault f (told_more r past n text more (Err fault) e) h

-- ---- all texts
-- these texts were read
pub record ReadTo (r : Reading) (past : List Line) (taken now : ℕ) (read : List (List ℕ)) : Type 0 where
  pub told : (more : List (List ℕ)) → history_from none_open (taken + 1) (read ++ more) ≡ told_by r past (now + 1) more
  pub count : taken + length read ≡ now

pub record ReadSoFar (u : View) (most : ℕ) (judge : Judge) (r : Reading) (taken now : ℕ) (all left : Option LinesLeft) : Type 0 where
  pub past : List Line
  pub read : List (List ℕ)
  pub followed : HasFollowed u most past judge
  pub numbered : IsNumbered u r past
  pub counted : HasCounted u past r.counts
  pub to : ReadTo r past taken now read
  pub split : Relates all left (λ a l. a.lines ≡ read ++ l.lines)

before_nothing : (r : Result Told BadText) → before (record { numbers = []; lines = [] }) r ≡ r
before_nothing (Ok told) = refl
before_nothing (Err bad) = refl

pub reading_starts : (u : View) (most : ℕ) (judge : Judge) (r : Reading) (n : ℕ) (left : Option LinesLeft) → IsBegun u most r.part judge → r.numbers.items ≡ [] → ((client : ℕ) → open_call r.opened client ≡ None) → HasCounted u [] r.counts → ReadSoFar u most judge r n n left left
reading_starts u most judge r n left followed h o counted = record {
  past = [];
  read = [];
  followed = followed.followed;
  numbered = record { count = ap length h; part_is = followed.part_is; possible = followed.possible };
  counted = counted;
  to = record {
    told = λ more. sym ((λ i. before (record { numbers = h i; lines = [] }) (history_from (λ client. o client i) (n + 1) more)) ∙ before_nothing (history_from none_open (n + 1) more));
    count = omega arith;
  };
  split = relates_from_start left (λ a l. a.lines ≡ l.lines) (λ l. refl);
}

one_longer : (read : List (List ℕ)) (text : List ℕ) → length (read ++ text ∷ []) ≡ length read + 1
one_longer read text = length-append read (text ∷ [])

pub split_next : (read : List (List ℕ)) (text : List ℕ) (all left left' : Option LinesLeft) → Relates all left (λ a l. a.lines ≡ read ++ l.lines) → Stays left (option_map (with_line text) left') → Relates all left' (λ a l. a.lines ≡ (read ++ text ∷ []) ++ l.lines)
split_next read text all left left' split stays =
    relates_line all left left' text (λ a l. a.lines ≡ read ++ l.lines) (λ a l. a.lines ≡ (read ++ text ∷ []) ++ l.lines) split stays
    (λ a l h. h ∙ sym (append_assoc read (text ∷ []) l.lines))

pub reading_goes_on : (u : View) (most : ℕ) (judge judge' : Judge) (r r' : Reading) (taken now number : ℕ) (text : List ℕ) (all left left' : Option LinesLeft) (s : ReadSoFar u most judge r taken now all left) → number ≡ now + 1
    → Stays left (option_map (with_line text) left') → GoesOn u most s.past number text judge' r r' → ReadSoFar u most judge' r' taken number all left'
reading_goes_on u most judge judge' r r' taken now number text all left left' s next stays on =
    let long = one_longer s.read text in
    record {
      past = on.now;
      read = s.read ++ text ∷ [];
      followed = on.followed;
      numbered = on.numbered;
      counted = on.counted;
      to = record {
        told = λ more. ap (history_from none_open (taken + 1)) (append_assoc s.read (text ∷ []) more)
            ∙ (s.to.told (text ∷ more) ∙ (ap (λ k. told_by r s.past k (text ∷ more)) (sym next) ∙ sym (on.told more)));
        count = omega (arith, long, next, s.to.count);
      };
      split = split_next s.read text all left left' s.split stays;
    }

-- what was read then
pub none_read : (u : View) (most : ℕ) (judge : Judge) (r : Reading) (n : ℕ) (left : Option LinesLeft) (followed : IsBegun u most r.part judge) (h : r.numbers.items ≡ []) (o : (client : ℕ) → open_call r.opened client ≡ None) (counted : HasCounted u [] r.counts) → (reading_starts u most judge r n left followed h o counted).read ≡ []
unfolding reading_starts
none_read u most judge r n left followed h o counted = refl

pub one_more_read : (u : View) (most : ℕ) (judge judge' : Judge) (r r' : Reading) (taken now number : ℕ) (text : List ℕ) (all left left' : Option LinesLeft) (s : ReadSoFar u most judge r taken now all left) (next : number ≡ now + 1)
    (stays : Stays left (option_map (with_line text) left')) (on : GoesOn u most s.past number text judge' r r') → (reading_goes_on u most judge judge' r r' taken now number text all left left' s next stays on).read ≡ s.read ++ text ∷ []
unfolding reading_goes_on
one_more_read u most judge judge' r r' taken now number text all left left' s next stays on = refl

-- ---- decided
-- texts that were read tell this
pub record ReadAll (taken now : ℕ) (read : List (List ℕ)) (t : Told) : Type 0 where
  pub told : history_from none_open (taken + 1) read ≡ Ok t
  pub count : taken + length read ≡ now

pub read_all : (r : Reading) (past : List Line) (taken now : ℕ) (read : List (List ℕ)) → ReadTo r past taken now read → ReadAll taken now read (told_of r past)
read_all r past taken now read to = record {
  told = ap (history_from none_open (taken + 1)) (sym (append-nil read)) ∙ (to.told [] ∙ (λ i. Ok (record { numbers = append-nil r.numbers.items i; lines = append-nil past i })));
  count = to.count;
}

pub read_decided : (u : View) (most : ℕ) (verdict : Verdict) (judge : Judge) (r r' : Reading) (past : List Line) (taken now number : ℕ) (read : List (List ℕ)) (text : List ℕ) → ReadTo r past taken now read → number ≡ now + 1 → (d : Decides u most past number text verdict judge r r')
    → ReadAll taken number (read ++ text ∷ []) (record { numbers = r'.numbers.items; lines = past ++ d.line ∷ [] })
read_decided u most verdict judge r r' past taken now number read text to next d =
    let long = one_longer read text in
    record {
      told = to.told (text ∷ [])
          ∙ (ap (λ k. told_by r past k (text ∷ [])) (sym next)
          ∙ (told_more r past number text [] (Ok (Some d.line)) d.said ∙ ap (λ ns. Ok (record { numbers = ns; lines = past ++ d.line ∷ [] })) (sym d.numbers_are)));
      count = omega (arith, long, next, to.count);
    }

-- ---- where the lines that were left are known
pub by_all : (all : Option LinesLeft) (P : LinesLeft → Type 0) → ((a : LinesLeft) → all ≡ Some a → P a) → IfSome all P
by_all None P f = tt
by_all (Some a) P f = f a refl

pub at_all : (all : Option LinesLeft) (a : LinesLeft) (P : LinesLeft → Type 0) → all ≡ Some a → IfSome all P → P a
at_all all a P e h = subst (λ o. IfSome o P) e h

-- all were read
pub read_to_end : (u : View) (most : ℕ) (judge : Judge) (r : Reading) (taken now : ℕ) (all left left' : Option LinesLeft) (a : LinesLeft) (s : ReadSoFar u most judge r taken now all left) → all ≡ Some a → Stays left left' → IfSome left' (λ l. l.lines ≡ [])
    → IfSome left' (λ l. IsWithinLimit l.input) → a.lines ≡ s.read
read_to_end u most judge r taken now all left left' a s e stays none within =
    at_all all a (λ b. b.lines ≡ s.read) e
    (relates_all all left' (λ b l. b.lines ≡ s.read) (λ b. b.lines ≡ s.read)
    (relates_end all left left' (λ b l. b.lines ≡ s.read ++ l.lines) (λ b l. b.lines ≡ s.read) s.split stays none within
    (λ b l empty w h. h ∙ (ap (λ ls. s.read ++ ls) empty ∙ append-nil s.read)))
    (λ b l h. h))

-- one more was read
pub read_one : (u : View) (most : ℕ) (judge : Judge) (r : Reading) (taken now : ℕ) (text : List ℕ) (all left left' : Option LinesLeft) (a : LinesLeft) (s : ReadSoFar u most judge r taken now all left) → all ≡ Some a → Stays left (option_map (with_line text) left')
    → (rest : List (List ℕ)) × (a.lines ≡ (s.read ++ text ∷ []) ++ rest)
read_one u most judge r taken now text all left left' a s e stays =
    at_all all a (λ b. (rest : List (List ℕ)) × (b.lines ≡ (s.read ++ text ∷ []) ++ rest)) e
    (relates_all all left' (λ b l. b.lines ≡ (s.read ++ text ∷ []) ++ l.lines) (λ b. (rest : List (List ℕ)) × (b.lines ≡ (s.read ++ text ∷ []) ++ rest)) (split_next s.read text all left left' s.split stays)
    (λ b l h. (l.lines, h)))

pub reading_refused : (u : View) (most : ℕ) (judge : Judge) (r : Reading) (taken now number : ℕ) (text : List ℕ) (f : HistoryFault) (all left left' : Option LinesLeft) → ReadSoFar u most judge r taken now all left → number ≡ now + 1 → Stays left (option_map (with_line text) left')
    → ((past : List Line) (more : List (List ℕ)) → RefusesHistory (told_by r past number (text ∷ more)) f) → IfSome all (λ a. RefusesHistory (history_from none_open (taken + 1) a.lines) f)
reading_refused u most judge r taken now number text f all left left' s next stays refused =
    by_all all (λ a. RefusesHistory (history_from none_open (taken + 1) a.lines) f) (λ a e.
    let one = read_one u most judge r taken now text all left left' a s e stays in
    subst (λ told. RefusesHistory told f)
    (sym (ap (history_from none_open (taken + 1)) (one.1 ∙ append_assoc s.read (text ∷ []) one.0) ∙ (s.to.told (text ∷ one.0) ∙ ap (λ k. told_by r s.past k (text ∷ one.0)) (sym next))))
    (refused s.past one.0))

pub if_some_is : {T : Type 0} {P Q : T → Type 0} (o : Option T) → ((v : T) → o ≡ Some v → P v → Q v) → IfSome o P → IfSome o Q
if_some_is (Some v) f h = f v refl h
if_some_is None f h = tt

-- ---- lines
by_arguments : (client : ℕ) (call : Call) (line : Line) (r : Result (Unit {0}) Bad) → arguments_accepted call ≡ r → if_accepted (Ask client call) r ≡ Ok (Some line) → IsAcceptedLine line
by_arguments client call line (Ok done) e h = let is : Ask client call ≡ line = cc in subst IsAcceptedLine is e
by_arguments client call line (Err bad) e h = absurd cc

by_line : (l line : Line) → accepted l ≡ Ok (Some line) → IsAcceptedLine line
by_line (Ask client call) line h = by_arguments client call line (arguments_accepted call) refl h
by_line (End client recorded) line h = let is : End client recorded ≡ line = cc in subst IsAcceptedLine is tt
by_line (Abort client) line h = let is : Abort client ≡ line = cc in subst IsAcceptedLine is tt
by_line (Lost client) line h = let is : Lost client ≡ line = cc in subst IsAcceptedLine is tt

by_text : (o : Option Line) (line : Line) → told o ≡ Ok (Some line) → IsAcceptedLine line
by_text None line h = absurd cc
by_text (Some l) line h = by_line l line h

by_bytes : (text passed : Bool) (o : Option Line) (line : Line) → cond text (cond passed (Ok None) (told o)) (Err lines.BadLine) ≡ Ok (Some line) → IsAcceptedLine line
by_bytes true true o line h = absurd cc
by_bytes true false o line h = by_text o line h
by_bytes false passed o line h = absurd cc

pub said_accepted : (opened : CallsOpen) (text : List ℕ) (line : Line) → said_in opened text ≡ Ok (Some line) → IsAcceptedLine line
unfolding said_in
said_accepted opened text line h = by_bytes (is_utf8 text) (is_passed_over text) (line_of opened text) line h
