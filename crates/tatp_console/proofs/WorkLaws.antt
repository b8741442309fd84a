-- What a run over lines writes and leaves.
use Rattle.std.proofs.Common.{◌≡◌, ℕ, List, ◌≤◌, length, Option, Result, Ok, Err, OnOk, IfErr, inl, inr, subst, Some, None, ◌++◌, ◌⊎◌, ◌∙◌, ap}
use Rattle.std.specs.Option.{IfSome}
use Rattle.std.specs.Io.KnownBytes.{Appends}
use Rattle.std.proofs.lemmas.Option.{IfSome_then}
use Rattle.tatp_limits.specs.declared.limits.TheConstants.{MAX_SUBSCRIBERS}
use Rattle.tatp_lines.specs.Lines.{lines_of}
use Rattle.tatp_tables.specs.Clean.{IsClean}
use Rattle.tatp_tables.specs.declared.row.Rows.{Rows}
use Rattle.tatp_encoding.specs.Modules.{ModuleState}
use Rattle.tatp_extents.specs.declared.open_error.OpenError.{OpenError}
use Rattle.tatp_extents.specs.Opening.{RefusesRows}
use Rattle.tatp_dispatch.specs.Opened.{IsOpened}
use Rattle.tatp_dispatch.specs.Serving.{IsWorld}
use Rattle.tatp_dispatch.specs.Worlds.{WorldState}
use Rattle.tatp_streams.specs.declared.fault.StreamFault.{StreamFault}
use Rattle.tatp_streams.specs.declared.fault.StreamFault.TheVariants.{NoMemory, ReadFault, WriteFault}
use Rattle.tatp_streams.specs.LineReading.{LineReaderState, nothing_taken, LinesLeft, InputSize, IsWithinLimit, lines_left, Relates}
use Rattle.tatp_streams.proofs.StreamLaws.{appends_none}
use Rattle.tatp_streams.proofs.LineReadingLaws.{of_input, relates_all, relates_known}
use Rattle.tatp_tasks.specs.declared.population.Population.{Population}
use Rattle.tatp_tasks.specs.declared.procedures.Procedures.{Procedures}
use Rattle.tatp_tasks.specs.declared.setup.Setup.{Setup}
use Rattle.tatp_inputs.specs.declared.fault.InputFault.TheVariants.{BadLine, Stream}
use Rattle.tatp_inputs.specs.Work.{Work}
use Rattle.tatp_console.specs.declared.fault.ConsoleFault.{ConsoleFault}
use Rattle.tatp_console.specs.declared.fault.ConsoleFault.TheVariants.{Input, Text, Module, Unopened}
use Rattle.tatp_console.specs.Answers.{Answering, Ending, AnswersLines, AnswersUpTo, AnswersToEnd, AnswersInEnding, AnswersLinesOf, AnswersWork, AnswersFront}
use Rattle.tatp_console.specs.Brought.{OfInput, RefusesInput, Brings}
use Rattle.tatp_console.specs.Works.{WritesOfWork, WritesFrontOfWork, Leaves}

abbrev IsText : Type 1
IsText = ModuleState → Work → List ℕ → Type 0

-- ---- what the input brings, and the whole that was opened with it
pub record OpensRows (setup : Setup) (m : ModuleState) (rows : Rows) (opened : WorldState) : Type 0 where
  pub few : length rows.subscribers ≤ MAX_SUBSCRIBERS
  pub clean : IsClean rows
  pub is_opened : IsOpened m rows setup.partitions setup.clients opened
  pub world : IsWorld opened

-- of the lines of an input: a text of which this holds is written
abbrev WritesOfLines : IsText → Setup → Option (List ℕ) → Option (List ℕ) → LinesLeft → Type 0
WritesOfLines Holds setup old new all =
    (text : List ℕ) × OfInput setup.procedures setup.population all.lines (λ m work. Holds m work text) × Appends old new text

-- the lines are answered over the rows
answered_lines : (answers : Answering) (setup : Setup) (m : ModuleState) (rows : Rows) (lines : List (List ℕ)) (opened after : WorldState) (text : List ℕ)
    → OpensRows setup m rows opened → AnswersLines answers opened lines text after → AnswersLinesOf answers setup m (record { rows = rows; lines = lines }) text after
answered_lines answers setup m rows lines opened after text o a = record { few = o.few; clean = o.clean; opened = opened; is_opened = o.is_opened; world = o.world; answered = a }

-- all of them are, and what follows is written
answers_work : (answers : Answering) (ending : Ending) (setup : Setup) (old new : Option (List ℕ)) (m : ModuleState) (rows : Rows) (n : ℕ) (opened : WorldState) (all left : LinesLeft)
    → n ≡ length rows.subscribers → OpensRows setup m rows opened → Brings setup m rows all left → AnswersToEnd answers (ending n) opened left.lines old new
    → WritesOfLines (AnswersWork answers ending setup) setup old new all
answers_work answers ending setup old new m rows n opened all left e o b a = (
  a.told ++ ending n a.after,
  (
    m,
    b.under,
    record { rows = rows; lines = left.lines },
    b.work,
    record {
      after = a.after;
      told = a.told;
      answered = answered_lines answers setup m rows left.lines opened a.after a.told o a.answered;
      ended = ap (λ k. a.told ++ ending k a.after) e;
    },
  ),
  a.written,
)

-- a front of the lines are
answers_some : (answers : Answering) (ending : Ending) (setup : Setup) (old new : Option (List ℕ)) (m : ModuleState) (rows : Rows) (opened : WorldState) (all left : LinesLeft)
    → OpensRows setup m rows opened → Brings setup m rows all left → AnswersUpTo answers opened left.lines old new → WritesOfLines (AnswersFront answers ending setup) setup old new all
answers_some answers ending setup old new m rows opened all left o b a = (
  a.front,
  (
    m,
    b.under,
    record { rows = rows; lines = left.lines },
    b.work,
    inl (record {
      lines = a.first;
      later = a.later;
      after = a.after;
      rest = a.rest;
      split = a.split;
      answered = answered_lines answers setup m rows a.first opened a.after (a.front ++ a.rest) o a.answered;
    }),
  ),
  a.written,
)

-- all lines are, and a front of what follows is written
answers_most : (answers : Answering) (ending : Ending) (setup : Setup) (old new : Option (List ℕ)) (m : ModuleState) (rows : Rows) (n : ℕ) (opened : WorldState) (all left : LinesLeft)
    → n ≡ length rows.subscribers → OpensRows setup m rows opened → Brings setup m rows all left → AnswersInEnding answers (ending n) opened left.lines old new
    → WritesOfLines (AnswersFront answers ending setup) setup old new all
answers_most answers ending setup old new m rows n opened all left e o b a = (
  a.front,
  (
    m,
    b.under,
    record { rows = rows; lines = left.lines },
    b.work,
    inr (
      a.rest,
      record {
        after = a.after;
        told = a.told;
        answered = answered_lines answers setup m rows left.lines opened a.after a.told o a.answered;
        ended = a.split ∙ ap (λ k. a.told ++ ending k a.after) e;
      },
    ),
  ),
  a.written,
)

answers_front : (answers : Answering) (ending : Ending) (setup : Setup) (old new : Option (List ℕ)) (m : ModuleState) (rows : Rows) (n : ℕ) (opened : WorldState) (all left : LinesLeft)
    → n ≡ length rows.subscribers → OpensRows setup m rows opened → Brings setup m rows all left
    → AnswersUpTo answers opened left.lines old new ⊎ AnswersInEnding answers (ending n) opened left.lines old new → WritesOfLines (AnswersFront answers ending setup) setup old new all
answers_front answers ending setup old new m rows n opened all left e o b a =
    elim a [ inl some ↦ answers_some answers ending setup old new m rows opened all left o b some | inr most ↦ answers_most answers ending setup old new m rows n opened all left e o b most ]

-- ---- a run, where the input is known
pub all_written : (answers : Answering) (ending : Ending) (setup : Setup) (start : LineReaderState) (limit : ℕ) (known : Option (List ℕ)) (left : Option LinesLeft) (old new : Option (List ℕ)) (m : ModuleState) (rows : Rows) (n : ℕ) (opened : WorldState)
    → start ≡ nothing_taken limit → n ≡ length rows.subscribers → Relates (lines_left start known) left (Brings setup m rows) → OpensRows setup m rows opened
    → IfSome left (λ l. AnswersToEnd answers (ending n) opened l.lines old new)
    → IfSome known (λ input. WritesOfWork (AnswersWork answers ending setup) setup.procedures setup.population input old new)
all_written answers ending setup start limit known left old new m rows n opened e k b o a =
    of_input known limit (WritesOfLines (AnswersWork answers ending setup) setup old new)
    (relates_known (lines_left (nothing_taken limit) known) left (Brings setup m rows) (λ l. AnswersToEnd answers (ending n) opened l.lines old new) (WritesOfLines (AnswersWork answers ending setup) setup old new) (rw e at b) a
    (λ all l brings answered. answers_work answers ending setup old new m rows n opened all l k o brings answered))

pub cut_short : (answers : Answering) (ending : Ending) (setup : Setup) (start : LineReaderState) (limit : ℕ) (known : Option (List ℕ)) (left : Option LinesLeft) (old new : Option (List ℕ)) (m : ModuleState) (rows : Rows) (n : ℕ) (opened : WorldState) (fault : StreamFault)
    → start ≡ nothing_taken limit → n ≡ length rows.subscribers → Relates (lines_left start known) left (Brings setup m rows) → OpensRows setup m rows opened
    → IfSome left (λ l. AnswersUpTo answers opened l.lines old new ⊎ AnswersInEnding answers (ending n) opened l.lines old new)
    → IfSome known (λ input. Leaves (AnswersFront answers ending setup) setup.procedures setup.population input old new (Input (Stream fault)))
cut_short answers ending setup start limit known left old new m rows n opened fault e k b o a =
    IfSome_then known
    (of_input known limit (WritesOfLines (AnswersFront answers ending setup) setup old new)
    (relates_known (lines_left (nothing_taken limit) known) left (Brings setup m rows) (λ l. AnswersUpTo answers opened l.lines old new ⊎ AnswersInEnding answers (ending n) opened l.lines old new)
    (WritesOfLines (AnswersFront answers ending setup) setup old new) (rw e at b) a
    (λ all l brings answered. answers_front answers ending setup old new m rows n opened all l k o brings answered)))
    (λ input written. inr written)

pub input_within : (setup : Setup) (start : LineReaderState) (limit : ℕ) (known : Option (List ℕ)) (left : Option LinesLeft) (m : ModuleState) (rows : Rows)
    → start ≡ nothing_taken limit → Relates (lines_left start known) left (Brings setup m rows) → IfSome left (λ l. IsWithinLimit l.input) → IfSome known (λ input. length input ≤ limit)
input_within setup start limit known left m rows e b h =
    of_input known limit (λ all. IsWithinLimit all.input)
    (relates_known (lines_left (nothing_taken limit) known) left (Brings setup m rows) (λ l. IsWithinLimit l.input) (λ all. IsWithinLimit all.input) (rw e at b) h
    (λ all l brings within. subst (λ (i : InputSize). IsWithinLimit i) brings.input within))

-- the input is refused
unread : (IsFront : IsText) (procedures : Procedures) (population : Population) (input : List ℕ) (old : Option (List ℕ)) (fault : ConsoleFault)
    → RefusesInput procedures population (lines_of input) fault → Leaves IsFront procedures population input old old fault
unread IsFront procedures population input old (Text fault) h = (h, appends_none old)
unread IsFront procedures population input old (Module fault) h = (h, appends_none old)
unread IsFront procedures population input old (Input (BadLine n)) h = (h, appends_none old)
unread IsFront procedures population input old (Input (Stream NoMemory)) h = inl (appends_none old)
unread IsFront procedures population input old (Input (Stream ReadFault)) h = inl (appends_none old)
unread IsFront procedures population input old (Input (Stream WriteFault)) h = absurd h
unread IsFront procedures population input old (Unopened error) h = absurd h

pub input_refused : (IsFront : IsText) (procedures : Procedures) (population : Population) (start : LineReaderState) (limit : ℕ) (known : Option (List ℕ)) (old : Option (List ℕ)) (fault : ConsoleFault)
    → start ≡ nothing_taken limit → IfSome (lines_left start known) (λ all. RefusesInput procedures population all.lines fault) → IfSome known (λ input. Leaves IsFront procedures population input old old fault)
input_refused IsFront procedures population start limit known old fault e h =
    IfSome_then known (of_input known limit (λ all. RefusesInput procedures population all.lines fault) (rw e at h)) (λ input refused. unread IsFront procedures population input old fault refused)

-- its rows are
pub rows_refused : (IsFront : IsText) (setup : Setup) (start : LineReaderState) (limit : ℕ) (known : Option (List ℕ)) (left : Option LinesLeft) (old : Option (List ℕ)) (m : ModuleState) (rows : Rows) (error : OpenError)
    → start ≡ nothing_taken limit → Relates (lines_left start known) left (Brings setup m rows) → RefusesRows rows error
    → IfSome known (λ input. Leaves IsFront setup.procedures setup.population input old old (Unopened error))
rows_refused IsFront setup start limit known left old m rows error e b h =
    IfSome_then known
    (of_input known limit (λ all. OfInput setup.procedures setup.population all.lines (λ m work. RefusesRows work.rows error))
    (relates_all (lines_left (nothing_taken limit) known) left (Brings setup m rows) (λ all. OfInput setup.procedures setup.population all.lines (λ m work. RefusesRows work.rows error)) (rw e at b)
    (λ all l brings. (m, brings.under, record { rows = rows; lines = l.lines }, brings.work, h))))
    (λ input refused. (refused, appends_none old))

-- ---- what holds of each text that a run may write
abbrev Implies : IsText → IsText → Type 0
Implies P Q = (m : ModuleState) (work : Work) (text : List ℕ) → P m work text → Q m work text

of_work : (P Q : IsText) (procedures : Procedures) (population : Population) (input : List ℕ) (old new : Option (List ℕ))
    → Implies P Q → WritesOfWork P procedures population input old new → WritesOfWork Q procedures population input old new
of_work P Q procedures population input old new so w =
    let m = w.1.0 in
    let work = w.1.2 in
    (w.0, (m, w.1.1, work, w.1.3, so m work w.0 w.1.4), w.2)

of_front : (P Q : IsText) (procedures : Procedures) (population : Population) (input : List ℕ) (old new : Option (List ℕ))
    → Implies P Q → WritesFrontOfWork P procedures population input old new → WritesFrontOfWork Q procedures population input old new
of_front P Q procedures population input old new so w =
    elim w [ inl none ↦ inl none | inr front ↦ inr (of_work P Q procedures population input old new so front) ]

of_fault : (P Q : IsText) (procedures : Procedures) (population : Population) (input : List ℕ) (old new : Option (List ℕ)) (fault : ConsoleFault)
    → Implies P Q → Leaves P procedures population input old new fault → Leaves Q procedures population input old new fault
of_fault P Q procedures population input old new (Text fault) so h = h
of_fault P Q procedures population input old new (Module fault) so h = h
of_fault P Q procedures population input old new (Input (BadLine n)) so h = h
of_fault P Q procedures population input old new (Input (Stream fault)) so h = of_front P Q procedures population input old new so h
of_fault P Q procedures population input old new (Unopened error) so h = h

pub writes_as : {A : Type 0} (P Q : IsText) (procedures : Procedures) (population : Population) (known old new : Option (List ℕ)) (result : Result A ConsoleFault)
    → Implies P Q
    → OnOk result (IfSome known (λ input. WritesOfWork P procedures population input old new)) → OnOk result (IfSome known (λ input. WritesOfWork Q procedures population input old new))
writes_as P Q procedures population known old new (Err fault) so w = tt
writes_as P Q procedures population None old new (Ok done) so w = tt
writes_as P Q procedures population (Some input) old new (Ok done) so w = of_work P Q procedures population input old new so w

pub leaves_as : {A : Type 0} (P Q : IsText) (procedures : Procedures) (population : Population) (known old new : Option (List ℕ)) (result : Result A ConsoleFault)
    → Implies P Q
    → IfErr result (λ fault. IfSome known (λ input. Leaves P procedures population input old new fault)) → IfErr result (λ fault. IfSome known (λ input. Leaves Q procedures population input old new fault))
leaves_as P Q procedures population known old new (Ok done) so h = tt
leaves_as P Q procedures population None old new (Err fault) so h = tt
leaves_as P Q procedures population (Some input) old new (Err fault) so h = of_fault P Q procedures population input old new fault so h
