-- A line `.` after rows, and rows without one.
use Rattle.std.specs.Prelude.{◌≡◌, ℕ, ◌+◌, ◌≤◌, Bool, true, false, List, [], ◌∷◌, length, Option, Some, None, Result, Ok, Err, cond, codes}
use Rattle.std.specs.Option.{IfSome}
use Rattle.std.specs.Str.{is_utf8}
use Rattle.std.proofs.Common.{refl, sym, ap, subst, ◌∙◌, arith}
use Rattle.std.proofs.lemmas.Option.{IfSome_then}
use Rattle.std.proofs.lemmas.Slice.Eq.{bytes_eq-Decides}
use Rattle.tatp_lines.specs.Lines.{lines_of}
use Rattle.tatp_texts.specs.Text.{row_of}
use Rattle.tatp_tables.specs.declared.row.Row.{Row}
use Rattle.tatp_tables.specs.declared.row.Rows.{Rows}
use Rattle.tatp_population.specs.PopulationText.{on_rows, row_first, in_tables}
use Rattle.tatp_streams.specs.LineReading.{LineReaderState, nothing_taken, LinesLeft, IsWithinLimit, lines_left, Relates}
use Rattle.tatp_streams.proofs.LineReadingLaws.{relates_all, of_input}
use Rattle.tatp_streams.specs.declared.fault.StreamFault.TheVariants.{NoMemory, ReadFault, WriteFault}
use Rattle.tatp_inputs.specs.declared.fault.InputFault.{InputFault}
use Rattle.tatp_inputs.specs.declared.fault.InputFault.TheVariants.{BadLine, Stream}
use Rattle.tatp_inputs.specs.Refusing.{RefusesReading}
use Rattle.tatp_inputs.specs.Parts.{is_dot, before_dot, after_dot}
use Rattle.tatp_inputs.specs.RowLines.{row_in, rows_from, rows_of_lines, TakesRows}
use Rattle.tatp_inputs.specs.Work.{brought}

-- ---- where there is no line `.`, all lines stand before it
no_dot_step : (t : Bool) (line : List ℕ) (more : List (List ℕ)) → (after_dot more ≡ None → before_dot more ≡ more)
    → cond t (Some more) (after_dot more) ≡ None → cond t [] (line ∷ before_dot more) ≡ line ∷ more
no_dot_step true line more step h = cc
no_dot_step false line more step h = ap (λ ls. line ∷ ls) (step h)

no_dot : (lines : List (List ℕ)) → after_dot lines ≡ None → before_dot lines ≡ lines
no_dot [] h = refl
no_dot (line ∷ more) h = no_dot_step (is_dot line) line more (no_dot more) h

-- ---- the line `.` is no row
none_either_way : (t : Bool) → cond {A = Option Row} t None None ≡ None
none_either_way true = refl
none_either_way false = refl

dot_is_no_row : (line : List ℕ) → is_dot line ≡ true → row_in line ≡ None
unfolding row_in row_of
dot_is_no_row line h = rw ((bytes_eq-Decides line (codes ".")).0 h) (none_either_way (is_utf8 (codes ".")))

-- ---- rows read from two lists of lines
-- what comes of the later lines decides
first_read : (n m : ℕ) (row : Option Row) (r q : Result (List Row) ℕ) → ((rs : List Row) → r ≡ Ok rs → q ≡ Err m)
    → (rs : List Row) → row_first n row r ≡ Ok rs → row_first n row q ≡ Err m
first_read n m None r q f rs h = cc
first_read n m (Some row) (Ok more) q f rs h = rw (f more refl) refl
first_read n m (Some row) (Err e) q f rs h = cc

first_failed : (n m : ℕ) (row : Option Row) (r q : Result (List Row) ℕ) → (r ≡ Err m → q ≡ Err m)
    → row_first n row r ≡ Err m → row_first n row q ≡ Err m
first_failed n m None r q f h = h
first_failed n m (Some row) (Ok more) q f h = cc
first_failed n m (Some row) (Err e) q f h = rw (f h) refl

-- rows up to the line `.`: it is the first line that is no row
dot_step : (t : Bool) (n : ℕ) (line : List ℕ) (more : List (List ℕ)) → (t ≡ true → row_in line ≡ None)
    → ((calls : List (List ℕ)) (rs : List Row) → after_dot more ≡ Some calls → rows_from (n + 1) (before_dot more) ≡ Ok rs → rows_from (n + 1) more ≡ Err (n + 1 + length (before_dot more)))
    → (calls : List (List ℕ)) (rs : List Row) → cond t (Some more) (after_dot more) ≡ Some calls → rows_from n (cond t [] (line ∷ before_dot more)) ≡ Ok rs
    → rows_from n (line ∷ more) ≡ Err (n + length (cond t [] (line ∷ before_dot more)))
dot_step true n line more none step calls rs h e = rw (none refl) (ap Err (omega arith))
dot_step false n line more none step calls rs h e =
    let last = n + 1 + length (before_dot more) in
    first_read n last (row_in line) (rows_from (n + 1) (before_dot more)) (rows_from (n + 1) more) (λ later read. step calls later h read) rs e ∙ ap Err (omega arith)

dot_after : (n : ℕ) (lines calls : List (List ℕ)) (rs : List Row) → after_dot lines ≡ Some calls → rows_from n (before_dot lines) ≡ Ok rs
    → rows_from n lines ≡ Err (n + length (before_dot lines))
dot_after n [] calls rs h e = cc
dot_after n (line ∷ more) calls rs h e = dot_step (is_dot line) n line more (dot_is_no_row line) (λ calls rs h e. dot_after (n + 1) more calls rs h e) calls rs h e

-- a line before it that is no row
failed_step : (t : Bool) (n m : ℕ) (line : List ℕ) (more : List (List ℕ)) → (rows_from (n + 1) (before_dot more) ≡ Err m → rows_from (n + 1) more ≡ Err m)
    → rows_from n (cond t [] (line ∷ before_dot more)) ≡ Err m → rows_from n (line ∷ more) ≡ Err m
failed_step true n m line more step h = cc
failed_step false n m line more step h = first_failed n m (row_in line) (rows_from (n + 1) (before_dot more)) (rows_from (n + 1) more) step h

failed_before : (n m : ℕ) (lines : List (List ℕ)) → rows_from n (before_dot lines) ≡ Err m → rows_from n lines ≡ Err m
failed_before n m [] h = h
failed_before n m (line ∷ more) h = failed_step (is_dot line) n m line more (failed_before (n + 1) m more) h

-- ---- the rows of all lines, by those before the line `.`
list_read : (r : Result (List Row) ℕ) (rows : Rows) → on_rows in_tables r ≡ Ok rows → (rs : List Row) × (r ≡ Ok rs)
list_read (Ok rs) rows h = (rs, refl)
list_read (Err e) rows h = cc

list_failed : (r : Result (List Row) ℕ) (n : ℕ) → on_rows in_tables r ≡ Err n → r ≡ Err n
list_failed (Ok rs) n h = cc
list_failed (Err e) n h = ap Err cc

pub rows_without_dot : (n : ℕ) (lines : List (List ℕ)) (rows : Rows) → after_dot lines ≡ None → rows_of_lines n (before_dot lines) ≡ Ok rows → rows_of_lines n lines ≡ Ok rows
rows_without_dot n lines rows h e = subst (λ ls. rows_of_lines n ls ≡ Ok rows) (no_dot lines h) e

pub rows_with_dot : (n : ℕ) (lines calls : List (List ℕ)) (rows : Rows) (number : ℕ) → after_dot lines ≡ Some calls → rows_of_lines n (before_dot lines) ≡ Ok rows
    → number ≡ n + length (before_dot lines) → rows_of_lines n lines ≡ Err number
rows_with_dot n lines calls rows number h e k =
    let read = list_read (rows_from n (before_dot lines)) rows e in
    rw (dot_after n lines calls read.0 h read.1) (ap Err (sym k))

rows_failed : (n : ℕ) (lines : List (List ℕ)) (m : ℕ) → rows_of_lines n (before_dot lines) ≡ Err m → rows_of_lines n lines ≡ Err m
rows_failed n lines m h = rw (failed_before n m lines (list_failed (rows_from n (before_dot lines)) m h)) refl

pub refused_before : (n : ℕ) (lines : List (List ℕ)) (fault : InputFault) → RefusesReading (rows_of_lines n (before_dot lines)) fault → RefusesReading (rows_of_lines n lines) fault
refused_before n lines (BadLine m) h = rows_failed n lines m h
refused_before n lines (Stream NoMemory) h = tt
refused_before n lines (Stream ReadFault) h = tt
refused_before n lines (Stream WriteFault) h = absurd h

-- ---- lines that are rows up to their end
pub rows_to_end : (all left : Option LinesLeft) (rows : Rows) (n m : ℕ) → Relates all left (TakesRows false rows n m) → IfSome all (λ a. rows_of_lines (n + 1) a.lines ≡ Ok rows)
rows_to_end all left rows n m h = relates_all all left (TakesRows false rows n m) (λ a. rows_of_lines (n + 1) a.lines ≡ Ok rows) h (λ a l t. rows_without_dot (n + 1) a.lines rows t.part.later t.read)

pub all_within : (all left : Option LinesLeft) (rows : Rows) (n m : ℕ) → Relates all left (TakesRows false rows n m) → IfSome all (λ a. IsWithinLimit a.input)
all_within all left rows n m h = relates_all all left (TakesRows false rows n m) (λ a. IsWithinLimit a.input) h (λ a l t. t.part.within refl)

pub dot_refused : (all left : Option LinesLeft) (rows : Rows) (n m : ℕ) → Relates all left (TakesRows true rows n m) → IfSome all (λ a. rows_of_lines (n + 1) a.lines ≡ Err m)
dot_refused all left rows n m h =
    relates_all all left (TakesRows true rows n m) (λ a. rows_of_lines (n + 1) a.lines ≡ Err m) h (λ a l t. rows_with_dot (n + 1) a.lines l.lines rows m t.part.later t.read (omega (arith, t.part.counted)))

pub front_refused : (all : Option LinesLeft) (n : ℕ) (fault : InputFault) → IfSome all (λ a. RefusesReading (rows_of_lines (n + 1) (before_dot a.lines)) fault) → IfSome all (λ a. RefusesReading (rows_of_lines (n + 1) a.lines) fault)
front_refused all n fault h = IfSome_then all h (λ a refused. refused_before (n + 1) a.lines fault refused)

-- of an input that is rows alone
pub of_rows : (start : LineReaderState) (limit : ℕ) (known : Option (List ℕ)) (P : Result Rows ℕ → Type 0) → start ≡ nothing_taken limit → IfSome (lines_left start known) (λ all. P (rows_of_lines (start.number + 1) all.lines))
    → IfSome known (λ input. P (rows_of_lines 1 (lines_of input)))
of_rows start limit known P e h = of_input known limit (λ all. P (rows_of_lines 1 all.lines)) (rw e at h)

pub input_within : (start : LineReaderState) (limit : ℕ) (known : Option (List ℕ)) → start ≡ nothing_taken limit → IfSome (lines_left start known) (λ all. IsWithinLimit all.input) → IfSome known (λ input. length input ≤ limit)
input_within start limit known e h = of_input known limit (λ all. IsWithinLimit all.input) (rw e at h)

-- ---- the work that lines bring
pub brought_rows : (n : ℕ) (lines calls : List (List ℕ)) (rows : Rows) → after_dot lines ≡ Some calls → rows_of_lines n (before_dot lines) ≡ Ok rows
    → brought n lines ≡ Ok (record { rows = rows; lines = calls })
brought_rows n lines calls rows h e = rw (h, e) refl

pub brought_no_dot : (n : ℕ) (lines : List (List ℕ)) (rows : Rows) (number : ℕ) → after_dot lines ≡ None → rows_of_lines n (before_dot lines) ≡ Ok rows
    → number ≡ n + length (before_dot lines) → brought n lines ≡ Err number
brought_no_dot n lines rows number h e k = rw (h, e) (ap Err (sym (k ∙ ap (λ ls. n + length ls) (no_dot lines h))))

pub brought_failed : (n : ℕ) (lines : List (List ℕ)) (m : ℕ) → rows_of_lines n (before_dot lines) ≡ Err m → brought n lines ≡ Err m
brought_failed n lines m h = rw h refl

-- the line `.` is missing, which would be the line after all of them
pub missing_dot : (before after n : ℕ) (rows : Rows) (all left : LinesLeft) → n ≡ after + 1 → TakesRows false rows before after all left → brought (before + 1) all.lines ≡ Err n
missing_dot before after n rows all left e t =
    brought_no_dot (before + 1) all.lines rows n t.part.later t.read (omega (arith, e, t.part.counted))
