-- Lines that are taken from a reader one after another: what was taken, and what is left.
use Rattle.std.specs.Prelude.{◌≡◌, ℕ, ◌+◌, ◌-◌, ◌*◌, ◌<◌, ◌≤◌, ◌==◌, Bool, true, false, List, [], ◌∷◌, ◌++◌, length, take, drop, position, Option, None, Some, IfSome, IsSomeAnd, if◌then◌else◌, ⊤}
use Rattle.std.specs.Option.{option_map}
use Rattle.tatp_lines.specs.Lines.{lines_of}
use Rattle.tatp_limits.specs.declared.limits.TheConstants.{MAX_INPUT_LIMIT}

-- what a LineReader has read and taken
pub record LineReaderState : Type 0 where
  pub line : List ℕ  -- the line that was taken last, without its line feed
  pub number : ℕ  -- how many lines were taken
  pub ahead : List ℕ  -- the bytes that were read and not taken
  pub count : ℕ  -- how many bytes were read in all
  pub limit : ℕ  -- the most bytes that may be read in all
  pub ended : Bool  -- whether the input has ended

-- nothing was read, and no more than `limit` bytes may be
abbrev pub nothing_taken : ℕ → LineReaderState
nothing_taken limit =
    record { line = []; number = 0; ahead = []; count = 0; limit = limit; ended = false }

-- ---- what is left
-- how many bytes an input has, and how many of them may be read
pub record InputSize : Type 0 where
  pub bytes : ℕ
  pub limit : ℕ

-- the whole input may be read
abbrev pub IsWithinLimit : InputSize → Type 0
IsWithinLimit input = input.bytes ≤ input.limit

-- the lines that are left, and the size of the whole input
pub record LinesLeft : Type 0 where
  pub lines : List (List ℕ)
  pub input : InputSize

-- these, where `more` are the bytes that are left to read
abbrev pub left_with : LineReaderState → List ℕ → LinesLeft
left_with s more = record {
  lines = lines_of (s.ahead ++ more);
  input = record { bytes = s.count + length more; limit = s.limit };
}

-- these, where the bytes that the reader has left are known; past the end of the input none is read
abbrev pub lines_left : LineReaderState → Option (List ℕ) → Option LinesLeft
lines_left s known = option_map (λ more. left_with s (if s.ended then [] else more)) known

-- what was known is still known, and is the same
abbrev pub Stays : {A : Type 0} → Option A → Option A → Type 0
Stays None new = ⊤
Stays (Some x) new = new ≡ Some x

-- this holds of the lines that were left and those that are left, where the first are known
abbrev pub Relates : Option LinesLeft → Option LinesLeft
    → (LinesLeft → LinesLeft → Type 0) → Type 0
Relates old new P = IfSome old (λ all. IsSomeAnd new (P all))

-- ---- steps
-- how many more steps a loop can make that takes lines and reads: each takes a byte, reads one or
-- meets the end
abbrev pub steps_left : LineReaderState → ℕ
steps_left s = 2 * (s.limit - s.count) + length s.ahead + (if s.ended then 0 else 1)

-- this line, and then those that are left
abbrev pub with_line : List ℕ → LinesLeft → LinesLeft
with_line line left = record left { lines = line ∷ left.lines }

-- the first of the lines that were left is taken, by the bytes that the reader had and has; no more
-- lines can be taken than bytes can be read
pub record TakesLine (old : LineReaderState) (had : Option (List ℕ))
    (new : LineReaderState) (has : Option (List ℕ)) : Type 0 where
  pub left : Stays (lines_left old had) (option_map (with_line new.line) (lines_left new has))
  pub number : new.number ≡ old.number + 1
  pub few : new.number ≤ MAX_INPUT_LIMIT
  pub fewer : steps_left new < steps_left old

-- no line was left, and the input is no longer than may be read
pub record MeetsEnd (old : LineReaderState) (had : Option (List ℕ))
    (new : LineReaderState) (has : Option (List ℕ)) : Type 0 where
  pub left : Stays (lines_left old had) (lines_left new has)
  pub none : IfSome (lines_left new has) (λ left. left.lines ≡ [])
  pub within : IfSome (lines_left new has) (λ left. IsWithinLimit left.input)
  pub number : new.number ≡ old.number

-- bytes are read, or the end is met: all lines are left
pub record ReadsMore (old : LineReaderState) (had : Option (List ℕ))
    (new : LineReaderState) (has : Option (List ℕ)) : Type 0 where
  pub left : Stays (lines_left old had) (lines_left new has)
  pub number : new.number ≡ old.number
  pub fewer : steps_left new < steps_left old

-- these bytes have no line feed
abbrev pub HasNoLineFeed : List ℕ → Type 0
HasNoLineFeed bytes = position (λ byte. byte == 10) bytes ≡ None

-- no line can be taken before more is read
pub record HoldsNoLine (s : LineReaderState) : Type 0 where
  pub none_ahead : HasNoLineFeed s.ahead
  pub last : s.ended ≡ true → s.ahead ≡ []

-- ---- the fields of a LineReader
-- the line goes from `start` to just before `end`; the bytes that were not taken begin at `taken`,
-- and the first `clear` of them have no line feed
pub record HoldsLines (buffer : List ℕ) (start end taken clear number count limit : ℕ)
    : Type 0 where
  pub line : start ≤ end
  pub line_within : end ≤ length buffer
  pub clear_within : taken + clear ≤ length buffer
  pub no_line_feed : HasNoLineFeed (take clear (drop taken buffer))
  pub numbered : number + length buffer ≤ count + taken
  pub count_within : count ≤ limit
  pub limit_within : limit ≤ MAX_INPUT_LIMIT

-- the first line of the bytes has `long` bytes, and `taken` with its line feed, whatever follows
-- them; past the end of the input nothing does
pub record IsFirstLine (bytes : List ℕ) (ended : Bool) (long taken : ℕ) : Type 0 where
  pub some : 0 < taken
  pub long_within : long ≤ taken
  pub taken_within : taken ≤ length bytes
  pub first : (more : List ℕ) → (ended ≡ true → more ≡ [])
      → lines_of (bytes ++ more) ≡ take long bytes ∷ lines_of (drop taken bytes ++ more)
