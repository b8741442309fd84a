-- What a judge says of the part of a history that it is asked for: each statement of lines here is
-- made of the lines of the part (`seen`).
use Rattle.std.specs.Prelude.{◌≡◌, ℕ, List, [], Option}
use Rattle.tatp_tables.specs.Database.{Database}
use Rattle.tatp_calls.specs.declared.call.Call.{Call}
use Rattle.tatp_calls.specs.declared.reply.Reply.{Reply}
use Rattle.tatp_history.specs.declared.line.Line.{Line}
use Rattle.tatp_judge.specs.declared.aside.Undecided.{Undecided}
use Rattle.tatp_judge.specs.declared.finishing.FinalVerdict.{FinalVerdict}
use Rattle.tatp_judge.specs.declared.judge.Judge.{Judge}
use Rattle.tatp_judge.specs.declared.judge.Verdict.{Verdict}
use Rattle.tatp_judge.specs.declared.part.Part.{Part}
use Rattle.tatp_judge.specs.declared.stakes.Counts.{Counts}
use Rattle.tatp_judge.specs.declared.stakes.Stakes.{Stakes}
use Rattle.tatp_judge.specs.Counted.{HasCounted as HasCountedAll}
use Rattle.tatp_judge.specs.Explained.{AreWindowNumbers}
use Rattle.tatp_judge.specs.Finishing.{IsFinalVerdictOn as IsFinalVerdictOnAll, IsFirstUnreached as IsFirstUnreachedOfAll, LeadsInPart}
use Rattle.tatp_judge.specs.Followed.{HasFollowed as HasFollowedAll, HasKept as HasKeptAll}
use Rattle.tatp_judge.specs.Legal.{AreLegalReplies}
use Rattle.tatp_judge.specs.Parts.{IsPart, lines_of_part}
use Rattle.tatp_judge.specs.Stakes.{AreStakes as AreStakesOfAll}
use Rattle.tatp_judge.specs.Verdicts.{AreUndecided as AreUndecidedOfAll, IsLegalBut as AreLegalBut, IsSaid as IsSaidOfAll, IsUnexplained as AreUnexplained, IsVerdictOn as IsVerdictOnAll, NeedMoreBy as NeedMoreByAll}

-- the rows with which a history begins, and the part of it that is judged
pub record View : Type 0 where
  pub rows : Database
  pub part : Part

-- what lines say of the part's calls
abbrev pub seen : View → List Line → List Line
seen v lines = lines_of_part v.rows v.part lines

-- ---- verdicts
abbrev pub IsLegalBut : View → List Undecided → List Line → Type 0
IsLegalBut v aside lines = AreLegalBut v.rows aside (seen v lines)

abbrev pub IsUnexplained : View → List Line → ℕ → Option ℕ → Type 0
IsUnexplained v lines n s_id = AreUnexplained v.rows (seen v lines) n s_id

abbrev pub NeedMoreBy : View → ℕ → List Line → ℕ → ℕ → Type 0
NeedMoreBy v most lines n s = NeedMoreByAll v.rows most (seen v lines) n s

abbrev pub AreUndecided : View → ℕ → List Line → List Undecided → Type 0
AreUndecided v most lines aside = AreUndecidedOfAll v.rows most (seen v lines) aside

abbrev pub IsVerdictOn : View → List Undecided → List Line → Verdict → Type 0
IsVerdictOn v aside lines verdict = IsVerdictOnAll v.rows aside (seen v lines) verdict

abbrev pub IsSaid : View → ℕ → List Line → List Undecided → Verdict → Type 0
IsSaid v most lines aside verdict = IsSaidOfAll v.rows most (seen v lines) aside verdict

abbrev pub AreStakes : View → List Line → Stakes → Type 0
AreStakes v lines stakes = AreStakesOfAll v.rows (seen v lines) stakes

-- ---- the rows at the end
abbrev pub LeadsTo : View → List Undecided → List Line → Database → Type 0
LeadsTo v aside lines after = LeadsInPart v.rows v.part aside (seen v lines) after

abbrev pub IsFirstUnreached : View → List Undecided → List Line → Database → ℕ → Type 0
IsFirstUnreached v aside lines after s =
    IsFirstUnreachedOfAll v.rows v.part aside (seen v lines) after s

abbrev pub IsFinalVerdictOn
    : View → List Undecided → List Line → Database → FinalVerdict → Type 0
IsFinalVerdictOn v aside lines after verdict =
    IsFinalVerdictOnAll v.rows v.part aside (seen v lines) after verdict

-- ---- what is reported of the window that ends with the last line
abbrev pub AreNumbersTold : View → ℕ → List Line → List ℕ → Type 0
AreNumbersTold v s lines numbers = AreWindowNumbers v.rows s (seen v lines) numbers

abbrev pub AreRepliesTold : View → ℕ → List Line → Call → List Reply → Type 0
AreRepliesTold v s lines call replies = AreLegalReplies v.rows s (seen v lines) call replies

-- ---- the judge
abbrev pub HasFollowed : View → ℕ → List Line → Judge → Type 0
HasFollowed v most lines judge = HasFollowedAll v.rows most (seen v lines) judge

abbrev pub HasKept : View → List Line → Judge → Type 0
HasKept v lines judge = HasKeptAll v.rows (seen v lines) judge

abbrev pub HasCounted : View → List Line → Counts → Type 0
HasCounted v lines counts = HasCountedAll v.rows (seen v lines) counts

-- it has followed no line, and is to judge this part
pub record IsBegun (v : View) (most : ℕ) (part : Part) (judge : Judge) : Type 0 where
  pub followed : HasFollowed v most [] judge
  pub part_is : v.part ≡ part
  pub possible : IsPart part
