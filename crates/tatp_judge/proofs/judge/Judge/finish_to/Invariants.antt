use Rattle.std.specs.Prelude.{◌≡◌, ℕ, List}
use Rattle.tatp_tables.specs.Database.{Database, database_of}
use Rattle.tatp_history.specs.declared.line.Line.{Line}
use Rattle.tatp_judge.specs.Aside.{AddsAside}
use Rattle.tatp_judge.specs.Followed.{HasFollowed}
use Rattle.tatp_judge.proofs.FinishingLaws.{LeavesSoFar}
use Rattle.tatp_judge.proofs.judge.Judge.finish_to.Given as goal

abbrev pub invariant-homes : goal.invariant-homes
invariant-homes l = AddsAside l.fn.self l.self
    × (l.self.number ≡ l.fn.self.number)
    × ((u : Database) (most : ℕ) (lines : List Line) → HasFollowed u most lines l.fn.self → LeavesSoFar u most l.part lines (database_of l.rows) l.i l.fn.self l.self)
