use Rattle.std.specs.Prelude.{ℕ, List}
use Rattle.tatp_tables.specs.Database.{Database}
use Rattle.tatp_history.specs.declared.line.Line.{Line}
use Rattle.tatp_judge.specs.Followed.{IsSearchable}
use Rattle.tatp_judge.specs.Searching.{ReleasesSome}
use Rattle.tatp_judge.proofs.SearchingLaws.{SearchedSoFar}
use Rattle.tatp_judge.proofs.judge.Judge.search.Given as goal

abbrev pub invariant-windows : goal.invariant-windows
invariant-windows l = ReleasesSome l.fn.self l.self
    × ((u : Database) (most : ℕ) (lines : List Line) → IsSearchable u most lines l.illegal l.fn.s_id l.fn.self → SearchedSoFar u most lines l.illegal l.fn.s_id l.self l.i l.least l.whose)
