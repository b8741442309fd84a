use Rattle.std.specs.Prelude.{◌≡◌, ℕ, List, length}
use Rattle.tatp_tables.specs.Database.{Database}
use Rattle.tatp_history.specs.declared.line.Line.{Line}
use Rattle.tatp_judge.specs.Followed.{HasFollowed}
use Rattle.tatp_judge_tests.proofs.tests.histories.first_undecided.Given as goal

abbrev pub invariant-lines : goal.invariant-lines
invariant-lines l = (u : Database) × (most : ℕ) × (lines : List Line) × HasFollowed u most lines l.judge × (length lines ≡ l.i)
