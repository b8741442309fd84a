use Rattle.std.proofs.Common.{◌≡◌, ℕ, Option, Some, None, subst, sym, ◌∙◌}
use Rattle.tatp_settle.specs.declared.cause.Unsettled.{Unsettled}
use Rattle.tatp_settle.specs.declared.places.ChapterPlace.{ChapterPlace}
use Rattle.tatp_settle.specs.ChapterTables.{IsFirstChapter}
use Rattle.tatp_settle.specs.Closings.{ClosedState}
use Rattle.tatp_settle.specs.CauseOrder.{NoneOfFirst, IsFirstOf}
use Rattle.tatp_settle.specs.Causes.{IsChapterMissing, IsChapterTwice, IsUnjoined}
use Rattle.tatp_settle.specs.Runs.{Run, shown}
use Rattle.tatp_settle.proofs.CauseLaws.{none_missing, none_twice, first_missing, first_twice}
use Rattle.tatp_settle.proofs.JudgeLaws.{join_cause_is}
use Rattle.tatp_settle.proofs.first_cause.chapter_cause.Goals as goal

-- what is told of the chapters at hand holds of what was gathered
gathered : (P : ClosedState → ℕ → ℕ → Type 0) (chapters closed : ClosedState) (v first : Option ChapterPlace) → chapters ≡ closed → v ≡ first → IsFirstChapter (P chapters) v → IsFirstChapter (P closed) first
gathered P chapters closed v first is found h = subst (λ (c : ClosedState). IsFirstChapter (P c) first) is (subst (λ (w : Option ChapterPlace). IsFirstChapter (P chapters) w) found h)

pub returns-in-Some : goal.returns-in-Some
returns-in-Some c = λ before.
    let place : ChapterPlace = c.in-Some.place in
    first_missing (shown c.args.run.now) place.extent place.index before (gathered IsChapterMissing c.args.chapters.now (shown c.args.run.now).closed (Some place) (Some place) c.requires.gathered (λ _. Some place) c.in-Some.ensures)

pub returns-in-Some-twice : goal.returns-in-Some-twice
returns-in-Some-twice c = λ before.
    let run : Run = shown c.args.run.now in
    let place : ChapterPlace = c.in-Some-twice.place in
    first_twice run place.extent place.index (none_missing run before (gathered IsChapterMissing c.args.chapters.now run.closed None None c.requires.gathered (λ _. None) c.in_default.ensures))
    (gathered IsChapterTwice c.args.chapters.now run.closed c.args.twice (Some place) c.requires.gathered c.in-Some-twice.is c.requires.twice)

pub returns : goal.returns
returns c = λ before.
    let run : Run = shown c.args.run.now in
    let none4 : NoneOfFirst 4 run = none_missing run before (gathered IsChapterMissing c.args.chapters.now run.closed None None c.requires.gathered (λ _. None) c.in_default.ensures) in
    let none5 : NoneOfFirst 5 run = none_twice run none4 (gathered IsChapterTwice c.args.chapters.now run.closed c.args.twice None c.requires.gathered c.in_default-twice.is c.requires.twice) in
    subst (λ (cause : Option Unsettled). IsFirstOf 6 run cause) (sym c.join_cause.ensures)
    (join_cause_is run c.first_unjoined.result (gathered (IsUnjoined run.population) c.args.chapters.now run.closed c.first_unjoined.result c.first_unjoined.result c.requires.gathered (λ _. c.first_unjoined.result) (c.first_unjoined.ensures run.population (c.deref.ensures.value ∙ c.in_ok-homes.ensures))) none5)
