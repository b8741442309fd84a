use Rattle.std.proofs.Common.{◌++◌, List, sym, ap, ◌∙◌, Vec, Global}
use Rattle.tatp_extents.specs.Chapters.{ChapterState}
use Rattle.tatp_logs.specs.Lists.{lists_of}
use Rattle.tatp_settle.specs.Runs.{joined}
use Rattle.tatp_bench.proofs.ChapterLaws.{last_joined}
use Rattle.tatp_bench.proofs.chapters.join_chapters.Goals as goal

pub loop-last-preserved : goal.loop-last-preserved
loop-last-preserved c =
    let rest = c.pop.new.self.items in
    ap (λ (items : List ChapterState). joined (lists_of rest) ++ items) c.in-Ok.ensures
    ∙ (sym (last_joined rest c.in-Some.last c.loop-last.all.items)
    ∙ (ap (λ (lists : List (Vec ChapterState Global)). joined (lists_of lists) ++ c.loop-last.all.items) (sym c.in-Some.ensures.items) ∙ c.loop-last.invariant))
