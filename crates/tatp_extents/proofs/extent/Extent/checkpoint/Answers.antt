use Rattle.std.proofs.Common.{◌≡◌, ◌<◌, sym, ◌∙◌, subst, arith}
use Rattle.tatp_limits.specs.declared.limits.TheConstants.{MAX_EXTENT_CHAPTERS}
use Rattle.tatp_extents.specs.Extents.{ExtentState}
use Rattle.tatp_extents.specs.Parts.{state_of}
use Rattle.tatp_extents.specs.Chapters.{IsChapter, chapter_of}
use Rattle.tatp_extents.proofs.ChapterLaws.{is_chapter}
use Rattle.tatp_extents.proofs.extent.Extent.checkpoint.Goals as goal

pub of_parts-requires : goal.of_parts-requires
of_parts-requires c =
    let x : ExtentState = state_of c.self.inside.parts in
    let few : x.chapters < MAX_EXTENT_CHAPTERS = omega (arith, c.if-self-2.false) in
    let same : record { extent = x.number; index = x.chapters; before = c.replace-before.result; entries = c.replace-entries.result.entries; after = c.in_ok-after.after } ≡ chapter_of x =
    λ i. record { extent = x.number; index = x.chapters; before = c.replace-before.ensures.value i; entries = (c.replace-entries.ensures.value i).entries; after = (c.in_ok-after.ensures ∙ c.in_ok-opening.ensures ∙ c.deref.ensures.value) i } in
    subst IsChapter (sym same) (is_chapter x c.self.invariant c.if-self.false few)
