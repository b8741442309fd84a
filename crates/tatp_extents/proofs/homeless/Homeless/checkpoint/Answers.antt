use Rattle.std.proofs.Common.{◌≡◌, ◌<◌, sym, subst, arith}
use Rattle.tatp_limits.specs.declared.limits.TheConstants.{MAX_EXTENT_CHAPTERS}
use Rattle.tatp_extents.specs.HomelessLog.{HomelessState}
use Rattle.tatp_extents.specs.Chapters.{IsChapter, homeless_chapter_of}
use Rattle.tatp_extents.proofs.ChapterLaws.{is_homeless_chapter}
use Rattle.tatp_extents.proofs.homeless.Homeless.checkpoint.Goals as goal

pub of_parts-requires : goal.of_parts-requires
of_parts-requires c =
    let h : HomelessState = record { mixed = c.self.inside.mixed; chapters = c.self.inside.chapters; kept_stamp = c.self.inside.log.kept_stamp; log = c.self.inside.log.entries; room = c.self.inside.log.room } in
    let few : h.chapters < MAX_EXTENT_CHAPTERS = omega (arith, c.if-self-2.false) in
    let same : record { extent = 0; index = h.chapters; before = c.none.result; entries = c.split-entries.result.entries; after = c.none-2.result } ≡ homeless_chapter_of h =
    λ i. record { extent = 0; index = h.chapters; before = c.none.ensures i; entries = c.split-entries.ensures.entries i; after = c.none-2.ensures i } in
    subst IsChapter (sym same) (is_homeless_chapter h c.self.invariant c.if-self.false few)
