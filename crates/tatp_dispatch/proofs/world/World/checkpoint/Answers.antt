use Rattle.std.proofs.Common.{◌≡◌, ◌++◌, ◌∷◌, [], ◌∙◌, Ok, Err, length, sym, ap, subst, arith}
use Rattle.tatp_events.specs.declared.event.Answer.TheVariants.{Chapter}
use Rattle.tatp_events.specs.declared.refusal.Refusal.{Refusal}
use Rattle.tatp_dispatch.specs.Checkpointing.{CheckpointsIn, refusal_told}
use Rattle.tatp_dispatch.specs.Events.{CheckpointsAt}
use Rattle.tatp_dispatch.specs.Fields.{world_of}
use Rattle.tatp_dispatch.specs.Worlds.{WorldState}
use Rattle.tatp_dispatch.proofs.EventLaws.{told_same, Done_so}
use Rattle.tatp_dispatch.proofs.CheckpointLaws.{any_number, with_chapters, refused_so, refused_whole, refused_sound, chapter_done, chapter_happens}
use Rattle.tatp_dispatch.proofs.world.World.checkpoint.Goals as goal

-- ---- refused
asked : (c : goal.After-refusal_told) → CheckpointsIn c.self.inside.sites.items c.args.p c.args.e (Err c.in-Err.refusal) c.checkpoint_at.new.sites.items
asked c = any_number (world_of c.self.inside) c.args.p c.number_at_site-number.result c.args.e (Err c.in-Err.refusal) c.checkpoint_at.new.sites.items c.self.invariant.world
    (λ lt. c.number_at_site-number.ensures.within (omega (arith, lt, c.len.ensures)))
    (λ le. c.number_at_site-number.ensures.past (omega (arith, le, c.len.ensures)) ∙ c.len.ensures)
    c.in-Err.ensures

abbrev after : goal.After-refusal_told → WorldState
after c = world_of (with_chapters c.self.inside c.checkpoint_at.new.sites c.reserve.new.self)

same : (c : goal.After-refusal_told) → after c ≡ world_of c.self.inside
same c = refused_whole c.self.inside c.checkpoint_at.new.sites c.reserve.new.self c.args.p c.args.e c.in-Err.refusal (asked c) c.reserve.ensures.items

pub invariant_of-self-in-Err : goal.invariant_of-self-in-Err
invariant_of-self-in-Err c = refused_sound c.self.inside c.checkpoint_at.new.sites c.reserve.new.self c.args.p c.args.e c.in-Err.refusal c.self.invariant (asked c) c.reserve.ensures.items

pub returns-in-Err-clause-happens : goal.returns-in-Err-clause-happens
returns-in-Err-clause-happens c =
    subst (λ (w : WorldState). CheckpointsAt w c.args.p c.args.e (Err c.refusal_told.result) (after c)) c.self.view_is
    (subst (λ (r : Refusal). CheckpointsAt (world_of c.self.inside) c.args.p c.args.e (Err r) (after c)) (sym c.refusal_told.ensures)
    (refused_so (world_of c.self.inside) (after c) c.args.p c.args.e c.in-Err.refusal c.checkpoint_at.new.sites.items (omega (arith, c.in_ok-check_partition.ensures.there, ap length c.deref.ensures.value)) (asked c) (same c)))

pub returns-in-Err-clause-tells : goal.returns-in-Err-clause-tells
returns-in-Err-clause-tells c = rw (← c.self.view_is) (rw (c.refusal_told.ensures) (told_same (world_of c.self.inside) (after c) (refusal_told c.in-Err.refusal) c.self.invariant.world (same c)))

-- ---- a chapter is handed out
handed_out : (c : goal.After-push_reserved) → CheckpointsIn c.self.inside.sites.items c.args.p c.args.e (Ok c.in-Ok.chapter) c.checkpoint_at.new.sites.items
handed_out c = any_number (world_of c.self.inside) c.args.p c.number_at_site-number.result c.args.e (Ok c.in-Ok.chapter) c.checkpoint_at.new.sites.items c.self.invariant.world
    (λ lt. c.number_at_site-number.ensures.within (omega (arith, lt, c.len.ensures)))
    (λ le. c.number_at_site-number.ensures.past (omega (arith, le, c.len.ensures)) ∙ c.len.ensures)
    c.in-Ok.ensures

kept : (c : goal.After-push_reserved) → c.push_reserved.new.self.items ≡ c.self.inside.chapters.items ++ c.in-Ok.chapter ∷ []
kept c = c.push_reserved.ensures.items ∙ ap (λ xs. xs ++ c.in-Ok.chapter ∷ []) c.reserve.ensures.items

done : (c : goal.After-push_reserved) → Done_so c.self.inside (Ok (Chapter c.extent-extent.result c.index-index.result c.len-entries.result)) (with_chapters c.self.inside c.checkpoint_at.new.sites c.push_reserved.new.self)
done c = chapter_done c.self.inside c.checkpoint_at.new.sites c.push_reserved.new.self c.args.p c.args.e c.extent-extent.result c.index-index.result c.len-entries.result c.in-Ok.chapter c.self.invariant (handed_out c) (kept c)

pub invariant_of-self-in-Ok : goal.invariant_of-self-in-Ok
invariant_of-self-in-Ok c = (done c).0

pub returns-in-Ok-clause-happens : goal.returns-in-Ok-clause-happens
returns-in-Ok-clause-happens c = rw (← c.self.view_is) (chapter_happens c.self.inside c.checkpoint_at.new.sites c.push_reserved.new.self c.args.p c.args.e c.extent-extent.result c.index-index.result c.len-entries.result c.in-Ok.chapter c.self.invariant (handed_out c) (kept c) c.extent-extent.ensures c.index-index.ensures (c.len-entries.ensures ∙ ap length c.entries.ensures))

pub returns-in-Ok-clause-tells : goal.returns-in-Ok-clause-tells
returns-in-Ok-clause-tells c = rw (← c.self.view_is) (done c).1
