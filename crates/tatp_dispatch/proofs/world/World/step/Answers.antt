use Rattle.std.proofs.Common.{◌≡◌, ℕ, length, Option, Some, Ok, Err, Result, Vec, Global, slice_get, refl, sym, ap, ◌∙◌, subst, arith}
use Rattle.std.specs.Option.{option_copied}
use Rattle.std.specs.Vec.{with_item}
use Rattle.std.proofs.lemmas.Option.{slice_get_read, slice_get_within}
use Rattle.tatp_partition.specs.declared.item.Completion.{Completion}
use Rattle.tatp_partition.specs.declared.item.Stepped.{Stepped}
use Rattle.tatp_partition.specs.declared.item.Stepped.TheVariants.{Moved as Did_move, Ended as Did_end}
use Rattle.tatp_partition.specs.declared.refusal.SiteRefusal.{SiteRefusal}
use Rattle.tatp_partition.specs.Running.{AdvancesUnless, obstacle_to, stepped_of}
use Rattle.tatp_partition.specs.Sites.{SiteState}
use Rattle.tatp_partition.specs.Sound.{IsSite}
use Rattle.tatp_events.specs.declared.event.Answer.TheVariants.{Ended as Is_ended}
use Rattle.tatp_events.specs.declared.refusal.Refusal.TheVariants.{NoPartition, Site}
use Rattle.tatp_dispatch.specs.Fields.{world_of}
use Rattle.tatp_dispatch.specs.Serving.{Tells}
use Rattle.tatp_dispatch.specs.Worlds.{WorldState}
use Rattle.tatp_dispatch.proofs.EventLaws.{StepsAt, no_site, told_same, with_sites, sound_with_buffer, sound_refused, refused_at, line_at, end_at, line_told, ending_client, room_to_end, some_completed, after_end, EndedFields, end_told, end_happens}
use Rattle.tatp_dispatch.proofs.world.World.step.Goals as goal

site_steps : (v : Vec SiteState Global) (p : ℕ) (obstacle : SiteState → Option SiteRefusal) (s s' : SiteState) (stepped : Result Stepped SiteRefusal) → slice_get v.items p ≡ Some s → AdvancesUnless (obstacle s) s stepped s' → IsSite s'
    → StepsAt obstacle v.items p stepped (with_item v p s').items
site_steps v p obstacle s s' stepped here steps whole = record { before = s; after_it = s'; site = here; steps = steps; whole = whole; after = refl }

end_told_of : (v : Vec SiteState Global) (p : ℕ) (obstacle : SiteState → Option SiteRefusal) (s' : SiteState) (ended : Option Completion) (completion : Completion) → ended ≡ Some completion → StepsAt obstacle v.items p (Ok (stepped_of ended)) (with_item v p s').items
    → StepsAt obstacle v.items p (Ok (Did_end completion)) (with_item v p s').items
end_told_of v p obstacle s' ended completion is h = subst (λ (t : Option Completion). StepsAt obstacle v.items p (Ok (stepped_of t)) (with_item v p s').items) is h

pub returns-then-p-len : goal.returns-then-p-len
returns-then-p-len c = rw (← c.self.view_is) ((no_site (world_of c.self.inside) c.args.p (obstacle_to c.args.kind) (omega arith), refl), told_same (world_of c.self.inside) (world_of c.self.inside) NoPartition c.self.invariant.world refl)

-- ---- it is refused
refused : (c : goal.In-Err) → StepsAt (obstacle_to c.args.kind) c.self.inside.sites.items c.args.p (Err c.in-Err.refusal) (with_item c.self.inside.sites c.args.p c.step_into.new.self).items
refused c = site_steps c.self.inside.sites c.args.p (obstacle_to c.args.kind) c.index_mut.result.now c.step_into.new.self _ (slice_get_read c.self.inside.sites.items (length c.self.inside.sites.items) c.args.p c.index_mut.result.now refl (omega arith) c.index_mut.ensures.value) c.in-Err.ensures.steps c.in-Err.ensures.site

pub returns-in-Err : goal.returns-in-Err
returns-in-Err c =
    let r = refused_at (world_of c.self.inside) c.args.p (obstacle_to c.args.kind) c.in-Err.refusal (with_item c.self.inside.sites c.args.p c.step_into.new.self).items (refused c) in
    rw (← c.self.view_is) (r, told_same (world_of c.self.inside) (record (world_of c.self.inside) { sites = (with_item c.self.inside.sites c.args.p c.step_into.new.self).items }) (Site c.in-Err.refusal) c.self.invariant.world r.1)

pub invariant_of-self : goal.invariant_of-self
invariant_of-self c =
    let r = refused_at (world_of c.self.inside) c.args.p (obstacle_to c.args.kind) c.in-Err.refusal (with_item c.self.inside.sites c.args.p c.step_into.new.self).items (refused c) in
    sound_with_buffer (with_sites c.self.inside (with_item c.self.inside.sites c.args.p c.step_into.new.self)) c.step_into.new.buffer (sound_refused c.self.inside (with_item c.self.inside.sites c.args.p c.step_into.new.self) c.self.invariant r.1) c.in-Err.ensures.refused

-- ---- it goes on
moved : (c : goal.In-None) → StepsAt (obstacle_to c.args.kind) c.self.inside.sites.items c.args.p (Ok Did_move) (with_item c.self.inside.sites c.args.p c.step_into.new.self).items
moved c = subst (λ (t : Option Completion). StepsAt (obstacle_to c.args.kind) c.self.inside.sites.items c.args.p (Ok (stepped_of t)) (with_item c.self.inside.sites c.args.p c.step_into.new.self).items) (sym c.get.ensures ∙ ap option_copied c.in-None.is) (site_steps c.self.inside.sites c.args.p (obstacle_to c.args.kind) c.index_mut.result.now c.step_into.new.self _ (slice_get_read c.self.inside.sites.items (length c.self.inside.sites.items) c.args.p c.index_mut.result.now refl (omega arith) c.index_mut.ensures.value) c.in-Ok.ensures.steps c.in-Ok.ensures.site)

pub invariant_of-self-in-None : goal.invariant_of-self-in-None
invariant_of-self-in-None c =
    let x = moved c in
    sound_with_buffer (with_sites c.self.inside (with_item c.self.inside.sites c.args.p c.step_into.new.self)) c.step_into.new.buffer (line_told c.self.inside (with_item c.self.inside.sites c.args.p c.step_into.new.self) c.args.p x.before x.after_it c.self.invariant x.after x.site x.whole x.steps.1).0 (sym c.get.ensures ∙ ap option_copied c.in-None.is)

pub returns-in-None : goal.returns-in-None
returns-in-None c =
    let x = moved c in
    rw (← c.self.view_is) (line_at (world_of c.self.inside) c.args.p (obstacle_to c.args.kind) (with_item c.self.inside.sites c.args.p c.step_into.new.self).items x, (line_told c.self.inside (with_item c.self.inside.sites c.args.p c.step_into.new.self) c.args.p x.before x.after_it c.self.invariant x.after x.site x.whole x.steps.1).1)

-- ---- it ends
pub record_completion-client-requires-clause-room : goal.record_completion-client-requires-clause-room
record_completion-client-requires-clause-room c =
    let x = end_told_of c.self.inside.sites c.args.p (obstacle_to c.args.kind) c.step_into.new.self c.step_into.new.buffer c.in-Some.completion.now (sym c.get.ensures ∙ ap option_copied c.in-Some.is) (site_steps c.self.inside.sites c.args.p (obstacle_to c.args.kind) c.index_mut.result.now c.step_into.new.self _ (slice_get_read c.self.inside.sites.items (length c.self.inside.sites.items) c.args.p c.index_mut.result.now refl (omega arith) c.index_mut.ensures.value) c.in-Ok.ensures.steps c.in-Ok.ensures.site) in
    room_to_end c.self.inside c.args.p x.before x.after_it c.in-Some.completion.now c.self.invariant x.site x.steps.1

pub record_completion-client-requires-clause-client : goal.record_completion-client-requires-clause-client
record_completion-client-requires-clause-client c = λ completion is.
    let x = end_told_of c.self.inside.sites c.args.p (obstacle_to c.args.kind) c.step_into.new.self c.step_into.new.buffer completion is (site_steps c.self.inside.sites c.args.p (obstacle_to c.args.kind) c.index_mut.result.now c.step_into.new.self _ (slice_get_read c.self.inside.sites.items (length c.self.inside.sites.items) c.args.p c.index_mut.result.now refl (omega arith) c.index_mut.ensures.value) c.in-Ok.ensures.steps c.in-Ok.ensures.site) in
    let k = ending_client (world_of c.self.inside) c.args.p x.before x.after_it completion c.self.invariant.world x.site x.steps.1 in
    slice_get_within c.self.inside.clients.items completion.entry.client k.0 k.1

pub last_reply-requires : goal.last_reply-requires
last_reply-requires c = some_completed c.record_completion-client.new.completions.entries c.self.inside.completions.entries c.in-Some.completion.now.entry (c.record_completion-client.ensures.entries c.in-Some.completion.now (sym c.get.ensures ∙ ap option_copied c.in-Some.is))

ended : (c : goal.After-last_reply) → StepsAt (obstacle_to c.args.kind) c.self.inside.sites.items c.args.p (Ok (Did_end c.in-Some.completion.now)) (with_item c.self.inside.sites c.args.p c.step_into.new.self).items
ended c = end_told_of c.self.inside.sites c.args.p (obstacle_to c.args.kind) c.step_into.new.self c.step_into.new.buffer c.in-Some.completion.now (sym c.get.ensures ∙ ap option_copied c.in-Some.is) (site_steps c.self.inside.sites c.args.p (obstacle_to c.args.kind) c.index_mut.result.now c.step_into.new.self _ (slice_get_read c.self.inside.sites.items (length c.self.inside.sites.items) c.args.p c.index_mut.result.now refl (omega arith) c.index_mut.ensures.value) c.in-Ok.ensures.steps c.in-Ok.ensures.site)

fields : (c : goal.After-last_reply) → EndedFields c.self.inside (with_item c.self.inside.sites c.args.p c.step_into.new.self) c.record_completion-client.new.completions c.record_completion-client.new.clients c.args.p (ended c).before (ended c).after_it c.in-Some.completion.now
fields c =
    let e = c.record_completion-client.ensures in
    let is = sym c.get.ensures ∙ ap option_copied c.in-Some.is in
    record { sites = (ended c).after; pushed = e.entries c.in-Some.completion.now is; taken = e.room; freed = λ k at. e.clients c.in-Some.completion.now k is at }

pub invariant_of-self-in-Some : goal.invariant_of-self-in-Some
invariant_of-self-in-Some c =
    let x = ended c in
    sound_with_buffer (after_end c.self.inside (with_item c.self.inside.sites c.args.p c.step_into.new.self) c.record_completion-client.new.completions c.record_completion-client.new.clients) c.record_completion-client.new.buffer
    (end_told c.self.inside (with_item c.self.inside.sites c.args.p c.step_into.new.self) c.record_completion-client.new.completions c.record_completion-client.new.clients c.args.p x.before x.after_it c.in-Some.completion.now c.self.invariant (fields c) x.site x.whole x.steps.1).0 c.record_completion-client.ensures.empty

-- the reply is that of the last completion
reply_is : (c : goal.After-last_reply) → c.last_reply.result ≡ c.in-Some.completion.now.entry.reply
reply_is c = c.last_reply.ensures c.self.inside.completions.entries c.in-Some.completion.now.entry (c.record_completion-client.ensures.entries c.in-Some.completion.now (sym c.get.ensures ∙ ap option_copied c.in-Some.is))

pub returns-in-Some : goal.returns-in-Some
returns-in-Some c =
    let x = ended c in
    let client = c.record_completion-client.ensures.client c.in-Some.completion.now (sym c.get.ensures ∙ ap option_copied c.in-Some.is) in
    let told = (end_told c.self.inside (with_item c.self.inside.sites c.args.p c.step_into.new.self) c.record_completion-client.new.completions c.record_completion-client.new.clients c.args.p x.before x.after_it c.in-Some.completion.now c.self.invariant (fields c) x.site x.whole x.steps.1).1 in
    let happens = end_happens c.self.inside (with_item c.self.inside.sites c.args.p c.step_into.new.self) c.record_completion-client.new.completions c.record_completion-client.new.clients c.args.p x.before x.after_it c.in-Some.completion.now c.self.invariant (fields c) x.site x.steps.1 in
    let after : WorldState = world_of (after_end c.self.inside (with_item c.self.inside.sites c.args.p c.step_into.new.self) c.record_completion-client.new.completions c.record_completion-client.new.clients) in
    let told_client = subst (λ k. Tells (world_of c.self.inside) (Ok (Is_ended k c.in-Some.completion.now.entry.ask c.in-Some.completion.now.entry.reply)) after) (sym client) told in
    let told_so = subst (λ reply. Tells (world_of c.self.inside) (Ok (Is_ended c.record_completion-client.result c.in-Some.completion.now.entry.ask reply)) after) (sym (reply_is c)) told_client in
    rw (← c.self.view_is) (
      (end_at (world_of c.self.inside) c.args.p (obstacle_to c.args.kind) c.in-Some.completion.now (with_item c.self.inside.sites c.args.p c.step_into.new.self).items x, (c.in-Some.completion.now, client, refl, reply_is c, happens)),
      told_so,
    )
