-- An extent hands out a chapter: no row and no call changes, and what holds of the whole still holds.
use Rattle.std.proofs.Common.{◌≡◌, ◌≢◌, inl, inr, ℕ, zero, suc, ◌<◌, ◌≤◌, Bool, true, false, List, [], ◌∷◌, ◌++◌, length, Option, Some, None, Result, Ok, Err, slice_get, is_some, refl, sym, ◌∙◌, ap, subst, arith, Vec, Global}
use Rattle.std.specs.Option.{option_flatten, option_map}
use Rattle.std.proofs.Math.ListN.{set}
use Rattle.std.proofs.lemmas.Bool.{cases_lt}
use Rattle.std.proofs.lemmas.Option.{slice_get_past}
use Rattle.tatp_extents.specs.Extents.{ExtentState}
use Rattle.tatp_extents.specs.Chapters.{ChapterState, after_checkpoint}
use Rattle.tatp_partition.specs.declared.refusal.SiteRefusal.{SiteRefusal}
use Rattle.tatp_partition.specs.declared.refusal.SiteRefusal.TheVariants.{NoMemory}
use Rattle.tatp_partition.specs.Checkpointing.{log_of, log_here, log_obstacle, checkpoint_obstacle, HandsOut, Checkpoints}
use Rattle.tatp_partition.specs.Moving.{with_extent}
use Rattle.tatp_partition.specs.Sites.{SiteState}
use Rattle.tatp_partition.specs.Sound.{IsSite}
use Rattle.tatp_events.specs.declared.event.Answer.TheVariants.{Chapter}
use Rattle.tatp_dispatch.specs.declared.world.World.TheInside.{Inside}
use Rattle.tatp_dispatch.specs.Checkpointing.{CheckpointsIn, refusal_told}
use Rattle.tatp_dispatch.specs.Counts.{one, total}
use Rattle.tatp_dispatch.specs.Worlds.{WorldState}
use Rattle.tatp_dispatch.specs.Fields.{world_of, IsSound}
use Rattle.tatp_dispatch.specs.Obstacles.{checkpoint_obstacle_at}
use Rattle.tatp_dispatch.specs.Events.{KeepsChapter, CheckpointsAt}
use Rattle.tatp_dispatch.specs.Placed.{IsWhole}
use Rattle.tatp_dispatch.specs.Routed.{extent_in, moves_of, stands_at}
use Rattle.tatp_dispatch.specs.Serving.{IsWorld}
use Rattle.tatp_dispatch.proofs.CountLaws.{same_or_not, get_set_same, total_set_same}
use Rattle.tatp_dispatch.proofs.PlaceLaws.{slot_has, extent_at_site}
use Rattle.tatp_dispatch.proofs.RouteLaws.{routes_kept}
use Rattle.tatp_dispatch.proofs.SlotLaws.{Changes, placed_changed, extent_other, stands_other, extent_here, stands_here}
use Rattle.tatp_dispatch.proofs.WorldLaws.{Kept, Carries, serves_kept, keeps_carried, keeps_quiet}
use Rattle.tatp_dispatch.proofs.MoveLaws.{homes_same}
use Rattle.tatp_dispatch.proofs.EventLaws.{set_as_it_is, obstacle_is, Done_so}

some_inj : {A : Type 0} (x y : A) → Some x ≡ Some y → x ≡ y
some_inj x y h = cc

-- ---- a number past the extents of a site
never_clear : (running : Bool) → log_obstacle running None ≡ None → ⊥
never_clear true h = absurd cc
never_clear false h = absurd cc

no_log_past : (s : SiteState) (e : ℕ) → length s.slots ≤ suc e → log_here s (suc e) ≡ None
no_log_past s e past = ap (λ (found : Option (Option ExtentState)). option_map log_of (option_flatten found)) (slice_get_past s.slots (suc e) past)

-- where a site has no log, it tells the same of any number
told_alike : (s s' : SiteState) (k e : ℕ) (handed_out : Result ChapterState SiteRefusal) → log_here s (suc k) ≡ None → log_here s (suc e) ≡ None → Checkpoints s (suc k) handed_out s' → Checkpoints s (suc e) handed_out s'
told_alike s s' k e (Ok chapter) none also h = absurd (never_clear (is_some s.running) (ap (log_obstacle (is_some s.running)) (sym none) ∙ h.0))
told_alike s s' k e (Err NoMemory) none also h = absurd (never_clear (is_some s.running) (ap (log_obstacle (is_some s.running)) (sym none) ∙ h.0))
told_alike s s' k e (Err refusal) none also h = (ap (log_obstacle (is_some s.running)) (also ∙ sym none) ∙ h.0, h.1)

told_past : (s s' : SiteState) (k e : ℕ) (handed_out : Result ChapterState SiteRefusal) → 1 ≤ length s.slots → length s.slots ≤ k → length s.slots ≤ e → Checkpoints s k handed_out s' → Checkpoints s e handed_out s'
told_past s s' zero e handed_out least past also h = absurd (omega (arith, least, past))
told_past s s' (suc k) zero handed_out least past also h = absurd (omega (arith, least, also))
told_past s s' (suc k) (suc e) handed_out least past also h = told_alike s s' k e handed_out (no_log_past s k past) (no_log_past s e also) h

told_of : (s s' : SiteState) (n k e : ℕ) (handed_out : Result ChapterState SiteRefusal) → IsSite s → length s.slots ≡ n → (e < n → k ≡ e) → (n ≤ e → k ≡ n) → Checkpoints s k handed_out s' → Checkpoints s e handed_out s'
told_of s s' n k e handed_out whole many within past h = elim (cases_lt e n) as (λ _. Checkpoints s e handed_out s') [
  | inl lt ↦ subst (λ (j : ℕ). Checkpoints s j handed_out s') (within lt) h
  | inr le ↦
      let last : k ≡ n = past le in
      told_past s s' k e handed_out whole.least (omega (arith, many, last)) (omega (arith, many, le)) h
]

-- the site takes the first number past its extents for every greater one
pub any_number : (w : WorldState) (p k e : ℕ) (handed_out : Result ChapterState SiteRefusal) (sites : List SiteState) → IsWorld w → (e < length w.parcels → k ≡ e) → (length w.parcels ≤ e → k ≡ length w.parcels) → CheckpointsIn w.sites p k handed_out sites → CheckpointsIn w.sites p e handed_out sites
any_number w p k e handed_out sites good within past x = record {
  before = x.before;
  after_it = x.after_it;
  site = x.site;
  checkpoints = told_of x.before x.after_it (length w.parcels) k e handed_out (good.sites p x.before x.site).site (good.extents.site_slots p x.before x.site ∙ sym good.extents.parcel_slots) within past x.checkpoints;
  whole = x.whole;
  after = x.after;
}

-- ---- refused
same_site : (s s' : SiteState) (e : ℕ) (refusal : SiteRefusal) → Checkpoints s e (Err refusal) s' → s' ≡ s
same_site s s' zero NoMemory h = absurd h
same_site s s' (suc e) NoMemory h = h.1
same_site s s' zero refusal h = h.1
same_site s s' (suc e) refusal h = h.1

-- it is the first obstacle, unless memory ran out
abbrev IsFirst : SiteState → ℕ → SiteRefusal → Type 0
IsFirst s e NoMemory = Unit {0}
IsFirst s e refusal = checkpoint_obstacle s e ≡ Some refusal

is_first : (s s' : SiteState) (e : ℕ) (refusal : SiteRefusal) → Checkpoints s e (Err refusal) s' → IsFirst s e refusal
is_first s s' e NoMemory h = tt
is_first s s' zero refusal h = h.0
is_first s s' (suc e) refusal h = h.0

sites_same : (sites sites' : List SiteState) (p e : ℕ) (refusal : SiteRefusal) → CheckpointsIn sites p e (Err refusal) sites' → sites' ≡ sites
sites_same sites sites' p e refusal x = x.after ∙ (ap (set sites p) (same_site x.before x.after_it e refusal x.checkpoints) ∙ set_as_it_is sites p x.before x.site)

pub refused_so : (w w' : WorldState) (p e : ℕ) (refusal : SiteRefusal) (sites : List SiteState) → p < length w.sites → CheckpointsIn w.sites p e (Err refusal) sites → w' ≡ w → CheckpointsAt w p e (Err (refusal_told refusal)) w'
refused_so w w' p e NoMemory sites there x same = (there, same)
refused_so w w' p e refusal sites there x same = (obstacle_is w p x.before (λ s. checkpoint_obstacle s e) (Some refusal) x.site (is_first x.before x.after_it e refusal x.checkpoints), same)

abbrev pub with_chapters : Inside → Vec SiteState Global → Vec ChapterState Global → Inside
with_chapters a v l = record a { sites = v; chapters = l }

pub refused_whole : (a : Inside) (v : Vec SiteState Global) (l : Vec ChapterState Global) (p e : ℕ) (refusal : SiteRefusal) → CheckpointsIn a.sites.items p e (Err refusal) v.items → l.items ≡ a.chapters.items → world_of (with_chapters a v l) ≡ world_of a
refused_whole a v l p e refusal x items =
    let w : WorldState = world_of a in
    ap (λ xs. record w { sites = xs; chapters = l.items }) (sites_same a.sites.items v.items p e refusal x) ∙ ap (λ xs. record w { chapters = xs }) items

pub refused_sound : (a : Inside) (v : Vec SiteState Global) (l : Vec ChapterState Global) (p e : ℕ) (refusal : SiteRefusal) → IsSound a → CheckpointsIn a.sites.items p e (Err refusal) v.items → l.items ≡ a.chapters.items → IsSound (with_chapters a v l)
refused_sound a v l p e refusal h x items =
    let sites : v.items ≡ a.sites.items = sites_same a.sites.items v.items p e refusal x in
    record {
      world = subst IsWorld (sym (refused_whole a v l p e refusal x items)) h.world;
      room = record { completions = omega (arith, h.room.completions, ap (total (λ (t : SiteState). one t.running)) sites); landings = h.room.landings; clients = h.room.clients };
      empty = h.empty;
    }

-- ---- an extent hands out a chapter
checkpoint_carries : (w : WorldState) (p e : ℕ) (s s' : SiteState) (x : ExtentState) → IsWorld w → slice_get w.sites p ≡ Some s → IsSite s' → slice_get s.slots e ≡ Some (Some x) → s' ≡ with_extent s e (Some (after_checkpoint x)) → Carries w p s s' w.parcels w.landings
checkpoint_carries w p e s s' x good here site has is =
    let n : ℕ = w.routes.subscribers in
    let y : ExtentState = after_checkpoint x in
    let old : IsWhole n e x = good.extents.at_sites p e s x here has in
    let whole : IsWhole n e y = record { least = old.least; number = old.number; count = old.count; homes = old.homes } in
    let c : Changes n p e s s' (Some y) w.parcels w.parcels = record {
      before = Some x;
      had = has;
      slots = ap (λ k. k.slots) is;
      partition = ap (λ k. k.partition) is;
      length_same = refl;
      others = λ k other. refl;
      moved = refl;
      now_whole = λ z q. subst (IsWhole n e) (some_inj y z q) whole;
      hand_whole = λ z q. good.extents.in_hand e z q;
    } in
    let placed = placed_changed n w.sites w.parcels w.parcels p e s s' (Some y) good.extents here c in
    let was : extent_in w.sites w.parcels e ≡ Some x = extent_at_site n w.sites w.parcels p e s x good.extents here has in
    let now : extent_in (set w.sites p s') w.parcels e ≡ Some y = extent_here n w.sites w.parcels w.parcels p e s s' y good.extents here c in
    let others : (k : ℕ) → k ≢ e → extent_in (set w.sites p s') w.parcels k ≡ extent_in w.sites w.parcels k = λ k other. extent_other n w.sites w.parcels w.parcels p e k s s' (Some y) here c other in
    let has_now : slice_get s'.slots e ≡ Some (Some y) = ap (λ k. slice_get k.slots e) is ∙ get_set_same s.slots e (Some y) (Some x) has in
    let stood : stands_at w.sites e ≡ Some s.partition = stands_here n w.sites w.parcels p e s x good.extents here has in
    let stands : stands_at (set w.sites p s') e ≡ Some s.partition = stands_here n (set w.sites p s') w.parcels p e s' y placed (get_set_same w.sites p s' s here) has_now ∙ ap (λ k. Some k.partition) is in
    record {
      here = here;
      site = site;
      partition = ap (λ k. k.partition) is;
      modul = ap (λ k. k.modul) is;
      running = ap (λ k. k.running) is;
      placed = placed;
      homes = λ k. homes_same k (extent_in w.sites w.parcels) (extent_in (set w.sites p s') w.parcels) e x y was now refl others;
      partitions = λ t i at. good.partitions.of_landings i t at;
      routes = routes_kept w.routes.routes w.landings (λ k. moves_of (extent_in w.sites w.parcels k)) (stands_at w.sites) (λ k. moves_of (extent_in (set w.sites p s') w.parcels k)) (stands_at (set w.sites p s'))
          (λ k. elim (same_or_not k e) as (λ _. moves_of (extent_in (set w.sites p s') w.parcels k) ≡ moves_of (extent_in w.sites w.parcels k)) [
            | inl same ↦ ap (λ (j : ℕ). moves_of (extent_in (set w.sites p s') w.parcels j)) same ∙ (ap moves_of now ∙ (sym (ap moves_of was) ∙ sym (ap (λ (j : ℕ). moves_of (extent_in w.sites w.parcels j)) same)))
            | inr other ↦ ap moves_of (others k other)
          ])
          (λ k. elim (same_or_not k e) as (λ _. stands_at (set w.sites p s') k ≡ stands_at w.sites k) [
            | inl same ↦ ap (stands_at (set w.sites p s')) same ∙ (stands ∙ (sym stood ∙ sym (ap (stands_at w.sites) same)))
            | inr other ↦ stands_other n w.sites w.parcels w.parcels p e k s s' (Some y) here c other
          ]) good.routes;
    }

-- the chapters that are kept make no difference to what holds
same_but_chapters : (w : WorldState) (chapters : List ChapterState) → IsWorld w → IsWorld (record w { chapters = chapters })
same_but_chapters w chapters h = record {
  lawful = h.lawful;
  few = h.few;
  queues = h.queues;
  extents = h.extents;
  sites = h.sites;
  one_call_a_home = h.one_call_a_home;
  clients = h.clients;
  items = h.items;
  calls = h.calls;
  routed = h.routed;
  route_partitions = h.route_partitions;
  partitions = h.partitions;
  routes = h.routes;
  keys = h.keys;
  keys_back = h.keys_back;
  consistent = h.consistent;
  consistent_back = h.consistent_back;
  populated = h.populated;
  populated_back = h.populated_back;
}

abbrev chapter_kept : WorldState → ℕ → SiteState → ChapterState → WorldState
chapter_kept w p s chapter = record w { sites = set w.sites p s; chapters = w.chapters ++ chapter ∷ [] }

kept_with : (w : WorldState) (p : ℕ) (s : SiteState) (chapter : ChapterState) → Kept w (record w { sites = set w.sites p s }) → Kept w (chapter_kept w p s chapter)
kept_with w p s chapter k = record {
  world = same_but_chapters (record w { sites = set w.sites p s }) (w.chapters ++ chapter ∷ []) k.world;
  stays = record { database = k.stays.database; calls = k.stays.calls; completions = k.stays.completions };
  back = k.back;
  completions = k.completions;
}

keeps_chapter : (w : WorldState) (p e : ℕ) (s s' : SiteState) (chapter : ChapterState) → IsWorld w → slice_get w.sites p ≡ Some s → IsSite s' → HandsOut s e chapter s' → Kept w (chapter_kept w p s' chapter)
keeps_chapter w p zero s s' chapter h here whole out =
    kept_with w p s' chapter (keeps_quiet w p s s' h here whole (record { partition = ap (λ t. t.partition) out.1; modul = ap (λ t. t.modul) out.1; running = ap (λ t. t.running) out.1; slots = ap (λ t. t.slots) out.1 }))
keeps_chapter w p (suc e) s s' chapter h here whole out =
    kept_with w p s' chapter (keeps_carried w p s s' w.parcels w.landings h (checkpoint_carries w p (suc e) s s' out.0 h here whole (slot_has s.slots (suc e) out.0 out.1) out.3))

runs_on : (s s' : SiteState) (e : ℕ) (chapter : ChapterState) → HandsOut s e chapter s' → s'.running ≡ s.running
runs_on s s' zero chapter out = ap (λ t. t.running) out.1
runs_on s s' (suc e) chapter out = ap (λ t. t.running) out.3

number_of : (s s' : SiteState) (e : ℕ) (chapter : ChapterState) → IsSite s → HandsOut s e chapter s' → chapter.extent ≡ e
number_of s s' zero chapter whole out = ap (λ (c : ChapterState). c.extent) out.0
number_of s s' (suc e) chapter whole out = ap (λ (c : ChapterState). c.extent) out.2 ∙ whole.numbered (suc e) out.0 (slot_has s.slots (suc e) out.0 out.1)

-- ---- the fields of the whole
after_fields : (a : Inside) (v : Vec SiteState Global) (l : Vec ChapterState Global) (p : ℕ) (s : SiteState) (chapter : ChapterState) → v.items ≡ set a.sites.items p s → l.items ≡ a.chapters.items ++ chapter ∷ [] → world_of (with_chapters a v l) ≡ chapter_kept (world_of a) p s chapter
after_fields a v l p s chapter sites items =
    let w : WorldState = world_of a in
    ap (λ xs. record w { sites = xs; chapters = l.items }) sites ∙ ap (λ xs. record w { sites = set a.sites.items p s; chapters = xs }) items

pub chapter_done : (a : Inside) (v : Vec SiteState Global) (l : Vec ChapterState Global) (p e extent index entries : ℕ) (chapter : ChapterState) → IsSound a → CheckpointsIn a.sites.items p e (Ok chapter) v.items → l.items ≡ a.chapters.items ++ chapter ∷ [] → Done_so a (Ok (Chapter extent index entries)) (with_chapters a v l)
chapter_done a v l p e extent index entries chapter h x items =
    let w : WorldState = world_of a in
    let w' : WorldState = world_of (with_chapters a v l) in
    let out = x.checkpoints.1 in
    let k : Kept w w' = subst (Kept w) (sym (after_fields a v l p x.after_it chapter x.after items)) (keeps_chapter w p e x.before x.after_it chapter h.world x.site x.whole out) in
    let running : x.after_it.running ≡ x.before.running = runs_on x.before x.after_it e chapter out in (
      record {
        world = k.world;
        room = record { completions = omega (arith, h.room.completions, ap (total (λ (t : SiteState). one t.running)) x.after, total_set_same (λ (t : SiteState). one t.running) a.sites.items p x.before x.after_it x.site (ap one running)); landings = h.room.landings; clients = h.room.clients };
        empty = h.empty;
      },
      record { goes = k.stays; serves = serves_kept w w' k.back k.completions; world = k.world; modul = refl },
    )

pub chapter_happens : (a : Inside) (v : Vec SiteState Global) (l : Vec ChapterState Global) (p e extent index entries : ℕ) (chapter : ChapterState) → IsSound a → CheckpointsIn a.sites.items p e (Ok chapter) v.items → l.items ≡ a.chapters.items ++ chapter ∷ [] → extent ≡ chapter.extent → index ≡ chapter.index → entries ≡ length chapter.entries
    → (checkpoint_obstacle_at (world_of a) p e ≡ None) × KeepsChapter (world_of a) p e extent index entries (world_of (with_chapters a v l))
chapter_happens a v l p e extent index entries chapter h x items number place count = (
  obstacle_is (world_of a) p x.before (λ s. checkpoint_obstacle s e) None x.site x.checkpoints.0,
  record {
    before = x.before;
    after_it = x.after_it;
    chapter = chapter;
    site = x.site;
    checkpoints = x.checkpoints;
    of_extent = number ∙ number_of x.before x.after_it e chapter (h.world.sites p x.before x.site).site x.checkpoints.1;
    of_index = place;
    of_entries = count;
    after = after_fields a v l p x.after_it chapter x.after items;
  },
)
