-- A checkpoint at a site: what is answered, and that the site stays sound.
use Rattle.std.proofs.Common.{◌≡◌, ◌≢◌, inl, inr, ℕ, zero, suc, ◌==◌, Bool, true, false, if◌then◌else◌, is_some, List, Option, Some, None, Result, Ok, Err, slice_get, refl, sym, ◌∙◌, ap, subst, arith}
use Rattle.std.specs.Option.{option_flatten, option_map, option_map_or}
use Rattle.std.proofs.Math.ListN.{set}
use Rattle.std.proofs.lemmas.Bool.{ne_eqb, eq-eqb}
use Rattle.tatp_limits.specs.declared.limits.TheConstants.{MAX_EXTENT_CHAPTERS}
use Rattle.tatp_extents.specs.Extents.{ExtentState, IsExtent, last_stamp_of, extent_of}
use Rattle.tatp_extents.specs.declared.chapter.CheckpointError.{CheckpointError}
use Rattle.tatp_extents.specs.declared.chapter.CheckpointError.TheVariants as error
use Rattle.tatp_extents.specs.Chapters.{ChapterState, CheckpointsExtent, after_checkpoint}
use Rattle.tatp_partition.specs.declared.refusal.SiteRefusal.{SiteRefusal}
use Rattle.tatp_partition.specs.declared.refusal.SiteRefusal.TheVariants.{LogEnded, ChapterCountFull}
use Rattle.tatp_partition.specs.RunnerStates.{RunnerState}
use Rattle.tatp_partition.specs.declared.site.Site.TheInside.{Inside}
use Rattle.tatp_partition.specs.Sites.{SiteState, slot, last_stamp_here}
use Rattle.tatp_partition.specs.Moving.{with_extent}
use Rattle.tatp_partition.specs.Checkpointing.{log_of, log_here, log_obstacle, checkpoint_obstacle, Checkpoints, KeepsLastStamps, refusal_by}
use Rattle.tatp_partition.specs.Showing.{with_pinned, pinned_of, running_shown, IsEmptyAt}
use Rattle.tatp_partition.specs.Sound.{extent_set_back, IsSite}
use Rattle.tatp_partition.specs.Fields.{site_of, IsSound}
use Rattle.tatp_partition.proofs.ListLaws.{same_or_not, get_set_same, get_set_other, set_set, set_same}
use Rattle.tatp_partition.proofs.CallLaws.{site_replaced}

-- what an extent answers, as the site tells it
abbrev pub told : Result ChapterState CheckpointError → Result ChapterState SiteRefusal
told (Ok chapter) = Ok chapter
told (Err error) = Err (refusal_by error)

-- the last stamp of what stands in a slot
abbrev stamp : Option (Option ExtentState) → ℕ
stamp found = option_map_or last_stamp_of (option_flatten found) 0

abbrev stamp_in : List (Option ExtentState) → ℕ → ℕ
stamp_in slots e = stamp (slice_get slots e)

-- ---- what stands against it
clear : (m f : Bool) → m ≡ false → f ≡ false → (if m then Some LogEnded else if f then Some ChapterCountFull else None) ≡ None
clear m f h k = rw (h, k) refl

ended : (m f : Bool) → m ≡ true → (if m then Some LogEnded else if f then Some ChapterCountFull else None) ≡ Some LogEnded
ended m f h = rw (h) refl

full : (m f : Bool) → m ≡ false → f ≡ true → (if m then Some LogEnded else if f then Some ChapterCountFull else None) ≡ Some ChapterCountFull
full m f h k = rw (h, k) refl

-- ---- of an extent, where no call runs
module _ (a : Inside) (h : IsSound a) (idle : a.running ≡ None) where
  abbrev s : SiteState
  s = site_of a

  same_slots : s.slots ≡ a.slots
  same_slots = ap (λ r. with_pinned a.slots (pinned_of r)) idle

  none : s.running ≡ None
  none = ap running_shown idle

  no_run : is_some s.running ≡ false
  no_run = ap is_some none

  -- the site with other slots
  shows : (new : List (Option ExtentState)) → site_of (record a { slots = new }) ≡ record s { slots = new }
  shows new = ap (λ t. record s { slots = with_pinned new (pinned_of t) }) idle

  sound : (e : ℕ) (x x' : ExtentState) (new : List (Option ExtentState)) → slice_get a.slots e ≡ Some (Some x) → x'.number ≡ x.number → IsExtent x' → new ≡ set a.slots e (Some x') → IsSound (record a { slots = new })
  sound e x x' new has number own is =
      let there : slice_get s.slots e ≡ Some (Some x) = ap (λ k. slice_get k e) same_slots ∙ has in
      let whole : site_of (record a { slots = new }) ≡ with_extent s e (Some x') = shows new ∙ ap (λ t. record s { slots = t }) (is ∙ ap (λ t. set t e (Some x')) (sym same_slots)) in
      record {
        site = subst IsSite (sym whole) (site_replaced s e x x' s.running h.site there number (subst (λ r. IsExtent (extent_set_back r x')) (sym none) own) (λ i z n at. refl) (λ r q. let f : None ≡ Some r = sym none ∙ q in absurd cc));
        emptied = subst (λ r. IsEmptyAt new (pinned_of r)) (sym idle) tt;
        runner = λ r q. let f : None ≡ Some r = sym idle ∙ q in absurd cc;
      }

  obstacle : (k : ℕ) (x : ExtentState) → slice_get a.slots (suc k) ≡ Some (Some x) → checkpoint_obstacle s (suc k) ≡ (if x.mixed then Some LogEnded else if x.chapters == MAX_EXTENT_CHAPTERS then Some ChapterCountFull else None)
  obstacle k x has =
      let there : log_here s (suc k) ≡ Some (log_of x) = ap (option_map log_of) (ap (λ t. slot t (suc k)) same_slots ∙ ap option_flatten has) in
      λ i. log_obstacle (no_run i) (there i)

  -- an extent that was put back as it was
  same_site : (k : ℕ) (x x' : ExtentState) (new : List (Option ExtentState)) → slice_get a.slots (suc k) ≡ Some (Some x) → x' ≡ x → new ≡ set a.slots (suc k) (Some x') → site_of (record a { slots = new }) ≡ s
  same_site k x x' new has same is =
      ap (λ t. site_of (record a { slots = t })) (is ∙ (ap (λ (z : ExtentState). set a.slots (suc k) (Some z)) same ∙ set_same a.slots (suc k) (Some x) has))

  -- what is answered
  pub answers : (k : ℕ) (x x' : ExtentState) (made : Result ChapterState CheckpointError) (new : List (Option ExtentState)) → slice_get a.slots (suc k) ≡ Some (Some x) → CheckpointsExtent x made x' → new ≡ set a.slots (suc k) (Some x') → Checkpoints s (suc k) (told made) (site_of (record a { slots = new }))
  answers k x x' (Ok chapter) new has checks is =
      let few : (x.chapters == MAX_EXTENT_CHAPTERS) ≡ false = ne_eqb x.chapters MAX_EXTENT_CHAPTERS (λ q. omega (arith, q, checks.1)) in
      let there : slot s.slots (suc k) ≡ Some x = ap (λ t. slot t (suc k)) same_slots ∙ ap option_flatten has in
      let put : new ≡ set s.slots (suc k) (Some (after_checkpoint x)) = is ∙ (λ i. set (sym same_slots i) (suc k) (Some (checks.3 i))) in
      (obstacle k x has ∙ clear x.mixed (x.chapters == MAX_EXTENT_CHAPTERS) checks.0 few, (x, there, checks.2, shows new ∙ ap (λ t. record s { slots = t }) put))
  answers k x x' (Err error.LogEnded) new has checks is = (obstacle k x has ∙ ended x.mixed (x.chapters == MAX_EXTENT_CHAPTERS) checks.0, same_site k x x' new has checks.1 is)
  answers k x x' (Err error.ChapterCountFull) new has checks is =
      (obstacle k x has ∙ full x.mixed (x.chapters == MAX_EXTENT_CHAPTERS) checks.0 (eq-eqb x.chapters MAX_EXTENT_CHAPTERS checks.1), same_site k x x' new has checks.2 is)
  answers k x x' (Err error.NoMemory) new has checks is =
      let few : (x.chapters == MAX_EXTENT_CHAPTERS) ≡ false = ne_eqb x.chapters MAX_EXTENT_CHAPTERS (λ q. omega (arith, q, checks.1)) in
      (obstacle k x has ∙ clear x.mixed (x.chapters == MAX_EXTENT_CHAPTERS) checks.0 few, same_site k x x' new has checks.2 is)

  -- no last stamp changes
  pub stamps : (e : ℕ) (x x' : ExtentState) (new : List (Option ExtentState)) → slice_get a.slots e ≡ Some (Some x) → last_stamp_of x' ≡ last_stamp_of x → new ≡ set a.slots e (Some x') → KeepsLastStamps s (site_of (record a { slots = new }))
  stamps e x x' new has same is None = refl
  stamps e x x' new has same is (Some home) =
      ap (λ (t : SiteState). last_stamp_here t (Some home)) (shows new)
      ∙ (ap (λ t. stamp_in t (extent_of home)) is ∙ (elim (same_or_not (extent_of home) e) as (λ _. stamp_in (set a.slots e (Some x')) (extent_of home) ≡ stamp_in a.slots (extent_of home)) [
        | inl at ↦
            ap (stamp_in (set a.slots e (Some x'))) at ∙ (ap stamp (get_set_same a.slots e (Some x') (Some x) has)
            ∙ (same ∙ (sym (ap stamp has) ∙ ap (stamp_in a.slots) (sym at))))
        | inr n ↦ ap stamp (get_set_other a.slots e (extent_of home) (Some x') n)
      ] ∙ ap (λ t. stamp_in t (extent_of home)) (sym same_slots)))

-- the extent's number stays
same_number : (x x' : ExtentState) (made : Result ChapterState CheckpointError) → CheckpointsExtent x made x' → x'.number ≡ x.number
same_number x x' (Ok chapter) c = ap (λ (t : ExtentState). t.number) c.3
same_number x x' (Err error.LogEnded) c = ap (λ (t : ExtentState). t.number) c.1
same_number x x' (Err error.ChapterCountFull) c = ap (λ (t : ExtentState). t.number) c.2
same_number x x' (Err error.NoMemory) c = ap (λ (t : ExtentState). t.number) c.2

-- ---- as the code knows it
pub idle_of : (r : Option RunnerState) → is_some r ≡ false → r ≡ None
idle_of None h = refl
idle_of (Some r) h = absurd cc

-- the site after a checkpoint of an extent that was lifted out of its slot and put back
pub record Checkpointed (a : Inside) (e : ℕ) (made : Result ChapterState CheckpointError) (new : List (Option ExtentState)) : Type 0 where
  pub answers : Checkpoints (site_of a) e (told made) (site_of (record a { slots = new }))
  pub stamps : KeepsLastStamps (site_of a) (site_of (record a { slots = new }))
  pub sound : IsSound (record a { slots = new })

pub checkpointed : (a : Inside) (e : ℕ) (x x' : ExtentState) (made : Result ChapterState CheckpointError) (lifted new : List (Option ExtentState)) → IsSound a → a.running ≡ None → e ≢ 0 → slice_get a.slots e ≡ Some (Some x)
    → CheckpointsExtent x made x' → last_stamp_of x' ≡ last_stamp_of x → IsExtent x' → lifted ≡ set a.slots e None → new ≡ set lifted e (Some x') → Checkpointed a e made new
checkpointed a zero x x' made lifted new h idle n has checks same own left put = absurd (n refl)
checkpointed a (suc k) x x' made lifted new h idle n has checks same own left put =
    let is : new ≡ set a.slots (suc k) (Some x') = put ∙ (ap (λ t. set t (suc k) (Some x')) left ∙ set_set a.slots (suc k) None (Some x')) in
    record {
      answers = answers a h idle k x x' made new has checks is;
      stamps = stamps a h idle (suc k) x x' new has same is;
      sound = sound a h idle (suc k) x x' new has (same_number x x' made checks) own is;
    }
