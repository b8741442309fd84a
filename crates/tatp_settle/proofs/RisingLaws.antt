-- Stamps that rise: along a log, and along each part of a whole log.
use Rattle.std.proofs.Common.{◌≡◌, ℕ, zero, suc, ◌<◌, ◌⊎◌, inl, inr, nat_lt, Bool, true, false, if◌then◌else◌, List, [], ◌∷◌, length, Contains, Option, Some, None, slice_index_or, refl, sym, ◌∙◌, subst, arith}
use Rattle.std.specs.Option.{option_map_or}
use Rattle.tatp_calls.specs.declared.entry.Entry.{Entry}
use Rattle.tatp_extents.specs.Histories.{StampsRise}
use Rattle.tatp_logs.specs.Logs.{last_stamp_from}
use Rattle.tatp_extents.specs.Chapters.{ChapterState}
use Rattle.tatp_extents.proofs.HistoryLaws.{last_of_more}
use Rattle.tatp_settle.specs.Closings.{ClosedState, chapter_count, entries_since, chapter_numbered, IsClosed}
use Rattle.tatp_settle.specs.Causes.{IsMixed, entries_of_part}
use Rattle.tatp_settle.proofs.FoundLaws.{log_rises, chapter_found, chapter_rises}

-- ---- a log
-- stamps that rise do so from this one too, which is below them
pub rise_above : (least : ℕ) (log : List Entry) → StampsRise 0 log → ((x : Entry) → Contains log x → least < x.stamp) → StampsRise least log
rise_above least [] h above = tt
rise_above least (x ∷ more) h above = (above x (0, omega arith, refl), h.1)

-- each stamp is above the one before them all
pub above_least : (least : ℕ) (log : List Entry) (k : ℕ) (x : Entry) → StampsRise least log → k < length log → slice_index_or log k x ≡ x → least < x.stamp
above_least least [] k x rise l is = absurd (omega (arith, l))
above_least least (y ∷ more) zero x rise l is = subst (λ (z : Entry). least < z.stamp) is rise.0
above_least least (y ∷ more) (suc k) x rise l is = let later = above_least y.stamp more k x rise.1 (omega (arith, l)) is in omega (arith, later, rise.0)

-- an entry of the log has this stamp
pub record IsStampIn (log : List Entry) (stamp : ℕ) : Type 0 where
  pub entry : Entry
  pub stands : Contains log entry
  pub is : entry.stamp ≡ stamp

later_stamp : (x : Entry) (more : List Entry) (stamp : ℕ) → IsStampIn more stamp → IsStampIn (x ∷ more) stamp
later_stamp x more stamp h = record { entry = h.entry; stands = (suc h.stands.0, (let l = h.stands.1 in omega (arith, l)), h.stands.2); is = h.is }

-- the last stamp is an entry's, or the one before it
pub last_is : (least : ℕ) (log : List Entry) → (last_stamp_from least log ≡ least) ⊎ IsStampIn log (last_stamp_from least log)
last_is least [] = inl refl
last_is least (x ∷ more) = by (last_is x.stamp more)
  where
    same : last_stamp_from least (x ∷ more) ≡ last_stamp_from x.stamp more
    same = last_of_more least x more

    by : (last_stamp_from x.stamp more ≡ x.stamp) ⊎ IsStampIn more (last_stamp_from x.stamp more) → (last_stamp_from least (x ∷ more) ≡ least) ⊎ IsStampIn (x ∷ more) (last_stamp_from least (x ∷ more))
    by (inl own) = inr (record { entry = x; stands = (0, omega arith, refl); is = sym own ∙ sym same })
    by (inr later) = inr (subst (λ (n : ℕ). IsStampIn (x ∷ more) n) (sym same) (later_stamp x more (last_stamp_from x.stamp more) later))

-- ---- where an extent isn't mixed, the stamps of each part rise
module _ (c : ClosedState) (e i : ℕ) (closed : IsClosed c) (unmixed : IsMixed c e → ⊥) where
  of_chapter : (v : Option ChapterState) → chapter_numbered c e i ≡ v → StampsRise 0 (option_map_or (λ (x : ChapterState). x.entries) v [])
  of_chapter None is = tt
  of_chapter (Some x) is = chapter_rises e x (chapter_found c e i x closed is)

  pub part_rises : StampsRise 0 (entries_of_part c e i)
  part_rises = by (nat_lt i (chapter_count c e))
    where
      by : (b : Bool) → StampsRise 0 (if b then option_map_or (λ (x : ChapterState). x.entries) (chapter_numbered c e i) [] else entries_since c e)
      by true = of_chapter (chapter_numbered c e i) refl
      by false = log_rises c e closed unmixed
