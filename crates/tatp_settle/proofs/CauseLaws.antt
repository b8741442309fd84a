-- The first cause: of its kind the least, where none of an earlier kind holds.
use Rattle.std.proofs.Common.{◌≡◌, ℕ, ◌<◌, ◌≤◌, List, [], ◌∷◌, ◌∙◌, ap, arith, ◌⊎◌, inl, inr}
use Rattle.std.proofs.lemmas.Bool.{cases_order}
use Rattle.std.specs.Ordering.{nat_cmp, ordering_then}
use Rattle.std.specs.Cmp.{nat_cmp_is}
use Rattle.std.specs.Cmp.Lexicographic.{slice_cmp}
use Rattle.std.specs.declared.cmp.Ordering.{Ordering}
use Rattle.std.specs.declared.cmp.Ordering.TheVariants.{Less, Equal, Greater}
use Rattle.tatp_tables.specs.Database.{database_of}
use Rattle.tatp_audits.specs.declared.verdict.Verdict.{Verdict}
use Rattle.tatp_settle.specs.declared.cause.Unsettled.{Unsettled}
use Rattle.tatp_settle.specs.declared.cause.Unsettled.TheVariants.{Mixed, ParcelLeft, Doubled, ChapterMissing, ChapterTwice, ChapterDiffers, CallMissing, ReceiptMissing, ReplyDiffers, StampOrder, HasHome, Audit}
use Rattle.tatp_settle.specs.Runs.{Run}
use Rattle.tatp_settle.specs.CallPlaces.{IsSooner, IsLeastCall, HoldsNowhere}
use Rattle.tatp_settle.specs.Causes.{IsChapterMissing, IsChapterTwice, IsUnjoined, IsUnmatched, HasEntryTooMany, Differs, StampFalls, NamesHome, Holds, StandsBefore, IsFirstCause}
use Rattle.tatp_settle.specs.CauseOrder.{kind_of, NoneOfFirst}

-- ---- places
compared : (m n : ℕ) (rest : Ordering) → ordering_then (nat_cmp m n) rest ≡ Less → (m < n) ⊎ ((m ≡ n) × (rest ≡ Less))
compared m n rest h = elim (cases_order m n) [
  | inr (inl less) ↦ inl less
  | inl same ↦ inr (same, ap (λ o. ordering_then o rest) (nat_cmp_is m n Equal same) ∙ h)
  | inr (inr more) ↦ absurd (let e : Greater ≡ Less = ap (λ o. ordering_then o rest) (nat_cmp_is m n Greater more) ∙ h in cc)
]

no_later : (m n : ℕ) (xs ys : List ℕ) → slice_cmp nat_cmp (m ∷ xs) (n ∷ ys) ≡ Less → m ≤ n
no_later m n xs ys h = elim (compared m n (slice_cmp nat_cmp xs ys) h) [
  | inl less ↦ omega (arith, less)
  | inr same ↦ omega (arith, same.0)
]

lower : (m n : ℕ) → slice_cmp nat_cmp (m ∷ []) (n ∷ []) ≡ Less → m < n
lower m n h = elim (compared m n Equal h) [
  | inl less ↦ less
  | inr same ↦ absurd (let e : Equal ≡ Less = same.1 in cc)
]

sooner : (c n client number : ℕ) → slice_cmp nat_cmp (c ∷ n ∷ []) (client ∷ number ∷ []) ≡ Less → IsSooner c n client number
sooner c n client number h = elim (compared c client (slice_cmp nat_cmp (n ∷ []) (number ∷ [])) h) [
  | inl less ↦ inl less
  | inr same ↦ inr (same.0, lower n number same.1)
]

-- what stands behind the kind in a cause's place
abbrev details : Unsettled → List ℕ
details (Mixed e) = e ∷ []
details (ParcelLeft e) = e ∷ []
details (Doubled e) = e ∷ []
details (ChapterMissing e i) = e ∷ i ∷ []
details (ChapterTwice e i) = e ∷ i ∷ []
details (ChapterDiffers e i) = e ∷ i ∷ []
details (CallMissing client number) = client ∷ number ∷ []
details (ReceiptMissing client number) = client ∷ number ∷ []
details (ReplyDiffers client number) = client ∷ number ∷ []
details (StampOrder client number) = client ∷ number ∷ []
details (HasHome client number) = client ∷ number ∷ []
details (Audit verdict) = []

module _ (run : Run) where
  pub of_fewer : (fewer kinds : ℕ) → fewer ≤ kinds → NoneOfFirst kinds run → NoneOfFirst fewer run
  of_fewer fewer kinds l none cause k h = none cause (omega (arith, l, k)) h

  -- ---- one kind more of which none holds
  pub none_mixed : ((e : ℕ) → Holds run (Mixed e) → ⊥) → NoneOfFirst 1 run
  none_mixed none (Mixed e) l h = none e h
  none_mixed none cause l h = absurd (omega (arith, l))

  pub none_left : NoneOfFirst 1 run → ((e : ℕ) → Holds run (ParcelLeft e) → ⊥) → NoneOfFirst 2 run
  none_left before none (ParcelLeft e) l h = none e h
  none_left before none cause l h = before cause (omega (arith, l)) h

  pub none_doubled : NoneOfFirst 2 run → ((e : ℕ) → Holds run (Doubled e) → ⊥) → NoneOfFirst 3 run
  none_doubled before none (Doubled e) l h = none e h
  none_doubled before none cause l h = before cause (omega (arith, l)) h

  pub none_missing : NoneOfFirst 3 run → HoldsNowhere (IsChapterMissing run.closed) → NoneOfFirst 4 run
  none_missing before none (ChapterMissing e i) l h = none e i h
  none_missing before none cause l h = before cause (omega (arith, l)) h

  pub none_twice : NoneOfFirst 4 run → HoldsNowhere (IsChapterTwice run.closed) → NoneOfFirst 5 run
  none_twice before none (ChapterTwice e i) l h = none e i h
  none_twice before none cause l h = before cause (omega (arith, l)) h

  pub none_unjoined : NoneOfFirst 5 run → HoldsNowhere (IsUnjoined run.population run.closed) → NoneOfFirst 6 run
  none_unjoined before none (ChapterDiffers e i) l h = none e i h
  none_unjoined before none cause l h = before cause (omega (arith, l)) h

  pub none_unmatched : NoneOfFirst 6 run → HoldsNowhere (IsUnmatched run.calls run.receipts) → NoneOfFirst 7 run
  none_unmatched before none (CallMissing client number) l h = none client number h
  none_unmatched before none cause l h = before cause (omega (arith, l)) h

  pub none_too_many : NoneOfFirst 7 run → HoldsNowhere (HasEntryTooMany run.closed run.receipts) → NoneOfFirst 8 run
  none_too_many before none (ReceiptMissing client number) l h = none client number h
  none_too_many before none cause l h = before cause (omega (arith, l)) h

  pub none_differing : NoneOfFirst 8 run → HoldsNowhere (Differs run.closed run.calls run.receipts) → NoneOfFirst 9 run
  none_differing before none (ReplyDiffers client number) l h = none client number h
  none_differing before none cause l h = before cause (omega (arith, l)) h

  pub none_falling : NoneOfFirst 9 run → HoldsNowhere (StampFalls run.receipts) → NoneOfFirst 10 run
  none_falling before none (StampOrder client number) l h = none client number h
  none_falling before none cause l h = before cause (omega (arith, l)) h

  pub none_named : NoneOfFirst 10 run → HoldsNowhere (NamesHome (database_of run.population).subscribers run.closed) → NoneOfFirst 11 run
  none_named before none (HasHome client number) l h = none client number h
  none_named before none cause l h = before cause (omega (arith, l)) h

  -- ---- the first of a kind
  pub first_mixed : (e : ℕ) → Holds run (Mixed e) → ((other : ℕ) → other < e → Holds run (Mixed other) → ⊥) → IsFirstCause run (Mixed e)
  first_mixed e holds least = record { holds = holds; first = first }
    where
      first : (other : Unsettled) → StandsBefore other (Mixed e) → Holds run other → ⊥
      first (Mixed f) b h = least f (lower f e b) h
      first other b h = let l = no_later (kind_of other) 0 (details other) (e ∷ []) b in omega (arith, l)

  pub first_left : (e : ℕ) → NoneOfFirst 1 run → Holds run (ParcelLeft e) → ((other : ℕ) → other < e → Holds run (ParcelLeft other) → ⊥) → IsFirstCause run (ParcelLeft e)
  first_left e none holds least = record { holds = holds; first = first }
    where
      first : (other : Unsettled) → StandsBefore other (ParcelLeft e) → Holds run other → ⊥
      first (ParcelLeft f) b h = least f (lower f e b) h
      first other b h = let l = no_later (kind_of other) 1 (details other) (e ∷ []) b in none other (omega (arith, l)) h

  pub first_doubled : (e : ℕ) → NoneOfFirst 2 run → Holds run (Doubled e) → ((other : ℕ) → other < e → Holds run (Doubled other) → ⊥) → IsFirstCause run (Doubled e)
  first_doubled e none holds least = record { holds = holds; first = first }
    where
      first : (other : Unsettled) → StandsBefore other (Doubled e) → Holds run other → ⊥
      first (Doubled f) b h = least f (lower f e b) h
      first other b h = let l = no_later (kind_of other) 2 (details other) (e ∷ []) b in none other (omega (arith, l)) h

  pub first_missing : (e i : ℕ) → NoneOfFirst 3 run → IsLeastCall (IsChapterMissing run.closed) e i → IsFirstCause run (ChapterMissing e i)
  first_missing e i none least = record { holds = least.holds; first = first }
    where
      first : (other : Unsettled) → StandsBefore other (ChapterMissing e i) → Holds run other → ⊥
      first (ChapterMissing f j) b h = least.least f j (sooner f j e i b) h
      first other b h = let l = no_later (kind_of other) 3 (details other) (e ∷ i ∷ []) b in none other (omega (arith, l)) h

  pub first_twice : (e i : ℕ) → NoneOfFirst 4 run → IsLeastCall (IsChapterTwice run.closed) e i → IsFirstCause run (ChapterTwice e i)
  first_twice e i none least = record { holds = least.holds; first = first }
    where
      first : (other : Unsettled) → StandsBefore other (ChapterTwice e i) → Holds run other → ⊥
      first (ChapterTwice f j) b h = least.least f j (sooner f j e i b) h
      first other b h = let l = no_later (kind_of other) 4 (details other) (e ∷ i ∷ []) b in none other (omega (arith, l)) h

  pub first_unjoined : (e i : ℕ) → NoneOfFirst 5 run → IsLeastCall (IsUnjoined run.population run.closed) e i → IsFirstCause run (ChapterDiffers e i)
  first_unjoined e i none least = record { holds = least.holds; first = first }
    where
      first : (other : Unsettled) → StandsBefore other (ChapterDiffers e i) → Holds run other → ⊥
      first (ChapterDiffers f j) b h = least.least f j (sooner f j e i b) h
      first other b h = let l = no_later (kind_of other) 5 (details other) (e ∷ i ∷ []) b in none other (omega (arith, l)) h

  pub first_unmatched : (client number : ℕ) → NoneOfFirst 6 run → IsLeastCall (IsUnmatched run.calls run.receipts) client number → IsFirstCause run (CallMissing client number)
  first_unmatched client number none least = record { holds = least.holds; first = first }
    where
      first : (other : Unsettled) → StandsBefore other (CallMissing client number) → Holds run other → ⊥
      first (CallMissing c n) b h = least.least c n (sooner c n client number b) h
      first other b h = let l = no_later (kind_of other) 6 (details other) (client ∷ number ∷ []) b in none other (omega (arith, l)) h

  pub first_too_many : (client number : ℕ) → NoneOfFirst 7 run → IsLeastCall (HasEntryTooMany run.closed run.receipts) client number → IsFirstCause run (ReceiptMissing client number)
  first_too_many client number none least = record { holds = least.holds; first = first }
    where
      first : (other : Unsettled) → StandsBefore other (ReceiptMissing client number) → Holds run other → ⊥
      first (ReceiptMissing c n) b h = least.least c n (sooner c n client number b) h
      first other b h = let l = no_later (kind_of other) 7 (details other) (client ∷ number ∷ []) b in none other (omega (arith, l)) h

  pub first_differing : (client number : ℕ) → NoneOfFirst 8 run → IsLeastCall (Differs run.closed run.calls run.receipts) client number → IsFirstCause run (ReplyDiffers client number)
  first_differing client number none least = record { holds = least.holds; first = first }
    where
      first : (other : Unsettled) → StandsBefore other (ReplyDiffers client number) → Holds run other → ⊥
      first (ReplyDiffers c n) b h = least.least c n (sooner c n client number b) h
      first other b h = let l = no_later (kind_of other) 8 (details other) (client ∷ number ∷ []) b in none other (omega (arith, l)) h

  pub first_falling : (client number : ℕ) → NoneOfFirst 9 run → IsLeastCall (StampFalls run.receipts) client number → IsFirstCause run (StampOrder client number)
  first_falling client number none least = record { holds = least.holds; first = first }
    where
      first : (other : Unsettled) → StandsBefore other (StampOrder client number) → Holds run other → ⊥
      first (StampOrder c n) b h = least.least c n (sooner c n client number b) h
      first other b h = let l = no_later (kind_of other) 9 (details other) (client ∷ number ∷ []) b in none other (omega (arith, l)) h

  pub first_named : (client number : ℕ) → NoneOfFirst 10 run → IsLeastCall (NamesHome (database_of run.population).subscribers run.closed) client number → IsFirstCause run (HasHome client number)
  first_named client number none least = record { holds = least.holds; first = first }
    where
      first : (other : Unsettled) → StandsBefore other (HasHome client number) → Holds run other → ⊥
      first (HasHome c n) b h = least.least c n (sooner c n client number b) h
      first other b h = let l = no_later (kind_of other) 10 (details other) (client ∷ number ∷ []) b in none other (omega (arith, l)) h

  pub first_audit : (verdict : Verdict) → NoneOfFirst 11 run → Holds run (Audit verdict) → IsFirstCause run (Audit verdict)
  first_audit verdict none holds = record { holds = holds; first = first }
    where
      first : (other : Unsettled) → StandsBefore other (Audit verdict) → Holds run other → ⊥
      first (Audit v) b h = absurd (let e : Equal ≡ Less = b in cc)
      first other b h = let l = no_later (kind_of other) 11 (details other) [] b in none other (omega (arith, l)) h
