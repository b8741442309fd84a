-- Open calls that may be left out: what they set was set again after they were asked, so they may
-- have taken effect right before that.
use Rattle.std.specs.Prelude.{◌≡◌, ℕ, ◌<◌, ◌⊎◌, nat_le, if◌then◌else◌, is_some, true, List, [], ◌∷◌, Some, slice_get}
use Rattle.std.specs.List.{AllByRecursion}
use Rattle.tatp_tables.specs.Keys.{row_at, row_with_number}
use Rattle.tatp_tables.specs.Database.{Database}
use Rattle.tatp_calls.specs.declared.call.Call.TheVariants.{UpdateSubscriberData, UpdateLocation}
use Rattle.tatp_calls.specs.declared.call.Call.{Call}
use Rattle.tatp_calls.specs.declared.reply.Reply.TheVariants.{Values}
use Rattle.tatp_calls.specs.Transactions.{transaction}
use Rattle.tatp_history.specs.declared.observed.Observed.{Observed}
use Rattle.tatp_history.specs.Histories.{MayHaveReply}

-- ---- calls that set columns, whatever these held
-- the call sets the location of a subscriber that is there
pub record SetsLocation (u : Database) (call : Call) : Type 0 where
  pub number : ℕ
  pub location : ℕ
  pub updates : call ≡ UpdateLocation number location
  pub named : is_some (row_with_number u.subscribers number) ≡ true

-- the call sets bit_1 of a subscriber and data_a of a facility, and both are there
pub record SetsBoth (u : Database) (call : Call) : Type 0 where
  pub s_id : ℕ
  pub bit : ℕ
  pub sf_type : ℕ
  pub value : ℕ
  pub updates : call ≡ UpdateSubscriberData s_id bit sf_type value
  pub subscriber : is_some (row_at u.subscribers (s_id ∷ [])) ≡ true
  pub facility : is_some (row_at u.facilities (s_id ∷ sf_type ∷ [])) ≡ true

-- the call does one of these, and may have been answered with success
pub record IsBlind (u : Database) (x : Observed) : Type 0 where
  pub sets : SetsLocation u x.call ⊎ SetsBoth u x.call
  pub may : MayHaveReply x.outcome (Values [])

-- ---- what is set again
-- both calls set the location of one number's subscriber
pub record SetOneLocation (x z : Call) : Type 0 where
  pub number : ℕ
  pub location : ℕ
  pub other : ℕ
  pub first : x ≡ UpdateLocation number location
  pub second : z ≡ UpdateLocation number other

-- both calls set bit_1 of one subscriber and data_a of one facility
pub record SetOneBoth (x z : Call) : Type 0 where
  pub s_id : ℕ
  pub sf_type : ℕ
  pub bit : ℕ
  pub value : ℕ
  pub other_bit : ℕ
  pub other_value : ℕ
  pub first : x ≡ UpdateSubscriberData s_id bit sf_type value
  pub second : z ≡ UpdateSubscriberData s_id other_bit sf_type other_value

-- where it succeeds the first call sets all that the second one does
abbrev pub Overwrites : Call → Call → Type 0
Overwrites x z = SetOneLocation x z ⊎ SetOneBoth x z

-- on these rows the call changes nothing
abbrev pub IsIdle : Database → Call → Type 0
IsIdle u call = (transaction call u).database ≡ u

-- where the first call takes effect on these rows the second may have done so at that time without
-- being seen: right before, since the first sets all that it does, or right after, since it changes
-- nothing then
abbrev pub IsNeedless : Database → Call → Call → Type 0
IsNeedless u x z = Overwrites x z ⊎ IsIdle (transaction x u).database z

-- ---- what may be left out
-- `left` are the calls without some that were asked before this time, and of which this holds
abbrev pub AreButSome : (Observed → Type 0) → ℕ → List Observed → List Observed → Type 0
AreButSome Free before [] left = left ≡ []
AreButSome Free before (x ∷ more) left =
    ((rest : List Observed) × (left ≡ x ∷ rest) × AreButSome Free before more rest)
    ⊎ ((x.asked < before) × Free x × AreButSome Free before more left)

-- the earlier of two times
abbrev pub earlier : ℕ → ℕ → ℕ
earlier time other = if nat_le time other then time else other

-- of these calls, those that were asked before the time `first` and may be left out were asked
-- before the other time, or a call that takes effect makes them needless
abbrev pub AreOut : Database → Call → ℕ → ℕ → List Observed → Type 0
AreOut u x before first calls = AllByRecursion (λ (z : Observed). z.asked < first → IsBlind u z
    → (z.asked < before) ⊎ IsNeedless u x z.call) calls

-- the time is that of one that a call doesn't overwrite, or the last of all
abbrev pub IsFirst : Database → Call → ℕ → List Observed → Type 0
IsFirst u x first calls = (first ≡ 18446744073709551615)
    ⊎ ((i : ℕ) × (z : Observed) × (slice_get calls i ≡ Some z) × (z.asked ≡ first)
    × IsBlind u z × (Overwrites x z.call → ⊥))
