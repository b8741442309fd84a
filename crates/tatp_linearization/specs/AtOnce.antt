-- Just-in-time linearization in which a call that changes nothing takes effect as soon as its reply
-- fits, so that only the others are tried.
use Rattle.std.specs.Prelude.{◌≡◌, ℕ, zero, suc, ◌⊎◌, true, false, List, [], ◌∷◌, length}
use Rattle.std.specs.List.{AllByRecursion}
use Rattle.tatp_tables.specs.Database.{Database}
use Rattle.tatp_calls.specs.Transactions.{transaction}
use Rattle.tatp_history.specs.declared.event.Event.{Event}
use Rattle.tatp_history.specs.declared.event.Event.TheVariants.{Asks, Ends}
use Rattle.tatp_history.specs.declared.observed.Observed.{Observed}
use Rattle.tatp_history.specs.Histories.{MayHaveReply}
use Rattle.tatp_history.specs.Changes.{changes_nothing}
use Rattle.tatp_history.specs.Outcomes.{may_take_effect}
use Rattle.tatp_history.specs.JustInTime.{Chooses, NoneAskedAt}
use Rattle.tatp_history.specs.Configurations.{Configuration}

-- a call that changes nothing, and whose reply on these rows is one with which it may have ended
abbrev pub FitsAtOnce : Database → Observed → Type 0
FitsAtOnce u x = (changes_nothing x ≡ true) × MayHaveReply x.outcome (transaction x.call u).reply

-- `left` are the open calls without such calls
abbrev pub AreLeft : Database → List Observed → List Observed → Type 0
AreLeft u [] left = left ≡ []
AreLeft u (x ∷ more) left =
    (FitsAtOnce u x × AreLeft u more left)
    ⊎ ((FitsAtOnce u x → ⊥) × ((rest : List Observed) × (left ≡ x ∷ rest) × AreLeft u more rest))

-- where the call is such a call `Taken` holds, and else `Kept`
abbrev pub IsSettledAt : Database → Observed → Type 0 → Type 0 → Type 0
IsSettledAt u x Taken Kept = (FitsAtOnce u x × Taken) ⊎ ((FitsAtOnce u x → ⊥) × Kept)

-- no such call is open
abbrev pub IsSettled : Configuration → Type 0
IsSettled c = AllByRecursion (λ (x : Observed). FitsAtOnce c.rows x → ⊥) c.opened

-- a call that needn't be open: it was aborted, or it is such a call
abbrev pub NeedsNoPlace : Database → Observed → Type 0
NeedsNoPlace u x = (may_take_effect x.outcome ≡ false) ⊎ FitsAtOnce u x

-- the second is the first after an open call that writes took effect, and after it those that
-- change nothing and whose reply fits the new rows
pub record TakesWrite (c d : Configuration) (x : Observed) (left : List Observed) : Type 0 where
  pub chosen : Chooses c.opened x left
  pub writes : changes_nothing x ≡ false
  pub may : MayHaveReply x.outcome (transaction x.call c.rows).reply
  pub rows : d.rows ≡ (transaction x.call c.rows).database
  pub settled : AreLeft (transaction x.call c.rows).database left d.opened

abbrev pub TakesOne : Configuration → Configuration → Type 0
TakesOne c d = (x : Observed) × (left : List Observed) × TakesWrite c d x left

-- the second is the first after open calls that write took effect one after another, at most this
-- many, until the call that was asked at this time wasn't open any more
abbrev pub TakeUntil : ℕ → ℕ → Configuration → Configuration → Type 0
TakeUntil zero asked c d = ⊥
TakeUntil (suc n) asked c d =
    (e : Configuration) × TakesOne c e
    × ((NoneAskedAt asked e.opened × (d ≡ e))
    ⊎ ((NoneAskedAt asked e.opened → ⊥) × TakeUntil n asked e d))

-- the second configuration may follow on the first at the event
abbrev pub FollowsAtOnce : Event → Configuration → Configuration → Type 0
FollowsAtOnce (Asks x) c d =
    (NeedsNoPlace c.rows x × (d ≡ c))
    ⊎ ((NeedsNoPlace c.rows x → ⊥) × (d ≡ record { rows = c.rows; opened = x ∷ c.opened }))
FollowsAtOnce (Ends asked at) c d =
    (NoneAskedAt asked c.opened × (d ≡ c))
    ⊎ ((NoneAskedAt asked c.opened → ⊥) × TakeUntil (length c.opened) asked c d)
