-- Lowe's search, just in time: it follows the events of one subscriber's calls, and calls take
-- effect only where one is answered.
use Rattle.std.specs.Prelude.{◌≡◌, ℕ, zero, suc, ◌⊎◌, List, [], ◌∷◌, length}
use Rattle.std.specs.List.{AllByRecursion}
use Rattle.tatp_tables.specs.Database.{Database}
use Rattle.tatp_calls.specs.Transactions.{transaction}
use Rattle.tatp_history.specs.declared.event.Event.{Event}
use Rattle.tatp_history.specs.declared.event.Event.TheVariants.{Asks, Ends}
use Rattle.tatp_history.specs.declared.observed.Observed.{Observed}
use Rattle.tatp_history.specs.Histories.{IsIn, IsAnswered, AreAskedApart, MayHaveReply}
use Rattle.tatp_history.specs.Events.{AreAfter, EndsIn, EndsFit}

-- the call is one of these, and `left` are the others
abbrev pub Chooses : List Observed → Observed → List Observed → Type 0
Chooses [] x left = ⊥
Chooses (y ∷ ys) x left =
    ((x ≡ y) × (left ≡ ys)) ⊎ ((more : List Observed) × (left ≡ y ∷ more) × Chooses ys x more)

-- none of the open calls was asked at the time
abbrev pub NoneAskedAt : ℕ → List Observed → Type 0
NoneAskedAt time opened = AllByRecursion (λ (x : Observed). x.asked ≡ time → ⊥) opened

-- open calls take effect one after another, at most this many, the last of them the one that was
-- asked at this time; and `goes_on` holds of the database and the open calls after that
abbrev pub TakeEffect
    : ℕ → (Database → List Observed → Type 0) → ℕ → Database → List Observed → Type 0
TakeEffect zero goes_on asked u opened = ⊥
TakeEffect (suc n) goes_on asked u opened =
    (x : Observed) × (left : List Observed) × Chooses opened x left
    × MayHaveReply x.outcome (transaction x.call u).reply
    × (((x.asked ≡ asked) × goes_on (transaction x.call u).database left)
    ⊎ ((x.asked ≡ asked → ⊥) × TakeEffect n goes_on asked (transaction x.call u).database left))

-- from the database on, with these calls open, the search goes through the events
abbrev pub Explains : List Event → Database → List Observed → Type 0
Explains [] u opened = Unit {0}
Explains (Asks x ∷ more) u opened = Explains more u (x ∷ opened)
Explains (Ends asked at ∷ more) u opened =
    (NoneAskedAt asked opened × Explains more u opened)
    ⊎ TakeEffect (length opened) (Explains more) asked u opened

-- each open call that was answered has its end in the events, and each end there of an open call is
-- the one it had. The open calls were asked before the events, no two at one time
pub record AreOpen (events : List Event) (opened : List Observed) : Type 0 where
  pub ends : (z : Observed) → IsIn z opened → IsAnswered z.outcome → EndsIn z events
  pub fit : (z : Observed) → IsIn z opened → EndsFit z events
  pub before : (z : Observed) → IsIn z opened → AreAfter z.asked events
  pub apart : AreAskedApart opened
