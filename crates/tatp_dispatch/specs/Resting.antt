-- The system of one client, in which nothing moves and nothing is stopped.
use Rattle.std.specs.Prelude.{◌≡◌, ℕ, ◌≤◌, false, List, [], ◌∷◌, Option, None, Some, IfErr, Result, Err, slice_get}
use Rattle.std.specs.Option.{option_map_or}
use Rattle.tatp_calls.specs.declared.domains.BadArgument.{BadArgument as Bad}
use Rattle.tatp_calls.specs.declared.reply.Reply.{Reply}
use Rattle.tatp_events.specs.declared.refusal.Refusal.{Refusal}
use Rattle.tatp_events.specs.declared.refusal.Refusal.TheVariants.{BadArgument, NoMemory}
use Rattle.tatp_extents.specs.Extents.{ExtentState, last_stamp_of}
use Rattle.tatp_partition.specs.Sites.{SiteState, slot, last_stamp_here}
use Rattle.tatp_dispatch.specs.declared.client.Client.{Client}
use Rattle.tatp_dispatch.specs.Worlds.{WorldState}

-- the last stamp of the extent of this number, 0 where it isn't among these
abbrev pub last_stamp_in : List (Option ExtentState) → ℕ → ℕ
last_stamp_in slots e = option_map_or last_stamp_of (slot slots e) 0

-- the site isn't stopped, no breakpoint is set, and no stamp in its logs is greater than this
pub record IsUndisturbed (most_stamp : ℕ) (s : SiteState) : Type 0 where
  pub goes : s.stopped ≡ false
  pub no_breakpoint : s.breakpoints ≡ []
  pub stamps : (e : ℕ) → last_stamp_in s.slots e ≤ most_stamp
  pub homeless_stamp : last_stamp_here s None ≤ most_stamp

-- there is one client, with at most `most_accepted` calls accepted, and neither a parcel nor a
-- landing is in hand
pub record HasOneClient (most_accepted most_stamp : ℕ) (w : WorldState) : Type 0 where
  pub client : Client
  pub alone : w.clients ≡ client ∷ []
  pub accepted : client.accepted ≤ most_accepted
  pub seen : client.seen ≤ most_stamp
  pub sites : (p : ℕ) (s : SiteState) → slice_get w.sites p ≡ Some s → IsUndisturbed most_stamp s
  pub parcels : (e : ℕ) → slot w.parcels e ≡ None
  pub landings : w.landings ≡ []

-- the same after at most `calls` calls, of which none is under way
pub record IsAtRest (calls : ℕ) (w : WorldState) : Type 0 where
  pub one : HasOneClient calls calls w
  pub idle : one.client.is_busy ≡ false

-- what becomes of a call from rest, by its first argument outside its domain: with such an argument
-- it is refused for that; without one it ends, or is refused memory
abbrev pub IsOutcomeAtRest : Option Bad → Result Reply Refusal → Type 0
IsOutcomeAtRest (Some bad) outcome = outcome ≡ Err (BadArgument bad)
IsOutcomeAtRest None outcome = IfErr outcome (λ refusal. refusal ≡ NoMemory)
