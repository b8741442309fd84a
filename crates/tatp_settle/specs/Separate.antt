-- Logs of separate extents of a database, and where a history of all of them leads.
use Rattle.std.specs.Prelude.{◌≡◌, ℕ, zero, suc, List, [], ◌∷◌, map, None, Some, slice_get}
use Rattle.tatp_tables.specs.Database.{Database}
use Rattle.tatp_homes.specs.Home.{SubscriberRows, home_in}
use Rattle.tatp_numbers.specs.declared.key.Key.{Key}
use Rattle.tatp_numbers.specs.Homes.{home_of_key}
use Rattle.tatp_calls.specs.declared.ask.Ask.TheVariants.{Txn}
use Rattle.tatp_calls.specs.declared.call.Call.{Call}
use Rattle.tatp_calls.specs.declared.entry.Entry.{Entry}
use Rattle.tatp_calls.specs.declared.reply.Reply.TheVariants.{Failed}
use Rattle.tatp_calls.specs.Calls.{key_of_call}
use Rattle.tatp_procs.specs.Consistent.{IsConsistent}
use Rattle.tatp_extents.specs.Histories.{Leads}
use Rattle.tatp_settle.specs.Merging.{PlacedEntry, IsAnsweredInOrder}

-- whose homes are in each extent, and its last homes; extent 0 has none
pub record Parts : Type 0 where
  pub ids : ℕ → List ℕ
  pub last : ℕ → List SubscriberRows

-- different places are of different subscribers
abbrev pub AreSeparate : Parts → Type 0
AreSeparate parts =
    (e e' i j s : ℕ)
    → slice_get (parts.ids e) i ≡ Some s → slice_get (parts.ids e') j ≡ Some s
    → (e ≡ e') × (i ≡ j)

-- the homes of an extent in a database
abbrev pub homes_at : Parts → Database → ℕ → List SubscriberRows
homes_at parts u e = map (home_in u) (parts.ids e)

-- a logged call whose key names no subscriber of the database
pub record FindsNone (u : Database) (entry : Entry) : Type 0 where
  pub call : Call
  pub asked : entry.ask ≡ Txn call
  pub none : home_of_key u.subscribers (key_of_call call) ≡ None
  pub reply : entry.reply ≡ Failed 1

abbrev pub AllFindNone : Database → List Entry → Type 0
AllFindNone u [] = Unit {0}
AllFindNone u (entry ∷ more) = FindsNone u entry × AllFindNone u more

-- the log of an extent leads from its homes in the database to its last; the calls in that of
-- extent 0 find no subscriber
abbrev pub LogAt : Parts → Database → ℕ → List Entry → Type 0
LogAt parts u zero log = AllFindNone u log
LogAt parts u (suc e) log = Leads (homes_at parts u (suc e)) log (parts.last (suc e))

abbrev pub LogsAt : Parts → Database → List (List Entry) → Type 0
LogsAt parts u logs = (e : ℕ) (log : List Entry) → slice_get logs e ≡ Some log → LogAt parts u e log

-- the extents that have a log end with their last homes in the database
abbrev pub HaveLast : Parts → List (List Entry) → Database → Type 0
HaveLast parts logs after =
    (e : ℕ) (log : List Entry) → slice_get logs (suc e) ≡ Some log
    → parts.last (suc e) ≡ homes_at parts after (suc e)

-- the history is one of transactions from the database to one with the last homes, where each key
-- names the subscriber that it named
pub record LeadsToLast (parts : Parts) (before : Database) (logs : List (List Entry))
    (history : List PlacedEntry) : Type 0 where
  pub after : Database
  pub consistent : IsConsistent after
  pub answered : IsAnsweredInOrder before history after
  pub homes : HaveLast parts logs after
  pub keys : (key : Key) → home_of_key after.subscribers key ≡ home_of_key before.subscribers key
