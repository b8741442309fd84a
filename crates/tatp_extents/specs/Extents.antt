-- Extents: the homes of some subscribers in a row.
use Rattle.std.specs.Prelude.{◌≡◌, ℕ, ◌+◌, ◌*◌, ◌-◌, ◌/◌, ◌<◌, ◌≤◌, ◌==◌, nat_lt, Bool, true, false, if◌then◌else◌, List, [], ◌∷◌, ◌++◌, length, map, find, Option, None, slice_get, slice_set, refl}
use Rattle.std.specs.List.{range_with_len}
use Rattle.std.specs.Option.{option_map_or}
use Rattle.std.specs.Coded.{Coded, code_by, coded×, coded_ℕ, coded_bool, coded_list}
use Rattle.tatp_limits.specs.declared.limits.TheConstants.{EXTENT_SUBSCRIBERS}
use Rattle.tatp_homes.specs.Home.{SubscriberRows, subscriber_rows_code}
use Rattle.tatp_calls.specs.declared.entry.Entry.{Entry}
use Rattle.tatp_calls.specs.contracts.entry.Entry as entry
use Rattle.tatp_logs.specs.Logs.{last_stamp_from}
use Rattle.tatp_extents.specs.Histories.{IsHistory}

-- what contracts see of an extent: how many chapters it handed out, and of its last checkpoint, or
-- of its opening before the first, the last stamp and the homes
pub record ExtentState : Type 0 where
  pub number : ℕ
  pub moves : ℕ
  pub mixed : Bool
  pub chapters : ℕ
  pub kept_stamp : ℕ
  pub opening : List SubscriberRows
  pub homes : List SubscriberRows
  pub log : List Entry

abbrev pub extent_state_code : Coded ExtentState
extent_state_code =
    let homes = coded_list subscriber_rows_code in
    let entries = coded_list entry.the_row.coded in
    code_by
    (ℕ × (ℕ × (Bool × (ℕ × (ℕ × (List SubscriberRows × (List SubscriberRows × List Entry)))))))
    (coded× coded_ℕ (coded× coded_ℕ (coded× coded_bool (coded× coded_ℕ (coded× coded_ℕ
    (coded× homes (coded× homes entries)))))))
    (λ x.
    (x.number, (x.moves, (x.mixed, (x.chapters, (x.kept_stamp, (x.opening, (x.homes, x.log))))))))
    (λ p. record {
      number = p.0;
      moves = p.1.0;
      mixed = p.1.1.0;
      chapters = p.1.1.1.0;
      kept_stamp = p.1.1.1.1.0;
      opening = p.1.1.1.1.1.0;
      homes = p.1.1.1.1.1.1.0;
      log = p.1.1.1.1.1.1.1;
    })
    (λ _. refl)

-- the last stamp of an extent, 0 before the first
abbrev pub last_stamp_of : ExtentState → ℕ
last_stamp_of x = last_stamp_from x.kept_stamp x.log

-- the first subscriber of extent e
abbrev pub first_subscriber : ℕ → ℕ
first_subscriber e = EXTENT_SUBSCRIBERS * (e - 1) + 1

-- whose homes these are
abbrev pub s_ids : List SubscriberRows → List ℕ
s_ids homes = map (λ home. home.s_id) homes

-- the home of a subscriber, if it is one of these
abbrev pub home_among : ℕ → List SubscriberRows → Option SubscriberRows
home_among s homes = find (λ home. home.s_id == s) homes

-- these are homes of extent e, some of them, at one time and at a later: of its first subscriber
-- and those that follow
pub record AreHomesOfExtent (e : ℕ) (opening homes : List SubscriberRows) : Type 0 where
  pub numbered : 1 ≤ e
  pub least : 1 ≤ length homes
  pub most : length homes ≤ EXTENT_SUBSCRIBERS
  pub in_order : s_ids homes ≡ range_with_len (first_subscriber e) (length homes)
  pub same : s_ids opening ≡ s_ids homes

-- where the extent isn't mixed, its log is the history of its homes since the last checkpoint
abbrev pub KeepsHistory : ExtentState → Type 0
KeepsHistory x = x.mixed ≡ false → IsHistory x.kept_stamp x.opening x.log x.homes

-- what holds of every extent
pub record IsExtent (x : ExtentState) : Type 0 where
  pub of_extent : AreHomesOfExtent x.number x.opening x.homes
  pub history : KeepsHistory x

-- a subscriber lies in an extent
abbrev pub LiesIn : ℕ → ExtentState → Type 0
LiesIn s x = (first_subscriber x.number ≤ s) × (s < first_subscriber x.number + length x.homes)

-- in which extent a subscriber lies
abbrev pub extent_of : ℕ → ℕ
extent_of s = (s + (EXTENT_SUBSCRIBERS - 1)) / EXTENT_SUBSCRIBERS

-- the place of a subscriber in extent e
abbrev pub place_in : ℕ → ℕ → ℕ
place_in e s = s - first_subscriber e

-- the home in the place of a subscriber, where the extent has that place
abbrev pub home_at : ExtentState → ℕ → Option SubscriberRows
home_at x s =
    if nat_lt s (first_subscriber x.number) then None else slice_get x.homes (place_in x.number s)

-- the extent with this home in the place of subscriber s
abbrev pub with_home_at : ExtentState → ℕ → SubscriberRows → ExtentState
with_home_at x s home = record x { homes = slice_set x.homes (place_in x.number s) home }

-- the extent with one more entry in its log
abbrev pub with_entry : ExtentState → Entry → ExtentState
with_entry x entry = record x { log = x.log ++ entry ∷ [] }

-- the extent, mixed
abbrev pub as_mixed : ExtentState → ExtentState
as_mixed x = record x { mixed = true }
