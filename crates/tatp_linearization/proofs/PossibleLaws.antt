-- What the search keeps and tries is possible.
use Rattle.std.proofs.Common.{◌≡◌, ℕ, zero, suc, Bool, true, false, cond, List, [], ◌∷◌, ◌++◌, length, refl, sym, ◌∙◌, ap, subst, inl, inr}
use Rattle.std.proofs.lemmas.List.{append-nil}
use Rattle.tatp_tables.specs.Database.{Database}
use Rattle.tatp_calls.specs.Transactions.{transaction}
use Rattle.tatp_history.specs.declared.event.Event.{Event}
use Rattle.tatp_history.specs.declared.event.Event.TheVariants.{Asks, Ends}
use Rattle.tatp_history.specs.declared.observed.Outcome.{Outcome}
use Rattle.tatp_history.specs.declared.observed.Outcome.TheVariants.{Answered, Aborted, Unknown}
use Rattle.tatp_history.specs.declared.observed.Observed.{Observed}
use Rattle.tatp_history.specs.Histories.{MayHaveReply}
use Rattle.tatp_history.specs.Outcomes.{may_take_effect}
use Rattle.tatp_history.specs.JustInTime.{NoneAskedAt}
use Rattle.tatp_history.specs.Configurations.{Configuration, starting}
use Rattle.tatp_history.proofs.ChangeLaws.{unchanged}
use Rattle.tatp_history.proofs.OrderLaws.{all_map}
use Rattle.tatp_linearization.specs.declared.configuration.Configuration.{Configuration as Held}
use Rattle.tatp_linearization.specs.AtOnce.{FitsAtOnce, AreLeft, IsSettled, TakesOne, TakeUntil, FollowsAtOnce}
use Rattle.tatp_linearization.specs.Possible.{CallTakesEffect, CallsTakeEffect, Passes, MayBecome, AreMoreThan, IsPossible, NeedMore}
use Rattle.tatp_linearization.specs.Held.{TakeMany}
use Rattle.tatp_linearization.specs.Covering.{OneStandsFor, FromOne, MayCome, MayFollow, MayBeTried}
use Rattle.tatp_linearization.proofs.SettlingLaws.{chooses_mid, shift}
use Rattle.tatp_linearization.proofs.AtOnceLaws.{LeadAtOnce, one_settled, event_settled}

pub more_than : (most : ℕ) (P R : Configuration → Type 0) → ((d : Configuration) → P d → R d) → AreMoreThan most P → AreMoreThan most R
more_than most P R f p = record { some = p.some; many = p.many; distinct = p.distinct; hold = all_map P R f p.some p.hold }

-- ---- calls that take effect
abbrev pub SomeTakeEffect : Configuration → Configuration → Type 0
SomeTakeEffect c d = (n : ℕ) × CallsTakeEffect n c d

calls_on : (m : ℕ) (c d e : Configuration) → CallsTakeEffect m c d → SomeTakeEffect d e → SomeTakeEffect c e
calls_on zero c d e first second = subst (λ (b : Configuration). SomeTakeEffect b e) first second
calls_on (suc m) c d e first second = let rest = calls_on m first.0 d e first.2 second in (suc rest.0, (first.0, first.1, rest.1))

pub some_on : (c d e : Configuration) → SomeTakeEffect c d → SomeTakeEffect d e → SomeTakeEffect c e
some_on c d e first second = calls_on first.0 c d e first.1 second

pub one_call : (c d : Configuration) → CallTakesEffect c d → SomeTakeEffect c d
one_call c d h = (1, (d, h, refl))

-- a call that changes nothing takes effect, and leaves the rows
pub unchanging_call : (u : Database) (opened left : List Observed) (x : Observed) → FitsAtOnce u x → ((d : Configuration) → d ≡ record { rows = (transaction x.call u).database; opened = left } → CallTakesEffect (record { rows = u; opened = opened }) d)
    → SomeTakeEffect (record { rows = u; opened = opened }) (record { rows = u; opened = left })
unchanging_call u opened left x f takes =
    let same = unchanged x f.0 u f.1 in
    one_call (record { rows = u; opened = opened }) (record { rows = u; opened = left }) (takes (record { rows = u; opened = left }) (λ i. record { rows = sym same i; opened = left }))

unchanging_take : (u : Database) (before xs left : List Observed) → AreLeft u xs left → SomeTakeEffect (record { rows = u; opened = before ++ xs }) (record { rows = u; opened = before ++ left })
unchanging_take u before [] left a = (0, λ i. record { rows = u; opened = before ++ a i })
unchanging_take u before (x ∷ xs) left a = elim a [
  | inl k ↦ some_on (record { rows = u; opened = before ++ x ∷ xs }) (record { rows = u; opened = before ++ xs }) (record { rows = u; opened = before ++ left })
      (unchanging_call u (before ++ x ∷ xs) (before ++ xs) x k.0 (λ d e. (x, before ++ xs, chooses_mid before xs x, k.0.1, e)))
      (unchanging_take u before xs left k.1)
  | inr k ↦
      subst (λ zs. SomeTakeEffect (record { rows = u; opened = zs }) (record { rows = u; opened = before ++ left })) (sym (shift before x xs))
      (subst (λ zs. SomeTakeEffect (record { rows = u; opened = (before ++ x ∷ []) ++ xs }) (record { rows = u; opened = zs })) (sym (shift before x k.1.0) ∙ ap (λ zs. before ++ zs) (sym k.1.1))
      (unchanging_take u (before ++ x ∷ []) xs k.1.0 k.1.2))
]

pub one_takes : (c d : Configuration) → TakesOne c d → SomeTakeEffect c d
one_takes c d h =
    let v : Database = (transaction h.0.call c.rows).database in
    let mid : Configuration = record { rows = v; opened = h.1 } in
    let end : record { rows = v; opened = d.opened } ≡ d = λ i. record { rows = sym h.2.rows i; opened = d.opened } in
    some_on c mid d (one_call c mid (h.0, h.1, h.2.chosen, h.2.may, refl)) (subst (SomeTakeEffect mid) end (unchanging_take v [] h.1 d.opened h.2.settled))

pub until_takes : (n asked : ℕ) (c d : Configuration) → TakeUntil n asked c d → SomeTakeEffect c d × NoneAskedAt asked d.opened
until_takes zero asked c d h = absurd h
until_takes (suc n) asked c d h = elim h.2 [
  | inl k ↦ (subst (SomeTakeEffect c) (sym k.1) (one_takes c h.0 h.1), subst (λ (b : Configuration). NoneAskedAt asked b.opened) (sym k.1) k.0)
  | inr k ↦ let rest = until_takes n asked h.0 d k.1 in (some_on c h.0 d (one_takes c h.0 h.1) rest.0, rest.1)
]

many_take : (n : ℕ) (c d : Configuration) → IsSettled c → TakeMany n c d → SomeTakeEffect c d × IsSettled d
many_take zero c d settled h = ((0, h), subst IsSettled (sym h) settled)
many_take (suc n) c d settled h = let rest = many_take n h.0 d (one_settled c h.0 h.1) h.2 in (some_on c h.0 d (one_takes c h.0 h.1) rest.0, rest.1)

-- ---- events
becomes_on : (past : List Event) (c d e : Configuration) → MayBecome past c d → SomeTakeEffect d e → MayBecome past c e
becomes_on [] c d e may more = some_on c d e may more
becomes_on (event ∷ past) c d e may more = (may.0, may.1, may.2, may.3, may.4, becomes_on past may.3 d e may.5 more)

becomes_passed : (past : List Event) (event : Event) (c d e : Configuration) → MayBecome past c d → Passes event d e → MayBecome (past ++ event ∷ []) c e
becomes_passed [] event c d e may passes = (may.0, d, may.1, e, passes, (0, refl))
becomes_passed (first ∷ past) event c d e may passes = (may.0, may.1, may.2, may.3, may.4, becomes_passed past event may.3 d e may.5 passes)

no_abort : (outcome : Outcome) (x : Observed) (u : Database) → MayHaveReply outcome (transaction x.call u).reply → may_take_effect outcome ≡ true
no_abort (Answered at recorded) x u h = refl
no_abort (Aborted at) x u h = absurd h
no_abort Unknown x u h = refl

not_false : (b : Bool) → (b ≡ false → ⊥) → b ≡ true
not_false true n = refl
not_false false n = absurd (n refl)

asked_passes : (x : Observed) (c : Configuration) (b : Bool) → may_take_effect x.outcome ≡ b → Passes (Asks x) c (record { rows = c.rows; opened = cond b (x ∷ c.opened) c.opened })
asked_passes x c b e i = record { rows = c.rows; opened = cond (sym e i) (x ∷ c.opened) c.opened }

-- after what may be comes what follows
event_becomes : (past : List Event) (event : Event) (s c d : Configuration) → MayBecome past s c → FollowsAtOnce event c d → MayBecome (past ++ event ∷ []) s d
event_becomes past (Asks x) s c d may h = elim h [
  | inl k ↦ subst (MayBecome (past ++ Asks x ∷ []) s) (sym k.1) (elim k.0 [
    | inl aborted ↦ becomes_passed past (Asks x) s c c may (asked_passes x c false aborted)
    | inr f ↦
        let asked : Configuration = record { rows = c.rows; opened = x ∷ c.opened } in
        becomes_on (past ++ Asks x ∷ []) s asked c
        (becomes_passed past (Asks x) s c asked may (asked_passes x c true (no_abort x.outcome x c.rows f.1)))
        (unchanging_call c.rows (x ∷ c.opened) c.opened x f (λ e same. (x, c.opened, inl (refl, refl), f.1, same)))
  ])
  | inr k ↦ subst (MayBecome (past ++ Asks x ∷ []) s) (sym k.1)
      (becomes_passed past (Asks x) s c (record { rows = c.rows; opened = x ∷ c.opened }) may (asked_passes x c true (not_false (may_take_effect x.outcome) (λ e. k.0 (inl e)))))
]
event_becomes past (Ends asked at) s c d may h = elim h [
  | inl k ↦ becomes_passed past (Ends asked at) s c d may k
  | inr k ↦ let takes = until_takes (length c.opened) asked c d k.1 in
      becomes_passed past (Ends asked at) s d d (becomes_on past s c d may takes.0) (takes.1, refl)
]

pub lead_becomes : (past more : List Event) (s c d : Configuration) → MayBecome past s c → LeadAtOnce more c d → MayBecome (past ++ more) s d
lead_becomes past [] s c d may h = subst (λ es. MayBecome es s d) (sym (append-nil past)) (subst (MayBecome past s) (sym h) may)
lead_becomes past (event ∷ more) s c d may h =
    subst (λ es. MayBecome es s d) (sym (shift past event more))
    (lead_becomes (past ++ event ∷ []) more s h.0 d (event_becomes past event s c h.0 may h.1) h.2)

-- what comes or follows is possible
pub come_possible : (u : Database) (past : List Event) (c d : Configuration) → IsPossible u past c → MayCome c d → IsPossible u past d
come_possible u past c d own m = (becomes_on past (starting u) c d own.0 m.calls, m.settled own.1)

pub follow_possible : (u : Database) (past : List Event) (event : Event) (c d : Configuration) → IsPossible u past c → MayFollow event c d → IsPossible u (past ++ event ∷ []) d
follow_possible u past (Asks x) c d own h = (event_becomes past (Asks x) (starting u) c d own.0 h, event_settled (Asks x) c d own.1 h)
follow_possible u past (Ends asked at) c d own h =
    let come = come_possible u past c d own h.0 in
    (becomes_passed past (Ends asked at) (starting u) d d come.0 (h.1, refl), come.1)

abbrev pub ArePossible : Database → List Event → List Held → Type 0
ArePossible u past cs = (d : Configuration) → OneStandsFor cs d → IsPossible u past d

-- more than so many that are tried at an event
pub need_more : (u : Database) (past : List Event) (event : Event) (rest : List Event) (most : ℕ) (cs : List Held) → ArePossible u past cs → AreMoreThan most (FromOne (MayBeTried event) cs) → NeedMore most u (past ++ event ∷ rest)
need_more u past (Asks x) rest most cs all p = (
  past ++ Asks x ∷ [],
  rest,
  shift past (Asks x) rest,
  more_than most (FromOne (MayBeTried (Asks x)) cs) (IsPossible u (past ++ Asks x ∷ [])) (λ d h. follow_possible u past (Asks x) h.0 d (all h.0 h.1) h.2) p,
)
need_more u past (Ends asked at) rest most cs all p = (
  past,
  Ends asked at ∷ rest,
  refl,
  more_than most (FromOne (MayBeTried (Ends asked at)) cs) (IsPossible u past) (λ d h. come_possible u past h.0 d (all h.0 h.1) h.2) p,
)

-- what comes of those that are possible
pub come_many : (u : Database) (past : List Event) (most : ℕ) (cs : List Held) → ArePossible u past cs → AreMoreThan most (FromOne MayCome cs) → NeedMore most u past
come_many u past most cs all p = (past, [], sym (append-nil past), more_than most (FromOne MayCome cs) (IsPossible u past) (λ d h. come_possible u past h.0 d (all h.0 h.1) h.2) p)

-- ---- one after another
pub come_none : (c : Configuration) → MayCome c c
come_none c = record { calls = (0, refl); settled = λ h. h }

pub come_on : (c d e : Configuration) → MayCome c d → MayCome d e → MayCome c e
come_on c d e first second = record { calls = some_on c d e first.calls second.calls; settled = λ h. second.settled (first.settled h) }

pub one_comes : (c d : Configuration) → TakesOne c d → MayCome c d
one_comes c d h = record { calls = one_takes c d h; settled = λ _. one_settled c d h }
