-- One call takes effect, and clusters right before it.
use Rattle.std.proofs.Common.{◌≡◌, ℕ, zero, suc, ◌<◌, ◌≤◌, ◌⊎◌, Bool, true, false, cond, List, [], ◌∷◌, filter, length, Some, Ok, remove, refl, sym, ◌∙◌, ap, subst, arith, inl, inr}
use Rattle.tatp_tables.specs.Keys.{has_number}
use Rattle.tatp_tables.specs.Database.{Database}
use Rattle.tatp_tables.proofs.KeyLaws.{has-found}
use Rattle.tatp_homes.specs.Home.{SubscriberRows}
use Rattle.tatp_calls.specs.Arguments.{arguments_accepted}
use Rattle.tatp_calls.specs.declared.call.Call.{Call}
use Rattle.tatp_calls.specs.declared.call.Call.TheVariants.{UpdateSubscriberData, UpdateLocation}
use Rattle.tatp_calls.specs.Transactions.{Answer, transaction}
use Rattle.tatp_history.specs.declared.event.Event.{Event}
use Rattle.tatp_history.specs.declared.observed.Observed.{Observed}
use Rattle.tatp_history.specs.Histories.{IsIn, MayHaveReply, AreAskedApart}
use Rattle.tatp_history.specs.Locality.{AreAccepted}
use Rattle.tatp_history.specs.JustInTime.{Chooses}
use Rattle.tatp_history.specs.Configurations.{Configuration}
use Rattle.tatp_history.proofs.OrderLaws.{all_filter}
use Rattle.tatp_linearization.specs.declared.ahead.Ahead.{Ahead}
use Rattle.tatp_linearization.specs.declared.configuration.Configuration.{Configuration as Held}
use Rattle.tatp_linearization.specs.AtOnce.{FitsAtOnce, AreLeft, TakesOne}
use Rattle.tatp_linearization.specs.Possible.{CallsTakeEffect}
use Rattle.tatp_linearization.specs.Overwritten.{SetsLocation, IsBlind, Overwrites, IsNeedless, AreButSome}
use Rattle.tatp_linearization.specs.Held.{Takes}
use Rattle.tatp_linearization.specs.Covering.{StandsFor, From, MayCome}
use Rattle.tatp_linearization.specs.Going.{LeadsOn}
use Rattle.tatp_linearization.specs.Turns.{IsOtherTime, IsThere, IsFewer, TakesOn}
use Rattle.tatp_linearization.specs.Doomed.{sets_location, NoneHasLocation}
use Rattle.tatp_linearization.specs.Unseen.{AreOfOne}
use Rattle.tatp_linearization.specs.Ahead.{LooksAhead}
use Rattle.tatp_linearization.specs.Clusters.{GoFirst, LosesNone}
use Rattle.tatp_linearization.proofs.AtOnceLaws.{one_settled}
use Rattle.tatp_linearization.proofs.BlindLaws.{named_row, number_of}
use Rattle.tatp_linearization.proofs.OverwritingLaws.{AreOverwrittenBy, IsNumbered, SetsItsLocation, location_step, chain}
use Rattle.tatp_linearization.proofs.ButSomeLaws.{but_map, but_in, but_all, but_filter, but_split, but_chooses, left_but}
use Rattle.tatp_linearization.proofs.ClusterLaws.{open_filter, loses_apart, calls_all, calls_fewer, calls_one}
use Rattle.tatp_linearization.proofs.CoveringLaws.{taken_there, taken_fewer, IsBefore, taken_after, out_of}
use Rattle.tatp_linearization.proofs.DoomedLaws.{stays, no_update}
use Rattle.tatp_linearization.proofs.LostLaws.{none_lost}
use Rattle.tatp_linearization.proofs.PlaceLaws.{chooses_at}
use Rattle.tatp_linearization.proofs.PossibleLaws.{SomeTakeEffect, some_on, one_call, one_takes}
use Rattle.tatp_linearization.proofs.UnseenLaws.{one_only, one_home, one_after}

-- ---- the same call among more
chooses_put : (big : List Observed) (x : Observed) (others : List Observed) → Chooses big x others → (z : Observed) (left : List Observed) → Chooses others z left → (rest : List Observed) × Chooses big z rest × Chooses rest x left
chooses_put [] x others c z left d = absurd c
chooses_put (y ∷ ys) x others c z left d = elim c [
  | inl p ↦ (y ∷ left, inr (left, refl, subst (λ zs. Chooses zs z left) p.1 d), inl (p.0, refl))
  | inr p ↦ let own : Chooses (y ∷ p.0) z left = subst (λ zs. Chooses zs z left) p.1 d in elim own [
    | inl q ↦ (ys, inl (q.0, refl), subst (Chooses ys x) (sym q.1) p.2)
    | inr q ↦ let go = chooses_put ys x p.0 p.2 z q.0 q.2 in (y ∷ go.0, inr (go.0, refl, go.1), inr (q.0, q.1, go.2))
  ]
]

left_put : (w : Database) (xs ys : List Observed) → AreLeft w xs ys → (z : Observed) (left : List Observed) → Chooses ys z left → (rest : List Observed) × Chooses xs z rest × AreLeft w rest left
left_put w [] ys a z left c = absurd (subst (λ zs. Chooses zs z left) a c)
left_put w (x ∷ xs) ys a z left c = elim a [
  | inl p ↦ let go = left_put w xs ys p.1 z left c in (x ∷ go.0, inr (go.0, refl, go.1), inl (p.0, go.2))
  | inr p ↦ let own : Chooses (x ∷ p.1.0) z left = subst (λ zs. Chooses zs z left) p.1.1 c in elim own [
    | inl q ↦ (xs, inl (q.0, refl), subst (AreLeft w xs) (sym q.1) p.1.2)
    | inr q ↦ let go = left_put w xs p.1.0 p.1.2 z q.0 q.2 in (x ∷ go.0, inr (go.0, refl, go.1), inr (p.0, (q.0, q.1, go.2)))
  ]
]

-- calls that take effect do so too where another one is open, and reads that go after it
calls_put : (w : Database) (x : Observed) (n : ℕ) (c d : Configuration) → CallsTakeEffect n c d → (big others : List Observed) → Chooses big x others → AreLeft w others c.opened
    → (rest : List Observed) × (after : List Observed) × SomeTakeEffect (record { rows = c.rows; opened = big }) (record { rows = d.rows; opened = rest }) × Chooses rest x after × AreLeft w after d.opened
calls_put w x zero c d h big others chosen left = (
  big,
  others,
  (0, λ i. record { rows = (h i).rows; opened = big }),
  chosen,
  subst (λ (b : Configuration). AreLeft w others b.opened) (sym h) left,
)
calls_put w x (suc n) c d h big others chosen left =
    let one = h.1 in
    let first = left_put w others c.opened left one.0 one.1 one.2 in
    let second = chooses_put big x others chosen one.0 first.0 first.1 in
    let mid : Configuration = record { rows = (transaction one.0.call c.rows).database; opened = second.0 } in
    let effect : SomeTakeEffect (record { rows = c.rows; opened = big }) mid = one_call (record { rows = c.rows; opened = big }) mid (one.0, second.0, second.1, one.3, refl) in
    let open_after : h.0.opened ≡ one.1 = ap (λ (b : Configuration). b.opened) one.4 in
    let rows_after : h.0.rows ≡ (transaction one.0.call c.rows).database = ap (λ (b : Configuration). b.rows) one.4 in
    let go = calls_put w x n h.0 d h.2 second.0 first.0 second.2 (subst (AreLeft w first.0) (sym open_after) first.2) in
    let next : SomeTakeEffect mid (record { rows = d.rows; opened = go.0 }) = subst (λ v. SomeTakeEffect (record { rows = v; opened = second.0 }) (record { rows = d.rows; opened = go.0 })) rows_after go.2 in
    (go.0, go.1, some_on (record { rows = c.rows; opened = big }) mid (record { rows = d.rows; opened = go.0 }) effect next, go.3, go.4)

-- ---- with some left out
-- calls take effect as before where some of those that stay open are left out
pub calls_but : (F : Observed → Type 0) (k n : ℕ) (c d : Configuration) → CallsTakeEffect n c d → (left : List Observed) → AreButSome F k d.opened left
    → (start : List Observed) × AreButSome F k c.opened start × SomeTakeEffect (record { rows = c.rows; opened = start }) (record { rows = d.rows; opened = left })
calls_but F k zero c d h left but = (left, subst (λ (b : Configuration). AreButSome F k b.opened left) h but, (0, λ i. record { rows = (h i).rows; opened = left }))
calls_but F k (suc n) c d h left but =
    let one = h.1 in
    let rest = calls_but F k n h.0 d h.2 left but in
    let open_after : h.0.opened ≡ one.1 = ap (λ (b : Configuration). b.opened) one.4 in
    let rows_after : h.0.rows ≡ (transaction one.0.call c.rows).database = ap (λ (b : Configuration). b.rows) one.4 in
    let put = but_chooses F k c.opened one.0 one.1 one.2 rest.0 (subst (λ zs. AreButSome F k zs rest.0) open_after rest.1) in
    let mid : Configuration = record { rows = (transaction one.0.call c.rows).database; opened = rest.0 } in
    let first : Configuration = record { rows = c.rows; opened = put.0 } in
    let effect : SomeTakeEffect first mid = one_call first mid (one.0, rest.0, put.2, one.3, refl) in
    let next : SomeTakeEffect mid (record { rows = d.rows; opened = left }) = subst (λ v. SomeTakeEffect (record { rows = v; opened = rest.0 }) (record { rows = d.rows; opened = left })) rows_after rest.2 in
    (put.0, put.1, some_on first mid (record { rows = d.rows; opened = left }) effect next)

-- ---- filters
filter_shorter : (test : Observed → Bool) (xs : List Observed) → length (filter test xs) ≤ length xs
filter_shorter test [] = omega arith
filter_shorter test (x ∷ xs) = let le = filter_shorter test xs in elim (test x) as (λ b. length (cond b (x ∷ filter test xs) (filter test xs)) ≤ suc (length xs)) [
  | true ↦ omega (arith, le)
  | false ↦ omega (arith, le)
]

-- ---- clusters before an update
module _ (c d e : Held) (i : ℕ) (taken : Takes c i (Some d)) (accepted : AreAccepted c.opened.items) (sets : SetsLocation c.home.tables taken.0.call)
    (home : e.home ≡ d.home) (over : e.overwritten ≡ d.overwritten) (gone : GoFirst c.home.tables d.opened.items e.opened.items) where
  one : AreOfOne c.home.tables
  one = one_home c.home taken.1.home

  -- calls that the update overwrites are updates of the same location
  overwritten_here : (z : Observed) → AreOverwrittenBy c.home.tables taken.0.call z → SetsItsLocation sets.number z
  overwritten_here z b = elim b.1 [
    | inl o ↦
        let same : UpdateLocation sets.number sets.location ≡ UpdateLocation o.number o.location = sym sets.updates ∙ o.first in
        let number : o.number ≡ sets.number = cc in
        (o.other, o.second ∙ ap (λ m. UpdateLocation m o.other) number, b.0.may)
    | inr o ↦ let same : UpdateLocation sets.number sets.location ≡ UpdateSubscriberData o.s_id o.bit o.sf_type o.value = sym sets.updates ∙ o.first in absurd cc
  ]

  -- they may take effect before it, and what it overwrites in between
  cleared_before : (q : Configuration) → q.rows ≡ (transaction taken.0.call c.home.tables).database → AreButSome (IsBefore c d i taken accepted) d.overwritten e.opened.items q.opened → From MayCome c q
  cleared_before q rows but =
      let u : Database = c.home.tables in
      let x = taken.0 in
      let v : Database = (transaction x.call u).database in
      let m : Database = gone.0 in
      let go = gone.1 in
      let k : ℕ = d.overwritten in
      let O : Observed → Type 0 = IsBefore c d i taken accepted in
      let others = remove c.opened.items i in
      let put = calls_put v x go.many (record { rows = u; opened = d.opened.items }) (record { rows = m; opened = e.opened.items }) go.effects c.opened.items others (chooses_at c.opened.items i x taken.1.at) taken.1.settled in
      let mid = left_but v O k put.1 e.opened.items q.opened put.4 but in
      let back = but_chooses O k put.0 x put.1 put.3 mid.0 mid.1 in
      let both = but_split (IsBlind u) (λ z. Overwrites x.call z.call) c.overwritten k put.0 back.0 back.1 in
      let start = calls_but (IsBlind u) c.overwritten put.2.0 (record { rows = u; opened = c.opened.items }) (record { rows = m; opened = put.0 }) put.2.1 both.0 both.1 in
      let alike = go.alike x.call sets in
      let row = named_row m.subscribers alike.0.number alike.0.named in
      let only = one_only m.subscribers row.0 (calls_one go.many (record { rows = u; opened = d.opened.items }) (record { rows = m; opened = e.opened.items }) go.effects one) (has-found (has_number alike.0.number) m.subscribers row.0 row.1) in
      let number : alike.0.number ≡ sets.number = let both_ways : UpdateLocation alike.0.number alike.0.location ≡ UpdateLocation sets.number sets.location = sym alike.0.updates ∙ sets.updates in cc in
      let good : IsNumbered sets.number m = record { row = row.0; only = only; number = subst (λ n. has_number n row.0 ≡ true) number (number_of row.0 m.subscribers alike.0.number only alike.0.named) } in
      let call : Call = UpdateLocation sets.number sets.location in
      let ran = chain call (SetsItsLocation sets.number) (IsNumbered sets.number) (location_step sets.number sets.location) m good k [] both.0 back.0
      (but_map (AreOverwrittenBy u x.call) (SetsItsLocation sets.number) overwritten_here k k (omega arith) both.0 back.0 both.2) in
      let w = ran.0 in
      let same : transaction x.call w ≡ transaction x.call u = subst (λ (f : Call). transaction f w ≡ transaction f m) (sym sets.updates) ran.2 ∙ alike.1 in
      let b : Configuration = record { rows = w; opened = back.0 } in
      let last : TakesOne b q = (
        x,
        mid.0,
        record {
          chosen = back.2;
          writes = taken.1.writes;
          may = subst (λ (a : Answer). MayHaveReply x.outcome a.reply) (sym same) taken.1.may;
          rows = rows ∙ ap (λ (a : Answer). a.database) (sym same);
          settled = subst (λ (a : Answer). AreLeft a.database mid.0 q.opened) (sym same) mid.2;
        },
      ) in
      let first : Configuration = record { rows = u; opened = start.0 } in
      let cleared : Configuration = record { rows = m; opened = both.0 } in
      (first, record { rows = refl; opened = start.1 }, record { calls = some_on first cleared q start.2 (some_on cleared b q ran.1 (one_takes b q last)); settled = λ _. one_settled b q last })

  -- and those that change nothing after it right then
  pub cleared_from : (q : Configuration) → StandsFor e q → From MayCome c q
  cleared_from q stands =
      let u : Database = c.home.tables in
      let x = taken.0 in
      let go = gone.1 in
      let m : Database = gone.0 in
      let stood : AreButSome (IsBlind d.home.tables) d.overwritten e.opened.items q.opened = subst (λ n. AreButSome (IsBlind d.home.tables) n e.opened.items q.opened) over (subst (λ (h : SubscriberRows). AreButSome (IsBlind h.tables) e.overwritten e.opened.items q.opened) home stands.opened) in
      let known = calls_all (λ (z : Observed). z.asked < d.overwritten → IsBlind u z → (z.asked < c.overwritten) ⊎ IsNeedless u x.call z.call) go.many (record { rows = u; opened = d.opened.items }) (record { rows = m; opened = e.opened.items }) go.effects taken.1.overwritten.others in
      let out = out_of c d i taken accepted e.opened.items q.opened known stood in
      taken_after c d i taken accepted d.overwritten out.0 q (stands.rows ∙ ap (λ (h : SubscriberRows). h.tables) home) out.2 (cleared_before (record { rows = (transaction x.call u).database; opened = out.0 }) refl out.1)

  module _ (ahead : Ahead) (now : ℕ) (loses : AreAskedApart d.opened.items → LosesNone ahead now d.opened.items e.opened.items) where
    cleared_fewer : IsFewer c e
    cleared_fewer =
        let less = taken_fewer c d i taken accepted in
        let few = less.few in
        let fewer = calls_fewer gone.1.many (record { rows = c.home.tables; opened = d.opened.items }) (record { rows = gone.0; opened = e.opened.items }) gone.1.effects in
        record {
          few = omega (arith, few, fewer);
          own = ap (λ (h : SubscriberRows). h.s_id) home ∙ less.own;
          accepted = λ h. calls_all (λ (z : Observed). arguments_accepted z.call ≡ Ok tt) gone.1.many (record { rows = c.home.tables; opened = d.opened.items }) (record { rows = gone.0; opened = e.opened.items }) gone.1.effects (less.accepted h);
          apart = λ h. let own = less.apart h in loses_apart ahead now d.opened.items e.opened.items (loses own) own;
        }

    -- and no order is lost
    pub cleared_on : TakesOn (LooksAhead ahead now) c i e
    cleared_on = record {
      sound = cleared_from;
      served = λ asked after events q looks apart there on.
          let less = taken_fewer c d i taken accepted in
          let lost = loses (less.apart apart) in
          let test = lost.test in
          let k = taken_there c d i taken accepted (IsOtherTime asked) q there in
          let F : Observed → Type 0 = λ z. IsBlind d.home.tables z × IsOtherTime asked z in
          let G : Observed → Type 0 = λ z. IsBlind e.home.tables z × IsOtherTime asked z in
          let left : List Observed = filter test q.opened in
          let but : AreButSome F e.overwritten e.opened.items left = subst (λ n. AreButSome F n e.opened.items left) (sym over) (subst (λ zs. AreButSome F d.overwritten zs left) (sym lost.others) (but_filter F d.overwritten test d.opened.items q.opened k.1)) in
          let rows_one : AreOfOne q.rows = subst AreOfOne (sym (k.0 ∙ taken.1.rows)) (one_after taken.0.call c.home.tables one) in (
            record { rows = q.rows; opened = left },
            record {
              rows = k.0 ∙ sym (ap (λ (h : SubscriberRows). h.tables) home);
              opened = but_map F G (λ z f. (subst (λ (h : SubscriberRows). IsBlind h.tables z) (sym home) f.0, f.1)) e.overwritten e.overwritten (omega arith) e.opened.items left but;
            },
            filter_shorter test q.opened,
            record {
              rise = on.rise;
              ends = on.ends;
              waiting = open_filter events test q.opened on.waiting;
              settled = all_filter (λ (z : Observed). FitsAtOnce q.rows z → ⊥) test q.opened on.settled;
              order = lost.kept events looks q.rows after q.opened rows_one (λ z h. but_in F d.overwritten d.opened.items q.opened k.1 z h) on.waiting on.order;
            },
          );
      less = cleared_fewer;
    }
