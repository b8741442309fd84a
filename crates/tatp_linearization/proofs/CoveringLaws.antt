-- Configurations that one stands for.
use Rattle.std.proofs.Common.{◌≡◌, ℕ, zero, suc, ◌<◌, ◌≤◌, ◌⊎◌, ◌↔◌, Bool, true, false, nat_le, cond, leb-true, leb-false, List, [], ◌∷◌, ◌++◌, length, Some, None, Ok, slice_get, remove, refl, sym, ap, ◌∙◌, subst, arith, inl, inr}
use Rattle.std.specs.List.{AllByRecursion, items_where_true}
use Rattle.std.specs.List.Retain.{IsFiltered, ReturnsInTurn}
use Rattle.tatp_tables.specs.Database.{Database}
use Rattle.tatp_homes.specs.Home.{SubscriberRows}
use Rattle.tatp_calls.specs.Transactions.{Answer, transaction}
use Rattle.tatp_calls.specs.Arguments.{arguments_accepted}
use Rattle.tatp_history.specs.declared.observed.Observed.{Observed}
use Rattle.tatp_history.specs.Histories.{MayHaveReply}
use Rattle.tatp_history.specs.Locality.{AreAccepted}
use Rattle.tatp_history.specs.declared.event.Event.{Event}
use Rattle.tatp_history.specs.declared.event.Event.TheVariants.{Asks, Ends}
use Rattle.tatp_history.specs.JustInTime.{NoneAskedAt}
use Rattle.tatp_history.specs.Configurations.{Configuration}
use Rattle.tatp_history.proofs.OrderLaws.{in_all}
use Rattle.tatp_history.proofs.ChoiceLaws.{find_asked}
use Rattle.tatp_linearization.specs.declared.configuration.Configuration.{Configuration as Held}
use Rattle.tatp_linearization.specs.AtOnce.{AreLeft, NeedsNoPlace, TakesOne, FollowsAtOnce}
use Rattle.tatp_linearization.specs.Possible.{AreDistinct, AreMoreThan}
use Rattle.tatp_linearization.specs.Held.{seen, all_seen, Has, AreReady, AreApart, Takes, IsAsked, IsOldOr}
use Rattle.tatp_linearization.specs.Overwritten.{IsBlind, Overwrites, IsIdle, IsNeedless, AreButSome, earlier}
use Rattle.tatp_linearization.specs.Covering.{StandsFor, OneStandsFor, Covers, IsOther, Opens, IsApart, IsLater, From, FromOne, MayCome, MayFollow, MayBeTried, MayAnswer, IsLetGo, IsRepresentedOr, Gains, GainsGone, IsGone}
use Rattle.tatp_linearization.specs.Turns.{IsThere, IsOtherTime, StandsForBut, IsFewer, TakesOn, AreTriedOut, AreAnswered, AreFollowed}
use Rattle.tatp_linearization.proofs.PlaceLaws.{all_get, all_more, all_of_get, all_remove, same_item}
use Rattle.tatp_linearization.proofs.PossibleLaws.{some_on, one_takes, come_none, come_on, more_than}
use Rattle.tatp_linearization.proofs.AtOnceLaws.{one_settled}
use Rattle.tatp_linearization.proofs.GoingLaws.{event_on, end_on}
use Rattle.tatp_linearization.proofs.HeldLaws.{has_get, own_more, one_too_many, ready_after}
use Rattle.tatp_linearization.proofs.ButSomeLaws.{but_none_left_out, but_map, but_by, but_split, but_divide, but_all, but_chosen, but_put, but_left, left_but, removed_length, removed_none, but_gone, but_back, get_inside, left_apart, removed_apart}
use Rattle.tatp_linearization.proofs.SettlingLaws.{left_shorter}
use Rattle.tatp_linearization.proofs.BlindLaws.{blind_after}
use Rattle.tatp_linearization.proofs.OverwritingLaws.{overwritten_chain}
use Rattle.tatp_linearization.proofs.IdleLaws.{idle_comes}

-- ---- those for which one of a list stands
pub seen_stands : (c : Held) → StandsFor c (seen c)
seen_stands c = record { rows = refl; opened = but_none_left_out (IsBlind c.home.tables) c.overwritten c.opened.items }

pub get_stands : (set : List Held) (i : ℕ) (c : Held) (d : Configuration) → slice_get set i ≡ Some c → StandsFor c d → OneStandsFor set d
get_stands [] i c d at h = absurd cc
get_stands (b ∷ bs) zero c d at h = let is : b ≡ c = cc in inl (subst (λ (q : Held). StandsFor q d) (sym is) h)
get_stands (b ∷ bs) (suc i) c d at h = inr (get_stands bs i c d at h)

pub stands_get : (set : List Held) (d : Configuration) → OneStandsFor set d → (i : ℕ) × (i < length set) × (c : Held) × (slice_get set i ≡ Some c) × StandsFor c d
stands_get [] d h = absurd h
stands_get (b ∷ bs) d h = elim h [
  | inl k ↦ (0, omega arith, b, refl, k)
  | inr k ↦ let r = stands_get bs d k in let lt = r.1 in (suc r.0, omega (arith, lt), r.2, r.3, r.4)
]

pub held_inside : (set : List Held) (i : ℕ) (c : Held) → slice_get set i ≡ Some c → i < length set
held_inside [] i c at = absurd cc
held_inside (b ∷ bs) zero c at = omega arith
held_inside (b ∷ bs) (suc i) c at = let lt = held_inside bs i c at in omega (arith, lt)

pub has_stands : (set : List Held) (d : Configuration) → Has set d → OneStandsFor set d
has_stands [] d h = absurd h
has_stands (b ∷ bs) d h = elim h [ inl e ↦ inl (subst (StandsFor b) (sym e) (seen_stands b)) | inr k ↦ inr (has_stands bs d k) ]

pub stands_more : (cs : List Held) (c : Held) (d : Configuration) → OneStandsFor (cs ++ c ∷ []) d ↔ (OneStandsFor cs d ⊎ StandsFor c d)
stands_more [] c d = (λ h. elim h [ inl e ↦ inr e | inr k ↦ absurd k ], λ h. elim h [ inl k ↦ absurd k | inr e ↦ inl e ])
stands_more (b ∷ bs) c d = let rest = stands_more bs c d in (
  λ h. elim h [ inl e ↦ inl (inl e) | inr k ↦ elim (rest.0 k) [ inl q ↦ inl (inr q) | inr e ↦ inr e ] ],
  λ h. elim h [ inl k ↦ elim k [ inl e ↦ inl e | inr q ↦ inr (rest.1 (inl q)) ] | inr e ↦ inr (rest.1 (inr e)) ],
)

pub from_one : (R : Configuration → Configuration → Type 0) (set : List Held) (i : ℕ) (c : Held) (d : Configuration) → slice_get set i ≡ Some c → From R c d → FromOne R set d
from_one R set i c d at h = (h.0, get_stands set i c h.0 at h.1, h.2)

pub one_from : (R : Configuration → Configuration → Type 0) (set : List Held) (d : Configuration) → FromOne R set d → (i : ℕ) × (i < length set) × (c : Held) × (slice_get set i ≡ Some c) × From R c d
one_from R set d h = let there = stands_get set h.0 h.1 in (there.0, there.1, there.2, there.3, (h.0, there.4, h.2))

-- ---- one that is alike
pub alike_stands : (c d : Held) → seen d ≡ seen c → d.overwritten ≡ c.overwritten → (e : Configuration) → StandsFor d e ↔ StandsFor c e
alike_stands c d same over e =
    let Stands : Configuration → ℕ → Type 0 = λ b k. (e.rows ≡ b.rows) × AreButSome (IsBlind b.rows) k b.opened e.opened in (
      λ h. let k : Stands (seen c) c.overwritten = subst (Stands (seen c)) over (subst (λ (b : Configuration). Stands b d.overwritten) same (h.rows, h.opened)) in record { rows = k.0; opened = k.1 },
      λ h. let k : Stands (seen d) d.overwritten = subst (Stands (seen d)) (sym over) (subst (λ (b : Configuration). Stands b c.overwritten) (sym same) (h.rows, h.opened)) in record { rows = k.0; opened = k.1 },
    )

-- with no call open it stands for itself alone
pub bare_stands : (c : Held) (d : Configuration) → c.opened.items ≡ [] → StandsFor c d ↔ (d ≡ seen c)
bare_stands c d none = (
  λ h.
      let opened : d.opened ≡ c.opened.items = subst (λ xs. AreButSome (IsBlind c.home.tables) c.overwritten xs d.opened) none h.opened ∙ sym none in
      λ i. record { rows = h.rows i; opened = opened i },
  λ e. subst (StandsFor c) (sym e) (seen_stands c),
)

-- ---- lists without some
pub record AreRetained (Gone Stays : Held → Type 0) (old new : List Held) : Type 0 where
  pub kept : (d : Configuration) → OneStandsFor new d → OneStandsFor old d
  pub found : (d : Configuration) → OneStandsFor old d → OneStandsFor new d ⊎ ((c : Held) × Gone c × StandsFor c d)
  pub among : (i : ℕ) (c : Held) → slice_get new i ≡ Some c → (j : ℕ) × (slice_get old j ≡ Some c)
  pub stay : AllByRecursion Stays new
  pub ready : AreReady old → AreReady new
  pub apart : (s : ℕ) → AreApart s old → AreApart s new

module _ {F : Type 0} (R : F → Held → Bool → F → Type 0) (Gone Stays : Held → Type 0) (f : F) (tells : (c : Held) (b : Bool) (g : F) → R f c b g → (b ≡ false → Gone c) × ((b ≡ true → Stays c) × (g ≡ f))) where
  kept_there : (bs : List Bool) (cs : List Held) (d : Configuration) → OneStandsFor (items_where_true bs cs) d → OneStandsFor cs d
  kept_there [] cs d h = absurd h
  kept_there (b ∷ bs) [] d h = absurd h
  kept_there (true ∷ bs) (c ∷ cs) d h = elim h [ inl e ↦ inl e | inr k ↦ inr (kept_there bs cs d k) ]
  kept_there (false ∷ bs) (c ∷ cs) d h = inr (kept_there bs cs d h)

  among_there : (bs : List Bool) (cs : List Held) (i : ℕ) (c : Held) → slice_get (items_where_true bs cs) i ≡ Some c → (j : ℕ) × (slice_get cs j ≡ Some c)
  among_there [] cs i c at = absurd cc
  among_there (b ∷ bs) [] i c at = absurd cc
  among_there (true ∷ bs) (e ∷ cs) zero c at = (0, at)
  among_there (true ∷ bs) (e ∷ cs) (suc i) c at = let r = among_there bs cs i c at in (suc r.0, r.1)
  among_there (false ∷ bs) (e ∷ cs) i c at = let r = among_there bs cs i c at in (suc r.0, r.1)

  others_gone : (bs : List Bool) (cs : List Held) (q : F) → length bs ≡ length cs → ReturnsInTurn R f bs cs q → (d : Configuration) → OneStandsFor cs d → OneStandsFor (items_where_true bs cs) d ⊎ ((c : Held) × Gone c × StandsFor c d)
  others_gone bs [] q same t d h = absurd h
  others_gone [] (c ∷ cs) q same t d h = absurd (omega (arith, same))
  others_gone (true ∷ bs) (c ∷ cs) q same t d h = let one = tells c true t.0 t.1 in elim h [
    | inl e ↦ inl (inl e)
    | inr k ↦ elim (others_gone bs cs q (omega (arith, same)) (subst (λ (g : F). ReturnsInTurn R g bs cs q) one.1.1 t.2) d k) [ inl p ↦ inl (inr p) | inr p ↦ inr p ]
  ]
  others_gone (false ∷ bs) (c ∷ cs) q same t d h = let one = tells c false t.0 t.1 in elim h [
    | inl e ↦ inr (c, one.0 refl, e)
    | inr k ↦ others_gone bs cs q (omega (arith, same)) (subst (λ (g : F). ReturnsInTurn R g bs cs q) one.1.1 t.2) d k
  ]

  all_stay : (bs : List Bool) (cs : List Held) (q : F) → length bs ≡ length cs → ReturnsInTurn R f bs cs q → AllByRecursion Stays (items_where_true bs cs)
  all_stay [] cs q same t = tt
  all_stay (b ∷ bs) [] q same t = absurd (omega (arith, same))
  all_stay (true ∷ bs) (c ∷ cs) q same t = let one = tells c true t.0 t.1 in (one.1.0 refl, all_stay bs cs q (omega (arith, same)) (subst (λ (g : F). ReturnsInTurn R g bs cs q) one.1.1 t.2))
  all_stay (false ∷ bs) (c ∷ cs) q same t = let one = tells c false t.0 t.1 in all_stay bs cs q (omega (arith, same)) (subst (λ (g : F). ReturnsInTurn R g bs cs q) one.1.1 t.2)

  all_kept : (P : Held → Type 0) (bs : List Bool) (cs : List Held) → AllByRecursion P cs → AllByRecursion P (items_where_true bs cs)
  all_kept P [] cs h = tt
  all_kept P (b ∷ bs) [] h = tt
  all_kept P (true ∷ bs) (c ∷ cs) h = (h.0, all_kept P bs cs h.1)
  all_kept P (false ∷ bs) (c ∷ cs) h = all_kept P bs cs h.1

  all_seen_kept : (P : Configuration → Type 0) (bs : List Bool) (cs : List Held) → AllByRecursion P (all_seen cs) → AllByRecursion P (all_seen (items_where_true bs cs))
  all_seen_kept P [] cs h = tt
  all_seen_kept P (b ∷ bs) [] h = tt
  all_seen_kept P (true ∷ bs) (c ∷ cs) h = (h.0, all_seen_kept P bs cs h.1)
  all_seen_kept P (false ∷ bs) (c ∷ cs) h = all_seen_kept P bs cs h.1

  distinct_kept : (bs : List Bool) (cs : List Held) → AreDistinct (all_seen cs) → AreDistinct (all_seen (items_where_true bs cs))
  distinct_kept [] cs h = tt
  distinct_kept (b ∷ bs) [] h = tt
  distinct_kept (true ∷ bs) (c ∷ cs) h = (all_seen_kept (λ (d : Configuration). seen c ≡ d → ⊥) bs cs h.0, distinct_kept bs cs h.1)
  distinct_kept (false ∷ bs) (c ∷ cs) h = distinct_kept bs cs h.1

  pub retained : (old new : List Held) → IsFiltered R f old new → AreRetained Gone Stays old new
  retained old new k = subst (AreRetained Gone Stays old) (sym k.4) (record {
    kept = kept_there k.0 old;
    found = others_gone k.0 old k.1 k.2 k.3;
    among = among_there k.0 old;
    stay = all_stay k.0 old k.1 k.2 k.3;
    ready = all_kept (λ (c : Held). AreAccepted c.opened.items) k.0 old;
    apart = λ s h. record { own = all_kept (λ (c : Held). c.home.s_id ≡ s) k.0 old h.own; distinct = distinct_kept k.0 old h.distinct };
  })

-- ---- what is added
pub pushed_ready : (mid : List Held) (d : Held) (new : List Held) → new ≡ mid ++ d ∷ [] → AreReady mid → AreAccepted d.opened.items → AreReady new
pushed_ready mid d new pushed ready accepted = subst AreReady (sym pushed) (all_more (λ (c : Held). AreAccepted c.opened.items) mid d ready accepted)

module _ (d : Held) (old mid : List Held) (r : AreRetained (Covers d) (IsOther d) old mid) where
  pub gains_pushed : (new : List Held) → new ≡ mid ++ d ∷ [] → Gains (StandsFor d) (StandsFor d) old new
  gains_pushed new pushed =
      let among : (e : Configuration) → OneStandsFor new e ↔ (OneStandsFor mid e ⊎ StandsFor d e) = λ e. subst (λ cs. OneStandsFor cs e ↔ (OneStandsFor mid e ⊎ StandsFor d e)) (sym pushed) (stands_more mid d e) in
      record {
        kept = λ e h. (among e).1 (elim (r.found e h) [ inl k ↦ inl k | inr k ↦ inr (k.1 e k.2) ]);
        sound = λ e h. elim ((among e).0 h) [ inl k ↦ inl (r.kept e k) | inr k ↦ inr k ];
        found = λ e h. (among e).1 (inr h);
      }

  module _ (other : (i : ℕ) (c : Held) → slice_get old i ≡ Some c → c.home.s_id ≡ d.home.s_id → seen c ≡ seen d → d.overwritten ≤ c.overwritten → ⊥) (apart : AreApart d.home.s_id old) where
    not_there : Has mid (seen d) → ⊥
    not_there h =
        let there = has_get mid (seen d) h in
        let c = there.2 in
        let from = r.among there.0 there.2 there.3 in
        let own : there.2.home.s_id ≡ d.home.s_id = all_get (λ (b : Held). b.home.s_id ≡ d.home.s_id) old from.0 there.2 apart.own from.1 in
        let stays : IsOther d there.2 = all_get (IsOther d) mid there.0 there.2 r.stay there.3 in
        elim (nat_le d.overwritten there.2.overwritten) as (λ b. nat_le d.overwritten there.2.overwritten ≡ b → ⊥) [
          | true ↦ λ e. other from.0 there.2 from.1 own (sym there.4) (leb-true d.overwritten there.2.overwritten e)
          | false ↦ λ e. let lt = leb-false d.overwritten there.2.overwritten e in stays (sym own) there.4 (omega (arith, lt))
        ] refl

    pub pushed_apart : (new : List Held) → new ≡ mid ++ d ∷ [] → AreApart d.home.s_id new
    pushed_apart new pushed = subst (AreApart d.home.s_id) (sym pushed) (own_more d.home.s_id mid d (r.apart d.home.s_id apart) refl not_there)

    pub pushed_many : (most : ℕ) → most ≤ length mid → AreMoreThan most (IsRepresentedOr old (StandsFor d))
    pushed_many most full = more_than most (IsOldOr mid (λ e. e ≡ seen d)) (IsRepresentedOr old (StandsFor d)) (λ e h. elim h [
      | inl k ↦ inl (r.kept e (has_stands mid e k))
      | inr k ↦ inr (subst (StandsFor d) (sym k) (seen_stands d))
    ]) (one_too_many most d.home.s_id mid d full (r.apart d.home.s_id apart) not_there)

-- ---- one call takes effect
pub there_some : (Extra : Observed → Type 0) (c : Held) (b e : Configuration) → b.rows ≡ c.home.tables → AreButSome (λ x. IsBlind c.home.tables x × Extra x) c.overwritten c.opened.items b.opened → (one : TakesOne b e)
    → (i : ℕ) × (i < length c.opened.items) × (there : IsThere Extra c i e) × (there.call ≡ one.0)
there_some Extra c b e rows but one =
    let go = but_chosen (λ x. IsBlind c.home.tables x × Extra x) c.overwritten c.opened.items b.opened one.0 one.1 but one.2.chosen in
    (go.0, go.1, record { before = b; call = one.0; left = one.1; rows = rows; takes = one.2; at = go.2; opened = go.3 }, refl)

pub there_none : (Extra : Observed → Type 0) (c : Held) (i : ℕ) (e : Configuration) → Takes c i None → IsThere Extra c i e → ⊥
there_none Extra c i e none there = none there.call there.at there.takes.writes (subst (λ v. MayHaveReply there.call.outcome (transaction there.call.call v).reply) there.rows there.takes.may)

-- which ones are left out doesn't count
pub but_stands : (asked : ℕ) (c : Held) (d : Configuration) → StandsForBut asked c d → StandsFor c d
but_stands asked c d h = record { rows = h.rows; opened = but_map (λ x. IsBlind c.home.tables x × IsOtherTime asked x) (IsBlind c.home.tables) (λ x f. f.0) c.overwritten c.overwritten (omega arith) c.opened.items d.opened h.opened }

module _ (c d : Held) (i : ℕ) (taken : Takes c i (Some d)) (accepted : AreAccepted c.opened.items) where
  call_accepted : arguments_accepted taken.0.call ≡ Ok tt
  call_accepted = all_get (λ (x : Observed). arguments_accepted x.call ≡ Ok tt) c.opened.items i taken.0 accepted taken.1.at

  pub blind_on : (x : Observed) → IsBlind c.home.tables x → IsBlind d.home.tables x
  blind_on x b = subst (λ v. IsBlind v x) (sym taken.1.rows) ((blind_after c.home taken.0.call taken.1.home call_accepted x).0 b)

  pub blind_back : (x : Observed) → IsBlind d.home.tables x → IsBlind c.home.tables x
  blind_back x b = (blind_after c.home taken.0.call taken.1.home call_accepted x).1 (subst (λ v. IsBlind v x) taken.1.rows b)

  pub taken_there : (Extra : Observed → Type 0) (e : Configuration) → IsThere Extra c i e → (e.rows ≡ d.home.tables) × AreButSome (λ x. IsBlind d.home.tables x × Extra x) d.overwritten d.opened.items e.opened
  taken_there Extra e there =
      let F : Observed → Type 0 = λ x. IsBlind c.home.tables x × Extra x in
      let G : Observed → Type 0 = λ x. IsBlind d.home.tables x × Extra x in
      let one : there.call ≡ taken.0 = same_item c.opened.items i there.call taken.0 there.at taken.1.at in
      let v : Database = (transaction taken.0.call c.home.tables).database in
      let same : (transaction there.call.call there.before.rows).database ≡ v = λ k. (transaction (one k).call (there.rows k)).database in
      let settled : AreLeft v there.left e.opened = subst (λ w. AreLeft w there.left e.opened) same there.takes.settled in
      let opened : AreButSome F c.overwritten d.opened.items e.opened = but_left v F c.overwritten (remove c.opened.items i) d.opened.items there.left e.opened taken.1.settled there.opened settled in
      (there.takes.rows ∙ (same ∙ sym taken.1.rows), but_map F G (λ x f. (blind_on x f.0, f.1)) c.overwritten d.overwritten taken.1.overwritten.still d.opened.items e.opened opened)

  -- each that may be left out then might be so before, or is overwritten by the call
  abbrev pub IsBefore : Observed → Type 0
  IsBefore x = IsBlind c.home.tables x × ((x.asked < c.overwritten) ⊎ Overwrites taken.0.call x.call)

  -- or changes nothing after it
  abbrev pub IsAfter : Observed → Type 0
  IsAfter x = IsBlind (transaction taken.0.call c.home.tables).database x × IsIdle (transaction taken.0.call c.home.tables).database x.call

  pub out_of : (xs left : List Observed) → AllByRecursion (λ (x : Observed). x.asked < d.overwritten → IsBlind c.home.tables x → (x.asked < c.overwritten) ⊎ IsNeedless c.home.tables taken.0.call x.call) xs
      → AreButSome (IsBlind d.home.tables) d.overwritten xs left → (mid : List Observed) × AreButSome IsBefore d.overwritten xs mid × AreButSome IsAfter d.overwritten mid left
  out_of xs left others but = but_divide IsBefore IsAfter d.overwritten xs left
      (but_by (IsBlind c.home.tables) (λ x. IsBefore x ⊎ IsAfter x) d.overwritten d.overwritten xs left (each xs others) (but_map (IsBlind d.home.tables) (IsBlind c.home.tables) blind_back d.overwritten d.overwritten (omega arith) xs left but))
    where
      each : (zs : List Observed) → AllByRecursion (λ (x : Observed). x.asked < d.overwritten → IsBlind c.home.tables x → (x.asked < c.overwritten) ⊎ IsNeedless c.home.tables taken.0.call x.call) zs
          → AllByRecursion (λ (x : Observed). x.asked < d.overwritten → IsBlind c.home.tables x → (x.asked < d.overwritten) × (IsBefore x ⊎ IsAfter x)) zs
      each [] h = tt
      each (z ∷ zs) h = (
        (λ lt b. (
          lt,
          elim (h.0 lt b) [
            | inl early ↦ inl (b, inl early)
            | inr needless ↦ elim needless [ inl o ↦ inl (b, inr o) | inr idle ↦ inr ((blind_after c.home taken.0.call taken.1.home call_accepted z).0 b, idle) ]
          ],
        )),
        each zs h.1,
      )

  -- and back: those that the call overwrites take effect right before it
  taken_before : (e : Configuration) → e.rows ≡ d.home.tables → AreButSome IsBefore d.overwritten d.opened.items e.opened → From MayCome c e
  taken_before e rows but =
      let u : Database = c.home.tables in
      let x = taken.0 in
      let v : Database = (transaction x.call u).database in
      let k : ℕ = d.overwritten in
      let left = left_but v IsBefore k (remove c.opened.items i) d.opened.items e.opened taken.1.settled but in
      let put = but_put IsBefore k c.opened.items i x left.0 taken.1.at left.1 in
      let both = but_split (IsBlind u) (λ z. Overwrites x.call z.call) c.overwritten k c.opened.items put.0 put.1 in
      let chain = overwritten_chain c.home taken.1.home x.call k both.0 put.0 both.2 in
      let w = chain.0 in
      let same : transaction x.call w ≡ transaction x.call u = chain.2 in
      let before : Configuration = record { rows = u; opened = both.0 } in
      let mid : Configuration = record { rows = w; opened = put.0 } in
      let one : TakesOne mid e = (
        x,
        left.0,
        record {
          chosen = put.2;
          writes = taken.1.writes;
          may = subst (λ (a : Answer). MayHaveReply x.outcome a.reply) (sym same) taken.1.may;
          rows = rows ∙ (taken.1.rows ∙ ap (λ (a : Answer). a.database) (sym same));
          settled = subst (λ (a : Answer). AreLeft a.database left.0 e.opened) (sym same) left.2;
        },
      ) in
      (before, record { rows = refl; opened = both.1 }, record { calls = some_on before mid e chain.1 (one_takes mid e one); settled = λ _. one_settled mid e one })

  -- and those that change nothing then right after it
  pub taken_after : (k : ℕ) (mid : List Observed) (e : Configuration) → e.rows ≡ d.home.tables → AreButSome IsAfter k mid e.opened → From MayCome c (record { rows = (transaction taken.0.call c.home.tables).database; opened = mid }) → From MayCome c e
  taken_after k mid e rows but first =
      let v : Database = (transaction taken.0.call c.home.tables).database in
      let q : Configuration = record { rows = v; opened = mid } in
      let is : e.rows ≡ v = rows ∙ taken.1.rows in
      let idle : MayCome q e = subst (λ w. MayCome q (record { rows = w; opened = e.opened })) (sym is) (idle_comes v k mid e.opened but) in
      (first.0, first.1, come_on first.0 q e first.2 idle)

  pub taken_from : (e : Configuration) → StandsFor d e → From MayCome c e
  taken_from e stands =
      let out = out_of d.opened.items e.opened taken.1.overwritten.others stands.opened in
      taken_after d.overwritten out.0 e stands.rows out.2 (taken_before (record { rows = (transaction taken.0.call c.home.tables).database; opened = out.0 }) (sym taken.1.rows) out.1)

  pub taken_fewer : IsFewer c d
  taken_fewer =
      let v : Database = (transaction taken.0.call c.home.tables).database in
      let le = left_shorter v (remove c.opened.items i) d.opened.items taken.1.settled in
      let size = removed_length c.opened.items i (get_inside c.opened.items i taken.0 taken.1.at) in
      record {
        few = omega (arith, le, size);
        own = taken.1.own;
        accepted = ready_after c d i taken;
        apart = λ h. left_apart v (remove c.opened.items i) d.opened.items taken.1.settled (removed_apart c.opened.items i h);
      }

  -- so each order that leads on from what the call makes leads on from the configuration after it
  pub taken_on : (Known : List Event → Type 0) → TakesOn Known c i d
  taken_on Known = record {
    sound = taken_from;
    served = λ asked after events e known apart there on. let k = taken_there (IsOtherTime asked) e there in (e, record { rows = k.0; opened = k.1 }, omega arith, on);
    less = taken_fewer;
  }

-- ---- one call is asked
earlier_first : (k m : ℕ) → earlier k m ≤ k
earlier_first k m = elim (nat_le k m) as (λ b. nat_le k m ≡ b → cond b k m ≤ k) [
  | true ↦ λ e. omega arith
  | false ↦ λ e. let lt = leb-false k m e in omega (arith, lt)
] refl

earlier_second : (k m : ℕ) → earlier k m ≤ m
earlier_second k m = elim (nat_le k m) as (λ b. nat_le k m ≡ b → cond b k m ≤ m) [
  | true ↦ λ e. leb-true k m e
  | false ↦ λ e. omega arith
] refl

before_both : (n k m : ℕ) → n < k → n < m → n < earlier k m
before_both n k m first second = elim (nat_le k m) as (λ b. n < cond b k m) [ true ↦ first | false ↦ second ]

-- fewer may be left out before an earlier time, and no fewer where all were asked before that
earlier_but : (F : Observed → Type 0) (k m : ℕ) (xs ys : List Observed) → AreButSome F (earlier k m) xs ys → AreButSome F k xs ys
earlier_but F k m xs ys a = but_map F F (λ x f. f) (earlier k m) k (earlier_first k m) xs ys a

but_earlier : (F : Observed → Type 0) (k m : ℕ) (xs ys : List Observed) → AllByRecursion (λ (z : Observed). z.asked < m) xs → AreButSome F k xs ys → AreButSome F (earlier k m) xs ys
but_earlier F k m xs ys all a = but_by F F k (earlier k m) xs ys (each xs all) a
  where
    each : (zs : List Observed) → AllByRecursion (λ (z : Observed). z.asked < m) zs → AllByRecursion (λ (z : Observed). z.asked < k → F z → (z.asked < earlier k m) × F z) zs
    each [] h = tt
    each (z ∷ zs) h = ((λ lt f. (before_both z.asked k m lt h.0, f)), each zs h.1)

module _ (c d : Held) (x : Observed) (asked : IsAsked c x d) (over : d.overwritten ≡ earlier c.overwritten x.asked) where
  abbrev Stands : Configuration → Configuration → ℕ → Type 0
  Stands e b k = (e.rows ≡ b.rows) × AreButSome (IsBlind b.rows) k b.opened e.opened

  -- what the second stands for, by the rows and calls of another
  seen_as : (b : Configuration) → seen d ≡ b → (e : Configuration) → StandsFor d e → Stands e b (earlier c.overwritten x.asked)
  seen_as b same e h = subst (Stands e b) over (subst (λ (q : Configuration). Stands e q d.overwritten) same (h.rows, h.opened))

  as_seen : (b : Configuration) → seen d ≡ b → (e : Configuration) → Stands e b (earlier c.overwritten x.asked) → StandsFor d e
  as_seen b same e h = let k : Stands e (seen d) d.overwritten = subst (Stands e (seen d)) (sym over) (subst (λ (q : Configuration). Stands e q (earlier c.overwritten x.asked)) (sym same) h) in record { rows = k.0; opened = k.1 }

  abbrev next : Configuration
  next = record { rows = c.home.tables; opened = x ∷ c.opened.items }

  pub asked_from : (e : Configuration) → StandsFor d e → From (FollowsAtOnce (Asks x)) c e
  asked_from e h = elim asked.follows [
    | inl p ↦
        let k = seen_as (seen c) p.1 e h in
        (e, record { rows = k.0; opened = earlier_but (IsBlind c.home.tables) c.overwritten x.asked c.opened.items e.opened k.1 }, inl (subst (λ v. NeedsNoPlace v x) (sym k.0) p.0, refl))
    | inr p ↦
        let k = seen_as next p.1 e h in
        elim k.1 [
          | inl q ↦ (
            record { rows = c.home.tables; opened = q.0 },
            record { rows = refl; opened = earlier_but (IsBlind c.home.tables) c.overwritten x.asked c.opened.items q.0 q.2 },
            inr (p.0, λ i. record { rows = k.0 i; opened = q.1 i }),
          )
          | inr q ↦ let lt = q.0 in let le = earlier_second c.overwritten x.asked in absurd (omega (arith, lt, le))
        ]
  ]

  pub asked_stands : IsLater (Asks x) c → (e : Configuration) → From (FollowsAtOnce (Asks x)) c e → StandsFor d e
  asked_stands later e h =
      let but = but_earlier (IsBlind c.home.tables) c.overwritten x.asked c.opened.items h.0.opened later h.1.opened in
      elim asked.follows [
        | inl p ↦ elim h.2 [
          | inl q ↦ as_seen (seen c) p.1 e (ap (λ (b : Configuration). b.rows) q.1 ∙ h.1.rows, subst (λ (b : Configuration). AreButSome (IsBlind c.home.tables) (earlier c.overwritten x.asked) c.opened.items b.opened) (sym q.1) but)
          | inr q ↦ absurd (q.0 (subst (λ v. NeedsNoPlace v x) (sym h.1.rows) p.0))
        ]
        | inr p ↦ elim h.2 [
          | inl q ↦ absurd (p.0 (subst (λ v. NeedsNoPlace v x) h.1.rows q.0))
          | inr q ↦ as_seen next p.1 e (ap (λ (b : Configuration). b.rows) q.1 ∙ h.1.rows, inl (h.0.opened, ap (λ (b : Configuration). b.opened) q.1, but))
        ]
      ]

-- ---- what is gained at an event
pub gains_map : (P Q R S : Configuration → Type 0) (old new : List Held) → ((d : Configuration) → P d → R d) → ((d : Configuration) → S d → Q d) → Gains P Q old new → Gains R S old new
gains_map P Q R S old new f g gains = record {
  kept = gains.kept;
  sound = λ d h. elim (gains.sound d h) [ inl k ↦ inl k | inr k ↦ inr (f d k) ];
  found = λ d h. gains.found d (g d h);
}

pub none_of : (c : Held) (asked : ℕ) → NoneAskedAt asked c.opened.items → (e : Configuration) → StandsFor c e → NoneAskedAt asked e.opened
none_of c asked none e h = but_all (IsBlind c.home.tables) c.overwritten (λ (x : Observed). x.asked ≡ asked → ⊥) c.opened.items e.opened h.opened none

-- a call ends that isn't open
pub same_followed : (c d : Held) (asked at : ℕ) (rest : List Event) (old new : List Held) → NoneAskedAt asked c.opened.items → ((e : Configuration) → StandsFor d e ↔ StandsFor c e) → Gains (StandsFor d) (StandsFor d) old new
    → AreFollowed (Ends asked at) rest c new
same_followed c d asked at rest old new none same gains = λ to e stands on. (e, gains.found e ((same e).1 stands), end_on to asked at rest e (none_of c asked none e stands) on)

pub same_sound : (c d : Held) (asked at : ℕ) (old new : List Held) → NoneAskedAt asked c.opened.items → ((e : Configuration) → StandsFor d e ↔ StandsFor c e) → Gains (StandsFor d) (StandsFor d) old new
    → (e : Configuration) → OneStandsFor new e → IsRepresentedOr old (From (MayFollow (Ends asked at)) c) e
same_sound c d asked at old new none same gains = λ e h. elim (gains.sound e h) [
  | inl k ↦ inl k
  | inr k ↦ let own = (same e).0 k in inr (e, own, (come_none e, none_of c asked none e own))
]

-- a call is asked
pub asked_followed : (c d : Held) (x : Observed) (rest : List Event) (old new : List Held) → IsLater (Asks x) c → IsAsked c x d → d.overwritten ≡ earlier c.overwritten x.asked → Gains (StandsFor d) (StandsFor d) old new → AreFollowed (Asks x) rest c new
asked_followed c d x rest old new later asked over gains = λ to b stands on.
    let next = event_on to (Asks x) rest b on in
    (next.0, gains.found next.0 (asked_stands c d x asked over later next.0 (b, stands, next.1)), next.2)

pub asked_sound : (c d : Held) (x : Observed) (old new : List Held) → IsAsked c x d → d.overwritten ≡ earlier c.overwritten x.asked → Gains (StandsFor d) (StandsFor d) old new
    → (e : Configuration) → OneStandsFor new e → IsRepresentedOr old (From (MayFollow (Asks x)) c) e
asked_sound c d x old new asked over gains = λ e h. elim (gains.sound e h) [ inl k ↦ inl k | inr k ↦ inr (asked_from c d x asked over e k) ]

pub asked_many : (most : ℕ) (c d : Held) (x : Observed) (old : List Held) → IsAsked c x d → d.overwritten ≡ earlier c.overwritten x.asked → AreMoreThan most (IsRepresentedOr old (StandsFor d)) → AreMoreThan most (IsRepresentedOr old (From (MayBeTried (Asks x)) c))
asked_many most c d x old asked over many = more_than most (IsRepresentedOr old (StandsFor d)) (IsRepresentedOr old (From (MayBeTried (Asks x)) c)) (λ e h. elim h [
  | inl k ↦ inl k
  | inr k ↦ inr (asked_from c d x asked over e k)
]) many

-- one that has to take effect yet
pub gone_kept : (c : Held) (asked : ℕ) (old : List Held) → Opens asked (seen c) → IsLetGo asked c None → GainsGone asked c old old
gone_kept c asked old opens none = record { kept = λ e h. h; sound = λ e h. inl h; found = λ e h. absurd (none opens e h.stands h.none) }

-- one that may have done so
pub gone_added : (c d : Held) (asked : ℕ) (old new : List Held) → IsLetGo asked c (Some d) → NoneAskedAt asked d.opened.items → Gains (StandsFor d) (StandsFor d) old new → GainsGone asked c old new
gone_added c d asked old new go none gains = gains_map (StandsFor d) (StandsFor d) (From (MayAnswer asked) c) (IsGone asked c) old new
    (λ e h. (e, go.0 e h, (come_none e, none_of d asked none e h))) (λ e h. go.4 e h.stands h.none) gains

-- beside another one of its time it doesn't
pub gone_other : (c d : Held) (asked : ℕ) (old : List Held) → IsLetGo asked c (Some d) → (NoneAskedAt asked d.opened.items → ⊥) → GainsGone asked c old old
gone_other c d asked old go some = record { kept = λ e h. h; sound = λ e h. inl h; found = λ e h. absurd (some (go.3 h.apart)) }

-- all that follows where it ends
pub out_on : (asked at : ℕ) (rest : List Event) (old new tried : List Held) → ((d : Configuration) → OneStandsFor old d → OneStandsFor new d) → AreTriedOut asked at rest old tried → AreTriedOut asked at rest new tried
out_on asked at rest old new tried kept out d h opens after on = elim (out d h opens after on) [ inl k ↦ inl (k.0, kept k.0 k.1, k.2) | inr k ↦ inr k ]

pub gone_followed : (c : Held) (asked at : ℕ) (rest : List Event) (old mid new : List Held) → IsApart c → GainsGone asked c old mid → ((e : Configuration) → OneStandsFor mid e → OneStandsFor new e) → AreAnswered asked at rest c new
    → AreFollowed (Ends asked at) rest c new
gone_followed c asked at rest old mid new apart gone kept answered = λ to e stands on. elim (find_asked asked e.opened) [
  | inl none ↦ (e, kept e (gone.found e (record { apart = apart; stands = stands; none = none })), end_on to asked at rest e none on)
  | inr some ↦ answered to e stands (λ none. in_all (λ (w : Observed). w.asked ≡ asked → ⊥) some.0 e.opened none some.1 some.2) on
]

pub gone_sound : (c : Held) (asked : ℕ) (old mid new : List Held) → GainsGone asked c old mid → ((e : Configuration) → OneStandsFor new e → IsRepresentedOr mid (From (MayAnswer asked) c) e)
    → (e : Configuration) → OneStandsFor new e → IsRepresentedOr old (From (MayAnswer asked) c) e
gone_sound c asked old mid new gone sound = λ e h. elim (sound e h) [ inl k ↦ gone.sound e k | inr k ↦ inr k ]

pub taken_many : (most : ℕ) (c : Held) (asked : ℕ) (old mid : List Held) → GainsGone asked c old mid → AreMoreThan most (IsRepresentedOr mid (From MayCome c)) → AreMoreThan most (IsRepresentedOr old (From MayCome c))
taken_many most c asked old mid gains many = more_than most (IsRepresentedOr mid (From MayCome c)) (IsRepresentedOr old (From MayCome c)) (λ e h. elim h [
  | inl k ↦ elim (gains.sound e k) [ inl q ↦ inl q | inr q ↦ inr (q.0, q.1, q.2.0) ]
  | inr k ↦ inr k
]) many

pub covered_many : (most : ℕ) (c d : Held) (old : List Held) → Covers c d → AreMoreThan most (IsRepresentedOr old (StandsFor d)) → AreMoreThan most (IsRepresentedOr old (From MayCome c))
covered_many most c d old covers many = more_than most (IsRepresentedOr old (StandsFor d)) (IsRepresentedOr old (From MayCome c)) (λ e h. elim h [
  | inl k ↦ inl k
  | inr k ↦ inr (e, covers e k, come_none e)
]) many

-- ---- a call that is let go
pub gone_some : (asked : ℕ) (c d : Held) (i : ℕ) (x : Observed) → slice_get c.opened.items i ≡ Some x → x.asked ≡ asked → x.asked < c.overwritten → IsBlind c.home.tables x
    → d.home ≡ c.home → d.opened.items ≡ remove c.opened.items i → d.overwritten ≡ c.overwritten → IsLetGo asked c (Some d)
gone_some asked c d i x at is early blind home opened over =
    let F : Observed → Type 0 = IsBlind c.home.tables in
    let others = remove c.opened.items i in
    let k : ℕ = c.overwritten in (
      λ e h. record {
        rows = h.rows ∙ ap (λ (b : SubscriberRows). b.tables) home;
        opened = but_back F c.overwritten c.opened.items i x e.opened at early blind
            (subst (λ (b : SubscriberRows). AreButSome (IsBlind b.tables) k others e.opened) home (subst (λ m. AreButSome (IsBlind d.home.tables) m others e.opened) over (subst (λ xs. AreButSome (IsBlind d.home.tables) d.overwritten xs e.opened) opened h.opened)));
      },
      ap (λ (b : SubscriberRows). b.s_id) home,
      (λ h. subst AreAccepted (sym opened) (all_remove (λ (z : Observed). arguments_accepted z.call ≡ Ok tt) c.opened.items i h)),
      (λ apart. subst (NoneAskedAt asked) (sym opened) (subst (λ t. NoneAskedAt t others) is (removed_none c.opened.items i x apart at))),
      λ e h none.
          let gone = but_gone F c.overwritten asked c.opened.items i x e.opened at is none h.opened in
          record {
            rows = h.rows ∙ ap (λ (b : SubscriberRows). b.tables) (sym home);
            opened = subst (λ (b : SubscriberRows). AreButSome (IsBlind b.tables) d.overwritten d.opened.items e.opened) (sym home)
                (subst (λ m. AreButSome F m d.opened.items e.opened) (sym over) (subst (λ xs. AreButSome F k xs e.opened) (sym opened) gone.2));
          },
    )

pub gone_none : (asked : ℕ) (c : Held) (i : ℕ) (x : Observed) → slice_get c.opened.items i ≡ Some x → x.asked ≡ asked → (x.asked < c.overwritten → IsBlind c.home.tables x → ⊥) → IsLetGo asked c None
gone_none asked c i x at is other = λ opens e h none. let gone = but_gone (IsBlind c.home.tables) c.overwritten asked c.opened.items i x e.opened at is none h.opened in other gone.0 gone.1

pub gone_nowhere : (asked : ℕ) (c : Held) → ((k : ℕ) (x : Observed) → slice_get c.opened.items k ≡ Some x → x.asked ≡ asked → ⊥) → IsLetGo asked c None
gone_nowhere asked c none = λ opens e h k. opens (all_of_get (λ (x : Observed). x.asked ≡ asked → ⊥) c.opened.items none)
