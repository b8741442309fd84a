-- Where no extent and no chapter is a cause, the population stands once: each extent's chapters lead end to end to its log, and stamps rise through them all.
use Rattle.std.proofs.Common.{◌≡◌, ℕ, zero, suc, ◌+◌, ◌-◌, ◌<◌, ◌≤◌, nat_lt, Bool, true, false, if◌then◌else◌, List, [], ◌∷◌, ◌++◌, Contains, Option, Some, None, is_some, zero-add, refl, sym, ◌∙◌, ap, subst, arith, inl, inr}
use Rattle.std.specs.Coded.{coded_list, coded_option}
use Rattle.std.specs.Option.{option_map, option_map_or, option_to_list}
use Rattle.std.proofs.lemmas.Bool.{lt-ltb, le-ltb, ltb-true, cases_lt}
use Rattle.tatp_homes.specs.Home.{SubscriberRows, subscriber_rows_code}
use Rattle.tatp_tables.specs.declared.row.Rows.{Rows}
use Rattle.tatp_tables.specs.Database.{database_of}
use Rattle.tatp_calls.specs.declared.entry.Entry.{Entry}
use Rattle.tatp_extents.specs.Histories.{StampsRise}
use Rattle.tatp_logs.specs.Logs.{last_stamp_from}
use Rattle.tatp_extents.specs.Extents.{ExtentState}
use Rattle.tatp_extents.specs.Chapters.{ChapterState, Joins, EachRises, chapters_listed, homes_due_from}
use Rattle.tatp_extents.proofs.ChapterLaws.{joined_rise, parts_join}
use Rattle.tatp_settle.specs.declared.cause.Unsettled.TheVariants.{Mixed, ParcelLeft, Doubled, ChapterMissing, ChapterTwice, ChapterDiffers}
use Rattle.tatp_settle.specs.Closings.{ClosedState, ExtentLog, log_numbered, chapter_count, entries_since, is_chapter, times_come, chapter_numbered, chapters_numbered, entries_numbered, times_standing, IsClosed}
use Rattle.tatp_settle.specs.Runs.{Run, homes_at_first}
use Rattle.tatp_settle.specs.CallPlaces.{HoldsNowhere}
use Rattle.tatp_settle.specs.Causes.{IsMixed, IsChapterMissing, IsChapterTwice, homes_before, entries_of_part, homes_due, IsUnjoined, NamesHome}
use Rattle.tatp_settle.specs.CauseOrder.{NoneOfFirst}
use Rattle.tatp_settle.specs.Settlements.{IsPopulationOnce}
use Rattle.tatp_settle.proofs.StableLaws.{at_most, equal_unless}
use Rattle.tatp_settle.proofs.FoundLaws.{first_counted, log_rises, chapter_found, chapter_rises}
use Rattle.tatp_settle.proofs.RisingLaws.{rise_above, above_least, last_is, part_rises}

-- ---- parts
-- what stands before a part, by whether it is a chapter
abbrev before_which : Bool → Option ChapterState → Option ExtentLog → Option (List SubscriberRows)
before_which b chapter log = if b then option_map (λ (x : ChapterState). x.before) chapter else option_map (λ (l : ExtentLog). l.opening) log

abbrev entries_of_which : Bool → Option ChapterState → List Entry → List Entry
entries_of_which b chapter since = if b then option_map_or (λ (x : ChapterState). x.entries) chapter [] else since

abbrev after_of : Option ChapterState → Option (List SubscriberRows)
after_of chapter = option_map (λ (x : ChapterState). x.after) chapter

module _ (c : ClosedState) (e : ℕ) where
  before_chapter : (i : ℕ) (d : ChapterState) → i < chapter_count c e → chapter_numbered c e i ≡ Some d → homes_before c e i ≡ Some d.before
  before_chapter i d l is = λ k. before_which (lt-ltb i (chapter_count c e) l k) (is k) (log_numbered c e)

  before_log : (log : ExtentLog) → log_numbered c e ≡ Some log → homes_before c e (chapter_count c e) ≡ Some log.opening
  before_log log is = λ k. before_which (le-ltb (chapter_count c e) (chapter_count c e) (omega arith) k) (chapter_numbered c e (chapter_count c e)) (is k)

  of_chapter : (i : ℕ) (d : ChapterState) → i < chapter_count c e → chapter_numbered c e i ≡ Some d → entries_of_part c e i ≡ d.entries
  of_chapter i d l is = λ k. entries_of_which (lt-ltb i (chapter_count c e) l k) (is k) (entries_since c e)

  of_log : entries_of_part c e (chapter_count c e) ≡ entries_since c e
  of_log = ap (λ b. entries_of_which b (chapter_numbered c e (chapter_count c e)) (entries_since c e)) (le-ltb (chapter_count c e) (chapter_count c e) (omega arith))

  due_from : (population : Rows) (homes : List SubscriberRows) → homes_at_first population e ≡ Some homes → (i : ℕ) → homes_due population c e i ≡ homes_due_from (chapter_numbered c e) 0 homes i
  due_from population homes is zero = is
  due_from population homes is (suc i) =
      let back : suc i - 1 ≡ i = omega arith in
      ap (λ (k : ℕ). after_of (chapter_numbered c e k)) (sym back) ∙ sym (ap (λ b. if b then after_of (chapter_numbered c e (suc i - 1)) else Some homes) (lt-ltb 0 (suc i) (omega arith)))

  -- this stamp is below those of the part of this number, and of all later ones
  abbrev IsBelowFrom : ℕ → ℕ → Type 0
  IsBelowFrom first least = (i : ℕ) (x : Entry) → first ≤ i → i ≤ chapter_count c e → Contains (entries_of_part c e i) x → least < x.stamp

-- ---- where no extent and no chapter is a cause
module _ (population : Rows) (c : ClosedState) (closed : IsClosed c) (unmixed : (e : ℕ) → IsMixed c e → ⊥) (missing : HoldsNowhere (IsChapterMissing c)) (twice : HoldsNowhere (IsChapterTwice c)) (unjoined : HoldsNowhere (IsUnjoined population c)) where
  came : (e i : ℕ) → i < chapter_count c e → times_come c e i ≡ 1
  came e i l =
      let least : 1 ≤ times_come c e i = at_most 1 (times_come c e i) (λ less. missing e i (record { handed_out = l; missing = omega (arith, less) })) in
      let most : times_come c e i ≤ 1 = at_most (times_come c e i) 1 (λ more. twice e i (inl (omega (arith, more)))) in
      omega (arith, least, most)

  no_other : (e i : ℕ) → chapter_count c e ≤ i → times_come c e i ≡ 0
  no_other e i l = let most : times_come c e i ≤ 0 = at_most (times_come c e i) 0 (λ more. twice e i (inr (omega (arith, more), l))) in omega (arith, most)

  -- the chapter that came
  chapter_here : (e i : ℕ) → i < chapter_count c e → (d : ChapterState) × (chapter_numbered c e i ≡ Some d)
  chapter_here e i l = let one = came e i l in first_counted (is_chapter e i) c.chapters (omega (arith, one))

  goes_on : (e i : ℕ) → i ≤ chapter_count c e → homes_before c e i ≡ homes_due population c e i
  goes_on e i l = equal_unless (coded_option (coded_list subscriber_rows_code)) (homes_before c e i) (homes_due population c e i) (λ other. unjoined e i (record { within = l; differs = inl other }))

  -- the first part is there exactly where the extent stands
  first_part : (e : ℕ) → is_some (homes_before c e 0) ≡ is_some (log_numbered c e)
  first_part e = by (log_numbered c e) refl
    where
      by : (v : Option ExtentLog) → log_numbered c e ≡ v → is_some (homes_before c e 0) ≡ is_some v
      by None is =
          let none : chapter_count c e ≡ 0 = ap (λ (v : Option ExtentLog). option_map_or (λ (log : ExtentLog). log.chapters) v 0) is in
          let past : nat_lt 0 (chapter_count c e) ≡ false = le-ltb 0 (chapter_count c e) (omega (arith, none)) in
          λ k. is_some (before_which (past k) (chapter_numbered c e 0) (is k))
      by (Some log) is = elim (nat_lt 0 (chapter_count c e)) as (λ b. nat_lt 0 (chapter_count c e) ≡ b → is_some (before_which b (chapter_numbered c e 0) (log_numbered c e)) ≡ true) [
        | true ↦ λ some. let d = chapter_here e 0 (ltb-true 0 (chapter_count c e) some) in ap (λ (v : Option ChapterState). is_some (option_map (λ (x : ChapterState). x.before) v)) d.1
        | false ↦ λ none. ap (λ (v : Option ExtentLog). is_some (option_map (λ (l : ExtentLog). l.opening) v)) is
      ] refl

  stands : (e : ℕ) → is_some (log_numbered c e) ≡ is_some (homes_at_first population e)
  stands e = sym (first_part e) ∙ ap is_some (goes_on e 0 (omega arith))

  -- the chapters lead end to end from the population's homes to those from which the log goes on
  joined : (e : ℕ) (log : ExtentLog) (homes : List SubscriberRows) → log_numbered c e ≡ Some log → homes_at_first population e ≡ Some homes → Joins homes (chapters_numbered c e) log.opening
  joined e log homes is first =
      let n : ℕ = chapter_count c e in
      parts_join (chapter_numbered c e) 0 n homes log.opening
      (λ i l. subst (λ (k : ℕ). (d : ChapterState) × (chapter_numbered c e k ≡ Some d)) (sym (zero-add i)) (chapter_here e i l))
      (λ i d l here.
      let one : chapter_numbered c e i ≡ Some d = ap (chapter_numbered c e) (sym (zero-add i)) ∙ here in
      sym (before_chapter c e i d l one) ∙ (goes_on e i (omega (arith, l)) ∙ (due_from c e population homes first i ∙ ap (homes_due_from (chapter_numbered c e) 0 homes) (sym (zero-add i)))))
      (sym (before_log c e log is) ∙ (goes_on e n (omega arith) ∙ (due_from c e population homes first n ∙ ap (homes_due_from (chapter_numbered c e) 0 homes) (sym (zero-add n)))))

  -- ---- stamps through all parts
  apart : (e i j : ℕ) (x y : Entry) → i < j → j ≤ chapter_count c e → Contains (entries_of_part c e i) x → Contains (entries_of_part c e j) y → x.stamp < y.stamp
  apart e i j x y l k in_one in_other = elim (cases_lt x.stamp y.stamp) [
    | inl less ↦ less
    | inr most ↦ absurd (unjoined e j (record { within = k; differs = inr (record { earlier = i; first = x; second = y; before = l; in_earlier = in_one; in_part = in_other; falls = most }) }))
  ]

  -- one part more in front of those that rise from any stamp below them
  one_part : (e first count least : ℕ) (v : Option ChapterState) → chapter_numbered c e first ≡ v → first < chapter_count c e → IsBelowFrom c e first least
      → ((next : ℕ) → IsBelowFrom c e (first + 1) next → EachRises next (chapters_listed (chapter_numbered c e) (first + 1) count) (entries_since c e))
      → EachRises least (option_to_list v ++ chapters_listed (chapter_numbered c e) (first + 1) count) (entries_since c e)
  one_part e first count least None is l under rest = rest least (λ i x from to inside. under i x (omega (arith, from)) to inside)
  one_part e first count least (Some d) is l under rest =
      let entries : d.entries ≡ entries_of_part c e first = sym (of_chapter c e first d l is) in (
        rise_above least d.entries (chapter_rises e d (chapter_found c e first d closed is)) (λ x inside. under first x (omega arith) (omega (arith, l)) (subst (λ (log : List Entry). Contains log x) entries inside)),
        rest (last_stamp_from least d.entries) (λ i x from to inside. elim (last_is least d.entries) [
          | inl same ↦ subst (λ (n : ℕ). n < x.stamp) (sym same) (under i x (omega (arith, from)) to inside)
          | inr last ↦ subst (λ (n : ℕ). n < x.stamp) last.is (apart e first i last.entry x (omega (arith, from)) to (subst (λ (log : List Entry). Contains log last.entry) entries last.stands) inside)
        ]),
      )

  each_rises : (e first count least : ℕ) → first + count ≡ chapter_count c e → IsBelowFrom c e first least → EachRises least (chapters_listed (chapter_numbered c e) first count) (entries_since c e)
  each_rises e first zero least is under =
      rise_above least (entries_since c e) (log_rises c e closed (unmixed e)) (λ x inside. under (chapter_count c e) x (omega (arith, is)) (omega arith) (subst (λ (log : List Entry). Contains log x) (sym (of_log c e)) inside))
  each_rises e first (suc count) least is under =
      one_part e first count least (chapter_numbered c e first) refl (omega (arith, is)) under (λ next below_rest. each_rises e (first + 1) count next (omega (arith, is)) below_rest)

  rise : (e : ℕ) → StampsRise 0 (entries_numbered c e)
  rise e =
      joined_rise 0 (chapters_numbered c e) (entries_since c e)
      (each_rises e 0 (chapter_count c e) 0 (zero-add (chapter_count c e)) (λ i x from to inside. above_least 0 (entries_of_part c e i) inside.0 x (part_rises c e i closed (unmixed e)) inside.1 inside.2))

-- no cause of the first six kinds holds, and no entry without a home names one: each extent stands once, at a site and unmixed, and its chapters join
pub population_once : (run : Run) → IsClosed run.closed → NoneOfFirst 6 run → HoldsNowhere (NamesHome (database_of run.population).subscribers run.closed) → IsPopulationOnce run
population_once run closed none homeless =
    let c : ClosedState = run.closed in
    let unmixed : (e : ℕ) → IsMixed c e → ⊥ = λ e h. none (Mixed e) (omega arith) h in
    let missing : HoldsNowhere (IsChapterMissing c) = λ e i h. none (ChapterMissing e i) (omega arith) h in
    let twice : HoldsNowhere (IsChapterTwice c) = λ e i h. none (ChapterTwice e i) (omega arith) h in
    let unjoined : HoldsNowhere (IsUnjoined run.population c) = λ e i h. none (ChapterDiffers e i) (omega arith) h in
    record {
      unmixed = unmixed;
      landed = no_parcel run.closed.parcels refl;
      once = λ e. at_most (times_standing c e) 1 (λ more. none (Doubled e) (omega arith) (omega (arith, more)));
      stands = stands run.population c closed unmixed missing twice unjoined;
      came = came run.population c closed unmixed missing twice unjoined;
      no_other = no_other run.population c closed unmixed missing twice unjoined;
      joined = joined run.population c closed unmixed missing twice unjoined;
      rise = rise run.population c closed unmixed missing twice unjoined;
      homeless = homeless;
    }
  where
    no_parcel : (parcels : List ExtentState) → run.closed.parcels ≡ parcels → run.closed.parcels ≡ []
    no_parcel [] is = is
    no_parcel (x ∷ more) is = absurd (none (ParcelLeft x.number) (omega arith) (x, subst (λ (l : List ExtentState). Contains l x) (sym is) (0, omega arith, refl), refl))
