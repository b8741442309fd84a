-- Checkpoints: what an extent hands out is a chapter. Chapters that are joined end to end are one history.
use Rattle.std.proofs.Common.{◌≡◌, ℕ, zero, suc, ◌+◌, ◌-◌, ◌<◌, ◌≤◌, nat_lt, true, false, if◌then◌else◌, List, [], ◌∷◌, ◌++◌, All, Option, Some, refl, sym, ◌∙◌, ap, subst, arith}
use Rattle.std.specs.Option.{option_map, option_to_list}
use Rattle.std.proofs.lemmas.Bool.Decides.{nat_tests}
use Rattle.std.proofs.lemmas.List.{append_assoc}
use Rattle.std.proofs.lemmas.List.Elements.{All-head, All-tail, All-append}
use Rattle.tatp_limits.specs.declared.limits.TheConstants.{MAX_EXTENT_CHAPTERS}
use Rattle.tatp_homes.specs.Home.{SubscriberRows}
use Rattle.tatp_calls.specs.declared.entry.Entry.{Entry}
use Rattle.tatp_extents.specs.Histories.{Leads, StampsRise, IsHistory}
use Rattle.tatp_logs.specs.Logs.{last_stamp_from}
use Rattle.tatp_extents.specs.Extents.{ExtentState, IsExtent}
use Rattle.tatp_extents.specs.HomelessLog.{HomelessState, IsHomeless, IsHomelessHistory, RecordsHomeless}
use Rattle.tatp_extents.specs.Chapters.{ChapterState, IsChapterOfHomes, IsChapterOf, IsChapter, chapter_of, homeless_chapter_of, Joins, entries_joined, EachLeads, EachRises, chapters_listed, homes_due_from}
use Rattle.tatp_extents.proofs.HistoryLaws.{last_of_more}

-- ---- stamps
pub rise_from_less : (less least : ℕ) (log : List Entry) → less ≤ least → StampsRise least log → StampsRise less log
rise_from_less less least [] l h = tt
rise_from_less less least (e ∷ more) l h = (omega (arith, l, h.0), h.1)

pub rise_on : (least : ℕ) (log more : List Entry) → StampsRise least log → StampsRise (last_stamp_from least log) more → StampsRise least (log ++ more)
rise_on least [] more h k = k
rise_on least (e ∷ log) more h k = (h.0, rise_on e.stamp log more h.1 (subst (λ (n : ℕ). StampsRise n more) (last_of_more least e log) k))

-- ---- homes
pub leads_on : (before : List SubscriberRows) (log more : List Entry) (between after : List SubscriberRows) → Leads before log between → Leads between more after → Leads before (log ++ more) after
leads_on before [] more between after h k = subst (λ (t : List SubscriberRows). Leads t more after) h k
leads_on before (e ∷ log) more between after h k = (h.0, h.1, h.2, leads_on h.1 log more between after h.3 k)

-- ---- a checkpoint
of_number : (e : ℕ) (c : ChapterState) → 1 ≤ e → IsChapterOfHomes c → IsChapterOf e c
of_number zero c l h = absurd (omega (arith, l))
of_number (suc e) c l h = h

pub is_chapter : (x : ExtentState) → IsExtent x → x.mixed ≡ false → x.chapters < MAX_EXTENT_CHAPTERS → IsChapter (chapter_of x)
is_chapter x h unmixed few =
    let past : IsHistory x.kept_stamp x.opening x.log x.homes = h.history unmixed in
    record {
      few = few;
      history = of_number x.number (chapter_of x) h.of_extent.numbered (record {
        of_extent = h.of_extent;
        history = record { leads = past.leads; rise = rise_from_less 0 x.kept_stamp x.log (omega arith) past.rise };
      });
    }

pub is_homeless_chapter : (h : HomelessState) → IsHomeless h.mixed h.kept_stamp h.log → h.mixed ≡ false → h.chapters < MAX_EXTENT_CHAPTERS → IsChapter (homeless_chapter_of h)
is_homeless_chapter h history unmixed few =
    let past : IsHomelessHistory h.kept_stamp h.log = history unmixed in
    record { few = few; history = record { before = refl; after = refl; history = record { entries = past.entries; rise = rise_from_less 0 h.kept_stamp h.log (omega arith) past.rise } } }

-- ---- chapters joined end to end
-- their entries, and then a log that goes on from the last homes, lead from the first homes to those to which the log leads
pub joined_lead : (before : List SubscriberRows) (chapters : List ChapterState) (opening : List SubscriberRows) (log : List Entry) (homes : List SubscriberRows) → Joins before chapters opening → EachLeads chapters → Leads opening log homes
    → Leads before (entries_joined chapters ++ log) homes
joined_lead before [] opening log homes j each h = subst (λ (t : List SubscriberRows). Leads t log homes) j h
joined_lead before (c ∷ more) opening log homes j each h =
    let L = λ (d : ChapterState). Leads d.before d.entries d.after in
    let first : Leads before c.entries c.after = subst (λ (t : List SubscriberRows). Leads t c.entries c.after) j.0 (All-head L c more each) in
    let rest : Leads c.after (entries_joined more ++ log) homes = joined_lead c.after more opening log homes j.1 (All-tail L c more each) h in
    subst (λ (l : List Entry). Leads before l homes) (sym (append_assoc c.entries (entries_joined more) log)) (leads_on before c.entries (entries_joined more ++ log) c.after homes first rest)

-- without homes: all entries are of transactions without rows
pub joined_homeless : (chapters : List ChapterState) (log : List Entry) → All (λ (c : ChapterState). All RecordsHomeless c.entries) chapters → All RecordsHomeless log → All RecordsHomeless (entries_joined chapters ++ log)
joined_homeless [] log each h = h
joined_homeless (c ∷ more) log each h =
    let R = λ (d : ChapterState). All RecordsHomeless d.entries in
    subst (All RecordsHomeless) (sym (append_assoc c.entries (entries_joined more) log))
    (All-append RecordsHomeless c.entries (entries_joined more ++ log) (All-head R c more each) (joined_homeless more log (All-tail R c more each) h))

pub joined_rise : (least : ℕ) (chapters : List ChapterState) (log : List Entry) → EachRises least chapters log → StampsRise least (entries_joined chapters ++ log)
joined_rise least [] log h = h
joined_rise least (c ∷ more) log h =
    subst (StampsRise least) (sym (append_assoc c.entries (entries_joined more) log))
    (rise_on least c.entries (entries_joined more ++ log) h.0 (joined_rise (last_stamp_from least c.entries) more log h.1))

-- ---- whatever chapter stands at each number
module _ (at : ℕ → Option ChapterState) where
  -- where each part goes on from where the one before it ended, the parts join end to end
  pub parts_join : (first count : ℕ) (homes opening : List SubscriberRows)
      → ((i : ℕ) → i < count → (c : ChapterState) × (at (first + i) ≡ Some c))
      → ((i : ℕ) (c : ChapterState) → i < count → at (first + i) ≡ Some c → Some c.before ≡ homes_due_from at first homes (first + i))
      → (Some opening ≡ homes_due_from at first homes (first + count))
      → Joins homes (chapters_listed at first count) opening
  parts_join first zero homes opening there goes last =
      let here : nat_lt first (first + 0) ≡ false = grind (arith, nat_tests) in
      let is : Some opening ≡ Some homes = last ∙ ap (λ b. if b then option_map (λ (c : ChapterState). c.after) (at (first + 0 - 1)) else Some homes) here in
      cc
  parts_join first (suc count) homes opening there goes last =
      let found = there 0 (omega arith) in
      let c : ChapterState = found.0 in
      let zero_is : first + 0 ≡ first = omega arith in
      let is : at first ≡ Some c = ap at (sym zero_is) ∙ found.1 in
      let here : nat_lt first (first + 0) ≡ false = grind (arith, nat_tests) in
      let before : Some c.before ≡ Some homes = goes 0 c (omega arith) found.1 ∙ ap (λ b. if b then option_map (λ (d : ChapterState). d.after) (at (first + 0 - 1)) else Some homes) here in
      let same : c.before ≡ homes = cc in
      let due_on : (i : ℕ) → homes_due_from at first homes (first + suc i) ≡ homes_due_from at (first + 1) c.after (first + 1 + i) = due_next first homes c is in
      let rest : Joins c.after (chapters_listed at (first + 1) count) opening =
      parts_join (first + 1) count c.after opening
      (λ i l. let up : first + suc i ≡ first + 1 + i = omega arith in subst (λ (k : ℕ). (d : ChapterState) × (at k ≡ Some d)) up (there (suc i) (omega (arith, l))))
      (λ i d l found. let up : first + 1 + i ≡ first + suc i = omega arith in goes (suc i) d (omega (arith, l)) (ap at (sym up) ∙ found) ∙ due_on i)
      (last ∙ due_on count) in
      subst (λ (o : Option ChapterState). Joins homes (option_to_list o ++ chapters_listed at (first + 1) count) opening) (sym is) (same, rest)
    where
      due_next : (first : ℕ) (homes : List SubscriberRows) (c : ChapterState) → at first ≡ Some c → (i : ℕ) → homes_due_from at first homes (first + suc i) ≡ homes_due_from at (first + 1) c.after (first + 1 + i)
      due_next first homes c is zero =
          let later : nat_lt first (first + suc 0) ≡ true = grind (arith, nat_tests) in
          let back : first + suc 0 - 1 ≡ first = omega arith in
          let not_later : nat_lt (first + 1) (first + 1 + 0) ≡ false = grind (arith, nat_tests) in
          ap (λ b. if b then option_map (λ (d : ChapterState). d.after) (at (first + suc 0 - 1)) else Some homes) later
          ∙ (ap (λ k. option_map (λ (d : ChapterState). d.after) (at k)) back ∙ (ap (option_map (λ (d : ChapterState). d.after)) is
          ∙ sym (ap (λ b. if b then option_map (λ (d : ChapterState). d.after) (at (first + 1 + 0 - 1)) else Some c.after) not_later)))
      due_next first homes c is (suc i) =
          let later : nat_lt first (first + suc (suc i)) ≡ true = grind (arith, nat_tests) in
          let also : nat_lt (first + 1) (first + 1 + suc i) ≡ true = grind (arith, nat_tests) in
          let same : first + suc (suc i) - 1 ≡ first + 1 + suc i - 1 = omega arith in
          ap (λ b. if b then option_map (λ (d : ChapterState). d.after) (at (first + suc (suc i) - 1)) else Some homes) later
          ∙ (ap (λ k. option_map (λ (d : ChapterState). d.after) (at k)) same
          ∙ sym (ap (λ b. if b then option_map (λ (d : ChapterState). d.after) (at (first + 1 + suc i - 1)) else Some c.after) also))
