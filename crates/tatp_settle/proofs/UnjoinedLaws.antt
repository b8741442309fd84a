-- The first part of a whole log that isn't joined to the parts before it, by homes and by stamps.
use Rattle.std.proofs.Common.{◌≡◌, ◌≢◌, ℕ, zero, suc, ◌+◌, ◌<◌, ◌≤◌, ◌⊎◌, inl, inr, Bool, true, false, if◌then◌else◌, List, [], ◌∷◌, length, Contains, Option, Some, None, slice_index_or, Decides, refl, sym, ◌∙◌, ap, subst, arith, add-one}
use Rattle.std.specs.Option.{option_map}
use Rattle.std.proofs.lemmas.Bool.{le-ltb, ltb-true, ltb-false, cases_Bool}
use Rattle.std.proofs.lemmas.Bool.Decides.{Decides-like}
use Rattle.tatp_homes.specs.Home.{SubscriberRows}
use Rattle.tatp_tables.specs.declared.row.Rows.{Rows}
use Rattle.tatp_calls.specs.declared.entry.Entry.{Entry}
use Rattle.tatp_extents.specs.Histories.{StampsRise}
use Rattle.tatp_logs.specs.Logs.{last_stamp_from}
use Rattle.tatp_extents.specs.Chapters.{ChapterState}
use Rattle.tatp_extents.proofs.HistoryLaws.{last_of_more}
use Rattle.tatp_settle.specs.Closings.{ClosedState, ExtentLog, log_numbered, chapter_count, chapter_numbered}
use Rattle.tatp_settle.specs.Runs.{homes_at_first}
use Rattle.tatp_settle.specs.Causes.{IsUnjoined, PartStampFalls, homes_before, homes_due, entries_of_part}
use Rattle.tatp_settle.specs.CallPlaces.{IsFirstNumber}
use Rattle.tatp_settle.specs.ChapterTables.{chapter_handed_out}
use Rattle.tatp_settle.specs.Stamping.{first_is_above}
use Rattle.tatp_settle.proofs.RisingLaws.{above_least, IsStampIn, last_is}
use Rattle.tatp_settle.proofs.ChapterTableLaws.{no_chapters, handed_out}
use Rattle.tatp_settle.proofs.SearchLaws.{Clear, clear_step, clear_all, lt_or}

-- ---- the stamps of one part
rises_above : (last : ℕ) (log : List Entry) → StampsRise 0 log → first_is_above last log ≡ true → StampsRise last log
rises_above last [] rise above = tt
rises_above last (x ∷ more) rise above = (ltb-true last x.stamp above, rise.1)

no_less : (least : ℕ) (log : List Entry) → StampsRise least log → least ≤ last_stamp_from least log
no_less least [] rise = omega arith
no_less least (x ∷ more) rise =
    let later = no_less x.stamp more rise.1 in
    let same = last_of_more least x more in
    omega (arith, later, same, rise.0)

-- the last stamp is the most
below_last : (least : ℕ) (log : List Entry) (k : ℕ) (x : Entry) → StampsRise least log → k < length log → slice_index_or log k x ≡ x → x.stamp ≤ last_stamp_from least log
below_last least [] k x rise l is = absurd (omega (arith, l))
below_last least (y ∷ more) zero x rise l is =
    let later = no_less y.stamp more rise.1 in
    let same = last_of_more least y more in
    let stamp : y.stamp ≡ x.stamp = ap (λ (z : Entry). z.stamp) is in
    omega (arith, later, same, stamp)
below_last least (y ∷ more) (suc k) x rise l is =
    let later = below_last y.stamp more k x rise.1 (omega (arith, l)) is in
    let same = last_of_more least y more in
    omega (arith, later, same)

-- where the first stamp isn't above, it is at most this
first_falls : (last : ℕ) (log : List Entry) → first_is_above last log ≡ false → (x : Entry) × Contains log x × (x.stamp ≤ last)
first_falls last [] h = absurd (let k : true ≡ false = h in cc)
first_falls last (x ∷ more) h = (x, (0, omega arith, refl), ltb-false last x.stamp h)

-- ---- the parts before this one
-- one of them has an entry with this stamp
pub record IsStampBefore (c : ClosedState) (e i stamp : ℕ) : Type 0 where
  pub earlier : ℕ
  pub before : earlier < i
  pub has : IsStampIn (entries_of_part c e earlier) stamp

-- no stamp of theirs is above this one, which is theirs, or 0
pub record IsLastBefore (c : ClosedState) (e i last : ℕ) : Type 0 where
  pub seen : (j : ℕ) (x : Entry) → j < i → Contains (entries_of_part c e j) x → x.stamp ≤ last
  pub from : (last ≡ 0) ⊎ IsStampBefore c e i last

-- they are joined, from the first homes on; this part is to go on from these homes, with stamps above the last one
pub record AreJoinedTo (c : ClosedState) (e i : ℕ) (first due : Option (List SubscriberRows)) (last : ℕ) : Type 0 where
  pub stamps : IsLastBefore c e i last
  pub due_is : (population : Rows) → first ≡ homes_at_first population e → due ≡ homes_due population c e i
  pub clear : (population : Rows) → first ≡ homes_at_first population e → Clear (IsUnjoined population c e) i

pub joined_from : (c : ClosedState) (e : ℕ) (first : Option (List SubscriberRows)) → AreJoinedTo c e 0 first first 0
joined_from c e first = record {
  stamps = record { seen = λ j x l stands. absurd (omega (arith, l)); from = inl refl };
  due_is = λ population is. is;
  clear = λ population is. record { below = λ n l u. omega (arith, l) };
}

-- what is tested of a part
abbrev pub GoesOn : ClosedState → ℕ → ℕ → Option (List SubscriberRows) → ℕ → Type 0
GoesOn c e i due last = (homes_before c e i ≡ due) × (first_is_above last (entries_of_part c e i) ≡ true)

-- what the test says of a part at hand, it says of this part
pub goes_on_is : (c : ClosedState) (e i : ℕ) (due : Option (List SubscriberRows)) (last : ℕ) (homes : Option (List SubscriberRows)) (entries : List Entry) (r : Bool) → homes ≡ homes_before c e i → entries ≡ entries_of_part c e i
    → Decides r ((homes ≡ due) × (first_is_above last entries ≡ true)) → Decides r (GoesOn c e i due last)
goes_on_is c e i due last homes entries r before of_part h = Decides-like r
    (λ (on : (homes ≡ due) × (first_is_above last entries ≡ true)). (sym before ∙ on.0, ap (first_is_above last) (sym of_part) ∙ on.1))
    (λ on. (before ∙ on.0, ap (first_is_above last) of_part ∙ on.1))
    h

module _ (c : ClosedState) (e i : ℕ) (first due : Option (List SubscriberRows)) (last : ℕ) (h : AreJoinedTo c e i first due last) (rise : StampsRise 0 (entries_of_part c e i)) where
  -- a part that goes on is joined
  goes_on : GoesOn c e i due last → (population : Rows) → first ≡ homes_at_first population e → IsUnjoined population c e i → ⊥
  goes_on on population is u = elim u.differs as (λ _. ⊥) [
    | inl differs ↦ differs (on.0 ∙ h.due_is population is)
    | inr f ↦
        let above = above_least last (entries_of_part c e i) f.in_part.0 f.second (rises_above last (entries_of_part c e i) rise on.1) f.in_part.1 f.in_part.2 in
        let seen = h.stamps.seen f.earlier f.first f.before f.in_earlier in
        let falls = f.falls in
        omega (arith, above, seen, falls)
  ]

  stamps_fall : first_is_above last (entries_of_part c e i) ≡ false → PartStampFalls c e i
  stamps_fall falls = by (first_falls last (entries_of_part c e i) falls) h.stamps.from
    where
      by : (x : Entry) × Contains (entries_of_part c e i) x × (x.stamp ≤ last) → (last ≡ 0) ⊎ IsStampBefore c e i last → PartStampFalls c e i
      by f (inl none) = let above = above_least 0 (entries_of_part c e i) f.1.0 f.0 rise f.1.1 f.1.2 in let low = f.2 in absurd (omega (arith, above, low, none))
      by f (inr w) = record {
        earlier = w.earlier;
        first = w.has.entry;
        second = f.0;
        before = w.before;
        in_earlier = w.has.stands;
        in_part = f.1;
        falls = (let low = f.2 in let same = w.has.is in omega (arith, low, same));
      }

  -- a part that doesn't is the first that isn't
  pub unjoined_here : (GoesOn c e i due last → ⊥) → i ≤ chapter_count c e → (population : Rows) → first ≡ homes_at_first population e → IsFirstNumber (IsUnjoined population c e) (Some i)
  unjoined_here not within population is = (record { within = within; differs = by (cases_Bool (first_is_above last (entries_of_part c e i))) }, (h.clear population is).below)
    where
      by : (first_is_above last (entries_of_part c e i) ≡ true) ⊎ (first_is_above last (entries_of_part c e i) ≡ false) → (homes_before c e i ≢ homes_due population c e i) ⊎ PartStampFalls c e i
      by (inl above) = inl (λ same. not (same ∙ sym (h.due_is population is), above))
      by (inr falls) = inr (stamps_fall falls)

  last_more : GoesOn c e i due last → IsLastBefore c e (i + 1) (last_stamp_from last (entries_of_part c e i))
  last_more on = record { seen = λ j x l stands. by j x l stands (lt_or j i); from = here (last_is last (entries_of_part c e i)) h.stamps.from }
    where
      above : StampsRise last (entries_of_part c e i)
      above = rises_above last (entries_of_part c e i) rise on.1

      by : (j : ℕ) (x : Entry) → j < i + 1 → Contains (entries_of_part c e j) x → (j < i) ⊎ (i ≤ j) → x.stamp ≤ last_stamp_from last (entries_of_part c e i)
      by j x l stands (inl sooner) =
          let seen = h.stamps.seen j x sooner stands in
          let more = no_less last (entries_of_part c e i) above in
          omega (arith, seen, more)
      by j x l stands (inr later) =
          let same : j ≡ i = omega (arith, l, later) in
          let own : Contains (entries_of_part c e i) x = subst (λ (k : ℕ). Contains (entries_of_part c e k) x) same stands in
          below_last last (entries_of_part c e i) own.0 x above own.1 own.2

      earlier : IsStampBefore c e i last → IsStampBefore c e (i + 1) last
      earlier w = record { earlier = w.earlier; before = (let l = w.before in omega (arith, l)); has = w.has }

      kept : (last ≡ 0) ⊎ IsStampBefore c e i last → (last ≡ 0) ⊎ IsStampBefore c e (i + 1) last
      kept (inl none) = inl none
      kept (inr w) = inr (earlier w)

      here : (last_stamp_from last (entries_of_part c e i) ≡ last) ⊎ IsStampIn (entries_of_part c e i) (last_stamp_from last (entries_of_part c e i)) → (last ≡ 0) ⊎ IsStampBefore c e i last
          → (last_stamp_from last (entries_of_part c e i) ≡ 0) ⊎ IsStampBefore c e (i + 1) (last_stamp_from last (entries_of_part c e i))
      here (inl same) from = subst (λ (n : ℕ). (n ≡ 0) ⊎ IsStampBefore c e (i + 1) n) (sym same) (kept from)
      here (inr own) from = inr (record { earlier = i; before = omega arith; has = own })

  -- and then to the next
  pub joined_next : (due' : Option (List SubscriberRows)) → GoesOn c e i due last → i < chapter_count c e → due' ≡ option_map (λ (x : ChapterState). x.after) (chapter_handed_out c e i)
      → AreJoinedTo c e (i + 1) first due' (last_stamp_from last (entries_of_part c e i))
  joined_next due' on l is = record {
    stamps = last_more on;
    due_is = λ population _. is ∙ (ap (option_map (λ (x : ChapterState). x.after)) (handed_out c e i l) ∙ ap (homes_due population c e) (sym (add-one i)));
    clear = λ population first_is. clear_step (IsUnjoined population c e) i (h.clear population first_is) (goes_on on population first_is);
  }

  -- after the last part there is none
  pub joined_all : GoesOn c e i due last → chapter_count c e ≤ i → (population : Rows) → first ≡ homes_at_first population e → IsFirstNumber (IsUnjoined population c e) None
  joined_all on past population is =
      clear_all (IsUnjoined population c e) (i + 1) (clear_step (IsUnjoined population c e) i (h.clear population is) (goes_on on population is))
      (λ n l u. let within = u.within in omega (arith, l, past, within))

-- a number that neither the population nor what was gathered has is joined
pub none_unjoined_beyond : (population : Rows) (c : ClosedState) (e i : ℕ) → log_numbered c e ≡ None → homes_at_first population e ≡ None → IsUnjoined population c e i → ⊥
none_unjoined_beyond population c e i none first u = elim u.differs as (λ _. ⊥) [
  | inl differs ↦ differs (before ∙ sym due)
  | inr f ↦ let l = f.before in let within = u.within in let count = no_chapters c e none in omega (arith, l, within, count)
]
  where
    is_first : i ≡ 0
    is_first = let within = u.within in let count = no_chapters c e none in omega (arith, within, count)

    due : homes_due population c e i ≡ None
    due = ap (homes_due population c e) is_first ∙ first

    before : homes_before c e i ≡ None
    before =
        ap (λ (b : Bool). if b then option_map (λ (x : ChapterState). x.before) (chapter_numbered c e i) else option_map (λ (log : ExtentLog). log.opening) (log_numbered c e))
        (let count = no_chapters c e none in le-ltb i (chapter_count c e) (omega (arith, count)))
        ∙ ap (option_map (λ (log : ExtentLog). log.opening)) none
