-- Calls that conflict with open ones, after one line more.
use Rattle.std.proofs.Common.{◌≡◌, ℕ, suc, ◌+◌, ◌-◌, ◌<◌, ◌≤◌, ◌⊎◌, ◌∙◌, ◌==◌, sym, ap, subst, Bool, true, false, cond, nat_lt, lt-ltb, le-ltb, List, [], ◌∷◌, ◌++◌, length, map, take, set, get_or, replicate, slice_get, refl, arith, Option, Some, None, eq-eqb, ne_eqb, inl, inr}
use Rattle.std.proofs.lemmas.Bool.{cases_lt, true≢false, false≢true}
use Rattle.std.proofs.lemmas.List.{length-append, length-map, length-set, length-replicate, get_or-replicate, map-append}
use Rattle.std.proofs.lemmas.Option.{none-some, same_Some}
use Rattle.tatp_tables.specs.Database.{Database}
use Rattle.tatp_numbers.specs.Listing.{Listing}
use Rattle.tatp_calls.specs.declared.call.Call.{Call}
use Rattle.tatp_history.specs.declared.line.Line.{Line}
use Rattle.tatp_history.specs.declared.line.Line.TheVariants.{Ask, End, Abort, Lost}
use Rattle.tatp_history.specs.HistoryLines.{client_of}
use Rattle.tatp_history.specs.Locality.{subscriber_of, is_this, is_on}
use Rattle.tatp_history.specs.SubscriberEvents.{OpenCalls, no_calls, with_call, opened_by, opened_after}
use Rattle.tatp_history.proofs.SubscriberEventLaws.{same_or_not, with_same, with_other}
use Rattle.tatp_history.specs.Changes.{only_reads}
use Rattle.tatp_judge.specs.declared.asked.Asked.{Asked}
use Rattle.tatp_judge.specs.declared.conflicts.Conflicts.{Conflicts}
use Rattle.tatp_judge.specs.Asked.{AskedCalls, none_asked, with_asked, asked_by, asked_after, asked_in_all, asked_on}
use Rattle.tatp_judge.specs.Conflicts.{write_line, open_writes, other_writes, written, HasConflicts, HasConflictsOfOthers, one_more}
use Rattle.tatp_judge.specs.Counted.{AreOthersOn}
use Rattle.tatp_judge.specs.Population.{IsDirectoryOf}
use Rattle.tatp_judge.specs.Stakes.{IsNumberOf, HasOpen, MeetsConflict}
use Rattle.tatp_judge.specs.Steps.{fewer}
use Rattle.tatp_judge.specs.Windows.{AreCounted}
use Rattle.tatp_judge.proofs.JudgeLaws.{asked_within}
use Rattle.tatp_judge.proofs.NextLineLaws.{opened_other, opened_next}
use Rattle.tatp_judge.proofs.NumberLaws.{front}
use Rattle.tatp_judge.proofs.PlaceLaws.{got_other}
use Rattle.tatp_judge.proofs.SearchLaws.{named_within}
use Rattle.tatp_judge.proofs.StakeLaws.{some_among, among_some, number_same, number_more, got_before, got_either, got_now, got_within, or_got, got_written, asks_on_it, AsksNone, all_before}
use Rattle.tatp_judge.proofs.WindowLaws.{AreOthers, others_of, counted_closed, counted_asked, some_waits}

-- ---- calls that write, among all that are open
-- when the open call was asked, if it is on the subscriber and writes
abbrev pub asked_write : ℕ → Option Asked → Option ℕ
asked_write s None = None
asked_write s (Some asked) = cond asked.reads None (asked_on s (Some asked))

on_cond : (s : ℕ) (b : Bool) (one other : Option Asked) → cond b (asked_write s one) (asked_write s other) ≡ asked_write s (cond b one other)
on_cond s true one other = refl
on_cond s false one other = refl

module _ (u : Database) where
  opened_on : (s number : ℕ) (asked : AskedCalls) (line : Line) → opened_by u s number (λ c. asked_write s (asked c)) (write_line line) ≡ (λ c. asked_write s (asked_by u number asked line c))
  opened_on s number asked (Ask client call) = elim (only_reads call)
      as (λ b. opened_by u s number (λ c. asked_write s (asked c)) (cond b (Lost client) (Ask client call)) ≡ (λ c. asked_write s (with_asked asked client (Some (record { s_id = subscriber_of u call; number = number; reads = b })) c))) [
        | true ↦ λ i c. on_cond s (c == client) (Some (record { s_id = subscriber_of u call; number = number; reads = true })) (asked c) i
        | false ↦ λ i c. on_cond s (c == client) (Some (record { s_id = subscriber_of u call; number = number; reads = false })) (asked c) i
      ]
  opened_on s number asked (End client recorded) = λ i c. on_cond s (c == client) None (asked c) i
  opened_on s number asked (Abort client) = λ i c. on_cond s (c == client) None (asked c) i
  opened_on s number asked (Lost client) = λ i c. on_cond s (c == client) None (asked c) i

  opened_all : (s : ℕ) (lines : List Line) (number : ℕ) (asked : AskedCalls) → opened_after u s number (λ c. asked_write s (asked c)) (map write_line lines) ≡ (λ c. asked_write s (asked_after u number asked lines c))
  opened_all s [] number asked = refl
  opened_all s (line ∷ more) number asked =
      ap (λ (o : OpenCalls). opened_after u s (suc number) o (map write_line more)) (opened_on s number asked line) ∙ opened_all s more (suc number) (asked_by u number asked line)

  pub writes_are : (s : ℕ) (lines : List Line) (client : ℕ) → open_writes u s lines client ≡ asked_write s (asked_in_all u lines client)
  writes_are s lines client = ap (λ (o : OpenCalls). o client) (opened_all s lines 1 none_asked)

-- it is on no other subscriber
write_elsewhere : (s : ℕ) (one : Option Asked) → written one ≡ None → asked_write s one ≡ None
write_elsewhere s None none = refl
write_elsewhere s (Some asked) none = elim asked.reads as (λ b. cond b None asked.s_id ≡ None → cond b None (cond (is_this s asked.s_id) (Some asked.number) None) ≡ None) [
  | true ↦ λ e. refl
  | false ↦ λ e. ap (λ o. cond (is_this s o) (Some asked.number) None) e
] none

write_here : (s t : ℕ) (one : Option Asked) → written one ≡ Some t → (number : ℕ) × (asked_write s one ≡ cond (t == s) (Some number) None)
write_here s t None is = absurd (none-some t is)
write_here s t (Some asked) is = (
  asked.number,
  elim asked.reads as (λ b. cond b None asked.s_id ≡ Some t → cond b None (cond (is_this s asked.s_id) (Some asked.number) None) ≡ cond (t == s) (Some asked.number) None) [
    | true ↦ λ e. absurd (none-some t e)
    | false ↦ λ e. ap (λ o. cond (is_this s o) (Some asked.number) None) e
  ] is,
)

-- whose s_id it is
written_is : (one : Option Asked) (t : ℕ) → written one ≡ Some t → (asked : Asked) × (one ≡ Some asked) × (asked.s_id ≡ Some t)
written_is None t is = absurd (none-some t is)
written_is (Some asked) t is = (
  asked,
  refl,
  elim asked.reads as (λ b. cond b None asked.s_id ≡ Some t → asked.s_id ≡ Some t) [ true ↦ λ e. absurd (none-some t e) | false ↦ λ e. e ] is,
)

-- ---- the call that a client has open
-- whether a call that the line asks only reads
abbrev reads_in : Line → Bool
reads_in (Ask client call) = only_reads call
reads_in (End client recorded) = false
reads_in (Abort client) = false
reads_in (Lost client) = false

module _ (u : Database) (s : ℕ) where
  with_at : (opened : OpenCalls) (client other : ℕ) (one : Option ℕ) → client ≡ other → with_call opened client one other ≡ one
  with_at opened client other one e = ap (with_call opened client one) (sym e) ∙ with_same opened client one

  -- one was asked in the line of this number: when, and when if it writes
  abbrev AsksThen : ℕ → Line → ℕ → Option ℕ → Option ℕ → Type 0
  AsksThen number line client all writes = (call : Call) × (line ≡ Ask client call) × (all ≡ Some number) × (writes ≡ cond (only_reads call) None (Some number))

  abbrev AreNone : Option ℕ → Option ℕ → Type 0
  AreNone all writes = (all ≡ None) × (writes ≡ None)

  clients_alike : (line : Line) → client_of (write_line line) ≡ client_of line
  clients_alike (Ask client call) = elim (only_reads call) as (λ b. client_of (cond b (Lost client) (Ask client call)) ≡ client) [ true ↦ refl | false ↦ refl ]
  clients_alike (End client recorded) = refl
  clients_alike (Abort client) = refl
  clients_alike (Lost client) = refl

  -- the line of this number is the client's: it asks one, or none is open then
  own_line : (number : ℕ) (opened writes : OpenCalls) (line : Line) (client : ℕ) → client_of line ≡ client
      → AreNone (opened_by u s number opened line client) (opened_by u s number writes (write_line line) client) ⊎ AsksThen number line client (opened_by u s number opened line client) (opened_by u s number writes (write_line line) client)
  own_line number opened writes (Ask other call) client e = elim (only_reads call)
      as (λ b. only_reads call ≡ b → AreNone (opened_by u s number opened (Ask other call) client) (opened_by u s number writes (cond b (Lost other) (Ask other call)) client)
      ⊎ AsksThen number (Ask other call) client (opened_by u s number opened (Ask other call) client) (opened_by u s number writes (cond b (Lost other) (Ask other call)) client)) [
        | true ↦ λ r. elim (is_on u s call) as (λ on. AreNone (with_call opened other (cond on (Some number) None) client) (with_call writes other None client)
            ⊎ AsksThen number (Ask other call) client (with_call opened other (cond on (Some number) None) client) (with_call writes other None client)) [
              | true ↦ inr (call, ap (λ c. Ask c call) e, with_at opened other client (Some number) e, with_at writes other client None e ∙ ap (λ b. cond b None (Some number)) (sym r))
              | false ↦ inl (with_at opened other client None e, with_at writes other client None e)
            ]
        | false ↦ λ r. elim (is_on u s call) as (λ on. AreNone (with_call opened other (cond on (Some number) None) client) (with_call writes other (cond on (Some number) None) client)
            ⊎ AsksThen number (Ask other call) client (with_call opened other (cond on (Some number) None) client) (with_call writes other (cond on (Some number) None) client)) [
              | true ↦ inr (call, ap (λ c. Ask c call) e, with_at opened other client (Some number) e, with_at writes other client (Some number) e ∙ ap (λ b. cond b None (Some number)) (sym r))
              | false ↦ inl (with_at opened other client None e, with_at writes other client None e)
            ]
      ] refl
  own_line number opened writes (End other recorded) client e = inl (with_at opened other client None e, with_at writes other client None e)
  own_line number opened writes (Abort other) client e = inl (with_at opened other client None e, with_at writes other client None e)
  own_line number opened writes (Lost other) client e = inl (with_at opened other client None e, with_at writes other client None e)

  -- it was asked in one of the lines, of which the first has this number
  abbrev WasAsked : ℕ → List Line → ℕ → Option ℕ → Option ℕ → Type 0
  WasAsked number lines client all writes =
      (k : ℕ) × (call : Call) × (slice_get lines k ≡ Some (Ask client call)) × (all ≡ Some (number + k)) × (writes ≡ cond (only_reads call) None (Some (number + k)))

  -- as it was before, none, or one that was asked since
  was_open : (lines : List Line) (number : ℕ) (opened writes : OpenCalls) (client : ℕ)
      → ((opened_after u s number opened lines client ≡ opened client) × (opened_after u s number writes (map write_line lines) client ≡ writes client))
      ⊎ (AreNone (opened_after u s number opened lines client) (opened_after u s number writes (map write_line lines) client)
      ⊎ WasAsked number lines client (opened_after u s number opened lines client) (opened_after u s number writes (map write_line lines) client))
  was_open [] number opened writes client = inl (refl, refl)
  was_open (line ∷ more) number opened writes client = elim (was_open more (suc number) (opened_by u s number opened line) (opened_by u s number writes (write_line line)) client) [
    | inl same ↦ elim (same_or_not (client_of line) client) [
      | inl e ↦ elim (own_line number opened writes line client e) [
        | inl none ↦ inr (inl (same.0 ∙ none.0, same.1 ∙ none.1))
        | inr asks ↦
            let at : number ≡ number + 0 = omega arith in
            inr (inr (0, asks.0, ap Some asks.1, same.0 ∙ (asks.2 ∙ ap Some at), same.1 ∙ (asks.3 ∙ ap (λ n. cond (only_reads asks.0) None (Some n)) at)))
      ]
      | inr n ↦ inl (same.0 ∙ opened_other u s number opened line client n, same.1 ∙ opened_other u s number writes (write_line line) client (λ e. n (sym (clients_alike line) ∙ e)))
    ]
    | inr later ↦ elim later [
      | inl none ↦ inr (inl none)
      | inr was ↦
          let at : suc number + was.0 ≡ number + suc was.0 = omega arith in
          inr (inr (suc was.0, was.1, was.2, was.3 ∙ ap Some at, was.4 ∙ ap (λ n. cond (only_reads was.1) None (Some n)) at))
    ]
  ]

  module _ (lines : List Line) (client : ℕ) where
    is_asked : (opened_after u s 1 no_calls lines client ≡ None → ⊥) → WasAsked 1 lines client (opened_after u s 1 no_calls lines client) (open_writes u s lines client)
    is_asked some = elim (was_open lines 1 no_calls no_calls client) [
      | inl same ↦ absurd (some same.0)
      | inr later ↦ elim later [ inl none ↦ absurd (some none.0) | inr was ↦ was ]
    ]

    open_then : (was : WasAsked 1 lines client (opened_after u s 1 no_calls lines client) (open_writes u s lines client)) → HasOpen u s lines client was.1
    open_then was = record {
      number = 1 + was.0;
      still = was.3;
      asked = let at : 1 + was.0 - 1 ≡ was.0 = omega arith in ap (slice_get lines) at ∙ was.2;
    }

    -- an open call is one that was asked
    pub open_asked : (opened_after u s 1 no_calls lines client ≡ None → ⊥) → (call : Call) × HasOpen u s lines client call
    open_asked some = let was = is_asked some in (was.1, open_then was)

    -- one that writes is among those that write
    pub write_asked : (open_writes u s lines client ≡ None → ⊥) → (call : Call) × HasOpen u s lines client call × (only_reads call ≡ false)
    write_asked some = elim (was_open lines 1 no_calls no_calls client) [
      | inl same ↦ absurd (some same.1)
      | inr later ↦ elim later [
        | inl none ↦ absurd (some none.1)
        | inr was ↦ (
          was.1,
          open_then was,
          elim (only_reads was.1) as (λ b. only_reads was.1 ≡ b → b ≡ false) [
            | true ↦ λ e. absurd (some (was.4 ∙ ap (λ b. cond b None (Some (1 + was.0))) e))
            | false ↦ λ e. refl
          ] refl,
        )
      ]
    ]

    pub write_open : (call : Call) → HasOpen u s lines client call → only_reads call ≡ false → open_writes u s lines client ≡ None → ⊥
    write_open call has writes none =
        let was = is_asked (λ gone. none-some has.number (sym gone ∙ has.still)) in
        let number : 1 + was.0 ≡ has.number = same_Some (1 + was.0) has.number (sym was.3 ∙ has.still) in
        let place : was.0 ≡ has.number - 1 = omega (arith, number) in
        let line : Ask client was.1 ≡ Ask client call = same_Some (Ask client was.1) (Ask client call) (sym was.2 ∙ (ap (slice_get lines) place ∙ has.asked)) in
        none-some (1 + was.0) (sym none ∙ (was.4 ∙ ap (λ b. cond b None (Some (1 + was.0))) (ap reads_in line ∙ writes)))

-- ---- calls that meet a conflict, after a line more
-- the line asks a call that meets one
pub record ConflictsNow (u : Database) (lines : List Line) (line : Line) : Type 0 where
  pub s : ℕ
  pub client : ℕ
  pub call : Call
  pub asks : line ≡ Ask client call
  pub on : is_on u s call ≡ true
  pub other : ℕ
  pub apart : other ≡ client → ⊥
  pub met : Call
  pub still : HasOpen u s lines other met
  pub conflict : (only_reads call ≡ false) ⊎ (only_reads met ≡ false)

module _ (u : Database) (lines : List Line) (line : Line) where
  pub conflicts_before : (before : ℕ) → MeetsConflict u lines before → MeetsConflict u (lines ++ line ∷ []) before
  conflicts_before before h =
      let lt = got_within lines (Ask h.client h.asks.call) before h.asks.asked in
      record {
        s = h.s;
        client = h.client;
        asks = record { call = h.asks.call; asked = got_before lines line (Ask h.client h.asks.call) before h.asks.asked; on = h.asks.on };
        other = h.other;
        apart = h.apart;
        met = h.met;
        still = subst (λ ls. HasOpen u h.s ls h.other h.met) (sym (front before lines (line ∷ []) (omega (arith, lt)))) h.still;
        conflict = h.conflict;
      }

  pub conflicts_either : (before : ℕ) → MeetsConflict u (lines ++ line ∷ []) before → ((before ≡ length lines) × ConflictsNow u lines line) ⊎ MeetsConflict u lines before
  conflicts_either before h = elim (got_either lines line (Ask h.client h.asks.call) before h.asks.asked) [
    | inl e ↦
        let lt = got_within lines (Ask h.client h.asks.call) before e in
        inr (record {
          s = h.s;
          client = h.client;
          asks = record { call = h.asks.call; asked = e; on = h.asks.on };
          other = h.other;
          apart = h.apart;
          met = h.met;
          still = subst (λ ls. HasOpen u h.s ls h.other h.met) (front before lines (line ∷ []) (omega (arith, lt))) h.still;
          conflict = h.conflict;
        })
    | inr e ↦ inl (
      e.0,
      record {
        s = h.s;
        client = h.client;
        call = h.asks.call;
        asks = e.1;
        on = h.asks.on;
        other = h.other;
        apart = h.apart;
        met = h.met;
        still = subst (λ ls. HasOpen u h.s ls h.other h.met) (ap (λ k. take k (lines ++ line ∷ [])) e.0 ∙ all_before u lines line) h.still;
        conflict = h.conflict;
      },
    )
  ]

  pub conflicts_now : ConflictsNow u lines line → MeetsConflict u (lines ++ line ∷ []) (length lines)
  conflicts_now now = record {
    s = now.s;
    client = now.client;
    asks = record { call = now.call; asked = got_now lines line ∙ ap Some now.asks; on = now.on };
    other = now.other;
    apart = now.apart;
    met = now.met;
    still = subst (λ ls. HasOpen u now.s ls now.other now.met) (sym (all_before u lines line)) now.still;
    conflict = now.conflict;
  }

  -- as many, or one more
  pub conflicts_none : (n : ℕ) → (ConflictsNow u lines line → ⊥) → IsNumberOf n (MeetsConflict u lines) → IsNumberOf n (MeetsConflict u (lines ++ line ∷ []))
  conflicts_none n none is = number_same (MeetsConflict u lines) (MeetsConflict u (lines ++ line ∷ [])) n conflicts_before
      (λ before h. elim (conflicts_either before h) [ inl now ↦ absurd (none now.1) | inr m ↦ m ]) is

  pub conflicts_one : (n : ℕ) → ConflictsNow u lines line → IsNumberOf n (MeetsConflict u lines) → IsNumberOf (n + 1) (MeetsConflict u (lines ++ line ∷ []))
  conflicts_one n now is = number_more (MeetsConflict u lines) (MeetsConflict u (lines ++ line ∷ [])) n (length lines)
      (λ h. let lt = got_within lines (Ask h.client h.asks.call) (length lines) h.asks.asked in omega (arith, lt)) (conflicts_now now) conflicts_before
      (λ before h. elim (conflicts_either before h) [ inl then ↦ inl then.0 | inr m ↦ inr m ]) is

  pub conflicts_more : (n met : ℕ) → (0 < met → ConflictsNow u lines line) → (met ≡ 0 → ConflictsNow u lines line → ⊥) → IsNumberOf n (MeetsConflict u lines) → IsNumberOf (one_more met n) (MeetsConflict u (lines ++ line ∷ []))
  conflicts_more n met some none is = elim (cases_lt 0 met) [
    | inl lt ↦ subst (λ b. IsNumberOf (cond b (n + 1) n) (MeetsConflict u (lines ++ line ∷ []))) (sym (lt-ltb 0 met lt)) (conflicts_one n (some lt) is)
    | inr le ↦ subst (λ b. IsNumberOf (cond b (n + 1) n) (MeetsConflict u (lines ++ line ∷ []))) (sym (le-ltb 0 met le)) (conflicts_none n (none (omega (arith, le))) is)
  ]

one_more_few : (met n k m : ℕ) → n ≤ k → m ≡ suc k → one_more met n ≤ m
one_more_few met n k m few long = elim (nat_lt 0 met) as (λ b. cond b (n + 1) n ≤ m) [ true ↦ omega (arith, few, long) | false ↦ omega (arith, few, long) ]

-- ---- open calls that write, after a line more
writes_next : (u : Database) (s : ℕ) (lines : List Line) (line : Line) → open_writes u s (lines ++ line ∷ []) ≡ opened_by u s (suc (length lines)) (open_writes u s lines) (write_line line)
writes_next u s lines line =
    let count = length-map lines write_line in
    ap (opened_after u s 1 no_calls) (map-append write_line lines (line ∷ []))
    ∙ opened_next u s (map write_line lines) (write_line line) 1 (suc (length lines)) no_calls (omega (arith, count))

-- a line that asks none that writes
abbrev pub AsksNoWrite : Database → Line → Type 0
AsksNoWrite u line = (s number : ℕ) (opened : OpenCalls) → opened_by u s number opened (write_line line) ≡ with_call opened (client_of line) None

unnamed_asks_none : (u : Database) (client : ℕ) (call : Call) → subscriber_of u call ≡ None → AsksNoWrite u (Ask client call)
unnamed_asks_none u client call named s number opened = elim (only_reads call) as (λ b. opened_by u s number opened (cond b (Lost client) (Ask client call)) ≡ with_call opened client None) [
  | true ↦ refl
  | false ↦ ap (λ o. with_call opened client (cond (is_this s o) (Some number) None)) named
]

read_asks_none : (u : Database) (client : ℕ) (call : Call) → only_reads call ≡ true → AsksNoWrite u (Ask client call)
read_asks_none u client call reads s number opened = ap (λ b. opened_by u s number opened (cond b (Lost client) (Ask client call))) reads

twice : (opened : OpenCalls) (client : ℕ) (one : Option ℕ) → with_call (with_call opened client None) client one ≡ with_call opened client one
twice opened client one = λ i other. (elim (other == client) as (λ b. cond b one (cond b None (opened other)) ≡ cond b one (opened other)) [ true ↦ refl | false ↦ refl ]) i

-- ---- a client's call ends
module _ (u : Database) (lines : List Line) (client : ℕ) (one : Option Asked) (is : asked_in_all u lines client ≡ one) (old : Conflicts) (h : HasConflicts u lines old) where
  own : (s : ℕ) → open_writes u s lines client ≡ asked_write s one
  own s = writes_are u s lines client ∙ ap (asked_write s) is

  closed_at : (place n : ℕ) → slice_get old.writing.items place ≡ Some n → AreCounted (other_writes u (suc place) lines client) (fewer (asked_write (suc place) one) n)
  closed_at place n at =
      let same : fewer (open_writes u (suc place) lines client) n + 0 ≡ fewer (asked_write (suc place) one) n = let e = ap (λ o. fewer o n) (own (suc place)) in omega (arith, e) in
      subst (AreCounted (other_writes u (suc place) lines client)) same (counted_closed client n (open_writes u (suc place) lines) (h.writing_are place n at))

  pub none_ended : written one ≡ None → HasConflictsOfOthers u lines client old
  none_ended none = record {
    directory = h.directory;
    places = h.places;
    writing_are = λ place n at. subst (λ o. AreCounted (other_writes u (suc place) lines client) (fewer o n)) (write_elsewhere (suc place) one none) (closed_at place n at);
    few = h.few;
    conflicted_is = h.conflicted_is;
    conflicted_few = h.conflicted_few;
  }

  -- a subscriber has a place
  pub written_within : (s : ℕ) → written one ≡ Some s → (1 ≤ s) × (s ≤ length old.writing.items)
  written_within s at = let w = written_is one s at in asked_within u (length old.writing.items) h.directory lines client w.0 s h.places (is ∙ w.1) w.2

  -- one is open there
  pub written_some : (s : ℕ) → written one ≡ Some s → 0 < get_or old.writing.items (s - 1) 0
  written_some s at =
      let first = (written_within s at).0 in
      let last = (written_within s at).1 in
      let n = get_or old.writing.items (s - 1) 0 in
      let got = or_got old.writing.items (s - 1) 0 (omega (arith, first, last)) in
      let same : suc (s - 1) ≡ s = omega (arith, first) in
      let here = write_here s s one at in
      some_waits (open_writes u s lines) n client here.0 (subst (λ k. AreCounted (open_writes u k lines) n) same (h.writing_are (s - 1) n got))
      (own s ∙ (here.1 ∙ ap (λ b. cond b (Some here.0) None) (eq-eqb s s refl)))

  pub one_ended : (new : Conflicts) (s : ℕ) → written one ≡ Some s → new.conflicted ≡ old.conflicted → new.writing.items ≡ set old.writing.items (s - 1) (get_or old.writing.items (s - 1) 0 - 1) → HasConflictsOfOthers u lines client new
  one_ended new s at conflicted writing =
      let within = written_within s at in
      let first = within.0 in
      let last = within.1 in
      let was = get_or old.writing.items (s - 1) 0 in
      let there : slice_get old.writing.items (s - 1) ≡ Some was = or_got old.writing.items (s - 1) 0 (omega (arith, first, last)) in
      let same : suc (s - 1) ≡ s = omega (arith, first) in
      let count = ap length writing ∙ length-set old.writing.items (s - 1) (was - 1) in
      let got_new : (place n : ℕ) → slice_get new.writing.items place ≡ Some n → slice_get (set old.writing.items (s - 1) (was - 1)) place ≡ Some n
      = λ place n got. ap (λ (xs : List ℕ). slice_get xs place) (sym writing) ∙ got in
      let is_now : (place n : ℕ) → slice_get new.writing.items place ≡ Some n → place ≡ s - 1 → n ≡ was - 1
      = λ place n got e. same_Some n (was - 1) (sym got ∙ (ap (λ (xs : List ℕ). slice_get xs place) writing ∙ (ap (slice_get (set old.writing.items (s - 1) (was - 1))) e ∙ got_written old.writing.items (s - 1) (was - 1) (omega (arith, first, last))))) in
      record {
        directory = h.directory;
        places = subst (λ n. IsDirectoryOf u n h.directory) (sym count) h.places;
        writing_are = λ place n got. elim (same_or_not place (s - 1)) [
          | inl e ↦
              let here = write_here s s one at in
              let k : suc place ≡ s = ap suc e ∙ same in
              let number : asked_write (suc place) one ≡ Some here.0 = ap (λ t. asked_write t one) k ∙ (here.1 ∙ ap (λ b. cond b (Some here.0) None) (eq-eqb s s refl)) in
              let less : fewer (asked_write (suc place) one) was ≡ n = ap (λ o. fewer o was) number ∙ sym (is_now place n got e) in
              subst (AreCounted (other_writes u (suc place) lines client)) less (closed_at place was (ap (slice_get old.writing.items) e ∙ there))
          | inr m ↦
              let other = write_here (suc place) s one at in
              let none : asked_write (suc place) one ≡ None = other.1 ∙ ap (λ b. cond b (Some other.0) None) (ne_eqb s (suc place) (λ e. m (omega (arith, e)))) in
              subst (λ o. AreCounted (other_writes u (suc place) lines client) (fewer o n)) none (closed_at place n (sym (got_other old.writing.items (s - 1) place (was - 1) m) ∙ got_new place n got))
        ];
        few = λ place n got. elim (same_or_not place (s - 1)) [
          | inl e ↦ let now = is_now place n got e in let few = h.few (s - 1) was there in omega (arith, now, few)
          | inr m ↦ h.few place n (sym (got_other old.writing.items (s - 1) place (was - 1) m) ∙ got_new place n got)
        ];
        conflicted_is = subst (λ n. IsNumberOf n (MeetsConflict u lines)) (sym conflicted) h.conflicted_is;
        conflicted_few = let few = h.conflicted_few in omega (arith, few, conflicted);
      }

-- ---- a line that asks no call that writes
pub no_write_asked : (u : Database) (lines : List Line) (line : Line) (old new : Conflicts) → AsksNoWrite u line → HasConflictsOfOthers u lines (client_of line) old → new.writing.items ≡ old.writing.items
    → IsNumberOf new.conflicted (MeetsConflict u (lines ++ line ∷ [])) → new.conflicted ≤ length (lines ++ line ∷ []) → HasConflicts u (lines ++ line ∷ []) new
no_write_asked u lines line old new none h writing conflicted few = record {
  directory = h.directory;
  places = subst (λ (xs : List ℕ). IsDirectoryOf u (length xs) h.directory) (sym writing) h.places;
  writing_are = λ place n at. subst (λ (o : OpenCalls). AreCounted o n) (sym (writes_next u (suc place) lines line ∙ none (suc place) (suc (length lines)) (open_writes u (suc place) lines)))
      (h.writing_are place n (ap (λ (xs : List ℕ). slice_get xs place) (sym writing) ∙ at));
  few = λ place n at.
      let was = h.few place n (ap (λ (xs : List ℕ). slice_get xs place) (sym writing) ∙ at) in
      let longer = length-append lines (line ∷ []) in
      omega (arith, was, longer);
  conflicted_is = conflicted;
  conflicted_few = few;
}

-- ... nor any on a subscriber
pub none_asked_on : (u : Database) (lines : List Line) (line : Line) (c : Conflicts) → AsksNoWrite u line → AsksNone u line → HasConflictsOfOthers u lines (client_of line) c → HasConflicts u (lines ++ line ∷ []) c
none_asked_on u lines line c no_write none h =
    let longer = length-append lines (line ∷ []) in
    let few = h.conflicted_few in
    no_write_asked u lines line c c no_write h refl
    (conflicts_none u lines line c.conflicted (λ now. false≢true (sym (none now.s) ∙ (ap (asks_on_it u now.s) now.asks ∙ now.on))) h.conflicted_is) (omega (arith, few, longer))

pub unnamed_asked : (u : Database) (lines : List Line) (client : ℕ) (call : Call) (c : Conflicts) → subscriber_of u call ≡ None → HasConflictsOfOthers u lines client c → HasConflicts u (lines ++ Ask client call ∷ []) c
unnamed_asked u lines client call c named = none_asked_on u lines (Ask client call) c (unnamed_asks_none u client call named) (λ s. ap (is_this s) named)

-- ---- a call that is asked on a subscriber
module _ (u : Database) (lines : List Line) (client s : ℕ) (call : Call) (named : subscriber_of u call ≡ Some s) (old : Conflicts) (h : HasConflictsOfOthers u lines client old) where
  on : is_on u s call ≡ true
  on = ap (is_this s) named ∙ eq-eqb s s refl

  only : (t : ℕ) (asked : Call) (by : ℕ) → Ask client call ≡ Ask by asked → is_on u t asked ≡ true → t ≡ s
  only t asked by e there = elim (same_or_not t s) [
    | inl same ↦ same
    | inr n ↦ absurd (false≢true (sym (ap (is_this t) named ∙ ne_eqb s t (λ e. n (sym e))) ∙ (ap (asks_on_it u t) e ∙ there)))
  ]

  pub place_within : (1 ≤ s) × (s ≤ length old.writing.items)
  place_within = named_within u (length old.writing.items) h.directory call s h.places named

  pub writing_few : get_or old.writing.items (s - 1) 0 ≤ length lines
  writing_few =
      let first = place_within.0 in
      let last = place_within.1 in
      h.few (s - 1) (get_or old.writing.items (s - 1) 0) (or_got old.writing.items (s - 1) 0 (omega (arith, first, last)))

  writes_there : AreCounted (other_writes u s lines client) (get_or old.writing.items (s - 1) 0)
  writes_there =
      let first = place_within.0 in
      let last = place_within.1 in
      let same : suc (s - 1) ≡ s = omega (arith, first) in
      subst (λ k. AreCounted (other_writes u k lines client) (get_or old.writing.items (s - 1) 0)) same
      (h.writing_are (s - 1) (get_or old.writing.items (s - 1) 0) (or_got old.writing.items (s - 1) 0 (omega (arith, first, last))))

  -- another client's open write
  pub write_met : 0 < get_or old.writing.items (s - 1) 0 → ConflictsNow u lines (Ask client call)
  write_met lt =
      let count = writes_there.count in
      let other = some_among writes_there.clients (omega (arith, lt, count)) in
      let some = writes_there.still other.0 other.1 in
      let apart : other.0 ≡ client → ⊥ = λ e. some (ap (other_writes u s lines client) e ∙ with_same (open_writes u s lines) client None) in
      let met = write_asked u s lines other.0 (λ none. some (with_other (open_writes u s lines) client None other.0 apart ∙ none)) in
      record {
        s = s;
        client = client;
        call = call;
        asks = refl;
        on = on;
        other = other.0;
        apart = apart;
        met = met.0;
        still = met.1;
        conflict = inr met.2;
      }

  client_is : (by : ℕ) (asked : Call) → Ask client call ≡ Ask by asked → client ≡ by
  client_is by asked e = ap client_of e

  -- a call that writes, on which there is no such one
  pub none_met : get_or old.writing.items (s - 1) 0 ≡ 0 → (t by other : ℕ) (asked met : Call) → Ask client call ≡ Ask by asked → is_on u t asked ≡ true → (other ≡ by → ⊥) → HasOpen u t lines other met → only_reads met ≡ false → ⊥
  none_met zero_is t by other asked met e there apart still writes =
      let same = only t asked by e there in
      let some : open_writes u s lines other ≡ None → ⊥ = write_open u s lines other met (subst (λ k. HasOpen u k lines other met) same still) writes in
      let n : other ≡ client → ⊥ = λ is. apart (is ∙ client_is by asked e) in
      elim (writes_there.all other) [
        | inl none ↦ some (sym (with_other (open_writes u s lines) client None other n) ∙ none)
        | inr m ↦ let many = among_some other writes_there.clients m in let count = writes_there.count in omega (arith, many, count, zero_is)
      ]

  -- ---- one that only reads
  pub read_asked : (new : Conflicts) → only_reads call ≡ true → new.writing.items ≡ old.writing.items → new.conflicted ≡ one_more (get_or old.writing.items (s - 1) 0) old.conflicted → HasConflicts u (lines ++ Ask client call ∷ []) new
  read_asked new reads writing conflicted =
      let met = get_or old.writing.items (s - 1) 0 in
      let longer : length (lines ++ Ask client call ∷ []) ≡ suc (length lines) = length-append lines (Ask client call ∷ []) ∙ omega arith in
      no_write_asked u lines (Ask client call) old new (read_asks_none u client call reads) h writing
      (subst (λ n. IsNumberOf n (MeetsConflict u (lines ++ Ask client call ∷ []))) (sym conflicted)
      (conflicts_more u lines (Ask client call) old.conflicted met write_met
      (λ none now. elim now.conflict [
        | inl writes ↦ true≢false (sym reads ∙ (ap reads_in now.asks ∙ writes))
        | inr writes ↦ none_met none now.s now.client now.other now.call now.met now.asks now.on now.apart now.still writes
      ]) h.conflicted_is))
      (let few = one_more_few met old.conflicted (length lines) (length (lines ++ Ask client call ∷ [])) h.conflicted_few longer in omega (arith, few, conflicted))

  -- ---- one that writes
  module _ (others : ℕ) (there : AreOthersOn u s client lines others) where
    rest : AreOthers client there.all (opened_after u s 1 no_calls lines)
    rest = others_of client there.all (opened_after u s 1 no_calls lines) (opened_after u s 1 no_calls lines client) there.counted refl

    other_met : only_reads call ≡ false → 0 < others → ConflictsNow u lines (Ask client call)
    other_met writes lt =
        let count = rest.count in
        let many = there.others in
        let other = some_among rest.clients (omega (arith, lt, count, many)) in
        let met = open_asked u s lines other.0 (rest.still other.0 other.1) in
        record {
          s = s;
          client = client;
          call = call;
          asks = refl;
          on = on;
          other = other.0;
          apart = rest.apart other.0 other.1;
          met = met.0;
          still = met.1;
          conflict = inl writes;
        }

    no_other_met : others ≡ 0 → ConflictsNow u lines (Ask client call) → ⊥
    no_other_met zero_is now =
        let same = only now.s now.call now.client now.asks now.on in
        let count = rest.count in
        let many = there.others in
        elim (rest.all now.other (λ e. now.apart (e ∙ client_is now.client now.call now.asks))) [
          | inl none ↦ none-some now.still.number (sym (subst (λ t. opened_after u t 1 no_calls lines now.other ≡ None) (sym same) none) ∙ now.still.still)
          | inr m ↦ let some = among_some now.other rest.clients m in omega (arith, some, count, many, zero_is)
        ]

    pub write_asked_on : (new : Conflicts) → only_reads call ≡ false → new.writing.items ≡ set old.writing.items (s - 1) (get_or old.writing.items (s - 1) 0 + 1) → new.conflicted ≡ one_more others old.conflicted → HasConflicts u (lines ++ Ask client call ∷ []) new
    write_asked_on new writes writing conflicted =
        let within = place_within in
        let first = within.0 in
        let last = within.1 in
        let was = get_or old.writing.items (s - 1) 0 in
        let same : suc (s - 1) ≡ s = omega (arith, first) in
        let longer : length (lines ++ Ask client call ∷ []) ≡ suc (length lines) = length-append lines (Ask client call ∷ []) ∙ omega arith in
        let count = ap length writing ∙ length-set old.writing.items (s - 1) (was + 1) in
        let got_new : (place n : ℕ) → slice_get new.writing.items place ≡ Some n → slice_get (set old.writing.items (s - 1) (was + 1)) place ≡ Some n
        = λ place n got. ap (λ (xs : List ℕ). slice_get xs place) (sym writing) ∙ got in
        let is_now : (place n : ℕ) → slice_get new.writing.items place ≡ Some n → place ≡ s - 1 → n ≡ was + 1
        = λ place n got e. same_Some n (was + 1) (sym got ∙ (ap (λ (xs : List ℕ). slice_get xs place) writing ∙ (ap (slice_get (set old.writing.items (s - 1) (was + 1))) e ∙ got_written old.writing.items (s - 1) (was + 1) (omega (arith, first, last))))) in
        -- the line asks a call that writes, where it is on the subscriber
        let asked_on_it : (t : ℕ) → open_writes u t (lines ++ Ask client call ∷ []) ≡ with_call (open_writes u t lines) client (cond (is_on u t call) (Some (suc (length lines))) None)
        = λ t. writes_next u t lines (Ask client call) ∙ ap (λ b. opened_by u t (suc (length lines)) (open_writes u t lines) (cond b (Lost client) (Ask client call))) writes in
        record {
          directory = h.directory;
          places = subst (λ n. IsDirectoryOf u n h.directory) (sym count) h.places;
          writing_are = λ place n got. elim (same_or_not place (s - 1)) [
            | inl e ↦
                let k : suc place ≡ s = ap suc e ∙ same in
                let opened = open_writes u s lines in
                let more : fewer (with_call opened client None client) was + 1 ≡ n = let gone : fewer (with_call opened client None client) was ≡ was = ap (λ o. fewer o was) (with_same opened client None) in let now = is_now place n got e in omega (arith, gone, now) in
                let all = subst (AreCounted (with_call (with_call opened client None) client (Some (suc (length lines))))) more (counted_asked client was (suc (length lines)) (with_call opened client None) writes_there) in
                subst (λ t. AreCounted (open_writes u t (lines ++ Ask client call ∷ [])) n) (sym k)
                (subst (λ (o : OpenCalls). AreCounted o n) (twice opened client (Some (suc (length lines))) ∙ sym (asked_on_it s ∙ ap (λ b. with_call opened client (cond b (Some (suc (length lines))) None)) on)) all)
            | inr m ↦
                let off : is_on u (suc place) call ≡ false = ap (is_this (suc place)) named ∙ ne_eqb s (suc place) (λ e. m (omega (arith, e))) in
                subst (λ (o : OpenCalls). AreCounted o n) (sym (asked_on_it (suc place) ∙ ap (λ b. with_call (open_writes u (suc place) lines) client (cond b (Some (suc (length lines))) None)) off))
                (h.writing_are place n (sym (got_other old.writing.items (s - 1) place (was + 1) m) ∙ got_new place n got))
          ];
          few = λ place n got. elim (same_or_not place (s - 1)) [
            | inl e ↦ let now = is_now place n got e in let few = writing_few in omega (arith, now, few, longer)
            | inr m ↦ let few = h.few place n (sym (got_other old.writing.items (s - 1) place (was + 1) m) ∙ got_new place n got) in omega (arith, few, longer)
          ];
          conflicted_is = subst (λ n. IsNumberOf n (MeetsConflict u (lines ++ Ask client call ∷ []))) (sym conflicted) (conflicts_more u lines (Ask client call) old.conflicted others (other_met writes) no_other_met h.conflicted_is);
          conflicted_few = let few = one_more_few others old.conflicted (length lines) (length (lines ++ Ask client call ∷ [])) h.conflicted_few longer in omega (arith, few, conflicted);
        }

-- ---- before any line
none_written : (n place k : ℕ) → slice_get (replicate n 0) place ≡ Some k → k ≡ 0
none_written n place k h =
    let lt = got_within (replicate n 0) k place h in
    let count = length-replicate {A = ℕ} n 0 in
    let got = or_got (replicate n 0) place 0 lt in
    same_Some k 0 (sym h ∙ (got ∙ ap Some (get_or-replicate {A = ℕ} n place 0 0 (omega (arith, lt, count)))))

pub none_conflict : (u : Database) (directory : Listing) (n : ℕ) (c : Conflicts) → IsDirectoryOf u n directory → c.writing.items ≡ replicate n 0 → c.conflicted ≡ 0 → HasConflicts u [] c
none_conflict u directory n c d writing zero_is = record {
  directory = directory;
  places = subst (λ k. IsDirectoryOf u k directory) (sym (ap length writing ∙ length-replicate {A = ℕ} n 0)) d;
  writing_are = λ place k at. subst (AreCounted no_calls) (sym (none_written n place k (ap (λ (xs : List ℕ). slice_get xs place) (sym writing) ∙ at))) (record {
    clients = [];
    count = refl;
    once = tt;
    all = λ client. inl refl;
    still = λ client h. absurd h;
  });
  few = λ place k at. let is = none_written n place k (ap (λ (xs : List ℕ). slice_get xs place) (sym writing) ∙ at) in omega (arith, is);
  conflicted_is = subst (λ k. IsNumberOf k (MeetsConflict u [])) (sym zero_is) (record {
    numbers = [];
    count = refl;
    once = tt;
    all = λ x h. absurd (none-some (Ask h.client h.asks.call) h.asks.asked);
    only = λ x h. absurd h;
  });
  conflicted_few = omega (arith, zero_is);
}
