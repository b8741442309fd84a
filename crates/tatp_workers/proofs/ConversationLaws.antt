-- A client goes on in its conversation.
use Rattle.std.proofs.Common.{◌≡◌, ℕ, zero, suc, ◌+◌, true, false, List, [], ◌∷◌, ◌++◌, All, length, Option, Some, None, slice_get, Vec, Global, ◌≤◌, ◌<◌, refl, sym, ap, ◌∙◌, subst, append_assoc, arith, inl, inr}
use Rattle.std.specs.List.{AllZip}
use Rattle.std.proofs.lemmas.List.{append-nil}
use Rattle.std.proofs.lemmas.List.Elements.{All-head, All-tail}
use Rattle.std.proofs.Math.ListN.{set}
use Rattle.std.proofs.lemmas.Option.{slice_get_within, slice_get_cases, same_Some}
use Rattle.tatp_calls.specs.declared.ask.Ask.{Ask}
use Rattle.tatp_numbers.specs.Listing.{Listing}
use Rattle.tatp_logs.specs.declared.receipt.Receipt.{Receipt}
use Rattle.tatp_workers.specs.declared.requester.AskEffect.{AskEffect}
use Rattle.tatp_workers.specs.declared.requester.AskEffect.TheVariants.{Asks}
use Rattle.tatp_workers.specs.declared.requester.Looked.{Looked}
use Rattle.tatp_workers.specs.declared.requester.Looked.TheVariants as looked
use Rattle.tatp_workers.specs.declared.client.Client.{Client}
use Rattle.tatp_workers.specs.declared.client.ClientState.{ClientState}
use Rattle.tatp_workers.specs.declared.client.ClientState.TheVariants.{Free, Waiting, Ended}
use Rattle.tatp_workers.specs.Growing.{Grows, Does}
use Rattle.tatp_workers.specs.Asking.{Session, Conversation, Answered, Converses, Finds, item_of, seen_after, with_asked, with_receipt, with_nothing}
use Rattle.tatp_workers.specs.Clients.{Beginning, HasSaid, Stands, GoesOn, IsReady, IsAsked, asks_of, session_of}
use Rattle.tatp_workers.proofs.GrowthLaws.{grown_twice, not_grown}

-- no more calls were answered than there are
pub answered_within : (listing : Listing) (client : ℕ) (asks : List Ask) (n : ℕ) (c : Conversation) (seen : ℕ) → Answered listing client asks n c seen → n ≤ length asks
answered_within listing client asks zero c seen all = omega arith
answered_within listing client asks (suc n) c seen all = let within : n < length asks = slice_get_within asks n all.2 all.5 in omega arith

-- a client of which no call is left was answered all
pub none_left : (listing : Listing) (client : ℕ) (asks : List Ask) (n : ℕ) (c : Conversation) (seen : ℕ) → Answered listing client asks n c seen → slice_get asks n ≡ None → n ≡ length asks
none_left listing client asks n c seen all none =
    let within : n ≤ length asks = answered_within listing client asks n c seen all in
    elim (slice_get_cases asks n).1 [ inl here ↦ (let some : slice_get asks n ≡ Some here.0 = here.2 in absurd cc) | inr past ↦ (let beyond : length asks ≤ n = past.0 in omega arith) ]

module _ {E : Type 0} (effects : E → Option (List AskEffect)) (listing : Listing) where
  -- a client stands where the parts of it say so
  pub stands_by : (asks : List Ask) (start : Beginning) (client : Client E) (state : ClientState) (number : ℕ) (s : Session) (said : Conversation)
      → client.state ≡ state → client.number ≡ number → session_of client ≡ s → HasSaid state listing number asks s said
      → Grows start.effects (effects client.end) said.effects → client.receipts.receipts ≡ start.receipts ++ said.receipts → length asks ≤ client.receipts.room + client.answered
      → Stands effects listing asks start client
  stands_by asks start client state number s said is_state is_number is_session has_said done kept room = record {
    said = said;
    so_far = subst (λ (st : ClientState). HasSaid st listing client.number asks (session_of client) said) (sym is_state)
        (subst (λ (n : ℕ). HasSaid state listing n asks (session_of client) said) (sym is_number)
        (subst (λ (t : Session). HasSaid state listing number asks t said) (sym is_session) has_said));
    done = done;
    kept = kept;
    room = room;
  }

  -- what a client has said, by where it is known to stand
  pub said_by : (asks : List Ask) (start : Beginning) (client : Client E) (state : ClientState) → client.state ≡ state → (h : Stands effects listing asks start client)
      → HasSaid state listing client.number asks (session_of client) h.said
  said_by asks start client state is h = subst (λ (st : ClientState). HasSaid st listing client.number asks (session_of client) h.said) is h.so_far

  -- a client that has asked nothing stands at the beginning
  pub begins : (asks : List Ask) (client : Client E) → IsReady asks client → Stands effects listing asks (record { effects = effects client.end; receipts = client.receipts.receipts }) client
  begins asks client ready =
      let none : Conversation = record { effects = []; receipts = [] } in
      stands_by asks (record { effects = effects client.end; receipts = client.receipts.receipts }) client Free client.number (session_of client) none ready.state refl refl
      (subst (λ (n : ℕ). Answered listing client.number asks n none client.seen) (sym ready.answered) (refl, ready.seen))
      (not_grown (effects client.end)) (sym (append-nil client.receipts.receipts)) (omega (arith, ready.room, ready.answered))

  pub goes_on_still : (lists : List (Vec Ask Global)) (client : Client E) → GoesOn effects listing lists client client
  goes_on_still lists client = record { number = refl; stands = λ start h. h }

  pub goes_on_twice : (lists : List (Vec Ask Global)) (before mid after : Client E) → GoesOn effects listing lists before mid → GoesOn effects listing lists mid after → GoesOn effects listing lists before after
  goes_on_twice lists before mid after h k = record {
    number = k.number ∙ h.number;
    stands = λ (start : Beginning) (s : Stands effects listing (asks_of lists before.number) start before).
        subst (λ (n : ℕ). Stands effects listing (asks_of lists n) start after) h.number
        (k.stands start (subst (λ (n : ℕ). Stands effects listing (asks_of lists n) start mid) (sym h.number) (h.stands start s)));
  }

  module _ (lists : List (Vec Ask Global)) (before after : Client E) where
    -- it asked its next call, and waits
    pub has_asked : (ask : Ask) → before.state ≡ Free → slice_get (asks_of lists before.number) before.answered ≡ Some ask
        → Grows (effects before.end) (effects after.end) (Asks (item_of listing before.number (session_of before) ask) true ∷ [])
        → after.state ≡ Waiting → after.number ≡ before.number → session_of after ≡ session_of before
        → after.receipts.receipts ≡ before.receipts.receipts → before.receipts.room ≤ after.receipts.room
        → GoesOn effects listing lists before after
    has_asked ask free at grows waiting number session same room = record {
      number = number;
      stands = λ (start : Beginning) (h : Stands effects listing (asks_of lists before.number) start before).
          let asks = asks_of lists before.number in
          let item = item_of listing before.number (session_of before) ask in
          let answered : after.answered ≡ before.answered = ap (λ (s : Session). s.number) session in
          stands_by asks start after Waiting before.number (session_of before) (with_asked h.said item true) waiting number session
          (h.said, ask, said_by asks start before Free free h, at, refl)
          (grown_twice start.effects (effects before.end) (effects after.end) h.said.effects _ h.done grows)
          (same ∙ h.kept) (omega (arith, h.room, room, answered));
    }

    -- no inbox took its next call
    pub has_not_asked : (ask : Ask) → before.state ≡ Free → slice_get (asks_of lists before.number) before.answered ≡ Some ask
        → Grows (effects before.end) (effects after.end) (Asks (item_of listing before.number (session_of before) ask) false ∷ [])
        → after.state ≡ Ended → after.number ≡ before.number → after.answered ≡ before.answered → after.receipts ≡ before.receipts
        → GoesOn effects listing lists before after
    has_not_asked ask free at grows ended number answered same = record {
      number = number;
      stands = λ (start : Beginning) (h : Stands effects listing (asks_of lists before.number) start before).
          let asks = asks_of lists before.number in
          let item = item_of listing before.number (session_of before) ask in
          stands_by asks start after Ended before.number (session_of after) (with_asked h.said item false) ended number refl
          (record { answered = before.answered; before = h.said; seen = before.seen; first = said_by asks start before Free free h; rest = inr (ask, at, inl refl) })
          (grown_twice start.effects (effects before.end) (effects after.end) h.said.effects _ h.done grows)
          (ap (λ r. r.receipts) same ∙ h.kept) (omega (arith, h.room, ap (λ r. r.room) same, answered));
    }

    -- it has no more calls
    pub has_asked_all : before.state ≡ Free → slice_get (asks_of lists before.number) before.answered ≡ None
        → after.end ≡ before.end → after.state ≡ Ended → after.number ≡ before.number → after.answered ≡ before.answered → after.receipts ≡ before.receipts
        → GoesOn effects listing lists before after
    has_asked_all free none same_end ended number answered same = record {
      number = number;
      stands = λ (start : Beginning) (h : Stands effects listing (asks_of lists before.number) start before).
          let asks = asks_of lists before.number in
          let all = said_by asks start before Free free h in
          stands_by asks start after Ended before.number (session_of after) h.said ended number refl
          (record { answered = before.answered; before = h.said; seen = before.seen; first = all; rest = inl (none_left listing before.number asks before.answered h.said before.seen all none, refl) })
          (subst (λ (e : E). Grows start.effects (effects e) h.said.effects) (sym same_end) h.done)
          (ap (λ r. r.receipts) same ∙ h.kept) (omega (arith, h.room, ap (λ r. r.room) same, answered));
    }

    -- without room for a receipt there is no next call
    pub has_no_room : (ask : Ask) → slice_get (asks_of lists before.number) before.answered ≡ Some ask → before.receipts.room ≡ 0 → after.number ≡ before.number
        → GoesOn effects listing lists before after
    has_no_room ask at none number = record {
      number = number;
      stands = λ (start : Beginning) (h : Stands effects listing (asks_of lists before.number) start before).
          let within : before.answered < length (asks_of lists before.number) = slice_get_within (asks_of lists before.number) before.answered ask at in
          absurd (omega (arith, h.room, none));
    }

    -- its receipt came
    pub has_got : (found : Looked) → found ≡ looked.Received → before.state ≡ Waiting → (finds : Does (Finds found before.receipts after.receipts) (effects before.end) (effects after.end))
        → ((receipts : List Receipt) (receipt : Receipt) → after.receipts.receipts ≡ receipts ++ receipt ∷ [] → after.seen ≡ seen_after before.seen receipt)
        → after.state ≡ Free → after.number ≡ before.number → after.answered ≡ before.answered + 1
        → GoesOn effects listing lists before after
    has_got looked.Received is waiting finds seen free number answered = record {
      number = number;
      stands = λ (start : Beginning) (h : Stands effects listing (asks_of lists before.number) start before).
          let asks = asks_of lists before.number in
          let receipt = finds.1.0 in
          let waits = said_by asks start before Waiting waiting h in
          let next : suc before.answered ≡ after.answered = omega (arith, answered) in
          stands_by asks start after Free before.number (session_of after) (with_receipt h.said receipt) free number refl
          (subst (λ (n : ℕ). Answered listing before.number asks n (with_receipt h.said receipt) after.seen) next
          (waits.0, before.seen, waits.1, receipt, waits.2, waits.3, ap (λ (c : Conversation). with_receipt c receipt) waits.4, seen before.receipts.receipts receipt finds.1.2))
          (grown_twice start.effects (effects before.end) (effects after.end) h.said.effects _ h.done (subst (Grows (effects before.end) (effects after.end)) finds.1.1 finds.2))
          (finds.1.2 ∙ ap (λ (l : List Receipt). l ++ receipt ∷ []) h.kept ∙ append_assoc start.receipts h.said.receipts (receipt ∷ []))
          (omega (arith, h.room, finds.1.3, answered));
    }
    has_got looked.NotYet is waiting finds seen free number answered = absurd cc
    has_got looked.Dropped is waiting finds seen free number answered = absurd cc

    -- its call was dropped
    pub has_lost : (found : Looked) → found ≡ looked.Dropped → before.state ≡ Waiting → Does (Finds found before.receipts after.receipts) (effects before.end) (effects after.end)
        → after.state ≡ Ended → after.number ≡ before.number → after.answered ≡ before.answered
        → GoesOn effects listing lists before after
    has_lost looked.Dropped is waiting finds ended number answered = record {
      number = number;
      stands = λ (start : Beginning) (h : Stands effects listing (asks_of lists before.number) start before).
          let asks = asks_of lists before.number in
          let waits = said_by asks start before Waiting waiting h in
          stands_by asks start after Ended before.number (session_of after) (with_nothing h.said) ended number refl
          (record { answered = before.answered; before = waits.0; seen = before.seen; first = waits.2; rest = inr (waits.1, waits.3, inr (ap with_nothing waits.4)) })
          (grown_twice start.effects (effects before.end) (effects after.end) h.said.effects _ h.done (subst (Grows (effects before.end) (effects after.end)) finds.1.0 finds.2))
          (ap (λ r. r.receipts) finds.1.1 ∙ h.kept) (omega (arith, h.room, ap (λ r. r.room) finds.1.1, answered));
    }
    has_lost looked.NotYet is waiting finds ended number answered = absurd cc
    has_lost looked.Received is waiting finds ended number answered = absurd cc

    -- it went on to its end
    pub is_asked : GoesOn effects listing lists before after → after.state ≡ Ended → IsAsked effects listing lists before after
    is_asked h ended = record {
      number = h.number;
      conversed = λ (ready : IsReady (asks_of lists before.number) before).
          let asks = asks_of lists before.number in
          let start : Beginning = record { effects = effects before.end; receipts = before.receipts.receipts } in
          let s : Stands effects listing asks start after = h.stands start (begins asks before ready) in
          (s.said, subst (λ (n : ℕ). Converses listing n asks s.said) h.number (said_by asks start after Ended ended s), s.done, s.kept);
    }

  -- ---- several clients
  pub all_still : (lists : List (Vec Ask Global)) (clients : List (Client E)) → AllZip (GoesOn effects listing lists) clients clients
  all_still lists [] = tt
  all_still lists (client ∷ clients) = (goes_on_still lists client, all_still lists clients)

  pub all_twice : (lists : List (Vec Ask Global)) (befores mids afters : List (Client E))
      → AllZip (GoesOn effects listing lists) befores mids → AllZip (GoesOn effects listing lists) mids afters → AllZip (GoesOn effects listing lists) befores afters
  all_twice lists [] [] [] h k = tt
  all_twice lists [] [] (after ∷ afters) h k = absurd k
  all_twice lists [] (mid ∷ mids) afters h k = absurd h
  all_twice lists (before ∷ befores) [] afters h k = absurd h
  all_twice lists (before ∷ befores) (mid ∷ mids) [] h k = absurd k
  all_twice lists (before ∷ befores) (mid ∷ mids) (after ∷ afters) h k = (goes_on_twice lists before mid after h.0 k.0, all_twice lists befores mids afters h.1 k.1)

  pub all_asked : (lists : List (Vec Ask Global)) (befores afters : List (Client E))
      → AllZip (GoesOn effects listing lists) befores afters → All (λ (client : Client E). client.state ≡ Ended) afters → AllZip (IsAsked effects listing lists) befores afters
  all_asked lists [] [] h ended = tt
  all_asked lists [] (after ∷ afters) h ended = absurd h
  all_asked lists (before ∷ befores) [] h ended = absurd h
  all_asked lists (before ∷ befores) (after ∷ afters) h ended = (is_asked lists before after h.0 (All-head (λ (client : Client E). client.state ≡ Ended) after afters ended), all_asked lists befores afters h.1 (All-tail (λ (client : Client E). client.state ≡ Ended) after afters ended))

  -- one of them goes on
  pub one_went_on : (lists : List (Vec Ask Global)) (befores nows : List (Client E)) (i : ℕ) (now next : Client E)
      → AllZip (GoesOn effects listing lists) befores nows → slice_get nows i ≡ Some now → GoesOn effects listing lists now next → AllZip (GoesOn effects listing lists) befores (set nows i next)
  one_went_on lists [] [] i now next h at on = absurd cc
  one_went_on lists [] (n ∷ nows) i now next h at on = absurd h
  one_went_on lists (b ∷ befores) [] i now next h at on = absurd h
  one_went_on lists (b ∷ befores) (n ∷ nows) zero now next h at on =
      (goes_on_twice lists b n next h.0 (subst (λ (client : Client E). GoesOn effects listing lists client next) (sym (same_Some n now at)) on), h.1)
  one_went_on lists (b ∷ befores) (n ∷ nows) (suc i) now next h at on = (h.0, one_went_on lists befores nows i now next h.1 at on)
