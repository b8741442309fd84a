-- Where no pass over receipts, calls and logs finds anything, the clients received what was logged.
use Rattle.std.proofs.Common.{◌≡◌, ℕ, List, Option, Some, None, slice_get, refl, sym, ◌∙◌, ap, subst, inl, inr}
use Rattle.std.proofs.lemmas.Option.{same_Some, none-some}
use Rattle.tatp_calls.specs.declared.ask.Ask.{Ask}
use Rattle.tatp_calls.specs.declared.entry.Entry.{Entry}
use Rattle.tatp_calls.specs.contracts.ask.Ask as ask
use Rattle.tatp_logs.specs.declared.receipt.Receipt.{Receipt}
use Rattle.tatp_logs.specs.declared.receipt.Receipt.TheVariants.{Done, Refused}
use Rattle.tatp_logs.specs.contracts.receipt.Receipt as receipt
use Rattle.tatp_settle.specs.declared.places.LogPlace.{LogPlace}
use Rattle.tatp_settle.specs.Closings.{ClosedState, entries_numbered, StandsAt}
use Rattle.tatp_settle.specs.Runs.{Run, at_call}
use Rattle.tatp_settle.specs.Receipts.{IsOf}
use Rattle.tatp_settle.specs.Answering.{AreMatched, EntryFound, receipt_of, IsAnswered, HasReceipt}
use Rattle.tatp_settle.specs.CallPlaces.{HoldsNowhere}
use Rattle.tatp_settle.specs.Causes.{IsUnmatched, ReceiptDiffers, Differs, StampFalls}
use Rattle.tatp_settle.specs.Placing.{AllPlaced, Cells}
use Rattle.tatp_settle.specs.Settlements.{IsReceived}
use Rattle.tatp_settle.proofs.StableLaws.{equal_numbers, equal_unless}

-- ---- calls and receipts
pub matched_unless : (client number : ℕ) (call : Option Ask) (got : Option Receipt) → ((AreMatched client number call got → ⊥) → ⊥) → AreMatched client number call got
matched_unless client number None None h = tt
matched_unless client number None (Some r) h = h (λ x. x)
matched_unless client number (Some a) None h = h (λ x. x)
matched_unless client number (Some a) (Some (Done c n reply extent stamp)) h = (equal_numbers c client (λ other. h (λ m. other m.0)), equal_numbers n number (λ other. h (λ m. other m.1)))
matched_unless client number (Some a) (Some (Refused c n)) h = (equal_numbers c client (λ other. h (λ m. other m.0)), equal_numbers n number (λ other. h (λ m. other m.1)))

-- a receipt beside its call is of it
of_call : (client number : ℕ) (call : Option Ask) (got : Option Receipt) (r : Receipt) → AreMatched client number call got → got ≡ Some r → IsOf client number r
of_call client number None got r m is = absurd (subst (AreMatched client number None) is m)
of_call client number (Some a) got r m is = subst (AreMatched client number (Some a)) is m

-- ---- entries in their cells
module _ (closed : ClosedState) (receipts : List (List Receipt)) (cells : Cells LogPlace) (all : AllPlaced closed receipts cells) where
  pub in_cell : (client number : ℕ) (f : EntryFound closed client number) → cells client number ≡ Some (Some (record { extent = f.extent; index = f.place }))
  in_cell client number f = (λ i. cells (sym f.own.client i) (sym f.own.number i)) ∙ all.placed f.extent f.place f.entry f.stands

  pub one_place : (client number : ℕ) (one other : EntryFound closed client number) → (one.extent ≡ other.extent) × (one.place ≡ other.place)
  one_place client number one other =
      let at : LogPlace = record { extent = one.extent; index = one.place } in
      let also : LogPlace = record { extent = other.extent; index = other.place } in
      let same : at ≡ also = same_Some at also (same_Some (Some at) (Some also) (sym (in_cell client number one) ∙ in_cell client number other)) in
      (ap (λ (p : LogPlace). p.extent) same, ap (λ (p : LogPlace). p.index) same)

  pub one_entry : (client number : ℕ) (one other : EntryFound closed client number) → one.entry ≡ other.entry
  one_entry client number one other =
      let p = one_place client number one other in
      same_Some one.entry other.entry (sym one.stands ∙ (λ i. slice_get (entries_numbered closed (p.0 i)) (p.1 i)) ∙ other.stands)

  -- what the entry of a call says, wherever it is found
  one_receipt : (client number : ℕ) (one other : EntryFound closed client number) → receipt_of (record { extent = one.extent; entry = one.entry }) ≡ receipt_of (record { extent = other.extent; entry = other.entry })
  one_receipt client number one other = λ i. receipt_of (record { extent = (one_place client number one other).0 i; entry = one_entry client number one other i })

  module _ (calls : List (List Ask)) (matched : (client number : ℕ) → AreMatched client number (at_call calls client number) (at_call receipts client number)) where
    pub is_of : (client number : ℕ) (r : Receipt) → at_call receipts client number ≡ Some r → IsOf client number r
    is_of client number r got = of_call client number (at_call calls client number) (at_call receipts client number) r (matched client number) got

    -- an entry that a receipt equals is of the receipt's call
    own_entry : (client number c n : ℕ) (reply : _) (extent stamp place : ℕ) (entry : Entry) → at_call receipts client number ≡ Some (Done c n reply extent stamp) → StandsAt closed extent place entry
        → receipt_of (record { extent = extent; entry = entry }) ≡ Done c n reply extent stamp → EntryFound closed client number
    own_entry client number c n reply extent stamp place entry got stands e =
        let own = is_of client number (Done c n reply extent stamp) got in
        let client_is : entry.client ≡ c = cc in
        let number_is : entry.number ≡ n = cc in
        record { extent = extent; place = place; entry = entry; stands = stands; own = record { client = client_is ∙ own.0; number = number_is ∙ own.1 } }

    -- the receipt isn't what the entry of its call says
    pub differs_from_entry : (client number c n : ℕ) (reply : _) (extent stamp : ℕ) (f : EntryFound closed client number) → at_call receipts client number ≡ Some (Done c n reply extent stamp)
        → (Done c n reply extent stamp ≡ receipt_of (record { extent = f.extent; entry = f.entry }) → ⊥) → ReceiptDiffers closed receipts client number
    unfolding own_entry
    differs_from_entry client number c n reply extent stamp f got other = record {
      receipt = Done c n reply extent stamp;
      got = got;
      differs = λ place entry stands e.
          let g : EntryFound closed client number = own_entry client number c n reply extent stamp place entry got stands e in
          other (sym e ∙ one_receipt client number g f);
    }

    -- the call is completed and has no entry
    pub differs_without : (client number c n : ℕ) (reply : _) (extent stamp : ℕ) → cells client number ≡ Some None → at_call receipts client number ≡ Some (Done c n reply extent stamp) → ReceiptDiffers closed receipts client number
    differs_without client number c n reply extent stamp empty got = record {
      receipt = Done c n reply extent stamp;
      got = got;
      differs = λ place entry stands e.
          let g : EntryFound closed client number = own_entry client number c n reply extent stamp place entry got stands e in
          let at : LogPlace = record { extent = g.extent; index = g.place } in
          none-some at (same_Some None (Some at) (sym empty ∙ in_cell client number g));
    }

    module _ (agree : HoldsNowhere (Differs closed calls receipts)) where
      as_logged : (client number : ℕ) (f : EntryFound closed client number) (r : Receipt) → at_call receipts client number ≡ Some r → r ≡ receipt_of (record { extent = f.extent; entry = f.entry })
      as_logged client number f (Refused c n) got = absurd (agree client number (inl (record { receipt = Refused c n; got = got; differs = f })))
      as_logged client number f (Done c n reply extent stamp) got =
          equal_unless receipt.the_row.coded (Done c n reply extent stamp) (receipt_of (record { extent = f.extent; entry = f.entry }))
          (λ other. agree client number (inl (differs_from_entry client number c n reply extent stamp f got other)))

      -- the call of an entry asks what the entry says
      as_asked : (client number : ℕ) (f : EntryFound closed client number) (a : Ask) → at_call calls client number ≡ Some a → a ≡ f.entry.ask
      as_asked client number f a asked =
          equal_unless ask.the_row.coded a f.entry.ask (λ other. agree client number (inr (record { found = f; differs = λ e. other (same_Some a f.entry.ask (sym asked ∙ e)) })))

      is_answered : (client number : ℕ) (a : Ask) (r : Receipt) → at_call calls client number ≡ Some a → at_call receipts client number ≡ Some r → IsAnswered closed a r
      is_answered client number a (Refused c n) asked got =
          let own = is_of client number (Refused c n) got in
          λ f. agree client number (inl (record { receipt = Refused c n; got = got; differs = subst (λ (k : ℕ). EntryFound closed k number) own.0 (subst (λ (k : ℕ). EntryFound closed c k) own.1 f) }))
      is_answered client number a (Done c n reply extent stamp) asked got = by (cells client number) refl
        where
          by : (cell : Option (Option LogPlace)) → cells client number ≡ cell → IsAnswered closed a (Done c n reply extent stamp)
          by None is = absurd (none-some (Done c n reply extent stamp) (sym (all.some client number is) ∙ got))
          by (Some None) is = absurd (agree client number (inl (differs_without client number c n reply extent stamp is got)))
          by (Some (Some place)) is =
              let p = all.points client number place is in
              let f : EntryFound closed client number = record { extent = place.extent; place = place.index; entry = p.entry; stands = p.stands; own = p.own } in
              let same : Done c n reply extent stamp ≡ receipt_of (record { extent = place.extent; entry = p.entry }) = as_logged client number f (Done c n reply extent stamp) got in
              let client_is : p.entry.client ≡ c = cc in
              let number_is : p.entry.number ≡ n = cc in
              let reply_is : p.entry.reply ≡ reply = cc in
              let extent_is : extent ≡ place.extent = cc in
              let stamp_is : p.entry.stamp ≡ stamp = cc in
              let ask_is : p.entry.ask ≡ a = sym (as_asked client number f a asked) in
              (place.index, (λ i. slice_get (entries_numbered closed (extent_is i)) place.index) ∙ p.stands ∙ (λ i. Some (record { client = client_is i; number = number_is i; ask = ask_is i; reply = reply_is i; stamp = stamp_is i })))

      has_receipt : (e place : ℕ) (entry : Entry) → StandsAt closed e place entry → HasReceipt receipts (record { extent = e; entry = entry })
      has_receipt e place entry stands = by (at_call receipts entry.client entry.number) refl
        where
          f : EntryFound closed entry.client entry.number
          f = record { extent = e; place = place; entry = entry; stands = stands; own = record { client = refl; number = refl } }

          by : (got : Option Receipt) → at_call receipts entry.client entry.number ≡ got → at_call receipts entry.client entry.number ≡ Some (receipt_of (record { extent = e; entry = entry }))
          by None is =
              let at : Option LogPlace = Some (record { extent = e; index = place }) in
              absurd (none-some at (sym (all.none entry.client entry.number is) ∙ in_cell entry.client entry.number f))
          by (Some r) is = is ∙ ap Some (as_logged entry.client entry.number f r is)

-- nothing is found: each client's receipts are its calls in order, with stamps that rise, and each entry has its receipt
pub received : (run : Run) (cells : Cells LogPlace) → HoldsNowhere (IsUnmatched run.calls run.receipts) → AllPlaced run.closed run.receipts cells → HoldsNowhere (Differs run.closed run.calls run.receipts) → HoldsNowhere (StampFalls run.receipts) → IsReceived run
received run cells unmatched all agree rising =
    let matched : (client number : ℕ) → AreMatched client number (at_call run.calls client number) (at_call run.receipts client number) =
    λ client number. matched_unless client number (at_call run.calls client number) (at_call run.receipts client number) (unmatched client number) in
    record {
      matched = matched;
      answered = is_answered run.closed run.receipts cells all run.calls matched agree;
      known = has_receipt run.closed run.receipts cells all run.calls matched agree;
      once = λ client number one other. one_place run.closed run.receipts cells all client number one other;
      rising = rising;
    }
