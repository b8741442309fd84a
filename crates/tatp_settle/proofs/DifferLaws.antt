-- A call differs from its entry exactly where its cell, ask and receipt don't agree.
use Rattle.std.proofs.Common.{◌≡◌, ℕ, List, Option, Some, None, slice_get, sym, ◌∙◌, ap, subst, inl, inr}
use Rattle.std.proofs.lemmas.Option.{same_Some, none-some}
use Rattle.tatp_calls.specs.declared.ask.Ask.{Ask}
use Rattle.tatp_calls.specs.declared.entry.Entry.{Entry}
use Rattle.tatp_calls.specs.contracts.ask.Ask as ask
use Rattle.tatp_logs.specs.declared.receipt.Receipt.{Receipt}
use Rattle.tatp_logs.specs.declared.receipt.Receipt.TheVariants.{Done, Refused}
use Rattle.tatp_settle.specs.declared.places.LogPlace.{LogPlace}
use Rattle.tatp_settle.specs.Closings.{ClosedState, entries_numbered}
use Rattle.tatp_settle.specs.Runs.{at_call}
use Rattle.tatp_settle.specs.Answering.{AreMatched, EntryFound}
use Rattle.tatp_settle.specs.CallPlaces.{HoldsNowhere}
use Rattle.tatp_settle.specs.Causes.{IsUnmatched, IsOtherThanLogged, Differs}
use Rattle.tatp_settle.specs.Placing.{AllPlaced, Cells}
use Rattle.tatp_logs.specs.Logs.{HasSaid}
use Rattle.tatp_settle.specs.Agreeing.{Agrees}
use Rattle.tatp_settle.proofs.StableLaws.{equal_or_not}
use Rattle.tatp_settle.proofs.ReceivedLaws.{matched_unless, in_cell, one_entry, is_of, differs_from_entry, differs_without}

module _ (closed : ClosedState) (calls : List (List Ask)) (receipts : List (List Receipt)) (cells : Cells LogPlace) (unmatched : HoldsNowhere (IsUnmatched calls receipts)) (all : AllPlaced closed receipts cells) where
  matched : (client number : ℕ) → AreMatched client number (at_call calls client number) (at_call receipts client number)
  matched client number = matched_unless client number (at_call calls client number) (at_call receipts client number) (unmatched client number)

  -- the entry at the place of a call's cell
  pointed : (client number : ℕ) (place : LogPlace) → cells client number ≡ Some (Some place) → EntryFound closed client number
  pointed client number place is =
      let p = all.points client number place is in
      record { extent = place.extent; place = place.index; entry = p.entry; stands = p.stands; own = p.own }

  nothing_in : (client number : ℕ) → cells client number ≡ Some None → EntryFound closed client number → ⊥
  nothing_in client number empty f =
      let at : LogPlace = record { extent = f.extent; index = f.place } in
      none-some at (same_Some None (Some at) (sym empty ∙ in_cell closed receipts cells all client number f))

  -- where there is no receipt, nothing differs
  pub none_differs : (client number : ℕ) → at_call receipts client number ≡ None → Differs closed calls receipts client number → ⊥
  none_differs client number none (inl d) = none-some d.receipt (sym none ∙ d.got)
  none_differs client number none (inr d) =
      let at : Option LogPlace = Some (record { extent = d.found.extent; index = d.found.place }) in
      none-some at (sym (all.none client number none) ∙ in_cell closed receipts cells all client number d.found)

  -- they say the same: nothing differs
  agreeing : (client number : ℕ) (cell : Option LogPlace) (a : Ask) (r : Receipt) → cells client number ≡ Some cell → at_call calls client number ≡ Some a → at_call receipts client number ≡ Some r
      → Agrees closed cell a r → IsOtherThanLogged closed client number r → ⊥
  agreeing client number None a (Done c n reply extent stamp) is asked got agrees other = agrees
  agreeing client number None a (Refused c n) is asked got agrees other = nothing_in client number is other
  agreeing client number (Some place) a (Refused c n) is asked got agrees other = agrees
  agreeing client number (Some place) a (Done c n reply extent stamp) is asked got agrees other =
      let p = all.points client number place is in
      let said : HasSaid (Some p.entry) a reply stamp = subst (λ (e : Option Entry). HasSaid e a reply stamp) p.stands agrees.1 in
      let own = is_of closed receipts cells all calls matched client number (Done c n reply extent stamp) got in
      let client_is : p.entry.client ≡ c = p.own.client ∙ sym own.0 in
      let number_is : p.entry.number ≡ n = p.own.number ∙ sym own.1 in
      other place.index p.entry ((λ i. slice_get (entries_numbered closed (sym agrees.0 i)) place.index) ∙ p.stands)
      (λ i. Done (client_is i) (number_is i) (said.2 i) extent (said.0 i))

  asks_same : (client number : ℕ) (cell : Option LogPlace) (a : Ask) (r : Receipt) (f : EntryFound closed client number) → cells client number ≡ Some cell → Agrees closed cell a r → a ≡ f.entry.ask
  unfolding pointed
  asks_same client number None a r f is agrees = absurd (nothing_in client number is f)
  asks_same client number (Some place) a (Refused c n) f is agrees = absurd agrees
  asks_same client number (Some place) a (Done c n reply extent stamp) f is agrees =
      let p = all.points client number place is in
      let said : HasSaid (Some p.entry) a reply stamp = subst (λ (e : Option Entry). HasSaid e a reply stamp) p.stands agrees.1 in
      sym said.1 ∙ ap (λ (e : Entry). e.ask) (one_entry closed receipts cells all client number (pointed client number place is) f)

  pub agrees_not : (client number : ℕ) (cell : Option LogPlace) (a : Ask) (r : Receipt) → cells client number ≡ Some cell → at_call calls client number ≡ Some a → at_call receipts client number ≡ Some r
      → Agrees closed cell a r → Differs closed calls receipts client number → ⊥
  agrees_not client number cell a r is asked got agrees (inl d) =
      agreeing client number cell a r is asked got agrees (subst (IsOtherThanLogged closed client number) (same_Some d.receipt r (sym d.got ∙ got)) d.differs)
  agrees_not client number cell a r is asked got agrees (inr d) = d.differs (asked ∙ ap Some (asks_same client number cell a r d.found is agrees))

  -- they don't: the receipt or the ask differs
  pub differs_here : (client number : ℕ) (cell : Option LogPlace) (a : Ask) (r : Receipt) → cells client number ≡ Some cell → at_call calls client number ≡ Some a → at_call receipts client number ≡ Some r
      → (Agrees closed cell a r → ⊥) → Differs closed calls receipts client number
  differs_here client number None a (Done c n reply extent stamp) is asked got not = inl (differs_without closed receipts cells all calls matched client number c n reply extent stamp is got)
  differs_here client number None a (Refused c n) is asked got not = absurd (not tt)
  differs_here client number (Some place) a (Refused c n) is asked got not = inl (record { receipt = Refused c n; got = got; differs = pointed client number place is })
  differs_here client number (Some place) a (Done c n reply extent stamp) is asked got not =
      let p = all.points client number place is in
      let f : EntryFound closed client number = record { extent = place.extent; place = place.index; entry = p.entry; stands = p.stands; own = p.own } in
      elim (equal_or_not ask.the_row.coded p.entry.ask a) [
        | inr other ↦ inr (record { found = f; differs = λ e. other (same_Some p.entry.ask a (sym e ∙ asked)) })
        | inl same ↦ inl (differs_from_entry closed receipts cells all calls matched client number c n reply extent stamp f got (λ e.
            let stamp_is : p.entry.stamp ≡ stamp = cc in
            let extent_is : place.extent ≡ extent = cc in
            let reply_is : p.entry.reply ≡ reply = cc in
            let said : HasSaid (slice_get (entries_numbered closed place.extent) place.index) a reply stamp = subst (λ (e : Option Entry). HasSaid e a reply stamp) (sym p.stands) (stamp_is, same, reply_is) in
            not (extent_is, said)))
      ]
