use Rattle.std.proofs.Common.{◌≡◌, ℕ, ◌+◌, ◌-◌, ◌<◌, ◌≤◌, ◌⊎◌, inl, inr, Bool, true, false, ◌∙◌, List, Some, slice_get, [], length, arith, sym, subst}
use Rattle.std.proofs.lemmas.Option.{slice_get_within}
use Rattle.std.proofs.lemmas.Bool.{false≢true}
use Rattle.std.proofs.Math.ListN.{length-map}
use Rattle.tatp_calls.specs.declared.entry.Entry.{Entry}
use Rattle.tatp_settle.specs.Closings.{ClosedState, StandsAt, entries_numbered}
use Rattle.tatp_logs.specs.Receipts.{ReceiptsState, receipts_of}
use Rattle.tatp_settle.specs.Placing.{cells_of, BelongsAt}
use Rattle.tatp_settle.proofs.PlacingLaws.{caller_put, caller_kept, caller_other, placed_log, placed_part}
use Rattle.tatp_settle.proofs.placement.place_in_turn.Goals as goal
use Rattle.tatp_settle.proofs.placement.place_in_turn.Goals.{then-belongs+then-not-put, else-belongs, else-belongs-via-then-belongs+else-not-put, else-belongs-via-else-belongs, After-logs}

none_after : (closed : ClosedState) (count : ℕ) → ((e : ℕ) → count ≤ e → entries_numbered closed e ≡ []) → (e i : ℕ) (entry : Entry) → count ≤ e → StandsAt closed e i entry → ⊥
none_after closed count h e i entry l s = let f : slice_get [] i ≡ Some entry = subst (λ xs. slice_get xs i ≡ Some entry) (h e l) s in cc

none_past : (closed : ClosedState) (e n : ℕ) → length (entries_numbered closed e) ≤ n → (i : ℕ) (entry : Entry) → n ≤ i → StandsAt closed e i entry → ⊥
none_past closed e n all i entry l s = omega (arith, all, l, slice_get_within (entries_numbered closed e) i entry s)

belongs_there : (receipts : List ReceiptsState) (first client : ℕ) (last : Bool) → first ≤ client → (client < first + length receipts) ⊎ (last ≡ true) → BelongsAt (receipts_of receipts) last (client - first)
belongs_there receipts first client last later (inl l) = let same = length-map receipts (λ (v : ReceiptsState). v.receipts) in inl (omega (arith, later, l, same))
belongs_there receipts first client last later (inr all) = inr all

belongs_not : (receipts : List ReceiptsState) (first client : ℕ) (last : Bool) → (client < first) ⊎ ((first + length receipts ≤ client) × (last ≡ false)) → (at : ℕ) → first + at ≡ client → BelongsAt (receipts_of receipts) last at → ⊥
belongs_not receipts first client last (inl l) at is own = absurd (omega (arith, l, is))
belongs_not receipts first client last (inr g) at is (inl l) = let same = length-map receipts (λ (v : ReceiptsState). v.receipts) in absurd (omega (arith, g.0, is, l, same))
belongs_not receipts first client last (inr g) at is (inr all) = false≢true (sym g.1 ∙ all)

client_at : (first client : ℕ) → first ≤ client → first + (client - first) ≡ client
client_at first client later = omega (arith, later)

pub entries-preserved : goal.entries-preserved
entries-preserved c =
    let client = c.caller-client.result.0 in
    let number = c.caller-client.result.1 in
    elim c.if-belongs.branch [
      | then-belongs+then-not-put w ↦ rw w.table-is (rw w.extra-is (record {
        len = w.put.ensures.len ∙ c.entries.invariant.len;
        placed = caller_kept c.args.logs.now (receipts_of c.args.part.now.receipts.now) c.args.part.now.first c.args.part.now.last (cells_of c.entries.table) (cells_of w.put.new.self) c.entries.extra w.lesser-extra.result c.logs.extent c.entries.index (client - c.args.part.now.first) client number c.entries.invariant.placed c.caller-client.ensures
            (client_at c.args.part.now.first client (c.belongs.ensures.belongs w.if-belongs.true).0) (belongs_there c.args.part.now.receipts.now c.args.part.now.first client c.args.part.now.last (c.belongs.ensures.belongs w.if-belongs.true).0 (c.belongs.ensures.belongs w.if-belongs.true).1)
            w.if-not-put.ensures.puts w.lesser-extra.ensures.keeps w.lesser-extra.ensures.at w.lesser-extra.ensures.is;
      }))
      | else-belongs w ↦ rw w.table-is (rw w.extra-is (elim w.else-belongs.branch [
        | else-belongs-via-then-belongs+else-not-put w' ↦ rw w'.table-is (record {
          len = w'.put.ensures.len ∙ c.entries.invariant.len;
          placed = caller_put c.args.logs.now (receipts_of c.args.part.now.receipts.now) c.args.part.now.first c.args.part.now.last (cells_of c.entries.table) (cells_of w'.put.new.self) c.entries.extra c.logs.extent c.entries.index (client - c.args.part.now.first) client number c.entries.invariant.placed c.caller-client.ensures
              (client_at c.args.part.now.first client (c.belongs.ensures.belongs w'.if-belongs.true).0) w'.if-not-put.ensures.puts;
        })
        | else-belongs-via-else-belongs w' ↦ rw w'.table-is (record {
          len = c.entries.invariant.len;
          placed = caller_other c.args.logs.now (receipts_of c.args.part.now.receipts.now) c.args.part.now.first c.args.part.now.last (cells_of c.entries.table) c.entries.extra c.logs.extent c.entries.index client number c.entries.invariant.placed c.caller-client.ensures
              (belongs_not c.args.part.now.receipts.now c.args.part.now.first client c.args.part.now.last (c.belongs.ensures.other w'.if-belongs.false));
        })
      ]))
    ]

pub logs-preserved : goal.logs-preserved
logs-preserved c = record {
  len = c.entries.invariant.len;
  placed = placed_log c.args.logs.now (receipts_of c.args.part.now.receipts.now) c.args.part.now.first c.args.part.now.last (cells_of c.entries.table) c.entries.extra c.logs.extent c.entries.index c.entries.invariant.placed
      (none_past c.args.logs.now c.logs.extent c.entries.index (omega (arith, c.len-index-end.ensures, c.entries-test.false)));
}

past : (c : After-logs) → (e i : ℕ) (entry : Entry) → c.logs.extent ≤ e → StandsAt c.args.logs.now e i entry → ⊥
past c e i entry l = none_after c.args.logs.now c.count-extent-end.result c.count-extent-end.ensures.beyond e i entry (omega (arith, l, c.logs-test.false))

pub returns : goal.returns
returns c = record {
  len = c.logs.invariant.len;
  placed = placed_part c.args.logs.now (receipts_of c.args.part.now.receipts.now) c.args.part.now.first c.args.part.now.last (cells_of c.logs.table) c.logs.extra c.logs.extent (past c) c.logs.invariant.placed;
}
