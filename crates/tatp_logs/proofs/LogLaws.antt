-- Logs: their entries, by the calls that are kept.
use Rattle.std.proofs.Common.{◌≡◌, ℕ, ◌<◌, List, ◌++◌, length, map, slice_get, slice_index_or, Some, refl, sym, ◌∙◌, ap, arith}
use Rattle.std.proofs.lemmas.List.{length-map}
use Rattle.std.proofs.lemmas.Option.{slice_get_read, slice_get-map}
use Rattle.std.specs.Option.{option_map}
use Rattle.tatp_calls.specs.declared.entry.Entry.{Entry}
use Rattle.tatp_calls.specs.declared.reply.Reply.{Reply}
use Rattle.tatp_logs.specs.declared.log.LoggedCall.{LoggedCall}
use Rattle.tatp_logs.specs.Logs.{IsOfCall}
use Rattle.tatp_logs.specs.KeptReplies.{StandsIn}
use Rattle.tatp_logs.specs.LoggedCalls.{entry_in}
use Rattle.tatp_logs.proofs.KeptReplyLaws.{same_reply}

-- with more outputs behind its own, an entry is the same
pub same_entry : (outputs more : List ℕ) (x : LoggedCall) → StandsIn outputs x.reply → entry_in (outputs ++ more) x ≡ entry_in outputs x
same_entry outputs more x h = ap (λ (r : Reply). record { client = x.client; number = x.number; ask = (entry_in outputs x).ask; reply = r; stamp = x.stamp }) (same_reply outputs more x.reply h)

-- whose call the entry in a place is
pub called : (outputs : List ℕ) (calls : List LoggedCall) (entries : List Entry) (index : ℕ) (x : LoggedCall) → map (entry_in outputs) calls ≡ entries → index < length entries → x ≡ slice_index_or calls index x
    → IsOfCall entries index x.client x.number
called outputs calls entries index x is within at =
    let long : length calls ≡ length entries = sym (length-map calls (entry_in outputs)) ∙ ap length is in
    let kept : slice_get calls index ≡ Some x = slice_get_read calls (length calls) index x refl (omega (arith, within, long)) at in
    record {
      entry = entry_in outputs x;
      stands = ap (λ (xs : List Entry). slice_get xs index) (sym is) ∙ (slice_get-map (entry_in outputs) calls index ∙ ap (option_map (entry_in outputs)) kept);
      of_client = refl;
      of_number = refl;
    }
