use Rattle.std.proofs.Common.{◌≡◌, [], ◌∷◌, ◌++◌, slice_index, append_assoc, sym, ap, ◌∙◌}
use Rattle.std.specs.Option.{option_to_list}
use Rattle.tatp_tables.specs.Keys.{row_at}
use Rattle.tatp_calls.specs.Transactions.{some_of}
use Rattle.tatp_procs.proofs.ConsistentLaws.{IsConsistent-home}
use Rattle.tatp_evaluation.proofs.DestinationLaws.{active, inactive, destinations_are, no_destinations}
use Rattle.tatp_evaluation.proofs.reads.get_new_destination.Goals as goal

pub returns-then-column-ne1 : goal.returns-then-column-ne1
returns-then-column-ne1 c =
    let u = c.args.home.now.tables in
    let s = slice_index c.args.facility 0 in
    let k = slice_index c.args.facility 1 in
    c.set.ensures ∙ ap (λ xs. (some_of u xs).reply)
    (sym (no_destinations u s k c.args.start_time c.args.end_time (inactive (row_at u.facilities (s ∷ k ∷ [])) (λ h. c.if-column-ne1.true (c.column.ensures ∙ h)))))

pub returns : goal.returns
returns c =
    let u = c.args.home.now.tables in
    let s = slice_index c.args.facility 0 in
    let k = slice_index c.args.facility 1 in
    let are = destinations_are u s k c.args.start_time c.args.end_time (IsConsistent-home c.args.home.now c.what_holds_of_every_home.ensures)
    (active (row_at u.facilities (s ∷ k ∷ [])) (sym c.column.ensures ∙ c.if-column-ne1.false)) in
    let first : c.push_some.new.numbers.items ≡ option_to_list c.destination.result = c.push_some.ensures.items ∙ ap (λ xs. xs ++ option_to_list c.destination.result) c.new-numbers.ensures in
    let second : c.push_some-2.new.numbers.items ≡ option_to_list c.destination.result ++ option_to_list c.destination-2.result
    = c.push_some-2.ensures.items ∙ ap (λ xs. xs ++ option_to_list c.destination-2.result) first in
    let third : c.push_some-3.new.numbers.items ≡ option_to_list c.destination.result ++ (option_to_list c.destination-2.result ++ option_to_list c.destination-3.result)
    = c.push_some-3.ensures.items ∙ (ap (λ xs. xs ++ option_to_list c.destination-3.result) second
    ∙ append_assoc (option_to_list c.destination.result) (option_to_list c.destination-2.result) (option_to_list c.destination-3.result)) in
    c.reply_some.ensures u ∙ ap (λ xs. (some_of u xs).reply) (c.as_slice.ensures.value ∙ (third
    ∙ ((λ i. option_to_list (c.destination.ensures i) ++ (option_to_list (c.destination-2.ensures i) ++ option_to_list (c.destination-3.ensures i))) ∙ sym are)))
