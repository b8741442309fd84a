use Rattle.std.specs.Prelude.{All}
use Rattle.std.proofs.Common.{◌≤◌, ◌∙◌, ap, sym, subst, length, arith}
use Rattle.std.proofs.lemmas.Option.{IfSome_then}
use Rattle.tatp_judge.specs.Explained.{AreWindowNumbers}
use Rattle.tatp_judge.specs.Legal.{AreLegalReplies}
use Rattle.tatp_judged_inputs.specs.Views.{seen}
use Rattle.tatp_judged_inputs.specs.Judged.{in_input}
use Rattle.tatp_judged_inputs.proofs.TellingLaws.{all_wider, told_window}
use Rattle.tatp_judged_inputs.proofs.ViewLaws.{seen_length, seen_take}
use Rattle.tatp_judged_inputs.proofs.reading.Reading.explained.Goals as goal

pub window_numbers-requires : goal.window_numbers-requires
window_numbers-requires c = let q = c.requires in let long = seen_length q.0 q.1 in (q.0.rows, seen q.0 q.1, q.3, omega (arith, q.4, long), q.5, q.6)

pub legal_replies-requires : goal.legal_replies-requires
legal_replies-requires c = let q = c.requires in let long = seen_length q.0 q.1 in (q.0.rows, seen q.0 q.1, q.3, omega (arith, q.4, long), q.5, q.6)

pub in_input-requires : goal.in_input-requires
in_input-requires c =
    let q = c.requires in
    all_wider c.args.line (length c.args.self.now.numbers.items) c.as_slice.result.now (omega (arith, q.2.count, q.4))
    (subst (λ xs. All (λ n. (1 ≤ n) × (n ≤ c.args.line)) xs) (sym c.as_slice.ensures.value) c.in_ok-numbers.ensures.within)

pub returns : goal.returns
returns c = λ u past numbered kept within fails other.
    let line = c.args.line in
    let s = c.args.s_id in
    let long = seen_length u past in
    let there : line ≤ length (seen u past) = omega (arith, within, long) in
    told_window u past c.args.self.now s line c.in_ok-numbers.numbers.items (record { lines = c.in_ok-lines.lines; legal = c.in_ok-legal.legal })
    (subst (λ ls. AreWindowNumbers u.rows s ls c.in_ok-numbers.numbers.items) (seen_take u line past) (c.in_ok-numbers.ensures.numbers u.rows (seen u past) kept there fails other))
    (IfSome_then c.in_ok-legal.legal c.in_ok-legal.ensures (λ l told. subst (λ ls. AreLegalReplies u.rows s ls l.call l.replies.items) (seen_take u line past) (told u.rows (seen u past) kept there fails other)))
    c.in_ok-numbers.ensures.within (c.in_ok-lines.ensures ∙ ap (in_input c.args.self.now.numbers.items) c.as_slice.ensures.value)
