use Rattle.std.proofs.Common.{◌≡◌, ◌-◌, ◌≤◌, ◌++◌, ◌∙◌, ap, sym, subst, nat_le, filter, take, arith, rules}
use Rattle.std.proofs.lemmas.Fn.{filter_same}
use Rattle.tatp_judge.specs.Explained.{AreWindowNumbers}
use Rattle.tatp_judge.proofs.ExplainingLaws.{each_within, named_there, numbers_told, numbers_within}
use Rattle.tatp_judge.proofs.PlaceLaws.{found_at}
use Rattle.tatp_judge.proofs.judge.Judge.window_numbers.Goals as goal

pub overflow_sub-s_id : goal.overflow_sub-s_id
overflow_sub-s_id c = let q = c.requires in (named_there q.0 q.1 c.args.self.now c.args.line c.args.s_id q.2 q.4).0

pub index-window-requires : goal.index-window-requires
index-window-requires c =
    let q = c.requires in
    let there = named_there q.0 q.1 c.args.self.now c.args.line c.args.s_id q.2 q.4 in
    omega (arith, there.0, there.1, c.args.self.now.windows.ok.0)

pub returns-clause-numbers : goal.returns-clause-numbers
returns-clause-numbers c = λ u lines kept within fails other.
    let s = c.args.s_id in
    let line = c.args.line in
    let ws = c.args.self.now.windows.items in
    let w = c.index-window.result.now in
    let there = named_there u lines c.args.self.now line s kept fails in
    let copied : c.extend_from_slice.new.self.items ≡ w.numbers.items = c.in_ok-extend_from_slice.ensures.items ∙ (λ i. c.new-numbers.ensures.items i ++ c.as_slice.ensures.value i) in
    let left : c.retain.new.self.items ≡ filter (λ n. nat_le n line) c.extend_from_slice.new.self.items = filter_same _ _ _ (λ x b f k. search rules) _ _ c.retain.ensures.filtered in
    subst (AreWindowNumbers u s (take line lines)) (sym (left ∙ ap (filter (λ n. nat_le n line)) copied))
    (numbers_told u lines c.args.self.now line s w kept within fails other there.0 (found_at ws (s - 1) w (omega (arith, there.0, there.1)) c.index-window.ensures))

pub returns-clause-within : goal.returns-clause-within
returns-clause-within c =
    let q = c.requires in
    let numbers = c.retain.new.self.items in
    each_within (λ n. (1 ≤ n) × (n ≤ c.args.line)) numbers (numbers_within q.0 c.args.s_id q.1 c.args.line numbers q.3 (returns-clause-numbers c q.0 q.1 q.2 q.3 q.4 q.5))
