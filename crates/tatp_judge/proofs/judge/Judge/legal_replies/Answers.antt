use Rattle.std.proofs.Common.{◌-◌, arith}
use Rattle.std.proofs.lemmas.Result.{IfOk-weaker}
use Rattle.std.proofs.lemmas.Option.{IfSome_then}
use Rattle.tatp_judge.proofs.ExplainingLaws.{kept_window, named_there}
use Rattle.tatp_judge.proofs.PlaceLaws.{found_at}
use Rattle.tatp_judge.proofs.judge.Judge.legal_replies.Goals as goal

pub overflow_sub-s_id : goal.overflow_sub-s_id
overflow_sub-s_id c = let q = c.requires in (named_there q.0 q.1 c.args.self.now c.args.line c.args.s_id q.2 q.4).0

pub index-requires : goal.index-requires
index-requires c =
    let q = c.requires in
    let there = named_there q.0 q.1 c.args.self.now c.args.line c.args.s_id q.2 q.4 in
    omega (arith, there.0, there.1, c.args.self.now.windows.ok.0)

pub legal_replies-requires : goal.legal_replies-requires
legal_replies-requires c =
    let q = c.requires in
    let s = c.args.s_id in
    let judge = c.args.self.now in
    let w = c.index.result.now in
    let there = named_there q.0 q.1 judge c.args.line s q.2 q.4 in
    (q.0, q.2.most, s, q.1, q.3, q.4, kept_window q.0 q.1 judge s w q.2 q.5 there.0 (found_at judge.windows.items (s - 1) w (omega (arith, there.0, there.1)) c.index.ensures))

pub returns : goal.returns
returns c = IfOk-weaker c.legal_replies.result _ _ (λ found h. IfSome_then found h (λ legal told u lines kept within fails other.
    let s = c.args.s_id in
    let judge = c.args.self.now in
    let w = c.index.result.now in
    let there = named_there u lines judge c.args.line s kept fails in
    told u kept.most s lines within fails (kept_window u lines judge s w kept other there.0 (found_at judge.windows.items (s - 1) w (omega (arith, there.0, there.1)) c.index.ensures)))) c.legal_replies.ensures
