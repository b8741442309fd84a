use Rattle.std.proofs.Common.{◌-◌, arith, refl, inl, inr}
use Rattle.tatp_judge.specs.Aside.{SetsAside}
use Rattle.tatp_judge.proofs.PlaceLaws.{each_set}
use Rattle.tatp_judge.proofs.aside.set_aside_in.Goals as goal

pub returns : goal.returns
returns c =
    let q = c.requires in
    let s_id = c.args.s_id in
    each_set (SetsAside s_id) c.args.windows.now.items (s_id - 1) c.index_mut.result.now c.set_aside.new.self (omega (arith, q.0, q.1)) c.index_mut.ensures.value
    (inl (omega (arith, q.0), record { aside_is = c.set_aside.ensures.aside; waiting_is = c.set_aside.ensures.waiting }))
    (λ place w n. inr (λ e. n (omega (arith, e)), refl))
