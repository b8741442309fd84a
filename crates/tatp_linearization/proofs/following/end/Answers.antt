use Rattle.std.proofs.Common.{inl, inr}
use Rattle.std.proofs.lemmas.Result.{err_from_is_err_and}
use Rattle.tatp_linearization.proofs.CoveringLaws.{gone_sound, gone_followed, out_on, taken_many}
use Rattle.tatp_linearization.proofs.following.end.Goals as goal

pub returns-clause-kept : goal.returns-clause-kept
returns-clause-kept c = λ d h. c.in_ok-take_effect.ensures.kept d (c.in_ok-add_gone.ensures.gained.kept d h)

pub returns-clause-sound : goal.returns-clause-sound
returns-clause-sound c = gone_sound c.args.c.now c.args.asked c.args.after.now.items c.add_gone.new.after.items c.take_effect.new.answered.items c.in_ok-add_gone.ensures.gained c.in_ok-take_effect.ensures.sound

pub returns-clause-followed : goal.returns-clause-followed
returns-clause-followed c = λ apart at rest coming out.
    let old = c.args.after.now.items in
    let mid = c.add_gone.new.after.items in
    gone_followed c.args.c.now c.args.asked at rest old mid c.take_effect.new.answered.items apart c.in_ok-add_gone.ensures.gained c.in_ok-take_effect.ensures.kept
    (c.in_ok-take_effect.ensures.answered apart at rest coming (out_on c.args.asked at rest old mid c.args.tried.now.items c.in_ok-add_gone.ensures.gained.kept out))

pub returns-clause-done : goal.returns-clause-done
returns-clause-done c = λ apart at rest coming out.
    c.in_ok-take_effect.ensures.done apart at rest coming (out_on c.args.asked at rest c.args.after.now.items c.add_gone.new.after.items c.args.tried.now.items c.in_ok-add_gone.ensures.gained.kept out)

pub returns-in_err-add_gone-clause-many : goal.returns-in_err-add_gone-clause-many
returns-in_err-add_gone-clause-many c =
    let p = err_from_is_err_and c.from_residual.result c.from_residual.ensures.1 in
    rw (p.1, p.2) (λ is apart distinct. inl (c.in_err-add_gone.ensures.many is apart))

pub returns-in_err-take_effect-clause-many : goal.returns-in_err-take_effect-clause-many
returns-in_err-take_effect-clause-many c =
    let p = err_from_is_err_and c.from_residual-in_err-take_effect.result c.from_residual-in_err-take_effect.ensures.1 in
    rw (p.1, p.2) (λ is apart distinct. elim (c.in_err-take_effect.ensures.many is (c.in_ok-add_gone.ensures.apart apart) distinct) [
      | inl k ↦ inl (taken_many c.args.most c.args.c.now c.args.asked c.args.after.now.items c.add_gone.new.after.items c.in_ok-add_gone.ensures.gained k)
      | inr k ↦ inr k
    ])
