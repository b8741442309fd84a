use Rattle.std.proofs.Common.{◌≡◌, ◌++◌, ◌∷◌, [], ◌-◌, drop, length, Ok, refl, sym, ap, ◌∙◌, arith, length-append}
use Rattle.std.proofs.lemmas.List.{drop-drop, length-drop}
use Rattle.std.proofs.lemmas.Result.{err_from_is_err_and}
use Rattle.tatp_loader.specs.ModuleBytes.{procedures_bytes}
use Rattle.tatp_loader.specs.Reading.{procedures_at}
use Rattle.tatp_loader.proofs.LoopLaws.{joined, one_more, ends_so, all_read, joined_to_nothing}
use Rattle.tatp_loader.proofs.ReadingLaws.{one_more_fits, one_more_has, procedures_repeat, procedures_go_on, procedures_bytes-nil}
use Rattle.tatp_loader.proofs.parsing.procedures_at.Goals as goal

pub loop-n-init : goal.loop-n-init
loop-n-init c =
    let all : c.args.count - 0 ≡ c.args.count = omega arith in
    rw c.in_ok-procs.ensures.items (record {
      read = ap (λ k. joined [] (procedures_at c.args.version 0 k c.args.bytes.now)) all ∙ joined_to_nothing _;
      spelled = ap (λ front. front ++ c.args.bytes.now) (sym procedures_bytes-nil);
      place = refl;
      within = omega arith;
      count = refl;
      fit = refl;
      version = refl;
    })

pub returns-in_err-procedure-clause-read : goal.returns-in_err-procedure-clause-read
returns-in_err-procedure-clause-read c =
    let p = err_from_is_err_and c.from_residual-in_err-procedure.result c.from_residual-in_err-procedure.ensures.1 in
    rw (p.1, p.2) (ends_so (procedures_repeat c.args.version) c.in_err-procedure.field-0.0 c.loop-n.procs.items c.args.count c.loop-n.n c.loop-n.rest.now (procedures_at c.args.version 0 c.args.count c.args.bytes.now) c.loop-n-test.true c.in_err-procedure.ensures.read c.loop-n.invariant.read)

pub loop-n-preserved : goal.loop-n-preserved
loop-n-preserved c =
    let here = c.loop-n.rest.now in
    let after = drop c.in_ok-procedure.more here in
    let len = ap length c.loop-n.invariant.place in
    rw (c.in_ok-push.ensures.items, c.split_at.ensures.back) (record {
      read = one_more (procedures_repeat c.args.version) c.loop-n.procs.items c.args.count c.loop-n.n here c.in_ok-procedure.procedure after (procedures_at c.args.version 0 c.args.count c.args.bytes.now) c.loop-n-test.true c.in_ok-procedure.ensures.read c.loop-n.invariant.read;
      spelled = procedures_go_on c.args.bytes.now here after c.loop-n.procs.items c.in_ok-procedure.procedure c.loop-n.invariant.spelled c.in_ok-procedure.ensures.spelled;
      place = sym (drop-drop c.in_ok-procedure.more c.loop-n.size c.args.bytes.now) ∙ ap (drop c.in_ok-procedure.more) c.loop-n.invariant.place;
      within = omega (arith, len, c.loop-n.invariant.within, c.in_ok-procedure.ensures.within, length-drop c.loop-n.size c.args.bytes.now);
      count = omega (arith, c.loop-n.invariant.count, length-append c.loop-n.procs.items (c.in_ok-procedure.procedure ∷ []));
      fit = one_more_fits c.loop-n.procs.items c.in_ok-procedure.procedure c.loop-n.invariant.fit c.in_ok-procedure.ensures.fits;
      version = one_more_has c.args.version c.loop-n.procs.items c.in_ok-procedure.procedure c.loop-n.invariant.version c.in_ok-procedure.ensures.version;
    })

pub returns-clause-read : goal.returns-clause-read
returns-clause-read c =
    all_read (procedures_repeat c.args.version) c.loop-n.procs.items c.args.count c.loop-n.n c.loop-n.rest.now (procedures_at c.args.version 0 c.args.count c.args.bytes.now) c.loop-n-test.false c.loop-n.invariant.read
    ∙ ap (λ bytes. Ok (c.loop-n.procs.items, bytes)) (sym c.loop-n.invariant.place)

pub returns-clause-spelled : goal.returns-clause-spelled
returns-clause-spelled c = c.loop-n.invariant.spelled ∙ ap (λ bytes. procedures_bytes c.loop-n.procs.items ++ bytes) (sym c.loop-n.invariant.place)
