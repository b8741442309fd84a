use Rattle.std.proofs.Common.{◌≡◌, ◌++◌, ◌∷◌, [], ◌-◌, drop, Ok, refl, sym, ap, ◌∙◌, arith, length-append}
use Rattle.std.proofs.lemmas.Result.{err_from_is_err_and}
use Rattle.tatp_loader.specs.declared.fault.LoadError.TheVariants as errors
use Rattle.tatp_loader.specs.ModuleBytes.{code_bytes}
use Rattle.tatp_loader.specs.Reading.{code_at}
use Rattle.tatp_loader.proofs.LoopLaws.{joined, one_more, ends_so, all_read, joined_to_nothing}
use Rattle.tatp_loader.proofs.ReadingLaws.{code_repeats, code_goes_on, one_more_in, rest_after_code, code_bytes-nil}
use Rattle.tatp_loader.proofs.parsing.code_at.Goals as goal

pub loop-i-init : goal.loop-i-init
loop-i-init c =
    let all : c.args.len - 0 ≡ c.args.len = omega arith in
    rw c.in_ok-code.ensures.items (record {
      read = ap (λ k. joined [] (code_at c.args.version c.args.n 0 k c.args.bytes.now)) all ∙ joined_to_nothing _;
      spelled = ap (λ front. front ++ c.args.bytes.now) (sym code_bytes-nil);
      count = refl;
      version = refl;
    })

pub returns-in_err-instr-clause-read : goal.returns-in_err-instr-clause-read
returns-in_err-instr-clause-read c =
    let p = err_from_is_err_and c.from_residual-in_err-instr.result c.from_residual-in_err-instr.ensures.1 in
    rw (p.1, p.2) (ends_so (code_repeats c.args.version c.args.n) (errors.Fault c.in_err-instr.field-0.0) c.loop-i.code.items c.args.len c.loop-i.i c.loop-i.rest.now (code_at c.args.version c.args.n 0 c.args.len c.args.bytes.now) c.loop-i-test.true c.in_err-instr.ensures.read c.loop-i.invariant.read)

pub loop-i-preserved : goal.loop-i-preserved
loop-i-preserved c =
    let after = drop 8 c.loop-i.rest.now in
    rw (c.in_ok-push.ensures.items, c.split_at.ensures.back) (record {
      read = one_more (code_repeats c.args.version c.args.n) c.loop-i.code.items c.args.len c.loop-i.i c.loop-i.rest.now c.in_ok-instr.instr after (code_at c.args.version c.args.n 0 c.args.len c.args.bytes.now) c.loop-i-test.true c.in_ok-instr.ensures.read c.loop-i.invariant.read;
      spelled = code_goes_on c.args.bytes.now c.loop-i.rest.now after c.loop-i.code.items c.in_ok-instr.instr c.loop-i.invariant.spelled c.in_ok-instr.ensures.spelled;
      count = omega (arith, c.loop-i.invariant.count, length-append c.loop-i.code.items (c.in_ok-instr.instr ∷ []));
      version = one_more_in c.args.version c.loop-i.code.items c.in_ok-instr.instr c.loop-i.invariant.version c.in_ok-instr.ensures.version;
    })

pub returns-clause-read : goal.returns-clause-read
returns-clause-read c =
    let rest = rest_after_code c.args.bytes.now c.loop-i.rest.now c.loop-i.code.items c.args.len c.loop-i.invariant.spelled (omega (arith, c.loop-i.invariant.count, c.loop-i.auto.i-end, c.loop-i-test.false)) in
    all_read (code_repeats c.args.version c.args.n) c.loop-i.code.items c.args.len c.loop-i.i c.loop-i.rest.now (code_at c.args.version c.args.n 0 c.args.len c.args.bytes.now) c.loop-i-test.false c.loop-i.invariant.read
    ∙ ap (λ bytes. Ok (c.loop-i.code.items, bytes)) (sym rest)

pub returns-clause-spelled : goal.returns-clause-spelled
returns-clause-spelled c =
    let rest = rest_after_code c.args.bytes.now c.loop-i.rest.now c.loop-i.code.items c.args.len c.loop-i.invariant.spelled (omega (arith, c.loop-i.invariant.count, c.loop-i.auto.i-end, c.loop-i-test.false)) in
    c.loop-i.invariant.spelled ∙ ap (λ bytes. code_bytes c.loop-i.code.items ++ bytes) (sym rest)
