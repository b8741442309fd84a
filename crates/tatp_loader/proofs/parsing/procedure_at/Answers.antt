use Rattle.std.proofs.Common.{◌*◌, drop, arith}
use Rattle.tatp_loader.proofs.ReadingLaws.{procedure_fits, procedure_read, procedure_spelled, rest_after_procedure}
use Rattle.tatp_loader.proofs.parsing.procedure_at.Goals as goal

pub new-requires : goal.new-requires
new-requires c =
    let len = c.in_ok-code.ensures.count in
    procedure_fits c.in_ok-name.name.now c.in_ok-arity.arity c.in_ok-code.code.items c.in_ok-name.ensures.name c.in_ok-arity.ensures.most (omega (arith, len, c.in_ok-len.ensures.range.0)) (omega (arith, len, c.in_ok-len.ensures.range.1))

pub returns-clause-read : goal.returns-clause-read
returns-clause-read c =
    let rest = drop (8 * c.in_ok-len.len) c.in_ok-len.rest.now in
    let spelled = procedure_spelled c.args.bytes.now c.in_ok-name.name.now c.in_ok-name.rest.now c.in_ok-arity.arity c.in_ok-arity.rest.now c.in_ok-len.len c.in_ok-len.rest.now c.in_ok-code.code.items rest
    c.in_ok-name.ensures.spelled c.in_ok-arity.ensures.spelled c.in_ok-len.ensures.spelled c.in_ok-code.ensures.spelled c.in_ok-code.ensures.count in
    let after = rest_after_procedure c.args.bytes.now c.in_ok-name.name.now c.in_ok-arity.arity c.in_ok-code.code.items rest c.in_ok-len.len spelled c.in_ok-code.ensures.count in
    rw (c.new.ensures, after.0) (procedure_read c.args.version c.args.n c.args.bytes.now c.in_ok-name.name.now c.in_ok-name.rest.now c.in_ok-arity.arity c.in_ok-arity.rest.now c.in_ok-len.len c.in_ok-len.rest.now c.in_ok-code.code.items rest
    c.in_ok-name.ensures.read c.in_ok-arity.ensures.read c.in_ok-len.ensures.read c.in_ok-code.ensures.read)

pub returns-clause-spelled : goal.returns-clause-spelled
returns-clause-spelled c =
    let rest = drop (8 * c.in_ok-len.len) c.in_ok-len.rest.now in
    let spelled = procedure_spelled c.args.bytes.now c.in_ok-name.name.now c.in_ok-name.rest.now c.in_ok-arity.arity c.in_ok-arity.rest.now c.in_ok-len.len c.in_ok-len.rest.now c.in_ok-code.code.items rest
    c.in_ok-name.ensures.spelled c.in_ok-arity.ensures.spelled c.in_ok-len.ensures.spelled c.in_ok-code.ensures.spelled c.in_ok-code.ensures.count in
    let after = rest_after_procedure c.args.bytes.now c.in_ok-name.name.now c.in_ok-arity.arity c.in_ok-code.code.items rest c.in_ok-len.len spelled c.in_ok-code.ensures.count in
    rw (c.new.ensures, after.0) spelled

pub returns-clause-within : goal.returns-clause-within
returns-clause-within c =
    let rest = drop (8 * c.in_ok-len.len) c.in_ok-len.rest.now in
    let spelled = procedure_spelled c.args.bytes.now c.in_ok-name.name.now c.in_ok-name.rest.now c.in_ok-arity.arity c.in_ok-arity.rest.now c.in_ok-len.len c.in_ok-len.rest.now c.in_ok-code.code.items rest
    c.in_ok-name.ensures.spelled c.in_ok-arity.ensures.spelled c.in_ok-len.ensures.spelled c.in_ok-code.ensures.spelled c.in_ok-code.ensures.count in
    (rest_after_procedure c.args.bytes.now c.in_ok-name.name.now c.in_ok-arity.arity c.in_ok-code.code.items rest c.in_ok-len.len spelled c.in_ok-code.ensures.count).1

pub returns-clause-fits : goal.returns-clause-fits
returns-clause-fits c =
    let len = c.in_ok-code.ensures.count in
    rw c.new.ensures (procedure_fits c.in_ok-name.name.now c.in_ok-arity.arity c.in_ok-code.code.items c.in_ok-name.ensures.name c.in_ok-arity.ensures.most (omega (arith, len, c.in_ok-len.ensures.range.0)) (omega (arith, len, c.in_ok-len.ensures.range.1)))
