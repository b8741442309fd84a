use Rattle.std.proofs.Common.{List, subst}
use Rattle.tatp_calls.specs.declared.entry.Entry.{Entry}
use Rattle.tatp_settle.specs.CallPlaces.{IsFirstCall}
use Rattle.tatp_settle.specs.Named.{IsNamedIn}
use Rattle.tatp_settle.proofs.NamedLaws.{first_of_homes}
use Rattle.tatp_settle.proofs.named_calls.first_homed.Goals as goal

pub returns : goal.returns
returns c = λ subscribers is. first_of_homes subscribers c.args.chapters.now c.args.directory.now is c.first_named.result
    (subst (λ (log : List Entry). IsFirstCall (IsNamedIn log c.args.directory.now) c.first_named.result) c.in_ok-log.ensures c.first_named.ensures)
