-- trusted: read it
-- Calls answered one after another.
use Rattle.std.specs.Prelude.{List, [], ◌∷◌}
use Rattle.tatp_tables.specs.Database.{Database}
use Rattle.tatp_calls.specs.declared.reply.Reply.{Reply}
use Rattle.tatp_calls.specs.declared.call.Call.{Call}
use Rattle.tatp_calls.specs.Transactions.{transaction}

-- the replies, in the order of the calls, and the database after the last
pub record Answers : Type 0 where
  pub replies : List Reply
  pub database : Database

abbrev pub in_order : Database → List Call → Answers
in_order u [] = record { replies = []; database = u }
in_order u (call ∷ more) =
    let first = transaction call u in
    let rest = in_order first.database more in
    record { replies = first.reply ∷ rest.replies; database = rest.database }
