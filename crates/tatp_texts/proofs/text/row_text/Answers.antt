use Rattle.std.proofs.Common.{arith}
use Rattle.tatp_tables.specs.declared.row.Row.TheVariants.{S, A, F, C}
use Rattle.tatp_texts.proofs.RowTextLaws.{printed_read_back}
use Rattle.tatp_texts.proofs.text.row_text.Goals as goal

pub returns-in-S-clause-read_back : goal.returns-in-S-clause-read_back
returns-in-S-clause-read_back c = printed_read_back c.lettered.result c.args.row.now (S c.in-S.columns) c.in-S.is (omega arith, c.lettered.ensures.in_range) c.lettered.ensures.text

pub returns-in-A-clause-read_back : goal.returns-in-A-clause-read_back
returns-in-A-clause-read_back c = printed_read_back c.lettered-in-A.result c.args.row.now (A c.in-A.columns) c.in-A.is (omega arith, c.lettered-in-A.ensures.in_range) c.lettered-in-A.ensures.text

pub returns-in-F-clause-read_back : goal.returns-in-F-clause-read_back
returns-in-F-clause-read_back c = printed_read_back c.lettered-in-F.result c.args.row.now (F c.in-F.columns) c.in-F.is (omega arith, c.lettered-in-F.ensures.in_range) c.lettered-in-F.ensures.text

pub returns-in-C-clause-read_back : goal.returns-in-C-clause-read_back
returns-in-C-clause-read_back c = printed_read_back c.lettered-in-C.result c.args.row.now (C c.in-C.columns) c.in-C.is (omega arith, c.lettered-in-C.ensures.in_range) c.lettered-in-C.ensures.text
