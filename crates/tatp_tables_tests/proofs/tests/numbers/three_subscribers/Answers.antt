use Rattle.tatp_tables_tests.proofs.ThreeSubscriberLaws.{three_ids}
use Rattle.tatp_tables_tests.proofs.tests.numbers.three_subscribers.Goals as goal

pub returns : goal.returns
returns c = three_ids c.subscriber.result c.subscriber-2.result c.subscriber-3.result c.subscriber.ensures c.subscriber-2.ensures c.subscriber-3.ensures
