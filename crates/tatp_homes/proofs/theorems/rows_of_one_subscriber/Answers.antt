use Rattle.tatp_homes.proofs.SubscriberLaws.{HaveSId-of_subscriber, of_subscriber-with_subscriber, with_subscriber-of_subscriber, with_subscriber-with_subscriber, of_subscriber-with_other, of_subscriber-own, with_subscriber-own}
use Rattle.tatp_homes.proofs.theorems.rows_of_one_subscriber.Goals as goal

pub returns : goal.returns
returns c = record {
  put_in = λ u v s. of_subscriber-with_subscriber u s v;
  put_back = with_subscriber-of_subscriber;
  put_twice = λ u v w s. with_subscriber-with_subscriber u s v w;
  others = λ u v s other. of_subscriber-with_other u s other v;
  own = HaveSId-of_subscriber;
  alone = of_subscriber-own;
  put_alone = λ v w s. with_subscriber-own v s w;
}
