use Rattle.std.proofs.Common.{◌+◌, length, slice_get, refl, ap, ◌∙◌, arith}
use Rattle.std.proofs.lemmas.List.{length_push, map_push}
use Rattle.std.proofs.lemmas.Option.{slice_get_read}
use Rattle.tatp_threads.specs.Seats.{numbers_of}
use Rattle.tatp_threads.proofs.SeatLaws.{one_more_with_ends, one_more_numbered, one_more_ready}
use Rattle.tatp_threads.proofs.reserved.seat_clients.Goals as goal

pub loop-list-preserved : goal.loop-list-preserved
loop-list-preserved g c = record {
  count = ap length c.in_ok-push.ensures.items ∙ (length_push c.loop-list.seats.items _ ∙ ap (λ n. n + 1) c.loop-list.invariant.count);
  numbers = ap numbers_of c.in_ok-push.ensures.items ∙ (map_push (λ seat. seat.number) c.loop-list.seats.items _
      ∙ one_more_numbered c.loop-list.list-index _ (numbers_of c.loop-list.seats.items) c.loop-list.invariant.numbers
      (omega (arith, c.new.ensures.number, c.len-in-loop-list.ensures, c.loop-list.invariant.count, c.loop-list.seats.ok.0)));
  ports = one_more_with_ends (λ seat. seat.end) c.loop-list.ports c.ends_of.new.ports c.loop-list.seats.items c.push.new.self.items _ c.in_ok-push.ensures.items c.ends_of.ensures.same c.loop-list.invariant.ports
      (ap (λ ports. ports.items) c.new.ensures.end ∙ c.in_ok-ends.ensures.beside);
  ready = one_more_ready c.args.lists.now c.loop-list.seats.items c.push.new.self.items c.list-item.result _ c.in_ok-push.ensures.items c.loop-list.invariant.ready
      (ap (slice_get c.args.lists.now) c.loop-list.invariant.count
      ∙ slice_get_read c.args.lists.now (length c.args.lists.now) c.loop-list.list-index c.list-item.result refl c.loop-list-test.true c.list-item.is) (
        ap (λ receipts. receipts.receipts) c.new.ensures.receipts ∙ c.in_ok-receipts.ensures.receipts,
        record {
          answered = c.new.ensures.answered;
          seen = c.new.ensures.seen;
          state = c.new.ensures.state;
          room = omega (arith, ap (λ receipts. receipts.room) c.new.ensures.receipts, c.in_ok-receipts.ensures.room, c.len.ensures, c.len-in-loop-list.ensures, c.list-item.result.ok.0);
        },
      );
  same = c.ends_of.ensures.same ∙ c.loop-list.invariant.same;
}
