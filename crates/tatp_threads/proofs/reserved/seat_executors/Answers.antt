use Rattle.std.proofs.Common.{◌++◌, [], ◌∷◌, ap, ◌∙◌}
use Rattle.std.proofs.lemmas.List.{map_push}
use Rattle.tatp_threads.specs.Seats.{readers_of}
use Rattle.tatp_threads.proofs.SeatLaws.{one_more_with_ends}
use Rattle.tatp_threads.proofs.reserved.seat_executors.Goals as goal

pub loop-reader-preserved : goal.loop-reader-preserved
loop-reader-preserved g c = record {
  readers = ap readers_of c.in_ok-push.ensures.items ∙ (map_push (λ seat. seat.reader) c.loop-reader.seats.items _ ∙ ap (λ readers. readers ++ c.in-Some.reader ∷ []) c.loop-reader.invariant.readers);
  ports = one_more_with_ends (λ seat. seat.ports) c.loop-reader.ports c.ends_of.new.ports c.loop-reader.seats.items c.push.new.self.items _ c.in_ok-push.ensures.items c.ends_of.ensures.same c.loop-reader.invariant.ports c.in_ok-ends_of.ensures.beside;
  same = c.ends_of.ensures.same ∙ c.loop-reader.invariant.same;
}
