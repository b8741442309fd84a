-- What the search on each subscriber's events says of a history.
use Rattle.std.proofs.Common.{ℕ, ◌↔◌, List, [], sym, subst}
use Rattle.tatp_tables.specs.Database.{Database, of_subscriber}
use Rattle.tatp_procs.specs.Consistent.{IsConsistent}
use Rattle.tatp_history.specs.declared.line.Line.{Line}
use Rattle.tatp_history.specs.Histories.{IsStrictlySerializable}
use Rattle.tatp_history.specs.HistoryLines.{calls_of, AreAcceptedLines}
use Rattle.tatp_history.specs.Locality.{FailWithout, AreCalls, IsSerializableAtEach}
use Rattle.tatp_history.specs.Events.{asked_in}
use Rattle.tatp_history.specs.JustInTime.{Explains}
use Rattle.tatp_history.specs.SubscriberEvents.{no_calls, events_of}
use Rattle.tatp_history.proofs.JustInTimeLaws.{just_in_time}
use Rattle.tatp_history.proofs.LineLaws.{are_calls}
use Rattle.tatp_history.proofs.LocalityLaws.{combined, parted}
use Rattle.tatp_history.proofs.SubscriberEventLaws.{asked_on, times_rise, have_ends, opened_none}

-- the search goes through each subscriber's events, and what is asked of none fails
pub judged : (u : Database) (lines : List Line) → IsConsistent u → AreAcceptedLines lines
    → (((s : ℕ) → Explains (events_of u s lines) (of_subscriber u s) []) × FailWithout u (calls_of lines)) ↔ IsStrictlySerializable u (calls_of lines)
judged u lines is accepted =
    let are : AreCalls (calls_of lines) = are_calls 1 lines accepted in
    let law : (s : ℕ) → Explains (events_of u s lines) (of_subscriber u s) [] ↔ IsStrictlySerializable (of_subscriber u s) (asked_in (events_of u s lines))
    = λ s. just_in_time (of_subscriber u s) (events_of u s lines) (times_rise u s 1 no_calls lines) (have_ends u s 1 no_calls lines (opened_none 1)) in (
      λ h. combined u (calls_of lines) is are (record {
        each = λ s. subst (IsStrictlySerializable (of_subscriber u s)) (asked_on u s 1 no_calls lines) ((law s).0 (h.0 s));
        none = h.1;
      }),
      λ h. let at : IsSerializableAtEach u (calls_of lines) = parted u (calls_of lines) is are h in
          (λ s. (law s).1 (subst (IsStrictlySerializable (of_subscriber u s)) (sym (asked_on u s 1 no_calls lines)) (at.each s)), at.none),
    )
