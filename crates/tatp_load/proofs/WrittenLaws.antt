-- A text that is known before it is made: what is written of it, what is pending, and what is left.
use Rattle.std.specs.Prelude.{◌≡◌, ℕ, List, [], ◌++◌, take, drop, Option}
use Rattle.std.proofs.Common.{sym, ap, subst, ◌∙◌, append_assoc, append-nil, take-append-drop, inl, inr}
use Rattle.std.specs.Io.KnownBytes.{Appends}
use Rattle.tatp_streams.specs.Writing.{AppendsFront, KeepsOrAppends}
use Rattle.tatp_streams.proofs.StreamLaws.{appends_none, appends_both}
use Rattle.tatp_load.specs.Written.{WritesFrontOf}

-- what is written and what is pending are this text
pub record IsWritten (old now : Option (List ℕ)) (pending all : List ℕ) : Type 0 where
  pub written : List ℕ
  pub held : Appends old now written
  pub whole : written ++ pending ≡ all

pub nothing_written : (old : Option (List ℕ)) (pending : List ℕ) → pending ≡ [] → IsWritten old old pending []
nothing_written old pending e = record { written = []; held = appends_none old; whole = e }

pub more_pending : (old now : Option (List ℕ)) (pending longer all more : List ℕ) → IsWritten old now pending all → longer ≡ pending ++ more → IsWritten old now longer (all ++ more)
more_pending old now pending longer all more w e = record {
  written = w.written;
  held = w.held;
  whole = ap (λ t. w.written ++ t) e ∙ sym (append_assoc w.written pending more) ∙ ap (λ t. t ++ more) w.whole;
}

flushed : (old now next : Option (List ℕ)) (pending all : List ℕ) → IsWritten old now pending all → Appends now next pending → IsWritten old next [] all
flushed old now next pending all w h = record {
  written = w.written ++ pending;
  held = appends_both old now next w.written pending w.held h;
  whole = append-nil (w.written ++ pending) ∙ w.whole;
}

pub kept_or_written : (old now next : Option (List ℕ)) (pending rest all : List ℕ) → IsWritten old now pending all → KeepsOrAppends pending rest now next → IsWritten old next rest all
kept_or_written old now next pending rest all w o =
    elim o [ inl same ↦ rw (same.0, same.1) w | inr told ↦ rw told.1 (flushed old now next pending all w told.0) ]

pub all_written : (old now next : Option (List ℕ)) (pending all : List ℕ) → IsWritten old now pending all → Appends now next pending → Appends old next all
all_written old now next pending all w h = subst (Appends old next) w.whole (appends_both old now next w.written pending w.held h)

-- where a front of what was pending was written
pub front_written : (old now next : Option (List ℕ)) (pending all more text : List ℕ) → IsWritten old now pending all → text ≡ all ++ more → AppendsFront pending now next → WritesFrontOf text old next
front_written old now next pending all more text w e h =
    let n = h.0 in
    let pieces : (w.written ++ take n pending) ++ drop n pending ≡ all = append_assoc w.written (take n pending) (drop n pending) ∙ ap (λ t. w.written ++ t) (take-append-drop n pending) ∙ w.whole in (
      w.written ++ take n pending,
      drop n pending ++ more,
      e ∙ ap (λ t. t ++ more) (sym pieces) ∙ append_assoc (w.written ++ take n pending) (drop n pending) more,
      appends_both old now next w.written (take n pending) w.held h.1,
    )

-- where nothing of it was
pub front_held : (old now : Option (List ℕ)) (pending all more text : List ℕ) → IsWritten old now pending all → text ≡ all ++ more → WritesFrontOf text old now
front_held old now pending all more text w e = (
  w.written,
  pending ++ more,
  e ∙ ap (λ t. t ++ more) (sym w.whole) ∙ append_assoc w.written pending more,
  w.held,
)
