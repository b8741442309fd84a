-- Merged lines, written piece by piece.
use Rattle.std.specs.Prelude.{◌≡◌, ℕ, List, [], ◌∷◌, ◌++◌, Option, Some, slice_get, slice_set}
use Rattle.std.proofs.Common.{refl, subst}
use Rattle.std.specs.Io.KnownBytes.{Appends}
use Rattle.tatp_streams.specs.Writing.{AppendsFront, KeepsOrAppends, WritesText, WritesFrontOfText}
use Rattle.tatp_streams.proofs.StreamLaws.{appends_none}
use Rattle.tatp_load.specs.Written.{WritesFrontOf}
use Rattle.tatp_load.proofs.WrittenLaws.{IsWritten, more_pending, kept_or_written, all_written, front_written, front_held}
use Rattle.tatp_run_history.specs.Interleaving.{AllAreEmpty}
use Rattle.tatp_run_history.specs.Telling.{TellsMerged}
use Rattle.tatp_run_history.proofs.MergeLaws.{Merged, none_merged, one_merged, all_merged, some_merged}

-- what is written and what is pending are a head and lines of these lists, of which these rests are left
pub record IsMerged (lists rests : List (List (List ℕ))) (head : List ℕ) (old now : Option (List ℕ)) (pending : List ℕ) : Type 0 where
  pub all : List ℕ
  pub merged : Merged lists rests head all
  pub text : IsWritten old now pending all

pub head_pending : (lists rests : List (List (List ℕ))) (head : List ℕ) (old : Option (List ℕ)) → rests ≡ lists → IsMerged lists rests head old old head
head_pending lists rests head old e = record { all = head; merged = none_merged lists rests head e; text = record { written = []; held = appends_none old; whole = refl } }

pub line_pending : (lists rests rests' : List (List (List ℕ))) (head : List ℕ) (old now : Option (List ℕ)) (pending longer : List ℕ) (place : ℕ) (line : List ℕ) (rest : List (List ℕ))
    → IsMerged lists rests head old now pending → slice_get rests place ≡ Some (line ∷ rest) → rests' ≡ slice_set rests place rest → longer ≡ pending ++ line
    → IsMerged lists rests' head old now longer
line_pending lists rests rests' head old now pending longer place line rest m first after more = record {
  all = m.all ++ line;
  merged = one_merged lists rests rests' head m.all (m.all ++ line) place line rest m.merged first after refl;
  text = more_pending old now pending longer m.all line m.text more;
}

pub flushed : (lists rests : List (List (List ℕ))) (head : List ℕ) (old now next : Option (List ℕ)) (pending left : List ℕ)
    → IsMerged lists rests head old now pending → KeepsOrAppends pending left now next → IsMerged lists rests head old next left
flushed lists rests head old now next pending left m o = record { all = m.all; merged = m.merged; text = kept_or_written old now next pending left m.all m.text o }

pub all_told : (lists rests : List (List (List ℕ))) (head : List ℕ) (old now next : Option (List ℕ)) (pending : List ℕ)
    → IsMerged lists rests head old now pending → AllAreEmpty rests → Appends now next pending → WritesText (TellsMerged head lists) old next
all_told lists rests head old now next pending m none h = (m.all, all_merged lists rests head m.all m.merged none, all_written old now next pending m.all m.text h)

-- ---- what an error leaves
front_told : (IsText : List ℕ → Type 0) (text : List ℕ) (old new : Option (List ℕ)) → IsText text → WritesFrontOf text old new → WritesFrontOfText IsText old new
front_told IsText text old new is w = (w.0, w.1, subst IsText w.2 is, w.3)

pub told_held : (lists rests : List (List (List ℕ))) (head : List ℕ) (old now : Option (List ℕ)) (pending : List ℕ)
    → IsMerged lists rests head old now pending → WritesFrontOfText (TellsMerged head lists) old now
told_held lists rests head old now pending m =
    let more = some_merged lists rests head m.all m.merged in
    front_told (TellsMerged head lists) (m.all ++ more.0) old now more.1 (front_held old now pending m.all more.0 (m.all ++ more.0) m.text refl)

pub told_cut : (lists rests : List (List (List ℕ))) (head : List ℕ) (old now next : Option (List ℕ)) (pending : List ℕ)
    → IsMerged lists rests head old now pending → AppendsFront pending now next → WritesFrontOfText (TellsMerged head lists) old next
told_cut lists rests head old now next pending m h =
    let more = some_merged lists rests head m.all m.merged in
    front_told (TellsMerged head lists) (m.all ++ more.0) old next more.1 (front_written old now next pending m.all more.0 (m.all ++ more.0) m.text refl h)
