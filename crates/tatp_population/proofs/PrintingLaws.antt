-- Drawn rows, appended line by line in the order drawn.
use Rattle.std.specs.Prelude.{◌≡◌, ℕ, ◌+◌, ◌-◌, ◌<◌, List, [], ◌∷◌, ◌++◌, length, All}
use Rattle.std.proofs.Common.{refl, sym, ap, ◌∙◌, arith, add-one, append_assoc, append-nil}
use Rattle.std.proofs.lemmas.List.Edits.{length-remove}
use Rattle.std.proofs.lemmas.List.Concat.{flat_map-cons}
use Rattle.std.proofs.lemmas.Grind.{flat_map-append}
use Rattle.tatp_tables.specs.declared.row.Row.{Row}
use Rattle.tatp_tables.specs.declared.row.Rows.{Rows}
use Rattle.tatp_population.specs.Drawn.{Taken, none, joined, choice, taken, parts}
use Rattle.tatp_population.specs.DrawnOrder.{line_of, rows_text, in_order}
use Rattle.tatp_population.proofs.PartLaws.{AreDrawn, next_value}

-- ---- lines
pub row_and_rows : (old first all : List ℕ) (row : Row) (more : List Row) → first ≡ old ++ line_of row → all ≡ first ++ rows_text more → all ≡ old ++ rows_text (row ∷ more)
row_and_rows old first all row more h k =
    k ∙ ap (λ t. t ++ rows_text more) h ∙ append_assoc old (line_of row) (rows_text more) ∙ ap (λ t. old ++ t) (sym (flat_map-cons line_of row more))

pub one_row : (old all : List ℕ) (row : Row) → all ≡ old ++ line_of row → all ≡ old ++ rows_text (row ∷ [])
one_row old all row h = row_and_rows old all all row [] h (sym (append-nil all))

pub rows_and_rows : (old first all : List ℕ) (rows more : List Row) → first ≡ old ++ rows_text rows → all ≡ first ++ rows_text more → all ≡ old ++ rows_text (rows ++ more)
rows_and_rows old first all rows more h k =
    k ∙ ap (λ t. t ++ rows_text more) h ∙ append_assoc old (rows_text rows) (rows_text more) ∙ ap (λ t. old ++ t) (sym (flat_map-append line_of rows more))

pub row_rows_and_rows : (old first second all : List ℕ) (row : Row) (rows more : List Row) → first ≡ old ++ line_of row → second ≡ first ++ rows_text rows → all ≡ second ++ rows_text more
    → all ≡ old ++ rows_text (row ∷ rows ++ more)
row_rows_and_rows old first second all row rows more h k l = row_and_rows old first all row (rows ++ more) h (rows_and_rows first second all rows more k l)

-- ---- parts
-- the first i parts stand behind the text before, and this is left
pub record ArePrinted {W : Type 0} (word : W → ℕ × W) (part : ℕ → W → Rows × W) (rows : ℕ → W → List Row) (before : List ℕ) (choose_from : List ℕ) (w : W) (i : ℕ) (text left : List ℕ) (u : W) : Type 0 where
  pub printed : text ≡ before ++ rows_text (in_order word part rows i choose_from w)
  pub remaining : left ≡ (parts word part i choose_from w).left
  pub words : u ≡ (parts word part i choose_from w).words
  pub fewer : length left + i ≡ length choose_from

pub none_printed : {W : Type 0} (word : W → ℕ × W) (part : ℕ → W → Rows × W) (rows : ℕ → W → List Row) (before left : List ℕ) (w : W) → ArePrinted word part rows before left w 0 before left w
unfolding parts in_order
none_printed word part rows before left w = record { printed = sym (append-nil before); remaining = refl; words = refl; fewer = omega arith }

pub one_printed : {W : Type 0} (word : W → ℕ × W) (part : ℕ → W → Rows × W) (rows : ℕ → W → List Row) (before choose_from : List ℕ) (w : W) (i : ℕ) (text left : List ℕ) (u : W)
    (value : ℕ) (left' : List ℕ) (v : W) (text' : List ℕ) (next : W)
    → ArePrinted word part rows before choose_from w i text left u → i < length choose_from
    → record { value = value; left = left'; words = v } ≡ taken word left u
    → text' ≡ text ++ rows_text (rows value v) → next ≡ (part value v).1
    → ArePrinted word part rows before choose_from w (i + 1) text' left' next
unfolding parts in_order
one_printed {W} word part rows before choose_from w i text left u value left' v text' next so_far lt one more rest =
    let p = parts word part i choose_from w in
    let t : record { value = value; left = left'; words = v } ≡ taken word p.left p.words = one ∙ (λ j. taken word (so_far.remaining j) (so_far.words j)) in
    let fewer : length left + i ≡ length choose_from = so_far.fewer in
    let index_fits : (choice word 0 (length left - 1) u).0 < length left = omega arith in
    let last = taken word p.left p.words in
    rw add-one (record {
      printed = rows_and_rows before text text' (in_order word part rows i choose_from w) (rows last.value last.words) so_far.printed
          (more ∙ (λ j. text ++ rows_text (rows (t j).value (t j).words)));
      remaining = λ j. (t j).left;
      words = rest ∙ (λ j. (part (t j).value (t j).words).1);
      fewer = omega (arith, ap (λ (r : Taken W). length r.left) one, length-remove left (choice word 0 (length left - 1) u).0 index_fits);
    })

-- the next value is one of those to choose from
pub printed_value : {W : Type 0} (word : W → ℕ × W) (part : ℕ → W → Rows × W) (rows : ℕ → W → List Row) (Q : ℕ → Type 0) (before choose_from : List ℕ) (w : W) (i : ℕ) (text left : List ℕ) (u : W)
    (value : ℕ) (left' : List ℕ) (v : W)
    → ArePrinted word part rows before choose_from w i text left u → i < length choose_from → All Q choose_from
    → record { value = value; left = left'; words = v } ≡ taken word left u → Q value
printed_value word part rows Q before choose_from w i text left u value left' v so_far lt all one =
    let drawn : AreDrawn word part none choose_from w i (joined none (parts word part i choose_from w).rows) left u = record { drawn = refl; remaining = so_far.remaining; words = so_far.words; fewer = so_far.fewer } in
    next_value word part Q none choose_from w i (joined none (parts word part i choose_from w).rows) left u value left' v drawn lt all one
