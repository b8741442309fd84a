use Rattle.std.proofs.Common.{◌≡◌, ◌+◌, ◌++◌, ◌∙◌, ap, refl, sym, arith, length, vec_len, length-append}
use Rattle.tatp_streams.proofs.LineReadingLaws.{reads_more, not_true, not_false}
use Rattle.tatp_streams.proofs.line_reader.LineReader.read_more.Goals as goal

pub returns-clause-more : goal.returns-clause-more
returns-clause-more g c =
    let read = c.in_ok-more.ensures.taken in
    let held = c.remove_front.new.buffer in
    let longer : vec_len c.read_piece.new.bytes ≡ vec_len held + length read.0 =
    c.read_piece.new.bytes.ok.0 ∙ (ap length read.2 ∙ (length-append held.items read.0 ∙ ap (λ n. n + length read.0) (sym held.ok.0))) in
    rw (← c.self.view_is) (reads_more _ _ _ _ read.0 read.1 (ap (λ s. s.ended) c.self.view_is ∙ c.requires)
    (λ e. c.in_ok-more.ensures.end (not_true c.in_ok-more.more e))
    (λ e. omega (arith, longer, c.in_ok-more.ensures.more (not_false c.in_ok-more.more e)))
    (read.2 ∙ ap (λ front. front ++ read.0) c.remove_front.ensures)
    (omega (arith, longer, c.len.ensures, c.len-held.ensures))
    refl
    (omega (arith, longer, c.len.ensures, c.len-held.ensures, c.in_ok-more.ensures.within))
    refl)
