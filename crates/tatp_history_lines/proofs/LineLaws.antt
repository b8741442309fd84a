-- A line and its text: what is printed is read, and what is read is printed so.
use Rattle.std.proofs.Common.{◌≡◌, ℕ, ◌<◌, ◌^◌, ◌∙◌, sym, ap, subst, true, not, List, ◌∷◌, ◌++◌, refl, arith, Some, None, decimal, codes, bytes_eq}
use Rattle.std.proofs.lemmas.Option.{none-some, option_and_then_some}
use Rattle.std.specs.List.{All, list_all}
use Rattle.std.specs.Option.{option_map, option_and_then}
use Rattle.tatp_calls.specs.declared.call.Call.{Call}
use Rattle.tatp_calls.specs.Calls.{arguments_of}
use Rattle.tatp_calls.specs.CallText.{call_of_line, call_text, is_printable_call}
use Rattle.tatp_calls.proofs.CallTextLaws.{call_of_line-call_text, call_text_of_read}
use Rattle.tatp_history.specs.declared.observed.Recorded.{Recorded}
use Rattle.tatp_history.specs.declared.line.Line.{Line}
use Rattle.tatp_history.specs.declared.line.Line.TheVariants.{Ask, End, Abort, Lost}
use Rattle.tatp_texts.proofs.FieldLaws.{is_space}
use Rattle.tatp_history_lines.specs.Words.{split_word, short_number_of}
use Rattle.tatp_history_lines.specs.Recordings.{recorded_of, recorded_text, HasForm}
use Rattle.tatp_history_lines.specs.Open.{CallsOpen}
use Rattle.tatp_history_lines.specs.Lines.{ask_of, end_of, ended_of, line_after, line_of}
use Rattle.tatp_history_lines.specs.LineText.{IsEndedText, IsTextOf, recorded_numbers, line_numbers}
use Rattle.tatp_history_lines.proofs.WordLaws.{Parts, option_map_some, chosen, same_bytes, split_at, joined, short_read, short_written, word_no_space, decimal_no_space}
use Rattle.tatp_history_lines.proofs.ReplyLaws.{recorded_printed, recorded_read}

-- ---- what is read is printed so
-- a word, a space and what follows
abbrev after : List ℕ → List ℕ → List ℕ
after word rest = word ++ 32 ∷ rest

-- a number, and what follows
number_joined : (parts : Parts) (rest : List ℕ) (n : ℕ) → split_word rest ≡ Some parts → short_number_of parts.0 ≡ Some n → (rest ≡ decimal n ++ 32 ∷ parts.1) × (n < 2 ^ 32)
number_joined parts rest n h s =
    let short = short_read parts.0 n s in
    (joined rest parts h ∙ ap (λ word. word ++ 32 ∷ parts.1) short.0, short.1)

ask_printed : (opened : CallsOpen) (rest : List ℕ) (line : Line) → ask_of rest ≡ Some line → IsTextOf opened line (after (codes "ask") rest)
ask_printed opened rest line h = option_and_then_some _ (split_word rest) line h (λ parts is then.
    option_and_then_some _ (short_number_of parts.0) line then (λ client short asked.
    let call = option_map_some (Ask client) (call_of_line parts.1) line asked in
    let number = number_joined parts rest client is short in
    let read = call_text_of_read parts.1 (Some call.0) (sym call.1) in
    subst (λ line. IsTextOf opened line (after (codes "ask") rest)) call.2 (record {
      short = number.1;
      printable = read.1;
      text_is = ap (after (codes "ask")) (number.0 ∙ ap (λ text. decimal client ++ 32 ∷ text) (sym read.0));
    })))

end_printed : (opened : CallsOpen) (rest : List ℕ) (line : Line) → end_of opened rest ≡ Some line → IsTextOf opened line (after (codes "end") rest)
end_printed opened rest line h = option_and_then_some _ (split_word rest) line h (λ parts is then.
    option_and_then_some _ (short_number_of parts.0) line then (λ client short more.
    option_and_then_some _ (opened client) line more (λ call found ended.
    let recorded = option_map_some (End client) (recorded_of call parts.1) line ended in
    let number = number_joined parts rest client is short in
    let read = recorded_printed call parts.1 recorded.0 recorded.1 in
    subst (λ line. IsTextOf opened line (after (codes "end") rest)) recorded.2 (record {
      short = number.1;
      call = call;
      opened_is = found;
      form = read.1;
      text_is = ap (after (codes "end")) (number.0 ∙ ap (λ text. decimal client ++ 32 ∷ text) (sym read.0));
    }))))

ended_printed : (words : List ℕ) (opened : CallsOpen) (rest : List ℕ) (client : ℕ) → ended_of opened rest ≡ Some client → IsEndedText words opened client (words ++ rest)
ended_printed words opened rest client h = option_and_then_some _ (short_number_of rest) client h (λ n short more.
    let call = option_map_some (λ call. n) (opened n) client more in
    let number = short_read rest n short in
    subst (λ n. IsEndedText words opened n (words ++ rest)) call.2 (record {
      short = number.1;
      call = call.0;
      opened_is = call.1;
      text_is = ap (λ text. words ++ text) number.0;
    }))

-- the first word is that of the line
by_keyword : (opened : CallsOpen) (word keyword rest : List ℕ) (line : Line) → bytes_eq word keyword ≡ true → IsTextOf opened line (after keyword rest) → IsTextOf opened line (after word rest)
by_keyword opened word keyword rest line t p = subst (λ word. IsTextOf opened line (after word rest)) (sym (same_bytes word keyword t)) p

after_printed : (opened : CallsOpen) (word rest : List ℕ) (line : Line) → line_after opened word rest ≡ Some line → IsTextOf opened line (after word rest)
after_printed opened word rest line h =
    chosen (λ line. IsTextOf opened line (after word rest)) (bytes_eq word (codes "ask")) (ask_of rest) _ line h
    (λ t e. by_keyword opened word (codes "ask") rest line t (ask_printed opened rest line e)) (λ h.
    chosen (λ line. IsTextOf opened line (after word rest)) (bytes_eq word (codes "end")) (end_of opened rest) _ line h
    (λ t e. by_keyword opened word (codes "end") rest line t (end_printed opened rest line e)) (λ h.
    chosen (λ line. IsTextOf opened line (after word rest)) (bytes_eq word (codes "abort")) (option_map Abort (ended_of opened rest)) _ line h
    (λ t e. let client = option_map_some Abort (ended_of opened rest) line e in
    by_keyword opened word (codes "abort") rest line t (subst (λ line. IsTextOf opened line (after (codes "abort") rest)) client.2 (ended_printed (codes "abort ") opened rest client.0 client.1))) (λ h.
    chosen (λ line. IsTextOf opened line (after word rest)) (bytes_eq word (codes "lost")) (option_map Lost (ended_of opened rest)) None line h
    (λ t e. let client = option_map_some Lost (ended_of opened rest) line e in
    by_keyword opened word (codes "lost") rest line t (subst (λ line. IsTextOf opened line (after (codes "lost") rest)) client.2 (ended_printed (codes "lost ") opened rest client.0 client.1))) (λ h.
    absurd (none-some line h)))))

pub text_of_read : (opened : CallsOpen) (line : Line) (text : List ℕ) → line_of opened text ≡ Some line → IsTextOf opened line text
unfolding line_of
text_of_read opened line text h = option_and_then_some _ (split_word text) line h (λ parts is then.
    subst (IsTextOf opened line) (sym (joined text parts is)) (after_printed opened parts.0 parts.1 line then))

-- ---- what is printed is read
after_word : (opened : CallsOpen) (word rest : List ℕ) → list_all (λ byte. not (is_space byte)) word ≡ true → line_of opened (after word rest) ≡ line_after opened word rest
unfolding line_of
after_word opened word rest w = ap (option_and_then (λ (parts : Parts). line_after opened parts.0 parts.1)) (split_at word rest (word_no_space word w))

number_split : (n : ℕ) (rest : List ℕ) → n < 2 ^ 32 → split_word (decimal n ++ 32 ∷ rest) ≡ Some (decimal n, rest)
number_split n rest h = split_at (decimal n) rest (decimal_no_space n (omega arith))

ask_read : (client : ℕ) (call : Call) → client < 2 ^ 32 → is_printable_call call ≡ true → All (λ n. n < 2 ^ 64) (arguments_of call) → ask_of (decimal client ++ 32 ∷ call_text call) ≡ Some (Ask client call)
ask_read client call h p f = rw (number_split client (call_text call) h, short_written client h, call_of_line-call_text call f p) refl

end_read : (opened : CallsOpen) (client : ℕ) (call : Call) (recorded : Recorded) → client < 2 ^ 32 → opened client ≡ Some call → HasForm call recorded → All (λ n. n < 2 ^ 64) (recorded_numbers recorded)
    → end_of opened (decimal client ++ 32 ∷ recorded_text call recorded) ≡ Some (End client recorded)
end_read opened client call recorded h o form f = rw (number_split client (recorded_text call recorded) h, short_written client h, o, recorded_read call recorded form f) refl

ended_read : (opened : CallsOpen) (client : ℕ) (call : Call) → client < 2 ^ 32 → opened client ≡ Some call → ended_of opened (decimal client) ≡ Some client
ended_read opened client call h o = rw (short_written client h, o) refl

pub read_of_text : (opened : CallsOpen) (line : Line) (text : List ℕ) → All (λ n. n < 2 ^ 64) (line_numbers line) → IsTextOf opened line text → line_of opened text ≡ Some line
read_of_text opened (Ask client call) text f p =
    ap (line_of opened) p.text_is ∙ (after_word opened (codes "ask") (decimal client ++ 32 ∷ call_text call) refl ∙ ask_read client call p.short p.printable f)
read_of_text opened (End client recorded) text f p =
    ap (line_of opened) p.text_is
    ∙ (after_word opened (codes "end") (decimal client ++ 32 ∷ recorded_text p.call recorded) refl ∙ end_read opened client p.call recorded p.short p.opened_is p.form f)
read_of_text opened (Abort client) text f p =
    ap (line_of opened) p.text_is ∙ (after_word opened (codes "abort") (decimal client) refl ∙ ap (option_map Abort) (ended_read opened client p.call p.short p.opened_is))
read_of_text opened (Lost client) text f p =
    ap (line_of opened) p.text_is ∙ (after_word opened (codes "lost") (decimal client) refl ∙ ap (option_map Lost) (ended_read opened client p.call p.short p.opened_is))
