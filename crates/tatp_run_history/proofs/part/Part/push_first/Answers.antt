use Rattle.std.proofs.Common.{◌≡◌, ◌++◌, Some, None, slice_get, length, refl, sym, ap, ◌∙◌}
use Rattle.std.specs.Option.{option_map}
use Rattle.std.proofs.lemmas.Option.{slice_get_read}
use Rattle.std.specs.String.{string_bytes}
use Rattle.tatp_logs.specs.Receipts.{receipt_seen}
use Rattle.tatp_run_history.specs.ClientLines.{asked_line, answered_line}
use Rattle.tatp_run_history.proofs.PartLaws.{left, within, asked_pushed, answered_pushed}
use Rattle.tatp_run_history.proofs.part.Part.push_first.Goals as goal

pub returns-then-not-self : goal.returns-then-not-self
returns-then-not-self c =
    let p = c.args.self.now in
    let asks = p.asks.now in
    let receipts = p.receipts.now.receipts in
    let here = left (length asks) (length receipts) p.call c.requires in
    let ask : slice_get asks p.call ≡ Some c.index-self-self.result = slice_get_read asks (length asks) p.call c.index-self-self.result refl here.0 c.index-self-self.is in
    (_, asked_pushed p.client asks receipts p.call c.index-self-self.result p.is_asked ask here.1 c.if-not-self.true, c.in_ok-push_asked.ensures ∙ ap (λ ask. string_bytes c.args.text.now ++ asked_line p.client ask) (sym c.index-self-self.is))

pub unreachable-requires : goal.unreachable-requires
unreachable-requires c =
    let p = c.args.self.now in
    let asks = p.asks.now in
    let receipts = p.receipts.now.receipts in
    let here = left (length asks) (length receipts) p.call c.requires in
    let receipt = within receipts p.call here.1 in
    let none : slice_get receipts p.call ≡ None = sym c.get.ensures ∙ ap (option_map receipt_seen) c.in-None.is in
    let both : Some receipt.0 ≡ None = sym receipt.1 ∙ none in
    absurd cc

pub returns : goal.returns
returns c =
    let p = c.args.self.now in
    let asks = p.asks.now in
    let receipts = p.receipts.now.receipts in
    let here = left (length asks) (length receipts) p.call c.requires in
    let ask : slice_get asks p.call ≡ Some c.index-self-self.result = slice_get_read asks (length asks) p.call c.index-self-self.result refl here.0 c.index-self-self.is in
    let receipt : slice_get receipts p.call ≡ Some (receipt_seen c.in-Some.receipt) = sym c.get.ensures ∙ ap (option_map receipt_seen) c.in-Some.is in
    (_, answered_pushed p.client asks receipts p.call c.index-self-self.result (receipt_seen c.in-Some.receipt) p.is_asked ask receipt c.if-not-self.false, c.in_ok-push_answered-in-Some.ensures ∙ ap (λ ask. string_bytes c.args.text.now ++ answered_line p.client ask (receipt_seen c.in-Some.receipt)) (sym c.index-self-self.is))
