use Rattle.std.proofs.Common.{◌∙◌, ap, length}
use Rattle.std.specs.Option.{unwrap_or}
use Rattle.tatp_lines.proofs.LineLaws.{place_or_len}
use Rattle.tatp_lines.proofs.bytes.line_len.Goals as goal

pub returns : goal.returns
returns c = c.unwrap_or.ensures ∙ (ap (λ o. unwrap_or o (length c.args.text.now)) c.line_feed.ensures ∙ place_or_len c.args.text.now)
