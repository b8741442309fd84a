use Rattle.std.proofs.Common.{◌≡◌, arith, ◌∙◌, ap}
use Rattle.tatp_settle.specs.Closings.{most_places, above_all, least_above}
use Rattle.tatp_settle.proofs.NumberedLaws.{no_extent_beyond, no_log_beyond}
use Rattle.tatp_settle.proofs.logs.log_count.Goals as goal

places : (c : goal.After-max-2) → c.places_of.result ≡ most_places c.args.closed.now.sites
places c = c.places_of.ensures ∙ ap most_places c.sites.ensures.value

numbers : (c : goal.After-max-2) → c.numbers_of.result ≡ above_all c.args.closed.now.parcels
numbers c = c.numbers_of.ensures.value ∙ ap above_all c.parcels.ensures

least : (c : goal.After-max-2) → c.max-2.result ≡ least_above c.args.closed.now
least c = let p = places c in let n = numbers c in omega (arith, p, n)

pub returns-clause-value : goal.returns-clause-value
returns-clause-value c = least c

pub returns-clause-logs : goal.returns-clause-logs
returns-clause-logs c = λ e l. no_log_beyond c.args.closed.now e c.sites.ensures.sound (let is = least c in omega (arith, is, l))

pub returns-clause-extents : goal.returns-clause-extents
returns-clause-extents c = λ e l. no_extent_beyond c.args.closed.now e c.sites.ensures.sound (let is = least c in omega (arith, is, l))
