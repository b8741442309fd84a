-- What a contract says of a site that is behind a lock.
use Rattle.tatp_partition.specs.Sites.{SiteState}
use Rattle.tatp_partition.specs.Sound.{IsSite}

-- some site answered so: of the site before and afterwards nothing is known but what holds of every
-- site
abbrev pub OfSomeSite : (SiteState → SiteState → Type 0) → Type 0
OfSomeSite Answers =
    (s : SiteState) × (s' : SiteState) × IsSite s × IsSite s' × Answers s s'
