-- The homes that are kept together.
use Rattle.std.specs.Prelude.{List, [], Option, Some, None, Vec}
use Rattle.std.specs.Arc.{arc_value}
use Rattle.std.specs.declared.alloc.Global.{Global}
use Rattle.std.specs.declared.sync.Arc.{Arc}
use Rattle.tatp_homes.specs.Home.{SubscriberRows}

-- the homes that these are; without a list, none
abbrev pub homes_held : Option (Arc (Vec SubscriberRows Global) Global) → List SubscriberRows
homes_held None = []
homes_held (Some homes) = (arc_value homes).items
