-- The text of a site's refusal: its number and its name (docs/FORMATS.md).
use Rattle.std.specs.Prelude.{ℕ, List, codes}
use Rattle.tatp_partition.specs.declared.refusal.SiteRefusal.{SiteRefusal}
use Rattle.tatp_partition.specs.declared.refusal.SiteRefusal.TheVariants.{Running, Stopped, NotRunning, AtBreak, NotHere, Pinned, MoveCountFull, TooManyBreaks, NoMemory, NotStopped, NoSlot, StampFull, LogEnded, ChapterCountFull, WrongHome}

abbrev pub site_refusal_text : SiteRefusal → List ℕ
site_refusal_text Running = codes "29 Running"
site_refusal_text Stopped = codes "30 Stopped"
site_refusal_text NotRunning = codes "31 NotRunning"
site_refusal_text AtBreak = codes "32 AtBreak"
site_refusal_text NotHere = codes "33 NotHere"
site_refusal_text Pinned = codes "34 Pinned"
site_refusal_text MoveCountFull = codes "35 MoveCountFull"
site_refusal_text TooManyBreaks = codes "36 TooManyBreaks"
site_refusal_text NoMemory = codes "46 NoMemory"
site_refusal_text NotStopped = codes "49 NotStopped"
site_refusal_text NoSlot = codes "50 NoSlot"
site_refusal_text StampFull = codes "51 StampFull"
site_refusal_text LogEnded = codes "54 LogEnded"
site_refusal_text ChapterCountFull = codes "55 ChapterCountFull"
site_refusal_text WrongHome = codes "56 WrongHome"
