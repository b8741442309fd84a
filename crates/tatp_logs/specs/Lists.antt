-- Lists of lists.
use Rattle.std.specs.Prelude.{List, map, Vec}
use Rattle.std.specs.declared.alloc.Global.{Global}

-- lists as contracts see them
abbrev pub lists_of : {A : Type 0} → List (Vec A Global) → List (List A)
lists_of lists = map (λ list. list.items) lists
