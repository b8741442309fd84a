-- Lists that are joined from the last to the first.
use Rattle.std.specs.Prelude.{◌≡◌, List, [], ◌∷◌, ◌++◌, Vec}
use Rattle.std.proofs.Common.{sym, ap, ◌∙◌, append_assoc}
use Rattle.std.specs.declared.alloc.Global.{Global}
use Rattle.std.proofs.lemmas.List.{append-nil}
use Rattle.tatp_logs.specs.Lists.{lists_of}
use Rattle.tatp_settle.specs.Runs.{joined}

-- the last of some lists moves to the front of what follows them
pub last_joined : {A : Type 0} (lists : List (Vec A Global)) (last : Vec A Global) (all : List A)
    → joined (lists_of (lists ++ last ∷ [])) ++ all ≡ joined (lists_of lists) ++ (last.items ++ all)
last_joined [] last all = ap (λ items. items ++ all) (append-nil last.items)
last_joined (list ∷ more) last all =
    append_assoc list.items (joined (lists_of (more ++ last ∷ []))) all
    ∙ (ap (λ items. list.items ++ items) (last_joined more last all)
    ∙ sym (append_assoc list.items (joined (lists_of more)) (last.items ++ all)))
