-- What stands against the calls of some clients, and of others behind them.
use Rattle.std.proofs.Common.{◌≡◌, List, [], ◌∷◌, ◌++◌, map, Option, Some, None, Vec, refl, sym, ◌∙◌, ap}
use Rattle.std.specs.Option.{option_or}
use Rattle.std.specs.declared.alloc.Global.{Global}
use Rattle.std.proofs.lemmas.List.{map-append}
use Rattle.tatp_encoding.specs.Modules.{ModuleState}
use Rattle.tatp_calls.specs.declared.ask.Ask.{Ask}
use Rattle.tatp_threads.specs.declared.refusal.RunRefusal.{RunRefusal}
use Rattle.tatp_threads.specs.Calls.{first_of, obstacle_in, obstacle_among}

first_of_both : (front back : List (Option RunRefusal)) → first_of (front ++ back) ≡ option_or (first_of front) (first_of back)
first_of_both [] back = refl
first_of_both (Some obstacle ∷ front) back = refl
first_of_both (None ∷ front) back = first_of_both front back

among_both : (modul : ModuleState) (low high : List (Vec Ask Global)) → obstacle_among modul (low ++ high) ≡ option_or (obstacle_among modul low) (obstacle_among modul high)
among_both modul low high =
    let obstacle : Vec Ask Global → Option RunRefusal = λ list. obstacle_in modul list.items in
    ap first_of (map-append obstacle low high) ∙ first_of_both (map obstacle low) (map obstacle high)

-- what stands against the lists, where the front and the back of them were looked through apart
pub in_either : (modul : ModuleState) (lists low high : List (Vec Ask Global)) (front back found : Option RunRefusal) → lists ≡ low ++ high
    → front ≡ obstacle_among modul low → back ≡ obstacle_among modul high → found ≡ option_or front back → found ≡ obstacle_among modul lists
in_either modul lists low high front back found parts first second either =
    either
    ∙ (ap (λ (o : Option RunRefusal). option_or o back) first
    ∙ (ap (λ (o : Option RunRefusal). option_or (obstacle_among modul low) o) second
    ∙ (sym (among_both modul low high)
    ∙ ap (obstacle_among modul) (sym parts))))
