use Rattle.std.proofs.Common.{◌≡◌, ◌<◌, List, [], ◌∷◌, ◌++◌, length, refl, sym, ap, ◌∙◌, subst, arith}
use Rattle.tatp_linearization.specs.declared.configuration.Configuration.{Configuration as Held}
use Rattle.tatp_linearization.specs.Reached.{AreKept}
use Rattle.tatp_linearization.proofs.FollowLaws.{kept_none}
use Rattle.tatp_linearization.proofs.SearchedLaws.{searched_nothing}
use Rattle.tatp_linearization.proofs.explanations.Explanations.new.Goals as goal

pub returns-clause-reached : goal.returns-clause-reached
returns-clause-reached c =
    let home = c.searched_home.result in
    let d : Held = record { home = c.searched_home.result; opened = c.new.result; overwritten = 0 } in
    let is : c.push.new.self.items ≡ d ∷ [] = c.in_ok-push.ensures.items ∙ ap (λ (xs : List Held). xs ++ d ∷ []) c.new-configurations.ensures.items in
    record {
      from = home.tables;
      begins = c.searched_home.ensures.from;
      kept = subst (λ es. AreKept home.tables es c.push.new.self.items) (sym (searched_nothing c.args.exact home.tables.facilities))
          (kept_none home.tables c.push.new.self.items d is refl c.new.ensures.items);
      some = subst (λ (xs : List Held). 0 < length xs) (sym is) (omega arith);
    }

-- returns-clause-own was proved by the search, by c.copy.ensures; now by c.searched_home.ensures.own
