use Rattle.std.proofs.Common.{drop, rules, inl, inr}
use Rattle.tatp_linearization.specs.declared.configuration.Configuration.{Configuration as Held}
use Rattle.tatp_linearization.specs.Held.{seen}
use Rattle.tatp_linearization.specs.Doomed.{IsDoomed}
use Rattle.tatp_linearization.proofs.DoomedLaws.{doomed_stands}
use Rattle.tatp_linearization.proofs.CoveringLaws.{retained}
use Rattle.tatp_linearization.proofs.doomed.drop_doomed.Goals as goal

pub returns-then-len-gt-FEW-clause-kept : goal.returns-then-len-gt-FEW-clause-kept
returns-then-len-gt-FEW-clause-kept c = (retained _ (λ (b : Held). IsDoomed (drop c.args.from c.args.events.now) (seen b)) (λ (b : Held). Unit {0}) _ (λ x b g k. (search rules, ((λ _. tt), search rules))) c.args.set.now.items c.retain.new.self.items c.retain.ensures.filtered).kept

pub returns-then-len-gt-FEW-clause-found : goal.returns-then-len-gt-FEW-clause-found
returns-then-len-gt-FEW-clause-found c = λ d h. elim ((retained _ (λ (b : Held). IsDoomed (drop c.args.from c.args.events.now) (seen b)) (λ (b : Held). Unit {0}) _ (λ x b g k. (search rules, ((λ _. tt), search rules))) c.args.set.now.items c.retain.new.self.items c.retain.ensures.filtered).found d h) [
  | inl k ↦ inl k
  | inr k ↦ inr (doomed_stands (drop c.args.from c.args.events.now) k.0 d k.1 k.2)
]

pub returns-then-len-gt-FEW-clause-ready : goal.returns-then-len-gt-FEW-clause-ready
returns-then-len-gt-FEW-clause-ready c = (retained _ (λ (b : Held). IsDoomed (drop c.args.from c.args.events.now) (seen b)) (λ (b : Held). Unit {0}) _ (λ x b g k. (search rules, ((λ _. tt), search rules))) c.args.set.now.items c.retain.new.self.items c.retain.ensures.filtered).ready

pub returns-then-len-gt-FEW-clause-apart : goal.returns-then-len-gt-FEW-clause-apart
returns-then-len-gt-FEW-clause-apart c = (retained _ (λ (b : Held). IsDoomed (drop c.args.from c.args.events.now) (seen b)) (λ (b : Held). Unit {0}) _ (λ x b g k. (search rules, ((λ _. tt), search rules))) c.args.set.now.items c.retain.new.self.items c.retain.ensures.filtered).apart
