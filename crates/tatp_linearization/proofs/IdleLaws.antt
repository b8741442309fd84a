-- Calls that change nothing on some rows may take effect there, one after another.
use Rattle.std.proofs.Common.{◌≡◌, ℕ, ◌⊎◌, true, false, is_some, List, [], ◌∷◌, ◌++◌, Option, Some, None, refl, sym, ◌∙◌, ap, subst, true≢false, inl, inr}
use Rattle.tatp_tables.specs.Tuples.{Tuple}
use Rattle.tatp_tables.specs.Keys.{row_at, row_with_number}
use Rattle.tatp_tables.specs.Database.{Database}
use Rattle.tatp_calls.specs.declared.call.Call.{Call}
use Rattle.tatp_calls.specs.declared.reply.Reply.TheVariants.{Values}
use Rattle.tatp_calls.specs.Transactions.{transaction, updates_both, updates_location}
use Rattle.tatp_history.specs.declared.observed.Outcome.{Outcome}
use Rattle.tatp_history.specs.declared.observed.Observed.{Observed}
use Rattle.tatp_history.specs.Histories.{MayHaveReply}
use Rattle.tatp_history.specs.Configurations.{Configuration}
use Rattle.tatp_linearization.specs.AtOnce.{FitsAtOnce}
use Rattle.tatp_linearization.specs.Overwritten.{IsBlind, IsIdle, AreButSome}
use Rattle.tatp_linearization.specs.Covering.{MayCome}
use Rattle.tatp_linearization.proofs.ButSomeLaws.{but_all}
use Rattle.tatp_linearization.proofs.PossibleLaws.{SomeTakeEffect, some_on}
use Rattle.tatp_linearization.proofs.SettlingLaws.{chooses_mid, shift}

-- ---- a blind call succeeds
location_may : (outcome : Outcome) (u : Database) (w : ℕ) (row : Option Tuple) → is_some row ≡ true → MayHaveReply outcome (Values []) → MayHaveReply outcome (updates_location u w row).reply
location_may outcome u w None there may = absurd (true≢false (sym there))
location_may outcome u w (Some row) there may = may

both_may : (outcome : Outcome) (u : Database) (x y : ℕ) (row facility : Option Tuple) → is_some row ≡ true → is_some facility ≡ true → MayHaveReply outcome (Values []) → MayHaveReply outcome (updates_both u x y row facility).reply
both_may outcome u x y None facility there own may = absurd (true≢false (sym there))
both_may outcome u x y (Some row) None there own may = absurd (true≢false (sym own))
both_may outcome u x y (Some row) (Some facility) there own may = may

blind_may : (u : Database) (x : Observed) → IsBlind u x → MayHaveReply x.outcome (transaction x.call u).reply
blind_may u x b = elim b.sets [
  | inl l ↦ subst (λ (call : Call). MayHaveReply x.outcome (transaction call u).reply) (sym l.updates) (location_may x.outcome u l.location (row_with_number u.subscribers l.number) l.named b.may)
  | inr d ↦ subst (λ (call : Call). MayHaveReply x.outcome (transaction call u).reply) (sym d.updates)
      (both_may x.outcome u d.bit d.value (row_at u.subscribers (d.s_id ∷ [])) (row_at u.facilities (d.s_id ∷ d.sf_type ∷ [])) d.subscriber d.facility b.may)
]

-- ---- one after another
idle_chain : (u : Database) (k : ℕ) (before xs mid : List Observed) → AreButSome (λ z. IsBlind u z × IsIdle u z.call) k xs mid → SomeTakeEffect (record { rows = u; opened = before ++ xs }) (record { rows = u; opened = before ++ mid })
idle_chain u k before [] mid a = (0, λ i. record { rows = u; opened = before ++ a i })
idle_chain u k before (x ∷ xs) mid a = elim a [
  | inl q ↦ subst (λ zs. SomeTakeEffect (record { rows = u; opened = zs }) (record { rows = u; opened = before ++ mid })) (sym (shift before x xs))
      (subst (λ zs. SomeTakeEffect (record { rows = u; opened = (before ++ x ∷ []) ++ xs }) (record { rows = u; opened = zs })) (sym (shift before x q.0) ∙ ap (λ zs. before ++ zs) (sym q.1)) (idle_chain u k (before ++ x ∷ []) xs q.0 q.2))
  | inr q ↦
      let first : Configuration = record { rows = u; opened = before ++ x ∷ xs } in
      let second : Configuration = record { rows = (transaction x.call u).database; opened = before ++ xs } in
      let effect : SomeTakeEffect first second = (1, (second, (x, before ++ xs, chooses_mid before xs x, blind_may u x q.1.0, refl), refl)) in
      some_on first (record { rows = u; opened = before ++ xs }) (record { rows = u; opened = before ++ mid }) (subst (λ v. SomeTakeEffect first (record { rows = v; opened = before ++ xs })) q.1.1 effect) (idle_chain u k before xs mid q.2)
]

-- they may come to have taken effect
pub idle_comes : (u : Database) (k : ℕ) (xs mid : List Observed) → AreButSome (λ z. IsBlind u z × IsIdle u z.call) k xs mid → MayCome (record { rows = u; opened = xs }) (record { rows = u; opened = mid })
idle_comes u k xs mid a = record {
  calls = idle_chain u k [] xs mid a;
  settled = λ h. but_all (λ z. IsBlind u z × IsIdle u z.call) k (λ (z : Observed). FitsAtOnce u z → ⊥) xs mid a h;
}
