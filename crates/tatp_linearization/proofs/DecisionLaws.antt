-- With which replies a call may have ended is decided.
use Rattle.std.specs.Prelude.{◌≡◌, ℕ, zero, suc, ◌⊎◌, Bool, true, false, nat_eq}
use Rattle.std.specs.Bool.{Decides}
use Rattle.std.specs.Cmp.Lexicographic.{pointwise, bytes_decides}
use Rattle.std.proofs.Common.{refl, sym, ap, ◌∙◌, true≢false, inl, inr}
use Rattle.std.proofs.lemmas.Bool.Decides.{Decides-eqb}
use Rattle.tatp_tables.specs.Database.{Database}
use Rattle.tatp_instr.specs.declared.ending.Trap.{Trap}
use Rattle.tatp_instr.specs.declared.ending.Trap.TheVariants.{NoCurrent, Domain, Budget, Output, Writes}
use Rattle.tatp_calls.specs.declared.reply.Reply.{Reply}
use Rattle.tatp_calls.specs.declared.reply.Reply.TheVariants.{Values, Failed, Trapped, Refused}
use Rattle.tatp_calls.specs.Transactions.{transaction}
use Rattle.tatp_history.specs.declared.observed.Recorded.{Recorded}
use Rattle.tatp_history.specs.declared.observed.Recorded.TheVariants.{Exactly, Success, Failure}
use Rattle.tatp_history.specs.declared.observed.Outcome.{Outcome}
use Rattle.tatp_history.specs.declared.observed.Outcome.TheVariants.{Answered, Aborted, Unknown}
use Rattle.tatp_history.specs.declared.observed.Observed.{Observed}
use Rattle.tatp_history.specs.Histories.{IsAsRecorded, MayHaveReply}
use Rattle.tatp_history.specs.Changes.{changes_nothing}
use Rattle.tatp_linearization.specs.AtOnce.{FitsAtOnce}

decided : (P : Type 0) (b : Bool) → Decides b P → P ⊎ (P → ⊥)
decided P true d = inl (d.0 refl)
decided P false d = inr (λ p. true≢false (sym (d.1 p)))

-- ---- replies
abbrev trap_number : Trap → ℕ
trap_number NoCurrent = 0
trap_number Domain = 1
trap_number Budget = 2
trap_number Output = 3
trap_number Writes = 4

abbrev trap_of : ℕ → Trap
trap_of zero = NoCurrent
trap_of (suc zero) = Domain
trap_of (suc (suc zero)) = Budget
trap_of (suc (suc (suc zero))) = Output
trap_of (suc (suc (suc (suc n)))) = Writes

trap_again : (t : Trap) → trap_of (trap_number t) ≡ t
trap_again NoCurrent = refl
trap_again Domain = refl
trap_again Budget = refl
trap_again Output = refl
trap_again Writes = refl

same_trap : (s t : Trap) → (s ≡ t) ⊎ (s ≡ t → ⊥)
same_trap s t = elim (decided (trap_number s ≡ trap_number t) (nat_eq (trap_number s) (trap_number t)) (Decides-eqb (trap_number s) (trap_number t))) [
  | inl e ↦ inl (sym (trap_again s) ∙ (ap trap_of e ∙ trap_again t))
  | inr n ↦ inr (λ e. n (ap trap_number e))
]

pub same_reply : (a b : Reply) → (a ≡ b) ⊎ (a ≡ b → ⊥)
same_reply (Values xs) (Values ys) = elim (decided (xs ≡ ys) (pointwise nat_eq xs ys) (bytes_decides xs ys)) [ inl e ↦ inl (ap Values e) | inr n ↦ inr (λ e. n cc) ]
same_reply (Values xs) (Failed n) = inr (λ e. cc)
same_reply (Values xs) (Trapped t) = inr (λ e. cc)
same_reply (Values xs) Refused = inr (λ e. cc)
same_reply (Failed m) (Values ys) = inr (λ e. cc)
same_reply (Failed m) (Failed n) = elim (decided (m ≡ n) (nat_eq m n) (Decides-eqb m n)) [ inl e ↦ inl (ap Failed e) | inr d ↦ inr (λ e. d cc) ]
same_reply (Failed m) (Trapped t) = inr (λ e. cc)
same_reply (Failed m) Refused = inr (λ e. cc)
same_reply (Trapped s) (Values ys) = inr (λ e. cc)
same_reply (Trapped s) (Failed n) = inr (λ e. cc)
same_reply (Trapped s) (Trapped t) = elim (same_trap s t) [ inl e ↦ inl (ap Trapped e) | inr d ↦ inr (λ e. d cc) ]
same_reply (Trapped s) Refused = inr (λ e. cc)
same_reply Refused (Values ys) = inr (λ e. cc)
same_reply Refused (Failed n) = inr (λ e. cc)
same_reply Refused (Trapped t) = inr (λ e. cc)
same_reply Refused Refused = inl refl

-- ---- replies that are as recorded
is_as_recorded : (recorded : Recorded) (reply : Reply) → IsAsRecorded recorded reply ⊎ (IsAsRecorded recorded reply → ⊥)
is_as_recorded (Exactly own) reply = same_reply own reply
is_as_recorded Success (Values xs) = inl tt
is_as_recorded Success (Failed n) = inr (λ h. h)
is_as_recorded Success (Trapped t) = inr (λ h. h)
is_as_recorded Success Refused = inr (λ h. h)
is_as_recorded Failure (Values xs) = inr (λ h. h)
is_as_recorded Failure (Failed n) = inl tt
is_as_recorded Failure (Trapped t) = inr (λ h. h)
is_as_recorded Failure Refused = inr (λ h. h)

pub may_have_reply : (outcome : Outcome) (reply : Reply) → MayHaveReply outcome reply ⊎ (MayHaveReply outcome reply → ⊥)
may_have_reply (Answered at recorded) reply = is_as_recorded recorded reply
may_have_reply (Aborted at) reply = inr (λ h. h)
may_have_reply Unknown reply = inl tt

pub fits_or_not : (u : Database) (x : Observed) → FitsAtOnce u x ⊎ (FitsAtOnce u x → ⊥)
fits_or_not u x = elim (changes_nothing x) as (λ b. changes_nothing x ≡ b → FitsAtOnce u x ⊎ (FitsAtOnce u x → ⊥)) [
  | true ↦ λ e. elim (may_have_reply x.outcome (transaction x.call u).reply) [ inl m ↦ inl (e, m) | inr n ↦ inr (λ f. n f.1) ]
  | false ↦ λ e. inr (λ f. true≢false (sym f.0 ∙ e))
] refl
