-- What an error of the parse is answered with.
use Rattle.std.specs.Prelude.{◌≡◌, ◌⊎◌, List}
use Rattle.std.proofs.Common.{subst, inl, inr}
use Rattle.clap.specs.Faults.{fault_of}
use Rattle.clap.specs.Kinds.{IsAmong}
use Rattle.clap.specs.Walk.{Text}
use Rattle.clap.specs.declared.error.kind.ErrorKind.{ErrorKind}
use Rattle.clap.specs.declared.error.kind.ErrorKind.TheVariants.{DisplayHelp, DisplayVersion, OutOfMemory}
use Rattle.tatp_tasks.specs.declared.task.Task.{Task}
use Rattle.tatp_command_line.specs.Asked.{IfDo, IfShown, IsForText, IsToldOf, AskForText}
use Rattle.tatp_command_line.specs.CommandLine.{command_line}
use Rattle.tatp_command_line.specs.declared.asked.Asked.{Asked}
use Rattle.tatp_command_line.specs.declared.asked.Asked.TheVariants.{Do, Show, Refuse}

no_help : (kind : ErrorKind) → kind ≡ OutOfMemory → kind ≡ DisplayHelp → ⊥
no_help kind memory help = cc

no_version : (kind : ErrorKind) → kind ≡ OutOfMemory → kind ≡ DisplayVersion → ⊥
no_version kind memory version = cc

ask_for_text : (kind : ErrorKind) (words : List Text) → (kind ≡ OutOfMemory) ⊎ IsAmong kind (fault_of command_line words) → IsForText kind → AskForText words
ask_for_text kind words (inl memory) (inl help) = absurd (no_help kind memory help)
ask_for_text kind words (inl memory) (inr version) = absurd (no_version kind memory version)
ask_for_text kind words (inr among) (inl help) = inl (subst (λ k. IsAmong k (fault_of command_line words)) help among)
ask_for_text kind words (inr among) (inr version) = inr (subst (λ k. IsAmong k (fault_of command_line words)) version among)

pub no_task_is_asked_for : (asked : Asked) (kind : ErrorKind) (IsSuch : Task → Type 0) → IsToldOf kind asked → IfDo IsSuch asked
no_task_is_asked_for (Do task) kind IsSuch h = absurd h
no_task_is_asked_for (Show text) kind IsSuch h = tt
no_task_is_asked_for (Refuse text) kind IsSuch h = tt

pub what_is_shown_is_asked_for : (asked : Asked) (kind : ErrorKind) (words : List Text) → (kind ≡ OutOfMemory) ⊎ IsAmong kind (fault_of command_line words) → IsToldOf kind asked → IfShown (AskForText words) asked
what_is_shown_is_asked_for (Do task) kind words has h = tt
what_is_shown_is_asked_for (Show text) kind words has h = ask_for_text kind words has h
what_is_shown_is_asked_for (Refuse text) kind words has h = tt
