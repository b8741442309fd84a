-- What is left to show of a call: its run on the home's rows, and that this is its transaction.
use Rattle.std.specs.Prelude.{◌≡◌, ℕ, true, List, Option, Some, None}
use Rattle.std.specs.List.{list_all}
use Rattle.std.proofs.Common.{refl, sym, ap, subst, ◌∙◌}
use Rattle.std.proofs.lemmas.Bool.{and_parts}
use Rattle.tatp_instr.specs.declared.instr.Instr.{Instr}
use Rattle.tatp_tables.specs.Database.{Database, of_subscriber, with_subscriber}
use Rattle.tatp_homes.proofs.SubscriberLaws.{with_subscriber-of_subscriber}
use Rattle.tatp_encoding.specs.Modules.{ModuleState}
use Rattle.tatp_instr.specs.declared.ending.End.{End}
use Rattle.tatp_instr.specs.declared.ending.End.TheVariants.{Done, Failed}
use Rattle.tatp_machine.specs.Calls.{code_of, entered}
use Rattle.tatp_machine.specs.Machines.{rows_left}
use Rattle.tatp_machine.specs.Runs.{Outcome, Alone, call_at_entry}
use Rattle.tatp_machine.proofs.RunLaws.{one_outcome}
use Rattle.tatp_numbers.specs.Homes.{home_of_key}
use Rattle.tatp_calls.specs.declared.call.Call.{Call}
use Rattle.tatp_calls.specs.Calls.{procedure_of, key_of_call, arguments_of}
use Rattle.tatp_calls.specs.Transactions.{fails, replies, transaction}
use Rattle.tatp_procs.specs.Consistent.{IsConsistent}
use Rattle.tatp_procs.specs.Performs.{answer_of, CallAlone, Performs}
use Rattle.tatp_procs.proofs.KeepLaws.{puts_free}
use Rattle.tatp_procs.proofs.RunLaws.{Over, run, run_homeless}
use Rattle.tatp_procs.proofs.WithinLaws.{is_within, within_at_entry}
use Rattle.tatp_procs.proofs.LeadLaws.{outcome, run_leads, run_homeless_leads}
use Rattle.tatp_procs.proofs.HomeRowLaws.{AreHome-of_subscriber}

performs : (modul : ModuleState) (call : Call) (u : Database) (o : Outcome) → CallAlone modul call u o → answer_of o ≡ transaction call u → Performs modul call u
performs modul call u o alone is = record {
  some = (o, alone);
  each = λ p other. ap answer_of (one_outcome other.lines alone.lines (call_at_entry modul (procedure_of call) (arguments_of call) (home_of_key u.subscribers (key_of_call call)) u) u p o other.ends alone.ends) ∙ is;
}

-- a run within the limits puts no fixed column
puts_free_in : (n : ℕ) (outputs : List ℕ) (code : List Instr) → is_within n outputs code ≡ true → list_all puts_free code ≡ true
puts_free_in n outputs code within = (and_parts (list_all puts_free code) _ within).0

-- of a subscriber that the key names
alone_at : (modul : ModuleState) (procedure : ℕ) (arguments : List ℕ) (home : Option ℕ) (u w : Database) (s n : ℕ) (end : End) (outputs : List ℕ) → IsConsistent u → is_within n outputs (code_of modul procedure) ≡ true → home ≡ Some s
    → run n (entered modul procedure arguments (Some s)) (of_subscriber u s) ≡ Over end outputs w → Alone modul procedure arguments home u (outcome end outputs (with_subscriber u s (rows_left end (of_subscriber u s) w)))
alone_at modul procedure arguments home u w s n end outputs is within named ran =
    let leads = run_leads n (entered modul procedure arguments (Some s)) (of_subscriber u s) (of_subscriber u s) w s u end outputs (within_at_entry n outputs modul procedure arguments (Some s) within) (puts_free_in n outputs (code_of modul procedure) within) refl refl (AreHome-of_subscriber u s is) ran in
    subst (λ h. Alone modul procedure arguments h u (outcome end outputs (with_subscriber u s (rows_left end (of_subscriber u s) w)))) (sym named) (record { lines = leads.0; ends = leads.1 })

pub performs_at : (modul : ModuleState) (call : Call) (u w : Database) (s n : ℕ) (end : End) (outputs : List ℕ) → IsConsistent u → is_within n outputs (code_of modul (procedure_of call)) ≡ true
    → home_of_key u.subscribers (key_of_call call) ≡ Some s → run n (entered modul (procedure_of call) (arguments_of call) (Some s)) (of_subscriber u s) ≡ Over end outputs w
    → answer_of (outcome end outputs (with_subscriber u s (rows_left end (of_subscriber u s) w))) ≡ transaction call u → Performs modul call u
performs_at modul call u w s n end outputs is within named ran same =
    performs modul call u (outcome end outputs (with_subscriber u s (rows_left end (of_subscriber u s) w))) (alone_at modul (procedure_of call) (arguments_of call) (home_of_key u.subscribers (key_of_call call)) u w s n end outputs is within named ran) same

-- it fails
pub performs_failing : (modul : ModuleState) (call : Call) (u w : Database) (s n k : ℕ) (outputs : List ℕ) → IsConsistent u → is_within n outputs (code_of modul (procedure_of call)) ≡ true
    → home_of_key u.subscribers (key_of_call call) ≡ Some s → run n (entered modul (procedure_of call) (arguments_of call) (Some s)) (of_subscriber u s) ≡ Over (Failed k) outputs w
    → fails u k ≡ transaction call u → Performs modul call u
performs_failing modul call u w s n k outputs is within named ran same =
    performs_at modul call u w s n (Failed k) outputs is within named ran (ap (λ v. fails v k) (with_subscriber-of_subscriber u s) ∙ same)

-- it only reads
pub performs_reading : (modul : ModuleState) (call : Call) (u : Database) (s n : ℕ) (outputs : List ℕ) → IsConsistent u → is_within n outputs (code_of modul (procedure_of call)) ≡ true
    → home_of_key u.subscribers (key_of_call call) ≡ Some s → run n (entered modul (procedure_of call) (arguments_of call) (Some s)) (of_subscriber u s) ≡ Over Done outputs (of_subscriber u s)
    → replies u outputs ≡ transaction call u → Performs modul call u
performs_reading modul call u s n outputs is within named ran same =
    performs_at modul call u (of_subscriber u s) s n Done outputs is within named ran (ap (λ v. replies v outputs) (with_subscriber-of_subscriber u s) ∙ same)

-- of a key that names no subscriber
pub performs_without : (modul : ModuleState) (call : Call) (u w : Database) (n k : ℕ) (outputs : List ℕ) → is_within n outputs (code_of modul (procedure_of call)) ≡ true
    → home_of_key u.subscribers (key_of_call call) ≡ None → run_homeless n (entered modul (procedure_of call) (arguments_of call) None) ≡ Over (Failed k) outputs w
    → fails u k ≡ transaction call u → Performs modul call u
performs_without modul call u w n k outputs within nameless ran same =
    let leads = run_homeless_leads n (entered modul (procedure_of call) (arguments_of call) None) w u (Failed k) outputs (within_at_entry n outputs modul (procedure_of call) (arguments_of call) None within) (puts_free_in n outputs (code_of modul (procedure_of call)) within) refl ran in
    performs modul call u (outcome (Failed k) outputs u)
    (subst (λ h. Alone modul (procedure_of call) (arguments_of call) h u (outcome (Failed k) outputs u)) (sym nameless) (record { lines = leads.0; ends = leads.1 })) same
