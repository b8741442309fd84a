-- Drawn calls: how many there are, and that each can be run under the standard module.
use Rattle.std.specs.Prelude.{◌≡◌, ℕ, zero, suc, ◌+◌, ◌*◌, ◌%◌, ◌≤◌, true, cond, List, [], ◌∷◌, ◌++◌, map, length, Option, Some, None, Result, Ok, Vec}
use Rattle.std.proofs.Common.{refl, sym, ap, ◌∙◌, arith, length-append, suc-mul, zero-mul}
use Rattle.std.specs.declared.alloc.Global.{Global}
use Rattle.std.specs.List.{range_with_len}
use Rattle.std.specs.Option.{option_map}
use Rattle.std.specs.Result.{result_err}
use Rattle.std.proofs.lemmas.List.{map-append}
use Rattle.tatp_limits.specs.declared.limits.TheConstants.{MAX_SUBSCRIBERS}
use Rattle.rand_core.specs.Stream.{Stream}
use Rattle.tatp_encoding.specs.Modules.{ModuleState}
use Rattle.tatp_calls.specs.declared.ask.Ask.{Ask}
use Rattle.tatp_calls.specs.declared.ask.Ask.TheVariants.{Txn}
use Rattle.tatp_calls.specs.declared.call.Call.{Call}
use Rattle.tatp_calls.specs.declared.call.Call.TheVariants.{GetSubscriberData, GetNewDestination, GetAccessData, UpdateSubscriberData, UpdateLocation, InsertCallForwarding, DeleteCallForwarding}
use Rattle.tatp_calls.specs.declared.domains.BadArgument.{BadArgument as Bad}
use Rattle.tatp_calls.specs.Arguments.{arguments_accepted}
use Rattle.tatp_procs.specs.Standard.{standard_module}
use Rattle.tatp_tasks.specs.declared.distribution.Distribution.{Distribution}
use Rattle.tatp_tasks.specs.declared.distribution.Distribution.TheVariants.{Skewed, Uniform}
use Rattle.tatp_driver.specs.DrawnCall.{drawn_subscriber, drawn_call}
use Rattle.tatp_driver.specs.DrawnCalls.{next_calls}
use Rattle.tatp_driver.specs.DrawnWords.{next_words}
use Rattle.tatp_driver.proofs.DrawnCallLaws.{call_on_accepted}
use Rattle.tatp_calls.specs.Asked.{has_procedure, bad_argument}
use Rattle.tatp_logs.specs.Lists.{lists_of}
use Rattle.tatp_settle.specs.Runs.{joined}
use Rattle.tatp_threads.specs.declared.refusal.RunRefusal.{RunRefusal}
use Rattle.tatp_threads.specs.declared.refusal.RunRefusal.TheVariants.{NoProcedure, BadArgument}
use Rattle.tatp_threads.specs.Calls.{obstacle_to, first_of, obstacle_in, obstacle_among}

-- ---- how many
pub count_of_calls : (distribution : Distribution) (subscribers n : ℕ) (stream : Stream) → length (next_calls distribution subscribers n stream).0 ≡ n
unfolding next_calls
count_of_calls distribution subscribers zero stream = refl
count_of_calls distribution subscribers (suc n) stream =
    let before = next_calls distribution subscribers n stream in
    let last = drawn_call distribution subscribers (next_words 7 before.1).0 ∷ [] in
    omega (arith, count_of_calls distribution subscribers n stream, length-append before.0 last)

-- lists of one length
pub count_joined : {A : Type 0} (list_of : ℕ → List A) (each a n : ℕ) → ((client : ℕ) → length (list_of client) ≡ each) → length (joined (map list_of (range_with_len a n))) ≡ n * each
count_joined list_of each a zero same = sym (zero-mul each)
count_joined list_of each a (suc n) same =
    let rest = count_joined list_of each (a + 1) n same in
    let both = length-append (list_of a) (joined (map list_of (range_with_len (a + 1) n))) in
    let one = same a in
    omega (arith, rest, both, one, suc-mul n each)

-- ---- nothing stands against them
-- the standard module has the procedure of each transaction
pub has_standard : (call : Call) → has_procedure standard_module (Txn call) ≡ true
has_standard (GetSubscriberData s) = refl
has_standard (GetNewDestination s t b e) = refl
has_standard (GetAccessData s t) = refl
has_standard (UpdateSubscriberData s x t y) = refl
has_standard (UpdateLocation n v) = refl
has_standard (InsertCallForwarding n t b e x) = refl
has_standard (DeleteCallForwarding n t b) = refl

one_of : (x n : ℕ) → 1 ≤ n → n ≤ MAX_SUBSCRIBERS → 1 + x % n ≤ 999999999999999
one_of x n some few = omega arith

named_fits : (distribution : Distribution) (n : ℕ) (words : List ℕ) → 1 ≤ n → n ≤ MAX_SUBSCRIBERS → drawn_subscriber distribution n words ≤ 999999999999999
named_fits Skewed n words some few = one_of _ n some few
named_fits Uniform n words some few = one_of _ n some few

accepted : (distribution : Distribution) (n : ℕ) (words : List ℕ) → 1 ≤ n → n ≤ MAX_SUBSCRIBERS → arguments_accepted (drawn_call distribution n words) ≡ Ok tt
accepted distribution n words some few = call_on_accepted (drawn_subscriber distribution n words) words (named_fits distribution n words some few)

none_of_both : (xs ys : List (Option RunRefusal)) → first_of xs ≡ None → first_of ys ≡ None → first_of (xs ++ ys) ≡ None
none_of_both [] ys h k = k
none_of_both (None ∷ xs) ys h k = none_of_both xs ys h k
none_of_both (Some refusal ∷ xs) ys h k = h

module _ (modul : ModuleState) (has : (call : Call) → has_procedure modul (Txn call) ≡ true) where
  no_obstacle : (call : Call) → arguments_accepted call ≡ Ok tt → obstacle_to modul (Txn call) ≡ None
  no_obstacle call fits = (λ i. cond (has call i) (option_map BadArgument (bad_argument (Txn call))) (Some NoProcedure)) ∙ ap (λ (r : Result (Unit {0}) Bad). option_map BadArgument (result_err r)) fits

  pub calls_run : (distribution : Distribution) (subscribers : ℕ) → 1 ≤ subscribers → subscribers ≤ MAX_SUBSCRIBERS → (n : ℕ) (stream : Stream)
      → obstacle_in modul (map Txn (next_calls distribution subscribers n stream).0) ≡ None
  unfolding next_calls
  calls_run distribution subscribers some few zero stream = refl
  calls_run distribution subscribers some few (suc n) stream =
      let before = next_calls distribution subscribers n stream in
      let call = drawn_call distribution subscribers (next_words 7 before.1).0 in
      let spread = ap (map (obstacle_to modul)) (map-append Txn before.0 (call ∷ [])) ∙ map-append (obstacle_to modul) (map Txn before.0) (Txn call ∷ []) in
      ap first_of spread ∙ none_of_both (map (obstacle_to modul) (map Txn before.0)) (obstacle_to modul (Txn call) ∷ [])
      (calls_run distribution subscribers some few n stream)
      (ap (λ (o : Option RunRefusal). first_of (o ∷ [])) (no_obstacle call (accepted distribution subscribers (next_words 7 before.1).0 some few)))

  listed : (lists : List (Vec Ask Global)) → map (λ (list : Vec Ask Global). obstacle_in modul list.items) lists ≡ map (obstacle_in modul) (lists_of lists)
  listed [] = refl
  listed (list ∷ lists) = ap (λ rest. obstacle_in modul list.items ∷ rest) (listed lists)

  none_ranged : (list_of : ℕ → List Ask) (a n : ℕ) → ((client : ℕ) → obstacle_in modul (list_of client) ≡ None) → first_of (map (obstacle_in modul) (map list_of (range_with_len a n))) ≡ None
  none_ranged list_of a zero none = refl
  none_ranged list_of a (suc n) none = ap (λ (o : Option RunRefusal). first_of (o ∷ map (obstacle_in modul) (map list_of (range_with_len (a + 1) n)))) (none a) ∙ none_ranged list_of (a + 1) n none

  pub lists_run : (list_of : ℕ → List Ask) (clients : ℕ) (lists : List (Vec Ask Global)) → ((client : ℕ) → obstacle_in modul (list_of client) ≡ None)
      → lists_of lists ≡ map list_of (range_with_len 0 clients) → obstacle_among modul lists ≡ None
  lists_run list_of clients lists none same = ap first_of (listed lists ∙ ap (map (obstacle_in modul)) same) ∙ none_ranged list_of 0 clients none
