-- The events of a call, one after another, and their answers.
use Rattle.std.proofs.Common.{◌≡◌, ◌≢◌, ◌==◌, ℕ, zero, suc, false, List, [], ◌∷◌, ◌++◌, take, replicate, Some, None, Result, Ok, Err, refl, sym, ◌∙◌, ap, subst, arith}
use Rattle.std.proofs.lemmas.Bool.{false_from_ne_true, eqb-true}
use Rattle.std.proofs.lemmas.List.{append-nil, take-replicate}
use Rattle.std.proofs.lemmas.List.Sums.{fold-append}
use Rattle.tatp_calls.specs.declared.ask.Ask.{Ask}
use Rattle.tatp_calls.specs.declared.entry.Entry.{Entry}
use Rattle.tatp_calls.specs.declared.reply.Reply.{Reply}
use Rattle.tatp_calls.specs.declared.reply.Reply.TheVariants.{Refused}
use Rattle.tatp_partition.specs.declared.item.Completion.{Completion}
use Rattle.tatp_partition.specs.declared.refusal.SiteRefusal.TheVariants.{Running}
use Rattle.tatp_partition.specs.Sites.{RunningCall}
use Rattle.tatp_events.specs.declared.event.Event.{Event}
use Rattle.tatp_events.specs.declared.event.Event.TheVariants.{Step}
use Rattle.tatp_events.specs.declared.event.Answer.{Answer}
use Rattle.tatp_events.specs.declared.event.Answer.TheVariants.{Queued, Began, Moved, Ended}
use Rattle.tatp_events.specs.declared.refusal.Refusal.{Refusal}
use Rattle.tatp_events.specs.declared.refusal.Refusal.TheVariants.{Site}
use Rattle.tatp_events.specs.Answers.{Answered}
use Rattle.tatp_dispatch.specs.Advancing.{AdvancesSo}
use Rattle.tatp_dispatch.specs.Calling.{CallsOnce, GoesUpTo, BeginsUpTo, StepsUpTo, IsOutcome, MakesCall, refusal_by, last_reply}
use Rattle.tatp_dispatch.specs.Events.{Happens, Submits, BeginsAt, AdvancesAt, EndsAt}
use Rattle.tatp_dispatch.specs.Obstacles.{step_obstacle_at}
use Rattle.tatp_dispatch.specs.Runs.{HappenAll}
use Rattle.tatp_dispatch.specs.Serving.{IsWorld}
use Rattle.tatp_dispatch.specs.Worlds.{WorldState}
use Rattle.tatp_dispatch.proofs.CallingLaws.{StillRuns, same_run, transacts_once}

-- ---- lists of one thing
one_again : {A : Type 0} (n : ℕ) (x : A) (xs : List A) → replicate n x ++ x ∷ xs ≡ x ∷ (replicate n x ++ xs)
one_again zero x xs = refl
one_again (suc n) x xs = ap (λ t. x ∷ t) (one_again n x xs)

-- ---- steps that went on
-- this many steps at a partition, each of which went on
abbrev pub MovesFor : ℕ → WorldState → ℕ → WorldState → Type 0
MovesFor zero w p w' = w' ≡ w
MovesFor (suc steps) w p w' = (mid : WorldState) × MovesFor steps w p mid × AdvancesSo (step_obstacle_at mid p) mid p (Ok Moved) w'

moves_happen : (w mid w' : WorldState) (p k : ℕ) (events : List Event) (answers : List (Result Answer Refusal)) → MovesFor k w p mid → HappenAll mid events answers w' → HappenAll w (replicate k (Step p) ++ events) (replicate k (Ok Moved) ++ answers) w'
moves_happen w mid w' p zero events answers same h = subst (λ (t : WorldState). HappenAll t events answers w') same h
moves_happen w mid w' p (suc k) events answers (m, before, one) h =
    let all : HappenAll w (replicate k (Step p) ++ Step p ∷ events) (replicate k (Ok Moved) ++ Ok Moved ∷ answers) w' = moves_happen w m w' p k (Step p ∷ events) (Ok Moved ∷ answers) before (mid, one.0, one.1.world, h) in
    subst (λ (es : List Event). HappenAll w es (Ok Moved ∷ (replicate k (Ok Moved) ++ answers)) w') (one_again k (Step p) events)
    (subst (λ (xs : List (Result Answer Refusal)). HappenAll w (replicate k (Step p) ++ Step p ∷ events) xs w') (one_again k (Ok Moved) answers) all)

abbrev went_on : Answered
went_on = Ok Moved

pub steps_up_to : (w mid w' : WorldState) (p k : ℕ) (last : Answered) → MovesFor k w p mid → Happens mid (Step p) last w' → IsWorld w' → StepsUpTo w p last w'
steps_up_to w mid w' p k last moves happens good =
    let all : HappenAll w (replicate k (Step p) ++ Step p ∷ []) (replicate k went_on ++ last ∷ []) w' = moves_happen w mid w' p k (Step p ∷ []) (last ∷ []) moves (w', happens, good, refl) in
    let events : replicate k (Step p) ++ Step p ∷ [] ≡ take (suc k) (replicate (suc k) (Step p)) =
    one_again k (Step p) [] ∙ ap (λ es. Step p ∷ es) (append-nil (replicate k (Step p))) ∙ sym (take-replicate (suc k) (suc k) (Step p) (omega arith)) in
    let answers : replicate k went_on ≡ take k (replicate (suc k) went_on) = sym (take-replicate k (suc k) went_on (omega arith)) in (
      suc k,
      record {
        before = k;
        happen = subst (λ (es : List Event). HappenAll w es (take k (replicate (suc k) went_on) ++ last ∷ []) w') events
            (subst (λ (xs : List Answered). HappenAll w (replicate k (Step p) ++ Step p ∷ []) (xs ++ last ∷ []) w') answers all);
      },
    )

-- ---- one event more, before them
pub then_steps : (w mid w' : WorldState) (client p : ℕ) (last : Answered) → BeginsAt w p (Ok (Began client)) mid → IsWorld mid → StepsUpTo mid p last w' → BeginsUpTo w client p last w'
then_steps w mid w' client p last begins good (steps, h) = (steps, record { before = suc h.before; happen = (mid, begins, good, h.happen) })

pub begin_last : (w w' : WorldState) (client p : ℕ) (last : Answered) → BeginsAt w p last w' → IsWorld w' → BeginsUpTo w client p last w'
begin_last w w' client p last happens good = (0, record { before = 0; happen = (w', happens, good, refl) })

pub then_begins : (w mid w' : WorldState) (client p : ℕ) (ask : Ask) (last : Answered) → Submits w client ask (Ok (Queued p)) mid → IsWorld mid → BeginsUpTo mid client p last w' → GoesUpTo w client ask last w'
then_begins w mid w' client p ask last submits good (steps, h) = (p, steps, record { before = suc h.before; happen = (mid, submits, good, h.happen) })

pub submit_last : (w w' : WorldState) (client : ℕ) (ask : Ask) (last : Answered) → Submits w client ask last w' → IsWorld w' → GoesUpTo w client ask last w'
submit_last w w' client ask last happens good = (0, 0, record { before = 0; happen = (w', happens, good, refl) })

-- whatever the last answer is, the events lead further back
pub outcome_then : (UpTo More : Answered → Type 0) (client : ℕ) (ask : Ask) (outcome : Result Reply Refusal) → ((last : Answered) → UpTo last → More last) → IsOutcome UpTo client ask outcome → IsOutcome More client ask outcome
outcome_then UpTo More client ask (Ok reply) more goes = more (Ok (Ended client ask reply)) goes
outcome_then UpTo More client ask (Err refusal) more (last, by, goes) = (last, by, more last goes)

-- ---- where another client's call has begun
pub other_begun : (begun client : ℕ) → begun ≢ client → refusal_by client (Ok (Began begun)) ≡ Some (Site Running)
other_begun begun client n = let other : (begun == client) ≡ false = false_from_ne_true (begun == client) (λ e. n (eqb-true begun client e)) in rw (other) refl

-- ---- the end
pub last_is : (entries : List Entry) (entry : Entry) → last_reply (entries ++ entry ∷ []) ≡ entry.reply
last_is entries entry = fold-append (λ before (e : Entry). e.reply) Refused entries (entry ∷ [])

pub reply_left : (w w' : WorldState) (p : ℕ) (completion : Completion) → EndsAt w p completion w' → last_reply w'.completions ≡ completion.entry.reply
reply_left w w' p completion e = ap last_reply (ap (λ (t : WorldState). t.completions) e.after) ∙ last_is w.completions completion.entry

-- a call that ends is its client's, and its reply is that of the last completion
pub ends_by_steps : (w mid w' : WorldState) (p k client : ℕ) (ask : Ask) (completion : Completion) → MovesFor k w p mid → StillRuns mid p client ask → step_obstacle_at mid p ≡ None → EndsAt mid p completion w' → IsWorld w' → StepsUpTo w p (Ok (Ended client ask (last_reply w'.completions))) w'
ends_by_steps w mid w' p k client ask completion moves runs free e good =
    let g = e.ends in
    let same : g.running ≡ runs.r = same_run mid p e.before g.running runs.r e.site g.is runs.at in
    let of_client : completion.entry.client ≡ client = ap (λ (t : Entry). t.client) g.entry ∙ (ap (λ (t : RunningCall). t.client) same ∙ runs.of_client) in
    let of_ask : completion.entry.ask ≡ ask = ap (λ (t : Entry). t.ask) g.entry ∙ (ap (λ (t : RunningCall). t.ask) same ∙ runs.of_ask) in
    let ends : AdvancesAt (step_obstacle_at mid p) mid p (Ok (Ended client ask (last_reply w'.completions))) w' = (free, (completion, sym of_client, sym of_ask, reply_left mid w' p completion e, e)) in
    steps_up_to w mid w' p k (Ok (Ended client ask (last_reply w'.completions))) moves ends good

-- ---- with all that it does
pub call_made : (w w' : WorldState) (client : ℕ) (ask : Ask) (outcome : Result Reply Refusal) → IsWorld w → IsOutcome (λ last. GoesUpTo w client ask last w') client ask outcome → CallsOnce w client ask outcome w' → w'.modul ≡ w.modul → IsWorld w' → MakesCall w client ask outcome w'
call_made w w' client ask outcome good events call same good' = record {
  events = events;
  call = call;
  transaction = transacts_once w w' client ask outcome good call;
  modul = same;
  world = good';
}

-- with the reply that is seen in the last completion
pub call_ended : (w w' : WorldState) (client : ℕ) (ask : Ask) (reply : Reply) → MakesCall w client ask (Ok (last_reply w'.completions)) w' → ((before : List Entry) (entry : Entry) → w'.completions ≡ before ++ entry ∷ [] → reply ≡ entry.reply) → MakesCall w client ask (Ok reply) w'
call_ended w w' client ask reply made seen =
    let same : reply ≡ last_reply w'.completions = seen w.completions made.call.entry made.call.completions ∙ made.call.of_reply in
    subst (λ (r : Reply). MakesCall w client ask (Ok r) w') (sym same) made
