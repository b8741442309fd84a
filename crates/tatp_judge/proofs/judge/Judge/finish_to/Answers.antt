use Rattle.std.proofs.Common.{◌≡◌, ◌+◌, ◌<◌, ◌∙◌, sym, ap, subst, refl, ℕ, suc, List, length, slice_get, Some, true, arith}
use Rattle.std.specs.Vec.{with_item}
use Rattle.std.proofs.lemmas.Bool.{false≢true}
use Rattle.tatp_tables.specs.Database.{Database, database_of, of_subscriber}
use Rattle.tatp_homes.specs.Home.{SubscriberRows}
use Rattle.tatp_history.specs.declared.line.Line.{Line}
use Rattle.tatp_linearization.specs.declared.explanations.Standing.{Standing}
use Rattle.tatp_linearization.specs.declared.explanations.Standing.TheVariants.{Explained, Unexplained, Undecided}
use Rattle.tatp_judge.specs.declared.judge.Judge.{Judge}
use Rattle.tatp_judge.specs.declared.window.Window.{Window}
use Rattle.tatp_judge.specs.Aside.{AddsAside}
use Rattle.tatp_judge.specs.Leaving.{SaysLeft}
use Rattle.tatp_judge.specs.Parts.{is_of_part}
use Rattle.tatp_judge.specs.Searched.{AreHomesOf}
use Rattle.tatp_judge.specs.Windows.{IsWindowAfter}
use Rattle.tatp_judge.proofs.AsideLaws.{adds_none, adds_one, adds_same}
use Rattle.tatp_judge.proofs.FinishingLaws.{LeavesSoFar, all_reached, aside_there, exact_there, fewer_at_end, more_at_end, none_left_yet, not_reached, not_yet_aside, one_aside_more, one_left_more, one_passed_over, still_legal, window_there}
use Rattle.tatp_judge.proofs.PlaceLaws.{found_at, same_at}
use Rattle.tatp_judge.proofs.PopulationLaws.{homes_of_all}
use Rattle.tatp_judge.proofs.SearchLaws.{home_at, home_own}
use Rattle.tatp_judge.proofs.judge.Judge.finish_to.Goals as goal
use Rattle.tatp_judge.proofs.judge.Judge.finish_to.Goals.{then-has+else-i-len+then-not-index+else-i-len-2+in_ok-leads_to+in-Explained, then-has+else-i-len+then-not-index+else-i-len-2+in_ok-leads_to+in-Undecided+in_ok-set_aside-in-Undecided, then-has+else-i-len+else-not-index, else-has}

pub homes-init : goal.homes-init
homes-init c = (adds_none c.args.self.now, refl, λ u most lines is. none_left_yet u most c.args.part.now lines (database_of c.args.rows.now) c.args.self.now is)

pub returns-then-i-len-clause-verdict : goal.returns-then-i-len-clause-verdict
returns-then-i-len-clause-verdict c = λ u most lines is.
    let r = c.args.rows.now in
    let part = c.args.part.now in
    let homes = c.in_ok-homes.homes in
    let ws = c.homes.self.windows in
    let i = c.homes.i in
    let all = homes_of_all (database_of r) (length r.subscribers) homes.items c.in_ok-homes.ensures in
    let next : i + 1 ≡ suc i = omega arith in
    let own : is_of_part part (Some (suc i)) ≡ true = ap (λ s. is_of_part part (Some s)) (sym next) ∙ (sym c.has.ensures ∙ c.if-has.true) in
    let so_far = c.homes.invariant.2 u most lines is in
    more_at_end u most part lines r i c.args.self.now c.homes.self is c.requires.clean so_far own
    (omega (arith, c.homes-test.true, c.max-count.ensures, c.len.ensures, c.len-2.ensures, c.if-i-len.true, c.len-then-has.ensures, homes.ok.0, ws.ok.0, all.0, so_far.count, c.args.self.now.windows.ok.0)) (omega (arith, c.if-i-len.true, c.len-then-has.ensures, ws.ok.0))

pub returns-then-i-len-clause-aside : goal.returns-then-i-len-clause-aside
returns-then-i-len-clause-aside c = λ u most lines is. (c.homes.invariant.2 u most lines is).undecided

pub returns-then-i-len-2-clause-verdict : goal.returns-then-i-len-2-clause-verdict
returns-then-i-len-2-clause-verdict c = λ u most lines is.
    let r = c.args.rows.now in
    let part = c.args.part.now in
    let homes = c.in_ok-homes.homes in
    let ws = c.homes.self.windows in
    let i = c.homes.i in
    let all = homes_of_all (database_of r) (length r.subscribers) homes.items c.in_ok-homes.ensures in
    let next : i + 1 ≡ suc i = omega arith in
    let own : is_of_part part (Some (suc i)) ≡ true = ap (λ s. is_of_part part (Some s)) (sym next) ∙ (sym c.has.ensures ∙ c.if-has.true) in
    let so_far = c.homes.invariant.2 u most lines is in
    let within : i < length ws.items = omega (arith, c.if-i-len.false, c.len-then-has.ensures, ws.ok.0) in
    let other = not_yet_aside u most part lines (database_of r) i c.args.self.now c.homes.self c.index.result.now is so_far within c.index.ensures c.if-not-index.true in
    fewer_at_end u most part lines r i c.args.self.now c.homes.self is c.requires.clean so_far own other
    (omega (arith, c.if-i-len-2.true, c.len-then-not-index.ensures, homes.ok.0, all.0)) within

pub returns-then-i-len-2-clause-aside : goal.returns-then-i-len-2-clause-aside
returns-then-i-len-2-clause-aside c = λ u most lines is. (c.homes.invariant.2 u most lines is).undecided

-- what is said of the rows at the end of the subscriber at a place
here : (u : Database) (most : ℕ) (lines : List Line) (after : Database) (homes : List SubscriberRows) (i : ℕ) (home : SubscriberRows) (standing : Standing) → AreHomesOf after homes → i < length homes → slice_get homes i ≡ Some home → SaysLeft u most home.s_id lines home.tables standing
    → SaysLeft u most (suc i) lines (of_subscriber after (suc i)) standing
here u most lines after homes i home standing are lt there h =
    subst (λ s. SaysLeft u most s lines (of_subscriber after (suc i)) standing) (home_own after homes i home are there) (subst (λ rows. SaysLeft u most home.s_id lines rows standing) (home_at after homes i home are there) h)

pub leads_to-requires-clause-window : goal.leads_to-requires-clause-window
leads_to-requires-clause-window c =
    let q = c.requires.followed in
    let u = q.0 in
    let most = q.1 in
    let lines = q.2 in
    let is = q.3 in
    let r = c.args.rows.now in
    let homes = c.in_ok-homes.homes in
    let ws = c.homes.self.windows in
    let i = c.homes.i in
    let all = homes_of_all (database_of r) (length r.subscribers) homes.items c.in_ok-homes.ensures in
    let home = c.index-then-not-index.result.now in
    let lt : i < length homes.items = omega (arith, c.if-i-len-2.false, c.len-then-not-index.ensures, homes.ok.0) in
    let there = found_at homes.items i home lt c.index-then-not-index.ensures in
    let within : i < length ws.items = omega (arith, c.if-i-len.false, c.len-then-has.ensures, ws.ok.0) in
    let so_far = c.homes.invariant.2 u most lines is in
    let same = same_at ws.items i c.index.result.now c.index_mut.result.now within c.index.ensures c.index_mut.ensures.value in
    let window = window_there u most c.args.part.now lines (database_of r) i c.args.self.now c.homes.self c.index_mut.result.now is so_far within c.index_mut.ensures.value (ap (λ (w : Window). w.aside) (sym same) ∙ c.if-not-index.true) in
    (u, most, lines, subst (λ s. IsWindowAfter u most s lines c.index_mut.result.now) (sym (home_own (database_of r) homes.items i home all.1 there)) window)

pub leads_to-requires-clause-exact : goal.leads_to-requires-clause-exact
leads_to-requires-clause-exact c =
    let q = c.requires.followed in
    let ws = c.homes.self.windows in
    let i = c.homes.i in
    let within : i < length ws.items = omega (arith, c.if-i-len.false, c.len-then-has.ensures, ws.ok.0) in
    let same = same_at ws.items i c.index.result.now c.index_mut.result.now within c.index.ensures c.index_mut.ensures.value in
    exact_there q.0 q.1 c.args.part.now q.2 (database_of c.args.rows.now) i c.args.self.now c.homes.self c.index_mut.result.now q.3 (c.homes.invariant.2 q.0 q.1 q.2 q.3) within c.index_mut.ensures.value (ap (λ (v : Window). v.aside) (sym same) ∙ c.if-not-index.true)
    ∙ c.requires.exact

pub returns-in-Unexplained-clause-verdict : goal.returns-in-Unexplained-clause-verdict
returns-in-Unexplained-clause-verdict c = λ u most lines is.
    let r = c.args.rows.now in
    let part = c.args.part.now in
    let homes = c.in_ok-homes.homes in
    let ws = c.homes.self.windows in
    let i = c.homes.i in
    let all = homes_of_all (database_of r) (length r.subscribers) homes.items c.in_ok-homes.ensures in
    let next : i + 1 ≡ suc i = omega arith in
    let own : is_of_part part (Some (suc i)) ≡ true = ap (λ s. is_of_part part (Some s)) (sym next) ∙ (sym c.has.ensures ∙ c.if-has.true) in
    let home = c.index-then-not-index.result.now in
    let lt : i < length homes.items = omega (arith, c.if-i-len-2.false, c.len-then-not-index.ensures, homes.ok.0) in
    let there = found_at homes.items i home lt c.index-then-not-index.ensures in
    let within : i < length ws.items = omega (arith, c.if-i-len.false, c.len-then-has.ensures, ws.ok.0) in
    let so_far = c.homes.invariant.2 u most lines is in
    let same = same_at ws.items i c.index.result.now c.index_mut.result.now within c.index.ensures c.index_mut.ensures.value in
    let window = window_there u most part lines (database_of r) i c.args.self.now c.homes.self c.index_mut.result.now is so_far within c.index_mut.ensures.value (ap (λ (w : Window). w.aside) (sym same) ∙ c.if-not-index.true) in
    let said = c.in_ok-leads_to.ensures u most lines (subst (λ s. IsWindowAfter u most s lines c.index_mut.result.now) (sym (home_own (database_of r) homes.items i home all.1 there)) window) in
    let other = not_yet_aside u most part lines (database_of r) i c.args.self.now c.homes.self c.index.result.now is so_far within c.index.ensures c.if-not-index.true in
    not_reached u most part lines (database_of r) i c.args.self.now c.homes.self so_far own other
    (here u most lines (database_of r) homes.items i home Unexplained all.1 lt there (subst (SaysLeft u most home.s_id lines home.tables) c.in-Unexplained.is said))

pub returns-in-Unexplained-clause-aside : goal.returns-in-Unexplained-clause-aside
returns-in-Unexplained-clause-aside c = λ u most lines is. (c.homes.invariant.2 u most lines is).undecided

pub homes-preserved : goal.homes-preserved
homes-preserved c =
    let r = c.args.rows.now in
    let part = c.args.part.now in
    let homes = c.in_ok-homes.homes in
    let ws = c.homes.self.windows in
    let i = c.homes.i in
    let next : i + 1 ≡ suc i = omega arith in
    let all = homes_of_all (database_of r) (length r.subscribers) homes.items c.in_ok-homes.ensures in
    let old = c.args.self.now in
    let now = c.homes.self in
    elim c.if-has.branch [
      | then-has+else-i-len+then-not-index+else-i-len-2+in_ok-leads_to+in-Explained w ↦
          let home = w.index-then-not-index.result.now in
          let lt : i < length homes.items = omega (arith, w.if-i-len-2.false, w.len-then-not-index.ensures, homes.ok.0) in
          let there = found_at homes.items i home lt w.index-then-not-index.ensures in
          let within : i < length ws.items = omega (arith, w.if-i-len.false, w.len-then-has.ensures, ws.ok.0) in
          let same = same_at ws.items i w.index.result.now w.index_mut.result.now within w.index.ensures w.index_mut.ensures.value in (
            subst (λ (judge : Judge). AddsAside old judge) (sym w.self-is) (adds_same old now _ refl c.homes.invariant.0),
            subst (λ (judge : Judge). judge.number ≡ old.number) (sym w.self-is) c.homes.invariant.1,
            λ u most lines is.
                let so_far = c.homes.invariant.2 u most lines is in
                let window = window_there u most part lines (database_of r) i old now w.index_mut.result.now is so_far within w.index_mut.ensures.value (ap (λ (v : Window). v.aside) (sym same) ∙ w.if-not-index.true) in
                let said = w.in_ok-leads_to.ensures u most lines (subst (λ s. IsWindowAfter u most s lines w.index_mut.result.now) (sym (home_own (database_of r) homes.items i home all.1 there)) window) in
                subst (λ (judge : Judge). LeavesSoFar u most part lines (database_of r) (i + 1) old judge) (sym w.self-is)
                (one_left_more u most part lines (database_of r) i old now _ w.leads_to.new.self so_far refl refl refl
                (here u most lines (database_of r) homes.items i home Explained all.1 lt there (subst (SaysLeft u most home.s_id lines home.tables) w.in-Explained.is said))),
          )
      | then-has+else-i-len+then-not-index+else-i-len-2+in_ok-leads_to+in-Undecided+in_ok-set_aside-in-Undecided w ↦
          let home = w.index-then-not-index.result.now in
          let lt : i < length homes.items = omega (arith, w.if-i-len-2.false, w.len-then-not-index.ensures, homes.ok.0) in
          let there = found_at homes.items i home lt w.index-then-not-index.ensures in
          let within : i < length ws.items = omega (arith, w.if-i-len.false, w.len-then-has.ensures, ws.ok.0) in
          let same = same_at ws.items i w.index.result.now w.index_mut.result.now within w.index.ensures w.index_mut.ensures.value in
          let then = w.in_ok-set_aside-in-Undecided.ensures in
          let new = w.set_aside.new.self in
          let mid : Judge = record { directory = now.directory; windows = with_item now.windows i w.leads_to.new.self; asked = now.asked; number = now.number; undecided = now.undecided; exact = now.exact } in (
            subst (λ (judge : Judge). AddsAside old judge) (sym w.self-is) (adds_one old now new (i + 1) c.homes.invariant.0 c.homes.invariant.1 then.undecided),
            subst (λ (judge : Judge). judge.number ≡ old.number) (sym w.self-is) (then.number ∙ c.homes.invariant.1),
            λ u most lines is.
                let so_far = c.homes.invariant.2 u most lines is in
                let window = window_there u most part lines (database_of r) i old now w.index_mut.result.now is so_far within w.index_mut.ensures.value (ap (λ (v : Window). v.aside) (sym same) ∙ w.if-not-index.true) in
                let said = w.in_ok-leads_to.ensures u most lines (subst (λ s. IsWindowAfter u most s lines w.index_mut.result.now) (sym (home_own (database_of r) homes.items i home all.1 there)) window) in
                let other = not_yet_aside u most part lines (database_of r) i old now w.index.result.now is so_far within w.index.ensures w.if-not-index.true in
                subst (λ (judge : Judge). LeavesSoFar u most part lines (database_of r) (i + 1) old judge) (sym w.self-is)
                (one_aside_more u most part lines (database_of r) i old now mid new w.leads_to.new.self is so_far refl refl refl then.number then.undecided then.windows
                (here u most lines (database_of r) homes.items i home Undecided all.1 lt there (subst (SaysLeft u most home.s_id lines home.tables) w.in-Undecided.is said)) other),
          )
      | then-has+else-i-len+else-not-index w ↦
          let within : i < length ws.items = omega (arith, w.if-i-len.false, w.len-then-has.ensures, ws.ok.0) in (
            subst (λ (judge : Judge). AddsAside old judge) (sym w.self-is) c.homes.invariant.0,
            subst (λ (judge : Judge). judge.number ≡ old.number) (sym w.self-is) c.homes.invariant.1,
            λ u most lines is.
                let so_far = c.homes.invariant.2 u most lines is in
                subst (λ (judge : Judge). LeavesSoFar u most part lines (database_of r) (i + 1) old judge) (sym w.self-is)
                (one_passed_over u most part lines (database_of r) i old now so_far (λ _ apart. absurd (apart (aside_there u most part lines (database_of r) i old now w.index.result.now is so_far within w.index.ensures w.if-not-index.false)))),
          )
      | else-has w ↦ (
        subst (λ (judge : Judge). AddsAside old judge) (sym w.self-is) c.homes.invariant.0,
        subst (λ (judge : Judge). judge.number ≡ old.number) (sym w.self-is) c.homes.invariant.1,
        λ u most lines is.
            let so_far = c.homes.invariant.2 u most lines is in
            subst (λ (judge : Judge). LeavesSoFar u most part lines (database_of r) (i + 1) old judge) (sym w.self-is)
            (one_passed_over u most part lines (database_of r) i old now so_far (λ own _. absurd (false≢true (sym (ap (λ s. is_of_part part (Some s)) (sym next) ∙ (sym c.has.ensures ∙ w.if-has.false)) ∙ own)))),
      )
    ]

pub returns-clause-verdict : goal.returns-clause-verdict
returns-clause-verdict c = λ u most lines is.
    let r = c.args.rows.now in
    let part = c.args.part.now in
    let homes = c.in_ok-homes.homes in
    let ws = c.homes.self.windows in
    let i = c.homes.i in
    let all = homes_of_all (database_of r) (length r.subscribers) homes.items c.in_ok-homes.ensures in
    let so_far = c.homes.invariant.2 u most lines is in
    all_reached u most part lines r i c.args.self.now c.homes.self is c.requires.clean so_far
    (omega (arith, c.homes-test.false, c.homes.auto.i-end, c.max-count.ensures, c.len.ensures, c.len-2.ensures, homes.ok.0, all.0)) (omega (arith, c.homes-test.false, c.homes.auto.i-end, c.max-count.ensures, c.len.ensures, c.len-2.ensures, so_far.count, ws.ok.0, c.args.self.now.windows.ok.0))

pub returns-clause-aside : goal.returns-clause-aside
returns-clause-aside c = λ u most lines is. (c.homes.invariant.2 u most lines is).undecided

pub returns-then-i-len-clause-legal : goal.returns-then-i-len-clause-legal
returns-then-i-len-clause-legal c = λ u most lines is. still_legal u most c.args.part.now lines (database_of c.args.rows.now) c.homes.i c.args.self.now c.homes.self is (c.homes.invariant.2 u most lines is)

pub returns-then-i-len-2-clause-legal : goal.returns-then-i-len-2-clause-legal
returns-then-i-len-2-clause-legal c = λ u most lines is. still_legal u most c.args.part.now lines (database_of c.args.rows.now) c.homes.i c.args.self.now c.homes.self is (c.homes.invariant.2 u most lines is)

pub returns-in-Unexplained-clause-legal : goal.returns-in-Unexplained-clause-legal
returns-in-Unexplained-clause-legal c = λ u most lines is. still_legal u most c.args.part.now lines (database_of c.args.rows.now) c.homes.i c.args.self.now c.homes.self is (c.homes.invariant.2 u most lines is)

pub returns-clause-legal : goal.returns-clause-legal
returns-clause-legal c = λ u most lines is. still_legal u most c.args.part.now lines (database_of c.args.rows.now) c.homes.i c.args.self.now c.homes.self is (c.homes.invariant.2 u most lines is)
