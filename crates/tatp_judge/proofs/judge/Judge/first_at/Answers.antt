use Rattle.std.proofs.Common.{◌≡◌, ◌∙◌, suc, sym, subst, vec_len, eqb-true, [], inr}
use Rattle.std.proofs.lemmas.Bool.{false≢true}
use Rattle.std.proofs.lemmas.Option.{same_Some}
use Rattle.tatp_judge.specs.declared.window.Window.{Window}
use Rattle.tatp_judge.specs.Searching.{IsSearchedFor}
use Rattle.tatp_judge.proofs.ClosingLaws.{none_left}
use Rattle.tatp_judge.proofs.LegalReplyLaws.{filled_events}
use Rattle.tatp_judge.proofs.PlaceLaws.{found_at}
use Rattle.tatp_judge.proofs.SearchingLaws.{searched_window, spent_here}
use Rattle.tatp_judge.proofs.StepLaws.{if_ok_weaker}
use Rattle.tatp_judge.proofs.judge.Judge.first_at.Goals as goal
use Rattle.tatp_judge.proofs.judge.Judge.first_at.Goals.{else-known-via-then-known+else-is_empty, else-known-via-else-known}

pub returns-then-is_empty : goal.returns-then-is_empty
returns-then-is_empty c = λ w at u most lines is now.
    let v = c.index-window.result.now in
    let there = found_at c.args.self.now.windows.items c.args.place v c.requires.inside c.index-window.ensures in
    let same : v ≡ w = same_Some v w (sym there ∙ at) in
    let none : v.events.items ≡ [] = none_left v.events.items (sym v.events.ok.0 ∙ eqb-true (vec_len v.events) 0 (sym c.is_empty.ensures ∙ c.if-is_empty.true)) in
    spent_here u most (suc c.args.place) lines c.args.known w c.args.self.now.number is c.if-known.true (subst (λ (x : Window). x.events.items ≡ []) same none) now

pub first_unexplained-requires : goal.first_unexplained-requires
first_unexplained-requires c =
    let v = c.index-window.result.now in
    let there = found_at c.args.self.now.windows.items c.args.place v c.requires.inside c.index-window.ensures in
    let q = c.requires.window v there in
    inr (
      q.0,
      q.1,
      suc c.args.place,
      q.2,
      searched_window q.0 q.1 (suc c.args.place) q.2 c.args.known v q.3 (elim c.else-known.branch [
        | else-known-via-then-known+else-is_empty w ↦ λ _ none. filled_events v.events.items w.is_empty.result (vec_len v.events) v.events.ok.0 w.is_empty.ensures w.if-is_empty.false none
        | else-known-via-else-known w ↦ λ e none. false≢true (sym w.if-known.false ∙ e)
      ]),
      q.4,
    )

pub returns : goal.returns
returns c = if_ok_weaker c.first_unexplained.result (λ first told. λ w at u most lines is now.
    let v = c.index-window.result.now in
    let there = found_at c.args.self.now.windows.items c.args.place v c.requires.inside c.index-window.ensures in
    let same : w ≡ v = same_Some w v (sym at ∙ there) in
    told u most (suc c.args.place) lines (searched_window u most (suc c.args.place) lines c.args.known v (subst (IsSearchedFor u most (suc c.args.place) lines c.args.known) same is) (elim c.else-known.branch [
      | else-known-via-then-known+else-is_empty w ↦ λ _ none. filled_events v.events.items w.is_empty.result (vec_len v.events) v.events.ok.0 w.is_empty.ensures w.if-is_empty.false none
      | else-known-via-else-known w ↦ λ e none. false≢true (sym w.if-known.false ∙ e)
    ])) now) c.first_unexplained.ensures.first
