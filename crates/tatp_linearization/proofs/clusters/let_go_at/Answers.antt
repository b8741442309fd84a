use Rattle.std.proofs.Common.{◌≡◌, Some, slice_get, subst, inl, inr, refl}
use Rattle.tatp_history.specs.declared.observed.Observed.{Observed}
use Rattle.tatp_linearization.specs.Clusters.{IsUnread}
use Rattle.tatp_linearization.proofs.PlaceLaws.{get_at, same_item}
use Rattle.tatp_linearization.proofs.UnseenLaws.{one_home}
use Rattle.tatp_linearization.proofs.ClusterLaws.{gone_to, gone_loses, go_same, loses_same}
use Rattle.tatp_linearization.proofs.clusters.let_go_at.Goals as goal

pub returns-in-Some-clause-gone : goal.returns-in-Some-clause-gone
returns-in-Some-clause-gone c =
    let u = c.args.home.now.tables in
    let opened = c.args.opened.now.items in
    let v = c.let_go_with.new.home.tables in
    let left = c.let_go_with.new.opened.items in
    let x : Observed = c.index.result.now in
    let at : slice_get c.args.opened.now.items c.args.place ≡ Some x = get_at _ _ _ c.requires.inside c.index.ensures in
    elim c.let_go_with.ensures [
      | inl k ↦ go_same c.args.home.now.tables c.let_go_with.new.home.tables c.args.opened.now.items c.let_go_with.new.opened.items k.0 k.1
      | inr k ↦
          let one : x ≡ k.0 = same_item c.args.opened.now.items c.args.place x k.0 at k.1.at in
          let unread : IsUnread c.args.ahead.now c.args.now k.0 c.in-Some.location = subst (λ (y : Observed). IsUnread c.args.ahead.now c.args.now y c.in-Some.location) one c.in-Some.ensures in
          gone_to u opened c.args.place c.in-Some.location k.0 v left k.1 unread.number unread.updates (one_home c.args.home.now c.what_holds_of_every_home.ensures)
    ]

pub returns-in-Some-clause-kept : goal.returns-in-Some-clause-kept
returns-in-Some-clause-kept c = λ apart.
    let u = c.args.home.now.tables in
    let opened = c.args.opened.now.items in
    let v = c.let_go_with.new.home.tables in
    let left = c.let_go_with.new.opened.items in
    let x : Observed = c.index.result.now in
    let at : slice_get c.args.opened.now.items c.args.place ≡ Some x = get_at _ _ _ c.requires.inside c.index.ensures in
    elim c.let_go_with.ensures [
      | inl k ↦ loses_same c.args.ahead.now c.args.now c.args.opened.now.items c.let_go_with.new.opened.items k.1
      | inr k ↦
          let one : x ≡ k.0 = same_item c.args.opened.now.items c.args.place x k.0 at k.1.at in
          let unread : IsUnread c.args.ahead.now c.args.now k.0 c.in-Some.location = subst (λ (y : Observed). IsUnread c.args.ahead.now c.args.now y c.in-Some.location) one c.in-Some.ensures in
          gone_loses c.args.ahead.now c.args.now u opened c.args.place c.in-Some.location k.0 v left k.1 unread apart
    ]

pub returns-in-None-clause-kept : goal.returns-in-None-clause-kept
returns-in-None-clause-kept c = λ apart. loses_same c.args.ahead.now c.args.now c.args.opened.now.items c.args.opened.now.items refl
