use Rattle.std.proofs.Common.{◌≡◌, ◌+◌, ◌++◌, List, All, length, take, drop, sym, ap, ◌∙◌, subst}
use Rattle.tatp_sync.specs.Inboxes.{End, IsNew}
use Rattle.tatp_threads.specs.declared.request.InboxMessage.{InboxMessage}
use Rattle.tatp_threads.specs.Seats.{AreExecutors, AreClients}
use Rattle.tatp_threads.proofs.SeatLaws.{written_back}
use Rattle.tatp_threads.proofs.reserved.Reserved.make.Given as given
use Rattle.tatp_threads.proofs.reserved.Reserved.make.Goals as goal

-- the ends by which inboxes get Quit are as they were opened once the executors have seats
after_executors : (g : given.Over) (c : goal.In_ok-new-4 g) → c.as_mut_slice-2.result.now ≡ c.in_ok-quit.quit.items
after_executors g c =
    c.as_mut_slice-2.ensures.value
    ∙ written_back c.in_ok-quit.quit.len c.in_ok-quit.quit.items c.seat_executors.new.ports c.in_ok-quit.quit.ok.0 (c.seat_executors.ensures.same ∙ c.as_mut_slice.ensures.value)

-- and once the clients have seats
after_clients : (g : given.Over) (c : goal.In_ok-new-4 g) (items : List (End InboxMessage)) → c.as_mut_slice-2.result.now ≡ items
    → take c.in_ok-quit.quit.len (c.seat_clients.new.ports ++ drop (length c.seat_clients.new.ports) items) ≡ c.in_ok-quit.quit.items
after_clients g c items is =
    let same : items ≡ c.in_ok-quit.quit.items = sym is ∙ after_executors g c in
    written_back c.in_ok-quit.quit.len items c.seat_clients.new.ports (c.in_ok-quit.quit.ok.0 ∙ ap length (sym same)) (c.seat_clients.ensures.same ∙ is) ∙ same

pub returns-clause-inboxes : goal.returns-clause-inboxes
returns-clause-inboxes g c =
    subst (All (IsNew (length c.args.lists.now + 1))) (sym (after_clients g c _ c.as_mut_slice-2.ensures.value)) c.in_ok-quit.ensures.new

pub returns-clause-executors : goal.returns-clause-executors
returns-clause-executors g c =
    subst (λ inboxes. AreExecutors inboxes c.in_ok-executors.executors.items) (c.as_mut_slice.ensures.value ∙ sym (after_clients g c _ c.as_mut_slice-2.ensures.value)) c.in_ok-executors.ensures.seats

pub returns-clause-clients : goal.returns-clause-clients
returns-clause-clients g c =
    subst (λ inboxes. AreClients c.args.lists.now inboxes c.in_ok-clients.clients.items) (after_executors g c ∙ sym (after_clients g c _ c.as_mut_slice-2.ensures.value)) c.in_ok-clients.ensures.seats
