use Rattle.tatp_partition.proofs.TurnLaws.{turned_alone, turned_on_home}
use Rattle.tatp_partition.proofs.runner.Runner.step.Goals as goal

pub returns-in-None : goal.returns-in-None
returns-in-None c =
    let e = c.step_homeless.ensures in
    let a = c.self.inside in
    rw (← c.self.view_is) (turned_alone a.item a.machine c.step_homeless.new.self a.pinned c.step_homeless.result c.in-None.is (rw (← c.self.view_is) at c.requires) (record { step = e.step; running = e.running; ended = e.ended }))

pub returns-in-Some : goal.returns-in-Some
returns-in-Some c =
    let e = c.step.ensures in
    let a = c.self.inside in
    rw (← c.self.view_is) (turned_on_home a.item a.machine c.step.new.self a.pinned c.in-Some.pinned c.home_mut.result.now c.step.new.home c.step.result c.in-Some.is (rw (← c.self.view_is) at c.requires) c.home_mut.ensures.value
    (record { step = e.step; running = e.running; ended = e.ended; entry = e.entry; same = e.same; home = e.home }))
