use Rattle.tatp_partition.proofs.FinishLaws.{finished_alone, finished_on_home}
use Rattle.tatp_partition.proofs.runner.Runner.finish.Goals as goal

pub returns-in-None : goal.returns-in-None
returns-in-None c =
    let a = c.self.inside in
    rw (← c.self.view_is) (finished_alone a.item a.machine c.finish_alone.new.machine a.pinned c.finish_alone.result c.in-None.is (rw (← c.self.view_is) at c.requires) c.finish_alone.ensures)

pub returns-in-Some : goal.returns-in-Some
returns-in-Some c =
    let a = c.self.inside in
    rw (← c.self.view_is) (finished_on_home a.item a.machine c.finish_on_home.new.machine a.pinned c.in-Some.pinned c.home_mut.result.now c.finish_on_home.new.home c.finish_on_home.result c.in-Some.is (rw (← c.self.view_is) at c.requires) c.home_mut.ensures.value c.finish_on_home.ensures)
