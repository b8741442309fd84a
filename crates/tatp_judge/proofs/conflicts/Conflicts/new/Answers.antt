use Rattle.std.proofs.Common.{◌≡◌, length, replicate, subst, refl, arith}
use Rattle.tatp_judge.specs.Population.{IsDirectoryOf}
use Rattle.tatp_judge.proofs.ConflictLaws.{none_conflict}
use Rattle.tatp_judge.proofs.conflicts.Conflicts.new.Goals as goal

pub returns : goal.returns
returns c = λ u most is.
    let n = c.len.result in
    let windows = c.args.judge.now.windows in
    let same : length windows.items ≡ n = omega (arith, c.len.ensures, windows.ok.0) in
    let items : c.in_ok-vec.field-0.items ≡ replicate n 0 = c.in_ok-vec.ensures.items_if_clones_equal (λ y e. e) in
    none_conflict u c.args.judge.now.directory n (record { writing = c.in_ok-vec.field-0; conflicted = 0 }) (subst (λ k. IsDirectoryOf u k c.args.judge.now.directory) same is.noted.read.directory_is) items refl
