use Rattle.std.proofs.Common.{◌≡◌, length, replicate, false, sym, subst, refl, arith, []}
use Rattle.tatp_judge.specs.Counted.{AreMarked}
use Rattle.tatp_judge.specs.Population.{IsDirectoryOf}
use Rattle.tatp_judge.proofs.CountedLaws.{none_marked, none_called, none_meet, none_wide}
use Rattle.tatp_judge.proofs.stakes.Counts.new.Goals as goal

pub returns : goal.returns
returns c = λ u most is.
    let n = c.len.result in
    let windows = c.args.judge.now.windows in
    let same : length windows.items ≡ n = omega (arith, c.len.ensures, windows.ok.0) in
    let items : c.in_ok-vec.field-0.items ≡ replicate n false = c.in_ok-vec.ensures.items_if_clones_equal (λ y e. e) in
    record {
      calls = record {
        asked_is = refl;
        answered_is = refl;
        aborted_is = refl;
        marks = subst (AreMarked u []) (sym items) (none_marked u c.args.judge.now.directory n (subst (λ k. IsDirectoryOf u k c.args.judge.now.directory) same is.noted.read.directory_is));
        subscribers_is = none_called u;
        subscribers_few = omega arith;
        overlapped_is = none_meet u;
        overlapped_few = omega arith;
        widest_is = none_wide u;
        widest_few = omega arith;
      };
      conflicts = c.in_ok-new.ensures u most is;
    }
