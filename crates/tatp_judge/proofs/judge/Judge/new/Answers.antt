use Rattle.std.proofs.Common.{refl, ◌∙◌, sym, ap, subst, length, arith, inl}
use Rattle.tatp_tables.specs.Database.{database_of}
use Rattle.tatp_procs.proofs.ConsistentLaws.{IsConsistent-clean}
use Rattle.tatp_judge.specs.Population.{IsDirectoryOf}
use Rattle.tatp_judge.specs.Searched.{AreHomesOf}
use Rattle.tatp_judge.proofs.AsideLaws.{none_aside}
use Rattle.tatp_judge.proofs.PopulationLaws.{rows_of_clean}
use Rattle.tatp_judge.proofs.judge.Judge.new.Goals as goal

pub returns-clause-followed : goal.returns-clause-followed
returns-clause-followed c =
    let u = database_of c.args.rows.now in
    let rows = rows_of_clean c.args.rows.now c.in_ok-homes.homes.items c.in_ok-directory.directory (IsConsistent-clean c.args.rows.now c.requires) c.in_ok-homes.ensures c.in_ok-directory.ensures.count c.in_ok-directory.ensures.homes in
    let same = c.as_slice.ensures.value in
    record {
      noted = record {
        read = record {
          consistent = rows.consistent;
          directory_is = subst (λ n. IsDirectoryOf u n c.in_ok-directory.directory) (sym (c.in_ok-windows.ensures.count ∙ ap length same)) rows.directory_is;
          number_is = refl;
          accepted = tt;
          room = omega arith;
          exact_are = λ place w h none. c.in_ok-windows.ensures.exact place w h;
        };
        asked_are = c.none_asked.ensures;
        windows_are = λ place w h. inl (c.in_ok-windows.ensures.kept place w h, c.in_ok-windows.ensures.windows u (subst (AreHomesOf u) (sym same) rows.homes_are) place w h);
        aside = none_aside u c.args.most _ c.new.ensures.items c.in_ok-windows.ensures.kept;
      };
      forgets = λ place w h other unmarked none. c.in_ok-windows.ensures.none place w h;
      none = tt;
    }
