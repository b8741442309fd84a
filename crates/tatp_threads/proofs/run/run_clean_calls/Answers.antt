use Rattle.std.proofs.Common.{◌≡◌, ◌≤◌, ◌<◌, ◌^◌, ◌++◌, List, length, take, drop, Vec, Global, sym, ap, ◌∙◌, subst, arith, rules}
use Rattle.std.proofs.lemmas.List.{append-nil, drop_all, take_all}
use Rattle.tatp_tables.specs.Database.{database_of}
use Rattle.tatp_extents.specs.Extents.{ExtentState}
use Rattle.tatp_extents.specs.Opening.{opened_extents}
use Rattle.tatp_extents.proofs.OpeningLaws.{few_extents}
use Rattle.tatp_partition.specs.Opening.{AreNumbered}
use Rattle.tatp_partition.proofs.NumberLaws.{opened_are_numbered}
use Rattle.tatp_threads.proofs.run.run_clean_calls.Goals as goal

-- extents that got room for their logs are the same
same_extents : (extents : Vec ExtentState Global) (lent : List ExtentState) → lent ≡ extents.items → take extents.len (lent ++ drop (length lent) extents.items) ≡ extents.items
same_extents extents lent is =
    (λ i. take extents.len (is i ++ drop (length (is i)) extents.items))
    ∙ (ap (λ rest. take extents.len (extents.items ++ rest)) (drop_all (length extents.items) extents.items (omega arith))
    ∙ (ap (take extents.len) (append-nil extents.items) ∙ take_all extents.len extents.items (omega (arith, extents.ok.0))))

pub open_sites-requires-clause-few : goal.open_sites-requires-clause-few
open_sites-requires-clause-few g c =
    subst (λ (extents : List ExtentState). length extents < 2 ^ 32) (sym (same_extents c.in_ok-extents.extents c.reserve_logs.new.extents (c.reserve_logs.ensures ∙ c.as_mut_slice.ensures.value)))
    (few_extents (database_of c.args.rows) (length c.args.rows.subscribers) c.in_ok-extents.extents.items (search rules) c.requires.rows.0)

pub open_sites-requires-clause-numbers : goal.open_sites-requires-clause-numbers
open_sites-requires-clause-numbers g c =
    let u = database_of c.args.rows in
    let n = length c.args.rows.subscribers in
    let is : c.in_ok-extents.extents.items ≡ opened_extents u n = search rules in
    subst (λ (extents : List ExtentState). AreNumbered (length extents) extents) (sym (same_extents c.in_ok-extents.extents c.reserve_logs.new.extents (c.reserve_logs.ensures ∙ c.as_mut_slice.ensures.value) ∙ is)) (opened_are_numbered u n)
