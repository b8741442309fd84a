use Rattle.std.proofs.Common.{◌≡◌, max, length, map, ap, sym, ◌∙◌}
use Rattle.tatp_tables.specs.Database.{database_of}
use Rattle.tatp_homes.specs.Loading.{lists_in}
use Rattle.tatp_homes.proofs.ListLaws.{last_of_one, none_of_one}
use Rattle.tatp_homes.proofs.home.loading.homes.Goals as goal

pub returns-in-Some : goal.returns-in-Some
returns-in-Some c =
    let all = c.max-all.ensures ∙ ap (λ n. max n 1) c.len.ensures in
    let lists = c.in_ok-homes_in_lists.ensures ∙ ap (λ size. lists_in (database_of c.args.rows.now) size (length c.args.rows.now.subscribers)) all in
    last_of_one _ c.pop.new.self.items c.in-Some.homes (database_of c.args.rows.now) _ (ap (map (λ list. list.items)) (sym c.in-Some.ensures.items) ∙ lists)

pub returns : goal.returns
returns c =
    let all = c.max-all.ensures ∙ ap (λ n. max n 1) c.len.ensures in
    let lists = c.in_ok-homes_in_lists.ensures ∙ ap (λ size. lists_in (database_of c.args.rows.now) size (length c.args.rows.now.subscribers)) all in
    let none : length c.in_ok-homes_in_lists.field-0.items ≡ 0 = sym c.in_ok-homes_in_lists.field-0.ok.0 ∙ c.in-None.ensures.cases.0 in
    c.new.ensures.items ∙ none_of_one _ c.in_ok-homes_in_lists.field-0.items (database_of c.args.rows.now) _ none lists
