use Rattle.std.proofs.Common.{sym, ◌∙◌, ap}
use Rattle.tatp_history.specs.Cleared.{first_type}
use Rattle.tatp_linearization.proofs.SearchedCallLaws.{home_kept, home_put}
use Rattle.tatp_linearization.proofs.searched.cleared_home.Goals as goal

pub returns-in-Some-clause-from : goal.returns-in-Some-clause-from
returns-in-Some-clause-from c =
    let home = c.args.home.now in
    let found = sym (c.first_type.ensures ∙ ap (first_type home.tables.facilities) c.s_id-s_id.ensures) ∙ c.in-Some.is in
    home_put home c.what_holds_of_every_home.ensures c.copy-cleared.result c.copy-cleared.ensures c.s_id-s_id.result c.in-Some.first c.put.new.self.tables c.s_id-s_id.ensures found c.put.ensures.tables

pub returns-in-None-clause-from : goal.returns-in-None-clause-from
returns-in-None-clause-from c =
    let home = c.args.home.now in
    let none = sym (c.first_type.ensures ∙ ap (first_type home.tables.facilities) c.s_id-s_id.ensures) ∙ c.in-None.is in
    home_kept home c.what_holds_of_every_home.ensures c.copy-cleared.result c.copy-cleared.ensures none
