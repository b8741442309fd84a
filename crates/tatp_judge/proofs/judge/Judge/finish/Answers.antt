use Rattle.std.proofs.Common.{false, None}
use Rattle.std.proofs.lemmas.Result.{on_ok_weaker}
use Rattle.tatp_judge.proofs.FollowedLaws.{followed_searchable, followed_still}
use Rattle.tatp_judge.proofs.StepLaws.{if_ok_weaker, on_ok_both}
use Rattle.tatp_judge.proofs.judge.Judge.finish.Goals as goal

pub search-requires : goal.search-requires
search-requires c = let q = c.requires in (q.0, q.1, q.2, followed_searchable q.0 q.1 q.2 c.args.self.now q.3)

pub returns-clause-verdict : goal.returns-clause-verdict
returns-clause-verdict c = if_ok_weaker c.search.result (λ verdict h. λ u most lines is. h u most lines (followed_searchable u most lines c.args.self.now is)) c.search.ensures.said

pub returns-clause-kept : goal.returns-clause-kept
returns-clause-kept c = on_ok_weaker c.search.result (λ h. λ u most lines is. record { most = most; illegal = false; s_id = None; searchable = h u most lines (followed_searchable u most lines c.args.self.now is) }) c.search.ensures.searchable

pub returns-clause-followed : goal.returns-clause-followed
returns-clause-followed c = on_ok_both c.search.result (λ h windows. λ u most lines is. followed_still u most lines c.args.self.now c.search.new.self is windows (h u most lines (followed_searchable u most lines c.args.self.now is))) c.search.ensures.searchable c.search.ensures.windows
