use Rattle.std.proofs.Common.{◌≡◌, ◌-◌, ◌∙◌, ap, sym, subst, true, false, Bool, ℕ, slice_get, Some, refl, arith}
use Rattle.std.proofs.lemmas.Option.{same_Some}
use Rattle.tatp_judge.specs.declared.judge.Judge.{Judge}
use Rattle.tatp_judge.specs.declared.window.Window.{Window}
use Rattle.tatp_judge.specs.Steps.{AreEach, ClosesAt}
use Rattle.tatp_judge.specs.Verdicts.{IsVerdictOn}
use Rattle.tatp_judge.proofs.FollowedLaws.{goes_on, goes_on_without, passed_over, searched_on, unexplained, window_of}
use Rattle.tatp_judge.proofs.JudgeLaws.{said_stays}
use Rattle.tatp_judge.proofs.PlaceLaws.{found_at}
use Rattle.tatp_judge.proofs.judge.Judge.close_on.Goals as goal

-- the mark of the window
marked : (judge : Judge) (s_id : ℕ) (v : Window) (b : Bool) → slice_get judge.windows.items (s_id - 1) ≡ Some v → v.aside ≡ b → (w : Window) → slice_get judge.windows.items (s_id - 1) ≡ Some w → w.aside ≡ b
marked judge s_id v b there is w at = ap (λ (x : Window). x.aside) (same_Some w v (sym at ∙ there)) ∙ is

pub returns-then-index-clause-followed : goal.returns-then-index-clause-followed
returns-then-index-clause-followed c = λ _ u most lines noted ends.
    let self = c.args.self.now in
    let s_id = c.args.s_id in
    let v = c.index.result.now in
    let there = found_at self.windows.items (s_id - 1) v (omega (arith, c.requires.within.0, c.requires.within.1)) c.index.ensures in
    passed_over u most lines s_id self noted ends c.requires.forgets (marked self s_id v true there c.if-index.true)

pub close_in-requires-clause-window : goal.close_in-requires-clause-window
close_in-requires-clause-window c = λ w at.
    let q = c.requires.noted in
    let self = c.args.self.now in
    let s_id = c.args.s_id in
    let v = c.index.result.now in
    let there = found_at self.windows.items (s_id - 1) v (omega (arith, c.requires.within.0, c.requires.within.1)) c.index.ensures in
    (q.0, q.1, q.2, window_of q.0 q.1 q.2 s_id self q.3 q.4 c.requires.within.0 (marked self s_id v false there c.if-index.false) w at)

pub search-requires : goal.search-requires
search-requires c =
    let q = c.requires.noted in
    let self = c.args.self.now in
    let s_id = c.args.s_id in
    let v = c.index.result.now in
    let there = found_at self.windows.items (s_id - 1) v (omega (arith, c.requires.within.0, c.requires.within.1)) c.index.ensures in
    let mid : Judge = record { directory = self.directory; windows = c.close_in.new.windows; asked = self.asked; number = self.number; undecided = self.undecided; exact = self.exact } in
    let closes = subst (λ standing. AreEach (ClosesAt s_id self.number standing) self.windows.items c.close_in.new.windows.items) c.in-Unexplained.is c.in_ok-close_in.ensures in
    (q.0, q.1, q.2, unexplained q.0 q.1 q.2 s_id self q.3 q.4 c.requires.within.0 (marked self s_id v false there c.if-index.false) mid refl refl refl refl c.requires.within.1 closes)

pub returns-in-Explained-clause-followed : goal.returns-in-Explained-clause-followed
returns-in-Explained-clause-followed c = λ _ u most lines noted ends.
    let self = c.args.self.now in
    let s_id = c.args.s_id in
    let v = c.index.result.now in
    let there = found_at self.windows.items (s_id - 1) v (omega (arith, c.requires.within.0, c.requires.within.1)) c.index.ensures in
    let mid : Judge = record { directory = self.directory; windows = c.close_in.new.windows; asked = self.asked; number = self.number; undecided = self.undecided; exact = self.exact } in
    let closes = subst (λ standing. AreEach (ClosesAt s_id self.number standing) self.windows.items c.close_in.new.windows.items) c.in-Explained.is c.in_ok-close_in.ensures in
    goes_on u most lines s_id self noted ends c.requires.within.0 (marked self s_id v false there c.if-index.false) mid refl refl refl refl refl c.requires.forgets closes

pub returns-in-Legal-clause-followed : goal.returns-in-Legal-clause-followed
returns-in-Legal-clause-followed c = λ _ u most lines noted ends.
    let self = c.args.self.now in
    let s_id = c.args.s_id in
    let v = c.index.result.now in
    let there = found_at self.windows.items (s_id - 1) v (omega (arith, c.requires.within.0, c.requires.within.1)) c.index.ensures in
    let mid : Judge = record { directory = self.directory; windows = c.close_in.new.windows; asked = self.asked; number = self.number; undecided = self.undecided; exact = self.exact } in
    let closes = subst (λ standing. AreEach (ClosesAt s_id self.number standing) self.windows.items c.close_in.new.windows.items) c.in-Unexplained.is c.in_ok-close_in.ensures in
    let open_one = marked self s_id v false there c.if-index.false in
    let before = unexplained u most lines s_id self noted ends c.requires.within.0 open_one mid refl refl refl refl c.requires.within.1 closes in
    let then = c.in_ok-verdict-in-Unexplained.ensures in
    let said = then.said u most lines before in
    searched_on u most lines s_id self noted ends c.requires.within.0 open_one mid c.search.new.self refl c.requires.forgets closes then.windows (then.searchable u most lines before)
    (subst (IsVerdictOn u c.search.new.self.undecided.items lines) c.in-Legal.is said.verdict_is)

pub returns-in_default-clause-decided : goal.returns-in_default-clause-decided
returns-in_default-clause-decided c = λ u most lines more noted ends.
    let self = c.args.self.now in
    let s_id = c.args.s_id in
    let v = c.index.result.now in
    let there = found_at self.windows.items (s_id - 1) v (omega (arith, c.requires.within.0, c.requires.within.1)) c.index.ensures in
    let mid : Judge = record { directory = self.directory; windows = c.close_in.new.windows; asked = self.asked; number = self.number; undecided = self.undecided; exact = self.exact } in
    let closes = subst (λ standing. AreEach (ClosesAt s_id self.number standing) self.windows.items c.close_in.new.windows.items) c.in-Unexplained.is c.in_ok-close_in.ensures in
    let before = unexplained u most lines s_id self noted ends c.requires.within.0 (marked self s_id v false there c.if-index.false) mid refl refl refl refl c.requires.within.1 closes in
    said_stays u most lines more c.search.new.self.undecided.items c.in_ok-verdict-in-Unexplained.verdict c.in_default.not-Legal (c.in_ok-verdict-in-Unexplained.ensures.said u most lines before)

pub returns-in_default-clause-kept : goal.returns-in_default-clause-kept
returns-in_default-clause-kept c = λ first named e u most lines noted ends.
    let self = c.args.self.now in
    let s_id = c.args.s_id in
    let v = c.index.result.now in
    let there = found_at self.windows.items (s_id - 1) v (omega (arith, c.requires.within.0, c.requires.within.1)) c.index.ensures in
    let mid : Judge = record { directory = self.directory; windows = c.close_in.new.windows; asked = self.asked; number = self.number; undecided = self.undecided; exact = self.exact } in
    let closes = subst (λ standing. AreEach (ClosesAt s_id self.number standing) self.windows.items c.close_in.new.windows.items) c.in-Unexplained.is c.in_ok-close_in.ensures in
    let before = unexplained u most lines s_id self noted ends c.requires.within.0 (marked self s_id v false there c.if-index.false) mid refl refl refl refl c.requires.within.1 closes in
    record { most = most; illegal = true; s_id = Some s_id; searchable = c.in_ok-verdict-in-Unexplained.ensures.searchable u most lines before }

pub returns-in_ok-set_aside-in-Undecided-clause-followed : goal.returns-in_ok-set_aside-in-Undecided-clause-followed
returns-in_ok-set_aside-in-Undecided-clause-followed c = λ _ u most lines noted ends.
    let self = c.args.self.now in
    let s_id = c.args.s_id in
    let v = c.index.result.now in
    let there = found_at self.windows.items (s_id - 1) v (omega (arith, c.requires.within.0, c.requires.within.1)) c.index.ensures in
    let mid : Judge = record { directory = self.directory; windows = c.close_in.new.windows; asked = self.asked; number = self.number; undecided = self.undecided; exact = self.exact } in
    let closes = subst (λ standing. AreEach (ClosesAt s_id self.number standing) self.windows.items c.close_in.new.windows.items) c.in-Undecided.is c.in_ok-close_in.ensures in
    let then = c.in_ok-set_aside-in-Undecided.ensures in
    goes_on_without u most lines s_id self noted ends c.requires.within.0 (marked self s_id v false there c.if-index.false) mid c.set_aside.new.self c.requires.within.1 c.requires.forgets refl refl refl refl refl closes
    then.directory then.number then.exact then.asked then.undecided then.windows
