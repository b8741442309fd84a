use Rattle.std.specs.Prelude.{IfSome}
use Rattle.std.proofs.Common.{◌≡◌, ◌+◌, ◌≤◌, [], ◌∷◌, ◌++◌, length, None, Option, cond, eqb, refl, sym, ap, ◌∙◌, subst, arith, nat_eq}
use Rattle.std.proofs.lemmas.Option.{none-some, same_Some}
use Rattle.std.proofs.lemmas.Result.{on_ok_weaker}
use Rattle.indexmap.specs.IndexMap.{get}
use Rattle.tatp_history.specs.HistoryLines.{client_of}
use Rattle.tatp_judge.specs.declared.asked.Asked.{Asked}
use Rattle.tatp_judge.specs.declared.judge.Judge.{Judge}
use Rattle.tatp_judge.proofs.JudgeLaws.{ended_was, ends_as, ends_within, has_noted, none_ended, rise_there, room_there, waits_there}
use Rattle.tatp_judge.proofs.FollowedLaws.{explained_where_closed}
use Rattle.tatp_judge.proofs.StepLaws.{if_ok_weaker, if_some_weaker, still_forgets}
use Rattle.tatp_judge.proofs.judge.Judge.follow.Goals as goal

pub note-requires-clause-within : goal.note-requires-clause-within
note-requires-clause-within c = let q = c.requires.followed in
    ends_within q.0 q.1 q.2 c.args.line.now c.swap_remove-ended.result c.args.self.now q.3 (c.swap_remove-ended.ensures.value ∙ ap (get nat_eq c.args.self.now.asked) c.client_of.ensures)

pub note-requires-clause-some : goal.note-requires-clause-some
note-requires-clause-some c = let q = c.requires.followed in
    waits_there q.0 q.1 q.2 c.args.self.now (client_of c.args.line.now) c.swap_remove-ended.result q.3.noted (c.swap_remove-ended.ensures.value ∙ ap (get nat_eq c.args.self.now.asked) c.client_of.ensures)

pub note-requires-clause-few : goal.note-requires-clause-few
note-requires-clause-few c = let q = c.requires.followed in room_there q.0 q.1 q.2 c.args.line.now (get nat_eq c.args.self.now.asked (client_of c.args.line.now)) c.args.self.now q.3 refl

pub note-requires-clause-rise : goal.note-requires-clause-rise
note-requires-clause-rise c = let q = c.requires.followed in rise_there q.0 q.1 q.2 c.args.line.now (get nat_eq c.args.self.now.asked (client_of c.args.line.now)) c.args.self.now q.3 refl

pub close-requires-clause-noted : goal.close-requires-clause-noted
close-requires-clause-noted c =
    let q = c.requires.followed in
    let line = c.args.line.now in
    let old = c.args.self.now in
    let number = old.number + 1 in
    let ended : c.swap_remove-ended.result ≡ get nat_eq old.asked (client_of line) = c.swap_remove-ended.ensures.value ∙ ap (get nat_eq old.asked) c.client_of.ensures in
    let mid : Judge = record { directory = old.directory; windows = old.windows; asked = c.swap_remove-ended.new.self; number = old.number; undecided = old.undecided; exact = old.exact } in
    let after : Judge = record { directory = c.note.new.self.directory; windows = c.note.new.self.windows; asked = c.note.new.self.asked; number = number; undecided = c.note.new.self.undecided; exact = c.note.new.self.exact } in (
      q.0,
      q.1,
      q.2 ++ line ∷ [],
      has_noted q.0 q.1 q.2 line number c.swap_remove-ended.result old mid c.note.new.self after q.3 c.requires.accepted (omega (arith, q.3.noted.read.number_is, q.3.noted.read.number_is, q.4)) refl ended
          (λ other. c.swap_remove-ended.ensures.updates.0 other ∙ ap (λ k. cond (eqb k other) None (get nat_eq old.asked other)) c.client_of.ensures) refl refl refl c.note.ensures.exact (c.in_ok-note.ensures.noted q.0 q.3.noted.read.directory_is) refl refl refl (λ other. refl) refl,
      ends_as q.0 q.2 line number c.in-Some.asked q.3.none (omega (arith, q.3.noted.read.number_is)) (sym (ended_was q.0 q.1 q.2 line c.swap_remove-ended.result old q.3 ended) ∙ c.in-Some.is),
    )

pub close-requires-clause-within : goal.close-requires-clause-within
close-requires-clause-within c =
    let q = c.requires.followed in
    let line = c.args.line.now in
    let old = c.args.self.now in
    let number = old.number + 1 in
    let ended : c.swap_remove-ended.result ≡ get nat_eq old.asked (client_of line) = c.swap_remove-ended.ensures.value ∙ ap (get nat_eq old.asked) c.client_of.ensures in
    let within = subst (λ (o : Option Asked). IfSome o (λ asked. IfSome asked.s_id (λ s. (1 ≤ s) × (s ≤ length old.windows.items)))) c.in-Some.is (ends_within q.0 q.1 q.2 line c.swap_remove-ended.result old q.3 ended) in
    subst (λ n. IfSome c.in-Some.asked.s_id (λ s. (1 ≤ s) × (s ≤ n))) (sym (c.in_ok-note.ensures.noted q.0 q.3.noted.read.directory_is).windows_are.count) within

pub close-requires-clause-forgets : goal.close-requires-clause-forgets
close-requires-clause-forgets c =
    let q = c.requires.followed in
    let line = c.args.line.now in
    let old = c.args.self.now in
    let number = old.number + 1 in
    let ended : c.swap_remove-ended.result ≡ get nat_eq old.asked (client_of line) = c.swap_remove-ended.ensures.value ∙ ap (get nat_eq old.asked) c.client_of.ensures in
    let mid : Judge = record { directory = old.directory; windows = old.windows; asked = c.swap_remove-ended.new.self; number = old.number; undecided = old.undecided; exact = old.exact } in
    let after : Judge = record { directory = c.note.new.self.directory; windows = c.note.new.self.windows; asked = c.note.new.self.asked; number = number; undecided = c.note.new.self.undecided; exact = c.note.new.self.exact } in
    still_forgets q.0 c.swap_remove-ended.result c.in-Some.asked.s_id number line old mid c.note.new.self after q.3.forgets refl (c.in_ok-note.ensures.noted q.0 q.3.noted.read.directory_is) refl
    (λ asked e. ap (λ (a : Asked). a.s_id) (same_Some c.in-Some.asked asked (sym c.in-Some.is ∙ e)))

pub returns-in-Some-clause-followed : goal.returns-in-Some-clause-followed
returns-in-Some-clause-followed c = λ none u most lines is.
    let q = c.requires.followed in
    let line = c.args.line.now in
    let old = c.args.self.now in
    let number = old.number + 1 in
    let ended : c.swap_remove-ended.result ≡ get nat_eq old.asked (client_of line) = c.swap_remove-ended.ensures.value ∙ ap (get nat_eq old.asked) c.client_of.ensures in
    let mid : Judge = record { directory = old.directory; windows = old.windows; asked = c.swap_remove-ended.new.self; number = old.number; undecided = old.undecided; exact = old.exact } in
    let after : Judge = record { directory = c.note.new.self.directory; windows = c.note.new.self.windows; asked = c.note.new.self.asked; number = number; undecided = c.note.new.self.undecided; exact = c.note.new.self.exact } in
    c.close.ensures.followed none u most (lines ++ line ∷ []) (has_noted u most lines line number c.swap_remove-ended.result old mid c.note.new.self after is c.requires.accepted (omega (arith, is.noted.read.number_is, q.3.noted.read.number_is, q.4)) refl ended
    (λ other. c.swap_remove-ended.ensures.updates.0 other ∙ ap (λ k. cond (eqb k other) None (get nat_eq old.asked other)) c.client_of.ensures) refl refl refl c.note.ensures.exact (c.in_ok-note.ensures.noted u is.noted.read.directory_is) refl refl refl (λ other. refl) refl)
    (ends_as u lines line number c.in-Some.asked is.none (omega (arith, is.noted.read.number_is)) (sym (ended_was u most lines line c.swap_remove-ended.result old is ended) ∙ c.in-Some.is))

pub returns-in-Some-clause-explained : goal.returns-in-Some-clause-explained
returns-in-Some-clause-explained c = λ none u most lines is.
    let q = c.requires.followed in
    let line = c.args.line.now in
    let old = c.args.self.now in
    let number = old.number + 1 in
    let ended : c.swap_remove-ended.result ≡ get nat_eq old.asked (client_of line) = c.swap_remove-ended.ensures.value ∙ ap (get nat_eq old.asked) c.client_of.ensures in
    let mid : Judge = record { directory = old.directory; windows = old.windows; asked = c.swap_remove-ended.new.self; number = old.number; undecided = old.undecided; exact = old.exact } in
    let after : Judge = record { directory = c.note.new.self.directory; windows = c.note.new.self.windows; asked = c.note.new.self.asked; number = number; undecided = c.note.new.self.undecided; exact = c.note.new.self.exact } in
    explained_where_closed u most (lines ++ line ∷ []) c.close.new.self (c.close.ensures.followed none u most (lines ++ line ∷ []) (has_noted u most lines line number c.swap_remove-ended.result old mid c.note.new.self after is c.requires.accepted (omega (arith, is.noted.read.number_is, q.3.noted.read.number_is, q.4)) refl ended
    (λ other. c.swap_remove-ended.ensures.updates.0 other ∙ ap (λ k. cond (eqb k other) None (get nat_eq old.asked other)) c.client_of.ensures) refl refl refl c.note.ensures.exact (c.in_ok-note.ensures.noted u is.noted.read.directory_is) refl refl refl (λ other. refl) refl)
    (ends_as u lines line number c.in-Some.asked is.none (omega (arith, is.noted.read.number_is)) (sym (ended_was u most lines line c.swap_remove-ended.result old is ended) ∙ c.in-Some.is)))

pub returns-in-Some-clause-decided : goal.returns-in-Some-clause-decided
returns-in-Some-clause-decided c =
    let q = c.requires.followed in
    let line = c.args.line.now in
    let old = c.args.self.now in
    let number = old.number + 1 in
    let ended : c.swap_remove-ended.result ≡ get nat_eq old.asked (client_of line) = c.swap_remove-ended.ensures.value ∙ ap (get nat_eq old.asked) c.client_of.ensures in
    let mid : Judge = record { directory = old.directory; windows = old.windows; asked = c.swap_remove-ended.new.self; number = old.number; undecided = old.undecided; exact = old.exact } in
    let after : Judge = record { directory = c.note.new.self.directory; windows = c.note.new.self.windows; asked = c.note.new.self.asked; number = number; undecided = c.note.new.self.undecided; exact = c.note.new.self.exact } in
    if_ok_weaker c.close.result (λ found h. if_some_weaker found (λ verdict k. λ u most lines more is. k u most (lines ++ line ∷ []) more (has_noted u most lines line number c.swap_remove-ended.result old mid c.note.new.self after is c.requires.accepted (omega (arith, is.noted.read.number_is, q.3.noted.read.number_is, q.4)) refl ended
    (λ other. c.swap_remove-ended.ensures.updates.0 other ∙ ap (λ k. cond (eqb k other) None (get nat_eq old.asked other)) c.client_of.ensures) refl refl refl c.note.ensures.exact (c.in_ok-note.ensures.noted u is.noted.read.directory_is) refl refl refl (λ other. refl) refl)
    (ends_as u lines line number c.in-Some.asked is.none (omega (arith, is.noted.read.number_is)) (sym (ended_was u most lines line c.swap_remove-ended.result old is ended) ∙ c.in-Some.is))) h) c.close.ensures.decided

pub returns-in-None-clause-followed : goal.returns-in-None-clause-followed
returns-in-None-clause-followed c = λ _ u most lines is.
    let q = c.requires.followed in
    let line = c.args.line.now in
    let old = c.args.self.now in
    let number = old.number + 1 in
    let ended : c.swap_remove-ended.result ≡ get nat_eq old.asked (client_of line) = c.swap_remove-ended.ensures.value ∙ ap (get nat_eq old.asked) c.client_of.ensures in
    let mid : Judge = record { directory = old.directory; windows = old.windows; asked = c.swap_remove-ended.new.self; number = old.number; undecided = old.undecided; exact = old.exact } in
    let after : Judge = record { directory = c.note.new.self.directory; windows = c.note.new.self.windows; asked = c.note.new.self.asked; number = number; undecided = c.note.new.self.undecided; exact = c.note.new.self.exact } in
    record {
      noted = has_noted u most lines line number c.swap_remove-ended.result old mid c.note.new.self after is c.requires.accepted (omega (arith, is.noted.read.number_is, q.3.noted.read.number_is, q.4)) refl ended
          (λ other. c.swap_remove-ended.ensures.updates.0 other ∙ ap (λ k. cond (eqb k other) None (get nat_eq old.asked other)) c.client_of.ensures) refl refl refl c.note.ensures.exact (c.in_ok-note.ensures.noted u is.noted.read.directory_is) refl refl refl (λ other. refl) refl;
      forgets = still_forgets u c.swap_remove-ended.result None number line old mid c.note.new.self after is.forgets refl (c.in_ok-note.ensures.noted u is.noted.read.directory_is) refl
          (λ asked e. absurd (none-some asked (sym c.in-None.is ∙ e)));
      none = none_ended u lines line is.none (sym (ended_was u most lines line c.swap_remove-ended.result old is ended) ∙ c.in-None.is);
    }

pub returns-in-None-clause-explained : goal.returns-in-None-clause-explained
returns-in-None-clause-explained c = λ _ u most lines is.
    let q = c.requires.followed in
    let line = c.args.line.now in
    let old = c.args.self.now in
    let number = old.number + 1 in
    let ended : c.swap_remove-ended.result ≡ get nat_eq old.asked (client_of line) = c.swap_remove-ended.ensures.value ∙ ap (get nat_eq old.asked) c.client_of.ensures in
    let mid : Judge = record { directory = old.directory; windows = old.windows; asked = c.swap_remove-ended.new.self; number = old.number; undecided = old.undecided; exact = old.exact } in
    let after : Judge = record { directory = c.note.new.self.directory; windows = c.note.new.self.windows; asked = c.note.new.self.asked; number = number; undecided = c.note.new.self.undecided; exact = c.note.new.self.exact } in
    explained_where_closed u most (lines ++ line ∷ []) after (record {
      noted = has_noted u most lines line number c.swap_remove-ended.result old mid c.note.new.self after is c.requires.accepted (omega (arith, is.noted.read.number_is, q.3.noted.read.number_is, q.4)) refl ended
          (λ other. c.swap_remove-ended.ensures.updates.0 other ∙ ap (λ k. cond (eqb k other) None (get nat_eq old.asked other)) c.client_of.ensures) refl refl refl c.note.ensures.exact (c.in_ok-note.ensures.noted u is.noted.read.directory_is) refl refl refl (λ other. refl) refl;
      forgets = still_forgets u c.swap_remove-ended.result None number line old mid c.note.new.self after is.forgets refl (c.in_ok-note.ensures.noted u is.noted.read.directory_is) refl
          (λ asked e. absurd (none-some asked (sym c.in-None.is ∙ e)));
      none = none_ended u lines line is.none (sym (ended_was u most lines line c.swap_remove-ended.result old is ended) ∙ c.in-None.is);
    })

pub returns-in-Some-clause-kept : goal.returns-in-Some-clause-kept
returns-in-Some-clause-kept c = λ first s_id e u most lines is.
    let q = c.requires.followed in
    let line = c.args.line.now in
    let old = c.args.self.now in
    let number = old.number + 1 in
    let ended : c.swap_remove-ended.result ≡ get nat_eq old.asked (client_of line) = c.swap_remove-ended.ensures.value ∙ ap (get nat_eq old.asked) c.client_of.ensures in
    let mid : Judge = record { directory = old.directory; windows = old.windows; asked = c.swap_remove-ended.new.self; number = old.number; undecided = old.undecided; exact = old.exact } in
    let after : Judge = record { directory = c.note.new.self.directory; windows = c.note.new.self.windows; asked = c.note.new.self.asked; number = number; undecided = c.note.new.self.undecided; exact = c.note.new.self.exact } in
    c.close.ensures.kept first s_id e u most (lines ++ line ∷ []) (has_noted u most lines line number c.swap_remove-ended.result old mid c.note.new.self after is c.requires.accepted (omega (arith, is.noted.read.number_is, q.3.noted.read.number_is, q.4)) refl ended
    (λ other. c.swap_remove-ended.ensures.updates.0 other ∙ ap (λ k. cond (eqb k other) None (get nat_eq old.asked other)) c.client_of.ensures) refl refl refl c.note.ensures.exact (c.in_ok-note.ensures.noted u is.noted.read.directory_is) refl refl refl (λ other. refl) refl)
    (ends_as u lines line number c.in-Some.asked is.none (omega (arith, is.noted.read.number_is)) (sym (ended_was u most lines line c.swap_remove-ended.result old is ended) ∙ c.in-Some.is))

pub returns-in-Some-clause-exact : goal.returns-in-Some-clause-exact
returns-in-Some-clause-exact c = on_ok_weaker c.close.result (λ same. same ∙ c.note.ensures.exact) c.close.ensures.exact
