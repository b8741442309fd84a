use Rattle.std.proofs.Common.{◌≡◌, length, ap, sym, ◌∙◌, arith}
use Rattle.tatp_homes.specs.Home.{home_in}
use Rattle.tatp_tables.specs.Rows.{rows_in}
use Rattle.tatp_homes.specs.Loading.{read_until}
use Rattle.tatp_homes.proofs.LoadingLaws.{read_all}
use Rattle.tatp_homes.proofs.HoldLaws.{IsNext, wanted, home_held, home_passed}
use Rattle.tatp_homes.proofs.home.Home.read.Goals as goal
use Rattle.tatp_homes.proofs.home.Home.read.Goals.{then-row-s_id, else-row-s_id}

pub hold-requires-clause-free : goal.hold-requires-clause-free
hold-requires-clause-free c =
    let next : IsNext c.args.table c.args.rows.now c.loop-i.i c.row_of-row.result.now = record { clean = c.requires.clean; more = omega (arith, c.loop-i-test.true, c.count_of-i-end.ensures); is = c.row_of-row.ensures } in
    (wanted c.args.table c.args.rows.now c.loop-i.i c.args.self.now.s_id c.row_of-row.result.now c.loop-i.self next c.loop-i.invariant (c.if-row-s_id.true ∙ c.s_id.ensures ∙ ap (λ h. h.s_id) c.loop-i.invariant)).free

pub hold-requires-clause-parent : goal.hold-requires-clause-parent
hold-requires-clause-parent c =
    let next : IsNext c.args.table c.args.rows.now c.loop-i.i c.row_of-row.result.now = record { clean = c.requires.clean; more = omega (arith, c.loop-i-test.true, c.count_of-i-end.ensures); is = c.row_of-row.ensures } in
    (wanted c.args.table c.args.rows.now c.loop-i.i c.args.self.now.s_id c.row_of-row.result.now c.loop-i.self next c.loop-i.invariant (c.if-row-s_id.true ∙ c.s_id.ensures ∙ ap (λ h. h.s_id) c.loop-i.invariant)).parent

pub loop-i-preserved : goal.loop-i-preserved
loop-i-preserved c =
    let next : IsNext c.args.table c.args.rows.now c.loop-i.i c.row_of-row.result.now = record { clean = c.requires.clean; more = omega (arith, c.loop-i-test.true, c.count_of-i-end.ensures); is = c.row_of-row.ensures } in
    let own = ap (λ h. h.s_id) c.loop-i.invariant in
    elim c.if-row-s_id.branch [
      | then-row-s_id w ↦ w.self-is ∙ home_held c.args.table c.args.rows.now c.loop-i.i c.args.self.now.s_id c.row_of-row.result.now c.loop-i.self w.hold.new.self next c.loop-i.invariant (w.if-row-s_id.true ∙ c.s_id.ensures ∙ own) w.hold.ensures
      | else-row-s_id w ↦ w.self-is ∙ home_passed c.args.table c.args.rows.now c.loop-i.i c.args.self.now.s_id c.row_of-row.result.now c.loop-i.self next c.loop-i.invariant (λ e. w.if-row-s_id.false (e ∙ sym (c.s_id.ensures ∙ own)))
    ]

pub returns : goal.returns
returns c =
    let all : c.loop-i.i ≡ length (rows_in c.args.table c.args.rows.now) = omega (arith, c.loop-i-test.false, c.loop-i.auto.i-end, c.count_of-i-end.ensures) in
    c.loop-i.invariant ∙ ap (λ u. home_in u c.args.self.now.s_id) (ap (read_until c.args.table c.args.rows.now) all ∙ read_all c.args.table c.args.rows.now)
