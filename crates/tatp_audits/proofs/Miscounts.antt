-- What the three searches for counts find together.
use Rattle.std.specs.Prelude.{◌≡◌, Bool, ◌||◌, List, Option}
use Rattle.std.proofs.Common.{subst}
use Rattle.tatp_tables.specs.Tuples.{Tuple}
use Rattle.tatp_tables.specs.declared.row.Rows.{Rows}
use Rattle.tatp_audits.specs.Failing.{Finds}
use Rattle.tatp_audits.specs.Audits.{is_miscounted, is_short_or_long}

pub short_or_long : (r : Rows) (subscribers accesses facilities forwardings : List Tuple) (a b c d e : Option Tuple) → subscribers ≡ r.subscribers → accesses ≡ r.accesses → facilities ≡ r.facilities → forwardings ≡ r.forwardings
    → Finds (is_miscounted 1 1 4 accesses subscribers) a → Finds (is_miscounted 1 1 4 facilities subscribers) b → Finds (is_miscounted 2 0 3 forwardings facilities) c
    → ((f g : Tuple → Bool) → Finds f a → Finds g b → Finds (λ k. f k || g k) d) → ((f g : Tuple → Bool) → Finds f d → Finds g c → Finds (λ k. f k || g k) e) → Finds (is_short_or_long r) e
short_or_long r subscribers accesses facilities forwardings a b c d e es ea ef ec fa fb fc one both =
    let ga = subst (λ (l : List Tuple). Finds (is_miscounted 1 1 4 l r.subscribers) a) ea (subst (λ (l : List Tuple). Finds (is_miscounted 1 1 4 accesses l) a) es fa) in
    let gb = subst (λ (l : List Tuple). Finds (is_miscounted 1 1 4 l r.subscribers) b) ef (subst (λ (l : List Tuple). Finds (is_miscounted 1 1 4 facilities l) b) es fb) in
    let gc = subst (λ (l : List Tuple). Finds (is_miscounted 2 0 3 l r.facilities) c) ec (subst (λ (l : List Tuple). Finds (is_miscounted 2 0 3 forwardings l) c) ef fc) in
    both (λ k. is_miscounted 1 1 4 r.accesses r.subscribers k || is_miscounted 1 1 4 r.facilities r.subscribers k) (is_miscounted 2 0 3 r.forwardings r.facilities)
    (one (is_miscounted 1 1 4 r.accesses r.subscribers) (is_miscounted 1 1 4 r.facilities r.subscribers) ga gb) gc
