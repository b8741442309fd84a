use Rattle.std.proofs.Common.{◌≡◌, ◌+◌, ◌<◌, ℕ, length, slice_get, refl, ap, ◌∙◌, arith}
use Rattle.std.proofs.lemmas.Option.{slice_get_read}
use Rattle.tatp_extents.specs.Extents.{ExtentState, first_subscriber, place_in}
use Rattle.tatp_extents.specs.Parts.{state_of, pinned_in}
use Rattle.tatp_extents.proofs.HistoryLaws.{stays_pinned, at_place}
use Rattle.tatp_extents.proofs.pinned.Pinned.home_mut.Goals as goal

its_place : (e place : ℕ) → place_in e (first_subscriber e + place) ≡ place
its_place e place = omega arith

pub invariant_of-self-lent : goal.invariant_of-self-lent
invariant_of-self-lent c = λ w.
    let kept = stays_pinned (pinned_in c.self.inside.parts c.self.inside.place) w c.self.invariant.0 in
    (rw (its_place c.self.inside.parts.number c.self.inside.place) at kept, c.self.invariant.1)

pub returns : goal.returns
returns c =
    let x : ExtentState = state_of c.self.inside.parts in
    let place : ℕ = c.self.inside.place in
    let lies = c.self.invariant.0.lies in
    let within : place < length x.homes = omega (arith, lies.1) in (
      (refl, λ w. rw (← c.self.view_is, its_place x.number place) refl),
      record {
        lends = tt;
        value = rw (← c.self.view_is) (at_place x (first_subscriber x.number + place) lies.0 ∙ ap (slice_get x.homes) (its_place x.number place) ∙ slice_get_read x.homes (length x.homes) place c.index_mut.result.now refl within c.index_mut.ensures.value);
      },
    )
