use Rattle.std.proofs.Common.{◌≡◌, ◌∙◌, ◌++◌, ◌∷◌, [], List, reverse, sym, ap, arith, append_assoc}
use Rattle.std.proofs.lemmas.List.{reverse-append}
use Rattle.std.proofs.lemmas.List.Elements.{All-push, All-same}
use Rattle.tatp_extents.specs.Extents.{ExtentState, IsExtent}
use Rattle.tatp_settle.proofs.gathering.unpack_all.Goals as goal

pub loop-parcel-preserved : goal.loop-parcel-preserved
loop-parcel-preserved c =
    let before : List ExtentState = c.loop-parcel.extents.items in
    let left : List ExtentState = c.pop.new.self.items in
    let parcel : ExtentState = c.in-Some.parcel in
    let more : c.push_reserved.new.self.items ≡ before ++ parcel ∷ [] = c.push_reserved.ensures.items ∙ ap (λ (x : ExtentState). before ++ x ∷ []) c.unpack.ensures in
    record {
      extents =
          ap (λ (xs : List ExtentState). left ++ reverse xs) more
          ∙ (ap (λ (xs : List ExtentState). left ++ xs) (reverse-append before (parcel ∷ []))
          ∙ (sym (append_assoc left (parcel ∷ []) (reverse before))
          ∙ (ap (λ (xs : List ExtentState). xs ++ reverse before) (sym c.in-Some.ensures.items) ∙ c.loop-parcel.invariant.extents)));
      holds = All-same IsExtent c.push_reserved.new.self.items (before ++ parcel ∷ []) more (All-push IsExtent before parcel c.loop-parcel.invariant.holds c.what_holds_of_every_parcel.ensures);
      room = omega (arith, c.loop-parcel.invariant.room, c.push_reserved.ensures.len, c.push_reserved.ensures.capacity, c.in-Some.ensures.len);
    }
