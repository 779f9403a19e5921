-- An entry put in, or the first taken, keeps the list in order. Assumes nothing.
use Rattle.std.proofs.Common.{◌≡◌, ℕ, ◌+◌, ◌<◌, Bool, List, length, take, drop, sym, ap, ◌∙◌, subst}
use Rattle.std.specs.List.{insert}
use Rattle.ordered.specs.Lists.{Put}
use Rattle.ordered.specs.Orders.{Total, Rising, Strict, placed, Place}
use Rattle.ordered.proofs.Rises.{place_of_is, placed_is, rising_placed, strict_placed}

module _ {X : Type 0} {key : X → List ℕ} {before : X → X → Bool} (total : Total key before) (x : X) (len : ℕ) (old new : List X) where
  pub put_in : (at : ℕ) → len < length old → Place before x (take len old) at → take (len + 1) new ≡ insert (take len old) at x → drop (len + 1) new ≡ drop (len + 1) old → Put key before x len at old new
  put_in at room is now beyond =
      let place = place_of_is before x (take len old) at is in
      let entries : take (len + 1) new ≡ placed before x (take len old) = now ∙ ap (λ i. insert (take len old) i x) place ∙ sym (placed_is before x (take len old)) in
      record {
        room = room;
        place_is = place;
        entries = entries;
        beyond = beyond;
        rising = λ up. subst (Rising before) (sym entries) (rising_placed total x (take len old) up);
        strict = λ up fresh. subst (Strict before) (sym entries) (strict_placed total x (take len old) up fresh);
      }
