-- What stands of lists of vessels, and of the queue board's berth. Assumes nothing.
use Rattle.std.specs.Prelude.{◌≡◌, ℕ, false, [], ◌∷◌, length, refl, ◌==◌}
use Rattle.std.proofs.Common.{ap, ◌∙◌}
use Rattle.std.proofs.lemmas.Bool.{or_parts, eqb-false}
use Rattle.arrayvec.specs.ArrayVec.{array_vec_len}
use Rattle.boards.specs.Kinds.{at_most}
use Rattle.boards.specs.ListLaws.{without_other}
use Rattle.boards.specs.Rules.{Vessels, listed, without}
use Rattle.boards.specs.Shown.{Proper}
use Rattle.boards.specs.declared.queue.QueueBerth.{QueueBerth}

-- a list without a vessel that it does not list is the list
pub without_unlisted : (v : ℕ) (xs : Vessels) → listed v xs ≡ false → without v xs ≡ xs
without_unlisted v [] h = refl
without_unlisted v (x ∷ xs) h =
    let p = or_parts (v == x) (listed v xs) h in
    without_other v x xs (eqb-false v x p.0) ∙ ap (λ l. x ∷ l) (without_unlisted v xs p.1)

pub length_vessels : (b : QueueBerth) → length b.vessels.items ≡ array_vec_len b.vessels
length_vessels b = refl

pub proper_berth : (b : QueueBerth) → Proper (at_most 4) b.vessels.items
proper_berth b = b.proper
