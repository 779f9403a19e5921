-- What holds of every list that an array shows. Assumes nothing.
use Rattle.std.specs.Prelude.{ℕ, zero, suc, ◌+◌, ◌*◌, List, [], ◌∷◌, map, slice_index_or}
use Rattle.std.proofs.lemmas.Bool.{cond-false, cond_both}
use Rattle.boards.specs.Rules.{Vessels}
use Rattle.boards.specs.Shown.{is_berth, NoneOutside}
use Rattle.boards.specs.Places.{shown_by}

module _ {X : Type 0} (means : X → Vessels) where
  -- what holds of the empty list and of what each element means holds of each list shown
  pub shown_each : (P : Vessels → Type 0) → P [] → ((x : X) → P (means x)) → (xs : List X) (p q k : ℕ) → P (shown_by means xs p q k)
  shown_each P none each xs p q k = cond_both (is_berth p q k) (slice_index_or (map means xs) (p * 128 + q * 16 + k) []) [] P (λ _. at xs (p * 128 + q * 16 + k)) (λ _. none)
    where
      at : (ys : List X) (i : ℕ) → P (slice_index_or (map means ys) i [])
      at [] i = none
      at (y ∷ ys) zero = each y
      at (y ∷ ys) (suc i) = at ys i

  -- where there is no berth, nothing is shown
  pub none_outside : (xs : List X) → NoneOutside (shown_by means xs)
  none_outside xs p q k off = cond-false (is_berth p q k) (slice_index_or (map means xs) (p * 128 + q * 16 + k) []) [] off
