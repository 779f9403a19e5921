-- What a filter leaves in order, and at the front of memory. Assumes nothing.
use Rattle.std.proofs.Common.{◌≡◌, Bool, true, List, [], ◌∷◌, filter, refl}
use Rattle.std.proofs.lemmas.Bool.{and_parts, and_from, cond_both}
use Rattle.ordered.specs.Orders.{all_pass, pairs_pass}

module _ {X : Type 0} where
  pub all_kept : (p t : X → Bool) (xs : List X) → all_pass p xs ≡ true → all_pass p (filter t xs) ≡ true
  all_kept p t [] h = refl
  all_kept p t (x ∷ xs) h =
      let both = and_parts (p x) (all_pass p xs) h in
      let rest = all_kept p t xs both.1 in
      cond_both (t x) (x ∷ filter t xs) (filter t xs) (λ ys. all_pass p ys ≡ true) (λ e. and_from (p x) (all_pass p (filter t xs)) both.0 rest) (λ e. rest)

  pub kept_pass : (t : X → Bool) (xs : List X) → all_pass t (filter t xs) ≡ true
  kept_pass t [] = refl
  kept_pass t (x ∷ xs) = cond_both (t x) (x ∷ filter t xs) (filter t xs) (λ ys. all_pass t ys ≡ true) (λ e. and_from (t x) (all_pass t (filter t xs)) e (kept_pass t xs)) (λ e. kept_pass t xs)

  pub pairs_kept : (p : X → X → Bool) (t : X → Bool) (xs : List X) → pairs_pass p xs ≡ true → pairs_pass p (filter t xs) ≡ true
  pairs_kept p t [] h = refl
  pairs_kept p t (x ∷ xs) h =
      let both = and_parts (all_pass (p x) xs) (pairs_pass p xs) h in
      let rest = pairs_kept p t xs both.1 in
      cond_both (t x) (x ∷ filter t xs) (filter t xs) (λ ys. pairs_pass p ys ≡ true) (λ e. and_from (all_pass (p x) (filter t xs)) (pairs_pass p (filter t xs)) (all_kept (p x) t xs both.0) rest) (λ e. rest)
