-- What is read of an input up to a limit. Assumes nothing.
use Rattle.std.proofs.Common.{◌≡◌, ℕ, List, [], ◌++◌, take, Some, None, Option, IfSome, ap, ◌∙◌}
use Rattle.std.specs.Option.{option_map}

pub up_to : (known : Option (List ℕ)) (limit most : ℕ) (old new : List ℕ) → limit ≡ most → old ≡ [] → IfSome (option_map (take limit) known) (λ xs. new ≡ old ++ xs) → IfSome known (λ bytes. new ≡ take most bytes)
up_to None limit most old new is none e = tt
up_to (Some bytes) limit most old new is none e = e ∙ ap (λ xs. xs ++ take limit bytes) none ∙ ap (λ n. take n bytes) is
