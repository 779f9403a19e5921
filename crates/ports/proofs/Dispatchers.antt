-- A port's four dispatchers, one by one and all together. Assumes nothing.
use Rattle.std.proofs.Common.{◌≡◌, ℕ, ◌<◌, Bool, true, false, ◌&&◌, leb, List, [], ◌∷◌, length, map, get_or, set, zip, sym, refl, ap, ap₂, ◌∙◌, arith}
use Rattle.std.specs.List.{list_all}
use Rattle.std.proofs.lemmas.List.{map-set, length-map, get_or-map}
use Rattle.std.proofs.Math.Seq.{map-set_same}
use Rattle.model.specs.Lists.{every}
use Rattle.model.specs.Steps.{changed}
use Rattle.ports.specs.declared.dispatcher.Dispatcher.{Dispatcher}
use Rattle.ports.proofs.Views.{set_changed}

module _ {X : Type 0} where
  pub four : (xs : List X) → length xs ≡ 4 → (a : X) × (b : X) × (c : X) × (d : X) × (xs ≡ a ∷ b ∷ c ∷ d ∷ [])
  four [] e = absurd (omega arith)
  four (a ∷ []) e = absurd (omega arith)
  four (a ∷ b ∷ []) e = absurd (omega arith)
  four (a ∷ b ∷ c ∷ []) e = absurd (omega arith)
  four (a ∷ b ∷ c ∷ d ∷ []) e = (a, b, c, d, refl)
  four (a ∷ b ∷ c ∷ d ∷ x ∷ xs) e = absurd (omega arith)

and_four : (a b c d : Bool) → (a && (b && (c && (d && true)))) ≡ ((((true && a) && b) && c) && d)
and_four false b c d = refl
and_four true false c d = refl
and_four true true false d = refl
and_four true true true false = refl
and_four true true true true = refl

-- each cut fits, in turn or by number
pub fits_each : (ds : List Dispatcher) (cuts : List ℕ) → length ds ≡ 4 → length cuts ≡ 4 → list_all (λ p. leb p.0.settled p.1 && leb p.1 p.0.given) (zip ds cuts) ≡ every 4 (λ d. leb (get_or (map (λ x. x.settled) ds) d 0) (get_or cuts d 0) && leb (get_or cuts d 0) (get_or (map (λ x. x.given) ds) d 0))
fits_each ds cuts l m =
    let test : Dispatcher × ℕ → Bool = λ p. leb p.0.settled p.1 && leb p.1 p.0.given in
    let (a, b, c, d, e) = four ds l in
    let (p, q, r, s, f) = four cuts m in
    ap₂ (λ xs ys. list_all test (zip xs ys)) e f
    ∙ and_four (test (a, p)) (test (b, q)) (test (c, r)) (test (d, s))
    ∙ sym (ap₂ (λ (xs : List Dispatcher) (ys : List ℕ). every 4 (λ d. leb (get_or (map (λ x. x.settled) xs) d 0) (get_or ys d 0) && leb (get_or ys d 0) (get_or (map (λ x. x.given) xs) d 0))) e f)

-- what four new ones have of the four that were
module _ (f : Dispatcher → ℕ) (ds : List Dispatcher) (l : length ds ≡ 4) where
  pub number_at : (i : ℕ) (a : Dispatcher) → i < 4 → a ≡ get_or ds i a → get_or (map f ds) i 0 ≡ f a
  number_at i a lt is = get_or-map f ds i a 0 (omega arith) ∙ ap f (sym is)

  pub numbers_kept : (a b c d r s t u : Dispatcher) → a ≡ get_or ds 0 a → b ≡ get_or ds 1 b → c ≡ get_or ds 2 c → d ≡ get_or ds 3 d → f r ≡ f a → f s ≡ f b → f t ≡ f c → f u ≡ f d → map f (r ∷ s ∷ t ∷ u ∷ []) ≡ map f ds
  numbers_kept a b c d r s t u ia ib ic id er es et eu =
      let (p, q, v, w, e) = four ds l in
      let ra : f r ≡ f p = er ∙ ap f (ia ∙ ap (λ xs. get_or xs 0 a) e) in
      let sb : f s ≡ f q = es ∙ ap f (ib ∙ ap (λ xs. get_or xs 1 b) e) in
      let tc : f t ≡ f v = et ∙ ap f (ic ∙ ap (λ xs. get_or xs 2 c) e) in
      let ud : f u ≡ f w = eu ∙ ap f (id ∙ ap (λ xs. get_or xs 3 d) e) in
      (λ i. ra i ∷ sb i ∷ tc i ∷ ud i ∷ []) ∙ ap (map f) (sym e)

  -- one of them changed
  pub number_changed : (k : ℕ) (x : Dispatcher) → k < 4 → (λ j. get_or (map f (set ds k x)) j 0) ≡ changed k (f x) (λ j. get_or (map f ds) j 0)
  number_changed k x lt =
      let size : length (map f ds) ≡ length ds = length-map ds f in
      ap {B = ℕ → ℕ} (λ (xs : List ℕ) (j : ℕ). get_or xs j 0) (map-set f ds k x) ∙ set_changed (map f ds) k (f x) 0 (omega arith)

  pub number_same : (k : ℕ) (x a : Dispatcher) → f x ≡ f (get_or ds k a) → ◌≡◌ {A = ℕ → ℕ} (λ j. get_or (map f (set ds k x)) j 0) (λ j. get_or (map f ds) j 0)
  number_same k x a e = ap {B = ℕ → ℕ} (λ (xs : List ℕ) (j : ℕ). get_or xs j 0) (map-set_same f ds k x a e)

pub numbers_are : (xs : List ℕ) → length xs ≡ 4 → (r s t u : ℕ) → r ≡ get_or xs 0 0 → s ≡ get_or xs 1 0 → t ≡ get_or xs 2 0 → u ≡ get_or xs 3 0 → r ∷ s ∷ t ∷ u ∷ [] ≡ xs
numbers_are xs l r s t u er es et eu =
    let (p, q, v, w, e) = four xs l in
    let ra : r ≡ p = er ∙ ap (λ ys. get_or ys 0 0) e in
    let sb : s ≡ q = es ∙ ap (λ ys. get_or ys 1 0) e in
    let tc : t ≡ v = et ∙ ap (λ ys. get_or ys 2 0) e in
    let ud : u ≡ w = eu ∙ ap (λ ys. get_or ys 3 0) e in
    (λ i. ra i ∷ sb i ∷ tc i ∷ ud i ∷ []) ∙ sym e
