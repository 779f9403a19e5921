-- What a call that is not refused has passed. Assumes nothing.
use Rattle.std.proofs.Common.{◌≡◌, ℕ, zero, suc, ◌+◌, ◌^◌, ◌<◌, Bool, true, false, cond, not, ◌||◌, eqb, ltb, ◌⊎◌, List, [], ◌∷◌, Some, None, Option, sym, refl, ◌∙◌, subst, inl, inr, arith, pow_pos}
use mathlib.Core.List.Memᴰ
use Rattle.ordered.specs.Orders.{all_pass}
use Rattle.std.proofs.lemmas.Bool.{cases_Bool, and_parts, or_cases, eqb-true, eqb-false, ltb-true, ltb-false, false≢true, not-false, not-true, cond-true}
use Rattle.records.specs.Masks.{named}
use Rattle.records.proofs.MaskLaws.{none_above}
use Rattle.model.specs.Lists.{every, mask_of}
use Rattle.model.specs.Law.{In}
use Rattle.model.specs.Views.{Table, sends, outside}
use Rattle.model.specs.Refusals.{in_reach}

abbrev IsNone : {X : Type 0} → Option X → Type 0
IsNone None = Unit {0}
IsNone (Some x) = ⊥

pub some_none : {X : Type 0} (x : X) → Some x ≡ None → ⊥
some_none x e = subst IsNone (sym e) tt

-- a test that did not refuse, and those behind it
pub passes : {X : Type 0} (b : Bool) (f : X) (next : Option X) → cond b (Some f) next ≡ None → (b ≡ false) × (next ≡ None)
passes true f next e = absurd (some_none f e)
passes false f next e = (refl, e)

pub every_at : (n : ℕ) (t : ℕ → Bool) → every n t ≡ true → (k : ℕ) → k < n → t k ≡ true
every_at zero t e k low = absurd (omega (arith, low))
every_at (suc n) t e k low =
    let both = and_parts (every n t) (t n) e in
    elim (cases_Bool (eqb k n)) [
      | inl z ↦ rw (eqb-true k n z) both.1
      | inr z ↦ let d = eqb-false k n z in every_at n t both.0 k (omega (arith, low, d))
    ]

pub all_pass_lem : {X : Type 0} (t : X → Bool) (xs : List X) → all_pass t xs ≡ true → (x : X) → In x xs → t x ≡ true
all_pass_lem t [] e x d = elim d [ ]
all_pass_lem t (y ∷ ys) e x (Memᴰ.head z) = rw z (and_parts (t y) (all_pass t ys) e).0
all_pass_lem t (y ∷ ys) e x (Memᴰ.tail d) = all_pass_lem t ys (and_parts (t y) (all_pass t ys) e).1 x d

-- an empty mask has none of the ports
pub mask_none : (n : ℕ) (t : ℕ → Bool) → mask_of n t ≡ 0 → (k : ℕ) → k < n → t k ≡ false
mask_none zero t e k low = absurd (omega (arith, low))
mask_none (suc n) t e k low = elim (cases_Bool (eqb k n)) [
  | inl z ↦ rw (eqb-true k n z) (last (cases_Bool (t n)))
  | inr z ↦ let d = eqb-false k n z in mask_none n t (omega (arith, e)) k (omega (arith, low, d))
]
  where
    last : (t n ≡ true) ⊎ (t n ≡ false) → t n ≡ false
    last (inl z) =
        let c : cond (t n) (2 ^ n) 0 ≡ 2 ^ n = cond-true (t n) (2 ^ n) 0 z in
        let p : 0 < 2 ^ n = pow_pos n in
        absurd (omega (arith, e, c, p))
    last (inr z) = z

pub up_to : (x n : ℕ) → ltb n x ≡ false → x < n + 1
up_to x n e = let k = ltb-false n x e in omega (arith, k)

pub inside_table : (t : Table) (p : ℕ) → outside t p ≡ false → p < t.ports
inside_table t p e = ltb-true p t.ports (not-false (ltb p t.ports) e)

-- a byte whose first eight ports pass names no other
pub names_only : (bits : ℕ) (t : ℕ → Bool) → bits < 256 → every 8 (λ q. not (named bits q) || t q) ≡ true → (q : ℕ) → named bits q ≡ true → t q ≡ true
names_only bits t byte e q to = elim (cases_Bool (ltb q 8)) [
  | inl low ↦ elim (or_cases (not (named bits q)) (t q) (every_at 8 (λ q. not (named bits q) || t q) e q (ltb-true q 8 low))) [
    | inl z ↦ absurd (false≢true (sym (not-true (named bits q) z) ∙ to))
    | inr z ↦ z
  ]
  | inr high ↦ absurd (false≢true (sym (none_above bits q byte (ltb-false q 8 high)) ∙ to))
]

-- a mask in reach names only the port itself and those that it sends to
pub in_reach_lem : (t : Table) (port bits : ℕ) → in_reach t port bits ≡ true → (q : ℕ) → named bits q ≡ true → (q ≡ port → ⊥) → sends t port q ≡ true
in_reach_lem t port bits e q to n =
    let both = and_parts (ltb bits 256) (every 8 (λ q. not (named bits q) || (eqb q port || sends t port q))) e in
    let z = names_only bits (λ q. eqb q port || sends t port q) (ltb-true bits 256 both.0) both.1 q to in
    elim (or_cases (eqb q port) (sends t port q) z) [ inl y ↦ absurd (n (eqb-true q port y)) | inr y ↦ y ]
