-- The laws of an order by one number after another. Assumes nothing.
use Rattle.std.proofs.Common.{◌≡◌, ℕ, ◌<◌, Bool, true, List, [], ◌∷◌, ap, inl, inr, ⊎_elim, arith}
use Rattle.std.proofs.lemmas.Bool.{cases_order, lt-ltb}
use Rattle.std.proofs.lemmas.Bool.Decides.{nat_tests}
use Rattle.ordered.specs.Orders.{Total, by, by_then}

module _ {X : Type 0} where
  pub total_by : (f : X → ℕ) → Total (λ x. f x ∷ []) (by f)
  total_by f = record {
    one = λ x y. ⊎_elim (λ e. inr (inr (ap (λ n. n ∷ []) e))) (⊎_elim (λ l. inl (lt-ltb (f x) (f y) l)) (λ l. inr (inl (lt-ltb (f y) (f x) l)))) (cases_order (f x) (f y));
    not_after = λ x y h. grind (arith, nat_tests);
    not_equal = λ x y h. let e : f x ≡ f y = cc in grind (arith, nat_tests);
    chain = λ x y z h k. grind (arith, nat_tests);
  }

  pub total_then : (f : X → ℕ) (key : X → List ℕ) (rest : X → X → Bool) → Total key rest → Total (λ x. f x ∷ key x) (by_then f rest)
  total_then f key rest t = record {
    one = λ x y.
        ⊎_elim
        (λ (e : f x ≡ f y). ⊎_elim (λ (h : rest x y ≡ true). inl (grind (arith, nat_tests))) (⊎_elim (λ (h : rest y x ≡ true). inr (inl (grind (arith, nat_tests)))) (λ (k : key x ≡ key y). inr (inr (cc)))) (t.one x y))
        (⊎_elim (λ (l : f x < f y). inl (grind (arith, nat_tests))) (λ (l : f y < f x). inr (inl (grind (arith, nat_tests)))))
        (cases_order (f x) (f y));
    not_after = λ x y h. let r = t.not_after x y in grind (arith, nat_tests);
    not_equal = λ x y h.
        let e : f x ≡ f y = cc in
        let k : key x ≡ key y = cc in
        let r = t.not_equal x y k in
        grind (arith, nat_tests);
    chain = λ x y z h k. let r = t.chain x y z in grind (arith, nat_tests);
  }
