-- How growths add up. Assumes nothing.
use Rattle.std.proofs.Common.{◌≡◌, ℕ, ◌+◌, ◌≤◌, true, false, cond, ◌&&◌, eqb, ltb, List, [], ◌∷◌, ◌++◌, length, sym, refl, ap, ◌∙◌, subst, ⊎_elim, arith}
use Rattle.std.proofs.lemmas.List.{append-nil, append_assoc, length-append}
use Rattle.std.proofs.lemmas.Bool.{cond-false, cond_both, cases_eq, eqb-true, and_parts, le-ltb}
use Rattle.std.proofs.lemmas.Bool.Decides.{nat_tests}
use Rattle.records.specs.declared.notice.Record.{Record}
use Rattle.records.specs.Masks.{named}
use Rattle.wires.specs.Lines.{Lines, Put}
use Rattle.wires.specs.Growths.{Extra, Grown, single, to_each}
use Rattle.wires.proofs.LineLaws.{by_line}

nil_left : (xs ys : List Record) → xs ++ ys ≡ [] → xs ≡ []
nil_left [] ys e = refl
nil_left (x ∷ xs) ys e = absurd (let z : ◌≡◌ {A = ℕ} 0 1 = cc in omega arith)

nil_right : (xs ys : List Record) → xs ++ ys ≡ [] → ys ≡ []
nil_right [] ys e = e
nil_right (x ∷ xs) ys e = absurd (let z : ◌≡◌ {A = ℕ} 0 1 = cc in omega arith)

-- nothing was put
pub grown_none : (old : Lines) → Grown old old (λ p q. [])
grown_none old = record {
  held = λ p q. sym (append-nil (old p q).held);
  arrived = λ p q. omega arith;
  others = λ p q e. refl;
}

-- one growth after another
pub grown_then : (old mid new : Lines) (e f : Extra) → Grown old mid e → Grown mid new f → Grown old new (λ p q. e p q ++ f p q)
grown_then old mid new e f g h = record {
  held = λ p q. h.held p q ∙ ap (λ xs. xs ++ f p q) (g.held p q) ∙ append_assoc (old p q).held (e p q) (f p q);
  arrived = λ p q. omega (arith, g.arrived p q, h.arrived p q);
  others = λ p q n. h.others p q (nil_right (e p q) (f p q) n) ∙ g.others p q (nil_left (e p q) (f p q) n);
}

-- the same extra in other words
pub grown_same : (old new : Lines) (e f : Extra) → ((p q : ℕ) → f p q ≡ e p q) → Grown old new e → Grown old new f
grown_same old new e f s g = record {
  held = λ p q. g.held p q ∙ ap (λ xs. (old p q).held ++ xs) (sym (s p q));
  arrived = g.arrived;
  others = λ p q n. g.others p q (sym (s p q) ∙ n);
}

single_here : (a b : ℕ) (x : Record) → single a b x a b ≡ x ∷ []
single_here a b x = grind (arith, nat_tests)

single_other : (a b : ℕ) (x : Record) (p q : ℕ) → ((p ≡ a) × (q ≡ b) → ⊥) → single a b x p q ≡ []
single_other a b x p q ne = cond_both (eqb p a && eqb q b) (x ∷ []) [] (λ l. l ≡ []) (λ t. let h = and_parts (eqb p a) (eqb q b) t in absurd (ne (eqb-true p a h.0, eqb-true q b h.1))) (λ f. refl)

-- a put on one line
pub grown_put : (depth : ℕ) (old new : Lines) (a b : ℕ) (x : Record) → Put depth old new a b x → Grown old new (single a b x)
grown_put depth old new a b x t = record {
  held = by_line a b (λ p q. (new p q).held ≡ (old p q).held ++ single a b x p q)
      (t.held ∙ ap (λ xs. (old a b).held ++ xs) (sym (single_here a b x)))
      (λ p q ne. ap (λ l. l.held) (t.others p q ne) ∙ sym (append-nil (old p q).held) ∙ ap (λ xs. (old p q).held ++ xs) (sym (single_other a b x p q ne)));
  arrived = by_line a b (λ p q. (old p q).arrived ≤ (new p q).arrived) t.arrived (λ p q ne. omega (arith, ap (λ l. l.arrived) (t.others p q ne)));
  others = by_line a b (λ p q. single a b x p q ≡ [] → new p q ≡ old p q) (λ e. absurd (never (sym (single_here a b x) ∙ e))) (λ p q ne e. t.others p q ne);
}
  where
    never : x ∷ [] ≡ [] → ⊥
    never e = let z : ◌≡◌ {A = ℕ} 0 1 = cc in omega arith

-- how much longer a line is
pub grown_length : (old new : Lines) (e : Extra) → Grown old new e → (p q : ℕ) → length (new p q).held ≡ length (old p q).held + length (e p q)
grown_length old new e g p q = ap length (g.held p q) ∙ length-append (old p q).held (e p q)

-- ---- port by port

-- the part of an extra that the first n ports take
abbrev pub below : ℕ → Extra → Extra
below n e p q = cond (ltb q n) (e p q) []

-- what the next port takes comes on top
below_more : (n : ℕ) (e : Extra) (p q : ℕ) → below (n + 1) e p q ≡ below n e p q ++ cond (eqb q n) (e p n) []
below_more n e p q =
    ⊎_elim
    (λ (h : q ≡ n). subst (λ i. below (n + 1) e p i ≡ below n e p i ++ cond (eqb i n) (e p n) []) (sym h) (grind (arith, nat_tests)))
    (λ (h : q ≡ n → ⊥). grind (arith, nat_tests, append-nil (below n e p q)))
    (cases_eq q n)

module _ (a mask : ℕ) (x : Record) where
  next_off : (n : ℕ) → named mask n ≡ false → (p q : ℕ) → cond (eqb q n) (to_each a mask x p n) [] ≡ []
  next_off n off p q = grind (arith, nat_tests)

  next_on : (n : ℕ) → named mask n ≡ true → (p q : ℕ) → cond (eqb q n) (to_each a mask x p n) [] ≡ single a n x p q
  next_on n on p q = grind (arith, nat_tests)

  -- one port more: passed over, or put to; its line is as it was till then
  module _ (old mid : Lines) (n : ℕ) (g : Grown old mid (below n (to_each a mask x))) where
    pub below_skip : named mask n ≡ false → Grown old mid (below (n + 1) (to_each a mask x))
    below_skip off =
        grown_same old mid (below n (to_each a mask x)) (below (n + 1) (to_each a mask x))
        (λ p q. below_more n (to_each a mask x) p q ∙ ap (λ xs. below n (to_each a mask x) p q ++ xs) (next_off n off p q) ∙ append-nil (below n (to_each a mask x) p q))
        g

    pub below_put : (depth : ℕ) (new : Lines) → named mask n ≡ true → Put depth mid new a n x → Grown old new (below (n + 1) (to_each a mask x))
    below_put depth new on t =
        grown_same old new (λ p q. below n (to_each a mask x) p q ++ single a n x p q) (below (n + 1) (to_each a mask x))
        (λ p q. below_more n (to_each a mask x) p q ∙ ap (λ xs. below n (to_each a mask x) p q ++ xs) (next_on n on p q))
        (grown_then old mid new (below n (to_each a mask x)) (single a n x) g (grown_put depth mid new a n x t))

    pub below_same : mid a n ≡ old a n
    below_same = g.others a n (cond-false (ltb n n) (to_each a mask x a n) [] (le-ltb n n (omega arith)))
