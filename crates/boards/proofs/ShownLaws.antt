-- When the numbers of a list or a notice are in range, and which list a notice is about. Assumes nothing.
use Rattle.std.specs.Prelude.{◌≡◌, ℕ, ◌<◌, ◌≤◌, true, false, ◌&&◌, ◌==◌, nat_le, nat_lt}
use Rattle.std.proofs.Common.{sym, subst}
use Rattle.std.proofs.lemmas.Bool.{both_ways, cond-true, and_parts, and_from, ltb-true, lt-ltb, leb-true, le-leb, eqb-true, eq-eqb}
use Rattle.records.specs.declared.notice.Action.{Action}
use Rattle.boards.specs.declared.outcome.Outcome.TheVariants.{Clash}
use Rattle.boards.specs.Rules.{Vessels, Rule}
use Rattle.boards.specs.Shown.{is_berth, in_range, turned}

pub berth_bounds : (w h b : ℕ) → is_berth w h b ≡ true → (w < 8) × (h < 8) × (b ≤ 15)
berth_bounds w h b e =
    let p = and_parts (nat_lt w 8) (nat_lt h 8 && nat_le b 15) e in
    let q = and_parts (nat_lt h 8) (nat_le b 15) p.1 in
    (ltb-true w 8 p.0, ltb-true h 8 q.0, leb-true b 15 q.1)

pub in_range_lem : (w h b v : ℕ) → w < 8 → h < 8 → b ≤ 15 → 0 < v → in_range w h b v ≡ true
in_range_lem w h b v p q k some =
    and_from (nat_lt w 8) (nat_lt h 8 && (nat_le b 15 && nat_lt 0 v)) (lt-ltb w 8 p)
    (and_from (nat_lt h 8) (nat_le b 15 && nat_lt 0 v) (lt-ltb h 8 q)
    (and_from (nat_le b 15) (nat_lt 0 v) (le-leb b 15 k) (lt-ltb 0 v some)))

-- in range the rule counts
pub turned_in_range : (rule : Rule) (w h b : ℕ) (a : Action) (v : ℕ) (l : Vessels) → in_range w h b v ≡ true → turned rule w h b a v l ≡ rule l a v
turned_in_range rule w h b a v l = cond-true (in_range w h b v) (rule l a v) (record { list = l; outcome = Clash })

-- ---- the list of a notice, and the others

module _ (w h b p q k : ℕ) where
  pub at_place : (P : ℕ → ℕ → ℕ → Type 0) → (p == w && (h == q && b == k)) ≡ true → P w h b → P p q k
  at_place P here x =
      let y = and_parts (p == w) (h == q && b == k) here in
      let z = and_parts (h == q) (b == k) y.1 in
      subst (λ i. P i q k) (sym (eqb-true p w y.0)) (subst (λ i. P w i k) (eqb-true h q z.0) (subst (P w h) (eqb-true b k z.1) x))

  pub is_place : (p ≡ w) × (q ≡ h) × (k ≡ b) → (p == w && (h == q && b == k)) ≡ true
  is_place e = and_from (p == w) (h == q && b == k) (eq-eqb p w e.0) (and_from (h == q) (b == k) (eq-eqb h q (sym e.1)) (eq-eqb b k (sym e.2)))

  pub not_place : (p == w && (h == q && b == k)) ≡ false → (p ≡ w) × (q ≡ h) × (k ≡ b) → ⊥
  not_place there e = both_ways (p == w && (h == q && b == k)) there (is_place e)
