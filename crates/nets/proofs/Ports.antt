-- One of the ports changes. Assumes nothing.
use Rattle.std.proofs.Common.{◌≡◌, ℕ, zero, suc, ◌<◌, cond, eqb, List, [], ◌∷◌, map, length, get_or, set, sym, refl, ap, ◌∙◌, ⊎_elim, arith}
use Rattle.std.proofs.lemmas.List.{get_or-map, get_or-set_same, get_or-set_other, map-set, set-get_or, length-map}
use Rattle.std.proofs.lemmas.Bool.{cases_eq, cond-true, cond-false, eq-eqb, ne_eqb}
use Rattle.model.specs.Views.{PortView, fresh}
use Rattle.ports.specs.declared.port.Port.{Port}
use Rattle.ports.specs.Ports.{port_view}
use Rattle.nets.specs.Views.{ports_of}

-- the port's number is its place
abbrev pub Numbered : List Port → Type 0
Numbered ps = map (λ p. p.own) ps ≡ 0 ∷ 1 ∷ 2 ∷ 3 ∷ 4 ∷ 5 ∷ 6 ∷ 7 ∷ []

pub eight : (ps : List Port) → Numbered ps → length ps ≡ 8
eight ps n = sym (length-map ps (λ p. p.own)) ∙ ap length n

numbers : (k : ℕ) → k < 8 → get_or (0 ∷ 1 ∷ 2 ∷ 3 ∷ 4 ∷ 5 ∷ 6 ∷ 7 ∷ []) k 0 ≡ k
numbers zero h = refl
numbers (suc zero) h = refl
numbers (suc (suc zero)) h = refl
numbers (suc (suc (suc zero))) h = refl
numbers (suc (suc (suc (suc zero)))) h = refl
numbers (suc (suc (suc (suc (suc zero))))) h = refl
numbers (suc (suc (suc (suc (suc (suc zero)))))) h = refl
numbers (suc (suc (suc (suc (suc (suc (suc zero))))))) h = refl
numbers (suc (suc (suc (suc (suc (suc (suc (suc k)))))))) h = absurd (omega arith)

pub in_ports : (ps : List Port) (at : ℕ) → Numbered ps → at < 8 → at < length ps
in_ports ps at n lt = omega (arith, eight ps n)

-- the port at a place, read with whatever default
module _ (ps : List Port) (at : ℕ) (n : Numbered ps) (lt : at < 8) (d : Port) where
  inside : at < length ps
  inside = in_ports ps at n lt

  pub port_is : ports_of ps at ≡ port_view (get_or ps at d)
  port_is = get_or-map port_view ps at d fresh inside

  pub own_is : (get_or ps at d).own ≡ at
  own_is = sym (get_or-map (λ p. p.own) ps at d 0 inside) ∙ ap (λ xs. get_or xs at 0) n ∙ numbers at lt

  pub only_port : (new : Port) (after : PortView → PortView) → port_view new ≡ after (port_view (get_or ps at d)) → (q : ℕ) → ports_of (set ps at new) q ≡ cond (eqb q at) (after (ports_of ps q)) (ports_of ps q)
  only_port new after e q =
      let mapped : ports_of (set ps at new) q ≡ get_or (set (map port_view ps) at (port_view new)) q fresh = ap (λ vs. get_or vs q fresh) (map-set port_view ps at new) in
      ⊎_elim
      (λ (same : q ≡ at).
      mapped
      ∙ ap (λ k. get_or (set (map port_view ps) at (port_view new)) k fresh) same
      ∙ get_or-set_same (map port_view ps) at (port_view new) fresh (omega (arith, inside, length-map ps port_view))
      ∙ e
      ∙ ap after (sym port_is ∙ ap (ports_of ps) (sym same))
      ∙ sym (cond-true (eqb q at) (after (ports_of ps q)) (ports_of ps q) (eq-eqb q at same)))
      (λ (other : q ≡ at → ⊥). mapped ∙ get_or-set_other (map port_view ps) at q (port_view new) fresh other ∙ sym (cond-false (eqb q at) (after (ports_of ps q)) (ports_of ps q) (ne_eqb q at other)))
      (cases_eq q at)

  pub numbered_still : (new : Port) → new.own ≡ (get_or ps at d).own → Numbered (set ps at new)
  numbered_still new e =
      map-set (λ p. p.own) ps at new
      ∙ ap (set (map (λ p. p.own) ps) at) (e ∙ sym (get_or-map (λ p. p.own) ps at d 0 inside))
      ∙ set-get_or (map (λ p. p.own) ps) at 0
      ∙ n
