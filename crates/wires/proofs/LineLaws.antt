-- What users of a wire need to know of its lines. Assumes nothing.
use Rattle.std.proofs.Common.{◌≡◌, ℕ, ◌<◌, true, not, ◌&&◌, eqb, ltb, length, Ok, Err, Result, IsOk, refl, sym, subst, ⊎_elim, arith}
use Rattle.std.proofs.lemmas.Bool.{cases_eq, and_parts, ltb-true, eqb-false, not-true}
use Rattle.records.specs.declared.fault.NetFault.{NetFault}
use Rattle.records.specs.declared.notice.Record.{Record}
use Rattle.wires.specs.Lines.{Lines, is_line, depth_of, Put, PutAnswers}

-- the two ports of a line
pub line_ports : (p q : ℕ) → is_line p q ≡ true → (p < 8) × (q < 8) × (p ≡ q → ⊥)
line_ports p q e =
    let a = and_parts (ltb p 8) (ltb q 8 && not (eqb p q)) e in
    let b = and_parts (ltb q 8) (not (eqb p q)) a.1 in
    (ltb-true p 8 a.0, ltb-true q 8 b.0, eqb-false p q (not-true (eqb p q) b.1))

-- a `put` on a line with space was done
pub put_since_space : {X : Type 0} (d : ℕ) (old new : Lines) (a b : ℕ) (x : Record) (r : Result X NetFault) → PutAnswers d old new a b x r → length (old a b).held < depth_of d a b → Put d old new a b x
put_since_space d old new a b x (Ok y) h l = h
put_since_space d old new a b x (Err y) h l = absurd (omega (arith, h.1.full))

pub ok_since_space : {X : Type 0} (d : ℕ) (old new : Lines) (a b : ℕ) (x : Record) (r : Result X NetFault) → PutAnswers d old new a b x r → length (old a b).held < depth_of d a b → IsOk r
ok_since_space d old new a b x (Ok y) h l = refl
ok_since_space d old new a b x (Err y) h l = absurd (omega (arith, h.1.full))

-- what holds of the line from a to b, and of every other, holds of all
pub by_line : (a b : ℕ) (P : ℕ → ℕ → Type 0) → P a b → ((p q : ℕ) → ((p ≡ a) × (q ≡ b) → ⊥) → P p q) → (p q : ℕ) → P p q
by_line a b P here other p q =
    ⊎_elim
    (λ (ep : p ≡ a).
    ⊎_elim
    (λ (eq : q ≡ b). subst (λ i. P i q) (sym ep) (subst (λ i. P a i) (sym eq) here))
    (λ (nq : q ≡ b → ⊥). other p q (λ h. nq h.1))
    (cases_eq q b))
    (λ (np : p ≡ a → ⊥). other p q (λ h. np h.0))
    (cases_eq p a)
