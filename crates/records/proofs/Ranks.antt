-- One number for a pair and one for a stamp, which order as they do where a step is below 65,536 and a port below 8. Assumes nothing.
use Rattle.std.proofs.Common.{◌≡◌, ℕ, ◌+◌, ◌*◌, ◌<◌, ltb, ap, ◌∙◌, arith}
use Rattle.std.proofs.lemmas.Bool.Decides.{nat_tests}
use Rattle.records.specs.Keys.{pair_before, stamp_before}
use Rattle.records.specs.declared.stamp.Pair.{Pair}
use Rattle.records.specs.declared.stamp.Stamp.{Stamp}

abbrev pub rank : Pair → ℕ
rank x = x.clock * 65536 + x.step

abbrev pub stamp_rank : Stamp → ℕ
stamp_rank x = rank x.pair * 8 + x.port

-- the number orders pairs as clock, then step does
pub pair_rank : (x y : Pair) → x.step < 65536 → y.step < 65536 → pair_before x y ≡ ltb (rank x) (rank y)
pair_rank x y p q = grind (arith, nat_tests)

-- the number orders stamps as pair, then port does
pub stamp_rank_lem : (x y : Stamp) → x.pair.step < 65536 → y.pair.step < 65536 → x.port < 8 → y.port < 8 → stamp_before x y ≡ ltb (stamp_rank x) (stamp_rank y)
stamp_rank_lem x y p q r s = grind (arith, nat_tests)

pub pair_is : (x y : Pair) → x.clock ≡ y.clock → x.step ≡ y.step → x ≡ y
pair_is x y c s = ap (λ n. let z : Pair = record { clock = n; step = x.step } in z) c ∙ ap (λ n. let z : Pair = record { clock = y.clock; step = n } in z) s

pub stamp_is : (x y : Stamp) → x.pair ≡ y.pair → x.port ≡ y.port → x ≡ y
stamp_is x y p n = ap (λ r. let z : Stamp = record { pair = r; port = x.port } in z) p ∙ ap (λ m. let z : Stamp = record { pair = y.pair; port = m } in z) n

-- no two pairs have one number
pub pair_same : (x y : Pair) → x.step < 65536 → y.step < 65536 → rank x ≡ rank y → x ≡ y
pair_same x y p q e = pair_is x y (omega arith) (omega arith)

-- no two stamps have one number
pub stamp_same : (x y : Stamp) → x.pair.step < 65536 → y.pair.step < 65536 → x.port < 8 → y.port < 8 → stamp_rank x ≡ stamp_rank y → x ≡ y
stamp_same x y p q r s e = stamp_is x y (pair_same x.pair y.pair p q (omega arith)) (omega arith)
