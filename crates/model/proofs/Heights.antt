-- One number for a pair, which orders as clock, then step does. Assumes nothing.
use Rattle.std.proofs.Common.{◌≡◌, ℕ, ◌+◌, ◌*◌, ◌<◌, true, ltb, Some, None, Option, arith}
use Rattle.std.proofs.lemmas.Bool.{leb-true}
use Rattle.records.specs.Keys.{pair_before, decided_before}
use Rattle.records.proofs.Ranks.{rank, pair_rank, stamp_rank_lem}
use Rattle.records.specs.declared.stamp.Pair.{Pair}
use Rattle.records.specs.declared.notice.Decided.{Decided}
use Rattle.records.specs.declared.notice.Record.{Record}
use Rattle.records.specs.declared.notice.Record.TheVariants.{Notice as Carries, Empty}
use Rattle.model.specs.Stamping.{step_fits}

-- not open to computation: a proof sees one number
unfoldable pub height : Pair → ℕ
height p = rank p

abbrev pub height_of : Decided → ℕ
height_of x = height x.stamp.pair

-- the place of a decided notice in the common order
abbrev pub key : Decided → ℕ
key x = height_of x * 8 + x.stamp.port

abbrev pub level : Record → ℕ
level (Carries d) = height_of d
level (Empty s) = height s.pair

-- a floor or a clearance: 0 for none
abbrev pub bound : Option Pair → ℕ
bound None = 0
bound (Some p) = height p + 1

-- the step has two bytes
abbrev pub Small : Pair → Type 0
Small p = p.step < 65536

abbrev pub AnySmall : Option Pair → Type 0
AnySmall None = Unit {0}
AnySmall (Some p) = Small p

pub fits_small : (p : Pair) → step_fits p ≡ true → Small p
fits_small p e = let k = leb-true p.step 65535 e in omega (arith, k)

pub pair_height : (x y : Pair) → Small x → Small y → pair_before x y ≡ ltb (height x) (height y)
unfolding height
pair_height x y p q = pair_rank x y p q

pub decided_key_lem : (x y : Decided) → Small x.stamp.pair → Small y.stamp.pair → x.stamp.port < 8 → y.stamp.port < 8 → decided_before x y ≡ ltb (key x) (key y)
unfolding height
decided_key_lem x y p q r s = stamp_rank_lem x.stamp y.stamp p q r s
