-- What the law of one order needs of the rules for floors, clearances and holding.
use Rattle.std.proofs.Common.{◌≡◌, ℕ, ◌+◌, ◌<◌, ◌≤◌, max, false, cond, eqb, Some, None, Option, refl, inl, inr, arith}
use Rattle.std.proofs.lemmas.Bool.{cases_Bool, cond_both, true≢false}
use Rattle.std.proofs.lemmas.Bool.Decides.{nat_tests}
use Rattle.records.specs.Keys.{pair_before}
use Rattle.records.specs.declared.stamp.Pair.{Pair}
use Rattle.records.specs.declared.notice.Decided.{Decided}
use Rattle.records.specs.declared.notice.Record.{Record}
use Rattle.records.specs.declared.notice.Record.TheVariants.{Notice as Carries, Empty}
use Rattle.model.specs.Views.{PortView}
use Rattle.model.specs.Stamping.{next_pair, raised}
use Rattle.model.specs.Holding.{holds}
use Rattle.model.specs.Steps.{after_clear, after_fetch, after_release}
use Rattle.model.proofs.Heights.{height, level, bound, Small, AnySmall}

-- what a port stamps is above its floor
pub next_above : (floor : Option Pair) (clock : ℕ) → AnySmall floor → bound floor ≤ height (next_pair floor clock)
unfolding height
next_above None clock small = omega arith
next_above (Some p) clock small = grind (arith, nat_tests)

-- a clearance is under the port's new floor
pub clear_floor : (p : Pair) (o : PortView) → bound (after_clear p o).floor ≡ height p + 1
clear_floor p o = omega arith

-- so is a released notice, and the floor does not fall
pub release_floor : (n : Decided) (o : PortView) → AnySmall o.floor → Small n.stamp.pair → bound (after_release n o).floor ≡ max (bound o.floor) (height n.stamp.pair + 1)
unfolding height
release_floor n o s t = at o.floor refl s
  where
    at : (f : Option Pair) → o.floor ≡ f → AnySmall f → bound (after_release n o).floor ≡ max (bound o.floor) (height n.stamp.pair + 1)
    at None e k = rw e (omega arith)
    at (Some f) e k = rw e (grind (arith, nat_tests))

pub raised_small : (floor : Option Pair) (p : Pair) → AnySmall floor → Small p → AnySmall (raised floor p)
raised_small None p s t = t
raised_small (Some f) p s t = cond_both (pair_before f p) (Some p) (Some f) AnySmall (λ _. t) (λ _. s)

-- a clearance is the pair of the record fetched last, and not above it
pub fetch_clearance : (source : ℕ) (x : Record) (o : PortView) (g : ℕ) → bound ((after_fetch source x o).clearance g) ≡ cond (eqb g source) (level x + 1) (bound (o.clearance g))
unfolding height
fetch_clearance source (Carries d) o g = elim (cases_Bool (eqb g source)) [ inl e ↦ rw e (omega arith) | inr e ↦ rw e ]
fetch_clearance source (Empty s) o g = elim (cases_Bool (eqb g source)) [ inl e ↦ rw e (omega arith) | inr e ↦ rw e ]

-- whoever does not hold has a clearance that is not below the pair
pub not_held : (c : Option Pair) (p : Pair) → holds c p ≡ false → AnySmall c → Small p → height p < bound c
unfolding height
not_held None p e s k = absurd (true≢false e)
not_held (Some c) p e s k = grind (arith, nat_tests)
