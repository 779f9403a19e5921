-- When a release is refused, and when not. Assumes nothing.
use Rattle.std.proofs.Common.{◌≡◌, ℕ, ◌<◌, ◌≤◌, false, ◌&&◌, eqb, ltb, List, [], ◌∷◌, length, Some, None, Option, sym, ap, ◌∙◌, subst, arith}
use Rattle.std.proofs.lemmas.Bool.{eq-eqb, ne_eqb, lt-ltb, le-ltb}
use Rattle.records.specs.Reaching.{sends}
use Rattle.records.specs.declared.fault.NetFault.TheVariants.{NoSuchPort, NothingWaits, Held}
use Rattle.records.specs.declared.notice.Decided.{Decided}
use Rattle.records.specs.declared.reach.Reach.{Reach}
use Rattle.model.specs.Holding.{holds, holders}
use Rattle.model.specs.Lists.{mask_of, rest}
use Rattle.model.specs.Refusals.{held_by, release_fault}
use Rattle.model.specs.Steps.{after_release}
use Rattle.model.specs.Views.{PortView, View, outside}
use Rattle.ports.specs.declared.port.Port.{Port}
use Rattle.ports.specs.Held.{Lowest}
use Rattle.ports.specs.Ports.{port_view, holders_of, Became, Releases}
use Rattle.nets.specs.Views.{table_of}
use Rattle.nets.proofs.Keeping.{stops, passes}

-- the holders that the port finds are those of the rules
pub held_is : (r : Reach) (port : ℕ) (p : Port) (o : PortView) (n : Decided) → o ≡ port_view p → p.own ≡ port → Lowest o.waiting (Some n) → holders_of r.masks p.own (port_view p) n.stamp.pair ≡ held_by (table_of r) port o o.waiting
held_is r port p o n e own low =
    ap (λ q. mask_of 8 (λ f. sends r.masks f q && holds ((port_view p).clearance f) n.stamp.pair)) own
    ∙ ap (λ x. holders (table_of r) port x n.stamp.pair) (sym e)
    ∙ sym (ap (held_by (table_of r) port o) low)

module _ (v : View) (port : ℕ) (there : outside v.table port ≡ false) where
  abbrev o : PortView
  o = v.port port

  abbrev m : ℕ
  m = held_by v.table port o o.waiting

  pub none_waits : o.waiting ≡ [] → release_fault v port ≡ Some NothingWaits
  none_waits e = passes NoSuchPort (outside v.table port) _ there ∙ stops NothingWaits (eqb (length o.waiting) 0) _ (eq-eqb (length o.waiting) 0 (ap length e))

  one_waits : (n : Decided) → Lowest o.waiting (Some n) → eqb (length o.waiting) 0 ≡ false
  one_waits n low = ne_eqb (length o.waiting) 0 (λ z. omega (arith, ap length low))

  pub is_held : (n : Decided) (bits : ℕ) → Lowest o.waiting (Some n) → bits ≡ m → 0 < bits → release_fault v port ≡ Some (Held (record { bits = bits }))
  is_held n bits low e some =
      passes NoSuchPort (outside v.table port) _ there
      ∙ passes NothingWaits (eqb (length o.waiting) 0) _ (one_waits n low)
      ∙ stops (Held (record { bits = m })) (ltb 0 m) None (lt-ltb 0 m (omega arith))
      ∙ ap (λ b. Some (Held (record { bits = b }))) (sym e)

  pub is_free : (n : Decided) (bits : ℕ) → Lowest o.waiting (Some n) → bits ≡ m → bits ≤ 0 → release_fault v port ≡ None
  is_free n bits low e none =
      passes NoSuchPort (outside v.table port) _ there
      ∙ passes NothingWaits (eqb (length o.waiting) 0) _ (one_waits n low)
      ∙ passes (Held (record { bits = m })) (ltb 0 m) None (le-ltb 0 m (omega arith))

-- what the port released is what was lowest before
pub released_so : (old new : Port) (r : Option Decided) (n : Decided) → Releases old new r → Lowest (port_view old).waiting (Some n) → Became old new (after_release n (port_view old))
released_so old new None n e low = let z = ap length (sym e.0 ∙ low) in absurd (omega arith)
released_so old new (Some x) n e low = let same : x ≡ n = first_same x n (rest (port_view old).waiting) (sym e.0 ∙ low) in subst (λ y. Became old new (after_release y (port_view old))) same e.1
  where
    first_same : (x n : Decided) (xs : List Decided) → x ∷ xs ≡ n ∷ xs → x ≡ n
    first_same x n xs e = cc
