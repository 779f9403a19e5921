-- The edges hold.
use Rattle.std.proofs.Common.{◌≡◌, ℕ, ◌<◌, max, Bool, true, false, cond, not, eqb, List, ◌∷◌, Some, Option, refl, ap, ◌∙◌}
use Rattle.std.proofs.lemmas.Bool.{lt-ltb, eq-eqb, cond-true, and_left}
use Rattle.records.specs.declared.fault.NetFault.TheVariants.{NoSuchPort, StepUsedUp}
use Rattle.records.specs.declared.notice.Handed.{Handed}
use Rattle.model.specs.Stamping.{next_pair, step_fits, stamped, stampable}
use Rattle.model.specs.Views.{PortView, View, outside}
use Rattle.model.specs.Calls.{HandIn, handed_of}
use Rattle.model.specs.Refusals.{clear_fault, clearance_stamp}
use Rattle.model.specs.Steps.{after_hand_in}
use Rattle.model.specs.Edges.{pair, Edges}

second_test : {X : Type 0} (a b : Bool) (f g : X) (next : Option X) → a ≡ false → b ≡ true → cond a (Some f) (cond b (Some g) next) ≡ Some g
second_test a b f g next p q = ap (λ z. cond z (Some f) (cond b (Some g) next)) p ∙ ap (λ z. cond z (Some g) next) q

used_up : (depth : ℕ) (v : View) (p : ℕ) → p < v.table.ports → (v.port p).floor ≡ Some (pair 100 65535) → clear_fault depth v p 100 ≡ Some StepUsedUp
used_up depth v p low e = second_test (outside v.table p) (not (step_fits (clearance_stamp v p 100).pair)) NoSuchPort StepUsedUp _ (ap not (lt-ltb p v.table.ports low)) (ap (λ o. not (step_fits (next_pair o 100))) e)

none_fits : (p : ℕ) (n : Handed) (ns : List Handed) → n.clock ≡ 100 → stampable (stamped p (Some (pair 100 65535)) (n ∷ ns)) ≡ false
none_fits p n ns e = and_left (step_fits (next_pair (Some (pair 100 65535)) n.clock)) (stampable (stamped p (Some (next_pair (Some (pair 100 65535)) n.clock)) ns)) (ap (λ c. step_fits (next_pair (Some (pair 100 65535)) c)) e)

clocks : (o : PortView) (x y : HandIn) → o.clock x.dispatcher ≡ 0 → y.dispatcher ≡ x.dispatcher → x.reading ≡ 50 → y.reading ≡ 40 → ((handed_of o x).clock ≡ 50) × ((handed_of (after_hand_in x o) y).clock ≡ 50)
clocks o x y z d r s =
    let first : (handed_of o x).clock ≡ 50 = ap (λ n. max n x.reading) z ∙ ap (λ n. max 0 n) r in
    (first, ap (λ n. max n y.reading) (cond-true (eqb y.dispatcher x.dispatcher) (handed_of o x).clock (o.clock y.dispatcher) (eq-eqb y.dispatcher x.dispatcher d) ∙ first) ∙ ap (λ n. max 50 n) s)

pub edges : Edges
edges = record { later = refl; same = refl; earlier = refl; used_up = used_up; none_fits = none_fits; number = refl; anew = refl; stamps = refl; held = refl; not_held = refl; seven_leaves = refl; clocks = clocks }
