-- A loop that stamps what passes: its invariant, a turn of it and its end. Assumes nothing.
use Rattle.std.proofs.Common.{◌≡◌, ℕ, ◌+◌, true, false, not, ◌&&◌, List, [], ◌∷◌, ◌++◌, length, Some, None, Option, sym, refl, ap, ◌∙◌, subst, arith}
use Rattle.std.proofs.lemmas.List.{append_assoc, append-nil, length-append}
use Rattle.std.proofs.lemmas.Bool.{and_parts, and_from, and_left, not_from_false}
use Rattle.std.proofs.lemmas.Bool.Decides.{nat_tests}
use Rattle.ordered.specs.Orders.{all_pass, placed}
use Rattle.ordered.proofs.Lasts.{placed_behind}
use Rattle.ordered.proofs.Rises.{all_placed}
use Rattle.records.specs.Keys.{pair_before, decided_before}
use Rattle.records.specs.declared.notice.Decided.{Decided}
use Rattle.records.specs.declared.notice.Handed.{Handed}
use Rattle.records.specs.declared.stamp.Pair.{Pair}
use Rattle.model.specs.Stamping.{next_pair, step_fits, stamped_by, stamped, stampable, floor_after}

-- no notice of them has a pair above the last
abbrev pub AtMost : Option Pair → List Decided → Type 0
AtMost None ds = ds ≡ []
AtMost (Some p) ds = all_pass (λ d. not (pair_before p d.stamp.pair)) ds ≡ true

-- what is stamped next is above them all
above : (port : ℕ) (n : Handed) (p : Pair) (d : Decided) → not (pair_before p d.stamp.pair) ≡ true → decided_before (stamped_by port (next_pair (Some p) n.clock) n) d ≡ false
above port n p d h = grind (arith, nat_tests)

pub at_most_none : (last : Option Pair) (ds : List Decided) → ds ≡ [] → AtMost last ds
at_most_none None ds e = e
at_most_none (Some p) ds e = ap (all_pass (λ d. not (pair_before p d.stamp.pair))) e

not_before : (port : ℕ) (n : Handed) (last : Option Pair) (ds : List Decided) → AtMost last ds → all_pass (λ d. not (decided_before (stamped_by port (next_pair last n.clock) n) d)) ds ≡ true
not_before port n None ds e = ap (all_pass (λ d. not (decided_before (stamped_by port (next_pair None n.clock) n) d))) e
not_before port n (Some p) [] h = refl
not_before port n (Some p) (d ∷ ds) h =
    let both = and_parts (not (pair_before p d.stamp.pair)) (all_pass (λ d. not (pair_before p d.stamp.pair)) ds) h in
    and_from _ _ (not_from_false _ (above port n p d both.0)) (not_before port n (Some p) ds both.1)

-- nor is any of them above the next
under : (p q : Pair) (d : Decided) → pair_before p q ≡ true → not (pair_before p d.stamp.pair) ≡ true → not (pair_before q d.stamp.pair) ≡ true
under p q d lt h = grind (arith, nat_tests)

rises : (p : Pair) (clock : ℕ) → pair_before p (next_pair (Some p) clock) ≡ true
rises p clock = grind (arith, nat_tests)

all_under : (p q : Pair) (ds : List Decided) → pair_before p q ≡ true → AtMost (Some p) ds → AtMost (Some q) ds
all_under p q [] lt h = refl
all_under p q (d ∷ ds) lt h =
    let both = and_parts (not (pair_before p d.stamp.pair)) (all_pass (λ d. not (pair_before p d.stamp.pair)) ds) h in
    and_from _ _ (under p q d lt both.0) (all_under p q ds lt both.1)

at_most_next : (last : Option Pair) (clock : ℕ) (ds : List Decided) → AtMost last ds → AtMost (Some (next_pair last clock)) ds
at_most_next None clock ds e = at_most_none (Some (next_pair None clock)) ds e
at_most_next (Some p) clock ds h = all_under p (next_pair (Some p) clock) ds (rises p clock) h

not_itself : (p : Pair) → not (pair_before p p) ≡ true
not_itself p = grind (arith, nat_tests)

-- those made, and what the notices `rest` still give above the floor `last`, are all
pub record Going (port : ℕ) (first : Option Pair) (all : List Decided) (last : Option Pair) (out : List Decided) (rest : List Handed) : Type 0 where
  pub made : out ++ stamped port last rest ≡ all
  pub floor : floor_after last (stamped port last rest) ≡ floor_after first all
  pub fit : stampable (stamped port last rest) ≡ stampable all

module _ {port : ℕ} {first last : Option Pair} {all out new : List Decided} where
  pub going_more : (n : Handed) (pair : Pair) (rest : List Handed) → Going port first all last out (n ∷ rest) → AtMost last out → pair ≡ next_pair last n.clock → step_fits (next_pair last n.clock) ≡ true → new ≡ placed decided_before (stamped_by port pair n) out → (length new ≡ length out + 1) × AtMost (Some pair) new × Going port first all (Some pair) new rest
  going_more n pair rest g at e small put =
      let p = next_pair last n.clock in
      let x = stamped_by port p n in
      let is : new ≡ out ++ x ∷ [] = put ∙ ap (λ q. placed decided_before (stamped_by port q n) out) e ∙ placed_behind decided_before x out (not_before port n last out at) in (
        ap length is ∙ length-append out (x ∷ []),
        subst (λ q. AtMost (Some q) new) (sym e) (ap (all_pass (λ d. not (pair_before p d.stamp.pair))) (put ∙ ap (λ q. placed decided_before (stamped_by port q n) out) e) ∙ all_placed decided_before x (λ d. not (pair_before p d.stamp.pair)) out (at_most_next last n.clock out at) (not_itself p)),
        subst (λ q. Going port first all (Some q) new rest) (sym e) record {
          made = ap (λ ys. ys ++ stamped port (Some p) rest) is ∙ append_assoc out (x ∷ []) (stamped port (Some p) rest) ∙ g.made;
          floor = g.floor;
          fit = sym (ap (λ b. b && stampable (stamped port (Some p) rest)) small) ∙ g.fit;
        },
      )

module _ {port : ℕ} {first last : Option Pair} {all out : List Decided} where
  pub going_over : (n : Handed) (rest : List Handed) → Going port first all last out (n ∷ rest) → step_fits (next_pair last n.clock) ≡ false → stampable all ≡ false
  going_over n rest g h = sym g.fit ∙ and_left _ _ h

  pub going_all : Going port first all last out [] → (out ≡ all) × (last ≡ floor_after first all) × (stampable all ≡ true)
  going_all g = (sym (append-nil out) ∙ g.made, g.floor, sym g.fit)
