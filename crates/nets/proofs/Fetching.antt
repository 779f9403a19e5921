-- When a fetch is refused, and when not. Assumes nothing.
use Rattle.std.proofs.Common.{◌≡◌, ℕ, ◌<◌, Bool, true, false, cond, not, ◌&&◌, ◌||◌, eqb, ltb, leb, List, ◌∷◌, Some, None, Ok, IsOk, Err, Option, Result, sym, refl, ap, ◌∙◌, subst, arith}
use mathlib.Core.List.Memᴰ
use Rattle.std.proofs.lemmas.Bool.{eq-eqb, ne_eqb, le-ltb, cond-true, cond-false}
use Rattle.records.specs.declared.fault.NetFault.{NetFault}
use Rattle.records.specs.declared.fault.NetFault.TheVariants.{NoSuchPort, OutOfReach, NothingArrived, SourceWaitingFull}
use Rattle.records.specs.declared.notice.Decided.{Decided}
use Rattle.records.specs.declared.notice.Record.{Record}
use Rattle.records.specs.declared.notice.Record.TheVariants.{Notice as Carries, Empty}
use Rattle.boards.specs.Rules.{Rule}
use Rattle.wires.specs.Lines.{Line, Lines, LookAnswers, TakeAnswers, Taken}
use Rattle.model.specs.Batches.{goes_to, count_from}
use Rattle.model.specs.Histories.{History, Lived}
use Rattle.model.specs.Law.{In}
use Rattle.model.specs.Refusals.{oldest, oldest_of, is_none, is_notice, fetch_fault}
use Rattle.model.specs.Steps.{after_fetch}
use Rattle.model.specs.Views.{View, outside, sends}
use Rattle.model.proofs.Sound.{whole}
use Rattle.ports.specs.declared.port.Port.{Port}
use Rattle.ports.specs.Ports.{port_view, misfits, admit_fault, Admits, Became}
use Rattle.nets.proofs.Keeping.{stops, passes}

-- what look answers is the oldest record that has arrived
pub looked : (l : Line) (x : Record) → LookAnswers l (Some x) → oldest l ≡ Some x
looked l x a = cond-false (eqb l.arrived 0) None (oldest_of l.held) (ne_eqb l.arrived 0 (λ z. omega (arith, a.some))) ∙ ap oldest_of a.oldest.1

pub not_looked : (l : Line) → LookAnswers l None → oldest l ≡ None
not_looked l a = cond-true (eqb l.arrived 0) None (oldest_of l.held) (eq-eqb l.arrived 0 a)

-- and take then takes that one
pub taken_so : (old new : Lines) (a b : ℕ) (x : Record) (r : Option Record) → LookAnswers (old a b) (Some x) → TakeAnswers old new a b r → Taken old new a b x
taken_so old new a b x None l t = absurd (omega (arith, l.some, t.none))
taken_so old new a b x (Some y) l t = let e : y ≡ x = same y x (new a b).held l.oldest.0 (sym t.held ∙ l.oldest.1) in subst (Taken old new a b) e t
  where
    same : (y x : Record) (ys xs : List Record) → y ∷ ys ≡ x ∷ xs → y ≡ x
    same y x ys xs e = cc

-- a notice on a line is of its source and addressed to its end, after every history
abbrev pub Genuine : ℕ → ℕ → Record → Type 0
Genuine source port (Carries d) = (d.stamp.port ≡ source) × (goes_to port d ≡ true)
Genuine source port (Empty s) = Unit {0}

pub genuine : {depth : ℕ} {rule : Rule} (h : History) (v : View) → Lived depth rule h v → (source port : ℕ) (x : Record) → In x (v.line source port).held → Genuine source port x
genuine h v l source port (Carries d) m = let r = (whole l).1.order.rides source port d m in (r.source, r.to)
genuine h v l source port (Empty s) m = tt

pub misfit_is : (own source : ℕ) (x : Record) (ds : List Decided) → Genuine source own x → misfits own source x ds ≡ (is_notice (Some x) && leb 8 (count_from source ds))
misfit_is own source (Carries d) ds g =
    ap (λ b. not b || (not (goes_to own d) || leb 8 (count_from source ds))) (eq-eqb d.stamp.port source g.0)
    ∙ ap (λ b. not b || leb 8 (count_from source ds)) g.1
misfit_is own source (Empty s) ds g = refl

module _ (v : View) (port source : ℕ) (there : (outside v.table port || outside v.table source) ≡ false) where
  abbrev x : Option Record
  x = oldest (v.line source port)

  pub no_reach : not (sends v.table source port) ≡ true → fetch_fault v port source ≡ Some OutOfReach
  no_reach e = passes NoSuchPort _ _ there ∙ stops OutOfReach _ _ e

  module _ (sent : not (sends v.table source port) ≡ false) where
    pub none_arrived : x ≡ None → fetch_fault v port source ≡ Some NothingArrived
    none_arrived e = passes NoSuchPort _ _ there ∙ passes OutOfReach _ _ sent ∙ stops NothingArrived (is_none x) _ (ap is_none e)

    module _ (got : Record) (is : x ≡ Some got) (b : Bool) (full : (is_notice (Some got) && leb 8 (count_from source (v.port port).waiting)) ≡ b) where
      fault_is : fetch_fault v port source ≡ cond b (Some SourceWaitingFull) None
      fault_is =
          passes NoSuchPort _ _ there
          ∙ passes OutOfReach _ _ sent
          ∙ passes NothingArrived (is_none x) _ (ap is_none is)
          ∙ ap (λ y. cond (is_notice y && leb 8 (count_from source (v.port port).waiting)) (Some SourceWaitingFull) None) is
          ∙ ap (λ y. cond y (Some SourceWaitingFull) None) full

      pub full_up : b ≡ true → fetch_fault v port source ≡ Some SourceWaitingFull
      full_up e = fault_is ∙ cond-true b (Some SourceWaitingFull) None e

      pub has_room : b ≡ false → fetch_fault v port source ≡ None
      has_room e = fault_is ∙ cond-false b (Some SourceWaitingFull) None e

-- the oldest record is one of the line's
pub oldest_in : (l : Line) (x : Record) → LookAnswers l (Some x) → In x l.held
oldest_in l x a = subst (In x) (sym a.oldest.1) (here_in x a.oldest.0)
  where
    here_in : (x : Record) (xs : List Record) → In x (x ∷ xs)
    here_in x xs = Memᴰ.head refl

-- a record that the port can take is not refused, and is admitted
pub admit_ok : (p q : Port) (source : ℕ) (x : Record) (r : Result (Unit {0}) NetFault) → source < 8 → misfits p.own source x (port_view p).waiting ≡ false → Admits p q source x r → IsOk r
admit_ok p q source x (Ok u) lt e a = refl
admit_ok p q source x (Err f) lt e a =
    let none : admit_fault p source x ≡ None = passes NoSuchPort (ltb 7 source) _ (le-ltb 7 source (omega arith)) ∙ passes SourceWaitingFull (misfits p.own source x (port_view p).waiting) None e in
    let bad = sym none ∙ a.0 in
    let z : ◌≡◌ {A = ℕ} 0 1 = cc in
    absurd (omega arith)

pub admitted : (p q : Port) (source : ℕ) (x : Record) (r : Result (Unit {0}) NetFault) → source < 8 → misfits p.own source x (port_view p).waiting ≡ false → Admits p q source x r → Became p q (after_fetch source x (port_view p))
admitted p q source x (Ok u) lt e a = a.1
admitted p q source x (Err f) lt e a = absurd (let no = admit_ok p q source x (Err f) lt e a in let z : ◌≡◌ {A = ℕ} 0 1 = cc in omega arith)
