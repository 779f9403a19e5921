-- What fetch and release keep.
use Rattle.std.proofs.Common.{◌≡◌, ℕ, ◌+◌, ◌<◌, Bool, true, false, cond, ◌&&◌, eqb, ltb, List, [], ◌∷◌, ◌++◌, length, Some, Option, sym, refl, ap, ◌∙◌, subst, inl, inr, append-nil, arith}
use mathlib.Core.List.Memᴰ
use Rattle.std.proofs.lemmas.List.Elements.{filter-append}
use Rattle.std.proofs.lemmas.List.Sums.{fold_push}
use Rattle.std.proofs.lemmas.Bool.{eqb-true, cases_Bool, and_parts, and_cases, cond-true, cond-false, ltb-false, true≢false}
use Rattle.records.specs.declared.fault.NetFault.TheVariants.{NoSuchPort, NothingWaits, Held}
use Rattle.records.specs.declared.stamp.Pair.{Pair}
use Rattle.records.specs.declared.notice.Decided.{Decided}
use Rattle.records.specs.declared.notice.Record.{Record}
use Rattle.records.specs.declared.notice.Record.TheVariants.{Notice as Carries, Empty}
use Rattle.boards.specs.Rules.{Rule, Vessels}
use Rattle.boards.specs.declared.outcome.Outcome.{Outcome}
use Rattle.model.specs.Lists.{rest}
use Rattle.model.specs.Views.{Table, View, sends, outside}
use Rattle.model.specs.Holding.{holds, holders}
use Rattle.model.specs.Refusals.{held_by}
use Rattle.model.specs.Steps.{Fetches, Releases, pair_of, joined, turned, is_about, after_fetch, after_release}
use Rattle.model.specs.Histories.{History, fetched, released, common, book}
use Rattle.model.specs.Law.{In, about, about_berth, said_by}
use Rattle.model.proofs.Heights.{height_of, level, bound, AnySmall, Small}
use Rattle.model.proofs.Rules.{release_floor, raised_small, fetch_clearance, not_held}
use Rattle.model.proofs.Inv.{State, Inv, taken}
use Rattle.model.proofs.Inv as Core
use Rattle.model.proofs.Fetch.{kept_by_fetch}
use Rattle.model.proofs.Release.{kept_by_release}
use Rattle.model.proofs.Batch.{Good, good_place}
use Rattle.model.proofs.Passing.{passes, mask_none}
use Rattle.model.proofs.Desks.{Desk}
use Rattle.model.proofs.Lives.{state_of, undecided_of, showing, Whole, cond_when, port_field, port_same, port_all, held_by_lem}

-- FETCH

both_tests : (a b : Bool) (n k : ℕ) → cond b (cond a n k) k ≡ cond (a && b) n k
both_tests true true n k = refl
both_tests true false n k = refl
both_tests false true n k = refl
both_tests false false n k = refl

small_changed : (b : Bool) (p : Pair) (c : Option Pair) → Small p → AnySmall c → AnySmall (cond b (Some p) c)
small_changed true p c s t = s
small_changed false p c s t = t

module _ (rule : Rule) (t : Table) (h : History) (v w : View) (port source : ℕ) (i : Whole rule t h v) (r : Fetches v port source w) where
  good_common : (y : Decided) → In y (common h) → Good y
  good_common y d = let k = i.order.known y d in record { small = k.small; port = k.port }

  first_in : In r.got (v.line source port).held
  first_in = rw r.lines.held (Memᴰ.head refl)

  joins : (x : Record) → r.got ≡ x → (q : ℕ) → joined x (v.port q).waiting ≡ taken x (v.port q).waiting
  joins (Carries d) e q = good_place d (v.port q).waiting (good_common d (i.order.rides source port d (subst (λ z. In z (v.line source port).held) e first_in)).common) (λ y a. good_common y (i.order.waits q y a).common)
  joins (Empty s) e q = refl

  fetches : Core.Fetches (state_of v) (state_of w) source port
  fetches = record {
    got = r.got;
    rest = (w.line source port).held;
    before = r.lines.held;
    floor = port_same v w port (after_fetch source r.got) r.ports (λ z. bound z.floor) (λ _. refl);
    clear = λ q g. port_field v w port (after_fetch source r.got) r.ports (λ z. bound (z.clearance g)) q ∙ ap (λ k. cond (eqb q port) k (bound ((v.port q).clearance g))) (fetch_clearance source r.got (v.port q) g) ∙ both_tests (eqb g source) (eqb q port) (level r.got + 1) (bound ((v.port q).clearance g));
    waiting = λ q. port_field v w port (after_fetch source r.got) r.ports (λ z. z.waiting) q ∙ ap (λ l. cond (eqb q port) l (v.port q).waiting) (joins r.got refl q);
    line = held_by_lem v.line w.line source port (w.line source port).held refl r.lines.others;
  }

  pub whole_fetch : Whole rule t (fetched port source ∷ h) w
  whole_fetch = record {
    table = r.table ∙ i.table;
    reaches = i.reaches;
    order = kept_by_fetch (sends t) (state_of v) (state_of w) (common h) (λ p. book p h) source port i.order fetches;
    floors = port_all v w port (after_fetch source r.got) r.ports (λ _ z. AnySmall z.floor) (λ a. a) i.floors;
    clears = λ q g. port_all v w port (after_fetch source r.got) r.ports (λ _ z. AnySmall (z.clearance g)) (small_changed (eqb g source) (pair_of r.got) ((v.port port).clearance g) (i.lines source port r.got first_in)) (λ z. i.clears z g) q;
    lines = λ g q y a. i.lines g q y (later g q y (subst (λ l. In y l) (held_by_lem v.line w.line source port (w.line source port).held refl r.lines.others g q) a));
    desks = port_all v w port (after_fetch source r.got) r.ports (Desk (sends t)) (λ k. k) i.desks;
    said = λ g d. i.said g d ∙ ap (λ l. said_by g d (common h) ++ l) (sym (port_same v w port (after_fetch source r.got) r.ports (undecided_of g d) (λ _. refl) g));
    shown = λ q a b. r.boards q a b ∙ i.shown q a b;
  }
    where
      later : (g q : ℕ) (y : Record) → In y (cond (eqb g source && eqb q port) (w.line source port).held (v.line g q).held) → In y (v.line g q).held
      later g q y a = elim (cases_Bool (eqb g source && eqb q port)) [
        | inl e ↦
            let both = and_parts (eqb g source) (eqb q port) e in
            let z : In y (v.line source port).held = rw r.lines.held (Memᴰ.tail (subst (λ l. In y l) (cond-true (eqb g source && eqb q port) (w.line source port).held (v.line g q).held e) a)) in
            subst (λ n. In y (v.line n q).held) (sym (eqb-true g source both.0)) (subst (λ n. In y (v.line source n).held) (sym (eqb-true q port both.1)) z)
        | inr e ↦ subst (λ l. In y l) (cond-false (eqb g source && eqb q port) (w.line source port).held (v.line g q).held e) a
      ]

-- RELEASE

showing_more : (rule : Rule) (p : ℕ) (b : Bool) (xs : List Decided) (n : Decided) → showing rule p (xs ++ cond b (n ∷ []) []) ≡ cond b (turned rule p n.notice (showing rule p xs)).list (showing rule p xs)
showing_more rule p true xs n = fold_push (λ l x. (turned rule p x.notice l).list) [] xs n
showing_more rule p false xs n = ap (showing rule p) (append-nil xs)

shown_cases : (rule : Rule) (p home berth : ℕ) (b : Bool) (xs : List Decided) (n : Decided) (s : Vessels) → s ≡ showing rule p (about_berth home berth xs)
    → cond (b && is_about home berth n.notice) (turned rule p n.notice s).list s ≡ showing rule p (about_berth home berth (cond b (xs ++ n ∷ []) xs))
shown_cases rule p home berth true xs n s e =
    ap (λ z. cond (is_about home berth n.notice) (turned rule p n.notice z).list z) e
    ∙ sym (showing_more rule p (is_about home berth n.notice) (about_berth home berth xs) n)
    ∙ ap (showing rule p) (sym (filter-append (about home berth) xs (n ∷ [])))
shown_cases rule p home berth false xs n s e = e

module _ (rule : Rule) (t : Table) (h : History) (v w : View) (port : ℕ) (n : Decided) (o : Outcome) (i : Whole rule t h v) (r : Releases rule v port n o w) where
  lowest_in : In n (v.port port).waiting
  lowest_in = rw r.lowest.1 (Memᴰ.head refl)

  small : Small n.stamp.pair
  small = (i.order.known n (i.order.waits port n lowest_in).common).small

  -- no sender holds it
  none_hold : holders v.table port (v.port port) n.stamp.pair ≡ 0
  none_hold =
      let a = passes (outside v.table port) NoSuchPort _ r.accepted in
      let b = passes (eqb (length (v.port port).waiting) 0) NothingWaits _ a.1 in
      let m : ℕ = held_by v.table port (v.port port) (v.port port).waiting in
      let c = passes (ltb 0 m) (Held (record { bits = m })) _ b.1 in
      ap (held_by v.table port (v.port port)) (sym r.lowest.1) ∙ zero_if m c.0
    where
      zero_if : (m : ℕ) → ltb 0 m ≡ false → m ≡ 0
      zero_if m e = let k = ltb-false 0 m e in omega (arith, k)

  free : (f : ℕ) → sends t f port ≡ true → height_of n < bound ((v.port port).clearance f)
  free f to =
      let low : f < 8 = let a = (i.reaches.inside f port to).0 in let b = i.reaches.most in omega (arith, a, b) in
      let e = mask_none 8 (λ g. sends v.table g port && holds ((v.port port).clearance g) n.stamp.pair) none_hold f low in
      elim (and_cases (sends v.table f port) (holds ((v.port port).clearance f) n.stamp.pair) e) [
        | inl z ↦ absurd (true≢false (sym (subst (λ y. sends y f port ≡ true) (sym i.table) to) ∙ z))
        | inr z ↦ not_held ((v.port port).clearance f) n.stamp.pair z (i.clears port f) small
      ]

  releases : Core.Releases (sends t) (state_of v) (state_of w) port n
  releases = record {
    others = r.lowest.0;
    before = r.lowest.1;
    free = free;
    floor = λ q. port_field v w port (after_release n) r.ports (λ z. bound z.floor) q ∙ ap (λ k. cond (eqb q port) k (bound (v.port q).floor)) (release_floor n (v.port q) (i.floors q) small);
    clear = λ q g. port_same v w port (after_release n) r.ports (λ z. bound (z.clearance g)) (λ _. refl) q;
    waiting = λ q. port_field v w port (after_release n) r.ports (λ z. z.waiting) q ∙ cond_when (eqb q port) _ _ _ (λ e. ap rest (ap (λ z. (v.port z).waiting) (eqb-true q port e) ∙ r.lowest.1));
    line = λ g q. ap (λ l. l.held) (r.lines g q);
  }

  pub whole_release : Whole rule t (released port n o ∷ h) w
  whole_release = record {
    table = r.table ∙ i.table;
    reaches = i.reaches;
    order = kept_by_release (sends t) (state_of v) (state_of w) (common h) (λ p. book p h) port n i.order releases;
    floors = port_all v w port (after_release n) r.ports (λ _ z. AnySmall z.floor) (λ a. raised_small (v.port port).floor n.stamp.pair a small) i.floors;
    clears = λ q g. port_all v w port (after_release n) r.ports (λ _ z. AnySmall (z.clearance g)) (λ a. a) (λ z. i.clears z g) q;
    lines = λ g q y a. i.lines g q y (subst (λ l. In y l.held) (r.lines g q) a);
    desks = port_all v w port (after_release n) r.ports (Desk (sends t)) (λ k. k) i.desks;
    said = λ g d. i.said g d ∙ ap (λ l. said_by g d (common h) ++ l) (sym (port_same v w port (after_release n) r.ports (undecided_of g d) (λ _. refl) g));
    shown = λ p a b. r.boards p a b ∙ shown_cases rule p a b (eqb p port) (book p h) n (v.shown p a b) (i.shown p a b);
  }
