-- The invariant survives the stamping of a notice.
use Rattle.std.proofs.Common.{◌≡◌, ℕ, ◌<◌, ◌≤◌, Bool, true, eqb, List, sym, refl, ap, ◌∙◌, subst, inl, inr, arith}
use mathlib.Core.List.Memᴰ
use Rattle.std.proofs.lemmas.Bool.{eqb-true, eqb-false, eq-eqb, cases_Bool, and_parts}
use Rattle.records.specs.declared.notice.Decided.{Decided}
use Rattle.records.specs.declared.notice.Record.{Record}
use Rattle.records.specs.declared.notice.Record.TheVariants.{Notice as Carries}
use Rattle.model.specs.Batches.{goes_to}
use Rattle.model.specs.Law.{In}
use Rattle.model.proofs.Heights.{height_of, key}
use Rattle.model.proofs.Inv.{State, Stamps, Inv, Split, Waits, Rides, Known, Pending}
use Rattle.model.proofs.Carry.{known_up, passed_up, waits_up, rides_up, marks_rise, marks_floor, marks_chain}
use Rattle.model.proofs.Lists.{Sorted, insert, by_cond, insert_cases, mem_insert, mem_inserted, sorted_insert, insert_append, kept_insert, kept_insert_not}

module _ (sends : ℕ → ℕ → Bool) (s t : State) (c : List Decided) (book : ℕ → List Decided) (f : ℕ) (m : Decided) (puts : ℕ → List Record) (i : Inv sends s c book) (r : Stamps sends s t f m puts) where
  rise : (q : ℕ) → s.floor q ≤ t.floor q
  rise = marks_rise s t f (height_of m) puts r.marks

  fresh : (b : Decided) → b.stamp.port < 8 → height_of b < s.floor f → key b < key m
  fresh b h k = omega (arith, r.marks.above)

  -- no notice of c has the key of m
  apart : (y : Decided) → In y c → key y ≡ key m → ⊥
  apart y d e =
      let k = i.known y d in
      let z : y.stamp.port ≡ f = omega (arith, e, k.port, r.port, r.source) in
      let b : height_of y < s.floor f = rw z at k.below in
      let up = fresh y k.port b in
      omega (arith, e, up)

  -- m comes after every notice of c from its port
  pub behind : (x : Decided) → In x c → x.stamp.port ≡ f → key x < key m
  behind x d e = let k = i.known x d in let b : height_of x < s.floor f = rw e at k.below in fresh x k.port b

  after_m : (q : ℕ) → goes_to q m ≡ true → (b : Decided) → In b (book q) → key b < key m
  after_m q to b d =
      let h = i.passed q b d in
      elim (cases_Bool (eqb q f)) [
        | inl e ↦ fresh b h.port (rw (eqb-true q f e) at h.own)
        | inr n ↦ fresh b h.port (h.other f (r.reach q to (eqb-false q f n)))
      ]

  known_m : Known t m
  known_m = record {
    port = subst (λ g. g < 8) (sym r.source) r.port;
    said = r.said ∙ sym r.source;
    small = r.small;
    below = subst (λ g. height_of m < t.floor g) (sym r.source) (rw (marks_floor s t f (height_of m) puts r.marks f (eq-eqb f f refl)) (omega arith));
  }

  known' : (x : Decided) → In x (insert key m c) → Known t x
  known' x d = elim (insert_cases key m c d) [
    | inl e ↦ subst (λ z. Known t z) (sym e) known_m
    | inr a ↦ known_up s t x rise (i.known x a)
  ]

  still : (q : ℕ) (x : Decided) → Pending s q x → Pending t q x
  still q x (inl a) = inl (by_cond (λ l. In x l) _ _ _ _ (r.waiting q) (λ _. mem_insert key m (s.waiting q) a) (λ _. a))
  still q x (inr a) = inr (by_cond (λ l. In (Carries x) l) _ _ _ _ (r.marks.line x.stamp.port q) (λ _. Memᴰ.append_left (puts q) a) (λ _. a))

  pending_m : (q : ℕ) → goes_to q m ≡ true → Pending t q m
  pending_m q to = elim (cases_Bool (eqb q f)) [
    | inl e ↦ inl (rw (r.waiting q, e, to) (mem_inserted key m (s.waiting q)))
    | inr n ↦ inr (subst (λ g. In (Carries m) (t.line g q)) (sym r.source) (rw (r.marks.line f q, eq-eqb f f refl) (Memᴰ.append_right (s.line f q) (r.copy q to (eqb-false q f n)))))
  ]

  split' : (q : ℕ) → Split t (insert key m c) (book q) q
  split' q = elim (cases_Bool (goes_to q m)) [
    | inl to ↦ record {
      rest = insert key m (i.split q).rest;
      is = kept_insert key (goes_to q) m c i.sorted to ∙ ap (insert key m) (i.split q).is ∙ insert_append key m (book q) (i.split q).rest (after_m q to);
      pending = λ x d. elim (insert_cases key m (i.split q).rest d) [ inl e ↦ subst (λ z. Pending t q z) (sym e) (pending_m q to) | inr a ↦ still q x ((i.split q).pending x a) ];
    }
    | inr n ↦ record {
      rest = (i.split q).rest;
      is = kept_insert_not key (goes_to q) m c n ∙ (i.split q).is;
      pending = λ x d. still q x ((i.split q).pending x d);
    }
  ]

  rising' : (q : ℕ) → Sorted key (t.waiting q)
  rising' q = by_cond (Sorted key) _ _ _ _ (r.waiting q) (λ _. sorted_insert key m (s.waiting q) (i.rising q) (λ y d. apart y (i.waits q y d).common)) (λ _. i.rising q)

  waits_m : (q : ℕ) → eqb q f ≡ true → goes_to q m ≡ true → Waits t (insert key m c) (book q) q m
  waits_m q e to = record { common = mem_inserted key m c; to = to; after = after_m q to; fetched = λ n. absurd (n (r.source ∙ sym (eqb-true q f e))) }

  waits_on : (q : ℕ) (x : Decided) → In x (s.waiting q) → Waits t (insert key m c) (book q) q x
  waits_on q x d = waits_up s t c (insert key m c) (book q) q x (mem_insert key m c) (λ g. rw (r.marks.clear q g) (omega arith)) (i.waits q x d)

  waits' : (q : ℕ) (x : Decided) → In x (t.waiting q) → Waits t (insert key m c) (book q) q x
  waits' q x d = by_cond (λ l. In x l → Waits t (insert key m c) (book q) q x) _ _ _ _ (r.waiting q)
      (λ e a. let both = and_parts (eqb q f) (goes_to q m) e in elim (insert_cases key m (s.waiting q) a) [ inl z ↦ subst (λ y. Waits t (insert key m c) (book q) q y) (sym z) (waits_m q both.0 both.1) | inr b ↦ waits_on q x b ])
      (λ _ a. waits_on q x a)
      d

  rides_m : (g q : ℕ) → g ≡ f → (q ≡ f → ⊥) → goes_to q m ≡ true → Rides sends (insert key m c) (book q) g q m
  rides_m g q e n to = record { common = mem_inserted key m c; to = to; source = r.source ∙ sym e; away = λ z. n (sym z ∙ e); sent = rw e (r.reach q to n); after = after_m q to }

  rides_on : (g q : ℕ) (x : Decided) → In (Carries x) (s.line g q) → Rides sends (insert key m c) (book q) g q x
  rides_on g q x d = rides_up sends c (insert key m c) (book q) g q x (mem_insert key m c) (i.rides g q x d)

  rides' : (g q : ℕ) (x : Decided) → In (Carries x) (t.line g q) → Rides sends (insert key m c) (book q) g q x
  rides' g q x d = by_cond (λ l. In (Carries x) l → Rides sends (insert key m c) (book q) g q x) _ _ _ _ (r.marks.line g q)
      (λ e a. elim (Memᴰ.append_cases (s.line g q) a) [
        | inl b ↦ rides_on g q x b
        | inr b ↦ let o = r.only q x b in subst (λ y. Rides sends (insert key m c) (book q) g q y) (sym o.0) (rides_m g q (eqb-true g f e) o.2 o.1)
      ])
      (λ _ a. rides_on g q x a)
      d

pub kept_by_stamp : (sends : ℕ → ℕ → Bool) (s t : State) (c : List Decided) (book : ℕ → List Decided) (f : ℕ) (m : Decided) (puts : ℕ → List Record) → Inv sends s c book → Stamps sends s t f m puts → Inv sends t (insert key m c) book
kept_by_stamp sends s t c book f m puts i r = record {
  sorted = sorted_insert key m c i.sorted (apart sends s t c book f m puts i r);
  known = known' sends s t c book f m puts i r;
  split = split' sends s t c book f m puts i r;
  rising = rising' sends s t c book f m puts i r;
  waits = waits' sends s t c book f m puts i r;
  chain = λ g q. marks_chain s t f (height_of m) puts r.marks g q (i.chain g q);
  rides = rides' sends s t c book f m puts i r;
  passed = λ p b d. passed_up sends s t p b (rise sends s t c book f m puts i r) (i.passed p b d);
}
