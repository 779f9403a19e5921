-- The invariant survives a fetch.
use Rattle.std.proofs.Common.{◌≡◌, ℕ, ◌+◌, ◌<◌, ◌≤◌, Bool, true, ◌&&◌, eqb, List, ◌∷◌, sym, refl, ap, ◌∙◌, subst, inl, inr, arith}
use mathlib.Core.List.Memᴰ
use Rattle.std.proofs.lemmas.Bool.{eqb-true, eq-eqb, cond_both, cases_Bool, and_parts}
use Rattle.records.specs.declared.notice.Decided.{Decided}
use Rattle.records.specs.declared.notice.Record.{Record}
use Rattle.records.specs.declared.notice.Record.TheVariants.{Notice as Carries, Empty}
use Rattle.model.specs.Law.{In}
use Rattle.model.proofs.Heights.{height_of, key, level}
use Rattle.model.proofs.Inv.{State, taken, Fetches, Chain, Inv, Waits, Rides, Pending}
use Rattle.model.proofs.Carry.{known_up, passed_up, waits_up}
use Rattle.model.proofs.Lists.{Sorted, by_cond, insert_cases, mem_insert, mem_inserted, sorted_insert}

mem_taken : {x : Decided} (g : Record) (xs : List Decided) → In x xs → In x (taken g xs)
mem_taken (Carries y) xs d = mem_insert key y xs d
mem_taken (Empty n) xs d = d

module _ (sends : ℕ → ℕ → Bool) (s t : State) (c : List Decided) (book : ℕ → List Decided) (f p : ℕ) (i : Inv sends s c book) (r : Fetches s t f p) where
  same_floor : (q : ℕ) → s.floor q ≤ t.floor q
  same_floor q = rw (r.floor q) (omega arith)

  chain_here : (s.clear p f ≤ level r.got) × Chain (level r.got + 1) r.rest (s.floor f)
  chain_here = subst (λ l. Chain (s.clear p f) l (s.floor f)) r.before (i.chain f p)

  rise : (q g : ℕ) → s.clear q g ≤ t.clear q g
  rise q g = rw (r.clear q g) (cond_both (eqb g f && eqb q p) (level r.got + 1) (s.clear q g) (λ k. s.clear q g ≤ k)
      (λ e. let both = and_parts (eqb g f) (eqb q p) e in rw (eqb-true g f both.0, eqb-true q p both.1) (omega (arith, chain_here.0)))
      (λ _. omega arith))

  rides_got : (x : Decided) → r.got ≡ Carries x → Rides sends c (book p) f p x
  rides_got x e = i.rides f p x (rw r.before (Memᴰ.head (sym e)))

  still_here : (q : ℕ) (x : Decided) → eqb x.stamp.port f ≡ true → eqb q p ≡ true → In (Carries x) (r.got ∷ r.rest) → Pending t q x
  still_here q x e z (Memᴰ.head h) = inl (rw (r.waiting q, z, ← h) (mem_inserted key x (s.waiting q)))
  still_here q x e z (Memᴰ.tail d) = inr (rw (r.line x.stamp.port q, e, z) d)

  still : (q : ℕ) (x : Decided) → Pending s q x → Pending t q x
  still q x (inl a) = inl (by_cond (λ l. In x l) _ _ _ _ (r.waiting q) (λ _. mem_taken r.got (s.waiting q) a) (λ _. a))
  still q x (inr a) = elim (cases_Bool (eqb x.stamp.port f && eqb q p)) [
    | inl e ↦
        let both = and_parts (eqb x.stamp.port f) (eqb q p) e in
        let z : s.line x.stamp.port q ≡ r.got ∷ r.rest = ap (λ g. s.line g q) (eqb-true x.stamp.port f both.0) ∙ ap (s.line f) (eqb-true q p both.1) ∙ r.before in
        still_here q x both.0 both.1 (subst (λ l. In (Carries x) l) z a)
    | inr n ↦ inr (rw (r.line x.stamp.port q, n) a)
  ]

  apart : (q : ℕ) (x : Decided) → eqb q p ≡ true → r.got ≡ Carries x → (y : Decided) → In y (s.waiting q) → key y ≡ key x → ⊥
  apart q x e is y d same =
      let ride = rides_got x is in
      let k = i.known x ride.common in
      let w = i.waits q y d in
      let j = i.known y w.common in
      let z : y.stamp.port ≡ f = omega (arith, same, k.port, j.port, ride.source) in
      let a : height_of y < s.clear p f = rw (z, eqb-true q p e) at (w.fetched (λ o. ride.away (sym z ∙ o ∙ eqb-true q p e))) in
      let b : s.clear p f ≤ height_of x = rw is at chain_here.0 in
      omega (arith, same, k.port, j.port, a, b)

  sorted_taken : (q : ℕ) → eqb q p ≡ true → (g : Record) → r.got ≡ g → Sorted key (taken g (s.waiting q))
  sorted_taken q e (Carries x) is = sorted_insert key x (s.waiting q) (i.rising q) (apart q x e is)
  sorted_taken q e (Empty n) is = i.rising q

  rising' : (q : ℕ) → Sorted key (t.waiting q)
  rising' q = by_cond (Sorted key) _ _ _ _ (r.waiting q) (λ e. sorted_taken q e r.got refl) (λ _. i.rising q)

  waits_on : (q : ℕ) (x : Decided) → In x (s.waiting q) → Waits t c (book q) q x
  waits_on q x d = waits_up s t c c (book q) q x (λ a. a) (rise q) (i.waits q x d)

  waits_got : (x : Decided) → r.got ≡ Carries x → Waits t c (book p) p x
  waits_got x is =
      let ride = rides_got x is in
      record { common = ride.common; to = ride.to; after = ride.after; fetched = λ _. rw (ride.source, r.clear p f, eq-eqb f f refl, eq-eqb p p refl, is) (omega arith) }

  waits_taken : (q : ℕ) → eqb q p ≡ true → (g : Record) → r.got ≡ g → (x : Decided) → In x (taken g (s.waiting q)) → Waits t c (book q) q x
  waits_taken q e (Carries y) is x d = elim (insert_cases key y (s.waiting q) d) [ inl z ↦ rw (z, eqb-true q p e) (waits_got y is) | inr a ↦ waits_on q x a ]
  waits_taken q e (Empty n) is x d = waits_on q x d

  waits' : (q : ℕ) (x : Decided) → In x (t.waiting q) → Waits t c (book q) q x
  waits' q x d = by_cond (λ l. In x l → Waits t c (book q) q x) _ _ _ _ (r.waiting q) (λ e a. waits_taken q e r.got refl x a) (λ _ a. waits_on q x a) d

  chain' : (g q : ℕ) → Chain (t.clear q g) (t.line g q) (t.floor g)
  chain' g q = elim (cases_Bool (eqb g f && eqb q p)) [
    | inl e ↦ let both = and_parts (eqb g f) (eqb q p) e in rw (r.clear q g, r.line g q, r.floor g, e, eqb-true g f both.0) chain_here.1
    | inr n ↦ rw (r.clear q g, r.line g q, r.floor g, n) (i.chain g q)
  ]

  rides' : (g q : ℕ) (x : Decided) → In (Carries x) (t.line g q) → Rides sends c (book q) g q x
  rides' g q x d = i.rides g q x (by_cond (λ l. In (Carries x) l → In (Carries x) (s.line g q)) _ _ _ _ (r.line g q)
      (λ e a. let both = and_parts (eqb g f) (eqb q p) e in rw (eqb-true g f both.0, eqb-true q p both.1, r.before) (Memᴰ.tail a))
      (λ _ a. a)
      d)

pub kept_by_fetch : (sends : ℕ → ℕ → Bool) (s t : State) (c : List Decided) (book : ℕ → List Decided) (f p : ℕ) → Inv sends s c book → Fetches s t f p → Inv sends t c book
kept_by_fetch sends s t c book f p i r = record {
  sorted = i.sorted;
  known = λ x d. known_up s t x (same_floor sends s t c book f p i r) (i.known x d);
  split = λ q. record { rest = (i.split q).rest; is = (i.split q).is; pending = λ x d. still sends s t c book f p i r q x ((i.split q).pending x d) };
  rising = rising' sends s t c book f p i r;
  waits = waits' sends s t c book f p i r;
  chain = chain' sends s t c book f p i r;
  rides = rides' sends s t c book f p i r;
  passed = λ q b d. passed_up sends s t q b (same_floor sends s t c book f p i r) (i.passed q b d);
}
