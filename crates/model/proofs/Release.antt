-- The invariant survives a release.
use Rattle.std.proofs.Common.{◌≡◌, ℕ, ◌+◌, ◌<◌, ◌≤◌, max, Bool, true, false, cond, eqb, List, [], ◌∷◌, ◌++◌, sym, refl, ap, ◌∙◌, subst, inl, inr, append_assoc, arith}
use mathlib.Core.List.Memᴰ
use Rattle.std.proofs.lemmas.Bool.{eqb-true, cond_both, both_ways}
use Rattle.records.specs.declared.notice.Decided.{Decided}
use Rattle.records.specs.declared.notice.Record.TheVariants.{Notice as Carries}
use Rattle.model.specs.Batches.{goes_to}
use Rattle.model.specs.Law.{In}
use Rattle.model.proofs.Heights.{height_of, key}
use Rattle.model.proofs.Inv.{State, Releases, Inv, Split, Waits, Rides, Passed, Known, Pending, grown}
use Rattle.model.proofs.Carry.{known_up, passed_up, chain_low, chain_higher, chain_ends}
use Rattle.model.proofs.Lists.{Sorted, by_cond, all_mem, push_cases, sorted_tail, least_first, sorted_first, sorted_kept, mem_kept}

module _ (sends : ℕ → ℕ → Bool) (s t : State) (c : List Decided) (book : ℕ → List Decided) (p : ℕ) (m : Decided) (i : Inv sends s c book) (r : Releases sends s t p m) where
  rise : (q : ℕ) → s.floor q ≤ t.floor q
  rise q = rw (r.floor q) (cond_both (eqb q p) (max (s.floor q) (height_of m + 1)) (s.floor q) (λ n. s.floor q ≤ n) (λ _. omega arith) (λ _. omega arith))

  own_floor : (q : ℕ) → eqb q p ≡ true → height_of m < t.floor q
  own_floor q e = rw (r.floor q, e) (omega arith)

  m_in : In m (s.waiting p)
  m_in = rw r.before (Memᴰ.head refl)

  m_waits : Waits s c (book p) p m
  m_waits = i.waits p m m_in

  k_m : Known s m
  k_m = i.known m m_waits.common

  sorted_rest : Sorted key (i.split p).rest
  sorted_rest = sorted_tail key (book p) (i.split p).rest (subst (Sorted key) (i.split p).is (sorted_kept key (goes_to p) c i.sorted))

  m_in_rest : In m (i.split p).rest
  m_in_rest = elim (Memᴰ.append_cases (book p) (subst (λ l. In m l) (i.split p).is (mem_kept (goes_to p) c m_waits.to m_waits.common))) [ inl d ↦ absurd (let k : key m < key m = m_waits.after m d in omega arith) | inr d ↦ d ]

  -- what rides to p comes after m
  rode : (f : ℕ) (x : Decided) → In (Carries x) (s.line f p) → key m < key x
  rode f x d =
      let a = r.free f (i.rides f p x d).sent in
      let b = chain_low _ _ (s.line f p) (Carries x) (i.chain f p) d in
      omega (arith, a, b, k_m.port)

  -- nothing pending height_of p comes before m
  low : (x : Decided) → Pending s p x → key m ≤ key x
  low x (inl d) = sorted_first key m r.others (subst (Sorted key) r.before (i.rising p)) (subst (λ l. In x l) r.before d)
  low x (inr d) = let h = rode x.stamp.port x d in omega (arith, h)

  -- m stands first in what is left
  heads : (l : List Decided) → (i.split p).rest ≡ l → (more : List Decided) × ((i.split p).rest ≡ m ∷ more)
  heads [] e = elim (subst (λ l. In m l) e m_in_rest) [ ]
  heads (y ∷ ys) e =
      let below = low y ((i.split p).pending y (rw e (Memᴰ.head refl))) in
      let same = least_first key m y ys (subst (Sorted key) e sorted_rest) (subst (λ l. In m l) e m_in_rest) below in
      (ys, e ∙ ap (λ z. z ∷ ys) (sym same))

  later : (x : Decided) (l : List Decided) → In x (m ∷ l) → key m < key x → In x l
  later x l (Memᴰ.head e) up = absurd (let z : key x ≡ key m = ap key e in omega arith)
  later x l (Memᴰ.tail d) up = d

  still : (x : Decided) → key m < key x → Pending s p x → Pending t p x
  still x up (inl d) = inl (by_cond (λ l. In x l) _ _ _ _ (r.waiting p) (λ _. later x r.others (subst (λ l. In x l) r.before d) up) (λ _. d))
  still x up (inr d) = inr (rw (r.line x.stamp.port p) d)

  elsewhere : (q : ℕ) → eqb q p ≡ false → t.waiting q ≡ s.waiting q
  elsewhere q n = r.waiting q ∙ ap (λ b. cond b r.others (s.waiting q)) n

  split_here : (more : List Decided) → (i.split p).rest ≡ m ∷ more → Split t c (book p ++ (m ∷ [])) p
  split_here more e = record {
    rest = more;
    is = (i.split p).is ∙ ap (λ l. book p ++ l) e ∙ sym (append_assoc (book p) (m ∷ []) more);
    pending = λ x d. still x (all_mem (λ y. key m < key y) more (subst (Sorted key) e sorted_rest).0 d) ((i.split p).pending x (rw e (Memᴰ.tail d)));
  }

  split_there : (q : ℕ) → eqb q p ≡ false → Split t c (book q) q
  split_there q n = record {
    rest = (i.split q).rest;
    is = (i.split q).is;
    pending = λ x d. elim ((i.split q).pending x d) [ inl a ↦ inl (rw (elsewhere q n) a) | inr a ↦ inr (rw (r.line x.stamp.port q) a) ];
  }

  split' : (q : ℕ) → Split t c (grown p m book q) q
  split' q = cond_both (eqb q p) _ _ (λ l. Split t c l q)
      (λ e. rw (eqb-true q p e) (split_here (heads (i.split p).rest refl).0 (heads (i.split p).rest refl).1))
      (λ n. split_there q n)

  rising' : (q : ℕ) → Sorted key (t.waiting q)
  rising' q = by_cond (Sorted key) _ _ _ _ (r.waiting q) (λ e. (subst (Sorted key) r.before (i.rising p)).1) (λ _. i.rising q)

  after' : (q : ℕ) (x : Decided) → ((b : Decided) → In b (book q) → key b < key x) → (eqb q p ≡ true → key m < key x) → (b : Decided) → In b (grown p m book q) → key b < key x
  after' q x old new b d = cond_both (eqb q p) _ _ (λ l. In b l → key b < key x) (λ e a. elim (push_cases (book q) m a) [ inl h ↦ old b h | inr z ↦ rw z (new e) ]) (λ _ a. old b a) d

  waits_from : (q : ℕ) (x : Decided) → Waits s c (book q) q x → (eqb q p ≡ true → key m < key x) → Waits t c (grown p m book q) q x
  waits_from q x w up = record { common = w.common; to = w.to; after = after' q x w.after up; fetched = rw (r.clear q x.stamp.port) w.fetched }

  waits' : (q : ℕ) (x : Decided) → In x (t.waiting q) → Waits t c (grown p m book q) q x
  waits' q x d = by_cond (λ l. In x l → Waits t c (grown p m book q) q x) _ _ _ _ (r.waiting q)
      (λ e a. waits_from q x (rw (eqb-true q p e) (i.waits p x (rw r.before (Memᴰ.tail a)))) (λ _. all_mem (λ y. key m < key y) r.others (subst (Sorted key) r.before (i.rising p)).0 a))
      (λ n a. waits_from q x (i.waits q x a) (λ e. absurd (both_ways _ n e)))
      d

  rides' : (f q : ℕ) (x : Decided) → In (Carries x) (t.line f q) → Rides sends c (grown p m book q) f q x
  rides' f q x d =
      let a : In (Carries x) (s.line f q) = rw (r.line f q) at d in
      let old = i.rides f q x a in
      record { common = old.common; to = old.to; source = old.source; away = old.away; sent = old.sent; after = after' q x old.after (λ e. rode f x (rw (eqb-true q p e) at a)) }

  passed_m : (q : ℕ) → eqb q p ≡ true → Passed sends t q m
  passed_m q e = record { port = k_m.port; own = own_floor q e; other = λ f to. let a = r.free f (rw (eqb-true q p e) at to) in let b = chain_ends _ _ (s.line f p) (i.chain f p) in let u = rise f in omega (arith, a, b, u) }

  passed' : (q : ℕ) (b : Decided) → In b (grown p m book q) → Passed sends t q b
  passed' q b d = cond_both (eqb q p) _ _ (λ l. In b l → Passed sends t q b)
      (λ e a. elim (push_cases (book q) m a) [ inl h ↦ passed_up sends s t q b rise (i.passed q b h) | inr z ↦ rw z (passed_m q e) ])
      (λ _ a. passed_up sends s t q b rise (i.passed q b a))
      d

pub kept_by_release : (sends : ℕ → ℕ → Bool) (s t : State) (c : List Decided) (book : ℕ → List Decided) (p : ℕ) (m : Decided) → Inv sends s c book → Releases sends s t p m → Inv sends t c (grown p m book)
kept_by_release sends s t c book p m i r = record {
  sorted = i.sorted;
  known = λ x d. known_up s t x (rise sends s t c book p m i r) (i.known x d);
  split = split' sends s t c book p m i r;
  rising = rising' sends s t c book p m i r;
  waits = waits' sends s t c book p m i r;
  chain = λ f q. rw (r.clear q f, r.line f q) (chain_higher _ _ _ (s.line f q) (i.chain f q) (rise sends s t c book p m i r f));
  rides = rides' sends s t c book p m i r;
  passed = passed' sends s t c book p m i r;
}
