-- What a step carries over as floors and clearances rise and the common list grows; chains of records. Assumes nothing.
use Rattle.std.proofs.Common.{◌≡◌, ℕ, ◌+◌, ◌≤◌, Bool, true, eqb, List, [], ◌∷◌, ◌++◌, inl, inr, append-nil, arith}
use mathlib.Core.List.Memᴰ
use Rattle.std.proofs.lemmas.Bool.{eqb-true, cond_both}
use Rattle.records.specs.declared.notice.Decided.{Decided}
use Rattle.records.specs.declared.notice.Record.{Record}
use Rattle.model.specs.Law.{In}
use Rattle.model.proofs.Lists.{by_cond}
use Rattle.model.proofs.Heights.{level}
use Rattle.model.proofs.Inv.{State, AtMostOne, Marks, Chain, Waits, Rides, Passed, Known}

pub known_up : (s t : State) (x : Decided) → ((q : ℕ) → s.floor q ≤ t.floor q) → Known s x → Known t x
known_up s t x up k = let u = up x.stamp.port in record { port = k.port; said = k.said; small = k.small; below = omega (arith, u, k.below) }

pub passed_up : (sends : ℕ → ℕ → Bool) (s t : State) (p : ℕ) (b : Decided) → ((q : ℕ) → s.floor q ≤ t.floor q) → Passed sends s p b → Passed sends t p b
passed_up sends s t p b up h = record { port = h.port; own = let u = up p in omega (arith, u, h.own); other = λ f to. let u = up f in let v = h.other f to in omega (arith, u, v) }

pub waits_up : (s t : State) (c d book : List Decided) (p : ℕ) (x : Decided) → (In x c → In x d) → ((f : ℕ) → s.clear p f ≤ t.clear p f) → Waits s c book p x → Waits t d book p x
waits_up s t c d book p x more up w = record { common = more w.common; to = w.to; after = w.after; fetched = λ n. let u = up x.stamp.port in let v = w.fetched n in omega (arith, u, v) }

pub rides_up : (sends : ℕ → ℕ → Bool) (c d book : List Decided) (f p : ℕ) (x : Decided) → (In x c → In x d) → Rides sends c book f p x → Rides sends d book f p x
rides_up sends c d book f p x more h = record { common = more h.common; to = h.to; source = h.source; away = h.away; sent = h.sent; after = h.after }

-- CHAINS

pub chain_low : (lo hi : ℕ) (rs : List Record) (x : Record) → Chain lo rs hi → In x rs → lo ≤ level x
chain_low lo hi [] x h d = elim d [ ]
chain_low lo hi (r ∷ rs) x h (Memᴰ.head e) = rw e h.0
chain_low lo hi (r ∷ rs) x h (Memᴰ.tail d) = let k = chain_low (level r + 1) hi rs x h.1 d in omega (arith, k, h.0)

pub chain_higher : (lo hi hi' : ℕ) (rs : List Record) → Chain lo rs hi → hi ≤ hi' → Chain lo rs hi'
chain_higher lo hi hi' [] h up = omega (arith, h)
chain_higher lo hi hi' (r ∷ rs) h up = (h.0, chain_higher (level r + 1) hi hi' rs h.1 up)

pub chain_ends : (lo hi : ℕ) (rs : List Record) → Chain lo rs hi → lo ≤ hi
chain_ends lo hi [] h = h
chain_ends lo hi (r ∷ rs) h = let k = chain_ends (level r + 1) hi rs h.1 in omega (arith, k, h.0)

pub chain_push : (lo hi n : ℕ) (rs : List Record) (r : Record) → level r ≡ n → Chain lo rs hi → hi ≤ n → Chain lo (rs ++ (r ∷ [])) (n + 1)
chain_push lo hi n [] r e h up = (omega (arith, h, e), omega (arith, e))
chain_push lo hi n (x ∷ xs) r e h up = (h.0, chain_push (level x + 1) hi n xs r e h.1 up)

pub chain_puts : (lo hi n : ℕ) (rs ps : List Record) → AtMostOne n ps → Chain lo rs hi → hi ≤ n → Chain lo (rs ++ ps) (n + 1)
chain_puts lo hi n rs ps (inl e) h up = rw (e, append-nil) (chain_higher lo hi (n + 1) rs h (omega arith))
chain_puts lo hi n rs ps (inr p) h up = rw p.1 (chain_push lo hi n rs p.0 p.2 h up)

-- WHAT A STAMPING DOES TO FLOORS AND LINES

module _ (s t : State) (f n : ℕ) (puts : ℕ → List Record) (r : Marks s t f n puts) where
  pub marks_rise : (q : ℕ) → s.floor q ≤ t.floor q
  marks_rise q = rw (r.floor q) (cond_both (eqb q f) (n + 1) (s.floor q) (λ k. s.floor q ≤ k) (λ e. rw (eqb-true q f e) (omega (arith, r.above))) (λ _. omega arith))

  pub marks_floor : (q : ℕ) → eqb q f ≡ true → t.floor q ≡ n + 1
  marks_floor q e = rw (r.floor q, e)

  pub marks_chain : (g q : ℕ) → Chain (s.clear q g) (s.line g q) (s.floor g) → Chain (t.clear q g) (t.line g q) (t.floor g)
  marks_chain g q h = rw (r.clear q g) (by_cond (λ l. Chain (s.clear q g) l (t.floor g)) _ _ _ _ (r.line g q)
      (λ e. rw (marks_floor g e) (chain_puts (s.clear q g) (s.floor g) n (s.line g q) (puts q) (r.single q) h (rw (eqb-true g f e) r.above)))
      (λ _. chain_higher (s.clear q g) (s.floor g) (t.floor g) (s.line g q) h (marks_rise g)))
