-- The invariant survives a clearance.
use Rattle.std.proofs.Common.{ℕ, ◌≤◌, Bool, List, inl, inr, arith}
use mathlib.Core.List.Memᴰ
use Rattle.records.specs.declared.notice.Decided.{Decided}
use Rattle.records.specs.declared.notice.Record.{Record}
use Rattle.records.specs.declared.notice.Record.TheVariants.{Notice as Carries}
use Rattle.model.specs.Law.{In}
use Rattle.model.proofs.Inv.{State, Clears, Inv, Rides, Pending}
use Rattle.model.proofs.Carry.{known_up, passed_up, waits_up, marks_rise, marks_chain}
use Rattle.model.proofs.Lists.{by_cond}

module _ (sends : ℕ → ℕ → Bool) (s t : State) (c : List Decided) (book : ℕ → List Decided) (f n : ℕ) (puts : ℕ → List Record) (i : Inv sends s c book) (r : Clears s t f n puts) where
  rise : (q : ℕ) → s.floor q ≤ t.floor q
  rise = marks_rise s t f n puts r.marks

  still : (q : ℕ) (x : Decided) → Pending s q x → Pending t q x
  still q x (inl a) = inl (rw (r.waiting q) a)
  still q x (inr a) = inr (by_cond (λ l. In (Carries x) l) _ _ _ _ (r.marks.line x.stamp.port q) (λ _. Memᴰ.append_left (puts q) a) (λ _. a))

  rides' : (g q : ℕ) (x : Decided) → In (Carries x) (t.line g q) → Rides sends c (book q) g q x
  rides' g q x d = i.rides g q x (by_cond (λ l. In (Carries x) l → In (Carries x) (s.line g q)) _ _ _ _ (r.marks.line g q)
      (λ _ a. elim (Memᴰ.append_cases (s.line g q) a) [ inl b ↦ b | inr z ↦ absurd (r.only q x z) ])
      (λ _ a. a)
      d)

pub kept_by_clear : (sends : ℕ → ℕ → Bool) (s t : State) (c : List Decided) (book : ℕ → List Decided) (f n : ℕ) (puts : ℕ → List Record) → Inv sends s c book → Clears s t f n puts → Inv sends t c book
kept_by_clear sends s t c book f n puts i r = record {
  sorted = i.sorted;
  known = λ x d. known_up s t x (rise sends s t c book f n puts i r) (i.known x d);
  split = λ q. record { rest = (i.split q).rest; is = (i.split q).is; pending = λ x d. still sends s t c book f n puts i r q x ((i.split q).pending x d) };
  rising = λ q. rw (r.waiting q) (i.rising q);
  waits = λ q x d. waits_up s t c c (book q) q x (λ a. a) (λ g. rw (r.marks.clear q g) (omega arith)) (i.waits q x (rw (r.waiting q) at d));
  chain = λ g q. marks_chain s t f n puts r.marks g q (i.chain g q);
  rides = rides' sends s t c book f n puts i r;
  passed = λ p b d. passed_up sends s t p b (rise sends s t c book f n puts i r) (i.passed p b d);
}
