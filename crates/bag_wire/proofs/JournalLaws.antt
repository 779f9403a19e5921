-- What the lines of a journal are after a push, a removal and a marking. Assumes nothing.
use Rattle.std.proofs.Common.{◌≡◌, ℕ, suc, ◌+◌, ◌<◌, ◌≤◌, Bool, true, false, cond, eqb, List, [], ◌∷◌, ◌++◌, map, length, get_or, take, drop, Some, None, filter, Option, MatchOption, sym, refl, ap, ◌∙◌, ⊎_elim, arith}
use Rattle.std.specs.List.{prefix_len, AllWithin, HoldsAt}
use Rattle.std.proofs.lemmas.List.{append-nil, length-map, length-append, length-take-le, map-append, length_push, take-append-drop, drop_more, get_or-take}
use Rattle.std.proofs.lemmas.List.Elements.{filter-append}
use Rattle.std.proofs.lemmas.List.Sums.{prefix_len-le-length}
use Rattle.std.proofs.lemmas.Bool.{cases_Bool, cond-true, cond-false, cond_both, and_parts, and_from, eqb-true, eq-eqb}
use Rattle.records.specs.declared.notice.Record.{Record}
use Rattle.records.specs.declared.notice.Record.TheVariants.{Notice}
use Rattle.records.specs.declared.notice.Action.TheVariants.{Take}
use Rattle.wires.specs.Lines.{depth_of, Put, Looked, Taken, Brought}
use Rattle.wires.proofs.LineLaws.{by_line}
use Rattle.bag_wire.specs.declared.entry.Entry.{Entry}
use Rattle.bag_wire.specs.Journals.{on, kept, line_of, lines_in, Sound, shown, marked, First}

-- an entry of zeros, for reads at a place that may be past the end
abbrev pub blank : Entry
blank = record {
  ends = record { from = 0; to = 0 };
  item = Notice (record {
    notice = record { source = 0; dispatcher = 0; count = 0; to = record { bits = 0 }; home = 0; berth = 0; action = Take; vessel = 0 };
    stamp = record { pair = record { clock = 0; step = 0 }; port = 0 };
  });
  arrived = false;
}

-- ---- an entry is on one line

on_is : (e : Entry) (p q : ℕ) → on p q e ≡ true → (e.ends.from ≡ p) × (e.ends.to ≡ q)
on_is e p q t = let h = and_parts (eqb e.ends.from p) (eqb e.ends.to q) t in (eqb-true e.ends.from p h.0, eqb-true e.ends.to q h.1)

pub on_from : (e : Entry) (p q : ℕ) → e.ends.from ≡ p → e.ends.to ≡ q → on p q e ≡ true
on_from e p q h k = and_from (eqb e.ends.from p) (eqb e.ends.to q) (eq-eqb e.ends.from p h) (eq-eqb e.ends.to q k)

on_apart : (e : Entry) (a b p q : ℕ) → on a b e ≡ true → ((p ≡ a) × (q ≡ b) → ⊥) → on p q e ≡ false
on_apart e a b p q t ne =
    ⊎_elim
    (λ (s : on p q e ≡ true). let h = on_is e a b t in let k = on_is e p q s in absurd (ne (omega arith, omega arith)))
    (λ (f : on p q e ≡ false). f)
    (cases_Bool (on p q e))

module _ (front rest : List Entry) (e : Entry) (p q : ℕ) where
  kept_with : on p q e ≡ true → kept (front ++ e ∷ rest) p q ≡ kept front p q ++ e ∷ kept rest p q
  kept_with t = filter-append (on p q) front (e ∷ rest) ∙ ap (λ xs. kept front p q ++ xs) (cond-true (on p q e) (e ∷ kept rest p q) (kept rest p q) t)

  kept_without : on p q e ≡ false → kept (front ++ e ∷ rest) p q ≡ kept (front ++ rest) p q
  kept_without f =
      filter-append (on p q) front (e ∷ rest) ∙ ap (λ xs. kept front p q ++ xs) (cond-false (on p q e) (e ∷ kept rest p q) (kept rest p q) f) ∙ sym (filter-append (on p q) front rest)

-- ---- a push of an entry that has not arrived

leading_push : (f : Entry → Bool) (xs : List Entry) (x : Entry) → f x ≡ false → prefix_len f (xs ++ x ∷ []) ≡ prefix_len f xs
leading_push f [] x off = cond-false (f x) (1 + 0) 0 off
leading_push f (y ∷ xs) x off = ap (λ n. cond (f y) (1 + n) 0) (leading_push f xs x off)

module _ (es : List Entry) (e : Entry) (a b : ℕ) (t : on a b e ≡ true) (late : e.arrived ≡ false) (space : length (kept es a b) < depth_of 8 a b) where
  kept_push : kept (es ++ e ∷ []) a b ≡ kept es a b ++ e ∷ []
  kept_push = kept_with es [] e a b t

  kept_push_other : (p q : ℕ) → ((p ≡ a) × (q ≡ b) → ⊥) → kept (es ++ e ∷ []) p q ≡ kept es p q
  kept_push_other p q ne = kept_without es [] e p q (on_apart e a b p q t ne) ∙ ap (λ xs. kept xs p q) (append-nil es)

  pub push_waits : (lines_in (es ++ e ∷ []) a b).arrived ≡ (lines_in es a b).arrived
  push_waits = ap (prefix_len (λ x. x.arrived)) kept_push ∙ leading_push (λ x. x.arrived) (kept es a b) e late

  pub push_put : Put 8 (lines_in es) (lines_in (es ++ e ∷ [])) a b e.item
  push_put = record {
    space = omega (arith, length-map (kept es a b) (λ x. x.item));
    held = ap (map (λ x. x.item)) kept_push ∙ map-append (λ x. x.item) (kept es a b) (e ∷ []);
    arrived = omega (arith, push_waits);
    others = λ p q ne. ap line_of (kept_push_other p q ne);
  }

  pub sound_push : Sound es → Sound (es ++ e ∷ [])
  sound_push s =
      by_line a b (λ p q. length (kept (es ++ e ∷ []) p q) ≤ depth_of 8 p q)
      (omega (arith, ap length kept_push, length_push (kept es a b) e))
      (λ p q ne. omega (arith, s p q, ap length (kept_push_other p q ne)))

-- ---- the oldest entry of a line

kept_by_none : (f : Entry → Bool) (xs : List Entry) → ((k : ℕ) (d : Entry) → k < length xs → f (get_or xs k d) ≡ false) → filter f xs ≡ []
kept_by_none f [] h = refl
kept_by_none f (x ∷ xs) h =
    cond-false (f x) (x ∷ filter f xs) (filter f xs) (h 0 x (omega arith)) ∙ kept_by_none f xs (λ k d l. h (suc k) d (omega arith))

pub none_on : (es : List Entry) (p q : ℕ) → ((k : ℕ) (d : Entry) → k < length es → on p q (get_or es k d) ≡ false) → kept es p q ≡ []
none_on es p q h = kept_by_none (on p q) es h

-- what a search for the line's oldest entry answers
pub first_cases : (es : List Entry) (p q : ℕ) (r : Option ℕ) → MatchOption r (AllWithin (λ e. on p q e ≡ false) es 0 (length es)) (λ i. (i < length es) × HoldsAt (λ e. on p q e ≡ true) es i × AllWithin (λ e. on p q e ≡ false) es 0 i) → MatchOption r (kept es p q ≡ []) (First es p q)
first_cases es p q None h = none_on es p q (λ k d lt. h k d (omega arith) lt)
first_cases es p q (Some i) h = record { within = h.0; before = λ k d lt. h.2 k d (omega arith) lt; here = h.1 }

-- the first entry of the line from p to q is at i
module _ (es : List Entry) (p q i : ℕ) (at : First es p q i) (d : Entry) where
  front_none : kept (take i es) p q ≡ []
  front_none =
      let n = length-take-le i es (omega (arith, at.within)) in
      kept_by_none (on p q) (take i es) (λ k d h. let l : k < i = omega arith in ap (on p q) (get_or-take i es k d l) ∙ at.before k d l)

  whole : es ≡ take i es ++ get_or es i d ∷ drop (i + 1) es
  whole = sym (take-append-drop i es) ∙ ap (λ xs. take i es ++ xs) (drop_more es i d at.within)

  kept_first : kept es p q ≡ get_or es i d ∷ kept (drop (i + 1) es) p q
  kept_first =
      ap (λ xs. kept xs p q) whole ∙ kept_with (take i es) (drop (i + 1) es) (get_or es i d) p q (at.here d) ∙ ap (λ xs. xs ++ get_or es i d ∷ kept (drop (i + 1) es) p q) front_none

  kept_removed : kept (take i es ++ drop (i + 1) es) p q ≡ kept (drop (i + 1) es) p q
  kept_removed = filter-append (on p q) (take i es) (drop (i + 1) es) ∙ ap (λ xs. xs ++ kept (drop (i + 1) es) p q) front_none

  pub first_late : (get_or es i d).arrived ≡ false → (lines_in es p q).arrived ≡ 0
  first_late f = ap (λ ks. (line_of ks).arrived) kept_first ∙ cond-false (get_or es i d).arrived (1 + (line_of (kept (drop (i + 1) es) p q)).arrived) 0 f

  -- it has arrived
  module _ (t : (get_or es i d).arrived ≡ true) where
    arrived_is : (lines_in es p q).arrived ≡ 1 + (line_of (kept (drop (i + 1) es) p q)).arrived
    arrived_is = ap (λ ks. (line_of ks).arrived) kept_first ∙ cond-true (get_or es i d).arrived (1 + (line_of (kept (drop (i + 1) es) p q)).arrived) 0 t

    held_is : (lines_in es p q).held ≡ (get_or es i d).item ∷ (line_of (kept (drop (i + 1) es) p q)).held
    held_is = ap (λ ks. (line_of ks).held) kept_first

    pub first_looked : Looked (lines_in es p q) (get_or es i d).item
    first_looked = record { some = omega (arith, arrived_is); oldest = ((line_of (kept (drop (i + 1) es) p q)).held, held_is) }

    pub first_taken : Taken (lines_in es) (lines_in (take i es ++ drop (i + 1) es)) p q (get_or es i d).item
    first_taken = record {
      held = held_is ∙ ap (λ ks. (get_or es i d).item ∷ (line_of ks).held) (sym kept_removed);
      arrived = omega (arith, arrived_is, ap (λ ks. (line_of ks).arrived) kept_removed);
      others = λ a b ne. ap line_of (sym (ap (λ xs. kept xs a b) whole ∙ kept_without (take i es) (drop (i + 1) es) (get_or es i d) a b (on_apart (get_or es i d) p q a b (at.here d) ne)));
    }

  pub sound_removed : Sound es → Sound (take i es ++ drop (i + 1) es)
  sound_removed s a b =
      let e = get_or es i d in
      let f = take i es in
      let r = drop (i + 1) es in
      let w = ap (λ xs. length (kept xs a b)) whole in
      let m = ap length (filter-append (on a b) f r) ∙ length-append (kept f a b) (kept r a b) in
      ⊎_elim
      (λ (t : on a b e ≡ true). omega (arith, s a b, w, m, ap length (kept_with f r e a b t) ∙ length-append (kept f a b) (e ∷ kept r a b)))
      (λ (n : on a b e ≡ false). omega (arith, s a b, w, ap length (kept_without f r e a b n)))
      (cases_Bool (on a b e))

-- what an entry shows
pub shown_some : (e : Entry) (x : Record) → Some x ≡ shown e → (e.arrived ≡ true) × (e.item ≡ x)
shown_some e x = cond_both e.arrived (Some e.item) None (λ o. Some x ≡ o → (e.arrived ≡ true) × (e.item ≡ x)) (λ t h. (t, cc)) (λ f h. cc)

pub shown_none : (e : Entry) → None ≡ shown e → e.arrived ≡ false
shown_none e = cond_both e.arrived (Some e.item) None (λ o. None ≡ o → e.arrived ≡ false) (λ t h. cc) (λ f h. f)

-- ---- a marking

module _ (a b : ℕ) where
  -- what a marking leaves alone
  marked_keeps : {A : Type 0} (f : Entry → A) (e : Entry) → f (record { ends = e.ends; item = e.item; arrived = true }) ≡ f e → f (marked a b e) ≡ f e
  marked_keeps f e same = elim (on a b e) as (λ t. f (cond t (record { ends = e.ends; item = e.item; arrived = true }) e) ≡ f e) [
    | true ↦ same
    | false ↦ refl
  ]

  kept_marked : (es : List Entry) (p q : ℕ) → kept (map (marked a b) es) p q ≡ map (marked a b) (kept es p q)
  kept_marked [] p q = refl
  kept_marked (e ∷ es) p q =
      ap (λ t. cond t (marked a b e ∷ kept (map (marked a b) es) p q) (kept (map (marked a b) es) p q)) (marked_keeps (on p q) e refl) ∙
      ap (λ ks. cond (on p q e) (marked a b e ∷ ks) ks) (kept_marked es p q) ∙ pull (on p q e)
    where
      pull : (t : Bool) → cond t (marked a b e ∷ map (marked a b) (kept es p q)) (map (marked a b) (kept es p q)) ≡ map (marked a b) (cond t (e ∷ kept es p q) (kept es p q))
      pull true = refl
      pull false = refl

  items_marked : (es : List Entry) → map (λ e. e.item) (map (marked a b) es) ≡ map (λ e. e.item) es
  items_marked [] = refl
  items_marked (e ∷ es) = ap (λ xs. (marked a b e).item ∷ xs) (items_marked es) ∙ ap (λ x. x ∷ map (λ e. e.item) es) (marked_keeps (λ x. x.item) e refl)

  all_marked : (es : List Entry) → prefix_len (λ e. e.arrived) (map (marked a b) (kept es a b)) ≡ length (kept es a b)
  all_marked [] = refl
  all_marked (e ∷ es) =
      ⊎_elim
      (λ (t : on a b e ≡ true). rw (t, t) (ap (λ n. 1 + n) (all_marked es) ∙ omega arith))
      (λ (f : on a b e ≡ false). rw f (all_marked es))
      (cases_Bool (on a b e))

  others_marked : (es : List Entry) (p q : ℕ) → ((p ≡ a) × (q ≡ b) → ⊥) → map (marked a b) (kept es p q) ≡ kept es p q
  others_marked [] p q ne = refl
  others_marked (e ∷ es) p q ne =
      ⊎_elim
      (λ (t : on p q e ≡ true).
      let away : on a b e ≡ false = on_apart e p q a b t (λ h. ne (omega arith, omega arith)) in
      rw (t, away) (ap (λ xs. e ∷ xs) (others_marked es p q ne)))
      (λ (f : on p q e ≡ false). rw f (others_marked es p q ne))
      (cases_Bool (on p q e))

  pub marked_all : (es : List Entry) → (lines_in (map (marked a b) es) a b).arrived ≡ length (lines_in (map (marked a b) es) a b).held
  marked_all es =
      let k = kept_marked es a b in
      omega (arith, ap (prefix_len (λ e. e.arrived)) k, all_marked es, ap length k, length-map (kept (map (marked a b) es) a b) (λ e. e.item), length-map (kept es a b) (marked a b))

  pub marked_brought : (es : List Entry) → Brought (lines_in es) (lines_in (map (marked a b) es)) a b
  marked_brought es = record {
    held = ap (map (λ e. e.item)) (kept_marked es a b) ∙ items_marked (kept es a b);
    arrived = omega (arith, prefix_len-le-length (λ e. e.arrived) (kept es a b), ap (prefix_len (λ e. e.arrived)) (kept_marked es a b), all_marked es);
    others = λ p q ne. ap line_of (kept_marked es p q ∙ others_marked es p q ne);
  }

  pub sound_marked : (es : List Entry) → Sound es → Sound (map (marked a b) es)
  sound_marked es s p q = omega (arith, s p q, ap length (kept_marked es p q), length-map (kept es p q) (marked a b))
