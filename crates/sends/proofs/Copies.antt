-- What the lines get of a batch, notice by notice and port by port. Assumes nothing.
use Rattle.std.proofs.Common.{◌≡◌, ℕ, ◌+◌, ◌<◌, Bool, true, false, cond, ◌&&◌, eqb, ltb, List, [], ◌∷◌, ◌++◌, map, length, get_or, take, drop, sym, refl, ap, ◌∙◌, subst, ⊎_elim, arith}
use Rattle.std.proofs.lemmas.List.{append-nil, drop_more, take_more, length-append, map-append}
use Rattle.std.proofs.lemmas.List.Elements.{filter-append}
use Rattle.std.proofs.lemmas.Bool.{cond-true, cond-false, cases_eq, eq-eqb, and_from, and_parts, le-ltb}
use Rattle.std.proofs.lemmas.Bool.Decides.{nat_tests}
use Rattle.records.specs.declared.notice.Decided.{Decided}
use Rattle.records.specs.declared.notice.Record.{Record}
use Rattle.records.specs.declared.notice.Record.TheVariants.{Notice as Carries}
use Rattle.wires.specs.Lines.{Lines, Put, is_line, depth_of}
use Rattle.wires.specs.Growths.{Extra, Grown, single}
use Rattle.wires.proofs.Growths.{below, grown_none, grown_then, grown_same, grown_put, grown_length}
use Rattle.model.specs.Batches.{goes_to, sent_to, copies_on}
use Rattle.model.specs.Refusals.{room}
use Rattle.sends.proofs.Rooms.{room_at, room_from}

-- ---- on one line

pub copies_on_lem : (a : ℕ) (ds : List Decided) (q : ℕ) → is_line a q ≡ true → copies_on a ds a q ≡ map Carries (sent_to q ds)
copies_on_lem a ds q e = cond-true (eqb a a && is_line a q) (map Carries (sent_to q ds)) [] (and_from (eqb a a) (is_line a q) (eq-eqb a a refl) e)

-- ---- notice by notice

pub copies_append : (a : ℕ) (xs ys : List Decided) (p q : ℕ) → copies_on a (xs ++ ys) p q ≡ copies_on a xs p q ++ copies_on a ys p q
copies_append a xs ys p q =
    elim (eqb p a && is_line p q) as (λ b. cond b (map Carries (sent_to q (xs ++ ys))) [] ≡ cond b (map Carries (sent_to q xs)) [] ++ cond b (map Carries (sent_to q ys)) []) [
      | true ↦ ap (map Carries) (filter-append (goes_to q) xs ys) ∙ map-append Carries (sent_to q xs) (sent_to q ys)
      | false ↦ refl
    ]

pub grown_more : (old mid new : Lines) (a : ℕ) (xs ys : List Decided) → Grown old mid (copies_on a xs) → Grown mid new (copies_on a ys) → Grown old new (copies_on a (xs ++ ys))
grown_more old mid new a xs ys g h = grown_same old new (λ p q. copies_on a xs p q ++ copies_on a ys p q) (copies_on a (xs ++ ys)) (copies_append a xs ys) (grown_then old mid new (copies_on a xs) (copies_on a ys) g h)

-- where there is room for some notices, there is room for the first; once its copies are put, there is room for the rest
module _ (depth : ℕ) (old : Lines) (a : ℕ) (d : Decided) (ds : List Decided) (r : room depth old a (copies_on a (d ∷ ds)) ≡ true) where
  split : (q : ℕ) → length (copies_on a (d ∷ ds) a q) ≡ length (copies_on a (d ∷ []) a q) + length (copies_on a ds a q)
  split q = ap length (copies_append a (d ∷ []) ds a q) ∙ length-append (copies_on a (d ∷ []) a q) (copies_on a ds a q)

  pub room_first : room depth old a (copies_on a (d ∷ [])) ≡ true
  room_first = room_from depth old a (copies_on a (d ∷ [])) (λ q lt. omega (arith, room_at depth old a (copies_on a (d ∷ ds)) r q lt, split q))

  pub room_rest : (new : Lines) → Grown old new (copies_on a (d ∷ [])) → room depth new a (copies_on a ds) ≡ true
  room_rest new g = room_from depth new a (copies_on a ds) (λ q lt. omega (arith, room_at depth old a (copies_on a (d ∷ ds)) r q lt, split q, grown_length old new (copies_on a (d ∷ [])) g a q))

-- the notice at place i of a batch: it has room, and once its copies are put there is room for those behind it
module _ (depth : ℕ) (old mid : Lines) (a : ℕ) (ds : List Decided) (i : ℕ) (e : Decided) (lt : i < length ds) (r : room depth mid a (copies_on a (drop i ds)) ≡ true) where
  here : room depth mid a (copies_on a (get_or ds i e ∷ drop (i + 1) ds)) ≡ true
  here = subst (λ xs. room depth mid a (copies_on a xs) ≡ true) (drop_more ds i e lt) r

  pub next_room : room depth mid a (copies_on a (get_or ds i e ∷ [])) ≡ true
  next_room = room_first depth mid a (get_or ds i e) (drop (i + 1) ds) here

  pub next_done : (new : Lines) → Grown old mid (copies_on a (take i ds)) → Grown mid new (copies_on a (get_or ds i e ∷ [])) → Grown old new (copies_on a (take (i + 1) ds)) × (room depth new a (copies_on a (drop (i + 1) ds)) ≡ true)
  next_done new g h = (
    subst (λ xs. Grown old new (copies_on a xs)) (sym (take_more ds i e lt)) (grown_more old mid new a (take i ds) (get_or ds i e ∷ []) g h),
    room_rest depth mid a (get_or ds i e) (drop (i + 1) ds) here new h,
  )

-- ---- port by port

-- what the line to port n gets comes on top of what the lines to the ports below it got
line_more : (n : ℕ) (e f : Extra) → ((p : ℕ) → e p n ≡ f p n) → ((p q : ℕ) → (q ≡ n → ⊥) → f p q ≡ []) → (p q : ℕ) → below (n + 1) e p q ≡ below n e p q ++ f p q
line_more n e f here other p q =
    ⊎_elim
    (λ (h : q ≡ n). subst (λ i. below (n + 1) e p i ≡ below n e p i ++ f p i) (sym h) (grind (arith, nat_tests, here p)))
    (λ (h : q ≡ n → ⊥). grind (arith, nat_tests, other p q h, append-nil (below n e p q)))
    (cases_eq q n)

-- one record is on one line
single_here : (a b : ℕ) (x : Record) → single a b x a b ≡ x ∷ []
single_here a b x = grind (arith, nat_tests)

single_away : (a b : ℕ) (x : Record) (p q : ℕ) → (q ≡ b → ⊥) → single a b x p q ≡ []
single_away a b x p q ne = grind (arith, nat_tests)

-- the copies of one notice
module _ (a : ℕ) (d : Decided) where
  abbrev pub copies : Extra
  copies = copies_on a (d ∷ [])

  -- port n gets one
  abbrev pub gets : ℕ → Bool
  gets n = is_line a n && goes_to n d

  one_set : (n p : ℕ) → gets n ≡ true → copies p n ≡ single a n (Carries d) p n
  one_set n p on =
      let h = and_parts (is_line a n) (goes_to n d) on in
      ⊎_elim
      (λ (e : p ≡ a). subst (λ i. copies i n ≡ single a n (Carries d) i n) (sym e) (copies_on_lem a (d ∷ []) n h.0 ∙ grind (arith, nat_tests, h.1)))
      (λ (e : p ≡ a → ⊥). grind (arith, nat_tests))
      (cases_eq p a)

  one_unset : (n p : ℕ) → gets n ≡ false → copies p n ≡ []
  one_unset n p off = grind (arith, nat_tests)

  pub first_all : (old new : Lines) → Grown old new (below 8 copies) → Grown old new copies
  first_all old new = grown_same old new (below 8 copies) copies (λ p q. grind (arith, nat_tests))

  module _ (old mid : Lines) (n : ℕ) (g : Grown old mid (below n copies)) where
    pub first_skip : gets n ≡ false → Grown old mid (below (n + 1) copies)
    first_skip off =
        grown_same old mid (λ p q. below n copies p q ++ []) (below (n + 1) copies)
        (line_more n copies (λ p q. []) (λ p. one_unset n p off) (λ p q ne. refl))
        (grown_then old mid mid (below n copies) (λ p q. []) g (grown_none mid))

    pub first_put : (depth : ℕ) (new : Lines) → gets n ≡ true → Put depth mid new a n (Carries d) → Grown old new (below (n + 1) copies)
    first_put depth new on t =
        grown_same old new (λ p q. below n copies p q ++ single a n (Carries d) p q) (below (n + 1) copies)
        (line_more n copies (single a n (Carries d)) (λ p. one_set n p on) (single_away a n (Carries d)))
        (grown_then old mid new (below n copies) (single a n (Carries d)) g (grown_put depth mid new a n (Carries d) t))

    pub first_space : (depth : ℕ) → room depth old a copies ≡ true → gets n ≡ true → n < 8 → length (mid a n).held < depth_of depth a n
    first_space depth r on lt =
        let same = g.others a n (cond-false (ltb n n) (copies a n) [] (le-ltb n n (omega arith))) in
        let one : copies a n ≡ Carries d ∷ [] = one_set n a on ∙ single_here a n (Carries d) in
        omega (arith, room_at depth old a copies r n lt, ap length one, ap (λ l. length l.held) same)
