-- The edits of the array, as edits of the journal in it. Assumes nothing.
use Rattle.std.proofs.Common.{◌≡◌, ℕ, ◌+◌, ◌-◌, ◌<◌, ◌≤◌, true, false, List, [], ◌∷◌, ◌++◌, map, length, get_or, take, drop, set, Some, None, Option, sym, refl, ap, ◌∙◌, subst, arith}
use borrow.Rule.Slice.PartMut.{put_mid, post_of, mid_of}
use Rattle.std.proofs.lemmas.List.{append_assoc, length-map, length-append, length-drop, length-take-le, length-set, length_push, get_or-take, take-take, take_at, take_more_set, drop-drop}
use Rattle.std.proofs.lemmas.Slice.{between_is}
use Rattle.records.specs.declared.notice.Record.{Record}
use Rattle.wires.specs.Lines.{depth_of, Put, Looked, LookAnswers, Taken, Brought}
use Rattle.bag_wire.specs.declared.entry.Entry.{Entry}
use Rattle.bag_wire.specs.Journals.{put, on, kept, lines_in, Sound, shown, marked, First}
use Rattle.bag_wire.proofs.JournalLaws.{on_from, push_waits, push_put, sound_push, shown_some, shown_none, first_late, first_looked, first_taken, sound_removed, marked_all, marked_brought, sound_marked}
use Rattle.bag_wire.proofs.Places.{short}

-- `&s[0..n]`
pub mid_is : (xs : List Entry) (n : ℕ) → mid_of 0 (n - 0) xs ≡ take n xs
mid_is xs n = let e : n - 0 ≡ n = omega arith in ap (λ k. take k xs) e

-- the first n entries of j are the journal
abbrev pub Ok : List Entry → ℕ → Type 0
Ok j n = (length j ≡ 448) × (n ≤ 448) × Sound (take n j)

module _ (j : List Entry) (n : ℕ) (ok : Ok j n) where
  length_journal : length (take n j) ≡ n
  length_journal = length-take-le n j (omega (arith, ok.0, ok.1))

  -- the line's length, by its entries and by its records
  pub length_line : (a b : ℕ) → length (lines_in (take n j) a b).held ≡ length (kept (take n j) a b)
  length_line a b = length-map (kept (take n j) a b) (λ e. e.item)

  -- ---- a put, where the line has space

  module _ (a b : ℕ) (x : Record) (e : Entry) (made : e ≡ put a b x) (space : length (lines_in (take n j) a b).held < depth_of 8 a b) where
    space_kept : length (kept (take n j) a b) < depth_of 8 a b
    space_kept = omega (arith, length_line a b)

    mine : on a b e ≡ true
    mine = ap (on a b) made ∙ on_from (put a b x) a b refl refl

    late : e.arrived ≡ false
    late = ap (λ y. y.arrived) made

    pushed_sound : Sound (take n j ++ e ∷ [])
    pushed_sound = sound_push (take n j) e a b mine late space_kept ok.2

    pub put_within : n < 448
    put_within = omega (arith, short (take n j ++ e ∷ []) pushed_sound, length_push (take n j) e, length_journal)

    put_is : take (n + 1) (set j n e) ≡ take n j ++ e ∷ []
    put_is = take_more_set j n e (omega (arith, put_within, ok.0))

    pub put_ok : Ok (set j n e) (n + 1)
    put_ok = (length-set j n e ∙ ok.0, omega (arith, put_within), subst Sound (sym put_is) pushed_sound)

    pub put_done : Put 8 (lines_in (take n j)) (lines_in (take (n + 1) (set j n e))) a b x
    put_done = subst (λ es. Put 8 (lines_in (take n j)) (lines_in es) a b x) (sym put_is) (subst (Put 8 (lines_in (take n j)) (lines_in (take n j ++ e ∷ [])) a b) (ap (λ y. y.item) made) (push_put (take n j) e a b mine late space_kept))

    pub put_waits : (lines_in (take (n + 1) (set j n e)) a b).arrived ≡ (lines_in (take n j) a b).arrived
    put_waits = subst (λ es. (lines_in es a b).arrived ≡ (lines_in (take n j) a b).arrived) (sym put_is) (push_waits (take n j) e a b mine late space_kept)

  -- ---- a look and a take, where the line's oldest entry is at i

  module _ (p q i : ℕ) (found : First (mid_of 0 (n - 0) j) p q i) (d : Entry) where
    at : First (take n j) p q i
    at = subst (λ es. First es p q i) (mid_is j n) found

    pub first_within : i < n
    first_within = omega (arith, at.within, length_journal)

    same : get_or (take n j) i d ≡ get_or j i d
    same = get_or-take n j i d first_within

    pub look_late : None ≡ shown (get_or j i d) → (lines_in (take n j) p q).arrived ≡ 0
    look_late e = first_late (take n j) p q i at d (ap (λ e. e.arrived) same ∙ shown_none (get_or j i d) e)

    pub look_done : (r : Option Record) → r ≡ shown (get_or j i d) → LookAnswers (lines_in (take n j) p q) r
    look_done None e = look_late e
    look_done (Some x) e =
        let s = shown_some (get_or j i d) x e in
        subst (Looked (lines_in (take n j) p q)) (ap (λ e. e.item) same ∙ s.1) (first_looked (take n j) p q i at d (ap (λ e. e.arrived) same ∙ s.0))

    module _ (ys : List Entry) (after : ys ≡ drop 1 (mid_of i (n - i) j) ++ take 1 (mid_of i (n - i) j)) where
      rest_is : drop 1 (mid_of i (n - i) j) ≡ drop (i + 1) (take n j)
      rest_is = ap (drop 1) (between_is j i n) ∙ drop-drop 1 i (take n j)

      -- the journal without the entry
      rotated : take (n - 1) (put_mid i (n - i) j ys) ≡ take i (take n j) ++ drop (i + 1) (take n j)
      rotated =
          let f = take i j in
          let m = mid_of i (n - i) j in
          let r = post_of i (n - i) j in
          let h = first_within in
          let lf = length-take-le i j (omega (arith, ok.0, ok.1)) in
          let lr : length (drop 1 m) ≡ n - i - 1 = ap length rest_is ∙ length-drop (i + 1) (take n j) ∙ omega (arith, length_journal) in
          ap (λ zs. take (n - 1) (f ++ (zs ++ r))) after ∙
          ap (λ zs. take (n - 1) (f ++ zs)) (append_assoc (drop 1 m) (take 1 m) r) ∙
          ap (take (n - 1)) (sym (append_assoc f (drop 1 m) (take 1 m ++ r))) ∙
          take_at (f ++ drop 1 m) (take 1 m ++ r) (n - 1) (length-append f (drop 1 m) ∙ omega (arith, lf, lr)) ∙
          ap (λ zs. zs ++ drop 1 m) (sym (take-take i n j (omega arith))) ∙
          ap (λ zs. take i (take n j) ++ zs) rest_is

      rotated_long : length (put_mid i (n - i) j ys) ≡ 448
      rotated_long =
          let m = mid_of i (n - i) j in
          let r = post_of i (n - i) j in
          let h = first_within in
          let lm = length-take-le (n - i) (drop i j) (omega (arith, length-drop i j, ok.0, ok.1)) in
          let lf = length-take-le i j (omega (arith, ok.0, ok.1)) in
          let ly = ap length after ∙ length-append (drop 1 m) (take 1 m) in
          let l2 = length-take-le 1 m (omega (arith, lm)) in
          length-append (take i j) (ys ++ r) ∙
          omega (arith, ok.0, ok.1, lf, length-append ys r, ly, length-drop 1 m, l2, lm, length-drop (n - i) (drop i j), length-drop i j)

      pub take_ok : Ok (put_mid i (n - i) j ys) (n - 1)
      take_ok = (rotated_long, omega (arith, ok.1), subst Sound (sym rotated) (sound_removed (take n j) p q i at d ok.2))

      pub take_done : (x : Record) → Some x ≡ shown (get_or j i d) → Taken (lines_in (take n j)) (lines_in (take (n - 1) (put_mid i (n - i) j ys))) p q x
      take_done x e =
          let s = shown_some (get_or j i d) x e in
          subst (λ es. Taken (lines_in (take n j)) (lines_in es) p q x) (sym rotated)
          (subst (Taken (lines_in (take n j)) (lines_in (take i (take n j) ++ drop (i + 1) (take n j))) p q) (ap (λ e. e.item) same ∙ s.1)
          (first_taken (take n j) p q i at d (ap (λ e. e.arrived) same ∙ s.0)))

  -- ---- a bring

  module _ (a b : ℕ) (ys : List Entry) (after : ys ≡ map (marked a b) (mid_of 0 (n - 0) j)) where
    marks : ys ≡ map (marked a b) (take n j)
    marks = after ∙ ap (map (marked a b)) (mid_is j n)

    length_marks : length ys ≡ n
    length_marks = ap length marks ∙ length-map (take n j) (marked a b) ∙ length_journal

    marked_is : take n (ys ++ post_of 0 (n - 0) j) ≡ map (marked a b) (take n j)
    marked_is = take_at ys (post_of 0 (n - 0) j) n length_marks ∙ marks

    pub bring_ok : Ok (ys ++ post_of 0 (n - 0) j) n
    bring_ok = (length-append ys (post_of 0 (n - 0) j) ∙ omega (arith, length_marks, length-drop (n - 0) j, ok.0, ok.1), ok.1, subst Sound (sym marked_is) (sound_marked a b (take n j) ok.2))

    pub bring_done : Brought (lines_in (take n j)) (lines_in (take n (ys ++ post_of 0 (n - 0) j))) a b
    bring_done = subst (λ es. Brought (lines_in (take n j)) (lines_in es) a b) (sym marked_is) (marked_brought a b (take n j))

    pub bring_all : (lines_in (take n (ys ++ post_of 0 (n - 0) j)) a b).arrived ≡ length (lines_in (take n (ys ++ post_of 0 (n - 0) j)) a b).held
    bring_all = subst (λ es. (lines_in es a b).arrived ≡ length (lines_in es a b).held) (sym marked_is) (marked_all a b (take n j))
