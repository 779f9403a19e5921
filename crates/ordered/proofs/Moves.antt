-- What the moves of a part leave of the whole memory. Assumes nothing.
use Rattle.std.proofs.Common.{◌≡◌, ℕ, suc, ◌+◌, ◌-◌, ◌<◌, ◌≤◌, List, ◌∷◌, ◌++◌, length, take, drop, set, sym, ap, ◌∙◌, arith}
use borrow.Rule.Slice.PartMut.{put_mid}
use Rattle.std.specs.List.{insert, between}
use Rattle.std.proofs.lemmas.List.{length-take, length-drop, length-set, take-take, drop_more, drop_all, set-append_left, set-append_right}
use Rattle.std.proofs.lemmas.List.Edits.{length-between}
use Rattle.std.proofs.lemmas.Slice.{between_is, take-put_mid, drop-put_mid}

module _ {X : Type 0} where
  -- the last of a part brought to its front, and x written over it
  front_written : (p q : List X) (x : X) → 0 < length p → q ≡ drop (length p - 1) p ++ take (length p - 1) p → set q 0 x ≡ x ∷ take (length p - 1) p
  front_written p q x some is =
      let last = drop_more p (length p - 1) x (omega arith) in
      ap (λ zs. set zs 0 x) (is ∙ ap (λ zs. zs ++ take (length p - 1) p) last) ∙ ap (λ zs. x ∷ (zs ++ take (length p - 1) p)) (drop_all (length p - 1 + 1) p (omega arith))

  -- a place of a part written, and the same place of the memory
  pub set_mid : (old part : List X) (at k : ℕ) (x : X) → at ≤ length old → 0 < length part → set (put_mid at k old part) at x ≡ put_mid at k old (set part 0 x)
  set_mid old part at k x le some =
      let front : length (take at old) ≡ at = simp length-take (omega arith) in
      set-append_right (take at old) (part ++ drop k (drop at old)) at at x front (omega arith)
      ∙ ap (λ i. take at old ++ set (part ++ drop k (drop at old)) i x) (let z : at - at ≡ 0 = omega arith in z)
      ∙ ap (λ ys. take at old ++ ys) (set-append_left part (drop k (drop at old)) 0 x some)

  -- x in front of what stands from at to len, which is moved one place on
  module _ (old : List X) (len at : ℕ) (x : X) (fits : len < length old) (le : at ≤ len) (turned : List X) (is : turned ≡ drop (length (between at (len + 1) old) - 1) (between at (len + 1) old) ++ take (length (between at (len + 1) old) - 1) (between at (len + 1) old)) where
    part_size : length (between at (len + 1) old) ≡ suc (len - at)
    part_size = length-between old at (len + 1) (omega arith) ∙ omega arith

    abbrev part : List X
    part = set turned 0 x

    part_is : part ≡ x ∷ drop at (take len old)
    part_is =
        let size = part_size in
        front_written (between at (len + 1) old) turned x (omega arith) is
        ∙ ap (λ n. x ∷ take n (between at (len + 1) old)) (let z : length (between at (len + 1) old) - 1 ≡ len - at = omega arith in z)
        ∙ ap (λ xs. x ∷ xs) (take-take (len - at) ((len + 1) - at) (drop at old) (omega arith) ∙ between_is old at len)

    part_length : length part ≡ (len + 1) - at
    part_length = ap length part_is ∙ simp (length-drop, length-take) (omega arith)

    turned_some : 0 < length turned
    turned_some = let l : length (set turned 0 x) ≡ length turned = length-set turned 0 x in omega (arith, part_length, l)

    pub pushed_take : take (len + 1) (set (put_mid at ((len + 1) - at) old turned) at x) ≡ insert (take len old) at x
    pushed_take =
        let l = part_length in
        ap (take (len + 1)) (set_mid old turned at ((len + 1) - at) x (omega arith) turned_some) ∙
        take-put_mid at ((len + 1) - at) old part (len + 1) (omega arith) (omega arith)
        ∙ ap (λ ys. take at old ++ ys) part_is
        ∙ ap (λ ys. ys ++ x ∷ drop at (take len old)) (sym (take-take at len old le))

    pub pushed_drop : drop (len + 1) (set (put_mid at ((len + 1) - at) old turned) at x) ≡ drop (len + 1) old
    pushed_drop = ap (drop (len + 1)) (set_mid old turned at ((len + 1) - at) x (omega arith) turned_some) ∙ drop-put_mid at ((len + 1) - at) old part (len + 1) (omega arith) (omega arith) part_length
