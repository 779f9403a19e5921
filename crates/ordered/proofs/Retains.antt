-- What a rising list keeps when some of its entries go, entry by entry. Assumes nothing.
use Rattle.std.proofs.Common.{◌≡◌, ℕ, ◌+◌, ◌<◌, ◌≤◌, Bool, true, false, not, List, [], ◌∷◌, ◌++◌, length, get_or, take, drop, set, filter, sym, ap, ◌∙◌, subst, arith, length-set}
use Rattle.std.proofs.lemmas.List.{take_more_set, drop_more, drop_all, take_all, append_assoc, append-nil}
use Rattle.std.proofs.lemmas.List.Elements.{filter_more}
use Rattle.std.proofs.lemmas.Bool.{and_parts, and_from, cond-true, cond-false}
use Rattle.ordered.specs.Orders.{all_pass, pairs_pass, Rising}

module _ {X : Type 0} where
  all_without : (test : X → Bool) (ys zs : List X) (e : X) → all_pass test (ys ++ e ∷ zs) ≡ true → all_pass test (ys ++ zs) ≡ true
  all_without test [] zs e h = (and_parts (test e) (all_pass test zs) h).1
  all_without test (y ∷ ys) zs e h =
      let both = and_parts (test y) (all_pass test (ys ++ e ∷ zs)) h in
      and_from (test y) (all_pass test (ys ++ zs)) both.0 (all_without test ys zs e both.1)

  -- an entry gone from the middle
  pairs_without : (test : X → X → Bool) (ys zs : List X) (e : X) → pairs_pass test (ys ++ e ∷ zs) ≡ true → pairs_pass test (ys ++ zs) ≡ true
  pairs_without test [] zs e h = (and_parts (all_pass (test e) zs) (pairs_pass test zs) h).1
  pairs_without test (y ∷ ys) zs e h =
      let both = and_parts (all_pass (test y) (ys ++ e ∷ zs)) (pairs_pass test (ys ++ e ∷ zs)) h in
      and_from (all_pass (test y) (ys ++ zs)) (pairs_pass test (ys ++ zs)) (all_without (test y) ys zs e both.0) (pairs_without test ys zs e both.1)

  -- of the first i entries xs the places have those that pass, in front, and what is to come would rise behind them
  pub record Retained (before : X → X → Bool) (Passes : (X → Bool) → Type 0) (size : ℕ) (xs places : List X) (i len : ℕ) : Type 0 where
    pub few : len ≤ i
    pub same : length places ≡ size
    pub room : length xs ≤ size
    pub rises : Rising before (take len places ++ drop i xs)
    pub kept : (p : X → Bool) → Passes p → take len places ≡ filter p (take i xs)

  module _ {before : X → X → Bool} {Passes : (X → Bool) → Type 0} {size : ℕ} {xs places : List X} {i len : ℕ} (r : Retained before Passes size xs places i len) (e d : X) (lt : i < length xs) (is : e ≡ get_or xs i d) where
    next : drop i xs ≡ e ∷ drop (i + 1) xs
    next = drop_more xs i d lt ∙ ap (λ x. x ∷ drop (i + 1) xs) (sym is)

    pub goes : ((p : X → Bool) → Passes p → p e ≡ false) → Retained before Passes size xs places (i + 1) len
    goes fails = record {
      few = omega (arith, r.few);
      same = r.same;
      room = r.room;
      rises = pairs_without (λ x y. not (before y x)) (take len places) (drop (i + 1) xs) e (subst (λ ys. Rising before (take len places ++ ys)) next r.rises);
      kept = λ p w.
          r.kept p w
          ∙ sym (append-nil (filter p (take i xs)))
          ∙ ap (λ ys. filter p (take i xs) ++ ys) (sym (cond-false (p (get_or xs i d)) (get_or xs i d ∷ []) [] (ap p (sym is) ∙ fails p w)))
          ∙ sym (filter_more p xs i d lt);
    }

    pub stays : ((p : X → Bool) → Passes p → p e ≡ true) → Retained before Passes size xs (set places len e) (i + 1) (len + 1)
    stays passes =
        let more : take (len + 1) (set places len e) ≡ take len places ++ e ∷ [] = take_more_set places len e (omega (arith, r.few, r.same, r.room)) in
        record {
          few = omega (arith, r.few);
          same = length-set places len e ∙ r.same;
          room = r.room;
          rises = subst (Rising before) (ap (λ ys. take len places ++ ys) next ∙ sym (append_assoc (take len places) (e ∷ []) (drop (i + 1) xs)) ∙ ap (λ ys. ys ++ drop (i + 1) xs) (sym more)) r.rises;
          kept = λ p w.
              more
              ∙ ap (λ ys. ys ++ e ∷ []) (r.kept p w)
              ∙ ap (λ x. filter p (take i xs) ++ x ∷ []) is
              ∙ ap (λ ys. filter p (take i xs) ++ ys) (sym (cond-true (p (get_or xs i d)) (get_or xs i d ∷ []) [] (ap p (sym is) ∙ passes p w)))
              ∙ sym (filter_more p xs i d lt);
        }

  module _ {before : X → X → Bool} {Passes : (X → Bool) → Type 0} {size : ℕ} {xs places : List X} {i len : ℕ} (r : Retained before Passes size xs places i len) (end : length xs ≤ i) where
    pub all_rises : Rising before (take len places)
    all_rises = subst (Rising before) (ap (λ ys. take len places ++ ys) (drop_all i xs end) ∙ append-nil (take len places)) r.rises

    pub all_kept : (p : X → Bool) → Passes p → take len places ≡ filter p xs
    all_kept p w = r.kept p w ∙ ap (filter p) (take_all i xs end)
