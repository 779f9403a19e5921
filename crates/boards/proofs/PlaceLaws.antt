-- What an array of lists shows after one of them is changed. Assumes nothing.
use Rattle.std.specs.Prelude.{◌≡◌, ℕ, zero, suc, ◌+◌, ◌*◌, ◌<◌, true, false, ◌&&◌, ◌≢◌, List, [], ◌∷◌, map, length, get_or, Some, None, ◌==◌, slice_index_or, slice_set, refl}
use Rattle.std.proofs.Common.{sym, ap, ◌∙◌, ⊎_elim, arith}
use Rattle.std.proofs.lemmas.List.{length-map, get_or-map, map-set, get_or-set_same, get_or-set_other}
use Rattle.std.proofs.lemmas.Bool.{cases_Bool, cond-true, cond-false, cond_both}
use Rattle.records.specs.declared.notice.Action.{Action}
use Rattle.boards.specs.declared.outcome.Outcome.{Outcome}
use Rattle.boards.specs.Rules.{Vessels, Rule}
use Rattle.boards.specs.Shown.{Lists, is_berth, turned, Applied, Emptied}
use Rattle.boards.specs.Places.{place_of, shown_by}
use Rattle.boards.proofs.ShownLaws.{berth_bounds, in_range_lem, turned_in_range, at_place, not_place}

pub place_some : (w h b k : ℕ) → Some k ≡ place_of w h b → (is_berth w h b ≡ true) × (k ≡ w * 128 + h * 16 + b)
place_some w h b k e =
    ⊎_elim
    (λ t. let here = e ∙ cond-true (is_berth w h b) (Some (w * 128 + h * 16 + b)) None t in (t, cc))
    (λ f. let nowhere = e ∙ cond-false (is_berth w h b) (Some (w * 128 + h * 16 + b)) None f in absurd cc)
    (cases_Bool (is_berth w h b))

module _ {X : Type 0} (means : X → Vessels) where
  -- what each element means is what stands there
  at_each : (P : Vessels → Type 0) (xs : List X) (i : ℕ) → P [] → ((d : X) → P (means (slice_index_or xs i d))) → P (slice_index_or (map means xs) i [])
  at_each P [] i none each = none
  at_each P (x ∷ xs) zero none each = each x
  at_each P (x ∷ xs) (suc i) none each = at_each P xs i none each

  -- an array whose every element means the empty list shows none
  pub all_empty : (xs : List X) → ((i : ℕ) (d : X) → i < 1024 → means (slice_index_or xs i d) ≡ []) → Emptied (shown_by means xs)
  all_empty xs each p q k = cond_both (is_berth p q k) (slice_index_or (map means xs) (p * 128 + q * 16 + k) []) [] (λ l. l ≡ []) (λ t. let b = berth_bounds p q k t in at_each (λ l. l ≡ []) xs (p * 128 + q * 16 + k) refl (λ d. each (p * 128 + q * 16 + k) d (omega arith))) (λ _. refl)

  -- the element at i is the list of watching port w, home h and berth b
  module _ (xs : List X) (w h b i : ℕ) (long : length xs ≡ 1024) (at : Some i ≡ place_of w h b) where
    within : i < 1024
    within = let r = berth_bounds w h b (place_some w h b i at).0 in omega (arith, (place_some w h b i at).1)

    pub shown_is : (d : X) → shown_by means xs w h b ≡ means (slice_index_or xs i d)
    shown_is d =
        cond-true (is_berth w h b) (slice_index_or (map means xs) (w * 128 + h * 16 + b) []) [] (place_some w h b i at).0 ∙
        ap (λ j. get_or (map means xs) j []) (sym (place_some w h b i at).1) ∙ get_or-map means xs i d [] (omega (arith, within))

    shown_set : (y : X) → shown_by means (slice_set xs i y) w h b ≡ means y
    shown_set y =
        cond-true (is_berth w h b) (slice_index_or (map means (slice_set xs i y)) (w * 128 + h * 16 + b) []) [] (place_some w h b i at).0 ∙
        ap (λ j. get_or (map means (slice_set xs i y)) j []) (sym (place_some w h b i at).1) ∙
        ap (λ l. get_or l i []) (map-set means xs i y) ∙ get_or-set_same (map means xs) i (means y) [] (omega (arith, within, length-map xs means))

    shown_others : (y : X) (p q k : ℕ) → ((p ≡ w) × (q ≡ h) × (k ≡ b) → ⊥) → shown_by means (slice_set xs i y) p q k ≡ shown_by means xs p q k
    shown_others y p q k ne = ⊎_elim on off (cases_Bool (is_berth p q k))
      where
        on : is_berth p q k ≡ true → shown_by means (slice_set xs i y) p q k ≡ shown_by means xs p q k
        on t =
            let r = berth_bounds p q k t in
            let s = berth_bounds w h b (place_some w h b i at).0 in
            let z = (place_some w h b i at).1 in
            let apart : p * 128 + q * 16 + k ≢ i = λ e. ne (omega arith, omega arith, omega arith) in
            rw t (ap (λ l. get_or l (p * 128 + q * 16 + k) []) (map-set means xs i y) ∙ get_or-set_other (map means xs) i (p * 128 + q * 16 + k) (means y) [] apart)

        off : is_berth p q k ≡ false → shown_by means (slice_set xs i y) p q k ≡ shown_by means xs p q k
        off f = rw f refl

    -- the element was turned by the rule, and so was the board
    pub applied_here : (rule : Rule) (a : Action) (v : ℕ) (d y : X) (o : Outcome) → 0 < v → means y ≡ (rule (means (slice_index_or xs i d)) a v).list → o ≡ (rule (means (slice_index_or xs i d)) a v).outcome → Applied rule (shown_by means xs) (shown_by means (slice_set xs i y)) w h b a v o
    applied_here rule a v d y o some lists outcomes =
        let old : Lists = shown_by means xs in
        let new : Lists = shown_by means (slice_set xs i y) in
        let r = berth_bounds w h b (place_some w h b i at).0 in
        let turns = turned_in_range rule w h b a v (old w h b) (in_range_lem w h b v r.0 r.1 r.2 some) ∙ ap (λ l. rule l a v) (shown_is d) in
        let made : new w h b ≡ (turned rule w h b a v (old w h b)).list = shown_set y ∙ lists ∙ sym (ap (λ t. t.list) turns) in
        record {
          outcome = outcomes ∙ sym (ap (λ t. t.outcome) turns);
          lists = λ p q k.
              cond_both (p == w && (h == q && b == k)) (turned rule p h b a v (old p q k)).list (old p q k) (λ l. new p q k ≡ l)
              (λ here. at_place w h b p q k (λ p q k. new p q k ≡ (turned rule p h b a v (old p q k)).list) here made)
              (λ there. shown_others y p q k (not_place w h b p q k there));
        }
