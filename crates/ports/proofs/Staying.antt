-- A list that rises, put entry by entry into a list of its own, and what is kept of a copy of it. Assumes nothing.
use Rattle.std.proofs.Common.{◌≡◌, ℕ, ◌+◌, ◌<◌, ◌≤◌, not, List, ◌∷◌, ◌++◌, length, get_or, take, drop, sym, ap, ◌∙◌, subst, arith}
use Rattle.std.proofs.lemmas.List.{drop_more, take-append-drop, take-append-le, take_all, take_more}
use Rattle.ordered.specs.Orders.{Rising, placed}
use Rattle.ordered.proofs.Lasts.{front_passes, placed_behind}
use Rattle.records.specs.Keys.{handed_before}
use Rattle.records.specs.declared.notice.Handed.{Handed}
use Rattle.model.specs.Batches.{within, left}
use Rattle.ports.proofs.Leaving.{pairs_kept}

-- the next goes behind those before it
pub put_next : (xs out new : List Handed) (i : ℕ) (d : Handed) → i < length xs → Rising handed_before xs → out ≡ take i xs → new ≡ placed handed_before (get_or xs i d) out → new ≡ take (i + 1) xs
put_next xs out new i d lt up so put =
    let one = get_or xs i d in
    let whole : xs ≡ take i xs ++ one ∷ drop (i + 1) xs = sym (take-append-drop i xs) ∙ ap (λ ys. take i xs ++ ys) (drop_more xs i d lt) in
    put
    ∙ ap (placed handed_before one) so
    ∙ placed_behind handed_before one (take i xs) (front_passes (λ u v. not (handed_before v u)) (take i xs) (drop (i + 1) xs) one (subst (Rising handed_before) whole up))
    ∙ sym (take_more xs i d lt)

-- what is kept in a copy of the list
module _ (cuts : List ℕ) (xs copy spare behind new : List Handed) (n k : ℕ) (copied : copy ≡ xs) (long : n ≡ length xs) (few : k ≤ length new) (kept : take k new ≡ left cuts (take n (copy ++ spare))) where
  whole : take n (copy ++ spare) ≡ xs
  whole = take-append-le n copy spare (omega (arith, ap length copied, long)) ∙ take_all n copy (omega (arith, ap length copied, long)) ∙ copied

  pub kept_is : take k (new ++ behind) ≡ left cuts xs
  kept_is = take-append-le k new behind few ∙ kept ∙ ap (left cuts) whole

  pub kept_rises : Rising handed_before xs → Rising handed_before (take k (new ++ behind))
  kept_rises up = subst (Rising handed_before) (sym kept_is) (pairs_kept (λ u v. not (handed_before v u)) (λ n. not (within cuts n)) xs up)
