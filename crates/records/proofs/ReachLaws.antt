-- How a table fills, mask by mask, and why it is then sound. Assumes nothing.
use Rattle.std.proofs.Common.{◌≡◌, ℕ, ◌+◌, ◌<◌, ◌≤◌, Bool, true, false, ◌≢◌, List, length, get_or, take, set, replicate, sym, ap, ◌∙◌, subst, inl, inr, ⊎_elim, arith, MatchBool}
use Rattle.std.proofs.lemmas.List.{get_or-set_same, get_or-set_other, get_or_past, get_or-replicate, get_or-map, get_or-take, length-map, length-take-le, ext_get_or}
use Rattle.std.proofs.lemmas.Bool.{both_ways, cases_lt, cases_eq}
use Rattle.records.specs.declared.fault.TableFault.{TableFault}
use Rattle.records.specs.declared.fault.TableFault.TheVariants.{WrongCount, WrongMask}
use Rattle.records.specs.declared.mask.Mask.{Mask}
use Rattle.records.specs.Masks.{named}
use Rattle.records.specs.Reaching.{nobody, sends, Sound, Misnames, Refuses, Holds, mask_bytes}
use Rattle.records.proofs.MaskLaws.{none_above, none_named}

-- a byte that misnames nobody below 8 misnames nobody
no_more : (ports p bits : ℕ) → bits < 256 → ((q : ℕ) → q < 8 → Misnames ports p bits q → ⊥) → (q : ℕ) → Misnames ports p bits q → ⊥
no_more ports p bits byte below q m = ⊎_elim (λ lt. below q lt m) (λ ge. both_ways (named bits q) (none_above bits q byte ge) m.0) (cases_lt q 8)

-- so the eight ports tell whether it misnames any
pub misnames_any : (ports p bits : ℕ) → bits < 256 → (r : Bool) → MatchBool r ((q : ℕ) × (q < 8) × Misnames ports p bits q) ((q : ℕ) → q < 8 → Misnames ports p bits q → ⊥) → MatchBool r ((q : ℕ) × Misnames ports p bits q) ((q : ℕ) → Misnames ports p bits q → ⊥)
misnames_any ports p bits byte true (q, low, m) = (q, m)
misnames_any ports p bits byte false none = no_more ports p bits byte none

-- the first i masks are those of the bytes, misnaming nobody, and the others name nobody
pub record Filled (bytes : List ℕ) (table : List Mask) (i : ℕ) : Type 0 where
  pub copied : (p : ℕ) → p < i → (get_or table p nobody).bits ≡ get_or bytes p 0
  pub spare : (p : ℕ) → i ≤ p → (get_or table p nobody).bits ≡ 0
  pub clean : (p q : ℕ) → p < i → Misnames (length bytes) p (get_or bytes p 0) q → ⊥

-- at first no mask is there
pub filled_none : (bytes : List ℕ) → Filled bytes (replicate 8 nobody) 0
filled_none bytes = record {
  copied = λ p lt. absurd (omega arith);
  spare = λ p _. ap (λ m. m.bits) (⊎_elim (get_or-replicate 8 p nobody nobody) (get_or_past (replicate 8 nobody) p nobody) (cases_lt p 8));
  clean = λ p q lt. absurd (omega arith);
}

module _ (bytes : List ℕ) (table : List Mask) where
  -- one mask more
  pub filled_more : (i bits : ℕ) → Filled bytes table i → i < length table → bits ≡ get_or bytes i 0 → ((q : ℕ) → Misnames (length bytes) i bits q → ⊥) → Filled bytes (set table i (record { bits = bits })) (i + 1)
  filled_more i bits f room is ok = record {
    copied = λ p lt. ⊎_elim (λ e. subst (λ k. (get_or (set table i (record { bits = bits })) k nobody).bits ≡ get_or bytes k 0) (sym e) (ap (λ m. m.bits) (get_or-set_same table i (record { bits = bits }) nobody room) ∙ is)) (λ ne. ap (λ m. m.bits) (get_or-set_other table i p (record { bits = bits }) nobody ne) ∙ f.copied p (omega arith)) (cases_eq p i);
    spare = λ p le. let ne : p ≢ i = omega arith in ap (λ m. m.bits) (get_or-set_other table i p (record { bits = bits }) nobody ne) ∙ f.spare p (omega arith);
    clean = λ p q lt. ⊎_elim (λ e m. ok q (subst (λ k. Misnames (length bytes) k bits q) e (subst (λ b. Misnames (length bytes) p b q) (ap (λ k. get_or bytes k 0) e ∙ sym is) m))) (λ ne. f.clean p q (omega arith)) (cases_eq p i);
  }

  pub filled_all : (i : ℕ) → Filled bytes table i → i ≡ length bytes → Filled bytes table (length bytes)
  filled_all i f e = subst (Filled bytes table) e f

  -- a filled table holds the bytes, and is sound
  pub filled_holds : Filled bytes table (length bytes) → (p : ℕ) → (get_or table p nobody).bits ≡ get_or bytes p 0
  filled_holds f p = ⊎_elim (f.copied p) (λ le. f.spare p le ∙ sym (get_or_past bytes p 0 le)) (cases_lt p (length bytes))

  pub filled_sound : Filled bytes table (length bytes) → Sound (length bytes) table
  filled_sound f p q s =
      ⊎_elim (λ lt.
      let m : named (get_or bytes p 0) q ≡ true = ap (λ b. named b q) (sym (f.copied p lt)) ∙ s in
      let inside : q < length bytes = ⊎_elim (λ a. a) (λ le. absurd (f.clean p q lt (m, inr le))) (cases_lt q (length bytes)) in
      (lt, inside, λ e. f.clean p q lt (m, inl e)))
      (λ le. absurd (both_ways (sends table p q) (ap (λ b. named b q) (f.spare p le) ∙ none_named q) s))
      (cases_lt p (length bytes))

-- ---- a table's masks as bytes

module _ (ports : ℕ) (masks : List Mask) (eight : length masks ≡ 8) (few : ports ≤ 8) where
  pub length_bytes : length (mask_bytes ports masks) ≡ ports
  length_bytes = length-map (take ports masks) (λ m. m.bits) ∙ length-take-le ports masks (omega arith)

  pub byte_at : (p : ℕ) → p < ports → get_or (mask_bytes ports masks) p 0 ≡ (get_or masks p nobody).bits
  byte_at p lt =
      let len = length-take-le ports masks (omega arith) in
      get_or-map (λ m. m.bits) (take ports masks) p nobody 0 (omega arith) ∙ ap (λ m. m.bits) (get_or-take ports masks p nobody lt)

  -- what a table holds is what it was made from
  pub holds_bytes : (bytes : List ℕ) → Holds bytes ports masks → mask_bytes ports masks ≡ bytes
  holds_bytes bytes h = ext_get_or 0 (mask_bytes ports masks) bytes (length_bytes ∙ h.count) (λ p lt. byte_at p (omega (arith, length_bytes)) ∙ h.each p)

  -- the bytes of a sound table are refused by nothing
  pub sound_bytes : 2 ≤ ports → Sound ports masks → (f : TableFault) → Refuses (mask_bytes ports masks) f → ⊥
  sound_bytes some ok WrongCount bad = ⊎_elim (λ lt. omega (arith, length_bytes)) (λ lt. omega (arith, length_bytes)) bad
  sound_bytes some ok WrongMask (a, b, (p, q, lt, (named-so, out))) =
      let in_table : p < ports = omega (arith, length_bytes) in
      let s = ok p q (ap (λ m. named m q) (sym (byte_at p in_table)) ∙ named-so) in
      ⊎_elim s.2 (λ le. omega (arith, length_bytes, s.1)) out
