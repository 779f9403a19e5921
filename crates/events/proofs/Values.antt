-- Values and events are the same thing written twice. Assumes nothing.
use Rattle.std.proofs.Common.{◌≡◌, ℕ, zero, suc, ◌+◌, ◌*◌, ◌/◌, ◌%◌, ◌^◌, ◌<◌, List, [], ◌∷◌, length, get_or, drop, Some, None, Option, sym, refl, ap, ◌∙◌, subst, ⊎_elim, mod-eq_of_lt, arith, shr-shr}
use Rattle.std.proofs.lemmas.Nat.{div-add-mod', div_below}
use Rattle.std.proofs.lemmas.List.{drop_more, drop_all, get_or_past}
use Rattle.std.proofs.lemmas.Bool.{cases_eq, ne_eqb}
use Rattle.events.specs.declared.event.Event.{Event}
use Rattle.events.specs.declared.event.Event.TheVariants.{HandIn, Decide, Clear, Bring, Fetch, Release}
use Rattle.events.specs.Fields.{at16, at32, size_of, event_of}
use Rattle.events.specs.Writing.{be16, be32, tag_of, value_of, Fit}

-- each is below 256
abbrev pub Bytes : List ℕ → Type 0
Bytes bs = (k : ℕ) → get_or bs k 0 < 256

-- ---- numbers and their bytes

pub from16 : (n : ℕ) → n < 2 ^ 16 → (n / 256 % 256) * 256 + n % 256 ≡ n
from16 n lt = omega arith

joined32 : (n a b c d₀ d₁ d₂ d₃ : ℕ) → a * 256 + d₀ ≡ n → b * 256 + d₁ ≡ a → c * 256 + d₂ ≡ b → d₃ ≡ c → d₃ * 16777216 + d₂ * 65536 + d₁ * 256 + d₀ ≡ n
joined32 n a b c d₀ d₁ d₂ d₃ p q r s = omega arith

pub from32 : (n : ℕ) → n < 2 ^ 32 → (n / 16777216 % 256) * 16777216 + (n / 65536 % 256) * 65536 + (n / 256 % 256) * 256 + n % 256 ≡ n
from32 n lt =
    let low = div-add-mod' n 256 in
    let mid = ap (λ k. k * 256 + n / 256 % 256) (sym (shr-shr n 8 8)) ∙ div-add-mod' (n / 256) 256 in
    let high = ap (λ k. k * 256 + n / 65536 % 256) (sym (shr-shr n 16 8)) ∙ div-add-mod' (n / 65536) 256 in
    joined32 n (n / 256) (n / 65536) (n / 16777216) (n % 256) (n / 256 % 256) (n / 65536 % 256) (n / 16777216 % 256) low mid high (mod-eq_of_lt (div_below n 16777216 256 (omega arith) (omega arith)))

pub digits16 : (a b : ℕ) → a < 256 → b < 256 → be16 (a * 256 + b) ≡ a ∷ b ∷ []
digits16 a b p q =
    let x : (a * 256 + b) / 256 % 256 ≡ a = omega arith in
    let y : (a * 256 + b) % 256 ≡ b = omega arith in
    cc

pub digits32 : (a b c d : ℕ) → a < 256 → b < 256 → c < 256 → d < 256 → be32 (a * 16777216 + b * 65536 + c * 256 + d) ≡ a ∷ b ∷ c ∷ d ∷ []
digits32 a b c d p q r s =
    let n = a * 16777216 + b * 65536 + c * 256 + d in
    let w : n / 16777216 % 256 ≡ a = omega arith in
    let x : n / 65536 % 256 ≡ b = omega arith in
    let y : n / 256 % 256 ≡ c = omega arith in
    let z : n % 256 ≡ d = omega arith in
    cc

-- ---- what an event writes says that event

pub four : (xs : List ℕ) → length xs ≡ 4 → xs ≡ get_or xs 0 0 ∷ get_or xs 1 0 ∷ get_or xs 2 0 ∷ get_or xs 3 0 ∷ []
four [] e = absurd (omega arith)
four (a ∷ []) e = absurd (omega arith)
four (a ∷ b ∷ []) e = absurd (omega arith)
four (a ∷ b ∷ c ∷ []) e = absurd (omega arith)
four (a ∷ b ∷ c ∷ d ∷ []) e = refl
four (a ∷ b ∷ c ∷ d ∷ x ∷ xs) e = absurd (omega arith)

-- four numbers that fit, and no others
pub four_fit : (xs : List ℕ) → length xs ≡ 4 → get_or xs 0 0 < 2 ^ 16 → get_or xs 1 0 < 2 ^ 16 → get_or xs 2 0 < 2 ^ 16 → get_or xs 3 0 < 2 ^ 16 → (i : ℕ) → get_or xs i 0 < 2 ^ 16
four_fit xs e p q r s zero = p
four_fit xs e p q r s (suc zero) = q
four_fit xs e p q r s (suc (suc zero)) = r
four_fit xs e p q r s (suc (suc (suc zero))) = s
four_fit xs e p q r s (suc (suc (suc (suc i)))) = subst (λ n. n < 2 ^ 16) (sym (get_or_past xs (suc (suc (suc (suc i)))) 0 (omega arith))) (omega arith)

pub record Known (e : Event) : Type 0 where
  pub size : size_of (tag_of e) ≡ Some (length (value_of e))
  pub short : length (value_of e) < 2 ^ 16
  pub event : event_of (tag_of e) (value_of e) ≡ e
  pub tag : tag_of e < 7

decide_known : (port number a b c d : ℕ) → Fit (Decide port number (a ∷ b ∷ c ∷ d ∷ [])) → Known (Decide port number (a ∷ b ∷ c ∷ d ∷ []))
decide_known port number a b c d f =
    let n = from16 number f.1 in
    let w = from16 a (f.3 0) in
    let x = from16 b (f.3 1) in
    let y = from16 c (f.3 2) in
    let z = from16 d (f.3 3) in
    record { size = refl; short = omega arith; event = cc; tag = omega arith }

pub known : (e : Event) → Fit e → Known e
known (HandIn x) f =
    let r = from32 x.reading f.2 in
    let v = from16 x.vessel f.7 in
    record { size = refl; short = omega arith; event = rw (r, v) refl; tag = omega arith }
known (Decide port number cuts) f = let e = four cuts f.2 in subst (λ xs. Known (Decide port number xs)) (sym e) (decide_known port number _ _ _ _ (subst (λ xs. Fit (Decide port number xs)) e f))
known (Clear port reading) f = let r = from32 reading f.1 in record { size = refl; short = omega arith; event = cc; tag = omega arith }
known (Bring from to) f = record { size = refl; short = omega arith; event = refl; tag = omega arith }
known (Fetch port source) f = record { size = refl; short = omega arith; event = refl; tag = omega arith }
known (Release port) f = record { size = refl; short = omega arith; event = refl; tag = omega arith }

-- ---- what a value says is written as that value

-- n bytes of v from k on, one by one
abbrev row : ℕ → ℕ → List ℕ → List ℕ
row k zero v = []
row k (suc n) v = get_or v k 0 ∷ row (k + 1) n v

row_is : (n k : ℕ) (v : List ℕ) → length v ≡ k + n → drop k v ≡ row k n v
row_is zero k v le = drop_all k v (omega arith)
row_is (suc n) k v le = drop_more v k 0 (omega arith) ∙ ap (λ r. get_or v k 0 ∷ r) (row_is n (k + 1) v (omega arith))

some_same : (a b : ℕ) → ◌≡◌ {A = Option ℕ} (Some a) (Some b) → a ≡ b
some_same a b e = cc

pub record Told (t : ℕ) (v : List ℕ) : Type 0 where
  pub tag : tag_of (event_of t v) ≡ t
  pub value : value_of (event_of t v) ≡ v
  pub fit : Fit (event_of t v)

module _ (v : List ℕ) (b : Bytes v) where
  fit16 : (k : ℕ) → at16 v k < 2 ^ 16
  fit16 k = omega (arith, b k, b (k + 1))

  fit32 : (k : ℕ) → at32 v k < 2 ^ 32
  fit32 k = omega (arith, b k, b (k + 1), b (k + 2), b (k + 3))

  two : (k : ℕ) → be16 (at16 v k) ≡ get_or v k 0 ∷ get_or v (k + 1) 0 ∷ []
  two k = digits16 (get_or v k 0) (get_or v (k + 1) 0) (b k) (b (k + 1))

  quad : (k : ℕ) → be32 (at32 v k) ≡ get_or v k 0 ∷ get_or v (k + 1) 0 ∷ get_or v (k + 2) 0 ∷ get_or v (k + 3) 0 ∷ []
  quad k = digits32 (get_or v k 0) (get_or v (k + 1) 0) (get_or v (k + 2) 0) (get_or v (k + 3) 0) (b k) (b (k + 1)) (b (k + 2)) (b (k + 3))

  each_fit : (i : ℕ) → get_or (at16 v 3 ∷ at16 v 5 ∷ at16 v 7 ∷ at16 v 9 ∷ []) i 0 < 2 ^ 16
  each_fit = four_fit (at16 v 3 ∷ at16 v 5 ∷ at16 v 7 ∷ at16 v 9 ∷ []) refl (fit16 3) (fit16 5) (fit16 7) (fit16 9)

  told_hand_in : length v ≡ 12 → Told 1 v
  told_hand_in e = let r = row_is 12 0 v e in let q = quad 2 in let w = two 10 in record { tag = refl; value = cc; fit = (b 0, b 1, fit32 2, b 6, b 7, b 8, b 9, fit16 10) }

  told_decide : length v ≡ 11 → Told 2 v
  told_decide e = let r = row_is 11 0 v e in record { tag = refl; value = cc (two 1, two 3, two 5, two 7, two 9); fit = (b 0, fit16 1, refl, each_fit) }

  told_clear : length v ≡ 5 → Told 3 v
  told_clear e = let r = row_is 5 0 v e in let q = quad 1 in record { tag = refl; value = cc; fit = (b 0, fit32 1) }

  told_bring : length v ≡ 2 → Told 4 v
  told_bring e = let r = row_is 2 0 v e in record { tag = refl; value = cc; fit = (b 0, b 1) }

  told_fetch : length v ≡ 2 → Told 5 v
  told_fetch e = let r = row_is 2 0 v e in record { tag = refl; value = cc; fit = (b 0, b 1) }

  told_release : length v ≡ 1 → Told 6 v
  told_release e = let r = row_is 1 0 v e in record { tag = refl; value = cc; fit = b 0 }

  pub told : (t : ℕ) → size_of t ≡ Some (length v) → Told t v
  told t h =
      let at : (k n : ℕ) → size_of k ≡ Some n → (length v ≡ n → Told k v) → t ≡ k → Told t v = λ k n s f e. let q : length v ≡ n = some_same (length v) n (sym h ∙ ap size_of e ∙ s) in subst (λ j. Told j v) (sym e) (f q) in
      ⊎_elim (at 1 12 refl told_hand_in) (λ (n₁ : t ≡ 1 → ⊥).
      ⊎_elim (at 2 11 refl told_decide) (λ (n₂ : t ≡ 2 → ⊥).
      ⊎_elim (at 3 5 refl told_clear) (λ (n₃ : t ≡ 3 → ⊥).
      ⊎_elim (at 4 2 refl told_bring) (λ (n₄ : t ≡ 4 → ⊥).
      ⊎_elim (at 5 2 refl told_fetch) (λ (n₅ : t ≡ 5 → ⊥).
      ⊎_elim (at 6 1 refl told_release) (λ (n₆ : t ≡ 6 → ⊥).
      let none : size_of t ≡ None = rw (ne_eqb t 1 n₁, ne_eqb t 2 n₂, ne_eqb t 3 n₃, ne_eqb t 4 n₄, ne_eqb t 5 n₅, ne_eqb t 6 n₆) in
      let z : ◌≡◌ {A = ℕ} 0 1 = cc in
      absurd (omega arith))
      (cases_eq t 6)) (cases_eq t 5)) (cases_eq t 4)) (cases_eq t 3)) (cases_eq t 2)) (cases_eq t 1)
