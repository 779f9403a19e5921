-- Every net that calls have led to keeps the law of one order.
use Rattle.std.proofs.Common.{◌≡◌, ℕ, ◌<◌, Bool, true, cond, not, ◌&&◌, eqb, ltb, leb, ◌⊎◌, List, [], ◌∷◌, ◌++◌, length, Some, None, fold, filter, Option, sym, refl, ap, ◌∙◌, subst, inl, inr, append_assoc, arith}
use mathlib.Core.List.Memᴰ
use Rattle.ordered.specs.Orders.{all_pass, Strict}
use Rattle.std.specs.List.{AllByRecursion}
use Rattle.std.proofs.lemmas.List.Elements.{filter-append}
use Rattle.std.proofs.lemmas.Bool.{cases_Bool, and_from, cond-true, lt-ltb, le-ltb}
use Rattle.records.specs.Keys.{decided_before}
use Rattle.records.specs.declared.notice.Decided.{Decided}
use Rattle.boards.specs.Rules.{Rule, Vessels, Turn}
use Rattle.boards.specs.declared.outcome.Outcome.TheVariants.{Clash}
use Rattle.model.specs.Views.{Table, View}
use Rattle.model.specs.Batches.{goes_to}
use Rattle.model.specs.Histories.{Told, handed, decided, cleared, brought, fetched, released, refused, History, common, book, last_released, Step, Lived, opened, called}
use Rattle.model.specs.Law.{In, up_to, about, about_berth, AllTo, OneOrder, LawOfOneOrder}
use Rattle.model.proofs.Lists.{Sorted, all_mem, sorted_tail, sorted_before, sorted_kept, kept_mem, kept_passes, kept_all, kept_none, kept_twice, kept_swap, same_front}
use Rattle.model.proofs.Heights.{key, decided_key_lem}
use Rattle.model.proofs.Batch.{Good}
use Rattle.model.proofs.Lives.{showing, undecided_of, Whole, whole_opened, whole_hand_in, whole_bring}
use Rattle.model.proofs.Sending.{whole_decide, whole_clear}
use Rattle.model.proofs.Taking.{whole_fetch, whole_release}

whole_step : (depth : ℕ) (rule : Rule) (t : Table) (h : History) (v w : View) (e : Told) → Whole rule t h v → Step depth rule v e w → Whole rule t (e ∷ h) w
whole_step depth rule t h v w (handed x n) i r = whole_hand_in rule t h v w x n i r
whole_step depth rule t h v w (decided x ds n m) i r = whole_decide rule t h v w x ds n m depth i r
whole_step depth rule t h v w (cleared port reading p) i r = whole_clear rule t h v w port reading p depth i r
whole_step depth rule t h v w (brought a b) i r = whole_bring rule t h v w a b i r
whole_step depth rule t h v w (fetched port source) i r = whole_fetch rule t h v w port source i r
whole_step depth rule t h v w (released port d o) i r = whole_release rule t h v w port d o i r
whole_step depth rule t h v w (refused c f) i r = subst (λ z. Whole rule t (refused c f ∷ h) z) (sym r.same) (record { table = i.table; reaches = i.reaches; order = i.order; floors = i.floors; clears = i.clears; lines = i.lines; desks = i.desks; said = i.said; shown = i.shown })

pub whole : {depth : ℕ} {rule : Rule} {h : History} {v : View} → Lived depth rule h v → (t : Table) × Whole rule t h v
whole {depth} {rule} (opened {v = v} o) = (v.table, whole_opened rule v o)
whole {depth} {rule} (called {h = h} {v = v} {w = w} {e = e} l s) = let i = whole l in (i.0, whole_step depth rule i.0 h v w e i.1 s)

-- THE BOOKS

good : {rule : Rule} {t : Table} {h : History} {v : View} → Whole rule t h v → (x : Decided) → In x (common h) → Good x
good i x d = let k = i.order.known x d in record { small = k.small; port = k.port }

before_key : (x y : Decided) → Good x → Good y → decided_before x y ≡ ltb (key x) (key y)
before_key x y a b = decided_key_lem x y a.small b.small a.port b.port

strict : (xs : List Decided) → Sorted key xs → ((x : Decided) → In x xs → Good x) → Strict decided_before xs
strict [] so k = refl
strict (x ∷ xs) so k = and_from _ _ (passing xs so.0 (λ y d. k y (Memᴰ.tail d))) (strict xs so.1 (λ y d. k y (Memᴰ.tail d)))
  where
    passing : (ys : List Decided) → AllByRecursion (λ y. key x < key y) ys → ((y : Decided) → In y ys → Good y) → all_pass (decided_before x) ys ≡ true
    passing [] a g = refl
    passing (y ∷ ys) a g = and_from _ _ (before_key x y (k x (Memᴰ.head refl)) (g y (Memᴰ.head refl)) ∙ lt-ltb (key x) (key y) a.0) (passing ys a.1 (λ z d. g z (Memᴰ.tail d)))

-- a book ends with the notice released last
abbrev Lasts : ℕ → History → Type 0
Lasts p h = ((book p h ≡ []) × (last_released p h ≡ None)) ⊎ ((bs : List Decided) × (m : Decided) × (book p h ≡ bs ++ (m ∷ [])) × (last_released p h ≡ Some m))

lasts : (p : ℕ) (h : History) → Lasts p h
lasts p [] = inl (refl, refl)
lasts p (handed x n ∷ h) = lasts p h
lasts p (decided x ds n m ∷ h) = lasts p h
lasts p (cleared q r s ∷ h) = lasts p h
lasts p (brought a b ∷ h) = lasts p h
lasts p (fetched q s ∷ h) = lasts p h
lasts p (released q m o ∷ h) = elim (cases_Bool (eqb p q)) [ inl e ↦ rw e (inr (book p h, m, refl, refl)) | inr n ↦ rw n (lasts p h) ]
lasts p (refused c f ∷ h) = lasts p h

-- of a sorted list, what does not come after one of it
front_of : (bs : List Decided) (m : Decided) (later : List Decided) → Sorted key (bs ++ (m ∷ later)) → ((x : Decided) → In x (bs ++ (m ∷ later)) → Good x) → filter (up_to (Some m)) (bs ++ (m ∷ later)) ≡ bs ++ (m ∷ [])
front_of bs m later so k =
    let t : Decided → Bool = up_to (Some m) in
    let g : Good m = k m (Memᴰ.append_right bs (Memᴰ.head refl)) in
    filter-append t bs (m ∷ later)
    ∙ ap (λ l. l ++ filter t (m ∷ later)) (kept_all t bs (λ x d. ap not (before_key m x g (k x (Memᴰ.append_left (m ∷ later) d)) ∙ le-ltb (key m) (key x) (let a = sorted_before key bs m later so x d in omega (arith, a)))))
    ∙ ap (λ l. bs ++ l) (cond-true (t m) (m ∷ filter t later) (filter t later) (ap not (before_key m m g g ∙ le-ltb (key m) (key m) (omega arith)))
    ∙ ap (λ l. m ∷ l) (kept_none t later (λ x d. ap not (before_key m x g (k x (Memᴰ.append_right bs (Memᴰ.tail d))) ∙ lt-ltb (key m) (key x) (all_mem (λ y. key m < key y) later (sorted_tail key bs (m ∷ later) so).0 d)))))

front_is : (b later : List Decided) (u : Option Decided) → Sorted key (b ++ later) → ((x : Decided) → In x (b ++ later) → Good x) → ((b ≡ []) × (u ≡ None)) ⊎ ((bs : List Decided) × (m : Decided) × (b ≡ bs ++ (m ∷ [])) × (u ≡ Some m)) → filter (up_to u) (b ++ later) ≡ b
front_is b later u so k (inl z) = rw (z.0, z.1) (kept_none (up_to None) later (λ x d. refl))
front_is b later u so k (inr z) =
    let e : b ++ later ≡ z.0 ++ (z.1 ∷ later) = ap (λ l. l ++ later) z.2 ∙ append_assoc z.0 (z.1 ∷ []) later in
    ap (λ y. filter (up_to y) (b ++ later)) z.3
    ∙ ap (filter (up_to (Some z.1))) e
    ∙ front_of z.0 z.1 later (subst (Sorted key) e so) (subst (λ l. (x : Decided) → In x l → Good x) e k)
    ∙ sym z.2

books : {rule : Rule} {t : Table} {h : History} {v : View} → Whole rule t h v → (p : ℕ) → book p h ≡ filter (λ x. goes_to p x && up_to (last_released p h) x) (common h)
books {rule} {t} {h} {v} i p =
    let sp = i.order.split p in
    let u : Decided → Bool = up_to (last_released p h) in
    sym (kept_twice (goes_to p) u (common h)
    ∙ ap (filter u) sp.is
    ∙ front_is (book p h) sp.rest (last_released p h)
    (subst (Sorted key) sp.is (sorted_kept key (goes_to p) (common h) i.order.sorted))
    (subst (λ l. (x : Decided) → In x l → Good x) sp.is (λ x d. good i x (kept_mem (goes_to p) (common h) d)))
    (lasts p h))

-- THE BOARDS

-- all about a berth that is addressed to a port begins with what its book has
goes : {rule : Rule} {t : Table} {h : History} {v : View} (i : Whole rule t h v) (p home berth : ℕ) → AllTo p home berth (common h) → about_berth home berth (common h) ≡ about_berth home berth (book p h) ++ about_berth home berth (i.order.split p).rest
goes {rule} {t} {h} {v} i p home berth to =
    let a : Decided → Bool = about home berth in
    sym (kept_all (goes_to p) (filter a (common h)) (λ x d. to x (kept_mem a (common h) d) (kept_passes a (common h) d)))
    ∙ kept_swap (goes_to p) a (common h)
    ∙ ap (filter a) (i.order.split p).is
    ∙ filter-append a (book p h) (i.order.split p).rest

-- every port of the table turns a notice alike
turns_alike : (rule : Rule) (p q : ℕ) (xs : List Decided) → p < 8 → q < 8 → showing rule p xs ≡ showing rule q xs
turns_alike rule p q xs a b = ap (λ z. fold (λ l x. (alike z l x).list) [] xs) (lt-ltb p 8 a ∙ sym (lt-ltb q 8 b))
  where
    alike : Bool → Vessels → Decided → Turn
    alike z l x = cond (z && (ltb x.notice.home 8 && (leb x.notice.berth 15 && ltb 0 x.notice.vessel))) (rule l x.notice.action x.notice.vessel) (record { list = l; outcome = Clash })

boards : {rule : Rule} {t : Table} {h : History} {v : View} → Whole rule t h v → (p q home berth : ℕ) → p < v.table.ports → q < v.table.ports → AllTo p home berth (common h) → AllTo q home berth (common h) → length (about_berth home berth (book p h)) ≡ length (about_berth home berth (book q h)) → v.shown p home berth ≡ v.shown q home berth
boards {rule} {t} {h} {v} i p q home berth inp inq top toq long =
    let a : p < t.ports = subst (λ z. p < z.ports) i.table inp in
    let b : q < t.ports = subst (λ z. q < z.ports) i.table inq in
    let most = i.reaches.most in
    i.shown p home berth
    ∙ ap (showing rule p) (same_front _ _ _ _ (sym (goes i p home berth top) ∙ goes i q home berth toq) long)
    ∙ turns_alike rule p q (about_berth home berth (book q h)) (omega (arith, a, most)) (omega (arith, b, most))
    ∙ sym (i.shown q home berth)

-- THE LAW

pub one_order : {rule : Rule} {t : Table} {h : History} {v : View} → Whole rule t h v → OneOrder h v
one_order {rule} {t} {h} {v} i = record {
  stamps = strict (common h) i.order.sorted (good i);
  books = books i;
  dispatchers = λ f d. (undecided_of f d (v.port f), i.said f d);
  boards = boards i;
}

pub law : LawOfOneOrder
law depth rule h v l = one_order (whole l).1

-- one more call: the net has lived, and keeps the law
pub lives_on : {depth : ℕ} {rule : Rule} {h : History} {v w : View} {e : Told} → Lived depth rule h v → Step depth rule v e w → Lived depth rule (e ∷ h) w × OneOrder (e ∷ h) w
lives_on {depth} {rule} {h} {v} {w} {e} l s = let more : Lived depth rule (e ∷ h) w = called l s in (more, law depth rule (e ∷ h) w more)
