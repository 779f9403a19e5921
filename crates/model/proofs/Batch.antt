-- A batch is stamped notice by notice: the invariant survives it, and a dispatcher's notices stand behind his earlier ones.
use Rattle.std.proofs.Common.{◌≡◌, ℕ, ◌+◌, ◌<◌, ◌≤◌, Bool, true, false, cond, ◌&&◌, eqb, List, [], ◌∷◌, ◌++◌, map, filter, sym, refl, ap, ◌∙◌, subst, inl, inr, append_assoc, append-nil}
use mathlib.Core.List.Memᴰ
use Rattle.ordered.specs.Orders.{placed}
use Rattle.std.proofs.lemmas.Bool.{eqb-true, eqb-false, eq-eqb, ne_eqb, cases_Bool, and_parts, cond-true, cond-false}
use Rattle.records.specs.Keys.{decided_before}
use Rattle.records.specs.declared.notice.Decided.{Decided}
use Rattle.records.specs.declared.notice.Record.{Record}
use Rattle.records.specs.declared.notice.Record.TheVariants.{Notice as Carries}
use Rattle.model.specs.Lists.{placed_all}
use Rattle.model.specs.Batches.{goes_to, sent_to}
use Rattle.model.specs.Histories.{is_from}
use Rattle.model.specs.Law.{In}
use Rattle.model.proofs.Heights.{height_of, key, Small, decided_key_lem}
use Rattle.model.proofs.Inv.{State, AtMostOne, Stamps, Inv}
use Rattle.model.proofs.Lists.{insert, insert_cases, kept_insert, kept_insert_not, insert_last, kept_mem, kept_passes, placed_insert}
use Rattle.model.proofs.Stamp.{kept_by_stamp, behind}

abbrev pub insert_all : List Decided → List Decided → List Decided
insert_all [] xs = xs
insert_all (d ∷ ds) xs = insert_all ds (insert key d xs)

-- what the line from f to q gets
abbrev pub copies : ℕ → List Decided → ℕ → List Record
copies f ds q = cond (eqb q f) [] (map Carries (sent_to q ds))

-- the floor behind them
abbrev pub last_of : ℕ → List Decided → ℕ
last_of lo [] = lo
last_of lo (d ∷ ds) = last_of (height_of d + 1) ds

pub record Stampable (sends : ℕ → ℕ → Bool) (f lo : ℕ) (d : Decided) : Type 0 where
  pub above : lo ≤ height_of d
  pub source : d.stamp.port ≡ f
  pub said : d.notice.source ≡ f
  pub small : Small d.stamp.pair
  pub reach : (p : ℕ) → goes_to p d ≡ true → (p ≡ f → ⊥) → sends f p ≡ true

-- each above the one before
abbrev pub AllStampable : (ℕ → ℕ → Bool) → ℕ → ℕ → List Decided → Type 0
AllStampable sends f lo [] = Unit {0}
AllStampable sends f lo (d ∷ ds) = Stampable sends f lo d × AllStampable sends f (height_of d + 1) ds

pub record Decides (sends : ℕ → ℕ → Bool) (s t : State) (f : ℕ) (ds : List Decided) : Type 0 where
  pub port : f < 8
  pub each : AllStampable sends f (s.floor f) ds
  pub floor : (q : ℕ) → t.floor q ≡ cond (eqb q f) (last_of (s.floor q) ds) (s.floor q)
  pub clear : (q g : ℕ) → t.clear q g ≡ s.clear q g
  pub waiting : (q : ℕ) → t.waiting q ≡ cond (eqb q f) (insert_all (sent_to q ds) (s.waiting q)) (s.waiting q)
  pub line : (g q : ℕ) → t.line g q ≡ cond (eqb g f) (s.line g q ++ copies f ds q) (s.line g q)

-- ONE NOTICE OF IT

abbrev after_stamp : ℕ → Decided → State → State
after_stamp f d s = record {
  floor = λ q. cond (eqb q f) (height_of d + 1) (s.floor q);
  clear = s.clear;
  waiting = λ q. cond (eqb q f && goes_to q d) (insert key d (s.waiting q)) (s.waiting q);
  line = λ g q. cond (eqb g f) (s.line g q ++ copies f (d ∷ []) q) (s.line g q);
}

one_copy : (d : Decided) (b g : Bool) → AtMostOne (height_of d) (cond b [] (map Carries (cond g (d ∷ []) [])))
one_copy d true g = inl refl
one_copy d false true = inr (Carries d, refl, refl)
one_copy d false false = inl refl

carries_same : (x y : Decided) → Carries x ≡ Carries y → x ≡ y
carries_same x y e = cc

only_copy : (x d : Decided) (b g : Bool) → In (Carries x) (cond b [] (map Carries (cond g (d ∷ []) []))) → (x ≡ d) × (g ≡ true) × (b ≡ false)
only_copy x d true g m = elim m [ ]
only_copy x d false true m = (carries_same x d (Memᴰ.eq_of_singleton m), refl, refl)
only_copy x d false false m = elim m [ ]

stamps_one : (sends : ℕ → ℕ → Bool) (s : State) (f : ℕ) (d : Decided) → f < 8 → Stampable sends f (s.floor f) d → Stamps sends s (after_stamp f d s) f d (copies f (d ∷ []))
stamps_one sends s f d port k = record {
  marks = record { above = k.above; single = λ q. one_copy d (eqb q f) (goes_to q d); floor = λ _. refl; clear = λ _ _. refl; line = λ _ _. refl };
  port = port;
  source = k.source;
  said = k.said;
  small = k.small;
  reach = k.reach;
  copy = λ q to n. rw (ne_eqb q f n, to) (Memᴰ.head refl);
  only = λ q x m. let o = only_copy x d (eqb q f) (goes_to q d) m in (o.0, o.1, eqb-false q f o.2);
  waiting = λ _. refl;
}

-- THE REST OF IT

floor_rest : (b : Bool) (n x : ℕ) (ds : List Decided) → cond b (last_of n ds) x ≡ cond b (last_of (cond b n x) ds) (cond b n x)
floor_rest true n x ds = refl
floor_rest false n x ds = refl

waiting_rest : (b g : Bool) (d : Decided) (ds w : List Decided) → cond b (insert_all (cond g (d ∷ ds) ds) w) w ≡ cond b (insert_all ds (cond (b && g) (insert key d w) w)) (cond (b && g) (insert key d w) w)
waiting_rest true true d ds w = refl
waiting_rest true false d ds w = refl
waiting_rest false g d ds w = refl

copies_rest : (b g : Bool) (d : Decided) (ds : List Decided) → cond b [] (map Carries (cond g (d ∷ ds) ds)) ≡ cond b [] (map Carries (cond g (d ∷ []) [])) ++ cond b [] (map Carries ds)
copies_rest true g d ds = refl
copies_rest false true d ds = refl
copies_rest false false d ds = refl

line_rest : (a : Bool) (l xs ys zs : List Record) → xs ≡ ys ++ zs → cond a (l ++ xs) l ≡ cond a (cond a (l ++ ys) l ++ zs) (cond a (l ++ ys) l)
line_rest true l xs ys zs e = ap (λ k. l ++ k) e ∙ sym (append_assoc l ys zs)
line_rest false l xs ys zs e = refl

decides_rest : (sends : ℕ → ℕ → Bool) (s t : State) (f : ℕ) (d : Decided) (ds : List Decided) → Decides sends s t f (d ∷ ds) → Decides sends (after_stamp f d s) t f ds
decides_rest sends s t f d ds r = record {
  port = r.port;
  each = subst (λ n. AllStampable sends f n ds) (sym (cond-true (eqb f f) (height_of d + 1) (s.floor f) (eq-eqb f f refl))) r.each.1;
  floor = λ q. r.floor q ∙ floor_rest (eqb q f) (height_of d + 1) (s.floor q) ds;
  clear = r.clear;
  waiting = λ q. r.waiting q ∙ waiting_rest (eqb q f) (goes_to q d) d (sent_to q ds) (s.waiting q);
  line = λ g q. r.line g q ∙ line_rest (eqb g f) (s.line g q) (copies f (d ∷ ds) q) (copies f (d ∷ []) q) (copies f ds q) (copies_rest (eqb q f) (goes_to q d) d (sent_to q ds));
}

cond_same : {A : Type 0} (b : Bool) (x : A) → cond b x x ≡ x
cond_same true x = refl
cond_same false x = refl

none_line : (a b : Bool) (l : List Record) → cond a (l ++ cond b [] (map Carries [])) l ≡ l
none_line true true l = append-nil l
none_line true false l = append-nil l
none_line false b l = refl

-- an empty batch changes nothing
state_same : (sends : ℕ → ℕ → Bool) (s t : State) (f : ℕ) → Decides sends s t f [] → t ≡ s
state_same sends s t f r = λ i. record {
  floor = λ q. (r.floor q ∙ cond_same (eqb q f) (s.floor q)) i;
  clear = λ q g. r.clear q g i;
  waiting = λ q. (r.waiting q ∙ cond_same (eqb q f) (s.waiting q)) i;
  line = λ g q. (r.line g q ∙ none_line (eqb g f) (eqb q f) (s.line g q)) i;
}

pub kept_by_batch : (sends : ℕ → ℕ → Bool) (f : ℕ) (book : ℕ → List Decided) (t : State) (ds : List Decided) (s : State) (c : List Decided) → Inv sends s c book → Decides sends s t f ds → Inv sends t (insert_all ds c) book
kept_by_batch sends f book t [] s c i r = subst (λ z. Inv sends z c book) (sym (state_same sends s t f r)) i
kept_by_batch sends f book t (d ∷ ds) s c i r = kept_by_batch sends f book t ds (after_stamp f d s) (insert key d c) (kept_by_stamp sends s (after_stamp f d s) c book f d (copies f (d ∷ [])) i (stamps_one sends s f d r.port r.each.0)) (decides_rest sends s t f d ds r)

-- HIS NOTICES STAND IN THE ORDER OF THE BATCH

abbrev by : ℕ → ℕ → Decided → Bool
by g e x = is_from g e x.notice

stamp_last : (sends : ℕ → ℕ → Bool) (s t : State) (f : ℕ) (d : Decided) (c : List Decided) (book : ℕ → List Decided) (puts : ℕ → List Record) → Inv sends s c book → Stamps sends s t f d puts → (g e : ℕ) → filter (by g e) (insert key d c) ≡ filter (by g e) c ++ filter (by g e) (d ∷ [])
stamp_last sends s t f d c book puts i r g e = elim (cases_Bool (by g e d)) [
  | inl z ↦
      kept_insert key (by g e) d c i.sorted z
      ∙ insert_last key d (filter (by g e) c) (λ x m.
      let a = kept_mem (by g e) c m in
      let same = eqb-true x.notice.source g (and_parts (eqb x.notice.source g) (eqb x.notice.dispatcher e) (kept_passes (by g e) c m)).0 in
      let mine = eqb-true d.notice.source g (and_parts (eqb d.notice.source g) (eqb d.notice.dispatcher e) z).0 in
      behind sends s t c book f d puts i r x a (sym (i.known x a).said ∙ same ∙ sym mine ∙ r.said))
      ∙ ap (λ l. filter (by g e) c ++ l) (sym (cond-true (by g e d) (d ∷ []) [] z))
  | inr z ↦
      kept_insert_not key (by g e) d c z
      ∙ sym (append-nil (filter (by g e) c))
      ∙ ap (λ l. filter (by g e) c ++ l) (sym (cond-false (by g e d) (d ∷ []) [] z))
]

one_more : (b : Bool) (d : Decided) (xs ds : List Decided) → (xs ++ cond b (d ∷ []) []) ++ ds ≡ xs ++ cond b (d ∷ ds) ds
one_more true d xs ds = append_assoc xs (d ∷ []) ds
one_more false d xs ds = ap (λ l. l ++ ds) (append-nil xs)

pub batch_last : (sends : ℕ → ℕ → Bool) (f : ℕ) (book : ℕ → List Decided) (t : State) (ds : List Decided) (s : State) (c : List Decided) → Inv sends s c book → Decides sends s t f ds → (g e : ℕ) → filter (by g e) (insert_all ds c) ≡ filter (by g e) c ++ filter (by g e) ds
batch_last sends f book t [] s c i r g e = sym (append-nil (filter (by g e) c))
batch_last sends f book t (d ∷ ds) s c i r g e =
    let one = stamps_one sends s f d r.port r.each.0 in
    let s1 = after_stamp f d s in
    batch_last sends f book t ds s1 (insert key d c) (kept_by_stamp sends s s1 c book f d (copies f (d ∷ [])) i one) (decides_rest sends s t f d ds r) g e
    ∙ ap (λ l. l ++ filter (by g e) ds) (stamp_last sends s s1 f d c book (copies f (d ∷ [])) i one g e)
    ∙ one_more (by g e d) d (filter (by g e) c) (filter (by g e) ds)

-- BY THE ORDER OF STAMPS

-- its step has two bytes, its port a line
pub record Good (x : Decided) : Type 0 where
  pub small : Small x.stamp.pair
  pub port : x.stamp.port < 8

pub good_place : (d : Decided) (xs : List Decided) → Good d → ((x : Decided) → In x xs → Good x) → placed decided_before d xs ≡ insert key d xs
good_place d xs k h = placed_insert decided_before key d xs (λ y m. decided_key_lem d y k.small (h y m).small k.port (h y m).port)

pub good_places : (ds xs : List Decided) → ((d : Decided) → In d ds → Good d) → ((x : Decided) → In x xs → Good x) → placed_all decided_before ds xs ≡ insert_all ds xs
good_places [] xs k h = refl
good_places (d ∷ ds) xs k h =
    ap (placed_all decided_before ds) (good_place d xs (k d (Memᴰ.head refl)) h)
    ∙ good_places ds (insert key d xs) (λ x m. k x (Memᴰ.tail m)) (λ x m. elim (insert_cases key d xs m) [ inl e ↦ subst Good (sym e) (k d (Memᴰ.head refl)) | inr a ↦ h x a ])

pub stampable_good : (sends : ℕ → ℕ → Bool) (f lo : ℕ) (ds : List Decided) → f < 8 → AllStampable sends f lo ds → (d : Decided) → In d ds → Good d
stampable_good sends f lo [] port k d m = elim m [ ]
stampable_good sends f lo (x ∷ xs) port k d (Memᴰ.head e) = subst Good (sym e) (record { small = k.0.small; port = subst (λ n. n < 8) (sym k.0.source) port })
stampable_good sends f lo (x ∷ xs) port k d (Memᴰ.tail m) = stampable_good sends f (height_of x + 1) xs port k.1 d m
