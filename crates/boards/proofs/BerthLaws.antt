-- What a notice makes of the vessels at a berth, and at one of the queue board. Assumes nothing.
use Rattle.std.specs.Prelude.{◌≡◌, ℕ, ◌<◌, true, false, ◌||◌, [], ◌∷◌, length, ◌==◌, ◌≢◌, ◌⊎◌, nat_le, refl}
use Rattle.std.proofs.Common.{ap, ◌∙◌, le_trans, arith}
use Rattle.std.proofs.lemmas.Bool.{cond-true, cond-false, ne_eqb, le-leb, leb-true, cases_eq}
use Rattle.records.specs.declared.notice.Action.{Action}
use Rattle.std.proofs.lemmas.Bool.Decides.{nat_tests}
use Rattle.std.specs.List.{list_any}
use Rattle.boards.specs.declared.outcome.Outcome.TheVariants.{Gone}
use Rattle.boards.specs.Rules.{Vessels, Rule, listed, without}
use Rattle.boards.specs.Kinds.{clash, named, taken_last, left, at_most}
use Rattle.boards.specs.ListLaws.{once_without, unlisted_without, shorter}
use Rattle.boards.specs.Shown.{Proper}

-- a search by `==` finds who is listed
pub any_listed : (v : ℕ) (xs : Vessels) → list_any (λ y. y == v) xs ≡ listed v xs
any_listed v [] = refl
any_listed v (x ∷ xs) = ap (λ b. x == v || b) (any_listed v xs) ∙ ap (λ b. b || listed v xs) (same_test (cases_eq x v))
  where
    same_test : (x ≡ v) ⊎ (x ≢ v) → (x == v) ≡ (v == x)
    same_test h = grind (arith, nat_tests)

-- a take that clashes
pub clashes : (l : Vessels) (v : ℕ) → (listed v l || nat_le 4 (length l)) ≡ true → taken_last l v ≡ clash l
clashes [] v h = cc
clashes (x ∷ xs) v h = cond-true (listed v (x ∷ xs) || nat_le 4 (length (x ∷ xs))) (clash (x ∷ xs)) _ h

pub stays : (l : Vessels) (v : ℕ) → listed v l ≡ false → left l v ≡ clash l
stays l v none = cond-false (listed v l) _ (clash l) none

pub gone : (l : Vessels) (v : ℕ) → listed v l ≡ true → left l v ≡ record { list = without v l; outcome = Gone }
gone l v there = cond-true (listed v l) (record { list = without v l; outcome = Gone }) (clash l) there

pub proper_without : (n v : ℕ) (l : Vessels) → Proper (at_most n) l → Proper (at_most n) (without v l)
proper_without n v l p = record { held = le-leb (length (without v l)) n (le_trans (shorter v l) (leb-true (length l) n p.held)); apart = once_without v l p.apart; named = unlisted_without v 0 l p.named }

-- of a vessel that is one, what the rule says
pub named_is : (rule : Rule) (l : Vessels) (a : Action) (v : ℕ) → 0 < v → named rule l a v ≡ rule l a v
named_is rule l a v some = cond-false (v == 0) (clash l) (rule l a v) (ne_eqb v 0 (λ e. omega (arith, some, e)))
