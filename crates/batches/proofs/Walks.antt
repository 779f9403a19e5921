-- Loops over a list of which some pass: a turn, place by place. Assumes nothing.
use Rattle.std.proofs.Common.{◌≡◌, ℕ, ◌+◌, ◌<◌, Bool, true, false, List, ◌∷◌, length, get_or, drop, filter, ap, ◌∙◌}
use Rattle.std.proofs.lemmas.List.{drop_more}
use Rattle.std.proofs.lemmas.Bool.{cond-true, cond-false}
use Rattle.records.specs.declared.notice.Action.TheVariants.{Take}
use Rattle.records.specs.declared.notice.Notice.{Notice}
use Rattle.records.specs.declared.notice.Handed.{Handed}
use Rattle.records.specs.declared.notice.Decided.{Decided}

-- what a read past the end would give
abbrev pub no_notice : Notice
no_notice = record { source = 0; dispatcher = 0; count = 0; to = record { bits = 0 }; home = 0; berth = 0; action = Take; vessel = 0 }

abbrev pub no_handed : Handed
no_handed = record { notice = no_notice; clock = 0 }

abbrev pub no_decided : Decided
no_decided = record { notice = no_notice; stamp = record { pair = record { clock = 0; step = 0 }; port = 0 } }

module _ {X : Type 0} (xs : List X) (i : ℕ) (lt : i < length xs) (p : X → Bool) (d : X) where
  pub kept_here : p (get_or xs i d) ≡ true → filter p (drop i xs) ≡ get_or xs i d ∷ filter p (drop (i + 1) xs)
  kept_here e = ap (filter p) (drop_more xs i d lt) ∙ cond-true (p (get_or xs i d)) (get_or xs i d ∷ filter p (drop (i + 1) xs)) (filter p (drop (i + 1) xs)) e

  pub kept_not : p (get_or xs i d) ≡ false → filter p (drop i xs) ≡ filter p (drop (i + 1) xs)
  kept_not e = ap (filter p) (drop_more xs i d lt) ∙ cond-false (p (get_or xs i d)) (get_or xs i d ∷ filter p (drop (i + 1) xs)) (filter p (drop (i + 1) xs)) e
