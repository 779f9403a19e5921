-- A net that was just opened. Assumes nothing.
use Rattle.std.proofs.Common.{◌≡◌, ℕ, [], ◌∷◌, map, get_or, replicate, ap, ◌∙◌, ⊎_elim}
use Rattle.std.proofs.lemmas.List.{get_or-replicate, get_or_past}
use Rattle.std.proofs.lemmas.Bool.{cases_lt}
use Rattle.records.specs.declared.reach.Reach.{Reach}
use Rattle.model.specs.Views.{Reaches, fresh}
use Rattle.ports.specs.declared.port.Port.{Port}
use Rattle.ports.specs.Ports.{port_view}
use Rattle.nets.specs.Views.{table_of, ports_of}

pub reaches : (r : Reach) → Reaches (table_of r)
reaches r = record { least = r.count.0; most = r.count.1; inside = r.sound }

fresh_at : (p : ℕ) → get_or (replicate 8 fresh) p fresh ≡ fresh
fresh_at p = ⊎_elim (get_or-replicate 8 p fresh fresh) (get_or_past (replicate 8 fresh) p fresh) (cases_lt p 8)

pub all_fresh : (a b c d e f g h : Port) → port_view a ≡ fresh → port_view b ≡ fresh → port_view c ≡ fresh → port_view d ≡ fresh → port_view e ≡ fresh → port_view f ≡ fresh → port_view g ≡ fresh → port_view h ≡ fresh → (p : ℕ) → ports_of (a ∷ b ∷ c ∷ d ∷ e ∷ f ∷ g ∷ h ∷ []) p ≡ fresh
all_fresh a b c d e f g h i j k l m n o q p =
    let all : map port_view (a ∷ b ∷ c ∷ d ∷ e ∷ f ∷ g ∷ h ∷ []) ≡ replicate 8 fresh = cc in
    ap (λ vs. get_or vs p fresh) all ∙ fresh_at p
