-- That the numbers of a remake give it back: the law of its kind names this.
use Rattle.std.specs.Prelude.{◌≡◌, ℕ, Bool, true, false, nat_eq, List, map}
use Rattle.std.specs.Int.{from_bool}
use Rattle.std.proofs.Common.{refl, ap}
use Rattle.octets.specs.Lists.{at}
use Rattle.test_kinds.specs.declared.remakes.Remake.{Remake}
use Rattle.test_kinds.specs.Remakes.{remake_fields}

abbrev pub of_numbers : List ℕ → Remake
of_numbers ns = record { design = at ns 0; pane = at ns 1; urgent = nat_eq (at ns 2) 1 }

urgent_given : (b : Bool) → nat_eq (from_bool b) 1 ≡ b
urgent_given true = refl
urgent_given false = refl

pub given : (c : Remake) → of_numbers (map (λ f. f.number) (remake_fields c)) ≡ c
given c =
    ap (λ b. record { design = c.design; pane = c.pane; urgent = b }) (urgent_given c.urgent)
