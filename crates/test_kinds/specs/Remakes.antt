-- What a slip of a remake says: the byte 4, a design, a pane of it, and 1 where it is urgent, else
-- 0.
use Rattle.std.specs.Prelude.{ℕ, List, [], ◌∷◌, Option}
use Rattle.std.specs.Int.{from_bool}
use Rattle.slip_kinds.specs.Fields.{Field, field, message}
use Rattle.test_kinds.specs.declared.remakes.Remake.{Remake}

abbrev pub remake_fields : Remake → List Field
remake_fields c =
    field c.design 1 99999999 4 ∷ field c.pane 0 255 1 ∷ field (from_bool c.urgent) 0 1 1 ∷ []

abbrev pub remake : Remake → Option (List ℕ)
remake c = message 4 (remake_fields c)
