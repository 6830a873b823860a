-- Two rounds at once, as the cipher is worked over any form: what the contracts of inner functions
-- say. That these are the rounds of the cipher is proved.
use Rattle.std.specs.Prelude.{ℕ}
use Rattle.saturnin.specs.Cube.{Cube}
use Rattle.saturnin.specs.Layers.{S, MC, add}
use Rattle.saturnin.specs.Back.{S⁻¹, MC⁻¹}
use Rattle.saturnin.specs.Rounds.{constants}

-- a super-round by its shift and the way back from there, its round key and its constants
unfoldable pub super_round : (there back : Cube → Cube) (key : Cube) (c₀ c₁ : ℕ) → Cube → Cube
super_round there back key c₀ c₁ s =
    add key (add (constants c₀ c₁) (back (MC (there (S (MC (S s)))))))

-- the same undone
unfoldable pub super_round⁻¹ : (there back : Cube → Cube) (key : Cube) (c₀ c₁ : ℕ) → Cube → Cube
super_round⁻¹ there back key c₀ c₁ s =
    S⁻¹ (MC⁻¹ (S⁻¹ (back (MC⁻¹ (there (add key (add (constants c₀ c₁) s)))))))
