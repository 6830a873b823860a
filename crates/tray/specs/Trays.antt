-- A tray: places one after another in a memory, all of them always open. What is left of the
-- memory is spare.
use Rattle.std.specs.Prelude.{◌≡◌, ℕ, ◌*◌, ◌/◌, min, List, length, drop, nat_lt}
use Rattle.octets.specs.Octets.{part, written}
use Rattle.shelf.specs.Meaning.{Meaning}

-- how many places a memory of so many bytes has
abbrev pub tray_places : (size : ℕ) → ℕ
tray_places size = min (size / 1024) 4096

abbrev pub tray : (memory : List ℕ) → Meaning
tray memory = record {
  count = tray_places (length memory);
  opens = λ p. nat_lt p (tray_places (length memory));
  bytes = λ p. part (1024 * p) 1024 memory;
}

-- a tray's memory after a done put: the bytes are written over those of the place, and the spare
-- ones are as they were
pub record TrayStores (memory : List ℕ) (p : ℕ) (bytes memory' : List ℕ) : Type 0 where
  pub all : memory' ≡ written (1024 * p) bytes memory
  pub spare : drop (1024 * tray_places (length memory)) memory'
      ≡ drop (1024 * tray_places (length memory)) memory
