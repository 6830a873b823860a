-- Why an image is not read.
use Rattle.std.specs.Prelude.{◌≡◌, ℕ}
use Rattle.files.specs.declared.unread.Unread.{Unread}
use Rattle.files.specs.declared.unread.Unread.TheVariants.{Failed, Over}

-- one that is too long names this limit
abbrev pub Names : (limit : ℕ) → Unread → Type 0
Names limit (Failed e) = Unit {0}
Names limit (Over n) = n ≡ limit
