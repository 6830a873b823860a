-- What the next box is made with, or why there is nothing to make one with.
use Rattle.std.specs.Prelude.{◌≡◌, ◌≢◌, ℕ, List, true, false, Some, None, Ok, Err}
use Rattle.std.specs.Prelude.{Result}
use Rattle.hex.specs.Hex.{decode_sized}
use Rattle.box_desk.specs.declared.problems.Problem.{Problem}
use Rattle.box_desk.specs.declared.problems.Problem.TheVariants.{NoCall, Misspelt, TooLong}
use Rattle.box_desk.specs.declared.problems.Problem.TheVariants.{NoDigits, NoSign, NoNumber}
use Rattle.box_desk.specs.declared.problems.Problem.TheVariants.{NoKey, NoShelf, NoBox, NoSheet}
use Rattle.box_desk.specs.declared.problems.Problem.TheVariants.{KeyLength, Unread, Unwritten}
use Rattle.box_desk.specs.declared.problems.Problem.TheVariants.{Memory, Refused}
use Rattle.box_desk.specs.declared.settings.Making.{Making}
use Rattle.box_desk.specs.declared.settings.Settings.{Settings}

-- the text spells a sign: 16 hexadecimal digits for its 8 bytes
abbrev pub SpellsSign : (text sign : List ℕ) → Type 0
SpellsSign text sign = decode_sized text 8 ≡ Ok sign

abbrev pub IsSign : (text : List ℕ) → Type 0
IsSign text = (sign : List ℕ) × SpellsSign text sign

-- a sign that is none is told first, then a key that is missing, then a shelf
abbrev pub Makes : (text : List ℕ) (first : ℕ) → Settings → Result Making Problem → Type 0
Makes text first settings (Ok making) =
    SpellsSign text making.sign
    × (making.first ≡ first)
    × (settings.key ≡ Some making.key)
    × (making.form ≡ settings.form)
    × (settings.has_shelf ≡ true)
Makes text first settings (Err NoSign) = ¬ (IsSign text)
Makes text first settings (Err NoKey) = IsSign text × (settings.key ≡ None)
Makes text first settings (Err NoShelf) =
    IsSign text × (settings.key ≢ None) × (settings.has_shelf ≡ false)
Makes text first settings (Err Memory) = ⊥
Makes text first settings (Err NoCall) = ⊥
Makes text first settings (Err (Misspelt usage)) = ⊥
Makes text first settings (Err TooLong) = ⊥
Makes text first settings (Err NoDigits) = ⊥
Makes text first settings (Err (NoNumber n)) = ⊥
Makes text first settings (Err NoBox) = ⊥
Makes text first settings (Err NoSheet) = ⊥
Makes text first settings (Err KeyLength) = ⊥
Makes text first settings (Err (Unread e)) = ⊥
Makes text first settings (Err (Unwritten e)) = ⊥
Makes text first settings (Err (Refused fault)) = ⊥
