-- Chains of blocks over any block function f. The chain value is the key under which the next
-- block goes.
use Rattle.std.specs.Prelude.{◌≡◌, ℕ, zero, suc, ◌<◌, List, [], ◌∷◌, length, Ok, Err, Result}
use Rattle.faults.specs.Causes.{mode_fault}
use Rattle.faults.specs.Tables.{By, Not}
use Rattle.faults.specs.declared.ModeCause.TheVariants.{Length, Limit}
use Rattle.faults.specs.declared.ModeFault.{ModeFault}
use Rattle.cipher.specs.Meaning.{BlockFunction}
use Rattle.modes.specs.Bytes.{xor, padded, full_blocks, block_at, tail_of}

module _ (f : BlockFunction) where
  -- one link: the chain value that a block leaves
  unfoldable pub link : (separator super_rounds : ℕ) (value block : List ℕ) → List ℕ
  link separator super_rounds value block = xor block (f value separator super_rounds block)

  -- the chain value after the first n full blocks of a text
  unfoldable pub links : (separator super_rounds : ℕ) (value text : List ℕ) (n : ℕ) → List ℕ
  links separator super_rounds value text zero = value
  links separator super_rounds value text (suc n) =
      link separator super_rounds (links separator super_rounds value text n) (block_at text n)

  -- all full blocks by one separator, and then the padded tail, which is never left out, by another
  abbrev pub chain :
      (block_separator tail_separator super_rounds : ℕ) (value text : List ℕ) → List ℕ
  chain block_separator tail_separator super_rounds value text =
      link tail_separator super_rounds
      (links block_separator super_rounds value text (full_blocks text))
      (padded 32 (tail_of text))

  -- a chain takes a block: its value before and after
  abbrev pub TakesBlock :
      (separator super_rounds : ℕ) (bytes before : List ℕ)
      → Result (Unit {0}) ModeFault → (after : List ℕ) → Type 0
  TakesBlock separator super_rounds bytes before answer after =
      By ((Not (length bytes ≡ 32), mode_fault Length) ∷ [])
      (λ fault. (answer ≡ Err fault) × (after ≡ before))
      ((answer ≡ Ok tt) × (after ≡ link separator super_rounds before bytes))

-- a chain is told its tail: what it holds of a tail, padded, before and after; a later tail
-- replaces an earlier one
abbrev pub TakesTail :
    (bytes before : List ℕ) → Result (Unit {0}) ModeFault → (after : List ℕ) → Type 0
TakesTail bytes before answer after =
    By ((31 < length bytes, mode_fault Limit) ∷ [])
    (λ fault. (answer ≡ Err fault) × (after ≡ before))
    ((answer ≡ Ok tt) × (after ≡ padded 32 bytes))
