-- The calls on a cipher that take anything: their table of refusals and their result.
use Rattle.std.specs.Prelude.{◌≡◌, ℕ, ◌≤◌, List, [], ◌∷◌, length, Ok, Err, Result}
use Rattle.faults.specs.Causes.{mode_fault}
use Rattle.faults.specs.Tables.{Table, By, Not}
use Rattle.faults.specs.declared.ModeCause.TheVariants.{Length, Parameter}
use Rattle.faults.specs.declared.ModeFault.{ModeFault}
use Rattle.cipher.specs.Meaning.{BlockFunction}

-- a separator is 0 to 15, and a cipher has 10 to 31 super-rounds
abbrev pub parameter_table : (D R : ℕ) → Table ModeFault
parameter_table D R = (Not ((D ≤ 15) × (10 ≤ R) × (R ≤ 31)), mode_fault Parameter) ∷ []

-- key and block by their lengths
abbrev pub call_table : (key D R block : ℕ) → Table ModeFault
call_table key D R block =
    (Not ((key ≡ 32) × (block ≡ 32)), mode_fault Length) ∷ parameter_table D R

-- a call of the block function f, by its answer and by what the block's buffer holds after it
abbrev pub Calls : BlockFunction → (key : List ℕ) (D R : ℕ) (block : List ℕ)
    → Result (Unit {0}) ModeFault → (after : List ℕ) → Type 0
Calls f key D R block answer after =
    By (call_table (length key) D R (length block))
    (λ fault. (answer ≡ Err fault) × (after ≡ block))
    ((answer ≡ Ok tt) × (after ≡ f key D R block))
