-- CTR-Cascade: keystream, ciphertext, tag; the tables and results of sealing and opening.
use Rattle.std.specs.Prelude.{◌≡◌, ℕ, ◌+◌, ◌/◌, ◌%◌, ◌≤◌, List, [], ◌∷◌, ◌++◌, length}
use Rattle.std.specs.Prelude.{Ok, Err, Result, bit_xor}
use Rattle.faults.specs.Causes.{left, mode_fault, from_mode}
use Rattle.faults.specs.Tables.{Table, By, Not}
use Rattle.faults.specs.declared.ModeCause.TheVariants.{Length, Limit, Tag}
use Rattle.faults.specs.declared.ModeFault.{ModeFault}
use Rattle.octets.specs.Lists.{at, table}
use Rattle.cipher.specs.Meaning.{BlockFunction}
use Rattle.modes.specs.Chains.{link, chain}
use Rattle.modes.specs.Counters.{counter_block}

module _ (f : BlockFunction) (key nonce : List ℕ) where
  -- block i of the keystream, from 0: counter i + 1, separator 1
  unfoldable pub keystream : (i : ℕ) → List ℕ
  keystream i = f key 1 10 (counter_block nonce (i + 1))

  -- byte j of a text, XORed with the keystream
  unfoldable pub masked : (text : List ℕ) (j : ℕ) → ℕ
  masked text j = bit_xor (at text j) (at (keystream (j / 32)) (j % 32))

  -- the ciphertext of a message, and the message of a ciphertext
  unfoldable pub ctr : (text : List ℕ) → List ℕ
  ctr text = table (length text) (masked text)

  -- the tag: from the key and the block with counter 0, the data by separators 2 and 3, the
  -- ciphertext by 4 and 5
  unfoldable pub tag : (associated ciphertext : List ℕ) → List ℕ
  tag associated ciphertext =
      let start : List ℕ = link f 2 10 key (counter_block nonce 0) in
      chain f 4 5 10 (chain f 2 3 10 start associated) ciphertext

-- key, nonce, associated data, text, output buffer and tag by their lengths
abbrev pub cascade_table : (key nonce associated text out tag : ℕ) → Table ModeFault
cascade_table key nonce associated text out tag =
    (Not ((key ≡ 32) × (out ≡ text) × (tag ≡ 32)), mode_fault Length)
    ∷ (Not ((nonce ≤ 20) × (associated ≤ 65536) × (text ≤ 65536)), mode_fault Limit)
    ∷ []

-- a sealing, by its answer and by what the buffers of ciphertext and tag hold after it
abbrev pub CascadeSeals :
    BlockFunction → (key nonce associated message out tag_out : List ℕ)
    → Result (Unit {0}) ModeFault → (out' tag_out' : List ℕ) → Type 0
CascadeSeals f key nonce associated message out tag_out answer out' tag_out' =
    let text : List ℕ = ctr f key nonce message in
    By (cascade_table (length key) (length nonce) (length associated) (length message) (length out)
    (length tag_out))
    (λ fault. (answer ≡ Err fault) × (out' ≡ out) × (tag_out' ≡ tag_out))
    ((answer ≡ Ok tt) × (out' ≡ text) × (tag_out' ≡ tag f key nonce associated text))

-- the same, and then whether the given tag is the right one
abbrev pub cascade_open_table :
    BlockFunction → (key nonce associated text given out : List ℕ) → Table ModeFault
cascade_open_table f key nonce associated text given out =
    cascade_table (length key) (length nonce) (length associated) (length text) (length out)
    (length given)
    ++ ((Not (given ≡ tag f key nonce associated text), mode_fault Tag) ∷ [])

-- an opening, by its answer and by what the buffer for the message holds after it
abbrev pub CascadeOpens :
    BlockFunction → (key nonce associated text given out : List ℕ)
    → Result (Unit {0}) ModeFault → (out' : List ℕ) → Type 0
CascadeOpens f key nonce associated text given out answer out' =
    By (cascade_open_table f key nonce associated text given out)
    (λ fault. (answer ≡ Err fault) × (out' ≡ left (from_mode fault) out))
    ((answer ≡ Ok tt) × (out' ≡ ctr f key nonce text))
