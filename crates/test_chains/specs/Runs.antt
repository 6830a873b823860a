-- Which text a run of calls hands to a chain, and what the chains give for it.
use Rattle.std.specs.Prelude.{◌≡◌, ℕ, ◌==◌, nat_lt, List, [], ◌∷◌, ◌++◌, length, cond, Result}
use Rattle.faults.specs.Tables.{Checks}
use Rattle.faults.specs.declared.ModeFault.{ModeFault}
use Rattle.cipher.specs.Meaning.{BlockFunction}
use Rattle.modes.specs.Cascade.{tag}
use Rattle.modes.specs.Counters.{counter_table}
use Rattle.test_chains.specs.declared.runs.Piece.{Piece}
use Rattle.test_chains.specs.declared.runs.Piece.TheVariants.{Block, Tail}

-- the blocks, joined: a block has 32 bytes, and any other is refused
unfoldable pub blocks : List Piece → List ℕ
blocks [] = []
blocks (Block bytes ∷ more) = cond (length bytes.items == 32) bytes.items [] ++ blocks more
blocks (Tail bytes ∷ more) = blocks more

-- the tail that is told last, or `before` where none is: a tail has at most 31 bytes, and a longer
-- one is refused
unfoldable pub last_tail : (before : List ℕ) → List Piece → List ℕ
last_tail before [] = before
last_tail before (Block bytes ∷ more) = last_tail before more
last_tail before (Tail bytes ∷ more) =
    last_tail (cond (nat_lt 31 (length bytes.items)) before bytes.items) more

-- the text that is handed over
abbrev pub handed : List Piece → List ℕ
handed pieces = blocks pieces ++ last_tail [] pieces

-- from a key and the block with counter 0 of a nonce, the chains give the tag of the associated
-- data and the text that are handed to them; the nonce may be refused
abbrev pub ChainsGiveTheTag :
    BlockFunction → (key nonce associated text : List ℕ) → Result (List ℕ) ModeFault → Type 0
ChainsGiveTheTag f key nonce associated text answer =
    Checks (counter_table (length nonce)) (λ given. given ≡ tag f key nonce associated text) answer
