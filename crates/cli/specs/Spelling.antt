-- The words that a command is written as.
use Rattle.std.specs.Prelude.{◌≡◌, ◌≤◌, ◌⊎◌, ℕ, List, [], ◌∷◌, length, codes, map, Option, Some}
use Rattle.std.specs.Prelude.{None, string_bytes}
use Rattle.faults.specs.Tables.{Not}
use Rattle.cli.specs.Commands.{IsCommand}
use Rattle.cli.specs.declared.commands.Files.{Files}
use Rattle.cli.specs.declared.commands.Command.{Command}
use Rattle.cli.specs.declared.commands.Command.TheVariants.{Help, Hash, Lock, Unlock, Tray, Plate}
use Rattle.cli.specs.declared.commands.Command.TheVariants.{Box}

-- the files of a locking or an unlocking
abbrev pub file_words : Files → List (List ℕ)
file_words files = files.key.now ∷ files.from.now ∷ files.to.now ∷ []

abbrev pub WordsAre : (words : List (List ℕ)) → Command → Type 0
WordsAre words Help = (words ≡ codes "help" ∷ []) ⊎ (words ≡ codes "--help" ∷ [])
WordsAre words (Hash files) =
    (words ≡ codes "hash" ∷ map string_bytes files.now) × (1 ≤ length files.now)
WordsAre words (Lock None files) = words ≡ codes "lock" ∷ file_words files
WordsAre words (Lock (Some nonce) files) =
    words ≡ codes "lock" ∷ codes "--nonce" ∷ nonce.now ∷ file_words files
WordsAre words (Unlock files) = words ≡ codes "unlock" ∷ file_words files
WordsAre words (Tray file) = words ≡ codes "shelf" ∷ codes "tray" ∷ file.now ∷ []
WordsAre words (Plate file places) =
    words ≡ codes "shelf" ∷ codes "plate" ∷ file.now ∷ places.now ∷ []
WordsAre words Box = words ≡ codes "box" ∷ []

-- the command that words are, or none where they are no command
abbrev pub CommandOf : (words : List (List ℕ)) → Option Command → Type 0
CommandOf words (Some command) = WordsAre words command
CommandOf words None = Not (IsCommand words)
