-- Which words are a command.
use Rattle.std.specs.Prelude.{◌≡◌, ◌≤◌, ◌⊎◌, ℕ, List, [], ◌∷◌, length, codes}

-- the first word is this one, and of the rest this is true
abbrev pub Begins : (word : List ℕ) → (List (List ℕ) → Type 0) → (words : List (List ℕ)) → Type 0
Begins word follows [] = ⊥
Begins word follows (first ∷ rest) = (first ≡ word) × follows rest

-- so many words
abbrev pub Count : ℕ → List (List ℕ) → Type 0
Count n words = length words ≡ n

-- a wish for the usage, alone on its line
abbrev pub IsHelp : (words : List (List ℕ)) → Type 0
IsHelp words = Begins (codes "help") (Count 0) words ⊎ Begins (codes "--help") (Count 0) words

-- the kind of a shelf, its file, and of a plate the count of its places
abbrev pub IsShelf : (words : List (List ℕ)) → Type 0
IsShelf words = Begins (codes "tray") (Count 1) words ⊎ Begins (codes "plate") (Count 2) words

-- the commands of the usage
abbrev pub IsCommand : (words : List (List ℕ)) → Type 0
IsCommand words =
    IsHelp words
    ⊎ (Begins (codes "hash") (λ files. 1 ≤ length files) words
    ⊎ (Begins (codes "lock") (Count 3) words
    ⊎ (Begins (codes "lock") (Begins (codes "--nonce") (Count 4)) words
    ⊎ (Begins (codes "unlock") (Count 3) words
    ⊎ (Begins (codes "shelf") IsShelf words
    ⊎ Begins (codes "box") (Count 0) words)))))
