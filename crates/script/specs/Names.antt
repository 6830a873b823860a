-- Which lines name a call, whatever follows the name.
use Rattle.std.specs.Prelude.{◌≡◌, ◌⊎◌, ℕ, List, [], ◌∷◌, codes}
use Rattle.script.specs.Spelling.{LineSpells, name_of}
use Rattle.script.specs.declared.calls.Call.{Call}

-- the names of the calls that make and read slips of the kinds
abbrev pub trade_names : List (List ℕ)
trade_names =
    codes "licence" ∷ codes "loan" ∷ codes "receipt"
    ∷ codes "read-licence" ∷ codes "read-loan" ∷ codes "read-receipt" ∷ []

-- the names of all calls
abbrev pub call_names : List (List ℕ)
call_names =
    codes "key" ∷ codes "form" ∷ codes "tray" ∷ codes "plate"
    ∷ codes "make" ∷ codes "draw" ∷ codes "seal" ∷ codes "slip" ∷ codes "void"
    ∷ codes "clear" ∷ codes "read" ∷ codes "unslip" ∷ codes "number" ∷ codes "save"
    ∷ trade_names

abbrev pub OneOf : (words : List (List ℕ)) (word : List ℕ) → Type 0
OneOf [] word = ⊥
OneOf (first ∷ rest) word = (word ≡ first) ⊎ OneOf rest word

-- a line that begins with the name of a call
abbrev pub NamesCall : (line : List ℕ) → Type 0
NamesCall line = OneOf call_names (name_of line)

-- a line that spells a call names one
abbrev pub CallsAreNamed : (line : List ℕ) → Type 0
CallsAreNamed line = (call : Call) → LineSpells line call → NamesCall line
