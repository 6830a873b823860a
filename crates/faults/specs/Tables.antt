-- Tables of refusals. A call has one table and one result: the topmost row that applies gives the
-- fault of the refusal, and where no row applies the call is done.
use Rattle.std.specs.Prelude.{List, [], ◌∷◌, ◌≡◌, MatchResult, Result}

abbrev pub Not : Type 0 → Type 0
Not P = P → ⊥

-- rows, topmost first: a fact about what was handed in, and the whole fault of the refusal where
-- the fact holds
abbrev pub Table : Type 0 → Type 1
Table Fault = List (Type 0 × Fault)

-- what is true of a call with this table, by what is true of it refused with a fault, and by what
-- is true of it done
abbrev pub By : {Fault : Type 0} → Table Fault → (Fault → Type 0) → Type 0 → Type 0
By [] refused done = done
By (row ∷ rows) refused done = (row.0 → refused row.1) × (Not row.0 → By rows refused done)

-- no row applies
abbrev pub Clear : {Fault : Type 0} → Table Fault → Type 0
Clear [] = Unit {0}
Clear (row ∷ rows) = Not row.0 × Clear rows

-- a check before a call: it gives what the call goes on with, of which Fit is true, or the fault
-- of the topmost row that applies
abbrev pub Checks : {A Fault : Type 0} → Table Fault → (Fit : A → Type 0) → Result A Fault → Type 0
Checks table Fit answer = MatchResult answer Fit (λ fault. By table (λ row. fault ≡ row) ⊥)
