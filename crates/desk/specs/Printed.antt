-- What is printed where something is not made.
use Rattle.std.specs.Prelude.{ℕ, List, codes}
use Rattle.faults.specs.Causes.{from_mode, from_shelf}
use Rattle.faults.specs.Words.{printed}
use Rattle.desk.specs.declared.unmade.Unmade.{Unmade}
use Rattle.desk.specs.declared.unmade.Unmade.TheVariants.{Refused, Unfit, Memory}

-- a fault in its own words, and no memory as that
abbrev pub printed_unmade : Unmade → List ℕ
printed_unmade (Refused fault) = printed (from_mode fault)
printed_unmade (Unfit fault) = printed (from_shelf fault)
printed_unmade Memory = codes "no memory"
