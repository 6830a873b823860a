-- What the calls return, in the words of their definitions.
use Rattle.std.specs.Prelude.{ℕ, Ok, Err, Result}
use Rattle.faults.specs.declared.BoxFault.{BoxFault}
use Rattle.faults.specs.Causes.{placed}
use Rattle.sealing.specs.declared.found.Found.{Found}
use Rattle.archive_box.specs.declared.number.Number.{Number}
use Rattle.archive_box.specs.declared.number.Refusal.{Refusal}

-- a draw answers the number that it hands out
abbrev pub drawn_value : Result Number BoxFault → Result ℕ BoxFault
drawn_value (Ok number) = Ok number.value
drawn_value (Err fault) = Err fault

-- a seal or a slip answers the fault of its refusal
abbrev pub fault_of : Result (Unit {0}) Refusal → Result (Unit {0}) BoxFault
fault_of (Ok x) = Ok x
fault_of (Err refusal) = Err refusal.fault

-- an answer with the place that the box adds to a fault
abbrev pub with_place : {A : Type 0} → (place : ℕ) → Result A BoxFault → Result A BoxFault
with_place place (Ok x) = Ok x
with_place place (Err fault) = Err (placed place fault)

-- a read answers a number and a length
abbrev pub number_and_length : Result Found BoxFault → Result (ℕ × ℕ) BoxFault
number_and_length (Ok found) = Ok (found.number, found.length)
number_and_length (Err fault) = Err fault
