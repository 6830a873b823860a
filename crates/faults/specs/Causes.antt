-- Why a call is refused: for each cause its number, its layer, what it leaves in a record buffer
-- and its words; and what becomes of a fault on its way up to the box.
use Rattle.std.specs.Prelude.{ℕ, Bool, true, false, cond, List, length, replicate, Option, Some}
use Rattle.std.specs.Prelude.{None, codes}
use Rattle.faults.specs.declared.ModeCause.{ModeCause}
use Rattle.faults.specs.declared.ModeCause.TheVariants.{Length as ModeLength, Limit as ModeLimit}
use Rattle.faults.specs.declared.ModeCause.TheVariants.{Parameter, Tag, Padding}
use Rattle.faults.specs.declared.ShelfCause.{ShelfCause}
use Rattle.faults.specs.declared.ShelfCause.TheVariants.{Length as ShelfLength, Outside, Shut}
use Rattle.faults.specs.declared.ShelfCause.TheVariants.{Unfit}
use Rattle.faults.specs.declared.BoxCause.{BoxCause}
use Rattle.faults.specs.declared.BoxCause.TheVariants.{Mode, Shelf, Length, Limit, NotOut, UsedUp}
use Rattle.faults.specs.declared.BoxCause.TheVariants.{SixteenOut, Empty, Filling}
use Rattle.faults.specs.declared.BoxCause.TheVariants.{Content, OtherKind}
use Rattle.faults.specs.declared.ModeFault.{ModeFault}
use Rattle.faults.specs.declared.ShelfFault.{ShelfFault}
use Rattle.faults.specs.declared.BoxFault.{BoxFault}

-- what is fixed for a cause: its number; its layer, which is 1 for the modes with the cipher
-- below them, 2 for the shelf and 3 for the box; whether the refusal makes a record buffer zero,
-- as an opening that found nothing, or not what it should; and its words
pub record Entry : Type 0 where
  pub number : ℕ
  pub layer : ℕ
  pub wipes : Bool
  pub words : List ℕ

-- every cause, as the box may meet it: its own, or one that came up from a mode or from the shelf
abbrev pub entry : BoxCause → Entry
entry (Mode ModeLength) =
    record { number = 1; layer = 1; wipes = false; words = codes "not of its stated length" }
entry (Mode ModeLimit) =
    record { number = 2; layer = 1; wipes = false; words = codes "over its limit" }
entry (Mode Parameter) =
    record {
      number = 3;
      layer = 1;
      wipes = false;
      words = codes "separator or count of super-rounds out of range";
    }
entry (Mode Tag) =
    record { number = 11; layer = 1; wipes = true; words = codes "the tag differs" }
entry (Mode Padding) =
    record { number = 12; layer = 1; wipes = true; words = codes "another nonce or no padding" }
entry (Shelf ShelfLength) =
    record { number = 1; layer = 2; wipes = false; words = codes "not of its stated length" }
entry (Shelf Outside) =
    record { number = 4; layer = 2; wipes = false; words = codes "no such place" }
entry (Shelf Shut) =
    record { number = 5; layer = 2; wipes = false; words = codes "the place is shut" }
entry (Shelf Unfit) =
    record { number = 13; layer = 2; wipes = false; words = codes "the plate is unfit" }
entry Length =
    record { number = 1; layer = 3; wipes = false; words = codes "not of its stated length" }
entry Limit =
    record { number = 2; layer = 3; wipes = false; words = codes "over its limit" }
entry NotOut =
    record {
      number = 6;
      layer = 3;
      wipes = false;
      words = codes "the number is not out in this box";
    }
entry UsedUp =
    record { number = 7; layer = 3; wipes = false; words = codes "the numbers are used up" }
entry SixteenOut =
    record { number = 8; layer = 3; wipes = false; words = codes "sixteen numbers are out" }
entry Empty =
    record { number = 9; layer = 3; wipes = true; words = codes "the place is empty" }
entry Filling =
    record {
      number = 10;
      layer = 3;
      wipes = true;
      words = codes "length above 928, or filling not zero";
    }
entry Content =
    record { number = 15; layer = 3; wipes = false; words = codes "content outside its range" }
entry OtherKind =
    record { number = 16; layer = 3; wipes = true; words = codes "not a message of this kind" }

-- a fault of each layer, by its cause and by the place that it names
abbrev pub mode_fault : ModeCause → ModeFault
mode_fault cause = record { cause = cause }

abbrev pub shelf_fault : (place : Option ℕ) → ShelfCause → ShelfFault
shelf_fault place cause = record { cause = cause; place = place }

abbrev pub box_fault : (place : Option ℕ) → BoxCause → BoxFault
box_fault place cause = record { cause = cause; place = place }

-- a fault from below as the box hands it up: whole, with the place that it has
abbrev pub from_mode : ModeFault → BoxFault
from_mode f = box_fault None (Mode f.cause)

abbrev pub from_shelf : ShelfFault → BoxFault
from_shelf f = box_fault f.place (Shelf f.cause)

-- the same fault with the place that the box adds
abbrev pub placed : ℕ → BoxFault → BoxFault
placed p f = box_fault (Some p) f.cause

-- what a refusal leaves in a record buffer
abbrev pub left : BoxFault → List ℕ → List ℕ
left f buffer = cond (entry f.cause).wipes (replicate (length buffer) 0) buffer
