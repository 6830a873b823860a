-- What the lines of a log come to: what is drawn, sealed, slipped, voided and cleared, in order. A
-- refused line, and one that only asks, comes to nothing.
use Rattle.std.specs.Prelude.{ℕ, cond, List, [], ◌∷◌, Some, None, Ok, Err, Option, fold, ◌==◌}
use Rattle.std.specs.List.{flat_map}
use Rattle.box_model.specs.Calls.{Message}
use Rattle.box_model.specs.Logs.{Line, draw, seal, slips, void, clear, read, unslip}

pub data Effect : Type 0 where
  drew : (number : ℕ) → Effect
  sealed : (number place : ℕ) (label message bytes : List ℕ) → Effect
  slipped : (number : ℕ) (message bytes : List ℕ) → Effect
  voided : (number : ℕ) → Effect
  cleared : (place : ℕ) → Effect

abbrev pub slip_effects : (number : ℕ) → Message → (bytes : List ℕ) → List Effect
slip_effects n None bytes = []
slip_effects n (Some message) bytes = slipped n message bytes ∷ []

abbrev pub effects : Line → List Effect
effects (draw (Ok n)) = drew n ∷ []
effects (draw (Err e)) = []
effects (seal n p l m b (Ok x) r) = sealed n p l m r ∷ []
effects (seal n p l m b (Err e) r) = []
effects (slips n m b (Ok x) r) = slip_effects n m r
effects (slips n m b (Err e) r) = []
effects (void n (Ok x)) = voided n ∷ []
effects (void n (Err e)) = []
effects (clear p (Ok x)) = cleared p ∷ []
effects (clear p (Err e)) = []
effects (read p b a r) = []
effects (unslip x b a r) = []

abbrev pub all_effects : List Line → List Effect
all_effects lines = flat_map effects lines

-- the number that is drawn, and the one that is ended
abbrev pub drawn_by : Effect → List ℕ
drawn_by (drew n) = n ∷ []
drawn_by (sealed n p l m r) = []
drawn_by (slipped n m b) = []
drawn_by (voided n) = []
drawn_by (cleared p) = []

abbrev pub ended_by : Effect → List ℕ
ended_by (drew n) = []
ended_by (sealed n p l m r) = n ∷ []
ended_by (slipped n m b) = n ∷ []
ended_by (voided n) = n ∷ []
ended_by (cleared p) = []

-- the numbers that done draws of a log answered, and those that its done seals, slips and voids
-- name, in order
abbrev pub drawn : List Line → List ℕ
drawn lines = flat_map drawn_by (all_effects lines)

abbrev pub ended : List Line → List ℕ
ended lines = flat_map ended_by (all_effects lines)

-- what the latest seal or clear left at a place
pub data Left : Type 0 where
  a_sheet : (number : ℕ) (label message : List ℕ) → Left
  nothing : Left

-- what an effect leaves at the place p, where those before it left that much
abbrev pub leaves : (p : ℕ) → Option Left → Effect → Option Left
leaves p before (drew n) = before
leaves p before (sealed n q l m r) = cond (p == q) (Some (a_sheet n l m)) before
leaves p before (slipped n m b) = before
leaves p before (voided n) = before
leaves p before (cleared q) = cond (p == q) (Some nothing) before

abbrev pub latest : (p : ℕ) → List Effect → Option Left
latest p effects = fold (leaves p) None effects
