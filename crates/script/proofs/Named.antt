-- The names of calls are text.
use Rattle.std.proofs.Common.{◌≡◌, ℕ, true, List, [], ◌∷◌, ⊎_elim, refl}
use Rattle.std.specs.List.{list_all}
use Rattle.script.specs.Names.{call_names, OneOf}
use Rattle.script.specs.Words.{IsText}
use Rattle.script.proofs.Texts.{both, is_name, named_by}

one_is_text : (words : List (List ℕ)) → list_all is_name words ≡ true → (word : List ℕ) → OneOf words word → IsText word
one_is_text [] e word h = absurd h
one_is_text (first ∷ rest) e word h =
    let parts = both (is_name first) (list_all is_name rest) e in
    ⊎_elim (λ same. named_by first parts.0 word same) (one_is_text rest parts.1 word) h

pub called_is_text : (word : List ℕ) → OneOf call_names word → IsText word
called_is_text word h = one_is_text call_names refl word h
