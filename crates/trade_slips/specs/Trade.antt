-- What the slips of the trade say: the message of each content, by the byte of its kind and its
-- numbers. Each number has its least, its greatest and the bytes that it takes.
use Rattle.std.specs.Prelude.{ℕ, List, [], ◌∷◌, Option}
use Rattle.slip_kinds.specs.Fields.{Field, field, message}
use Rattle.trade_slips.specs.declared.contents.Licence.{Licence}
use Rattle.trade_slips.specs.declared.contents.Loan.{Loan}
use Rattle.trade_slips.specs.declared.contents.Receipt.{Receipt}

-- a licence and a loan are laid out alike: a design, and a number from 1 to the greatest
abbrev pub design_fields : (greatest design number : ℕ) → List Field
design_fields greatest design number =
    field design 1 99999999 4 ∷ field number 1 greatest 2 ∷ []

abbrev pub of_design : (kind greatest design number : ℕ) → Option (List ℕ)
of_design kind greatest design number = message kind (design_fields greatest design number)

abbrev pub licence_fields : Licence → List Field
licence_fields c = design_fields 999 c.design c.copies

abbrev pub licence : Licence → Option (List ℕ)
licence c = message 1 (licence_fields c)

abbrev pub loan_fields : Loan → List Field
loan_fields c = design_fields 36600 c.design c.day

abbrev pub loan : Loan → Option (List ℕ)
loan c = message 2 (loan_fields c)

abbrev pub receipt_fields : Receipt → List Field
receipt_fields c = field c.cents 0 1000000000000 8 ∷ []

abbrev pub receipt : Receipt → Option (List ℕ)
receipt c = message 3 (receipt_fields c)
