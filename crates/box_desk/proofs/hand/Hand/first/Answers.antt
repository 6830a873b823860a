use Rattle.std.proofs.Common.{◌≡◌, [], ◌∷◌, ℕ, ◌<◌, List, length, refl, sym, ◌∙◌, ap, arith}
use Rattle.std.specs.Prelude.{slice_index_or}
use Rattle.archive_box.specs.declared.number.Number.{Number}
use Rattle.box_desk.proofs.hand.Hand.first.Goals as goal

first_is : (items : List Number) (x : Number) (v : ℕ) → 0 < length items → x ≡ slice_index_or items 0 x → v ≡ x.value
    → (number : Number) × (rest : List Number) × (items ≡ number ∷ rest) × (number.value ≡ v)
first_is [] x v some e h = absurd (omega (arith, some))
first_is (number ∷ rest) x v some e h = (number, rest, refl, ap (λ m. m.value) (sym e) ∙ sym h)

pub returns : goal.returns
returns c =
    first_is c.args.self.now.numbers.items c.in_ok-front.field-0.now c.value.result
    c.in_ok-front.ensures.item.3.0 c.in_ok-front.ensures.lookup c.value.ensures
