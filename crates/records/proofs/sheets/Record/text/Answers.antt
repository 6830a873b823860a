use Rattle.std.proofs.Common.{◌≡◌, ℕ, ◌+◌, ◌<◌, ◌≤◌, ◌⊎◌, List, length, Option, MatchOption, Some, None, Bor, ◌∙◌, inl, inr, arith}
use Rattle.std.specs.List.{slice_range}
use Rattle.octets.specs.Octets.{part}
use Rattle.records.specs.Records.{length_in, text_in}
use Rattle.records.proofs.Layouts.{text_shown}
use Rattle.records.proofs.sheets.Record.text.Goals as goal

module _ (bytes room : List ℕ) (n : ℕ) (is : n ≡ length_in bytes) (shown : room ≡ part 64 928 bytes) (long : length room ≡ 928) where
  by_cases : (o : Option (Bor (List ℕ)))
      → MatchOption o ((n < 0) ⊎ (length room < n)) (λ x. (0 ≤ n) × (n ≤ length room) × (x.now ≡ slice_range room 0 n) × (length x.now + 0 ≡ n))
      → MatchOption o (928 < length_in bytes) (λ x. (length_in bytes ≤ 928) × (x.now ≡ text_in bytes))
  by_cases None (inl h) = omega (arith, is, long)
  by_cases None (inr h) = omega (arith, is, long)
  by_cases (Some x) h = (omega (arith, is, long, h.0, h.1), h.2 ∙ text_shown bytes room n is shown long (omega (arith, long, h.0, h.1)))

pub returns : goal.returns
returns c =
    by_cases c.args.self.now.bytes.now c.room.result.now c.length.result c.length.ensures c.room.ensures.part c.room.ensures.long c.get.result c.get.ensures.lookup.0
