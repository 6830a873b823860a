-- The parts that sealing gives, laid into a record.
use Rattle.std.proofs.Common.{◌≡◌, ℕ, ◌+◌, ◌-◌, ◌≤◌, List, ◌++◌, length, take, drop, ap, ◌∙◌, ap₂, arith}
use Rattle.std.proofs.lemmas.List.{length-take, length-drop}
use Rattle.octets.specs.Octets.{zeros}
use Rattle.cipher.specs.Meaning.{BlockFunction}
use Rattle.modes.specs.Cascade.{ctr, tag}
use Rattle.modes.proofs.Streams.{length-ctr}
use Rattle.records.specs.Sheets.{head_of, associated, sheet_under}

-- a part of a memory, as the checker has it
pub middle_long : (from n : ℕ) (xs : List ℕ) → from + n ≤ length xs → length (take (from + n - from) (drop from xs)) ≡ n
middle_long from n xs h = simp (length-take, length-drop) (omega arith)

-- they are the record of a sheet
pub as_sheet : (f : BlockFunction) (key nonce label message text data' sign : List ℕ) (place : ℕ)
    → text ≡ ctr f key nonce message → data' ≡ associated place (head_of label message) → sign ≡ tag f key nonce data' (ctr f key nonce message)
    → nonce ++ (head_of label message ++ (text ++ (zeros (928 - length text) ++ sign))) ≡ sheet_under f key nonce place label message
as_sheet f key nonce label message text data' sign place t d s =
    ap₂ (λ x y. nonce ++ (head_of label message ++ (x ++ (zeros (928 - length x) ++ y)))) t (s ∙ ap (λ x. tag f key nonce x (ctr f key nonce message)) d)
    ∙ ap (λ k. nonce ++ (head_of label message ++ (ctr f key nonce message ++ (zeros (928 - k) ++ tag f key nonce (associated place (head_of label message)) (ctr f key nonce message))))) (length-ctr f key nonce message)
