use Rattle.std.proofs.Common.{◌≡◌, ℕ, ◌+◌, ◌++◌, length, take, drop, Ok, Err, Result, ap, ap₂, ◌∙◌, arith, rules}
use Rattle.faults.specs.declared.BoxFault.{BoxFault}
use Rattle.octets.specs.Octets.{zeros, written}
use Rattle.records.specs.Records.{empty}
use Rattle.sealing.specs.declared.found.Found.{Found}
use Rattle.sealing.specs.Sealing.{open_sheet_table}
use Rattle.sealing.proofs.Reading.{by_clear, refused_by}
use Rattle.sealing.proofs.locks.PlaceLock.open.Goals as goal

pub returns-in-Ok : goal.returns-in-Ok
returns-in-Ok g c =
    let s = c.args.self.now in
    let bytes = c.args.bytes.now in
    let ok = c.in-Ok.ensures in
    let answer : Result Found BoxFault = Ok (record { number = c.number-number.result; length = c.len.result }) in
    let laid = c.paste.ensures.fitting (omega (arith, c.deref.ensures.1, c.told-bytes)) ∙ ap (λ m. written 64 m bytes) c.deref.ensures.0 in
    by_clear (λ fault. (answer ≡ Err fault) × (c.paste.new.bytes ≡ empty)) _ (open_sheet_table (g.C.Cipher.forward s.cipher.now) s.key.now s.place bytes) ok.0 (
      ap₂ (λ (x y : ℕ). Ok (record { number = x; length = y })) c.number-number.ensures (c.len.ensures.value ∙ ok.1),
      laid ∙ ap₂ (λ m k. take 64 bytes ++ (m ++ drop (64 + k) bytes)) ok.2 ok.1,
    )

pub returns-in-Err : goal.returns-in-Err
returns-in-Err g c =
    let s = c.args.self.now in
    let wiped : c.fill.new.self ≡ zeros (length c.args.bytes.now) = search rules in
    refused_by Found (open_sheet_table (g.C.Cipher.forward s.cipher.now) s.key.now s.place c.args.bytes.now) c.in-Err.fault _ _ _ (wiped ∙ ap zeros c.told-bytes) c.in-Err.ensures
