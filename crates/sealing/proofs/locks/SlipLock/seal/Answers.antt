use Rattle.std.proofs.Common.{◌≡◌, ◌++◌, length, sym, subst, List, ℕ, Ok, rules}
use borrow.Rule.Slice.PartMut.{put_mid, post_of}
use Rattle.faults.proofs.Results.{handed_on}
use Rattle.sealing.specs.Slips.{SealsSlip}
use Rattle.sealing.proofs.Slipping.{slip_refused, slip_made}
use Rattle.sealing.proofs.locks.SlipLock.seal.Goals as goal

pub returns-in_err-seal_short : goal.returns-in_err-seal_short
returns-in_err-seal_short g c =
    let s = c.args.self.now in
    let key-long : length s.key.now ≡ 32 = search rules in
    slip_refused (g.C.Cipher.forward s.cipher.now) s.key.now c.args.nonce.now c.args.message.now c.args.bytes.now c.seal_short.new.block c.seal_short.result
    key-long c.told-nonce c.told-bytes c.seal_short.ensures _ c.from_residual.result c.in_err-seal_short.was (handed_on _ c.from_residual.result c.from_residual.ensures.1)

pub returns : goal.returns
returns g c =
    let s = c.args.self.now in
    let f = g.C.Cipher.forward s.cipher.now in
    let key-long : length s.key.now ≡ 32 = search rules in
    let block-long : length c.seal_short.new.block ≡ 32 = search rules in
    let made = slip_made f s.key.now c.args.nonce.now c.args.message.now c.args.bytes.now c.seal_short.new.block c.seal_short.result
    key-long c.told-nonce c.told-bytes c.seal_short.ensures c.in_ok-seal_short.was block-long in
    subst (λ (n : List ℕ). SealsSlip f s.key.now c.args.nonce.now c.args.message.now c.args.bytes.now (Ok tt) (n ++ post_of 0 16 (put_mid 16 32 c.args.bytes.now c.seal_short.new.block)))
    (sym c.copy_from_slice.ensures.after) made
