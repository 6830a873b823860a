use Rattle.std.proofs.Common.{◌≡◌, length, rules}
use Rattle.sealing.proofs.Slipping.{slip_opened}
use Rattle.sealing.proofs.locks.SlipLock.open.Goals as goal

pub returns : goal.returns
returns g c =
    let s = c.args.self.now in
    let key-long : length s.key.now ≡ 32 = search rules in
    slip_opened (g.C.TwoWayCipher.back s.cipher.now) s.key.now c.args.bytes.now c.nonce-nonce.result.now c.block-block.result.now c.args.message.now c.open_short.new.out c.open_short.result
    key-long c.told-bytes c.told-message c.nonce-nonce.ensures c.block-block.ensures c.open_short.ensures.opens
