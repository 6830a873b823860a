use Rattle.std.proofs.Common.{rules}
use Rattle.cipher.specs.Meaning.{Bytes}
use Rattle.box_model.proofs.Keeping.{kept}
use Rattle.archive_box.proofs.boxes.ArchiveBox.new.Goals as goal

pub returns-clause-law : goal.returns-clause-law
returns-clause-law g c =
    let key : Bytes 32 c.args.key = search rules in
    let sign : Bytes 8 c.args.sign = search rules in
    kept _ (record { gives_blocks = g.met.C.Cipher.gives_blocks c.args.cipher; two_way = g.met.C.TwoWayCipher.two_way c.args.cipher; key_fits = key; sign_fits = sign }) _
    (search rules) c.new.ensures
