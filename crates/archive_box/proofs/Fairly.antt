-- Every box is made fairly, by its type and by what its cipher is.
use Rattle.cipher.specs.Meaning.{BlockFunction, GivesBlocks, TwoWay}
use Rattle.box_model.specs.States.{Fair}
use Rattle.archive_box.specs.Boxes.{made}
use Rattle.archive_box.specs.declared.boxes.ArchiveBox.{ArchiveBox}

pub fair_box : {C S : Type 0} (forward back : C → BlockFunction) → ((c : C) → GivesBlocks (forward c)) → ((c : C) → TwoWay (forward c) (back c))
    → (box : ArchiveBox C S) → Fair (made forward back box)
fair_box forward back blocks ways box = record { gives_blocks = blocks box.cipher; two_way = ways box.cipher; key_fits = box.key_fits; sign_fits = box.sign_fits }
