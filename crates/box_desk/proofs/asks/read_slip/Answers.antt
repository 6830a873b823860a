use Rattle.std.proofs.Common.{sym, ◌∙◌, ap}
use Rattle.faults.proofs.Results.{handed_on}
use Rattle.box_desk.specs.Slips.{told}
use Rattle.box_desk.proofs.Slips.{read_as_bytes}
use Rattle.box_desk.proofs.asks.read_slip.Goals as goal

pub returns-in_err-read_slip : goal.returns-in_err-read_slip
returns-in_err-read_slip g c =
    read_as_bytes _ c.args.digits.now c.in_ok-slip.slip.items c.deref.result.now c.read_slip.result c.from_residual-in_err-read_slip.result c.in_ok-slip.ensures.ok c.deref.ensures.value
    (c.read_slip.new.message, c.read_slip.ensures.reads)
    (handed_on _ c.from_residual-in_err-read_slip.result c.from_residual-in_err-read_slip.ensures.1 ∙ sym (ap told c.in_err-read_slip.was))

pub returns : goal.returns
returns g c =
    read_as_bytes _ c.args.digits.now c.in_ok-slip.slip.items c.deref.result.now c.read_slip.result _ c.in_ok-slip.ensures.ok c.deref.ensures.value
    (c.read_slip.new.message, c.read_slip.ensures.reads) (sym (ap told c.in_ok-read_slip.was))
