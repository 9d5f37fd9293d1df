-- The reservation and the recoveries answer one after the other.
use Rattle.std.proofs.Common.{refl}
use Rattle.carries.specs.Stops.{CutBy}
use Rattle.carries.proofs.Stopped.{not_denied, stopped}
use Rattle.carries.proofs.stop.Goals as goal

pub returns-in_err-ring : goal.returns-in_err-ring
returns-in_err-ring g c lawful = absurd (not_denied _ _ _ lawful c.cut.ensures.meaning _ c.in_err-ring.ensures.answer)

pub returns : goal.returns
returns g c lawful =
    rw c.told-answer.ensures
    (stopped _ _ _ lawful c.cut.ensures.meaning _ _ _ _ _ _ c.in_ok-ring.ensures.answer c.reserve.ensures.reserves
    c.cut-2.ensures.meaning c.recover-recovered.ensures.answer (CutBy g.D.Disk.moves g.D.Disk.meaning) c.args.tear
    (c.args.disk.now, c.cut.new.self, refl, refl, c.cut.ensures.moves) (c.reserve.new.disk, c.cut-2.new.self, refl, refl, c.cut-2.ensures.moves))
