-- antt computes each case from the definitions.
use Rattle.std.proofs.Common.{refl}
use Rattle.record.specs.Crc.{crc, register, feed, shifts, shift}
use Rattle.record.specs.Sector.{little, bytes_of, all_zero, sound, parts, content, body, encoded}
use Rattle.ring.specs.Operations.{tried, outcome}
use Rattle.ring.specs.Ring.{slot, top_below, top, live_below, live, plan, foreign_below}
use Rattle.simulator.specs.Devices.{after_tries}
use Rattle.simulator.specs.Files.{rows_of}
use Rattle.simulator.specs.Lines.{lines_from}
use Rattle.simulator.specs.Print.{columns_before, justified, printed}
use Rattle.simulator.specs.Requests.{given_by}
use Rattle.cases.specs.Table.{EveryCaseHolds}

pub every_case_holds : EveryCaseHolds
unfolding crc register feed shifts shift little bytes_of all_zero sound parts content body encoded tried outcome
    slot top_below top live_below live plan foreign_below columns_before justified printed lines_from
    rows_of after_tries given_by
every_case_holds = (refl, (refl, (refl, (refl, (refl, (refl, (refl, (refl, (refl, (refl, (λ u. refl, (refl, (λ u. refl, (refl, (refl, tt)))))))))))))))
