-- What the ring's denials tell, in numbers and in words, and a disk's answer with the work that was under way.
use Rattle.std.specs.Prelude.{ℕ, List, ◌++◌, codes, Some, None, Ok, Err, Result}
use Rattle.std.specs.Fmt.{decimal}
use Rattle.disk.specs.Faults.{cause_details, sector_told, disk_fault_text}
use Rattle.disk.specs.declared.fault.DiskFault.{DiskFault}
use Rattle.ring.specs.declared.fault.Interrupted.{Interrupted}
use Rattle.ring.specs.declared.fault.Particulars.{Particulars}
use Rattle.ring.specs.declared.fault.RingFault.{RingFault}
use Rattle.ring.specs.declared.fault.RingFault.TheVariants.{Size, Foreign, LiveInGap, Series, End, Exhausted, Disk, Interrupted as Stopped}
use Rattle.ring.specs.declared.fault.Work.{Work}
use Rattle.ring.specs.declared.fault.Work.TheVariants.{Carry, Reservation}

-- a number, and nothing beside it
abbrev pub numbered : ℕ → Particulars
numbered number =
    record { number = number; operation = None; sector = None; work = None; series = None }

-- what a disk's denial tells: the operation, and the sector where the disk tells it
abbrev pub of_disk : DiskFault → Particulars
of_disk fault =
    record (numbered (cause_details fault.cause).number) {
      operation = Some fault.operation;
      sector = sector_told fault;
    }

-- the series that is written for
abbrev pub series_of : Work → ℕ
series_of (Carry series) = series
series_of (Reservation series) = series

-- what each denial tells: of a size, a foreign sector, a live record in the gap, a series, an end, numbers that run
-- short, a read, and a write or a flush with the work that it stopped
abbrev pub particulars : RingFault → Particulars
particulars (Size count) = numbered 3
particulars (Foreign sector) = record (numbered 5) { sector = Some sector }
particulars (LiveInGap sector) = record (numbered 6) { sector = Some sector }
particulars (Series series) = record (numbered 8) { series = Some series }
particulars (End end) = numbered 4
particulars Exhausted = numbered 11
particulars (Disk fault) = of_disk fault
particulars (Stopped stopped) =
    record (of_disk stopped.fault) {
      work = Some stopped.work;
      series = Some (series_of stopped.work);
    }

-- a disk's answer, a denial with the work that it stopped
abbrev pub with_work : Work → Result (Unit {0}) DiskFault → Result (Unit {0}) Interrupted
with_work work (Ok done) = Ok done
with_work work (Err fault) = Err (record { work = work; fault = fault })

-- the work by name, and its series
abbrev pub work_text : Work → List ℕ
work_text (Carry series) = codes "carry of series " ++ decimal series
work_text (Reservation series) = codes "reservation of series " ++ decimal series

-- the work, and what the disk denied
abbrev pub interrupted_text : Interrupted → List ℕ
interrupted_text stopped =
    work_text stopped.work ++ (codes " stopped: " ++ disk_fault_text stopped.fault)

-- what was denied, and why
abbrev pub ring_fault_text : RingFault → List ℕ
ring_fault_text (Size count) = codes "a disk has 10 to 2048 sectors, not " ++ decimal count
ring_fault_text (Foreign sector) =
    codes "sector " ++ (decimal sector ++ codes " is sound and no record of this server")
ring_fault_text (LiveInGap sector) =
    codes "sector " ++ (decimal sector ++ codes " is to be written next and holds a live record")
ring_fault_text (Series series) = codes "there is no series " ++ decimal series
ring_fault_text (End end) = codes "no reservation ends at " ++ decimal end.0
ring_fault_text Exhausted = codes "sequence numbers run short"
ring_fault_text (Disk fault) = disk_fault_text fault
ring_fault_text (Stopped stopped) = interrupted_text stopped
