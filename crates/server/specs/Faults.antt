-- What the server's denials tell, in numbers and in words.
use Rattle.std.specs.Prelude.{ℕ, List, ◌++◌, codes, Some}
use Rattle.std.specs.Fmt.{decimal}
use Rattle.ring.specs.Faults.{numbered, ring_fault_text, particulars as of_ring}
use Rattle.ring.specs.declared.fault.Particulars.{Particulars}
use Rattle.server.specs.declared.fault.ServerFault.{ServerFault}
use Rattle.server.specs.declared.fault.ServerFault.TheVariants.{Down as WasDown, Series, Reading, AboveTop, Ring as OfRing}

-- of a server that is down, a series, a reading, a rank above the top, and of the ring
abbrev pub particulars : ServerFault → Particulars
particulars (WasDown fault) = numbered 7
particulars (Series series) = record (numbered 8) { series = Some series }
particulars Reading = numbered 9
particulars AboveTop = numbered 10
particulars (OfRing fault) = of_ring fault

-- what was denied, and why
abbrev pub server_fault_text : ServerFault → List ℕ
server_fault_text (WasDown fault) = codes "the server is down: " ++ ring_fault_text fault
server_fault_text (Series series) = codes "there is no series " ++ decimal series
server_fault_text Reading = codes "the clock's reading has no floor"
server_fault_text AboveTop = codes "the rank is above the kind's top"
server_fault_text (OfRing fault) = ring_fault_text fault
