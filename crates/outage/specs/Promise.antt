-- What the calls of the program promise.
use Rattle.std.specs.Prelude.{List, Option}
use Rattle.disk.specs.Devices.{latest_write}
use Rattle.disk.specs.declared.memory.MemoryDisk.{MemoryDisk}
use Rattle.disk.specs.declared.torn.Held.{Held}
use Rattle.kind.specs.Meaning.{Numbering}
use Rattle.server.specs.declared.state.State.{State}
use Rattle.history.specs.Made.{RanBlank}
use Rattle.history.specs.declared.calls.Turn.{Turn}

-- these calls were made on a server over a torn disk of ten sectors that began without records, with five writes and flushes to
-- succeed, and obey the laws
abbrev pub MadeOnTorn : Numbering → List Turn → List Turn → Type 0
MadeOnTorn k turns after =
    (state : State) × (disk : MemoryDisk (Option Held))
    × RanBlank latest_write k 10 5 turns after state disk
