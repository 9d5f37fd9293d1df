-- Where a run stands, seen without its references; and what the lines that set it up make of it.
use Rattle.std.specs.Prelude.{ℕ, List, [], ◌++◌, Some, None, Option}
use Rattle.std.specs.List.{flat_map}
use Rattle.disk.specs.Meaning.{Meaning}
use Rattle.kind.specs.declared.time.Lease.{Lease}
use Rattle.server.specs.Rules.{woken}
use Rattle.server.specs.declared.state.State.{State}
use Rattle.simulator.specs.Devices.{meaning_of, make_of}
use Rattle.simulator.specs.Kinds.{numbering_of}
use Rattle.simulator.specs.declared.any_kind.AnyKind.{AnyKind}
use Rattle.simulator.specs.declared.device.Make.{Make}
use Rattle.simulator.specs.declared.stage.Left.{Left}
use Rattle.simulator.specs.declared.stage.Left.TheVariants as left
use Rattle.simulator.specs.declared.stage.Stage.{Stage}
use Rattle.simulator.specs.declared.stage.Stage.TheVariants as stage

-- the line for the device is to come: the memory; the line for the kind: the disk and the memory past it; the line
-- for the box: the lease too; requests and cuts: the kind and the server's state; or the run has ended: the kind of
-- its server, if it had one, and the memory that is left
pub data View : Type 0 where
  awaits_disk : List ℕ → View
  awaits_kind : Make → Meaning → List ℕ → View
  awaits_box : Make → Lease → Meaning → List ℕ → View
  runs : Make → AnyKind → State → Meaning → List ℕ → View
  has_ended : Option AnyKind → List ℕ → View

-- all bytes of a memory: the sectors of a disk, what is past them in its own part, and the spare
abbrev pub memory_bytes : Meaning → List ℕ → List ℕ
memory_bytes m spare = flat_map (λ sector. sector) m.reading ++ (m.beyond ++ spare)

-- the memory that is left of a run
abbrev pub left_memory : Left → List ℕ
left_memory left.Nothing = []
left_memory (left.Memory memory) = memory.now
left_memory (left.Disk disk spare) = memory_bytes (meaning_of disk) spare.now
left_memory (left.Server server spare) = memory_bytes (meaning_of server.disk) spare.now

-- and the kind of its server
abbrev pub left_kind : Left → Option AnyKind
left_kind (left.Server server spare) = Some server.kind
left_kind left = None

-- a stage, seen without its references
abbrev pub view : Stage → View
view (stage.Device memory) = awaits_disk memory.now
view (stage.Kind disk spare) = awaits_kind (make_of disk) (meaning_of disk) spare.now
view (stage.Box disk spare lease) = awaits_box (make_of disk) lease (meaning_of disk) spare.now
view (stage.Running server spare) =
    runs (make_of server.disk) server.kind server.state (meaning_of server.disk) spare.now
view (stage.Ended left) = has_ended (left_kind left) (left_memory left)

-- the memory at a stage
abbrev pub memory_of : View → List ℕ
memory_of (awaits_disk memory) = memory
memory_of (awaits_kind make m spare) = memory_bytes m spare
memory_of (awaits_box make lease m spare) = memory_bytes m spare
memory_of (runs make kind state m spare) = memory_bytes m spare
memory_of (has_ended kind memory) = memory

-- the kind of the server at a stage, if there is one
abbrev pub kind_at : View → Option AnyKind
kind_at (runs make kind state m spare) = Some kind
kind_at (has_ended kind memory) = kind
kind_at v = None

-- the run ends: the memory is left
abbrev pub view_at_end : View → View
view_at_end v = has_ended (kind_at v) (memory_of v)

-- a server is put together over the disk
abbrev pub view_with_kind : AnyKind → View → View
view_with_kind kind (awaits_kind make m spare) =
    runs make kind (woken (numbering_of kind) m) m spare
view_with_kind kind (awaits_box make lease m spare) =
    runs make kind (woken (numbering_of kind) m) m spare
view_with_kind kind v = v

-- the lease is known
abbrev pub view_with_lease : Lease → View → View
view_with_lease lease (awaits_kind make m spare) = awaits_box make lease m spare
view_with_lease lease v = v
