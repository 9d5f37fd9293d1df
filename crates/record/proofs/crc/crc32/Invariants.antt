-- The bytes so far have been fed to a register of ones.
use Rattle.std.proofs.Common.{◌≡◌, ◌^◌, ◌<◌}
use Rattle.record.specs.Crc.{register}
use Rattle.record.proofs.crc.crc32.Given as goal

abbrev pub invariant-loop-byte : goal.invariant-loop-byte
invariant-loop-byte l = (l.register ≡ register 0xFFFFFFFF l.yielded) × (l.register < 2 ^ 32)
