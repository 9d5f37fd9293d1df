-- The bytes of the memory at a stage are those that its view tells.
use Rattle.std.proofs.Common.{◌≡◌, ℕ, zero, suc, ◌+◌, ◌*◌, ◌/◌, List, ◌++◌, length, take, drop, sym, refl, ap, ◌∙◌, append_assoc, arith, take-add}
use Rattle.std.specs.List.{flat_map}
use Rattle.std.proofs.lemmas.List.{take-append-drop}
use Rattle.disk.specs.Memory.{chunks, sectors, spare}
use Rattle.simulator.specs.Devices.{meaning_of}
use Rattle.simulator.specs.Stages.{view, memory_of, memory_bytes, left_memory}
use Rattle.simulator.specs.Takes.{device_bytes, left_bytes, stage_bytes}
use Rattle.simulator.specs.declared.device.Device.{Device}
use Rattle.simulator.specs.declared.device.Device.TheVariants.{Faithful, Torn}
use Rattle.simulator.specs.declared.stage.Left.{Left}
use Rattle.simulator.specs.declared.stage.Left.TheVariants as left
use Rattle.simulator.specs.declared.stage.Stage.{Stage}
use Rattle.simulator.specs.declared.stage.Stage.TheVariants as stage

joined_chunks : (n : ℕ) (xs : List ℕ) → flat_map (λ sector. sector) (chunks n xs) ≡ take (32 * n) xs
unfolding chunks
joined_chunks zero xs = refl
joined_chunks (suc n) xs =
    let k : 32 * suc n ≡ 32 + 32 * n = omega arith in
    rw k (ap (λ (ys : List ℕ). take 32 xs ++ ys) (joined_chunks n (drop 32 xs)) ∙ sym (take-add 32 (32 * n) xs))

whole : (xs rest : List ℕ) → xs ++ rest ≡ flat_map (λ sector. sector) (sectors xs) ++ (spare xs ++ rest)
unfolding sectors spare
whole xs rest =
    let n = length xs / 32 in
    let front : flat_map (λ sector. sector) (chunks n xs) ≡ take (32 * n) xs = joined_chunks n xs in
    sym
    (ap (λ (ys : List ℕ). ys ++ (drop (32 * n) xs ++ rest)) front
    ∙ sym (append_assoc (take (32 * n) xs) (drop (32 * n) xs) rest)
    ∙ ap (λ (ys : List ℕ). ys ++ rest) (take-append-drop (32 * n) xs))

of_device : (d : Device) (rest : List ℕ) → device_bytes d ++ rest ≡ memory_bytes (meaning_of d) rest
of_device (Faithful d) rest = whole d.sectors.memory.now rest
of_device (Torn d) rest = whole d.sectors.memory.now rest

of_left : (l : Left) → left_bytes l ≡ left_memory l
of_left left.Nothing = refl
of_left (left.Memory memory) = refl
of_left (left.Disk disk spare) = of_device disk spare.now
of_left (left.Server server spare) = of_device server.disk spare.now

pub of_stage : (s : Stage) → stage_bytes s ≡ memory_of (view s)
of_stage (stage.Device memory) = refl
of_stage (stage.Kind disk spare) = of_device disk spare.now
of_stage (stage.Box disk spare lease) = of_device disk spare.now
of_stage (stage.Running server spare) = of_device server.disk spare.now
of_stage (stage.Ended left) = of_left left
