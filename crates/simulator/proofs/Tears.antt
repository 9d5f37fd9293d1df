-- The torn disk by its meaning: what it keeps, and what a cut leaves.
use Rattle.std.proofs.Common.{◌≡◌, ℕ, zero, suc, List, [], ◌∷◌, get_or, set, Some, None, Option, sym, refl, ap, ◌∙◌}
use Rattle.disk.specs.Devices.{Stands, stands, torn, before, left_sectors, write_through}
use Rattle.disk.specs.Meaning.{Meaning, at}
use Rattle.disk.specs.Tearing.{torn_equal}
use Rattle.disk.specs.Memory.{sectors}
use Rattle.disk.specs.declared.memory.MemoryDisk.{MemoryDisk}
use Rattle.disk.specs.declared.torn.Held.{Held}
use Rattle.simulator.specs.Devices.{meaning_of, make_of, device_moves, torn_apart, meaning_after_cut}
use Rattle.simulator.specs.declared.device.Device.{Device}
use Rattle.simulator.specs.declared.device.Device.TheVariants.{Faithful, Torn}

-- the write that a torn disk holds back once bytes are written into sector i
abbrev holding : ℕ → List ℕ → Held
holding i memory = record { sector = i; old = at (sectors memory) i }

abbrev TornDisk : Type 0
TornDisk = MemoryDisk (Option Held)

all_same : (tear : ℕ) (reading : List (List ℕ)) → reading ≡ torn_apart tear reading reading
all_same tear [] = refl
all_same tear (x ∷ xs) =
    ap (λ (y : List ℕ). y ∷ xs) (sym (torn_equal tear x)) ∙ ap (λ (ys : List (List ℕ)). torn tear x x ∷ ys) (all_same tear xs)

-- only the sector that is held back differs
one_differs :
    (tear : ℕ) (old : List ℕ) (reading : List (List ℕ)) (i : ℕ) →
    set reading i (torn tear old (get_or reading i [])) ≡ torn_apart tear (set reading i old) reading
one_differs tear old [] i = refl
one_differs tear old (x ∷ xs) zero = ap (λ (ys : List (List ℕ)). torn tear old x ∷ ys) (all_same tear xs)
one_differs tear old (x ∷ xs) (suc i) =
    ap (λ (y : List ℕ). y ∷ set xs i (torn tear old (get_or xs i []))) (sym (torn_equal tear x))
    ∙ ap (λ (ys : List (List ℕ)). torn tear x x ∷ ys) (one_differs tear old xs i)

left_is : (tear : ℕ) (held : Option Held) (reading : List (List ℕ)) → left_sectors tear held reading ≡ torn_apart tear (before held reading) reading
left_is tear None reading = all_same tear reading
left_is tear (Some h) reading = one_differs tear h.old reading h.sector

-- what a disk over memory means, by how it stands
abbrev pub means : {H : Type 0} → (H → List (List ℕ) → List (List ℕ)) → Stands H → Meaning
means before x = record { reading = x.reading; kept = before x.held x.reading; supply = x.supply; beyond = x.beyond }

abbrev all_left : ℕ → List ℕ → List (List ℕ) → Meaning
all_left supply beyond left = record { reading = left; kept = left; supply = supply; beyond = beyond }

-- a cut of either disk, by its own relation: it is the same disk, as the tear leaves it
pub cut_is :
    (d d' : Device) (tear supply : ℕ) → device_moves.cuts d tear supply d' →
    (make_of d' ≡ make_of d) × (meaning_of d' ≡ meaning_after_cut (make_of d) tear supply (meaning_of d))
cut_is (Faithful d) (Faithful d') tear supply e = (refl, ap (means write_through.before) e)
cut_is (Torn d) (Torn d') tear supply e = (
  refl,
  ap (means before) e
      ∙ ap (all_left supply (stands d).beyond) (left_is tear d.held (stands d).reading),
)
cut_is (Faithful d) (Torn d') tear supply e = absurd e
cut_is (Torn d) (Faithful d') tear supply e = absurd e
