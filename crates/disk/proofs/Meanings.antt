-- Meanings of a disk, by their parts.
use Rattle.std.proofs.Common.{◌≡◌, ℕ, List, sym, ap, ◌∙◌, subst}
use Rattle.disk.specs.Devices.{memory_disk}
use Rattle.disk.specs.Holding.{Holding, LawfulHolding}
use Rattle.disk.specs.Meaning.{Meaning, Cut}
use Rattle.disk.specs.Memory.{sectors, spare}
use Rattle.disk.specs.declared.memory.MemoryDisk.{MemoryDisk}

-- two meanings with the same parts are the same
pub same_parts :
    (reading reading' kept kept' : List (List ℕ)) (supply supply' : ℕ) (beyond beyond' : List ℕ) →
    reading ≡ reading' → kept ≡ kept' → supply ≡ supply' → beyond ≡ beyond' →
    ◌≡◌ {A = Meaning} (record { reading = reading; kept = kept; supply = supply; beyond = beyond })
    (record { reading = reading'; kept = kept'; supply = supply'; beyond = beyond' })
same_parts reading reading' kept kept' supply supply' beyond beyond' r k s b = rw (r, k, s, b)

-- where nothing is held back, what is read is kept
pub all_kept : {H : Type 0} (w : Holding H) → LawfulHolding w → (h : H) (xs : List (List ℕ)) → h ≡ w.nothing → w.before h xs ≡ xs
all_kept w laws h xs none = ap (λ held. w.before held xs) none ∙ laws.nothing_before xs

-- what a disk is left as by a cut
module _ {H : Type 0} (w : Holding H) (laws : LawfulHolding w) (d d' : MemoryDisk H) (tear supply : ℕ) where
  abbrev memory : List ℕ
  memory = d.sectors.memory.now

  abbrev memory' : List ℕ
  memory' = d'.sectors.memory.now

  pub is_cut :
      sectors memory' ≡ w.left_sectors tear d.held (sectors memory) → spare memory' ≡ spare memory → d'.held ≡ w.nothing → d'.supply ≡ supply →
      Cut (memory_disk w.before d) supply (memory_disk w.before d')
  is_cut left rest none supplied =
      subst (λ (m : Meaning). Cut (memory_disk w.before d) supply m)
      (sym (same_parts _ _ _ _ _ _ _ _ left (all_kept w laws d'.held (sectors memory') none ∙ left) supplied rest))
      (laws.cuts d.held tear d.supply supply (sectors memory) (spare memory))
