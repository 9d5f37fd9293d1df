-- A torn write leaves the old content, the new one, or a blank sector: the proofs of the torn disk's laws. A law's proof has to
-- stand in specs; no contract cites it.
use Rattle.std.proofs.Common.{◌≡◌, ℕ, ◌%◌, ◌<◌, ◌≤◌, Bool, true, false, not, ◌&&◌, ◌≢◌, ◌⊎◌, List, [], length, Some, None, Option, sym, refl, ap, ◌∙◌, subst, inl, inr, ⊎_elim}
use Rattle.std.specs.Str.{bytes_eq}
use Rattle.std.proofs.lemmas.Slice.Eq.{bytes_eq-Decides}
use Rattle.std.proofs.lemmas.List.{length-set, get_or-set_same, get_or-set_other, set-set, set-get_or, set_past, take-append-drop}
use Rattle.std.proofs.lemmas.Bool.{cases_Bool, cases_eq, cases_lt, true≢false}
use Rattle.record.specs.Sector.{sound}
use Rattle.disk.specs.Devices.{before, mixture, mended, torn, left_sectors, latest_write}
use Rattle.disk.specs.Holding.{KeepsOneOf, LawfulHolding}
use Rattle.disk.specs.Meaning.{at, MayBeLeft, Cut}
use Rattle.disk.specs.declared.torn.Held.{Held}

-- a mixture that is not put back: it is not sound, or it is one of the two contents
test_fails :
    (s a b : Bool) → (s && (not a && not b)) ≡ false →
    (s ≡ false) ⊎ ((a ≡ true) ⊎ (b ≡ true))
test_fails false a b e = inl refl
test_fails true true b e = inr (inl refl)
test_fails true false true e = inr (inr refl)
test_fails true false false e = absurd (true≢false e)

-- what is left of a mixture of two contents
module _ (mixed old new : List ℕ) where
  -- the test by which it is put back
  abbrev is_made_up : Bool
  is_made_up = sound mixed && (not (bytes_eq mixed old) && not (bytes_eq mixed new))

  -- where it is not put back
  mended_fails :
      mended mixed old new ≡ mixed →
      (sound mixed ≡ false) ⊎ ((bytes_eq mixed old ≡ true) ⊎ (bytes_eq mixed new ≡ true)) →
      MayBeLeft (mended mixed old new) old new
  mended_fails e (inl blank) = inr (inr (ap sound e ∙ blank))
  mended_fails e (inr (inl same)) = inl (e ∙ (bytes_eq-Decides mixed old).0 same)
  mended_fails e (inr (inr same)) = inr (inl (e ∙ (bytes_eq-Decides mixed new).0 same))

  -- in any case: the old content, the new one, or bytes that are not sound
  pub mended_one_of : MayBeLeft (mended mixed old new) old new
  mended_one_of =
      ⊎_elim (λ e. inl (rw e refl))
      (λ e.
      mended_fails (rw e refl)
      (test_fails (sound mixed) (bytes_eq mixed old) (bytes_eq mixed new) e))
      (cases_Bool is_made_up)

-- equal contents are left as they are
pub torn_equal : (tear : ℕ) (s : List ℕ) → torn tear s s ≡ s
torn_equal tear s =
    let whole = take-append-drop (tear % 33) s in
    ⊎_elim (λ e. rw e refl) (λ e. rw e whole)
    (cases_Bool (is_made_up (mixture (tear % 33) s s) s s))

-- a cut with one write held back
module _ (tear : ℕ) (xs : List (List ℕ)) (h : Held) where
  -- its sector is torn
  left_at :
      h.sector < length xs →
      at (left_sectors tear (Some h) xs) h.sector ≡ torn tear h.old (at xs h.sector)
  left_at l = get_or-set_same xs h.sector _ [] l

  -- before the write its sector had the old content
  before_at : h.sector < length xs → at (before (Some h) xs) h.sector ≡ h.old
  before_at l = get_or-set_same xs h.sector h.old [] l

  -- no other sector changes
  left_other : (k : ℕ) → k ≢ h.sector → at (left_sectors tear (Some h) xs) k ≡ at xs k
  left_other k ne = get_or-set_other xs h.sector k _ [] ne

  -- where there is no such sector, none changes
  left_past : length xs ≤ h.sector → left_sectors tear (Some h) xs ≡ xs
  left_past l = set_past xs h.sector _ l

  -- where a sector lies: not the one that is torn, or that one, or past the end
  spot :
      (k : ℕ) →
      (k ≡ h.sector → ⊥)
      ⊎ (((k ≡ h.sector) × (h.sector < length xs)) ⊎ (length xs ≤ h.sector))
  spot k =
      ⊎_elim (λ e. inr (⊎_elim (λ l. inl (e, l)) inr (cases_lt h.sector (length xs)))) inl
      (cases_eq k h.sector)

  -- past the end, every sector stays
  at_past : (k : ℕ) → length xs ≤ h.sector → at (left_sectors tear (Some h) xs) k ≡ at xs k
  at_past k l = ap (λ (ys : List (List ℕ)). at ys k) (left_past l)

  -- sector k is left as it was kept, as it was read, or not sound
  abbrev OneOf : ℕ → Type 0
  OneOf k = MayBeLeft (at (left_sectors tear (Some h) xs) k) (at (before (Some h) xs) k) (at xs k)

  -- so it is of the sector that is torn
  torn_one_of : h.sector < length xs → OneOf h.sector
  torn_one_of l =
      ⊎_elim (λ e. inl (left_at l ∙ e ∙ sym (before_at l)))
      (⊎_elim (λ e. inr (inl (left_at l ∙ e))) (λ e. inr (inr (ap sound (left_at l) ∙ e))))
      (mended_one_of (mixture (tear % 33) h.old (at xs h.sector)) h.old (at xs h.sector))

  -- and of every sector
  held_one_of : (k : ℕ) → OneOf k
  held_one_of k =
      ⊎_elim (λ ne. inr (inl (left_other k ne)))
      (⊎_elim (λ p. subst OneOf (sym p.0) (torn_one_of p.1)) (λ l. inr (inl (at_past k l))))
      (spot k)

  -- the torn sector stays where its two contents are the same
  torn-settled :
      h.sector < length xs → at (before (Some h) xs) h.sector ≡ at xs h.sector →
      at (left_sectors tear (Some h) xs) h.sector ≡ at xs h.sector
  torn-settled l e =
      left_at l
      ∙ ap (λ (old : List ℕ). torn tear old (at xs h.sector)) (sym (before_at l) ∙ e)
      ∙ torn_equal tear (at xs h.sector)

  -- sector k stays where what is kept of it is what is read
  abbrev Settled : ℕ → Type 0
  Settled k = at (before (Some h) xs) k ≡ at xs k → at (left_sectors tear (Some h) xs) k ≡ at xs k

  -- so it is of every sector
  held-settled : (k : ℕ) → Settled k
  held-settled k =
      ⊎_elim (λ ne e. left_other k ne)
      (⊎_elim (λ p. subst Settled (sym p.0) (torn-settled p.1)) (λ l e. at_past k l))
      (spot k)

-- what is left of a sector is what was kept, what was read, or bytes that are not sound
left_one_of :
    (tear : ℕ) (h : Option Held) (xs : List (List ℕ)) (k : ℕ) →
    MayBeLeft (at (left_sectors tear h xs) k) (at (before h xs) k) (at xs k)
left_one_of tear None xs k = inl refl
left_one_of tear (Some h) xs k = held_one_of tear xs h k

-- one whose two contents were equal stays
left-settled :
    (tear : ℕ) (h : Option Held) (xs : List (List ℕ)) (k : ℕ) →
    at (before h xs) k ≡ at xs k → at (left_sectors tear h xs) k ≡ at xs k
left-settled tear None xs k e = refl
left-settled tear (Some h) xs k e = held-settled tear xs h k e

-- a cut leaves as many sectors
length-left :
    (tear : ℕ) (h : Option Held) (xs : List (List ℕ)) →
    length (left_sectors tear h xs) ≡ length xs
length-left tear None xs = refl
length-left tear (Some h) xs = length-set xs h.sector _

-- that is a cut of a disk
pub cut_by_tear :
    (h : Option Held) (tear was supply : ℕ) (xs : List (List ℕ)) (beyond : List ℕ) →
    Cut (record { reading = xs; kept = before h xs; supply = was; beyond = beyond }) supply
    (let left = left_sectors tear h xs in
    record { reading = left; kept = left; supply = supply; beyond = beyond })
cut_by_tear h tear was supply xs beyond =
    record {
      reads_count = length-left tear h xs;
      reads = left_one_of tear h xs;
      settled = left-settled tear h xs;
      keeps = refl;
      supplied = refl;
      leaves = refl;
    }

-- the sectors before a write are as many
pub before-count : (h : Option Held) (xs : List (List ℕ)) → length (before h xs) ≡ length xs
before-count None xs = refl
before-count (Some h) xs = length-set xs h.sector h.old

-- a write that is held back keeps what was read before it
pub before-write :
    (h : Option Held) (xs : List (List ℕ)) (i : ℕ) (bytes : List ℕ) →
    KeepsOneOf before (λ _ sector old. Some (record { sector = sector; old = old })) h xs i bytes
before-write h xs i bytes k =
    inr
    (inl (ap (λ (ys : List (List ℕ)). at ys k) (set-set xs i bytes (at xs i) ∙ set-get_or xs i [])))

-- the torn disk keeps the laws
pub torn_lawful : LawfulHolding latest_write
torn_lawful =
    record {
      nothing_before = λ xs. refl;
      before_count = before-count;
      before_write = before-write;
      cuts = cut_by_tear;
    }
