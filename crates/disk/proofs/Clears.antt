-- Cleared memory as sectors, none of which holds a record.
use Rattle.std.proofs.Common.{◌≡◌, ℕ, ◌*◌, ◌≤◌, Bool, true, false, List, [], length, is_ok, Ok, Err, Result, sym, refl, ap, ◌∙◌, subst, arith, MatchResult}
use Rattle.std.proofs.lemmas.List.{length-replicate, get_or-replicate}
use Rattle.std.proofs.lemmas.Bool.Decides.{nat_tests}
use Rattle.record.specs.Crc.{crc, register, feed, shifts, shift}
use Rattle.record.specs.Sector.{sound, little}
use Rattle.disk.specs.Meaning.{Meaning}
use Rattle.disk.specs.Memory.{right_size, sectors, spare}
use Rattle.disk.proofs.Meanings.{same_parts}
use Rattle.disk.proofs.Zeros.{bytes, sectors_zero, spare_zero}
use Rattle.disk.specs.Blank.{WithoutRecords, zeros, cleared, BlankDisk}

-- antt computes the checksum of 28 zero bytes
zero_not_sound : sound (bytes 32) ≡ false
unfolding sound little crc register feed shifts shift
zero_not_sound = refl

pub cleared_without : (n supply : ℕ) → 10 ≤ n → n ≤ 2048 → WithoutRecords (cleared n supply)
cleared_without n supply least most =
    record {
      least = omega (arith, size);
      most = omega (arith, size);
      kept = refl;
      blank = λ k l. ap sound (get_or-replicate n k (bytes 32) [] (omega (arith, size))) ∙ zero_not_sound;
    }
  where
    size : length (zeros n) ≡ n
    size = length-replicate n (bytes 32)

-- a disk over cleared memory of the right size is without records
pub blank_disk :
    (size n supply : ℕ) (memory : List ℕ) (m : Meaning) → right_size size n ≡ true → memory ≡ bytes size →
    m.reading ≡ sectors memory → m.kept ≡ sectors memory → m.supply ≡ supply → m.beyond ≡ spare memory →
    BlankDisk n supply memory m
blank_disk size n supply memory m e clear reading kept supplied beyond =
    let fits : size ≡ 32 * n = grind (arith, nat_tests) in
    let least : 10 ≤ n = grind (arith, nat_tests) in
    let most : n ≤ 2048 = grind (arith, nat_tests) in
    let all : memory ≡ bytes (32 * n) = clear ∙ ap bytes fits in
    let cut_up : sectors memory ≡ zeros n = ap sectors all ∙ sectors_zero n in
    let is : m ≡ cleared n supply =
    same_parts _ (zeros n) _ (zeros n) _ supply _ [] (reading ∙ cut_up) (kept ∙ cut_up) supplied (beyond ∙ ap spare all ∙ spare_zero n) in
    record { memory_zero = all; means = is; without = subst WithoutRecords (sym is) (cleared_without n supply least most) }

-- of a result's value and of its error, by the test that it has a value
pub by_test :
    {T E : Type 0} {P P' : T → Type 0} {Q Q' : E → Type 0} (r : Result T E) (b : Bool) → is_ok r ≡ b → MatchResult r P Q →
    ((x : T) → b ≡ true → P x → P' x) → ((e : E) → Q e → Q' e) → MatchResult r P' Q'
by_test (Ok x) b t h f g = f x (sym t) h
by_test (Err e) b t h f g = g e h
