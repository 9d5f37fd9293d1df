-- A flat memory and its sectors: how many there are, what each holds, and what a store changes.
use Rattle.std.proofs.Common.{◌≡◌, ℕ, zero, suc, ◌+◌, ◌-◌, ◌*◌, ◌/◌, ◌<◌, ◌≤◌, true, List, [], ◌++◌, length, get_or, take, drop, set}
use Rattle.std.proofs.Common.{sym, refl, ap, ◌∙◌, append_assoc, arith, take-add}
use borrow.Rule.Slice.PartMut.{put_mid}
use Rattle.std.proofs.lemmas.List.{length-append, length-take, length-drop, drop-drop, take_at, drop_at, drop_all, take_rest, append-nil}
use Rattle.std.proofs.lemmas.Bool.Decides.{nat_tests}
use Rattle.disk.specs.Memory.{right_size, chunks, sectors, spare, stored}
use Rattle.disk.specs.Shape.{length-sectors}

pub at-chunks : (n i : ℕ) (xs : List ℕ) → i < n → get_or (chunks n xs) i [] ≡ take 32 (drop (32 * i) xs)
unfolding chunks
at-chunks zero i xs h = absurd (omega arith)
at-chunks (suc n) zero xs h = refl
at-chunks (suc n) (suc i) xs h =
    at-chunks n i (drop 32 xs) (omega arith)
    ∙ ap (take 32) (drop-drop (32 * i) 32 xs ∙ ap (λ (k : ℕ). drop k xs) (omega arith))

-- a store shortens or lengthens nothing
pub length-stored :
    (xs : List ℕ) (i : ℕ) (bytes : List ℕ) → length bytes ≡ 32 → 32 * i + 32 ≤ length xs → length (stored xs i bytes) ≡ length xs
unfolding stored
length-stored xs i bytes h fits = simp (length-append, length-take, length-drop) (omega arith)

stored-first : (xs bytes : List ℕ) → length bytes ≡ 32 → take 32 (stored xs 0 bytes) ≡ bytes
unfolding stored
stored-first xs bytes b = take_at bytes (drop 32 xs) 32 b

stored_rest : (xs bytes : List ℕ) → length bytes ≡ 32 → drop 32 (stored xs 0 bytes) ≡ drop 32 xs
unfolding stored
stored_rest xs bytes b = drop_at bytes (drop 32 xs) 32 b

-- a store one sector further on is a store into what follows the first
stored_more : (xs : List ℕ) (i : ℕ) (bytes : List ℕ) → stored xs (suc i) bytes ≡ take 32 xs ++ stored (drop 32 xs) i bytes
unfolding stored
stored_more xs i bytes =
    let front : take (32 * suc i) xs ≡ take 32 xs ++ take (32 * i) (drop 32 xs) =
    ap (λ (k : ℕ). take k xs) (omega arith) ∙ take-add 32 (32 * i) xs in
    let back : drop (32 * suc i + 32) xs ≡ drop (32 * i + 32) (drop 32 xs) =
    sym (drop-drop (32 * i + 32) 32 xs ∙ ap (λ (k : ℕ). drop k xs) (omega arith)) in
    rw (front, back) (append_assoc (take 32 xs) (take (32 * i) (drop 32 xs)) _)

pub chunks-stored :
    (n i : ℕ) (xs bytes : List ℕ) → i < n → length bytes ≡ 32 → 32 * n ≤ length xs →
    chunks n (stored xs i bytes) ≡ set (chunks n xs) i bytes
unfolding chunks
chunks-stored zero i xs bytes h b fits = absurd (omega arith)
chunks-stored (suc n) zero xs bytes h b fits =
    let first : take 32 (stored xs 0 bytes) ≡ bytes = stored-first xs bytes b in
    let rest : drop 32 (stored xs 0 bytes) ≡ drop 32 xs = stored_rest xs bytes b in
    rw (first, rest) refl
chunks-stored (suc n) (suc i) xs bytes h b fits =
    let whole : length (take 32 xs) ≡ 32 = simp length-take (omega arith) in
    let first : take 32 (stored xs (suc i) bytes) ≡ take 32 xs =
    ap (take 32) (stored_more xs i bytes) ∙ take_at (take 32 xs) (stored (drop 32 xs) i bytes) 32 whole in
    let rest : drop 32 (stored xs (suc i) bytes) ≡ stored (drop 32 xs) i bytes =
    ap (drop 32) (stored_more xs i bytes) ∙ drop_at (take 32 xs) (stored (drop 32 xs) i bytes) 32 whole in
    let fits' : 32 * n ≤ length (drop 32 xs) = simp length-drop (omega arith) in
    let tail = chunks-stored n i (drop 32 xs) bytes (omega arith) b fits' in
    rw (first, rest, tail) refl

-- of a memory that has the sector
module _ (xs bytes : List ℕ) (i : ℕ) (h : i < length xs / 32) (b : length bytes ≡ 32) where
  pub sectors-stored : sectors (stored xs i bytes) ≡ set (sectors xs) i bytes
  unfolding sectors
  sectors-stored =
      ap (λ (n : ℕ). chunks (n / 32) (stored xs i bytes)) (length-stored xs i bytes b (omega arith))
      ∙ chunks-stored (length xs / 32) i xs bytes h b (omega arith)

  -- past the sector nothing changes
  drop-stored : (k : ℕ) → 32 * i + 32 ≤ k → drop k (stored xs i bytes) ≡ drop k xs
  unfolding stored
  drop-stored k past =
      let front : length (take (32 * i) xs ++ bytes) ≡ 32 * i + 32 = simp (length-append, length-take) (omega arith) in
      let n : ℕ = k - (32 * i + 32) in
      ap (λ (j : ℕ). drop j (stored xs i bytes)) (omega arith)
      ∙ sym (drop-drop n (32 * i + 32) (stored xs i bytes))
      ∙ ap (drop n)
      (ap (drop (32 * i + 32)) (sym (append_assoc (take (32 * i) xs) bytes (drop (32 * i + 32) xs)))
      ∙ drop_at (take (32 * i) xs ++ bytes) (drop (32 * i + 32) xs) (32 * i + 32) front)
      ∙ drop-drop n (32 * i + 32) xs
      ∙ ap (λ (j : ℕ). drop j xs) (omega arith)

  pub spare-stored : spare (stored xs i bytes) ≡ spare xs
  unfolding spare
  spare-stored =
      ap (λ (n : ℕ). drop (32 * (n / 32)) (stored xs i bytes)) (length-stored xs i bytes b (omega arith))
      ∙ drop-stored (32 * (length xs / 32)) (omega arith)

-- what is loaded is the sector
pub loaded : (xs : List ℕ) (i n : ℕ) → n ≡ 32 → i < length xs / 32 → take n (drop (32 * i) xs) ≡ get_or (sectors xs) i []
unfolding sectors
loaded xs i n e h = ap (λ (k : ℕ). take k (drop (32 * i) xs)) e ∙ sym (at-chunks (length xs / 32) i xs h)

-- what is written over the part of the memory from the sector on
pub put_is :
    (xs bytes part : List ℕ) (i : ℕ) → i < length xs / 32 →
    part ≡ bytes ++ drop 32 (take (length xs - 32 * i) (drop (32 * i) xs)) →
    put_mid (32 * i) (length xs - 32 * i) xs part ≡ stored xs i bytes
unfolding stored
put_is xs bytes part i h e =
    let none : drop (length xs - 32 * i) (drop (32 * i) xs) ≡ [] = drop_all _ (drop (32 * i) xs) (simp length-drop (omega arith)) in
    let rest : drop 32 (take (length xs - 32 * i) (drop (32 * i) xs)) ≡ drop (32 * i + 32) xs =
    ap (drop 32) (take_rest xs (32 * i)) ∙ drop-drop 32 (32 * i) xs in
    rw (e, none, rest, append-nil (bytes ++ drop (32 * i + 32) xs)) refl

-- a memory of the right size has so many sectors
pub right_count : (xs : List ℕ) (n : ℕ) → right_size (length xs) n ≡ true → length (sectors xs) ≡ n
right_count xs n e = length-sectors xs ∙ (let fits : length xs ≡ 32 * n = grind (arith, nat_tests) in omega arith)
