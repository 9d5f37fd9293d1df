-- A record's bytes as the encoder puts them together.
use Rattle.std.proofs.Common.{◌≡◌, ℕ, ◌/◌, ◌%◌, List, [], ◌∷◌, ◌++◌, replicate, refl}
use borrow.Rule.Slice.PartMut.{put_mid, mid_of}
use Rattle.std.proofs.lemmas.Nat.{shr-shr}
use Rattle.record.specs.Sector.{bytes_of}

-- the bytes that the library's `to_le_bytes` has
pub bytes_4 : (n : ℕ) → n % 256 ∷ n / 256 % 256 ∷ n / 65536 % 256 ∷ n / 16777216 % 256 ∷ [] ≡ bytes_of 4 n
unfolding bytes_of
bytes_4 n =
    let a : n / 256 / 256 ≡ n / 65536 = shr-shr n 8 8 in
    let b : n / 65536 / 256 ≡ n / 16777216 = shr-shr n 16 8 in
    cc

pub bytes_8 :
    (n : ℕ) →
    n % 256
    ∷ n / 256 % 256
    ∷ n / 65536 % 256
    ∷ n / 16777216 % 256
    ∷ n / 4294967296 % 256
    ∷ n / 1099511627776 % 256
    ∷ n / 281474976710656 % 256
    ∷ n / 72057594037927936 % 256
    ∷ []
    ≡ bytes_of 8 n
unfolding bytes_of
bytes_8 n =
    let a : n / 256 / 256 ≡ n / 65536 = shr-shr n 8 8 in
    let b : n / 65536 / 256 ≡ n / 16777216 = shr-shr n 16 8 in
    let d : n / 16777216 / 256 ≡ n / 4294967296 = shr-shr n 24 8 in
    let e : n / 4294967296 / 256 ≡ n / 1099511627776 = shr-shr n 32 8 in
    let f : n / 1099511627776 / 256 ≡ n / 281474976710656 = shr-shr n 40 8 in
    let g : n / 281474976710656 / 256 ≡ n / 72057594037927936 = shr-shr n 48 8 in
    cc

module _ (tag series x y : ℕ) (a b : List ℕ) (p : a ≡ bytes_of 8 x) (q : b ≡ bytes_of 8 y) where
  pub front :
      mid_of 0 28 (put_mid 12 8 (put_mid 4 8 (tag ∷ series ∷ replicate 30 0) a) b)
      ≡ tag ∷ series ∷ 0 ∷ 0 ∷ (bytes_of 8 x ++ (bytes_of 8 y ++ replicate 8 0))
  unfolding bytes_of
  front = rw (p, q) refl

  pub whole :
      (z : ℕ) (d : List ℕ) → d ≡ bytes_of 4 z →
      put_mid 28 4 (put_mid 12 8 (put_mid 4 8 (tag ∷ series ∷ replicate 30 0) a) b) d
      ≡ (tag ∷ series ∷ 0 ∷ 0 ∷ (bytes_of 8 x ++ (bytes_of 8 y ++ replicate 8 0))) ++ bytes_of 4 z
  unfolding bytes_of
  whole z d e = rw (p, q, e) refl
