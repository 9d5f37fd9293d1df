-- A record written and read back gives the same fields.
use Rattle.std.proofs.Common.{◌≡◌, ℕ, zero, suc, ◌/◌, ◌^◌, ◌<◌, true, replicate, sym, refl, ap, ◌∙◌, arith, lit<}
use Rattle.std.specs.List.{AllByRecursion}
use Rattle.std.proofs.ByRecursion.{All-append}
use Rattle.std.proofs.lemmas.Bool.{eq-eqb}
use Rattle.record.specs.Crc.{crc}
use Rattle.record.specs.Sector.{little, bytes_of, all_zero, sound, Parts, parts, content, body, encoded, ReadsBack}
use Rattle.record.specs.declared.sector.Record.{Record}
use Rattle.record.proofs.Little.{little_bytes}
use Rattle.record.proofs.Register.{crc_lt}

bytes_of_fit : (k n : ℕ) → AllByRecursion (λ b. b < 256) (bytes_of k n)
unfolding bytes_of
bytes_of_fit zero n = tt
bytes_of_fit (suc k) n = (omega arith, bytes_of_fit k (n / 256))

zeros_fit : AllByRecursion (λ b. b < 256) (replicate 8 0)
zeros_fit =
    (lit< tt, (lit< tt, (lit< tt, (lit< tt, (lit< tt, (lit< tt, (lit< tt, (lit< tt, tt))))))))

abbrev built : ℕ → ℕ → ℕ → ℕ → Parts
built tag series x y =
    record {
      tag = tag;
      zeroed = true;
      «record» = record { series = series; sequence = record { 0 = x }; end = record { 0 = y } };
    }

-- the tag and the fields are in the ranges of their types
pub record Fit (tag : ℕ) (r : Record) : Type 0 where
  pub tag_fits : tag < 256
  pub series_fits : r.series < 256
  pub sequence_fits : r.sequence.0 < 2 ^ 64
  pub end_fits : r.end.0 < 2 ^ 64

module _ (tag : ℕ) (r : Record) (fit : Fit tag r) where
  body_fits : AllByRecursion (λ b. b < 256) (body tag r)
  unfolding body
  body_fits =
      let numbers =
      All-append _ (bytes_of 8 r.sequence.0) _ (bytes_of_fit 8 r.sequence.0)
      (All-append _ (bytes_of 8 r.end.0) (replicate 8 0) (bytes_of_fit 8 r.end.0) zeros_fit) in
      (fit.tag_fits, (fit.series_fits, (lit< tt, (lit< tt, numbers))))

  encoded-sound : sound (encoded tag r) ≡ true
  unfolding sound encoded body bytes_of
  encoded-sound = eq-eqb (crc (body tag r)) _ (sym (little_bytes 4 (crc (body tag r)) (crc_lt (body tag r) body_fits)))

  encoded-parts : parts (encoded tag r) ≡ built tag r.series r.sequence.0 r.end.0
  unfolding parts encoded body bytes_of all_zero
  encoded-parts =
      ap (λ (x : ℕ). built tag r.series x (little (bytes_of 8 r.end.0))) (little_bytes 8 r.sequence.0 fit.sequence_fits)
      ∙ ap (λ (y : ℕ). built tag r.series r.sequence.0 y) (little_bytes 8 r.end.0 fit.end_fits)

  pub read_back : ReadsBack tag r (encoded tag r)
  unfolding content
  read_back f i = rw (encoded-sound, encoded-parts) refl
