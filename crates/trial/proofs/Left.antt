-- A torn write leaves one of the two records, or a blank sector.
use Rattle.std.proofs.Common.{◌≡◌, ℕ, Bool, true, false, T, ◌⊎◌, List, [], refl, ap, ◌∙◌, inl, inr, ⊎_elim, lit<, slice_set}
use Rattle.record.specs.Sector.{sound, content, encoded}
use Rattle.record.specs.declared.sector.Content.TheVariants.{Blank, Record as Holds}
use Rattle.record.proofs.ReadBack.{read_back}
use Rattle.disk.specs.Holding.{Holding, LawfulHolding}
use Rattle.disk.specs.Meaning.{at, Cut}
use Rattle.trial.specs.Trial.{format, older, newer, blank_sectors, sectors_rewritten, write_held, left_on, left_faithful, KeepsNewer, OneOfThree}

reads_older : content format 3 (encoded 1 older) ≡ Holds older
reads_older = read_back 1 older (record { tag_fits = lit< tt; series_fits = lit< tt; sequence_fits = lit< tt; end_fits = lit< tt }) format 3

pub reads_newer : left_faithful ≡ Holds newer
reads_newer = read_back 1 newer (record { tag_fits = lit< tt; series_fits = lit< tt; sequence_fits = lit< tt; end_fits = lit< tt }) format 3

-- bytes that are not sound are blank
blank : (s : List ℕ) → sound s ≡ false → content format 3 s ≡ Blank
unfolding content
blank s e = rw e refl

one_of_bytes : (s : List ℕ) → (s ≡ encoded 1 older) ⊎ ((s ≡ encoded 1 newer) ⊎ (sound s ≡ false)) → OneOfThree (content format 3 s)
one_of_bytes s (inl e) = inl (ap (content format 3) e ∙ reads_older)
one_of_bytes s (inr (inl e)) = inr (inl (ap (content format 3) e ∙ reads_newer))
one_of_bytes s (inr (inr e)) = inr (inr (blank s e))

-- the disk once the older record is flushed
abbrev with_older : List (List ℕ)
with_older = slice_set blank_sectors 3 (encoded 1 older)

-- on any disk over memory, by the laws of what it holds back
module _ {H : Type 0} (w : Holding H) (laws : LawfulHolding w) where
  cut_of :
      (flushed : Bool) (tear : ℕ) →
      Cut (record { reading = sectors_rewritten; kept = w.before (write_held w flushed) sectors_rewritten; supply = 0; beyond = [] }) 0
      (let left = w.left_sectors tear (write_held w flushed) sectors_rewritten in
      record { reading = left; kept = left; supply = 0; beyond = [] })
  cut_of flushed tear = laws.cuts (write_held w flushed) tear 0 0 sectors_rewritten []

  kept_is :
      (flushed : Bool) →
      let kept = at (w.before (write_held w flushed) sectors_rewritten) 3 in
      (kept ≡ encoded 1 older) ⊎ (kept ≡ encoded 1 newer)
  kept_is true = inr (ap (λ (ys : List (List ℕ)). at ys 3) (laws.nothing_before sectors_rewritten))
  kept_is false =
      ⊎_elim (λ e. inl (e ∙ ap (λ (ys : List (List ℕ)). at ys 3) (laws.nothing_before with_older))) (⊎_elim inl inr)
      (laws.before_write w.nothing with_older 3 (encoded 1 newer) 3)

  pub one_of_three : (flushed : Bool) (tear : ℕ) → OneOfThree (left_on w flushed tear)
  one_of_three flushed tear =
      one_of_bytes _
      (⊎_elim (λ e. ⊎_elim (λ k. inl (e ∙ k)) (λ k. inr (inl (e ∙ k))) (kept_is flushed)) inr ((cut_of flushed tear).reads 3))

  pub newer_stays : (flushed : Bool) (tear : ℕ) → KeepsNewer w flushed → left_on w flushed tear ≡ Holds newer
  newer_stays flushed tear kept = ap (content format 3) ((cut_of flushed tear).settled 3 kept) ∙ reads_newer

  pub settled : (flushed : Bool) (tear : ℕ) → T flushed → left_on w flushed tear ≡ Holds newer
  settled true tear t = newer_stays true tear (ap (λ (ys : List (List ℕ)). at ys 3) (laws.nothing_before sectors_rewritten))
  settled false tear t = absurd t
