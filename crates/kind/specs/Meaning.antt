-- What a kind of identifier tells, and the laws of that.
use Rattle.std.specs.Prelude.{ℕ, ◌^◌, ◌<◌, ◌≤◌, Option}
use Rattle.record.specs.declared.numbers.Identifier.{Identifier}
use Rattle.record.specs.declared.numbers.Rank.{Rank}
use Rattle.record.specs.declared.numbers.Reading.{Reading}

-- what a kind of identifier tells
pub record Numbering : Type 0 where
  -- the number by which a record names its kind
  pub tag : ℕ
  -- the highest rank that has an identifier
  pub top : Rank
  -- how many ranks a reservation takes
  pub block : ℕ
  -- from which rank on a reading lets identifiers be given; none where the reading is not lawful
  pub floor : Reading → Option Rank
  -- the identifier of a rank in a series
  pub identifier : ℕ → Rank → Identifier

-- what is asked of a kind: the laws of its trait
pub record LawfulKind (k : Numbering) : Type 0 where
  -- the tag is a byte
  pub tags : k.tag < 2 ^ 8
  -- the top is below 2^53
  pub tops : k.top.0 < 2 ^ 53
  -- a block has at least one rank
  pub least : 1 ≤ k.block
  -- and at most 2^28
  pub most : k.block ≤ 2 ^ 28
  -- in each of the series 0 to 7 identifiers rise with the rank, as far as the top
  pub rising :
      (s : ℕ) (a b : Rank) →
      s < 8 → a.0 < b.0 → b.0 ≤ k.top.0 → (k.identifier s a).0 < (k.identifier s b).0
