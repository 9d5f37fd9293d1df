-- What a server knows of its disk: while it is up, its ring is what the disk reads, and the blocks in hand end where the ring
-- knows that their series do.
use Rattle.std.specs.Prelude.{◌≡◌}
use Rattle.std.proofs.Props.{props}
use Rattle.std.specs.Coded.{Unit-prop}
use Rattle.disk.specs.Meaning.{Meaning}
use Rattle.kind.specs.Meaning.{Numbering}
use Rattle.ring.specs.Ring.{known_ends, Agrees}
use Rattle.ring.specs.Token.{block_ends}
use Rattle.server.specs.Rules.{format}
use Rattle.server.specs.declared.state.State.{State}
use Rattle.server.specs.declared.state.State.TheVariants.{Up as Awake, Down}
use Rattle.server.specs.declared.state.Up.{Up}

-- each block in hand ends where the ring knows that its series does
abbrev pub KnowsEnds : Up → Type 0
KnowsEnds u = block_ends u.blocks ≡ known_ends u.ring.known

-- a ring of the kind's records knows what the disk reads, and the blocks in hand go on from its ends
pub record Knows (k : Numbering) (u : Up) (m : Meaning) : Type 0 where
  pub agrees : Agrees u.ring m
  pub form : u.ring.format ≡ format k m
  pub ends : KnowsEnds u

-- a server that is up knows its disk; one that is down knows nothing of it
abbrev pub KnowsDisk : Numbering → State → Meaning → Type 0
KnowsDisk k (Awake u) m = Knows k u m
KnowsDisk k (Down fault) m = Unit {0}

-- either is known in one way only, so that it may be a ghost field
pub KnowsDisk-prop : (k : Numbering) (state : State) (m : Meaning) → IsProp (KnowsDisk k state m)
KnowsDisk-prop k (Awake u) m = Prim.hlevel props
KnowsDisk-prop k (Down fault) m = Unit-prop
