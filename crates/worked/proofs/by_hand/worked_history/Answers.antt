-- The promise's premises, each from its own lemma.
use Rattle.std.proofs.Common.{lit≤}
use Rattle.disk.proofs.Clears.{cleared_without}
use Rattle.worked.proofs.Reaches.{lawful, torn_inside, reached}
use Rattle.worked.proofs.by_hand.worked_history.Goals as goal

pub returns : goal.returns
returns c =
    record {
      lawful = lawful;
      without = cleared_without 10 3 (lit≤ tt) (lit≤ tt);
      reached = reached;
      torn = torn_inside;
      given = c.last_given.ensures;
    }
