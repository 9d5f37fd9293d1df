-- The line that is held is one that is taken.
use Rattle.std.proofs.Common.{◌∙◌, ap, List, ℕ}
use Rattle.simulator.specs.Files.{flow_after}
use Rattle.simulator.specs.Takes.{run_of, Taken, row_of}
use Rattle.simulator.proofs.Feeds.{takes_one}
use Rattle.simulator.proofs.feed.Feed.answer.Goals as goal

pub returns : goal.returns
returns c =
    let s = c.args.self.now.simulator in
    let line = c.line.result.now in
    let took = c.take-answer.ensures.takes in
    let one = takes_one s c.take-answer.new.self line c.args.print.now.items c.take-answer.new.print c.take-answer.result took c.take-answer.ensures.serves in
    record {
      takes = rw c.in_ok-extend_from_slice.ensures.items (rw c.line.ensures.bytes at one);
      flows =
          c.flow_after.ensures
          ∙ ap (λ (t : Taken). flow_after t.answer) took
          ∙ ap (λ (xs : List ℕ). flow_after (row_of (run_of s) xs).done.answer) c.line.ensures.bytes;
      empty = c.new-self.ensures;
    }
