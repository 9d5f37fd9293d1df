-- A file is the last piece of a run that begins.
use Rattle.std.proofs.Common.{◌++◌, ◌∙◌, List, [], ℕ, ap}
use Rattle.std.proofs.lemmas.Result.{on_ok_weaker}
use Rattle.simulator.proofs.Bytes.{of_stage}
use Rattle.simulator.proofs.file.print_file.Goals as goal

pub returns-clause-prints : goal.returns-clause-prints
returns-clause-prints c =
    on_ok_weaker c.feed_last-printed.result
    (λ last.
    let all = last c.args.memory.now [] [] c.new-feed.ensures.reads in
    all.1 ∙ ap (λ (xs : List ℕ). c.args.print.now.items ++ xs) all.2.prints)
    c.feed_last-printed.ensures

pub returns-clause-comes_to : goal.returns-clause-comes_to
returns-clause-comes_to c =
    rw c.into_simulator.ensures
    (on_ok_weaker c.feed_last-printed.result
    (λ last. (last c.args.memory.now [] [] c.new-feed.ensures.reads).2.run)
    c.feed_last-printed.ensures)

pub returns-clause-serves : goal.returns-clause-serves
returns-clause-serves c =
    rw c.into_simulator.ensures
    (on_ok_weaker c.feed_last-printed.result
    (λ last. (last c.args.memory.now [] [] c.new-feed.ensures.reads).2.served)
    c.feed_last-printed.ensures)

pub returns-clause-memory : goal.returns-clause-memory
returns-clause-memory c = of_stage c.into_simulator.result.stage
