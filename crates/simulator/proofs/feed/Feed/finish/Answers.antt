-- The last line is taken, if there is one.
use Rattle.std.proofs.Common.{rules, ◌≡◌, ◌∙◌, List, length, ap, sym, subst}
use Rattle.simulator.specs.Feeds.{TakesRows}
use Rattle.simulator.specs.Takes.{Row, run_of}
use Rattle.simulator.proofs.Feeds.{ends_there, last_row, no_row, takes_none}
use Rattle.simulator.proofs.feed.Feed.finish.Goals as goal

pub returns-in_ok-answer-clause-takes : goal.returns-in_ok-answer-clause-takes
returns-in_ok-answer-clause-takes c line pending =
    let s = c.args.self.now.simulator in
    let some : length c.line.result.now ≡ 0 → ⊥ = search rules in
    let held_is = ap length c.line.ensures.bytes in
    subst (λ (rows : List Row). TakesRows s c.args.print.now.items rows c.answer.new.self.simulator c.answer.new.print.items)
    (last_row (run_of s) c.args.self.now.partial line pending (λ none. some (held_is ∙ none)))
    c.in_ok-answer.ensures.takes

pub returns-else-not-is_empty-clause-takes : goal.returns-else-not-is_empty-clause-takes
returns-else-not-is_empty-clause-takes c line pending =
    let s = c.args.self.now.simulator in
    let none : length c.line.result.now ≡ 0 = search rules in
    subst (λ (rows : List Row). TakesRows s c.args.print.now.items rows s c.args.print.now.items)
    (no_row (run_of s) c.args.self.now.partial line pending (sym (ap length c.line.ensures.bytes) ∙ none))
    (takes_none s c.args.print.now.items)

pub returns-in_ok-answer-clause-reads : goal.returns-in_ok-answer-clause-reads
returns-in_ok-answer-clause-reads c memory bytes printed read =
    ends_there _ _ c.answer.new.self read (returns-in_ok-answer-clause-takes c)

pub returns-else-not-is_empty-clause-reads : goal.returns-else-not-is_empty-clause-reads
returns-else-not-is_empty-clause-reads c memory bytes printed read =
    ends_there _ _ c.args.self.now read (returns-else-not-is_empty-clause-takes c)
