-- Each line of a piece is taken, and the last one held where it has not ended.
use Rattle.std.proofs.Common.{rules, ◌≡◌, ◌∙◌, ◌++◌, ℕ, List, [], ◌∷◌, None, Some, take, refl, sym, ap, subst, append_assoc}
use Rattle.std.specs.declared.ops.ControlFlow.TheVariants.{Continue, Break}
use Rattle.simulator.specs.Feeds.{AnswersHeld, held_row}
use Rattle.simulator.specs.Files.{Flow, rows_of}
use Rattle.simulator.specs.Lines.{line_end, first_bytes, lines_of}
use Rattle.simulator.specs.Takes.{Row, run_of}
use Rattle.simulator.specs.declared.feed.Feed.{Feed}
use Rattle.simulator.proofs.Feeds.{line_goes_on, reads_on, stops_in, run_stops, run_goes_on, still_holds, takes_none, takes_more}
use Rattle.simulator.proofs.feed.Feed.feed.Goals as goal

pub loop-count-init : goal.loop-count-init
loop-count-init c line holds =
    record {
      rows = [];
      takes = takes_none c.args.self.now.simulator c.args.print.now.items;
      unended = line;
      holds = holds;
      splits = λ more. refl;
    }

pub returns-then-is_break-clause-takes : goal.returns-then-is_break-clause-takes
returns-then-is_break-clause-takes c line holds =
    let at = c.loop-count.invariant line holds in
    let rest = c.loop-count.rest.now in
    let f : Feed = record { simulator = c.loop-count.self.simulator; partial = c.fill.new.self } in
    let ends : line_end rest ≡ Some c.in-Some.count = sym c.fill.ensures.end ∙ c.in-Some.is in
    let same = c.fill.ensures.holds ∙ ap (λ (xs : List ℕ). take 22 (xs ++ first_bytes rest)) at.holds in
    let stops : c.in_ok-answer.field-0 ≡ Break tt = search rules in
    let a =
    subst (λ (flow : Flow). AnswersHeld f c.loop-count.print.items flow c.answer.new.self c.answer.new.print.items) stops c.in_ok-answer.ensures in
    record {
      rows = _;
      takes = takes_more at.takes a.takes;
      all =
          λ more.
          at.splits more
          ∙ ap (λ (rows : List Row). at.rows ++ rows)
          (run_stops at.unended rest more c.in-Some.count ends f c.answer.new.self c.loop-count.print.items c.answer.new.print.items same a);
    }

pub loop-count-preserved : goal.loop-count-preserved
loop-count-preserved c line holds =
    let at = c.loop-count.invariant line holds in
    let rest = c.loop-count.rest.now in
    let f : Feed = record { simulator = c.loop-count.self.simulator; partial = c.fill.new.self } in
    let ends : line_end rest ≡ Some c.in-Some.count = sym c.fill.ensures.end ∙ c.in-Some.is in
    let same = c.fill.ensures.holds ∙ ap (λ (xs : List ℕ). take 22 (xs ++ first_bytes rest)) at.holds in
    let row = held_row f in
    let goes : c.in_ok-answer.field-0 ≡ Continue tt = search rules in
    let a =
    subst (λ (flow : Flow). AnswersHeld f c.loop-count.print.items flow c.answer.new.self c.answer.new.print.items) goes c.in_ok-answer.ensures in
    record {
      rows = _;
      takes = takes_more at.takes a.takes;
      unended = [];
      holds = a.empty;
      splits =
          λ more.
          at.splits more
          ∙ ap (λ (rows : List Row). at.rows ++ rows)
          (run_goes_on at.unended rest more c.in-Some.count ends f c.answer.new.self c.loop-count.print.items c.answer.new.print.items same a
          ∙ ap (λ (xs : List ℕ). row ∷ rows_of (lines_of (xs ++ more)) (run_of c.answer.new.self.simulator)) (sym c.after-rest.ensures))
          ∙ sym (append_assoc at.rows (row ∷ []) _);
    }

pub returns-clause-takes : goal.returns-clause-takes
returns-clause-takes c line holds =
    let at = c.loop-count.invariant line holds in
    let rest = c.loop-count.rest.now in
    let none : line_end rest ≡ None = sym c.fill.ensures.end ∙ c.in_default.is in
    record {
      rows = at.rows;
      takes = at.takes;
      unended = at.unended ++ rest;
      holds =
          still_holds c.loop-count.self.partial c.fill.new.self at.unended rest at.holds none c.fill.ensures.holds;
      splits =
          λ more.
          at.splits more
          ∙ ap (λ (lines : List (List ℕ)). at.rows ++ rows_of lines (run_of c.loop-count.self.simulator)) (line_goes_on rest more at.unended none);
    }

pub returns-then-is_break-clause-reads : goal.returns-then-is_break-clause-reads
returns-then-is_break-clause-reads c memory bytes printed read = stops_in _ read _ _ _ (returns-then-is_break-clause-takes c)

pub returns-clause-reads : goal.returns-clause-reads
returns-clause-reads c memory bytes printed read = reads_on _ read _ _ _ (returns-clause-takes c)
