-- Lines that come in pieces.
use Rattle.std.proofs.Common.{◌≡◌, ℕ, suc, ◌<◌, ◌≤◌, Bool, true, false, cond, eqb, leb, List, [], ◌∷◌, ◌++◌, length}
use Rattle.std.proofs.Common.{replicate, take, drop, Some, None, Option, Result, sym, refl, ap, ◌∙◌, subst, append_assoc, arith, option_map, ⊎_elim}
use Rattle.std.proofs.lemmas.Bool.{cases_lt}
use Rattle.std.proofs.lemmas.Grind.{flat_map-append}
use Rattle.std.proofs.lemmas.List.{append-nil, take_all, take-take, take-append-le, length-take-le}
use Rattle.std.proofs.lemmas.List.Elements.{filter_map-append}
use Rattle.std.proofs.lemmas.Option.{none-some}
use Rattle.std.specs.List.{cons_option, filter_map, flat_map}
use Rattle.std.specs.declared.ops.ControlFlow.TheVariants.{Continue, Break}
use Rattle.history.specs.declared.calls.Call.{Call}
use Rattle.history.specs.declared.calls.Turn.{Turn}
use Rattle.simulator.specs.Calls.{call_by, turn_in, added, Extends}
use Rattle.simulator.specs.Feeds.{HoldsStart, IsBegun, TakesRows, held_row, AnswersHeld, ReadsOn, StopsRun, Ends}
use Rattle.simulator.specs.Feeds.{HasTaken, HasPrinted, HasRead, Gains, PrintsPiece, PrintsToStop, PrintsToEnd}
use Rattle.simulator.specs.Files.{Flow, flow_after, unless_broken, rows_after, rows_of, last_run, first_run}
use Rattle.simulator.specs.Histories.{RunServed}
use Rattle.simulator.specs.Lines.{line_end, up_to, first_bytes, ended_if, lines_from, lines_of, held_bytes}
use Rattle.simulator.specs.Request.{command_in, fields_in}
use Rattle.simulator.specs.Stages.{View}
use Rattle.simulator.specs.Steps.{Done, denial_done, command_done, step_of}
use Rattle.simulator.specs.Takes.{Run, run_of, Row, row_of, run_after, print_of, turn_of, Taken, taken_by, counted, ended_by}
use Rattle.simulator.specs.declared.answer.Answer.{Answer}
use Rattle.simulator.specs.declared.answer.Denial.{Denial}
use Rattle.simulator.specs.declared.answer.Denial.TheVariants.{TooMany}
use Rattle.simulator.specs.declared.feed.Feed.{Feed}
use Rattle.simulator.specs.declared.partial.Partial.{Partial}
use Rattle.simulator.specs.declared.simulator.Simulator.{Simulator}
use Rattle.simulator.proofs.Enough.{tells_as_much}

-- a line does what its first 22 bytes do
same_step : (v : View) (line : List ℕ) → step_of v (take 22 line) ≡ step_of v line
same_step v line =
    ap (λ c. command_done v c (λ command. fields_in command (take 22 line))) (tells_as_much.command line)
    ∙ ap (command_done v (command_in line)) (λ i command. tells_as_much.fields command line i)

same_row : (run : Run) (line : List ℕ) → row_of run (take 22 line) ≡ row_of run line
same_row run line =
    let call =
    ap (λ c. call_by c (λ command. fields_in command (take 22 line))) (tells_as_much.command line)
    ∙ ap (call_by (command_in line)) (λ i command. tells_as_much.fields command line i) in
    let done =
    ap (λ (d : Done). ended_by (cond (leb (counted run.taken) 999999) d (denial_done TooMany run.view))) (same_step run.view line) in
    same_parts (counted run.taken) call done
  where
    same_parts :
        (number : ℕ) {call call' : Option Call} {done done' : Done} → call ≡ call' → done ≡ done' →
        ◌≡◌ {A = Row} (record { number = number; call = call; done = done }) (record { number = number; call = call'; done = done' })
    same_parts number c d = rw (c, d)

some_same : (x y : ℕ) → ◌≡◌ {A = Option ℕ} (Some x) (Some y) → x ≡ y
some_same x y e = cc

-- a line that has begun ends with the first line feed that comes
pub line_ends :
    (bytes more line : List ℕ) (n : ℕ) → line_end bytes ≡ Some n →
    lines_from (bytes ++ more) line ≡ (line ++ take n bytes) ∷ lines_from (drop n bytes ++ more) []
unfolding lines_from
line_ends [] more line n e = absurd (none-some n e)
line_ends (b ∷ bytes) more line n e =
    by_byte (eqb b 10) (line_end bytes) (λ m is. line_ends bytes more (line ++ (b ∷ [])) m is) e
  where
    by_byte :
        (found : Bool) (end : Option ℕ) →
        ((m : ℕ) → end ≡ Some m →
        lines_from (bytes ++ more) (line ++ (b ∷ [])) ≡ ((line ++ (b ∷ [])) ++ take m bytes) ∷ lines_from (drop m bytes ++ more) []) →
        cond found (Some 1) (option_map suc end) ≡ Some n →
        ended_if found (line ++ (b ∷ [])) (lines_from (bytes ++ more))
        ≡ (line ++ take n (b ∷ bytes)) ∷ lines_from (drop n (b ∷ bytes) ++ more) []
    by_byte true end later e = rw (← some_same 1 n e) refl
    by_byte false None later e = absurd (none-some n e)
    by_byte false (Some m) later e =
        rw (← some_same (suc m) n e)
        (later m refl
        ∙ ap (λ (xs : List ℕ). xs ∷ lines_from (drop m bytes ++ more) []) (append_assoc line (b ∷ []) (take m bytes)))

-- without one it goes on
pub line_goes_on :
    (bytes more line : List ℕ) → line_end bytes ≡ None → lines_from (bytes ++ more) line ≡ lines_from more (line ++ bytes)
unfolding lines_from
line_goes_on [] more line e = ap (lines_from more) (sym (append-nil line))
line_goes_on (b ∷ bytes) more line e =
    by_byte (eqb b 10) (line_end bytes) (λ is. line_goes_on bytes more (line ++ (b ∷ [])) is) e
  where
    by_byte :
        (found : Bool) (end : Option ℕ) →
        (end ≡ None → lines_from (bytes ++ more) (line ++ (b ∷ [])) ≡ lines_from more ((line ++ (b ∷ [])) ++ bytes)) →
        cond found (Some 1) (option_map suc end) ≡ None →
        ended_if found (line ++ (b ∷ [])) (lines_from (bytes ++ more)) ≡ lines_from more (line ++ (b ∷ bytes))
    by_byte true end later e = absurd (none-some 1 (sym e))
    by_byte false None later e = later refl ∙ ap (lines_from more) (append_assoc line (b ∷ []) bytes)
    by_byte false (Some m) later e = absurd (none-some (suc m) (sym e))

-- the held bytes of a line go on as the line does
held_on : (line bytes : List ℕ) → take 22 (take 22 line ++ bytes) ≡ take 22 (line ++ bytes)
held_on line bytes =
    ⊎_elim
    (λ (short : length line < 22). ap (λ (xs : List ℕ). take 22 (xs ++ bytes)) (take_all 22 line (omega arith)))
    (λ (long : 22 ≤ length line).
    take-append-le 22 (take 22 line) bytes (omega (arith, length-take-le 22 line long))
    ∙ take-take 22 22 line (omega arith)
    ∙ sym (take-append-le 22 line bytes long))
    (cases_lt (length line) 22)

-- a line whose end came with some bytes, and was taken
module _ (line rest more : List ℕ) (n : ℕ) (ends : line_end rest ≡ Some n) where
  abbrev pub next : Run → List Row
  next = rows_of (lines_of (drop n rest ++ more))

  tells_line :
      (run : Run) (held_bytes : List ℕ) → held_bytes ≡ take 22 (take 22 line ++ first_bytes rest) →
      rows_of (lines_from (rest ++ more) line) run ≡ row_of run held_bytes ∷ rows_after next (row_of run held_bytes)
  unfolding rows_of
  tells_line run held_bytes same =
      let whole = line ++ take n rest in
      let row_is : row_of run whole ≡ row_of run held_bytes =
      sym (same_row run whole)
      ∙ ap (row_of run)
      (sym (held_on line (take n rest))
      ∙ ap (λ (o : Option ℕ). take 22 (take 22 line ++ up_to rest o)) (sym ends)
      ∙ sym same) in
      ap (λ (lines : List (List ℕ)). rows_of lines run) (line_ends rest more line n ends)
      ∙ ap (λ (row : Row). row ∷ rows_after next row) row_is

  module _ (f f' : Feed) (print print' : List ℕ) (same : held_bytes f.partial ≡ take 22 (take 22 line ++ first_bytes rest)) where
    by_flow :
        (flow : Flow) → AnswersHeld f print flow f' print' →
        rows_of (lines_from (rest ++ more) line) (run_of f.simulator) ≡ held_row f ∷ unless_broken next (held_row f) flow
    by_flow flow a =
        tells_line (run_of f.simulator) (held_bytes f.partial) same
        ∙ ap (λ (x : Flow). held_row f ∷ unless_broken next (held_row f) x) (sym a.flows)

    pub run_goes_on :
        AnswersHeld f print (Continue tt) f' print' →
        rows_of (lines_from (rest ++ more) line) (run_of f.simulator) ≡ held_row f ∷ next (run_of f'.simulator)
    run_goes_on a = by_flow (Continue tt) a ∙ ap (λ (r : Run). held_row f ∷ next r) (sym a.takes.run)

    pub run_stops :
        AnswersHeld f print (Break tt) f' print' →
        rows_of (lines_from (rest ++ more) line) (run_of f.simulator) ≡ held_row f ∷ []
    run_stops a = by_flow (Break tt) a

-- bytes without a line feed are held
pub still_holds :
    (partial partial' : Partial) (line rest : List ℕ) → HoldsStart partial line → line_end rest ≡ None →
    held_bytes partial' ≡ take 22 (held_bytes partial ++ first_bytes rest) → HoldsStart partial' (line ++ rest)
still_holds partial partial' line rest holds none filled =
    filled
    ∙ ap (λ (xs : List ℕ). take 22 (xs ++ first_bytes rest)) holds
    ∙ ap (λ (o : Option ℕ). take 22 (take 22 line ++ up_to rest o)) none
    ∙ held_on line rest

-- the last line
nothing_follows : (row : Row) (flow : Flow) → unless_broken (rows_of []) row flow ≡ []
unfolding rows_of
nothing_follows row (Break done) = refl
nothing_follows row (Continue done) = refl

pub last_row :
    (run : Run) (partial : Partial) (line : List ℕ) → HoldsStart partial line → (length (held_bytes partial) ≡ 0 → ⊥) →
    row_of run (held_bytes partial) ∷ [] ≡ rows_of (lines_from [] line) run
unfolding lines_from rows_of
last_row run partial [] holds some = absurd (some (ap length holds))
last_row run partial (b ∷ bytes) holds some =
    let row = row_of run (b ∷ bytes) in
    ap (λ (x : Row). x ∷ []) (ap (row_of run) holds ∙ same_row run (b ∷ bytes))
    ∙ sym (ap (λ (rows : List Row). row ∷ rows) (nothing_follows row (flow_after row.done.answer)))

pub no_row :
    (run : Run) (partial : Partial) (line : List ℕ) → HoldsStart partial line → length (held_bytes partial) ≡ 0 →
    [] ≡ rows_of (lines_from [] line) run
unfolding lines_from rows_of
no_row run partial [] holds none = refl
no_row run partial (b ∷ bytes) holds none =
    absurd (let e : length (take 22 (b ∷ bytes)) ≡ 0 = sym (ap length holds) ∙ none in omega (arith, e))

-- no line is taken
pub takes_none : (s : Simulator) (print : List ℕ) → TakesRows s print [] s print
takes_none s print =
    record {
      run = refl;
      prints = sym (append-nil print);
      serves = λ turns served. subst (λ (xs : List Turn). RunServed s.stage xs) (sym (append-nil turns)) served;
    }

-- one line is taken
added_is : (turns : List Turn) (turn : Option Turn) → added turns turn ≡ turns ++ cons_option turn []
added_is turns None = sym (append-nil turns)
added_is turns (Some turn) = refl

pub takes_one :
    (s s' : Simulator) (line print columns : List ℕ) (answer : Result Answer Denial) →
    ◌≡◌ {A = Taken} (record { answer = answer; run = run_of s'; print = columns })
    (taken_by (run_of s) line (replicate 34 0)) →
    Extends (RunServed s.stage) (turn_in line answer) (RunServed s'.stage) →
    TakesRows s print (row_of (run_of s) line ∷ []) s' (print ++ columns)
takes_one s s' line print columns answer took serves =
    let row = row_of (run_of s) line in
    record {
      run = ap (λ (t : Taken). t.run) took;
      prints = ap (λ (t : Taken). print ++ t.print) took;
      serves =
          λ turns served. subst (λ (xs : List Turn). RunServed s'.stage xs)
          (ap (λ (x : Result Answer Denial). added turns (turn_in line x)) (ap (λ (t : Taken). t.answer) took)
          ∙ added_is turns (turn_of row))
          (serves turns served);
    }

-- lines are taken, and then more
after-append : (run : Run) (rows more : List Row) → last_run run (rows ++ more) ≡ last_run (last_run run rows) more
after-append run [] more = refl
after-append run (row ∷ rows) more = after-append (run_after row) rows more

pub takes_more :
    {s t u : Simulator} {print print' print'' : List ℕ} {rows more : List Row} → TakesRows s print rows t print' →
    TakesRows t print' more u print'' → TakesRows s print (rows ++ more) u print''
takes_more {s} {t} {u} {print} {print'} {print''} {rows} {more} first second =
    record {
      run =
          second.run
          ∙ ap (λ (r : Run). last_run r more) first.run
          ∙ sym (after-append (run_of s) rows more);
      prints =
          second.prints
          ∙ ap (λ (xs : List ℕ). xs ++ flat_map print_of more) first.prints
          ∙ append_assoc print (flat_map print_of rows) (flat_map print_of more)
          ∙ ap (λ (xs : List ℕ). print ++ xs) (sym (flat_map-append print_of rows more));
      serves =
          λ turns served. subst (λ (xs : List Turn). RunServed u.stage xs)
          (append_assoc turns (filter_map turn_of rows) (filter_map turn_of more)
          ∙ ap (λ (xs : List Turn). turns ++ xs) (sym (filter_map-append turn_of rows more)))
          (second.serves (turns ++ filter_map turn_of rows) (first.serves turns served));
    }

-- a run over a memory takes lines, and then more
pub taken_on :
    {memory print print' printed : List ℕ} {rows more : List Row} {s s' : Simulator} → HasTaken memory rows printed s →
    TakesRows s print more s' print' → HasTaken memory (rows ++ more) (printed ++ flat_map print_of more) s'
taken_on {memory} {print} {print'} {printed} {rows} {more} {s} {s'} so_far takes =
    record {
      run =
          takes.run
          ∙ ap (λ (r : Run). last_run r more) so_far.run
          ∙ sym (after-append (first_run memory) rows more);
      prints =
          ap (λ (xs : List ℕ). xs ++ flat_map print_of more) so_far.prints
          ∙ sym (flat_map-append print_of rows more);
      served =
          subst (λ (xs : List Turn). RunServed s'.stage xs) (sym (filter_map-append turn_of rows more))
          (takes.serves (filter_map turn_of rows) so_far.served);
    }

gains :
    {print print' : List ℕ} {more : List Row} {s s' : Simulator} {Fact : List ℕ → Type 0} → TakesRows s print more s' print' →
    Fact (flat_map print_of more) → Gains print print' Fact
gains {print} {print'} {more} {s} {s'} {Fact} takes fact = (flat_map print_of more, takes.prints, fact)

-- what was read of a file
pub has_read :
    (memory bytes print line : List ℕ) (rows : List Row) (f : Feed) → HasTaken memory rows print f.simulator →
    HoldsStart f.partial line →
    ((more : List ℕ) →
    rows_of (lines_of (bytes ++ more)) (first_run memory) ≡ rows ++ rows_of (lines_from more line) (run_of f.simulator)) →
    HasRead memory bytes print f
has_read memory bytes print line rows f takes holds splits =
    record {
      rows = rows;
      takes = takes;
      unended = line;
      holds = holds;
      splits = splits;
      tells =
          λ more.
          ap (flat_map print_of) (splits more)
          ∙ flat_map-append print_of rows (rows_of (lines_from more line) (run_of f.simulator))
          ∙ ap (λ (xs : List ℕ). xs ++ flat_map print_of (rows_of (lines_from more line) (run_of f.simulator))) (sym takes.prints);
    }

pub reads_nothing : {memory : List ℕ} {f : Feed} → IsBegun memory f → HasRead memory [] [] f
reads_nothing {memory} {f} begun =
    has_read memory [] [] [] [] f
    (record { run = begun.run; prints = refl; served = begun.served })
    begun.holds
    (λ more. ap (rows_of (lines_of more)) (sym begun.run))

-- the lines that are read on, by those of the piece
module _ {memory bytes printed : List ℕ} (piece : List ℕ) {f : Feed} (read : HasRead memory bytes printed f) where
  rows_on :
      (rest : List ℕ) →
      rows_of (lines_of ((bytes ++ piece) ++ rest)) (first_run memory)
      ≡ read.rows ++ rows_of (lines_from (piece ++ rest) read.unended) (run_of f.simulator)
  rows_on rest =
      ap (λ (xs : List ℕ). rows_of (lines_of xs) (first_run memory)) (append_assoc bytes piece rest)
      ∙ read.splits (piece ++ rest)

  pub reads_on :
      (print print' : List ℕ) (f' : Feed) → ReadsOn f piece print f' [] print' →
      Gains print print' (λ more. HasRead memory (bytes ++ piece) (printed ++ more) f')
  reads_on print print' f' goes_on =
      let on = goes_on read.unended read.holds in
      gains on.takes
      (has_read memory (bytes ++ piece) _ on.unended (read.rows ++ on.rows) f' (taken_on read.takes on.takes) on.holds
      (λ rest.
      rows_on rest
      ∙ ap (λ (xs : List Row). read.rows ++ xs) (on.splits rest)
      ∙ sym (append_assoc read.rows on.rows _)))

  pub stops_in :
      (print print' : List ℕ) (f' : Feed) → StopsRun f piece print f' print' →
      Gains print print' (λ more. (rest : List ℕ) → HasPrinted memory ((bytes ++ piece) ++ rest) (printed ++ more) f'.simulator)
  stops_in print print' f' stops =
      let on = stops read.unended read.holds in
      gains on.takes
      (λ rest.
      subst (λ (rows : List Row). HasTaken memory rows (printed ++ flat_map print_of on.rows) f'.simulator)
      (sym (rows_on rest ∙ ap (λ (xs : List Row). read.rows ++ xs) (on.all rest)))
      (taken_on read.takes on.takes))

pub ends_there :
    {memory bytes printed : List ℕ} (print print' : List ℕ) {f : Feed} (f' : Feed) → HasRead memory bytes printed f → Ends f print f' print' →
    Gains print print' (λ more. HasPrinted memory bytes (printed ++ more) f'.simulator)
ends_there {memory} {bytes} {printed} print print' {f} f' read ends =
    let takes = ends read.unended read.holds in
    gains takes
    (subst (λ (rows : List Row). HasTaken memory rows (printed ++ flat_map print_of (rows_of (lines_from [] read.unended) (run_of f.simulator))) f'.simulator)
    (sym (read.splits []) ∙ ap (λ (xs : List ℕ). rows_of (lines_of xs) (first_run memory)) (append-nil bytes))
    (taken_on read.takes takes))

-- a piece with which the file ends
module _ {memory bytes printed : List ℕ} (piece print print' : List ℕ) {f : Feed} (f' : Feed) (read : HasRead memory bytes printed f) where
  abbrev Printed : Type 0
  Printed = Gains print print' (λ more. HasPrinted memory (bytes ++ piece) (printed ++ more) f'.simulator)

  pub prints_stopped : PrintsToStop f piece print f' print' → Printed
  prints_stopped stops =
      let all = stops memory bytes printed read in (
        all.0,
        all.1,
        subst (λ (file : List ℕ). HasPrinted memory file (printed ++ all.0) f'.simulator) (append-nil (bytes ++ piece)) (all.2 []),
      )

  prints_ended : (between : Feed) (so_far : List ℕ) → PrintsPiece f piece print between so_far → PrintsToEnd between so_far f' print' → Printed
  prints_ended between so_far goes ends =
      let on = goes memory bytes printed read in
      let last = ends memory (bytes ++ piece) (printed ++ on.0) on.2 in (
        on.0 ++ last.0,
        last.1 ∙ ap (λ (xs : List ℕ). xs ++ last.0) on.1 ∙ append_assoc print on.0 last.0,
        subst (λ (xs : List ℕ). HasPrinted memory (bytes ++ piece) xs f'.simulator) (append_assoc printed on.0 last.0) last.2,
      )

  pub prints_last :
      (between last : Feed) (so_far : List ℕ) → PrintsPiece f piece print between so_far → PrintsToEnd last so_far f' print' →
      last ≡ between → Printed
  prints_last between last so_far goes ends same =
      prints_ended between so_far goes (subst (λ (x : Feed). PrintsToEnd x so_far f' print') same ends)
