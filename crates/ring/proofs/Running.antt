-- A reservation on a ring that knows its disk: however it runs, it answers and does what its plan asks for.
use Rattle.std.proofs.Common.{◌≡◌, ℕ, zero, suc, ◌+◌, ◌<◌, ◌≤◌, cond, eqb, List, [], ◌∷◌, length, Some, None, Ok, Err, Option, Result, sym, refl, ap, ◌∙◌, subst, inl, inr, arith}
use Rattle.std.proofs.lemmas.Bool.{lt-ltb}
use Rattle.std.proofs.lemmas.List.{length-set}
use Rattle.record.specs.declared.sector.TheConstants.{LAST_SEQUENCE}
use Rattle.record.specs.Sector.{encoded}
use Rattle.record.specs.declared.numbers.Rank.{Rank}
use Rattle.record.specs.declared.sector.Format.{Format}
use Rattle.record.specs.declared.sector.Record.{Record}
use Rattle.disk.specs.Meaning.{Meaning, Wrote, answer_of, denied as denial, count}
use Rattle.disk.specs.declared.fault.Cause.TheVariants.{Dark}
use Rattle.disk.specs.declared.fault.Operation.{Operation}
use Rattle.disk.specs.Moves.{Moves}
use Rattle.disk.specs.declared.fault.DiskFault.{DiskFault}
use Rattle.disk.specs.declared.fault.Operation.TheVariants.{Write, Flush}
use Rattle.ring.specs.Left.{Recovers}
use Rattle.ring.specs.Operations.{Went, Chain, performed, tried, outcome}
use Rattle.ring.specs.Ring.{top, gap, beyond, next, with_record, with_noted, known, known_end, live, next_of, known_gap, next_carry, carry_step, reservation_step, plan, Agrees, Step}
use Rattle.ring.specs.Runs.{look, known_beyond, carry_in, known_carry, known_reservation, interruption, reservation_answer, Appends, Runs, RunsUnlessRefused, unread, carries, stops, reserves}
use Rattle.ring.specs.Search.{Ended, MayReserve, Tried, refusal, reservation}
use Rattle.ring.specs.declared.fault.RingFault.{RingFault}
use Rattle.ring.specs.declared.fault.Work.{Work}
use Rattle.ring.specs.declared.fault.Work.TheVariants.{Carry, Reservation}
use Rattle.ring.specs.declared.known.Known.{Known}
use Rattle.ring.specs.declared.ring.Ring.{Ring}
use Rattle.ring.specs.declared.token.Reserved.{Reserved}
use Rattle.ring.proofs.Carries.{carry_clear}
use Rattle.ring.proofs.Knows.{known_written, carry_is, clear_from}
use Rattle.ring.proofs.Plans.{Path, path_begins, path_writable, path_carried, path_ends, recovers_written, plan-ends, plan_carries}
use Rattle.ring.proofs.Starts.{recovers_agrees, agrees_recovers, known_end_is}
use Rattle.ring.proofs.Reserves.{may_from}
use Rattle.ring.proofs.Writes.{Clear, Writable, gap_lies, beyond_lies}

-- the ring knows the gap and the next record
module _ (r : Ring) (m : Meaning) (a : Agrees r m) (low : top r.format m.reading ≤ LAST_SEQUENCE) where
  pub knows_gap : known_gap r ≡ gap r.format m.reading
  knows_gap = grind arith

  pub knows_next : (s : ℕ) (end : Rank) → next_of r s end ≡ next r.format m.reading s end.0
  knows_next s end = grind arith

-- what a denial with the sector there tells
abbrev supplied : Operation → ℕ → ℕ → Result (Unit {0}) DiskFault
supplied operation i p = cond (eqb p 0) (Err (denial Dark operation i)) (Ok tt)

by_supply : (operation : Operation) (i : ℕ) (fault : DiskFault) (p : ℕ) → supplied operation i p ≡ Err fault → (p ≡ 0) × (fault ≡ denial Dark operation i)
by_supply operation i fault p h = grind arith

pub told-dark :
    (operation : Operation) (m : Meaning) (i : ℕ) (fault : DiskFault) → i < count m →
    answer_of operation m i ≡ Err fault → (m.supply ≡ 0) × (fault ≡ denial Dark operation i)
told-dark operation m i fault l e = by_supply operation i fault m.supply (rw (lt-ltb i (count m) l) at e)

-- the ring that knows these sectors
abbrev ring_at : Format → List (List ℕ) → Ring
ring_at f reading = record { format = f; known = known f reading }

-- and so the sector after the gap
knows_beyond : (f : Format) (m : Meaning) → Recovers f m.reading → top f m.reading ≤ LAST_SEQUENCE → known_beyond (ring_at f m.reading) ≡ beyond f m.reading
knows_beyond f m recovers low =
    let sized = recovers.sized in
    grind arith

module _ {D : Type 0} (moves : Moves D) (meaning : D → Meaning) (f : Format) where
  -- these writes are answered and made, as far as the supply goes, and the ring knows its disk again
  record Ends (value : Reserved) (steps : List Step) (d : D) (answer : Result Reserved RingFault) (r' : Ring) (after : D) : Type 0 where
    ring : r' ≡ ring_at f (meaning after).reading
    recovers : Recovers f (meaning after).reading
    answers : outcome value steps (meaning d).supply ≡ answer
    goes : Went (meaning d) (performed f steps (meaning d).supply) (meaning after)
    chain : Chain moves d (tried f steps (meaning d).supply) after

  -- one write
  module _ (d : D) (recovers : Recovers f (meaning d).reading) (work : Work) (t : ℕ) (last : Rank) where
    module _ (w : Writable f (meaning d).reading t last.0) (clear : Clear f (meaning d).reading t) where
      abbrev m : Meaning
      m = meaning d

      abbrev step : Step
      step = record { work = work; sector = gap f m.reading; entry = next f m.reading t last.0 }

      abbrev written : List (List ℕ)
      written = with_record f m.reading (next f m.reading t last.0)

      ring_new : (x : Meaning) → x.reading ≡ written → with_noted (ring_at f m.reading) step.entry ≡ ring_at f x.reading
      ring_new x reads =
          ap (λ (k : Known). ring_of k) (known_written f m.reading recovers.sized t last.0 w recovers.free)
          ∙ ap (ring_at f) (sym reads)
        where
          ring_of : Known → Ring
          ring_of k = record { format = f; known = k }

      recovers_new : (x : Meaning) → x.reading ≡ written → Recovers f x.reading
      recovers_new x reads = subst (Recovers f) (sym reads) (recovers_written f m.reading recovers t last.0 w clear)

      -- it is made and flushed, and other writes follow
      then :
          (value : Reserved) (steps : List Step) (r1 : Ring) (d' : D) (answer : Result Reserved RingFault) (r' : Ring) (after : D) →
          Appends moves meaning (ring_at f m.reading) d step (Ok tt) r1 d' → Ends value steps d' answer r' after →
          Ends value (step ∷ steps) d answer r' after
      unfolding outcome performed tried
      then value steps r1 d' answer r' after a e =
          let two : m.supply ≡ suc (suc (meaning d').supply) = omega (arith, a.1.does.spends, a.2.does.spends) in
          record {
            ring = e.ring;
            recovers = e.recovers;
            answers = ap (outcome value (step ∷ steps)) two ∙ e.answers;
            goes =
                subst (λ (p : ℕ). Went m (performed f (step ∷ steps) p) (meaning after)) (sym two)
                (meaning a.0, a.1.does, (meaning d', a.2.does, e.goes));
            chain =
                subst (λ (p : ℕ). Chain moves d (tried f (step ∷ steps) p) after) (sym two)
                (a.0, a.1.goes, (d', a.2.goes, e.chain));
          }

      -- it is denied, or its flush is
      denied :
          (value : Reserved) (steps : List Step) (fault : DiskFault) (r' : Ring) (after : D) →
          Appends moves meaning (ring_at f m.reading) d step (Err fault) r' after →
          Ends value (step ∷ steps) d (interruption work fault) r' after
      unfolding outcome performed tried
      denied value steps fault r' after (inl a) =
          let told = told-dark Write m step.sector fault (gap_lies f m.reading recovers.sized) a.0.answers in
          let same : (meaning after).reading ≡ m.reading = ap (λ (x : Meaning). x.reading) a.0.does in
          record {
            ring = a.1 ∙ ap (ring_at f) (sym same);
            recovers = subst (Recovers f) (sym same) recovers;
            answers = ap (outcome value (step ∷ steps)) told.0 ∙ ap (interruption work) (sym told.1);
            goes = subst (λ (p : ℕ). Went m (performed f (step ∷ steps) p) (meaning after)) (sym told.0) a.0.does;
            chain = subst (λ (p : ℕ). Chain moves d (tried f (step ∷ steps) p) after) (sym told.0) (after, a.0.goes, refl);
          }
      denied value steps fault r' after (inr a) =
          let between : D = a.0 in
          let wrote : Wrote m step.sector (encoded f.tag step.entry) (meaning between) = a.1.does in
          let lies : gap f m.reading < count (meaning between) =
          omega (arith, gap_lies f m.reading recovers.sized, ap length wrote.reads, length-set m.reading step.sector (encoded f.tag step.entry)) in
          let told = told-dark Flush (meaning between) step.sector fault lies a.2.answers in
          let one : m.supply ≡ 1 = omega (arith, wrote.spends, told.0) in
          let reads : (meaning after).reading ≡ written = ap (λ (x : Meaning). x.reading) a.2.does ∙ wrote.reads in
          record {
            ring = a.3 ∙ ring_new (meaning after) reads;
            recovers = recovers_new (meaning after) reads;
            answers = ap (outcome value (step ∷ steps)) one ∙ ap (interruption work) (sym told.1);
            goes =
                subst (λ (p : ℕ). Went m (performed f (step ∷ steps) p) (meaning after)) (sym one)
                (meaning between, wrote, a.2.does);
            chain =
                subst (λ (p : ℕ). Chain moves d (tried f (step ∷ steps) p) after) (sym one)
                (between, a.1.goes, (after, a.2.goes, refl));
          }

  -- a reservation that may be made
  module _ (value : Reserved) (start : ℕ) (series : value.series < 8) (some : 1 ≤ value.end.0) where
    module _ (upper : value.end.0 ≤ f.top.0 + 1) (numbers : start + 8 ≤ LAST_SEQUENCE) where
      abbrev s : ℕ
      s = value.series

      module _ (n : ℕ) (d : D) (path : Path f s start n (meaning d).reading) where
        abbrev reading : List (List ℕ)
        reading = (meaning d).reading

        abbrev here : Ring
        here = ring_at f reading

        low : top f reading ≤ LAST_SEQUENCE
        low = omega (arith, path.few, numbers)

        -- the code finds what the rule carries
        finds : carry_in here s start (look here reading) ≡ Ok (next_carry f reading s)
        finds =
            let near : top f reading ≤ start + 7 = omega (arith, path.few) in
            let is = carry_is f reading path.recovers.sized s start near in
            let there = lt-ltb _ _ (beyond_lies f reading path.recovers.sized) in
            let where_ = knows_beyond f (meaning d) path.recovers low in
            rw (where_, there, is) refl

        found : (r : Ring) (x : Option Record) → r ≡ here → carry_in r s start (look r reading) ≡ Ok x → next_carry f reading s ≡ x
        found r x is e =
            let z : Ok (next_carry f reading s) ≡ Ok x = sym finds ∙ subst (λ (y : Ring). carry_in y s start (look y reading) ≡ Ok x) is e in
            cc

        found_ill : (r : Ring) (fault : DiskFault) → r ≡ here → carry_in r s start (look r reading) ≡ Err fault → ⊥
        found_ill r fault is e =
            let z : Ok (next_carry f reading s) ≡ Err fault = sym finds ∙ subst (λ (y : Ring). carry_in y s start (look y reading) ≡ Err fault) is e in
            cc

        -- the writes as the ring knows them are those of the rule
        by_rule :
            (r : Ring) (step : Ring → Step) (other : Step) → r ≡ here → step here ≡ other →
            (x : Result (Unit {0}) DiskFault) (r' : Ring) (after : D) → Appends moves meaning r d (step r) x r' after →
            Appends moves meaning here d other x r' after
        by_rule r step other is same x r' after a =
            subst (λ (y : Step). Appends moves meaning here d y x r' after) same
            (subst (λ (y : Ring). Appends moves meaning y d (step y) x r' after) is a)

        a_carry : (q : Record) → known_carry here q ≡ carry_step f reading q
        a_carry q =
            let agrees = recovers_agrees f (meaning d) path.recovers in
            rw (knows_gap here (meaning d) agrees low, knows_next here (meaning d) agrees low q.series q.end) refl

        the_reservation : known_reservation here value ≡ reservation_step f reading s value.end.0
        the_reservation =
            let agrees = recovers_agrees f (meaning d) path.recovers in
            rw (knows_gap here (meaning d) agrees low, knows_next here (meaning d) agrees low s value.end) refl

        own : Writable f reading s value.end.0
        own = record { series = series; numbered = omega (arith, path.few, numbers); some = some; ends = upper }

      done : (d' : D) (r' : Ring) → r' ≡ ring_at f (meaning d').reading → Recovers f (meaning d').reading → Ends value [] d' (Ok value) r' d'
      unfolding outcome performed tried
      done d' r' ring recovers = record { ring = ring; recovers = recovers; answers = refl; goes = refl; chain = refl }

      by_answer :
          (n : ℕ) (d : D) (path : Path f s start n (meaning d).reading) → next_carry f (meaning d).reading s ≡ None →
          (x : Result (Unit {0}) DiskFault) (r' : Ring) (after : D) →
          Appends moves meaning (ring_at f (meaning d).reading) d (reservation_step f (meaning d).reading s value.end.0) x r' after →
          Ends value (reservation_step f (meaning d).reading s value.end.0 ∷ []) d (reservation_answer value x) r' after
      by_answer n d path none (Err fault) r' after a =
          denied d path.recovers (Reservation s) s value.end (own n d path) (clear_from f (meaning d).reading s none) value [] fault r' after a
      by_answer n d path none (Ok tt) r' after a =
          let clear = clear_from f (meaning d).reading s none in
          let w = own n d path in
          let reads : (meaning after).reading ≡ with_record f (meaning d).reading (next f (meaning d).reading s value.end.0) =
          a.2.does.reads ∙ a.1.does.reads in
          then d path.recovers (Reservation s) s value.end w clear value [] r' after (Ok value) r' after a
          (done after r' (a.3 ∙ ring_new d path.recovers (Reservation s) s value.end w clear (meaning after) reads)
          (recovers_new d path.recovers (Reservation s) s value.end w clear (meaning after) reads))

      runs_on :
          (n : ℕ) (r : Ring) (d : D) (answer : Result Reserved RingFault) (r' : Ring) (after : D) →
          Path f s start n (meaning d).reading → r ≡ ring_at f (meaning d).reading →
          Runs moves meaning value start r d answer r' after →
          Ends value (plan f n s value.end.0 (meaning d).reading) d answer r' after
      runs_on n r d answer r' after path is (unread e) = absurd (found_ill n d path r _ is e)
      runs_on zero r d answer r' after path is (carries q e appends runs) =
          absurd (path_ends f s start numbers 0 (meaning d).reading path q (found 0 d path r _ is e) refl)
      runs_on (suc n) r d answer r' after path is (carries {between = r1} {d' = d1} q e appends runs) =
          let due = found (suc n) d path r _ is e in
          let w = path_writable f s start numbers (suc n) (meaning d).reading path q due in
          let clear = carry_clear f (meaning d).reading s q due in
          let a = by_rule (suc n) d path r (λ (x : Ring). known_carry x q) _ is (a_carry (suc n) d path q) (Ok tt) r1 d1 appends in
          let reads : (meaning d1).reading ≡ with_record f (meaning d).reading (next f (meaning d).reading q.series q.end.0) =
          a.2.does.reads ∙ a.1.does.reads in
          let rest =
          runs_on n r1 d1 answer r' after
          (subst (Path f s start n) (sym reads) (path_carried f s start numbers (suc n) (meaning d).reading path q due n refl))
          (a.3 ∙ ring_new d path.recovers (Carry q.series) q.series q.end w clear (meaning d1) reads)
          runs in
          subst (λ (l : List Step). Ends value l d answer r' after)
          (ap (λ (xs : List (List ℕ)). carry_step f (meaning d).reading q ∷ plan f n s value.end.0 xs) reads
          ∙ sym (plan_carries f n s value.end.0 (meaning d).reading q due))
          (then d path.recovers (Carry q.series) q.series q.end w clear value _ r1 d1 answer r' after a rest)
      runs_on zero r d answer r' after path is (stops q e appends) =
          absurd (path_ends f s start numbers 0 (meaning d).reading path q (found 0 d path r _ is e) refl)
      runs_on (suc n) r d answer r' after path is (stops {fault = fault} q e appends) =
          let due = found (suc n) d path r _ is e in
          subst (λ (l : List Step). Ends value l d (interruption (Carry q.series) fault) r' after)
          (sym (plan_carries f n s value.end.0 (meaning d).reading q due))
          (denied d path.recovers (Carry q.series) q.series q.end
          (path_writable f s start numbers (suc n) (meaning d).reading path q due) (carry_clear f (meaning d).reading s q due)
          value _ fault r' after
          (by_rule (suc n) d path r (λ (x : Ring). known_carry x q) _ is (a_carry (suc n) d path q) (Err fault) r' after appends))
      runs_on n r d answer r' after path is (reserves x e appends) =
          let none = found n d path r _ is e in
          subst (λ (l : List Step). Ends value l d (reservation_answer value x) r' after)
          (sym (plan-ends f n s value.end.0 (meaning d).reading none))
          (by_answer n d path none x r' after
          (by_rule n d path r (λ (y : Ring). known_reservation y value) _ is (the_reservation n d path) x r' after appends))

unrefused :
    {D : Type 0} (moves : Moves D) (meaning : D → Meaning) (value : Reserved) (r : Ring) (d : D) (answer : Result Reserved RingFault) (r' : Ring) (after : D)
    (refused : Option RingFault) → refused ≡ None → RunsUnlessRefused moves meaning refused value r d answer r' after →
    Runs moves meaning value r.known.top.0 r d answer r' after
unfolding RunsUnlessRefused
unrefused moves meaning value r d answer r' after None is runs = runs
unrefused moves meaning value r d answer r' after (Some fault) is runs = absurd (grind arith)

-- a reservation by the end that the ring knows
abbrev known_value : Ring → ℕ → Rank → Reserved
known_value r s end = record { series = s; start = known_end r.known s; end = end }

-- a reservation that nothing refuses, on a ring that agrees with its disk
module _ {D : Type 0} (moves : Moves D) (meaning : D → Meaning) (r : Ring) (d : D) (s : ℕ) (end : Rank) where
  module _ (agrees : Agrees r (meaning d)) (none : refusal r.format r.known.top.0 s end ≡ None) where
    module _ (answer : Result Reserved RingFault) (r' : Ring) (after : D) where
      module _ (runs : RunsUnlessRefused moves meaning (refusal r.format r.known.top.0 s end) (known_value r s end) r d answer r' after) where
        may : MayReserve r (meaning d) s end
        may = may_from r (meaning d) s end agrees none

        start_is : known_end r.known s ≡ (live r.format (meaning d).reading s).end
        start_is =
            ap (λ (n : ℕ). rank_of n)
            (ap (λ (k : Known). (known_end k s).0) agrees.knows ∙ known_end_is r.format (meaning d).reading s may.series)
          where
            rank_of : ℕ → Rank
            rank_of n = record { 0 = n }

        ends : Ends moves meaning r.format (reservation r.format (meaning d).reading s end) (plan r.format 7 s end.0 (meaning d).reading) d answer r' after
        ends =
            runs_on moves meaning r.format (reservation r.format (meaning d).reading s end) (top r.format (meaning d).reading)
            may.series may.some may.ends may.numbers 7 r d answer r' after
            (path_begins r.format s (meaning d).reading (agrees_recovers r (meaning d) agrees) may.series)
            (ap (λ (k : Known). ring_of k) agrees.knows)
            (subst (λ (n : ℕ). Runs moves meaning (reservation r.format (meaning d).reading s end) n r d answer r' after)
            (ap (λ (k : Known). k.top.0) agrees.knows)
            (subst (λ (x : Rank). Runs moves meaning (record { series = s; start = x; end = end }) r.known.top.0 r d answer r' after) start_is
            (unrefused moves meaning _ r d answer r' after _ none runs)))
          where
            ring_of : Known → Ring
            ring_of k = record { format = r.format; known = k }

        pub run_ends : Ended r.format s end (meaning d) answer r' (meaning after)
        run_ends =
            record {
              agrees =
                  subst (λ (x : Ring). Agrees x (meaning after)) (sym ends.ring)
                  (recovers_agrees r.format (meaning after) ends.recovers);
              format = ap (λ (x : Ring). x.format) ends.ring;
              answers = ends.answers;
              goes = ends.goes;
            }

        pub run_tries : Tried moves meaning r.format s d end.0 after
        run_tries = ends.chain
