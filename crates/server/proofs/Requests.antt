-- What a call of the ring makes of a request, and of what the server knows.
use Rattle.std.proofs.Common.{◌≡◌, ℕ, zero, suc, ◌≤◌, List, [], ◌∷◌, length, get_or, set, Bool, true, false, ltb, Option, Some, None, Ok, Err}
use Rattle.std.proofs.Common.{Result, refl, sym, ap, ◌∙◌, subst, min, max, ◌+◌, ◌-◌, ◌<◌, arith}
use Rattle.std.proofs.lemmas.List.{get_or-set_same, length-map, map-set, set-set}
use Rattle.std.proofs.lemmas.List.FromFn.{get_or-map-range_with_len, length-map-range_with_len}
use Rattle.std.proofs.Math.ListN.{get_or-map}
use Rattle.std.proofs.Math.Seq.{map-set_same}
use Rattle.std.proofs.lemmas.Bool.{lt-ltb, le-leb, lt-leb, eq-eqb, ltb-true, ltb-false}
use Rattle.record.specs.declared.numbers.Identifier.{Identifier}
use Rattle.record.specs.declared.numbers.Rank.{Rank}
use Rattle.record.specs.declared.numbers.Reading.{Reading as ClockReading}
use Rattle.record.specs.declared.sector.Format.{Format}
use Rattle.disk.specs.Meaning.{Meaning}
use Rattle.kind.specs.Meaning.{Numbering}
use Rattle.ring.specs.Operations.{outcome}
use Rattle.ring.specs.Ring.{known_end, known_ends, Agrees, Step}
use Rattle.ring.specs.Left.{end_of}
use Rattle.ring.specs.Search.{reservation, Ended}
use Rattle.ring.specs.Token.{empty_block, block_in, with_block, block_ends, extend, fill, draw, after_draw}
use Rattle.ring.specs.declared.fault.RingFault.{RingFault}
use Rattle.ring.specs.declared.fault.Interrupted.{Interrupted as Stop}
use Rattle.ring.specs.declared.fault.RingFault.TheVariants.{Interrupted}
use Rattle.ring.specs.declared.ring.Ring.{Ring}
use Rattle.ring.specs.declared.known.Known.{Known}
use Rattle.ring.specs.declared.token.Block.{Block}
use Rattle.ring.specs.declared.token.Blocks.{Blocks}
use Rattle.ring.specs.declared.token.Drawn.{Drawn}
use Rattle.ring.specs.declared.token.Reserved.{Reserved}
use Rattle.ring.proofs.Starts.{known_end_is}
use Rattle.server.specs.Knows.{Knows, KnowsEnds}
use Rattle.server.specs.Rules.{Range, Wish, declines, draws, one, block_end, by_rank, decide, end_at, next_at, with_blocks, with_ring, is_fatal}
use Rattle.server.specs.Rules.{stopped, format, identified, ring_refusal, reserve_tries, ready_tries, Reserves, TookBlock, TookNone, Ready, Reserving}
use Rattle.server.specs.Rules.{Does, Gave, tries_by, tries}
use Rattle.server.specs.declared.fault.ServerFault.{ServerFault}
use Rattle.server.specs.declared.fault.ServerFault.TheVariants.{AboveTop, Ring as OfRing}
use Rattle.server.specs.declared.state.State.{State}
use Rattle.server.specs.declared.state.State.TheVariants.{Up as Awake, Down as Fallen}
use Rattle.server.specs.declared.state.Up.{Up}

-- what was answered was not denied
ok_no_err : {A : Type 0} {x : A} {fault : RingFault} → ◌≡◌ {A = Result A RingFault} (Ok x) (Err fault) → ⊥
ok_no_err e = let z : ◌≡◌ {A = ℕ} 0 1 = cc in omega arith

-- a reservation that was stopped tells the operation that stopped it
pub stopped_tells :
    (value : Reserved) (steps : List Step) (supply : ℕ) (fault : RingFault) →
    outcome value steps supply ≡ Err fault → (stop : Stop) × (fault ≡ Interrupted stop)
unfolding outcome
stopped_tells value [] supply fault e = absurd (let z : ◌≡◌ {A = ℕ} 0 1 = cc in omega arith)
stopped_tells value (step ∷ steps) zero fault e = (_, sym (err_same e))
  where
    err_same : {x y : RingFault} → ◌≡◌ {A = Result Reserved RingFault} (Err x) (Err y) → x ≡ y
    err_same h = cc
stopped_tells value (step ∷ steps) (suc zero) fault e = (_, sym (err_same e))
  where
    err_same : {x y : RingFault} → ◌≡◌ {A = Result Reserved RingFault} (Err x) (Err y) → x ≡ y
    err_same h = cc
stopped_tells value (step ∷ steps) (suc (suc supply)) fault e = stopped_tells value steps supply fault e

-- a reservation of a server that knows its disk
module _ (k : Numbering) (u : Up) (m : Meaning) (knows : Knows k u m) (s : ℕ) (end : Rank) (u' : Up) (m' : Meaning) where
  -- once it has ended, the server knows the disk as it is then
  knows_ended : (answer : Result Reserved RingFault) → Ended u.ring.format s end m answer u'.ring m' → KnowsEnds u' → Knows k u' m'
  knows_ended answer ended ends =
      let form : u'.ring.format ≡ format k m = ended.format ∙ knows.form in
      record {
        agrees = ended.agrees;
        form = form ∙ ap with_sectors (sym (ap (λ (f : Format). f.sectors) form) ∙ ended.agrees.sized.count);
        ends = ends;
      }
    where
      with_sectors : ℕ → Format
      with_sectors n = record { tag = k.tag; top = k.top; sectors = n }

-- an answer that is no denial is what was asked for
pub outcome_is : (value x : Reserved) (steps : List Step) (supply : ℕ) → outcome value steps supply ≡ Ok x → x ≡ value
unfolding outcome
outcome_is value x [] supply e = grind arith
outcome_is value x (step ∷ steps) zero e = grind arith
outcome_is value x (step ∷ steps) (suc zero) e = grind arith
outcome_is value x (step ∷ steps) (suc (suc supply)) e = outcome_is value x steps supply e

-- no block
abbrev no_block : Block
no_block = empty_block (record { 0 = 0 })

-- the blocks in hand of a server that knows their ends
module _ (u : Up) (ends : KnowsEnds u) where
  pub eight_blocks : length u.blocks.0 ≡ 8
  eight_blocks =
      sym (length-map u.blocks.0 (λ (b : Block). b.end))
      ∙ ap length ends
      ∙ length-map-range_with_len (known_end u.ring.known) 0 8

  end_known : (s : ℕ) → s < 8 → (block_in u.blocks s).end ≡ known_end u.ring.known s
  end_known s l =
      sym (get_or-map (λ (b : Block). b.end) u.blocks.0 s no_block)
      ∙ ap (λ (xs : List Rank). get_or xs s no_block.end) ends
      ∙ get_or-map-range_with_len (known_end u.ring.known) 0 8 s s no_block.end l (omega arith)

-- blocks from which a rank is drawn end as before
pub ends-drawn : (drawn : Option Drawn) (blocks : Blocks) → block_ends (after_draw drawn blocks) ≡ block_ends blocks
ends-drawn None blocks = refl
ends-drawn (Some d) blocks = map-set_same (λ (b : Block). b.end) blocks.0 d.series _ no_block refl

-- what a call of the ring's reserve leaves of a server whose ring agrees with its disk
module _ (u : Up) (m : Meaning) (agrees : Agrees u.ring m) (ends : KnowsEnds u) (s : ℕ) (end : Rank) (ring : Ring) (m' : Meaning) where
  module _ (answer : Result Reserved RingFault) where
    module _ (refused : (fault : RingFault) → ring_refusal u.ring s end ≡ Some fault → (answer ≡ Err fault) × (ring ≡ u.ring) × (m' ≡ m)) where
      module _ (reserves : Agrees u.ring m → ring_refusal u.ring s end ≡ None → Ended u.ring.format s end m answer ring m') where
        all_of : Reserves u.ring m s end answer ring m'
        all_of = record { refused = refused; reserves = reserves agrees }

        abbrev value : Reserved
        value = reservation u.ring.format m.reading s end

        not_refused : (reserved : Reserved) → answer ≡ Ok reserved → (o : Option RingFault) → ring_refusal u.ring s end ≡ o → ring_refusal u.ring s end ≡ None
        not_refused reserved is None e = e
        not_refused reserved is (Some fault) e =
            absurd (ok_no_err (sym is ∙ (refused fault e).0))

        below : ring_refusal u.ring s end ≡ None → s < 8
        below e = grind arith

        -- the block of the series goes on
        goes_on : s < 8 → fill value u.blocks ≡ with_block u.blocks s (record { next = (block_in u.blocks s).next; end = end })
        goes_on l =
            let same : (block_in u.blocks s).end.0 ≡ end_of u.ring.format m.reading s =
            ap (λ (x : Rank). x.0) (end_known u ends s l)
            ∙ ap (λ (x : Known). (known_end x s).0) agrees.knows
            ∙ known_end_is u.ring.format m.reading s l in
            rw (eq-eqb _ _ same) refl

        pub took_well :
            (reserved : Reserved) (u' : Up) → answer ≡ Ok reserved →
            u' ≡ record { ring = ring; blocks = fill reserved u.blocks } → TookBlock u m s end u' m'
        took_well reserved u' is has =
            let none = not_refused reserved is (ring_refusal u.ring s end) refl in
            let same : reserved ≡ value = outcome_is _ reserved _ _ ((reserves agrees none).answers ∙ is) in
            record {
              ring = ring;
              reserves = subst (λ (x : Result Reserved RingFault). Reserves u.ring m s end x ring m') (is ∙ ap (λ (x : Reserved). Ok x) same) all_of;
              has =
                  has
                  ∙ ap (λ (x : Reserved). with_blocks (with_ring u ring) (fill x u.blocks)) same
                  ∙ ap (with_blocks (with_ring u ring)) (goes_on (below none));
            }

        -- and the blocks end where the ring knows that their series do
        pub took_ends :
            (reserved : Reserved) (u' : Up) → answer ≡ Ok reserved → u' ≡ record { ring = ring; blocks = fill reserved u.blocks } →
            known_ends ring.known ≡ set (known_ends u.ring.known) s end → KnowsEnds u'
        took_ends reserved u' is has alone =
            let none = not_refused reserved is (ring_refusal u.ring s end) refl in
            let same : reserved ≡ value = outcome_is _ reserved _ _ ((reserves agrees none).answers ∙ is) in
            subst KnowsEnds (sym (has ∙ ap (λ (x : Reserved). with_blocks (with_ring u ring) (fill x u.blocks)) same))
            (map-set (λ (b : Block). b.end) u.blocks.0 s (extend value.start end (block_in u.blocks s))
            ∙ ap (λ (xs : List Rank). set xs s end) ends
            ∙ sym alone)

        ring_same :
            (fault : RingFault) → answer ≡ Err fault → is_fatal fault ≡ false → (o : Option RingFault) →
            ring_refusal u.ring s end ≡ o → (ring ≡ u.ring) × (m' ≡ m)
        ring_same fault is quiet None e =
            let told = stopped_tells _ _ _ fault ((reserves agrees e).answers ∙ is) in
            absurd (let z : true ≡ false = ap is_fatal (sym told.1) ∙ quiet in let y : ◌≡◌ {A = ℕ} 0 1 = cc in omega arith)
        ring_same fault is quiet (Some other) e = ((refused other e).1, (refused other e).2)

        pub took_none : (fault : RingFault) (u' : Up) → answer ≡ Err fault → u' ≡ with_ring u ring → TookNone u m s end fault u' m'
        took_none fault u' is has =
            record {
              ring = ring;
              reserves = subst (λ (x : Result Reserved RingFault). Reserves u.ring m s end x ring m') is all_of;
              same = λ quiet.
                  let both = ring_same fault is quiet (ring_refusal u.ring s end) refl in
                  (has ∙ ap (with_ring u) both.0, both.1);
            }

-- the block that is claimed for one rank outside the block in hand
abbrev block_from : Numbering → Rank → Range
block_from k rank = record { first = rank.0; end = (block_end k rank).0 }

-- a request by its rank
module _ (k : Numbering) (u : Up) (s : ℕ) (reading : ClockReading) (floor rank : Rank) (below : s < 8) where
  module _ (floors : k.floor reading ≡ Some floor) (is : rank.0 ≡ max (next_at u s) floor.0) where
    wants : decide k (end_at u) (next_at u) (one s reading) ≡ by_rank k s (end_at u s) rank.0 1
    wants = rw (lt-ltb s 8 below, floors, is) refl

    -- below the end
    pub asks_inside : rank.0 ≤ k.top.0 → rank.0 < end_at u s → decide k (end_at u) (next_at u) (one s reading) ≡ draws s rank.0 1 None
    asks_inside lawful inside =
        wants ∙ rw (le-leb (rank.0 + 1) (k.top.0 + 1) (omega arith), le-leb (rank.0 + 1) (end_at u s) (omega arith)) refl

    -- not below the end
    pub asks_block : rank.0 ≤ k.top.0 → end_at u s ≤ rank.0 → decide k (end_at u) (next_at u) (one s reading) ≡ draws s rank.0 1 (Some (block_from k rank))
    asks_block lawful outside =
        let same : rank.0 + 1 - 1 ≡ rank.0 = omega arith in
        let larger : max (end_at u s) rank.0 ≡ rank.0 = omega arith in
        wants ∙ rw (le-leb (rank.0 + 1) (k.top.0 + 1) (omega arith), lt-leb (rank.0 + 1) (end_at u s) (omega arith), same, larger) refl

    -- above the top
    pub asks_above : k.top.0 < rank.0 → decide k (end_at u) (next_at u) (one s reading) ≡ declines AboveTop
    asks_above high = wants ∙ rw (lt-leb (rank.0 + 1) (k.top.0 + 1) (omega arith)) refl

    -- so a request of such a rank is what its reservation makes of it
    pub needs_block :
        (m : Meaning) (answer : Result Identifier ServerFault) (after : State) (m' : Meaning) → rank.0 ≤ k.top.0 → end_at u s ≤ rank.0 →
        Reserving u m s rank.0 1 (block_from k rank) (k.identifier s rank) answer after m' → Gave k (Awake u) m s reading answer after m'
    needs_block m answer after m' lawful outside r =
        subst (λ (w : Wish). Does (identified k) u m w answer after m') (sym (asks_block lawful outside)) r

-- a block that is ready leaves a server that knows its disk
pub ready_knows :
    (k : Numbering) (u : Up) (m : Meaning) (knows : Knows k u m) (s : ℕ) (end : Rank) (b : Bool) (u' : Up) (m' : Meaning) →
    Ready b u m s end (Ok tt) u' m' → KnowsEnds u' → Knows k u' m'
ready_knows k u m knows s end true u' m' ready ends =
    subst (λ (x : Up). Knows k x m') (sym ready.1) (subst (λ (x : Meaning). Knows k u x) (sym ready.2) knows)
ready_knows k u m knows s end false u' m' took ends =
    by_refusal (ring_refusal u.ring s end) refl
  where
    same : u'.ring ≡ took.ring
    same = ap (λ (x : Up). x.ring) took.has

    by_refusal : (o : Option RingFault) → ring_refusal u.ring s end ≡ o → Knows k u' m'
    by_refusal None e =
        knows_ended k u m knows s end u' m' (Ok (reservation u.ring.format m.reading s end))
        (subst (λ (x : Ring). Ended u.ring.format s end m (Ok (reservation u.ring.format m.reading s end)) x m') (sym same) (took.reserves.reserves e))
        ends
    by_refusal (Some fault) e =
        absurd (ok_no_err ((took.reserves.refused fault e).0))

-- and so does a draw
pub drawn_knows :
    (k : Numbering) (u : Up) (m : Meaning) (drawn : Option Drawn) → Knows k u m → Knows k (with_blocks u (after_draw drawn u.blocks)) m
drawn_knows k u m drawn knows =
    record { agrees = knows.agrees; form = knows.form; ends = ends-drawn drawn u.blocks ∙ knows.ends }

-- a denial that is not fatal leaves all as it was
pub ready_stays :
    (u : Up) (m : Meaning) (s : ℕ) (end : Rank) (b : Bool) (fault : RingFault) (u' : Up) (m' : Meaning) →
    Ready b u m s end (Err fault) u' m' → is_fatal fault ≡ false → (u' ≡ u) × (m' ≡ m)
ready_stays u m s end true fault u' m' ready quiet = (ready.1, ready.2)
ready_stays u m s end false fault u' m' took quiet = took.same quiet

-- a request for a rank as far as the top, with the end of the block that it would reserve
pub record Asks (k : Numbering) (u : Up) (s : ℕ) (reading : ClockReading) (floor rank end : Rank) : Type 0 where
  pub below : s < 8
  pub ends : KnowsEnds u
  pub floors : k.floor reading ≡ Some floor
  pub is : rank.0 ≡ max (next_at u s) floor.0
  pub lawful : rank.0 ≤ k.top.0
  pub block : end ≡ block_end k rank
  pub some : 1 ≤ k.block

-- a request whose block is ready
module _ {k : Numbering} {u : Up} {s : ℕ} {reading : ClockReading} {floor rank end' : Rank} where
  module _ (asks : Asks k u s reading floor rank end') (m : Meaning) (u' : Up) (m' : Meaning) where
    abbrev own : Block
    own = block_in u.blocks s

    -- what is drawn, out of a block that goes on from there
    abbrev d : Drawn
    d = record { series = s; rank = rank }

    -- what it tries is what its reservation tries, where it needs one
    pub tries-ready :
        tries k (Awake u) m (one s reading)
        ≡ ready_tries (ltb rank.0 own.end.0) u.ring m s end'
    tries-ready = by_end (ltb rank.0 own.end.0) refl
      where
        by_end :
            (b : Bool) → ltb rank.0 own.end.0 ≡ b →
            tries k (Awake u) m (one s reading) ≡ ready_tries b u.ring m s end'
        by_end true e = ap (tries_by u m) (asks_inside k u s reading floor rank asks.below asks.floors asks.is asks.lawful (ltb-true rank.0 own.end.0 e))
        by_end false e =
            ap (tries_by u m) (asks_block k u s reading floor rank asks.below asks.floors asks.is asks.lawful (ltb-false rank.0 own.end.0 e))
            ∙ ap (λ (x : Rank). reserve_tries u.ring m s x) (sym asks.block)

    drawn_below : (blocks : Blocks) → (block_in blocks s).next ≡ own.next → rank.0 < (block_in blocks s).end.0 → draw s floor blocks ≡ Some d
    drawn_below blocks same inside =
        let high : max (block_in blocks s).next.0 floor.0 ≡ rank.0 = ap (λ (x : Rank). max x.0 floor.0) same ∙ sym asks.is in
        rw (high, lt-ltb rank.0 (block_in blocks s).end.0 inside) refl

    abbrev Gives : Type 0
    Gives =
        (draw s floor u'.blocks ≡ Some d)
        × Gave k (Awake u) m s reading (Ok (k.identifier s rank)) (Awake (with_blocks u' (after_draw (Some d) u'.blocks))) m'

    in_hand : rank.0 < own.end.0 → u' ≡ u → m' ≡ m → Gives
    in_hand inside same-up same-meaning = (
      ap (λ (x : Up). draw s floor x.blocks) same-up ∙ drawn_below u.blocks refl inside,
      subst (λ (w : Wish). Does (identified k) u m w (Ok (k.identifier s rank)) (Awake (with_blocks u' (after_draw (Some d) u'.blocks))) m')
          (sym (asks_inside k u s reading floor rank asks.below asks.floors asks.is asks.lawful inside)) (
            refl,
            ap (λ (x : Up). Awake (with_blocks x (after_draw (Some d) x.blocks))) same-up,
            same-meaning,
          ),
    )

    module _ (outside : own.end.0 ≤ rank.0) where
      abbrev new : Block
      new = record { next = own.next; end = end' }

      abbrev last : Block
      last = record { next = record { 0 = rank.0 + 1 }; end = end' }

      out_of_block : TookBlock u m s end' u' m' → Gives
      out_of_block took =
          let held : block_in u'.blocks s ≡ new =
          ap (λ (x : Up). block_in x.blocks s) took.has ∙ get_or-set_same u.blocks.0 s new no_block (omega (arith, asks.below, eight_blocks u asks.ends)) in
          let high : end'.0 ≡ min (rank.0 + k.block) (k.top.0 + 1) = ap (λ (x : Rank). x.0) asks.block in
          let inside : rank.0 < end'.0 = omega (arith, asks.lawful, asks.some) in (
            drawn_below u'.blocks (ap (λ (x : Block). x.next) held) (omega (arith, ap (λ (x : Block). x.end.0) held)),
            needs_block k u s reading floor rank asks.below asks.floors asks.is m _ _ m' asks.lawful outside
                (record {
                  ring = took.ring;
                  answer = Ok (reservation u.ring.format m.reading s end');
                  reserves =
                      subst
                      (λ (x : Rank). Reserves u.ring m s x (Ok (reservation u.ring.format m.reading s end')) took.ring m') asks.block took.reserves;
                  answered = (
                    refl,
                    ap (λ (x : Block). Awake (with_blocks u' (with_block u'.blocks s (record { next = record { 0 = rank.0 + 1 }; end = x.end })))) held
                        ∙ ap (λ (x : Up). Awake (with_blocks x (with_block x.blocks s last))) took.has
                        ∙ ap (λ (x : List Block). Awake (record { ring = took.ring; blocks = record { 0 = x } })) (set-set u.blocks.0 s new last),
                  );
                }),
          )

      denied_by : (fault : RingFault) → TookNone u m s end' fault u' m' → Gave k (Awake u) m s reading (Err (OfRing fault)) (stopped u fault) m'
      denied_by fault took =
          needs_block k u s reading floor rank asks.below asks.floors asks.is m _ _ m' asks.lawful outside
          (record {
            ring = took.ring;
            answer = Err fault;
            reserves = subst (λ (x : Rank). Reserves u.ring m s x (Err fault) took.ring m') asks.block took.reserves;
            answered = (refl, refl);
          })

    by_test : (b : Bool) → ltb rank.0 own.end.0 ≡ b → Ready b u m s end' (Ok tt) u' m' → Gives
    by_test true e ready = in_hand (ltb-true rank.0 own.end.0 e) ready.1 ready.2
    by_test false e took = out_of_block (ltb-false rank.0 own.end.0 e) took

    denied_test :
        (fault : RingFault) (b : Bool) → ltb rank.0 own.end.0 ≡ b → Ready b u m s end' (Err fault) u' m' →
        Gave k (Awake u) m s reading (Err (OfRing fault)) (stopped u fault) m'
    denied_test fault true e ready =
        absurd (ok_no_err (sym ready.0))
    denied_test fault false e took = denied_by (ltb-false rank.0 own.end.0 e) fault took

    pub ready_gives : Ready (ltb rank.0 own.end.0) u m s end' (Ok tt) u' m' → Gives
    ready_gives ready = by_test _ refl ready

    pub ready_stops :
        (fault : RingFault) → Ready (ltb rank.0 own.end.0) u m s end' (Err fault) u' m' → is_fatal fault ≡ true →
        Gave k (Awake u) m s reading (Err (OfRing fault)) (Fallen fault) m'
    ready_stops fault ready fatal =
        let down : stopped u fault ≡ Fallen fault = rw fatal refl in
        subst (λ (x : State). Gave k (Awake u) m s reading (Err (OfRing fault)) x m') down (denied_test fault _ refl ready)

    pub ready_none :
        (fault : RingFault) → Ready (ltb rank.0 own.end.0) u m s end' (Err fault) u' m' → is_fatal fault ≡ false →
        Gave k (Awake u) m s reading (Err (OfRing fault)) (Awake u') m'
    ready_none fault ready quiet =
        let stays : stopped u fault ≡ Awake u = rw quiet refl in
        subst (λ (x : State). Gave k (Awake u) m s reading (Err (OfRing fault)) x m')
        (stays ∙ sym (ap (λ (x : Up). Awake x) (ready_stays u m s end' _ fault u' m' ready quiet).0))
        (denied_test fault _ refl ready)
