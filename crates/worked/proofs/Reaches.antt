-- The worked history is reached: antt computes what each call answers and leaves.
use Rattle.std.proofs.Common.{◌≡◌, ℕ, zero, suc, ◌+◌, ◌<◌, false, List, [], ◌∷◌, length, set, replicate, Some, None, Option, Ok, Err, Result, sym}
use Rattle.std.proofs.Common.{refl, ◌∙◌, subst, inl, arith, lit<, rules}
use Rattle.record.specs.Crc.{crc, register, feed, shifts, shift}
use Rattle.record.specs.Sector.{sound, little, content, encoded, body, bytes_of, parts, all_zero}
use Rattle.record.specs.declared.sector.Format.{Format}
use Rattle.disk.specs.Meaning.{Meaning, at, Wrote, Flushed, Cut}
use Rattle.disk.specs.Devices.{before}
use Rattle.disk.specs.Tearing.{cut_by_tear}
use Rattle.disk.specs.declared.torn.Held.{Held}
use Rattle.kind.specs.Meaning.{LawfulKind}
use Rattle.ring.specs.Left.{Recovers}
use Rattle.ring.specs.Operations.{tried, performed, outcome}
use Rattle.ring.specs.Ring.{slot, top, top_below, live, live_below, known, is_foreign, foreign_below, plan, Sized}
use Rattle.ring.specs.Search.{Ended, refusal}
use Rattle.ring.specs.Token.{empty_block, empty_blocks, with_block}
use Rattle.ring.specs.declared.fault.RingFault.{RingFault}
use Rattle.ring.specs.declared.ring.Ring.{Ring}
use Rattle.ring.specs.declared.token.Reserved.{Reserved}
use Rattle.ring.proofs.Starts.{recovers_agrees}
use Rattle.history.specs.Promise.{Reached, begun, gave, was_cut}
use Rattle.server.specs.Rules.{format, Range, Answered, Reserving}
use Rattle.server.specs.declared.fault.ServerFault.{ServerFault}
use Rattle.server.specs.declared.state.State.{State}
use Rattle.server.specs.declared.state.State.TheVariants.{Up as Awake, Down}
use Rattle.server.specs.declared.state.Up.{Up}
use Rattle.worked.specs.Worked.{one_by_one, start, written, with_one, with_two, with_part, after_first, after_second, after_cut, after_third, stop}
use Rattle.worked.specs.Worked.{first, second, power_cut, Torn, torn_meaning, torn_moves, cleared_torn, WorkedHistory, TornInside}

-- the kind is lawful
pub lawful : LawfulKind one_by_one
lawful = search rules

-- what holds of each of ten holds of all below ten
below_ten : (P : ℕ → Type 0) → P 0 → P 1 → P 2 → P 3 → P 4 → P 5 → P 6 → P 7 → P 8 → P 9 → (k : ℕ) → k < 10 → P k
below_ten P a b c d e f g h i j zero l = a
below_ten P a b c d e f g h i j (suc zero) l = b
below_ten P a b c d e f g h i j (suc (suc zero)) l = c
below_ten P a b c d e f g h i j (suc (suc (suc zero))) l = d
below_ten P a b c d e f g h i j (suc (suc (suc (suc zero)))) l = e
below_ten P a b c d e f g h i j (suc (suc (suc (suc (suc zero))))) l = f
below_ten P a b c d e f g h i j (suc (suc (suc (suc (suc (suc zero)))))) l = g
below_ten P a b c d e f g h i j (suc (suc (suc (suc (suc (suc (suc zero))))))) l = h
below_ten P a b c d e f g h i j (suc (suc (suc (suc (suc (suc (suc (suc zero)))))))) l = i
below_ten P a b c d e f g h i j (suc (suc (suc (suc (suc (suc (suc (suc (suc zero))))))))) l = j
below_ten P a b c d e f g h i j (suc (suc (suc (suc (suc (suc (suc (suc (suc (suc k)))))))))) l = absurd (omega arith)

not_some : {A : Type 0} (x : A) → None ≡ Some x → ⊥
not_some x e = let z : ◌≡◌ {A = ℕ} 0 1 = cc in omega arith

-- a reservation that nothing refuses
reserving_by :
    {A : Type 0} {u : Up} {m : Meaning} {s first n : ℕ} {claimed : Range} {given : A} {r : Result A ServerFault} {after : State} {m' : Meaning}
    (ring : Ring) (answer : Result Reserved RingFault) →
    None ≡ refusal u.ring.format u.ring.known.top.0 s (record { 0 = claimed.end }) →
    Ended u.ring.format s (record { 0 = claimed.end }) m answer ring m' →
    Answered u s first n given ring answer r after → Reserving u m s first n claimed given r after m'
reserving_by ring answer passes ended answered =
    record {
      ring = ring;
      answer = answer;
      reserves =
          record {
            refused = λ fault e. absurd (not_some fault (passes ∙ e));
            reserves = λ e. ended;
          };
      answered = answered;
    }

abbrev f : Format
f = format one_by_one start

-- the ring that knows these sectors, and the server that has it and the next rank n of series 2
abbrev ring_of : List (List ℕ) → Ring
ring_of reading = record { format = f; known = known f reading }

abbrev up_at : List (List ℕ) → ℕ → Up
up_at reading n =
    record { ring = ring_of reading; blocks = with_block (empty_blocks (replicate 8 (record { 0 = 0 }))) 2 (empty_block (record { 0 = n })) }

-- a reservation of series 2
abbrev reserved : ℕ → ℕ → Reserved
reserved from to = record { series = 2; start = record { 0 = from }; end = record { 0 = to } }

sized : (reading : List (List ℕ)) → length reading ≡ 10 → Sized f reading
sized reading e =
    record { count = sym e; least = omega arith; most = omega arith; tags = lit< tt; tops = lit< tt }

recovers_one : Recovers f with_one
unfolding live live_below top top_below foreign_below slot content sound little crc register feed shifts shift encoded body bytes_of parts all_zero
recovers_one =
    record {
      sized = sized with_one refl;
      free = λ r e. absurd (not_some r e);
      native = below_ten (λ k. is_foreign (content f k (at with_one k)) ≡ false) refl refl refl refl refl refl refl refl refl refl;
    }

recovers_two : Recovers f with_two
unfolding live live_below top top_below foreign_below slot content sound little crc register feed shifts shift encoded body bytes_of parts all_zero
recovers_two =
    record {
      sized = sized with_two refl;
      free = λ r e. absurd (not_some r e);
      native = below_ten (λ k. is_foreign (content f k (at with_two k)) ≡ false) refl refl refl refl refl refl refl refl refl refl;
    }

-- a write, and a flush, that succeed
puts :
    (m : Meaning) (i : ℕ) (bytes : List ℕ) (p : ℕ) → p + 1 ≡ m.supply →
    Wrote m i bytes (record { reading = set m.reading i bytes; kept = m.kept; supply = p; beyond = m.beyond })
puts m i bytes p e = record { reads = refl; keeps_count = refl; keeps = λ k. inl refl; spends = e; leaves = refl }

settles :
    (m : Meaning) (p : ℕ) → p + 1 ≡ m.supply →
    Flushed m (record { reading = m.reading; kept = m.reading; supply = p; beyond = m.beyond })
settles m p e = record { reads = refl; keeps = refl; spends = e; leaves = refl }

-- record 1 is written and flushed
ended_first : Ended f 2 (record { 0 = 1 }) start (Ok (reserved 0 1)) (ring_of with_one) after_first
unfolding plan performed outcome live live_below top top_below foreign_below slot content
    sound little crc register feed shifts shift encoded body bytes_of parts all_zero
ended_first =
    record {
      agrees = recovers_agrees f after_first recovers_one;
      format = refl;
      answers = refl;
      goes = (_, puts start 1 (written 1) 2 refl, (_, settles _ 1 refl, refl));
    }

-- the torn disk with sectors that are read, a write held back, and a supply
abbrev torn_at : List (List ℕ) → Option Held → ℕ → Torn
torn_at reading held supply = record { reading = reading; beyond = []; held = held; supply = supply }

-- a write that is held back: its sector, where zeros were
abbrev holds : ℕ → Option Held
holds i = Some (record { sector = i; old = replicate 32 0 })

reached_first : Reached torn_moves torn_meaning one_by_one cleared_torn (first ∷ []) (Awake (up_at with_one 1)) (torn_at with_one None 1)
unfolding plan tried live live_below top top_below foreign_below slot content sound little crc register feed shifts shift encoded body bytes_of parts all_zero
reached_first =
    gave {d' = torn_at with_one None 1} {s = 2} {reading = record { 0 = 0 }} begun
    (reserving_by (ring_of with_one) (Ok (reserved 0 1)) refl ended_first (refl, refl))
    (torn_at with_one (holds 1) 2, refl, (torn_at with_one None 1, refl, refl))

-- record 2 is written, and its flush goes dark
ended_second : Ended f 2 (record { 0 = 2 }) after_first (Err stop) (ring_of with_two) after_second
unfolding plan performed outcome live live_below top top_below foreign_below slot content
    sound little crc register feed shifts shift encoded body bytes_of parts all_zero
ended_second =
    record {
      agrees = recovers_agrees f after_second recovers_two;
      format = refl;
      answers = refl;
      goes = (_, puts after_first 2 (written 2) 0 refl, refl);
    }

reached_second : Reached torn_moves torn_meaning one_by_one cleared_torn (second ∷ first ∷ []) (Down stop) (torn_at with_two (holds 2) 0)
unfolding plan tried live live_below top top_below foreign_below slot content sound little crc register feed shifts shift encoded body bytes_of parts all_zero
reached_second =
    gave {d' = torn_at with_two (holds 2) 0} {s = 2} {reading = record { 0 = 0 }} reached_first
    (reserving_by (ring_of with_two) (Err stop) refl ended_second (refl, refl))
    (torn_at with_two (holds 2) 0, refl, (torn_at with_two (holds 2) 0, refl, refl))

-- the cut leaves what a torn disk leaves: the first 20 bytes of record 2
pub torn_inside : TornInside
unfolding sound little crc register feed shifts shift encoded body bytes_of
torn_inside = (refl, refl)

abbrev half : Held
half = record { sector = 2; old = replicate 32 0 }

cut_left : Cut after_second 9 after_cut
cut_left =
    subst
    (λ (left : List (List ℕ)). Cut (record { reading = with_two; kept = before (Some half) with_two; supply = 0; beyond = [] }) 9
    (record { reading = left; kept = left; supply = 9; beyond = [] }))
    torn_inside.0 (cut_by_tear (Some half) 20 0 9 with_two [])

reached_cut : Reached torn_moves torn_meaning one_by_one cleared_torn (power_cut ∷ second ∷ first ∷ []) (Awake (up_at with_part 1)) (torn_at with_part None 9)
unfolding plan tried live live_below top top_below foreign_below slot content sound little crc register feed shifts shift encoded body bytes_of parts all_zero
reached_cut = was_cut reached_second (record { left = cut_left; state = refl; told = refl }) refl

-- record 2 is written and flushed
ended_third : Ended f 2 (record { 0 = 2 }) after_cut (Ok (reserved 1 2)) (ring_of with_two) after_third
unfolding plan performed outcome live live_below top top_below foreign_below slot content
    sound little crc register feed shifts shift encoded body bytes_of parts all_zero
ended_third =
    record {
      agrees = recovers_agrees f after_third recovers_two;
      format = refl;
      answers = refl;
      goes = (_, puts after_cut 2 (written 2) 8 refl, (_, settles _ 7 refl, refl));
    }

pub reached : WorkedHistory
unfolding plan tried live live_below top top_below foreign_below slot content sound little crc register feed shifts shift encoded body bytes_of parts all_zero
reached = (
  Awake (up_at with_two 2),
  torn_at with_two None 7,
  gave {d' = torn_at with_two None 7} {s = 2} {reading = record { 0 = 0 }} reached_cut
      (reserving_by (ring_of with_two) (Ok (reserved 1 2)) refl ended_third (refl, refl))
      (torn_at with_two (Some (record { sector = 2; old = at with_part 2 })) 8, refl, (torn_at with_two None 7, refl, refl)),
)
