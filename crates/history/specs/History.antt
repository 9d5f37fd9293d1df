-- Histories of a server: the calls that were made, what each answered, and what the disk was after it; and what they tell.
use Rattle.std.specs.Prelude.{ℕ, ◌+◌, ◌<◌, ◌≤◌, ◌⊎◌, ◌-◌, ◌*◌, ◌^◌, max, Bool, true, false, if◌then◌else◌, ◌&&◌, ◌||◌, List, [], ◌∷◌, ◌++◌, length, Some, None, Ok, Err, Option, Result, ◌==◌, nat_le, nat_lt}
use Rattle.record.specs.declared.numbers.Identifier.{Identifier}
use Rattle.record.specs.declared.numbers.Rank.{Rank}
use Rattle.record.specs.declared.numbers.Reading.{Reading}
use Rattle.record.specs.declared.numbers.Sequence.{Sequence}
use Rattle.disk.specs.Meaning.{Meaning}
use Rattle.kind.specs.Meaning.{Numbering}
use Rattle.ring.specs.Left.{end_of}
use Rattle.ring.specs.Operations.{Op, performed, tried, writes_in}
use Rattle.ring.specs.Ring.{top, plan, Step}
use Rattle.server.specs.Rules.{format, Ask, one, Range, Wish, draws, decide}
use Rattle.server.specs.declared.fault.ServerFault.{ServerFault}

-- one call: a request of a series at a clock's reading, or a power cut with its tear and its new supply; with its answer and
-- the disk's meaning after it. A history is the list of them, the newest first, so that a call's past is the rest of the list.
pub data Event : Type 0 where
  request : ℕ → Reading → Result Identifier ServerFault → Meaning → Event
  cut : ℕ → ℕ → Result Sequence ServerFault → Meaning → Event

-- the disk's meaning after an event
abbrev pub after_of : Event → Meaning
after_of (request s reading answer after) = after
after_of (cut tear supply answer after) = after

-- the disk's meaning after a history that began with a disk
abbrev pub latest : Meaning → List Event → Meaning
latest start [] = start
latest start (event ∷ past) = after_of event

-- what an event asks of the server; a cut asks nothing
abbrev pub asks : Event → Option Ask
asks (request s reading answer after) = Some (one s reading)
asks (cut tear supply answer after) = None

-- what an event tells of the series: one gave so many ranks at a reading, with these identifiers, the oldest first; one denied a
-- request at a reading; nothing; or all woke with the disk
pub data Told : Type 0 where
  gave : ℕ → Reading → ℕ → List Identifier → Told
  refused : ℕ → Reading → Told
  silent : Told
  woke : Meaning → Told

abbrev pub told : Event → Told
told (request s reading (Ok identifier) after) = gave s reading 1 (identifier ∷ [])
told (request s reading (Err fault) after) = refused s reading
told (cut tear supply answer after) = woke after

-- a floor, 0 where there is none
abbrev pub or_zero : Option Rank → ℕ
or_zero None = 0
or_zero (Some floor) = floor.0

-- the floor of a reading, 0 where it has none
abbrev pub floor_of : Numbering → Reading → ℕ
floor_of k reading = or_zero (k.floor reading)

-- the end of a series as a disk reads
abbrev pub end_in : Numbering → Meaning → Meaning → ℕ → ℕ
end_in k start m s = end_of (format k start) m.reading s

-- next, which starts anew at each cut: the successor of the newest rank that the series has given since, and while it has given
-- none, its end on the disk that the cut left (before any cut, on the first disk)
abbrev pub next_by : Numbering → Meaning → ℕ → Told → ℕ → ℕ
next_by k start s (gave t reading n xs) was =
    if t == s then max was (floor_of k reading) + n else was
next_by k start s (woke m) was = end_in k start m s
next_by k start s tells was = was

abbrev pub next : Numbering → Meaning → ℕ → List Event → ℕ
next k start s [] = end_in k start start s
next k start s (event ∷ past) = next_by k start s (told event) (next k start s past)

-- the rank of a request: next, or the reading's floor where that is higher
abbrev pub rank_of : Numbering → Meaning → ℕ → Reading → List Event → ℕ
rank_of k start s reading past = max (next k start s past) (floor_of k reading)

-- the successor of the newest rank that the series has given, cuts or not; 0 before the first
abbrev pub after_by : Numbering → ℕ → Told → ℕ → ℕ → ℕ
after_by k s (gave t reading n xs) next was =
    if t == s then max next (floor_of k reading) + n else was
after_by k s tells next was = was

abbrev pub after_last : Numbering → Meaning → ℕ → List Event → ℕ
after_last k start s [] = 0
after_last k start s (event ∷ past) =
    after_by k s (told event) (next k start s past) (after_last k start s past)

-- of the requests that the series has denied since it last gave a rank, the highest floor; 0 without one
abbrev pub floor_by : Numbering → ℕ → Told → ℕ → ℕ
floor_by k s (gave t reading n xs) was = if t == s then 0 else was
floor_by k s (refused t reading) was = if t == s then max was (floor_of k reading) else was
floor_by k s tells was = was

abbrev pub floor_since : Numbering → ℕ → List Event → ℕ
floor_since k s [] = 0
floor_since k s (event ∷ past) = floor_by k s (told event) (floor_since k s past)

-- the cuts since a rank was last given in the series
abbrev pub cuts_by : ℕ → Told → ℕ → ℕ
cuts_by s (gave t reading n xs) was = if t == s then 0 else was
cuts_by s (woke m) was = was + 1
cuts_by s tells was = was

abbrev pub cuts_since : ℕ → List Event → ℕ
cuts_since s [] = 0
cuts_since s (event ∷ past) = cuts_by s (told event) (cuts_since s past)

-- the ranks that one cut may lose after these calls: a block size
unfoldable pub lost : Numbering → List Event → ℕ
lost k past = k.block

-- the ranks that so many cuts may lose
abbrev pub loss : Numbering → List Event → ℕ → ℕ
loss k past cuts = cuts * lost k past

-- identifiers put in front of others, one after the other
abbrev pub pushed : List Identifier → List Identifier → List Identifier
pushed [] was = was
pushed (x ∷ xs) was = pushed xs (x ∷ was)

-- the identifiers given in a series, the newest first
abbrev pub labels_by : ℕ → Told → List Identifier → List Identifier
labels_by s (gave t reading n xs) was = if t == s then pushed xs was else was
labels_by s tells was = was

abbrev pub labels : ℕ → List Event → List Identifier
labels s [] = []
labels s (event ∷ past) = labels_by s (told event) (labels s past)

-- what is told of the eight series; 0 of any other
abbrev pub of_eight : (ℕ → ℕ) → ℕ → ℕ
of_eight tells s = if nat_lt s 8 then tells s else 0

-- what a call wants of a server that is up: the rule by which a server decides, by what calls and disk tell
abbrev pub wish : Numbering → Meaning → Ask → List Event → Wish
wish k start ask past =
    decide k
    (of_eight (end_in k start (latest start past)))
    (of_eight (λ s. next k start s past))
    ask

-- the top record as the disk reads
abbrev pub top_record : Numbering → Meaning → List Event → ℕ
top_record k start past = top (format k start) (latest start past).reading

-- sequence numbers suffice for one more reservation: top record + 8 is not above 2^62 - 1
abbrev pub numbers_suffice : Numbering → Meaning → List Event → Bool
numbers_suffice k start past = nat_le (top_record k start past + 8) (2 ^ 62 - 1)

-- the writes of a reservation
abbrev pub steps_of : Numbering → Meaning → List Event → ℕ → Range → List Step
steps_of k start past s claimed = plan (format k start) 7 s claimed.end (latest start past).reading

-- the writes that a wish asks for: those of the reservation that it claims, as long as numbers suffice, and else none
abbrev pub wanted_by : Numbering → Meaning → List Event → Wish → List Step
wanted_by k start past (draws s first n (Some claimed)) =
    if numbers_suffice k start past then steps_of k start past s claimed else []
wanted_by k start past want = []

-- the writes that a call asks for on a server that is up
abbrev pub wanted : Numbering → Meaning → Ask → List Event → List Step
wanted k start ask past = wanted_by k start past (wish k start ask past)

-- each write is followed by its flush, so a supply below twice the writes goes dark in one of them
abbrev pub too_little : ℕ → List Step → Bool
too_little supply steps = nat_lt supply (2 * length steps)

-- the disk went dark, and no cut came since
abbrev pub dark_by : Numbering → Meaning → List Event → Bool → Option Ask → Bool
dark_by k start past was None = false
dark_by k start past was (Some ask) =
    was || too_little (latest start past).supply (wanted k start ask past)

abbrev pub dark : Numbering → Meaning → List Event → Bool
dark k start [] = false
dark k start (event ∷ past) = dark_by k start past (dark k start past) (asks event)

-- the writes that a call asks for: none where the disk went dark before
abbrev pub asked : Numbering → Meaning → Ask → List Event → List Step
asked k start ask past = if dark k start past then [] else wanted k start ask past

-- the operations of a call that succeed
abbrev pub succeeded : Numbering → Meaning → Ask → List Event → List Op
succeeded k start ask past =
    performed (format k start) (asked k start ask past) (latest start past).supply

-- the operations that an event tries with so much supply: those of the writes that its call asks for; a cut tries none
abbrev pub tried_by : Numbering → Meaning → List Event → ℕ → Option Ask → List Op
tried_by k start past supply None = []
tried_by k start past supply (Some ask) = tried (format k start) (asked k start ask past) supply

-- the writes that succeeded
abbrev pub writes_by : Numbering → Meaning → List Event → ℕ → Option Ask → ℕ
writes_by k start past was None = was
writes_by k start past was (Some ask) = was + writes_in (succeeded k start ask past)

abbrev pub writes : Numbering → Meaning → List Event → ℕ
writes k start [] = 0
writes k start (event ∷ past) = writes_by k start past (writes k start past) (asks event)

-- a reservation that was not flushed stands where, after the next cut, its end is the series' end as the disk reads
abbrev pub left_standing : Numbering → Meaning → ℕ → ℕ → Option Meaning → Bool
left_standing k start s end None = false
left_standing k start s end (Some left) = end_in k start left s == end

-- whether a reservation of these writes stands: a flushed one does, any other as the next cut left it
abbrev pub stood : Numbering → Meaning → ℕ → ℕ → ℕ → Option Meaning → List Step → Bool
stood k start s end supply next_cut steps =
    if too_little supply steps then left_standing k start s end next_cut else true

-- the reservation of a series that these writes make, if it stands
abbrev pub reserved_by :
    Numbering → Meaning → ℕ → ℕ → Option Meaning → Wish → List Step → List Range
reserved_by k start s supply next_cut (draws t first n (Some claimed)) (step ∷ steps) =
    if t == s && stood k start s claimed.end supply next_cut (step ∷ steps)
    then claimed ∷ []
    else []
reserved_by k start s supply next_cut want steps = []

-- the reservation of a series that a call made, if it stands; next_cut is what the first cut after it left, if there was one
abbrev pub made : Numbering → Meaning → ℕ → Option Meaning → List Event → Option Ask → List Range
made k start s next_cut past None = []
made k start s next_cut past (Some ask) =
    reserved_by k start s (latest start past).supply next_cut
    (wish k start ask past) (asked k start ask past)

-- what the first cut left from an event on: the event's own disk where it asks nothing
abbrev pub cut_from : Option Ask → Meaning → Option Meaning → Option Meaning
cut_from None after next_cut = Some after
cut_from (Some ask) after next_cut = next_cut

-- the reservations of a series that stand, the newest first
abbrev pub standing : Numbering → Meaning → ℕ → Option Meaning → List Event → List Range
standing k start s next_cut [] = []
standing k start s next_cut (event ∷ past) =
    made k start s next_cut past (asks event)
    ++ standing k start s (cut_from (asks event) (after_of event) next_cut) past

-- one of these covers a rank
abbrev pub IsCovered : ℕ → List Range → Type 0
IsCovered rank [] = ⊥
IsCovered rank (r ∷ older) = ((r.first ≤ rank) × (rank < r.end)) ⊎ IsCovered rank older

-- how many of these were made before the one that covers a rank
abbrev pub made_before : ℕ → List Range → ℕ
made_before rank [] = 0
made_before rank (r ∷ older) =
    if nat_le r.first rank && nat_lt rank r.end then length older else made_before rank older
