-- A request line of 21 columns: the letter in 1, field A up to 6, field B up to 20, the line feed in 21.
use Rattle.std.specs.Prelude.{ℕ, Bool, true, false, if◌then◌else◌, ◌&&◌, ◌||◌, List, [], ◌∷◌, codes, length, Some, None, Ok, Err, Option, Result, ◌==◌, nat_le, slice_index}
use Rattle.std.specs.List.{between}
use Rattle.simulator.specs.Field.{field}
use Rattle.simulator.specs.declared.request.Command.{Command}
use Rattle.simulator.specs.declared.request.Command.TheVariants.{Disk, Serial, Time, Box, Give, Cut}
use Rattle.simulator.specs.declared.request.Fields.{Fields}
use Rattle.simulator.specs.declared.request.Item.{Item}
use Rattle.simulator.specs.declared.request.Item.TheVariants.{Letter, A as FieldA, B as FieldB, LineFeed}

-- the letters D, S, T, B, G and C
abbrev pub command_for : ℕ → Option Command
command_for letter =
    if letter == 68 then Some Disk
    else if letter == 83 then Some Serial
    else if letter == 84 then Some Time
    else if letter == 66 then Some Box
    else if letter == 71 then Some Give
    else if letter == 67 then Some Cut
    else None

-- the command of a line, by its first byte
abbrev pub command_in : List ℕ → Option Command
command_in [] = None
command_in (letter ∷ rest) = command_for letter

-- the column that an item begins in
abbrev pub column_of : Item → ℕ
column_of Letter = 1
column_of FieldA = 2
column_of FieldB = 7
column_of LineFeed = 21

-- what is wrong with an item
abbrev pub item_text : Item → List ℕ
item_text Letter = codes "the letter in column 1 is none that may come here"
item_text FieldA = codes "field A is no number at the right end of columns 2 to 6"
item_text FieldB = codes "field B is no number at the right end of columns 7 to 20, or must be 0"
item_text LineFeed = codes "the line does not end with a line feed in column 21"

-- field B must be 0 after S and T
abbrev pub uses_b : Command → Bool
uses_b Serial = false
uses_b Time = false
uses_b command = true

-- the number in the bytes from one place up to another; none where the line ends before
abbrev pub number_at : List ℕ → ℕ → ℕ → Option ℕ
number_at line from to = if nat_le to (length line) then field (between from to line) else None

-- a line has 21 bytes, the last of them a line feed
abbrev pub is_closed : List ℕ → Bool
is_closed line = length line == 21 && slice_index line 20 == 10

-- by field B, once field A is told
abbrev pub with_b : Command → List ℕ → ℕ → Option ℕ → Result Fields Item
with_b command line a None = Err FieldB
with_b command line a (Some b) =
    if uses_b command || b == 0 then
    if is_closed line then Ok (record { a = a; b = b }) else Err LineFeed
    else Err FieldB

-- by field A
abbrev pub with_a : Command → List ℕ → Option ℕ → Result Fields Item
with_a command line None = Err FieldA
with_a command line (Some a) = with_b command line a (number_at line 6 20)

-- the fields of a line, or the first item after the letter that is wrong
abbrev pub fields_in : Command → List ℕ → Result Fields Item
fields_in command line = with_a command line (number_at line 1 6)
