-- A stream of bytes cut into lines, and how much of a line has to be held.
use Rattle.std.specs.Prelude.{◌≡◌, ℕ, suc, Bool, true, false, if◌then◌else◌, List, [], ◌∷◌, ◌++◌, take, Some, None, Option, ◌==◌, option_map}
use Rattle.simulator.specs.Request.{command_in, fields_in}
use Rattle.simulator.specs.declared.partial.Partial.{Partial}
use Rattle.simulator.specs.declared.partial.TheConstants.{HELD_BYTES}
use Rattle.simulator.specs.declared.request.Command.{Command}

-- the count of bytes up to the first line feed and with it, if there is one
abbrev pub line_end : List ℕ → Option ℕ
line_end [] = None
line_end (b ∷ bs) = if b == 10 then Some 1 else option_map suc (line_end bs)

-- the bytes of the first line, or all of them where no line feed comes
abbrev pub up_to : List ℕ → Option ℕ → List ℕ
up_to bytes None = bytes
up_to bytes (Some n) = take n bytes

-- the bytes of the first line of some bytes
abbrev pub first_bytes : List ℕ → List ℕ
first_bytes bytes = up_to bytes (line_end bytes)

-- a line ends with its line feed, and the next one begins; else it goes on
abbrev pub ended_if : Bool → List ℕ → (List ℕ → List (List ℕ)) → List (List ℕ)
ended_if true line next = line ∷ next []
ended_if false line next = next line

-- bytes cut into lines, the first of which has begun with other bytes: each has its line feed, but for a
-- last one without it
unfoldable pub lines_from : List ℕ → List ℕ → List (List ℕ)
lines_from [] [] = []
lines_from [] (b ∷ line) = (b ∷ line) ∷ []
lines_from (b ∷ bs) line = ended_if (b == 10) (line ++ (b ∷ [])) (lines_from bs)

-- the lines of a file
abbrev pub lines_of : List ℕ → List (List ℕ)
lines_of bytes = lines_from bytes []

-- the bytes that are held of a line
abbrev pub held_bytes : Partial → List ℕ
held_bytes p = take p.count p.bytes

-- the first bytes of a line, as many as are held, have its command and its fields, or the same first wrong item
pub record TellsAsMuch : Type 0 where
  pub command : (line : List ℕ) → command_in (take HELD_BYTES line) ≡ command_in line
  pub fields : (c : Command) (line : List ℕ) → fields_in c (take HELD_BYTES line) ≡ fields_in c line
