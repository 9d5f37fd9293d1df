-- The print line of 34 bytes.
use Rattle.std.specs.Prelude.{ℕ, zero, suc, ◌+◌, ◌/◌, ◌%◌, if◌then◌else◌, List, [], ◌∷◌, ◌++◌, ◌==◌}
use Rattle.simulator.specs.declared.answer.Columns.{Columns}

-- the last digit of what is left of a number; a space where nothing is left
abbrev pub column : ℕ → ℕ
column rest = if rest == 0 then 32 else 48 + rest % 10

-- the columns before the last digit of a number: the digits of the rest, and spaces before them
unfoldable pub columns_before : ℕ → ℕ → List ℕ
columns_before zero rest = []
columns_before (suc w) rest = columns_before w (rest / 10) ++ (column rest ∷ [])

-- a number in so many columns, right-justified, spaces before it
unfoldable pub justified : ℕ → ℕ → List ℕ
justified zero number = []
justified (suc w) number = columns_before w (number / 10) ++ ((48 + number % 10) ∷ [])

-- 6 columns have the line's number, 4 the series, 3 the code and 20 the last number; a line feed ends them
unfoldable pub printed : ℕ → Columns → List ℕ
printed number c =
    justified 6 number
    ++ (justified 4 c.series
    ++ (justified 3 c.code
    ++ (justified 20 c.last
    ++ (10 ∷ []))))
