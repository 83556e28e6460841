-- Document 01, "The check program and the desk host": what the check program's line is made of, as bytes with its LF.
use Rattle.std.specs.Prelude.{ℕ, List, [], ◌∷◌, ◌++◌}
use Rattle.decimal.specs.Digits.{digits_of}

-- a text and a number behind it, in decimal without leading zeros
abbrev pub labelled : List ℕ → ℕ → List ℕ
labelled text n = text ++ digits_of n

-- LF
abbrev pub line_end : List ℕ
line_end = 10 ∷ []

-- `ACCEPTED stops 2 lines 1 trips 1 trip stops 2` and LF, of the four counts
unfoldable pub accepted_line : ℕ → ℕ → ℕ → ℕ → List ℕ
accepted_line stops lines trips trip_stops =
    -- `ACCEPTED stops `
    labelled (65 ∷ 67 ∷ 67 ∷ 69 ∷ 80 ∷ 84 ∷ 69 ∷ 68 ∷ 32 ∷ 115 ∷ 116 ∷ 111 ∷ 112 ∷ 115 ∷ 32 ∷ []) stops
    -- ` lines `
    ++ (labelled (32 ∷ 108 ∷ 105 ∷ 110 ∷ 101 ∷ 115 ∷ 32 ∷ []) lines
    -- ` trips `
    ++ (labelled (32 ∷ 116 ∷ 114 ∷ 105 ∷ 112 ∷ 115 ∷ 32 ∷ []) trips
    -- ` trip stops `
    ++ (labelled (32 ∷ 116 ∷ 114 ∷ 105 ∷ 112 ∷ 32 ∷ 115 ∷ 116 ∷ 111 ∷ 112 ∷ 115 ∷ 32 ∷ []) trip_stops ++ line_end)))

-- `REFUSED 8 file 7 record 2 field 4 at 0` and LF, of the number and the place
unfoldable pub refused_line : ℕ → ℕ → ℕ → ℕ → ℕ → List ℕ
refused_line number file row column offset =
    -- `REFUSED `
    labelled (82 ∷ 69 ∷ 70 ∷ 85 ∷ 83 ∷ 69 ∷ 68 ∷ 32 ∷ []) number
    -- ` file `
    ++ (labelled (32 ∷ 102 ∷ 105 ∷ 108 ∷ 101 ∷ 32 ∷ []) file
    -- ` record `
    ++ (labelled (32 ∷ 114 ∷ 101 ∷ 99 ∷ 111 ∷ 114 ∷ 100 ∷ 32 ∷ []) row
    -- ` field `
    ++ (labelled (32 ∷ 102 ∷ 105 ∷ 101 ∷ 108 ∷ 100 ∷ 32 ∷ []) column
    -- ` at `
    ++ (labelled (32 ∷ 97 ∷ 116 ∷ 32 ∷ []) offset ++ line_end))))
