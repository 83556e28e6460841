-- A field at a time: what one field does to a reading, and where it stops if it is not whole.
use Rattle.std.specs.Prelude.{Result, Ok, Err, ℕ, ◌+◌, List, ◌∷◌, Bool, eqb, ltb, get_or, length, drop}
use Rattle.laws.specs.Tests.{pick}
use Rattle.file.specs.Bytes.{quote, goes, closes, matched, starts}
use Rattle.file.specs.Format.{ending}
use Rattle.file.specs.declared.Outcome.{Outcome}
use Rattle.file.specs.declared.Outcome.TheVariants.{Unfit, CutShort}

-- what closes a field: its quote, and what follows it
abbrev pub closing : Bool → List ℕ
closing last = quote ∷ ending last

-- the fields ended in a record, and the records ended, after one more field
abbrev pub next_field : Bool → ℕ → ℕ
next_field last f = pick last 0 (f + 1)

abbrev pub next_record : Bool → ℕ → ℕ
next_record last k = pick last (k + 1) k

-- a reading that gets no further than the place p: there is an unfit byte, or the file ends
abbrev pub halt : ℕ → Bool → Outcome
halt p more = pick more (Unfit p) (CutShort p)

-- where the text that starts at `at` ends
abbrev pub end_of : List ℕ → ℕ → ℕ
end_of s at = at + goes (drop at s)

-- how much of what closes a field stands at `at`
abbrev pub closed_by : List ℕ → Bool → ℕ → ℕ
closed_by s last at = matched (closing last) (drop at s)

-- where the field comes to whose opening quote is due at `at`
unfoldable pub ahead_of : List ℕ → ℕ → Bool → Result ℕ ℕ
ahead_of s at last =
    pick (eqb (get_or s at 0) quote)
    (pick (ltb (closed_by s last (end_of s (at + 1))) (length (closing last)))
    (Err (end_of s (at + 1) + closed_by s last (end_of s (at + 1))))
    (Ok (end_of s (at + 1) + closed_by s last (end_of s (at + 1)))))
    (Err at)

-- where what follows a closing quote comes to, due from `at` on
unfoldable pub ahead_from : List ℕ → Bool → ℕ → Result ℕ ℕ
ahead_from s last at =
    pick (ltb (matched (ending last) (drop at s)) (length (ending last)))
    (Err (at + matched (ending last) (drop at s)))
    (Ok (at + matched (ending last) (drop at s)))

-- where the field comes to whose opening quote is due at `at`, by what follows its text's closing
unfoldable pub ahead_at : List ℕ → ℕ → Bool → Result ℕ ℕ
ahead_at s at last = pick (starts quote (drop at s)) (ahead_from s last (at + 1 + closes (drop (at + 1) s))) (Err at)
