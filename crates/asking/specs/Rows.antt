-- Many questions in one flat list, seven numbers each: line, trip, day, month, year, and two tariff numbers; a last incomplete one is no question. An answer
-- is three: document 01's number, and the two minutes, 0 with a refusal.
use Rattle.std.specs.Prelude.{ℕ, suc, ◌+◌, List, [], ◌∷◌, ◌++◌, get_or}
use Rattle.laws.specs.Numbered.{Numbered}

-- the three numbers of an answer
unfoldable pub row : Numbered → List ℕ
row a = a.number ∷ get_or a.values 0 0 ∷ get_or a.values 1 0 ∷ []

-- a question's answer, by its seven numbers
abbrev pub Ask : Type 0
Ask = ℕ → ℕ → ℕ → ℕ → ℕ → ℕ → ℕ → Numbered

-- the three numbers of the answer to the question at place i
abbrev pub row_at : Ask → List ℕ → ℕ → List ℕ
row_at ask s i = row (ask (get_or s i 0) (get_or s (i + 1) 0) (get_or s (i + 2) 0) (get_or s (i + 3) 0) (get_or s (i + 4) 0) (get_or s (i + 5) 0) (get_or s (i + 6) 0))

-- how many questions there are: seven numbers each
unfoldable pub questions : List ℕ → ℕ
questions (a ∷ b ∷ c ∷ d ∷ e ∷ f ∷ g ∷ more) = suc (questions more)
questions [] = 0
questions (a ∷ []) = 0
questions (a ∷ b ∷ []) = 0
questions (a ∷ b ∷ c ∷ []) = 0
questions (a ∷ b ∷ c ∷ d ∷ []) = 0
questions (a ∷ b ∷ c ∷ d ∷ e ∷ []) = 0
questions (a ∷ b ∷ c ∷ d ∷ e ∷ f ∷ []) = 0

-- their answers one after the other
unfoldable pub rows : Ask → List ℕ → List ℕ
rows ask (a ∷ b ∷ c ∷ d ∷ e ∷ f ∷ g ∷ more) = row (ask a b c d e f g) ++ rows ask more
rows ask [] = []
rows ask (a ∷ []) = []
rows ask (a ∷ b ∷ []) = []
rows ask (a ∷ b ∷ c ∷ []) = []
rows ask (a ∷ b ∷ c ∷ d ∷ []) = []
rows ask (a ∷ b ∷ c ∷ d ∷ e ∷ []) = []
rows ask (a ∷ b ∷ c ∷ d ∷ e ∷ f ∷ []) = []
