-- Document 01, "Bytes of a file": which bytes a text may hold, and what ends a field.
use Rattle.std.specs.Prelude.{ℕ, suc, ◌+◌, List, [], ◌∷◌, Bool, true, false, not, eqb, leb, drop}
use Rattle.laws.specs.Tests.{pick, both, one_of}

-- the bytes that have a meaning of their own
abbrev pub quote : ℕ
quote = 34

abbrev pub comma : ℕ
comma = 44

abbrev pub semicolon : ℕ
semicolon = 59

abbrev pub CR : ℕ
CR = 13

abbrev pub LF : ℕ
LF = 10

-- what ends a field: a quote directly followed by a comma or a semicolon
unfoldable pub ends : List ℕ → Bool
ends [] = false
ends (a ∷ []) = false
ends (a ∷ b ∷ after) = both (eqb a quote) (one_of (eqb b comma) (eqb b semicolon))

-- the five bytes that CP1250 doesn't define
unfoldable pub undefined : ℕ → Bool
undefined b = one_of (eqb b 0x81) (one_of (eqb b 0x83) (one_of (eqb b 0x88) (one_of (eqb b 0x90) (eqb b 0x98))))

-- permitted text bytes: 32-126 and 128-255 except those five
unfoldable pub permitted_byte : ℕ → Bool
permitted_byte b = both (one_of (both (leb 32 b) (leb b 126)) (both (leb 128 b) (leb b 255))) (not (undefined b))

-- a text goes on with the first of these bytes: it is permitted, and no field ends here
unfoldable pub goes_on : List ℕ → Bool
goes_on [] = false
goes_on (b ∷ after) = both (permitted_byte b) (not (ends (b ∷ after)))

-- a permitted text: permitted bytes, and no quote directly followed by a comma or semicolon
unfoldable pub permitted_text : List ℕ → Bool
permitted_text [] = true
permitted_text (b ∷ t) = both (goes_on (b ∷ t)) (permitted_text t)

-- how many of these bytes a text goes on with
unfoldable pub goes : List ℕ → ℕ
goes [] = 0
goes (b ∷ l) = pick (goes_on (b ∷ l)) (suc (goes l)) 0

-- how many bytes lead past its closing quote, or to where it stops if no field ends there
unfoldable pub closes : List ℕ → ℕ
closes l = goes l + pick (ends (drop (goes l) l)) 1 0

-- a plain byte: permitted, and a text goes on with it whatever follows
unfoldable pub plain : ℕ → Bool
plain b = both (permitted_byte b) (not (eqb b quote))

-- how many plain bytes stand before the first that is not
unfoldable pub plain_run : List ℕ → ℕ
plain_run [] = 0
plain_run (b ∷ l) = pick (plain b) (suc (plain_run l)) 0

-- the class of each byte: `.` for a plain one, else `#`
unfoldable pub class_of : ℕ → ℕ
class_of b = pick (plain b) 46 35

-- how many bytes of `due` stand at the front of l
unfoldable pub matched : List ℕ → List ℕ → ℕ
matched [] l = 0
matched (d ∷ due) [] = 0
matched (d ∷ due) (b ∷ l) = pick (eqb b d) (suc (matched due l)) 0

-- the first of these bytes is b
unfoldable pub starts : ℕ → List ℕ → Bool
starts b [] = false
starts b (x ∷ l) = eqb x b
