-- From record to record of a legal file, and the texts of one: what is asked where a record is cut, and what its places say then.
use Rattle.std.specs.Prelude.{ℕ, ◌+◌, ◌-◌, ◌≤◌, ◌<◌, ◌≡◌, List, ◌∷◌, get_or, length, take, drop}
use Rattle.file.specs.Format.{Text, Fields}
use Rattle.file.specs.Reader.{Reads}
use Rattle.file.specs.Records.{up_to, records_in}

-- s is legal from `at` on: a record starts there, or the file ends
pub record LegalFrom (n : ℕ) (s : List ℕ) (at : ℕ) : Type 0 where
  pub count : ℕ
  pub reads : Reads n (drop at s) count

-- a record starts at `at`, and its texts have room among the places
pub record RecordAt (n : ℕ) (s : List ℕ) (at : ℕ) : Type 0 where
  pub legal : LegalFrom n s at
  pub more : at < length s
  pub room : n ≤ 13

-- where text i starts, and where it ends: a quote, a comma and a quote stand before the next
abbrev pub start_of : List ℕ → ℕ → ℕ
start_of places i = get_or places i 0

abbrev pub end_of : List ℕ → ℕ → ℕ
end_of places i = start_of places (i + 1) - 3

-- text i by its places
unfoldable pub part_of : List ℕ → List ℕ → ℕ → Text
part_of s places i = take (end_of places i - start_of places i) (drop (start_of places i) s)

-- and the record of n such texts
unfoldable pub cut_record : ℕ → List ℕ → List ℕ → Fields
cut_record n s places = up_to n (λ i. part_of s places i)

-- text i stands in s, and its places are among the fourteen
pub record Stands (s places : List ℕ) (i : ℕ) : Type 0 where
  pub few : i < 13
  pub order : start_of places i + 3 ≤ start_of places (i + 1)
  pub near : end_of places i ≤ length s

-- each of n texts does
abbrev pub Parted : ℕ → List ℕ → List ℕ → Type 0
Parted n s places = (i : ℕ) → i < n → Stands s places i

-- the record that starts at `at` was cut, and the next one starts at `next`; `old` is what the places were before
pub record Cuts (n : ℕ) (s : List ℕ) (at : ℕ) (old places : List ℕ) (next : ℕ) : Type 0 where
  pub rest : records_in n (drop at s) ≡ cut_record n s places ∷ records_in n (drop next s)
  pub legal : LegalFrom n s next
  pub far : at < next
  pub near : next ≤ length s
  pub parted : Parted n s places
  pub alone : (i : ℕ) → n < i → start_of places i ≡ start_of old i
