-- Document 01, "The batch": the links of each file, with the field that is reported. Codes link to Pevnykod; an empty code links to
-- nothing. Links compare numbers by value.
use Rattle.std.specs.Prelude.{ℕ, List, [], ◌∷◌, ◌++◌, Bool, true, eqb, get_or, length, replicate}
use Rattle.laws.specs.Tests.{one_of}
use Rattle.file.specs.Format.{Fields}
use Rattle.field.specs.Values.{is_empty, value}
use Rattle.field.specs.Names.{field}
use Rattle.keys.specs.Keys.{numbers, has}
use Rattle.thirteen.specs.Batch.{Batch, records_of}
use Rattle.link.specs.declared.Link.{Link}

-- the links of a record's fields, from field 1 on; no field behind these has one
unfoldable pub zastavky : List Link
zastavky = replicate 6 Link.Free ++ replicate 6 Link.Code

unfoldable pub linky : List Link
linky = Link.Free ∷ Link.Free ∷ Link.Carrier ∷ []

unfoldable pub spoje : List Link
spoje = Link.Line ∷ Link.Free ∷ replicate 10 Link.Code

unfoldable pub zaslinky : List Link
zaslinky = Link.Line ∷ Link.Free ∷ Link.Free ∷ Link.Stop ∷ replicate 3 Link.Code

unfoldable pub zasspoje : List Link
zasspoje = Link.Free ∷ Link.Trip ∷ Link.LineStop ∷ Link.Stop ∷ Link.Free ∷ replicate 2 Link.Code

unfoldable pub udaje : List Link
udaje = Link.Line ∷ []

unfoldable pub caskody : List Link
caskody = Link.Free ∷ Link.Trip ∷ []

unfoldable pub altdop : List Link
altdop = Link.Free ∷ Link.Trip ∷ Link.Carrier ∷ replicate 6 Link.Code

unfoldable pub altlinky : List Link
altlinky = Link.Line ∷ []

unfoldable pub mistenky : List Link
mistenky = Link.Line ∷ Link.TripOrZero ∷ []

-- there is no file 0, and VerzeJDF, Pevnykod and Dopravci have no links
unfoldable pub links : List (List Link)
links = [] ∷ [] ∷ zastavky ∷ [] ∷ [] ∷ linky ∷ spoje ∷ zaslinky ∷ zasspoje ∷ udaje ∷ caskody ∷ altdop ∷ altlinky ∷ mistenky ∷ []

-- no field behind so many has a link in this file
unfoldable pub links_in : ℕ → ℕ
links_in file = length (get_or links file [])

-- the link of field f, from 1, of this file
unfoldable pub link_of : ℕ → ℕ → Link
link_of file f = get_or (Link.Free ∷ get_or links file []) f Link.Free

-- the file that it goes to: Linky, Zastavky, Dopravci, Spoje, Zaslinky, Pevnykod
unfoldable pub target : Link → ℕ
target Link.Free = 0
target Link.Line = 5
target Link.Stop = 2
target Link.Carrier = 4
target Link.Trip = 6
target Link.TripOrZero = 6
target Link.LineStop = 7
target Link.Code = 3

-- the fields whose numbers are the key there, where the link is reported at field f
unfoldable pub link_fields : Link → ℕ → List ℕ
link_fields Link.Free f = []
link_fields Link.Line f = f ∷ []
link_fields Link.Stop f = f ∷ []
link_fields Link.Carrier f = f ∷ []
link_fields Link.Trip f = 1 ∷ 2 ∷ []
link_fields Link.TripOrZero f = 1 ∷ 2 ∷ []
link_fields Link.LineStop f = 1 ∷ 3 ∷ []
link_fields Link.Code f = f ∷ []

-- there is such a record
unfoldable pub reaches : Batch → Link → ℕ → Fields → Bool
reaches b link f r = has (target link) (numbers (link_fields link f) r) (records_of b (target link))

-- the link is met
unfoldable pub met : Batch → Link → ℕ → Fields → Bool
met b Link.Free f r = true
met b Link.Line f r = reaches b Link.Line f r
met b Link.Stop f r = reaches b Link.Stop f r
met b Link.Carrier f r = reaches b Link.Carrier f r
met b Link.Trip f r = reaches b Link.Trip f r
met b Link.TripOrZero f r = one_of (eqb (value (field f r)) 0) (reaches b Link.Trip f r)
met b Link.LineStop f r = reaches b Link.LineStop f r
met b Link.Code f r = one_of (is_empty (field f r)) (reaches b Link.Code f r)
