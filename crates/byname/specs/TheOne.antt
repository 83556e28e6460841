-- The one stop of a name: document 01, 23 and 24.
use Rattle.std.specs.Prelude.{List, [], ◌∷◌, length}
use Rattle.laws.specs.Numbered.{Numbered, answered, refused}
use Rattle.file.specs.Format.{Fields}
use Rattle.link.specs.Met.{number}
use Rattle.named.specs.Names.{several}

-- the number of the one stop; 23 for none, 24 for several
unfoldable pub the_one : List Fields → Numbered
the_one [] = refused 23
the_one (r ∷ []) = answered (number 1 r ∷ [])
the_one (r ∷ q ∷ rs) = several (length (r ∷ q ∷ rs))
