-- `tags::first_link` meets its contract, file by file: one test that is computed over the fields before it.
use mathlib.Core.Path.{◌≡◌, refl}
use mathlib.Core.List.{[]}
use Prim.Native.Nat.{ℕ, zero, suc, ◌+◌, ◌≤◌, ◌<◌}
use native.Mathlib.Omega.{arith}
use lib.Dec.{ltb}
use borrow.Author.Tests.{ltb-true, ltb-false}
use Rattle.laws.specs.Tests.{either}
use Rattle.link.specs.Links.{links, links_in, link_of, zastavky, linky, zasspoje, caskody, altdop}
use Rattle.link.specs.declared.Link.{Link}
use Rattle.link.proofs.MatchLaws.{free_below}
use Rattle.tags.specs.Tags.{FreeBefore}
use Rattle.tags.proofs.first_link.Goals as goal

-- what is promised, of a file by the number that it was found to have
abbrev First : ℕ → ℕ → Type 0
First file r = (1 ≤ r) × (r ≤ links_in file + 1) × FreeBefore file r

first_in : (n r : ℕ) {file : ℕ} → file ≡ n → First n r → First file r
first_in n r e f = rw e f

none_before : (file i : ℕ) → i < 1 → Link.Free ≡ link_of file i
unfolding link_of
none_before file zero h = refl
none_before file (suc i) h = absurd (omega arith)

pub returns-in-2 : goal.returns-in-2
unfolding links_in link_of links zastavky
returns-in-2 c = first_in 2 7 c.in-2.is (omega arith, omega arith, λ (i : ℕ) h. free_below zastavky [] 7 tt i h tt)

pub returns-in-5 : goal.returns-in-5
unfolding links_in link_of links linky
returns-in-5 c = first_in 5 3 c.in-5.is (omega arith, omega arith, λ (i : ℕ) h. free_below linky [] 3 tt i h tt)

pub returns-in-8 : goal.returns-in-8
unfolding links_in link_of links zasspoje
returns-in-8 c = first_in 8 2 c.in-8.is (omega arith, omega arith, λ (i : ℕ) h. free_below zasspoje [] 2 tt i h tt)

-- files 10 and 11
two_more : (file : ℕ) → 10 ≤ file → file < 12 → First file 2
unfolding links_in link_of links caskody altdop
two_more file h l =
    either (ltb file 11)
    (λ t. first_in 10 2 (omega (arith, ltb-true file 11 t)) (omega arith, omega arith, λ (i : ℕ) h. free_below caskody [] 2 tt i h tt))
    (λ t. first_in 11 2 (omega (arith, ltb-false file 11 t)) (omega arith, omega arith, λ (i : ℕ) h. free_below altdop [] 2 tt i h tt))

pub returns-in-8-2 : goal.returns-in-8-2
returns-in-8-2 c = two_more c.args.file (omega arith) (omega arith)

pub returns-in_default : goal.returns-in_default
returns-in_default c = (omega arith, omega arith, none_before _)

pub returns-in_default-2 : goal.returns-in_default-2
returns-in_default-2 c = (omega arith, omega arith, none_before _)
