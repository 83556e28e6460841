-- `reader::text_after` meets its contract: the text starts behind its opening quote, and goes on to its end in the part from there on.
use mathlib.Core.Path.{◌≡◌}
use mathlib.Core.List.{List}
use Prim.Native.Nat.{ℕ, ◌+◌, ◌-◌}
use native.Mathlib.Omega.{arith}
use lib.ListN.{length, take, drop, length-drop}
use lib.Seq.{take_all}
use Rattle.file.specs.Bytes.{goes}
use Rattle.file.specs.Reader.{text_after}
use Rattle.reader.proofs.text_after.Goals as goal

-- the part from a place on is the rest of the file
rest : (s : List ℕ) (at : ℕ) → take (length s - at) (drop at s) ≡ drop at s
rest s at = take_all (length s - at) (drop at s) (simp length-drop (omega arith))

pub returns : goal.returns
unfolding text_after
returns c =
    let o = c.opening_of-start in
    let e = c.text_end-size.ensures in
    let s = c.args.s.now in
    let p = rw (rest s (o.result + 1)) at e.place in
    let n = rw (rest s (o.result + 1)) at e.near in
    let z : c.text_end-size.result ≡ goes (drop (o.result + 1) s) = omega arith in
    (rw (o.ensures.text, z), omega (arith, length-drop (o.result + 1) s, o.ensures.near))
