-- `routes::survey` meets its contract. The loop's invariant: the ways to the files below `file` are kept.
use mathlib.Core.Path.{◌≡◌, refl, subst, ◌∙◌}
use mathlib.Core.List.{List}
use Prim.Native.Nat.{ℕ, ◌+◌, ◌*◌, ◌<◌}
use native.Mathlib.Omega.{arith}
use lib.ListN.{length, set, length-set}
use Rattle.keys.specs.KeyFiles.{KeyFile}
use Rattle.thirteen.specs.Batch.{Batch, file_in}
use Rattle.thirteen.specs.Lent.{batch_of}
use Rattle.lookup.specs.Ways.{Way}
use Rattle.routes.proofs.RouteLaws.{set_way_size, ways_more, ways_all}
use Rattle.routes.proofs.survey.Goals as goal

-- the file that was chosen by its number
keyed_file : (b : Batch) (file : ℕ) (s : List ℕ) → s ≡ file_in b file → KeyFile file (file_in b file) → KeyFile file s
keyed_file b file s e k = rw e k

pub way_to-w-requires : goal.way_to-w-requires
way_to-w-requires c =
    let files : Batch = batch_of c.args.files.now in
    let k = c.requires.1 c.loop-file.file (omega arith, omega arith) in
    (keyed_file files c.loop-file.file _ c.file_of-s.ensures k, c.loop-file.invariant.0)

pub loop-file-preserved : goal.loop-file-preserved
loop-file-preserved c =
    let files : Batch = batch_of c.args.files.now in
    let l = c.loop-file in
    let w = c.way_to-w.ensures in
    let size : l.file * 3 + 2 < length l.ways = omega (arith, l.invariant.1) in
    let way = subst (λ (s : List ℕ). Way l.file s c.args.order.now c.way_to-w.result.how c.way_to-w.result.from c.way_to-w.result.to) c.file_of-s.ensures w.0 in
    let kept = set_way_size l.ways l.file c.way_to-w.result.how c.way_to-w.result.from c.way_to-w.result.to in
    (w.1, omega (arith, l.invariant.1, kept), kept ∙ l.invariant.2, ways_more files c.args.order.now l.ways l.file _ _ _ l.invariant.3 size way)

pub loop-file-init : goal.loop-file-init
loop-file-init c = (omega arith, c.requires.0, refl, λ k l m. absurd (omega arith))

pub bounds-ways-i : goal.bounds-ways-i
bounds-ways-i c = omega (arith, c.loop-file.invariant.1)

pub bounds-ways-i-in-loop-file : goal.bounds-ways-i-in-loop-file
bounds-ways-i-in-loop-file c = let l = c.loop-file in omega (arith, l.invariant.1, length-set l.ways (l.file * 3) c.way_to-w.result.how)

pub bounds-ways-i-in-loop-file-2 : goal.bounds-ways-i-in-loop-file-2
bounds-ways-i-in-loop-file-2 c = let l = c.loop-file in
    let w = c.way_to-w.result in
    omega (arith, l.invariant.1, length-set (set l.ways (l.file * 3) w.how) (l.file * 3 + 1) w.from, length-set l.ways (l.file * 3) w.how)

pub shape_of-ways : goal.shape_of-ways
shape_of-ways c = c.loop-file.invariant.2

pub returns : goal.returns
returns c = let l = c.loop-file in ways_all _ _ l.ways l.file l.invariant.3 (omega arith)
