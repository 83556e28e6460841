-- `is_holiday` meets its contract: whether the day is in what is left of the list is whether it is in the whole.
use mathlib.Core.Path.{◌≡◌, sym, ◌∙◌}
use mathlib.Core.Bool.{true, false}
use mathlib.Core.List.{List}
use Prim.Native.Nat.{ℕ, ◌+◌, ◌≤◌, ◌<◌}
use native.Mathlib.Numerals.{add-one}
use native.Mathlib.Omega.{arith}
use borrow.Author.Tests.{eq-eqb, ne_eqb}
use lib.ListN.{length, get_or, drop, drop_of_length-le}
use lib.Seq.{drop-cons}
use Rattle.signs.specs.Signs.{is_holiday}
use Rattle.signs.proofs.is_holiday.Goals as goal

hit : (hs : List ℕ) (i n : ℕ) → i < length hs → get_or hs i 0 ≡ n → is_holiday (drop i hs) n ≡ true
unfolding is_holiday
hit hs i n h e = rw (drop-cons hs i 0, eq-eqb (get_or hs i 0) n e)

miss : (hs : List ℕ) (i n : ℕ) → i < length hs → (get_or hs i 0 ≡ n → ⊥) → is_holiday (drop i hs) n ≡ is_holiday (drop (i + 1) hs) n
unfolding is_holiday
miss hs i n h e = rw (add-one, drop-cons hs i 0, ne_eqb (get_or hs i 0) n e)

done : (hs : List ℕ) (i n : ℕ) → length hs ≤ i → is_holiday (drop i hs) n ≡ false
unfolding is_holiday
done hs i n h = rw (drop_of_length-le hs h)

pub returns-then-holidays-i : goal.returns-then-holidays-i
returns-then-holidays-i c = let hs = c.args.holidays.now in
    let h : c.loop-i.i < length hs = omega arith in
    sym (hit hs _ _ h c.if-holidays-i.true) ∙ c.loop-i.invariant

pub loop-i-preserved : goal.loop-i-preserved
loop-i-preserved c = let hs = c.args.holidays.now in
    let h : c.loop-i.i < length hs = omega arith in
    sym (miss hs _ _ h c.if-holidays-i.false) ∙ c.loop-i.invariant

pub returns : goal.returns
returns c = let hs = c.args.holidays.now in
    let h : length hs ≤ c.loop-i.i = omega arith in
    sym (done hs _ _ h) ∙ c.loop-i.invariant
