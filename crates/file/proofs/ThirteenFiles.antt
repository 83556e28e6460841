-- Demand 3 for the thirteen files of up to 16,777,215 bytes, as one statement over the file number, in the words of the public calls;
-- and demand 2's last sentence: what was read and is written again field by field gives the same bytes.
use mathlib.Core.Path.{◌≡◌, sym, ap, ◌∙◌}
use mathlib.Core.Bool.{true}
use mathlib.Core.List.{List, [], ◌∷◌}
use mathlib.Core.Logic.{◌↔◌, ◌⊎◌, inl, inr, ⊎_elim}
use Prim.Native.Nat.{ℕ, ◌+◌, ◌-◌, ◌≤◌, ◌<◌}
use native.Mathlib.Omega.{arith}
use lib.ListN.{length, take}
use borrow.Author.Tests.{le-leb}
use Rattle.laws.specs.Numbered.{Numbered, answered, refused_at}
use Rattle.file.specs.Answers.{counted, located, counted_of, stretch_of, stretch_in, text_of, span_of}
use Rattle.file.specs.Files.{is_file, fields_of, longest}
use Rattle.file.specs.Format.{Fields, written, Permitted, Legal, Begins}
use Rattle.file.specs.Places.{Gives, GivesFile, place_of}
use Rattle.file.specs.Reading.{reading}
use Rattle.file.specs.Rewriting.{buffer, laid, rewrite_records, SameTexts}
use Rattle.file.specs.declared.Outcome.TheVariants.{Whole}
use Rattle.file.proofs.AnswerLaws.{asked_read, asked_whole, file_fields}
use Rattle.file.proofs.Demand3.{written_once, read_is_written, longest_beginning, whole_legal}
use Rattle.file.proofs.Rewriting.{written_again_by}

-- the reader of file number `file` reads s in one way only
pub record InOneWay (file : ℕ) (s : List ℕ) : Type 0 where
  pub once : (rs qs : List Fields) → Permitted (fields_of file) rs → Permitted (fields_of file) qs → written rs ≡ written qs → rs ≡ qs
  pub reads : (rs : List Fields) → GivesFile file s rs ↔ (Permitted (fields_of file) rs × (written rs ≡ s))
  pub answers : (k : ℕ) → counted_of file s ≡ answered (k ∷ []) → Legal (fields_of file) s
  pub refuses : (Legal (fields_of file) s → ⊥)
      → (p : ℕ)
      × (((counted_of file s ≡ refused_at 2 file p) × (p < length s)) ⊎ ((counted_of file s ≡ refused_at 3 file p) × (p ≡ length s)))
      × Begins (fields_of file) (take p s)
      × ((q : ℕ) → p < q → q ≤ length s → Begins (fields_of file) (take q s) → ⊥)

module _ (file : ℕ) (s : List ℕ) (f : is_file file ≡ true) (short : length s ≤ longest) where
  -- what a stretch is, where the file is legal and has it
  stretch_is : (k r c : ℕ) → reading (fields_of file) s ≡ Whole k → r < k → c < fields_of file
      → stretch_of file s (r + 1) (c + 1) ≡ answered ((span_of (fields_of file) s (r + 1) (c + 1)).start ∷ (span_of (fields_of file) s (r + 1) (c + 1)).size ∷ [])
  unfolding located
  stretch_is k r c e i j =
      sym (asked_read (located file s (r + 1) (c + 1)) file s f short (Whole k) (sym e))
      ∙ rw (le-leb 1 (r + 1) (omega arith), le-leb (r + 1) k (omega arith), le-leb 1 (c + 1) (omega arith), le-leb (c + 1) (fields_of file) (omega arith))

  there : (rs : List Fields) → Gives (fields_of file) s rs → GivesFile file s rs
  unfolding counted stretch_in
  there rs g =
      record {
        count = sym (asked_read (counted file) file s f short (Whole (length rs)) (sym g.count));
        shape = g.shape;
        place = λ r c i j. stretch_is (length rs) r c g.count i j ∙ rw (g.place r c i j);
        text = λ r c i j. ap (λ (a : Numbered). stretch_in s a.values) (stretch_is (length rs) r c g.count i j) ∙ g.text r c i j;
      }

  back : (rs : List Fields) → GivesFile file s rs → Gives (fields_of file) s rs
  unfolding stretch_in
  back rs g =
      let w = (asked_whole file s (length rs) (sym g.count)).whole in
      record {
        count = w;
        shape = g.shape;
        place =
            λ r c i j.
            let e = ap (λ (a : Numbered). a.values) (sym (stretch_is (length rs) r c w i j) ∙ g.place r c i j) in
            let a : (span_of (fields_of file) s (r + 1) (c + 1)).start ≡ (place_of rs r c).start = cc in
            let b : (span_of (fields_of file) s (r + 1) (c + 1)).size ≡ (place_of rs r c).size = cc in
            λ x. record { start = a x; size = b x };
        text = λ r c i j. sym (ap (λ (a : Numbered). stretch_in s a.values) (stretch_is (length rs) r c w i j)) ∙ g.text r c i j;
      }

  pub thirteen_files : InOneWay file s
  unfolding counted
  thirteen_files =
      let h = file_fields file f in
      record {
        once = written_once (fields_of file) h;
        reads = λ rs. let e = read_is_written (fields_of file) h s rs in (λ g. e.0 (back rs g), λ p. there rs (e.1 p));
        answers = λ k e. let c = asked_whole file s k (sym e) in whole_legal (fields_of file) h s (rw c.whole tt);
        refuses =
            λ no-list.
            let l = longest_beginning (fields_of file) h s no-list in
            (l.0, ⊎_elim (λ a. inl (sym (asked_read (counted file) file s f short _ (sym a.0)), a.1)) (λ a. inr (sym (asked_read (counted file) file s f short _ (sym a.0)), a.1)) l.1, l.2, l.3);
      }

-- what was read, all its k records, and is written again field by field with the writer, from any place in any buffer with room, each
-- call at the place that the last one answered, gives the same bytes there and leaves the rest of the buffer alone
pub rewritten : (file : ℕ) (s : List ℕ) (k : ℕ) → counted_of file s ≡ answered (k ∷ []) → (d : List ℕ) (place : ℕ) → place + length s ≤ length d
    → rewrite_records file (text_of file s) k 1 (buffer d place) ≡ laid s (buffer d place)
rewritten file s k e d place room =
    let c = asked_whole file s k (sym e) in
    let l = whole_legal (fields_of file) (file_fields file c.file_is) s (rw c.whole tt) in
    let g = ((thirteen_files file s c.file_is c.short).reads l.0).1 (l.1, l.2) in
    let v = ap (λ (a : Numbered). a.values) (sym g.count ∙ e) in
    let j : length l.0 ≡ k = cc in
    let w = written_again_by file (text_of file s) l.0 l.1 (same g) d place (rw l.2 room) in
    ap (λ (x : ℕ). rewrite_records file (text_of file s) x 1 (buffer d place)) (sym j) ∙ w ∙ ap (λ (x : List ℕ). laid x (buffer d place)) l.2
  where
    same : {rs : List Fields} → GivesFile file s rs → SameTexts (fields_of file) (text_of file s) rs
    same g r f p q u v =
        let a : r - 1 + 1 ≡ r = omega arith in
        let b : f - 1 + 1 ≡ f = omega arith in
        rw (a, b) at (g.text (r - 1) (f - 1) (omega arith) (omega arith))
