-- What is wrong with a field is seen in the file that it links to, and in no other: two batches in which that file is the same agree on it. A code
-- links to Pevnykod, where its sign stands too.
use mathlib.Core.Path.{◌≡◌, refl, sym, ◌∙◌}
use mathlib.Core.List.{List, []}
use Prim.Native.Nat.{ℕ, zero, suc, ◌+◌}
use lib.ListN.{length, get_or}
use Rattle.file.specs.Files.{fields_of}
use Rattle.file.specs.Format.{Fields}
use Rattle.file.specs.Records.{records_in}
use Rattle.thirteen.specs.Batch.{Batch, file_in}
use Rattle.link.specs.Links.{link_of, target, reaches, met}
use Rattle.link.specs.Signs.{sign_of, same_sign, code_fits, sign_stands}
use Rattle.link.specs.Stage.{amiss, first_amiss}
use Rattle.link.specs.declared.Link.{Link}
use Rattle.passage.specs.Passage.{Passes}

module _ (g b : Batch) where
  -- the file that such a link goes to is the same
  abbrev pub SameFor : Link → Type 0
  SameFor link = file_in g (target link) ≡ file_in b (target link)

  reaches_same : (link : Link) (f : ℕ) (r : Fields) → SameFor link → reaches g link f r ≡ reaches b link f r
  unfolding reaches
  reaches_same to f r e = rw e

  -- the link is met in both or in none
  met_same : (link : Link) (f : ℕ) (r : Fields) → SameFor link → met g link f r ≡ met b link f r
  unfolding met target
  met_same Link.Free f r e = refl
  met_same Link.Line f r e = reaches_same Link.Line f r e
  met_same Link.Stop f r e = reaches_same Link.Stop f r e
  met_same Link.Carrier f r e = reaches_same Link.Carrier f r e
  met_same Link.Trip f r e = reaches_same Link.Trip f r e
  met_same Link.TripOrZero f r e = rw (reaches_same Link.Trip f r e)
  met_same Link.LineStop f r e = reaches_same Link.LineStop f r e
  met_same Link.Code f r e = rw (reaches_same Link.Code f r e)

  -- and so is its sign permitted
  signs_same : (file : ℕ) (link : Link) (f : ℕ) (r : Fields) → SameFor link → sign_stands g file link f r ≡ sign_stands b file link f r
  unfolding sign_stands code_fits same_sign sign_of target
  signs_same file Link.Free f r e = refl
  signs_same file Link.Line f r e = refl
  signs_same file Link.Stop f r e = refl
  signs_same file Link.Carrier f r e = refl
  signs_same file Link.Trip f r e = refl
  signs_same file Link.TripOrZero f r e = refl
  signs_same file Link.LineStop f r e = refl
  signs_same file Link.Code f r e = rw e

  module _ (file : ℕ) where
    -- the files that this one links to are the same
    abbrev pub Agree : Type 0
    Agree = (f : ℕ) → SameFor (link_of file f)

    module _ (e : Agree) where
      amiss_same : (r : Fields) (f : ℕ) → amiss g file r f ≡ amiss b file r f
      unfolding amiss
      amiss_same r f = rw (met_same (link_of file f) f r (e f), signs_same file (link_of file f) f r (e f))

      first_same : (r : Fields) (f count : ℕ) → first_amiss g file r f count ≡ first_amiss b file r f count
      unfolding first_amiss
      first_same r f zero = refl
      first_same r f (suc count) = rw (amiss_same r f, first_same r (f + 1) count)

      -- so a file that passes beside the one passes beside the other
      pub passes_too : (s : List ℕ) → Passes g file s → Passes b file s
      passes_too s p = record {
        sound = p.sound;
        rise = p.rise;
        fits = λ i h.
            let r = get_or (records_in (fields_of file) s) i [] in
            sym (first_same r 1 (length r)) ∙ p.fits i h;
      }
