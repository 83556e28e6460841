-- Document 01's rules of a batch, one by one: each is a quantified statement over files and their records, and none says in which order they are tried.
-- `accepted_exactly` (proofs/Exactly.antt): the check answers Accepted exactly if a batch keeps them.
use Rattle.std.specs.Prelude.{ℕ, ◌≤◌, ◌≡◌, [], ◌∷◌, true, length}
use Rattle.file.specs.Files.{fields_of, longest}
use Rattle.file.specs.Format.{Fields, Legal}
use Rattle.field.specs.Names.{field}
use Rattle.field.specs.Kinds.{kind_of, admits}
use Rattle.field.specs.Rules.{stop_rule, firm_rule, line_rule, trip_stop_rule, time_code_rule, carrier_rule}
use Rattle.thirteen.specs.Batch.{Batch, file_in, records_of}
use Rattle.link.specs.Met.{Each, number, Linking, Signed}
use Rattle.kept.specs.Trips.{DaysKept, StopsKept}
use Rattle.kept.specs.Own.{TimeCode, TripStop, TripSign, Ahead}

pub record Keeps (b : Batch) : Type 0 where
  -- 1: no file is over 16,777,215 bytes
  pub lengths : (file : ℕ) → 1 ≤ file → file ≤ 13 → length (file_in b file) ≤ longest
  -- 2, 3: each is a legal file
  pub legal : (file : ℕ) → 1 ≤ file → file ≤ 13 → Legal (fields_of file) (file_in b file)
  -- 4: VerzeJDF is one record `1.8`
  pub version : records_of b 1 ≡ ((49 ∷ 46 ∷ 56 ∷ []) ∷ []) ∷ []
  -- 5: each field is of its kind
  pub kinds : (file : ℕ) → 2 ≤ file → file ≤ 13 → Each b file (λ r. (f : ℕ) → 1 ≤ f → f ≤ fields_of file → admits (kind_of file f) (field f r) ≡ true)
  -- 6: each record keeps the rules of its file
  pub stop_rule_kept : Each b 2 (λ r. stop_rule r ≡ true)
  pub firm_rule_kept : Each b 4 (λ r. firm_rule r ≡ true)
  pub line_rule_kept : Each b 5 (λ r. line_rule r ≡ true)
  pub trip_stop_rule_kept : Each b 8 (λ r. trip_stop_rule r ≡ true)
  pub time_code_rule_kept : Each b 10 (λ r. time_code_rule r ≡ true)
  pub carrier_rule_kept : Each b 11 (λ r. carrier_rule r ≡ true)
  -- 7, 8: keys and links
  pub linking : Linking b
  -- 9: signs
  pub signs : Signed b
  -- 10: the days of each trip
  pub days : Each b 6 (λ r. DaysKept (TimeCode b r) (TripSign b r))
  -- 11: the stops of each trip, in travel order
  pub stops : Each b 6 (λ r. StopsKept Fields (TripStop b r) (λ q. q) (Ahead (number 2 r)))
