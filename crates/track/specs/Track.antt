-- How the code goes about refusal 11: one pass in travel order that never looks ahead. What it carries is a `Track` for the places, and the last
-- minute and kilometre, where a number above all others says that they have fallen. Nothing here needs to be believed: the pass is proved to be `stops_fit`
-- in `course`.
use Rattle.std.specs.Prelude.{ℕ, Bool, true, false, not, eqb, leb, ltb}
use Rattle.laws.specs.Tests.{pick, both, one_of}
use Rattle.track.specs.declared.Visit.{Visit}
use Rattle.track.specs.declared.Track.{Track}

-- nothing has come yet
unfoldable pub set_out : Track
set_out = record { seen = 0; departs = false; arrives = false; passed = false; blank = false; fits = true }

-- a record with a time comes
unfoldable pub timed_on : Track → Visit → Track
timed_on c v = record {
  seen = pick (eqb c.seen 0) 1 2;
  departs = v.departs;
  arrives = v.arrives;
  passed = false;
  blank = false;
  fits = pick (eqb c.seen 0)
      (both c.fits (both v.departs (both (not v.arrives) (eqb v.kilometre 0))))
      (both c.fits (both c.departs (not c.blank)));
}

-- a record without comes: before the first with a time it may not be a pass; later that is seen when there is one more, or the end
unfoldable pub untimed_on : Track → Visit → Track
untimed_on c v =
    pick (eqb c.seen 0)
    (record { seen = c.seen; departs = c.departs; arrives = c.arrives; passed = c.passed; blank = c.blank; fits = both c.fits (not v.passes) })
    (record { seen = c.seen; departs = c.departs; arrives = c.arrives; passed = one_of c.passed v.passes; blank = one_of c.blank v.blank; fits = c.fits })

unfoldable pub track_on : Track → Visit → Track
track_on c v = pick (one_of v.arrives v.departs) (timed_on c v) (untimed_on c v)

-- at the end: two have come with a time, the last has an arrival, and no pass stands behind it
unfoldable pub track_ends : Track → Bool
track_ends c = both c.fits (both (eqb c.seen 2) (both c.arrives (not c.passed)))

-- the last minute, or `fallen`, above all minutes
abbrev pub fallen : ℕ
fallen = 1440

unfoldable pub minute_on : ℕ → Bool → ℕ → ℕ
minute_on last isOne minute = pick isOne (pick (leb last minute) minute fallen) last

unfoldable pub time_on : ℕ → Visit → ℕ
time_on last v = minute_on (minute_on last v.arrives v.arrival) v.departs v.departure

-- the last kilometre, or `shrunk`, above all of them
abbrev pub shrunk : ℕ
shrunk = 1000000000

unfoldable pub length_on : ℕ → Visit → ℕ
length_on last v = pick v.measured (pick (leb last v.kilometre) v.kilometre shrunk) last

-- nothing was wrong
unfoldable pub course_ends : Track → ℕ → ℕ → Bool
course_ends c time length = both (track_ends c) (both (ltb time fallen) (ltb length shrunk))
