-- A stop by its name: document 01, 23 and 24; nothing near is ever shown.
use Rattle.std.specs.Prelude.{◌≡◌}
use Rattle.laws.specs.Numbered.{Numbered}
use Rattle.file.specs.Format.{Text}
use Rattle.field.specs.Names.{stops_file}
use Rattle.thirteen.specs.Batch.{Batch, records_of, or_else}
use Rattle.trail.specs.Lists.{select}
use Rattle.batch.specs.Order.{fault_of}
use Rattle.named.specs.Names.{is_named, numbered_named}
use Rattle.named.specs.declared.Named.{Named}
use Rattle.byname.specs.TheOne.{the_one}

-- a question on a batch that isn't accepted gives that batch's refusal
unfoldable pub name_answer : Batch → Text → Text → Text → Numbered
name_answer b town part place = or_else (fault_of b) (the_one (select (is_named town part place) (records_of b stops_file)))

-- the promise
abbrev pub NameIs : Batch → Text → Text → Text → Named → Type 0
NameIs b town part place r = numbered_named r ≡ name_answer b town part place
