-- `sweep::read_on` meets its contract: each arm reads a record of its file, which has as many fields as its reader knows.
use mathlib.Core.Path.{refl}
use Rattle.file.specs.Files.{fields_of, field_counts}
use Rattle.field.specs.Kinds.{kind_of, kinds, udaje, mistenky}
use Rattle.sweep.proofs.FieldLaws.{first_9, first_13}
use Rattle.sweep.proofs.SoundLaws.{some_fields, read_by}
use Rattle.sweep.proofs.read_on.Goals as goal

pub read_note-requires : goal.read_note-requires
unfolding kind_of kinds udaje
read_note-requires c = (c.requires.0, first_9, refl)

pub read_note-requires-in-13 : goal.read_note-requires-in-13
unfolding kind_of kinds mistenky
read_note-requires-in-13 c = (c.requires.0, first_13, refl)

pub read_any-requires : goal.read_any-requires
read_any-requires c =
    (c.requires.0, some_fields c.args.file c.args.n c.requires.1, c.requires.1.few)

pub returns-in-2 : goal.returns-in-2
unfolding fields_of field_counts
returns-in-2 c = read_by _ _ _ c.read_zastavky.result c.requires.1 c.in-2.is refl c.read_zastavky.ensures

pub returns-in-6 : goal.returns-in-6
unfolding fields_of field_counts
returns-in-6 c = read_by _ _ _ c.read_spoje.result c.requires.1 c.in-6.is refl c.read_spoje.ensures

pub returns-in-7 : goal.returns-in-7
unfolding fields_of field_counts
returns-in-7 c = read_by _ _ _ c.read_zaslinky.result c.requires.1 c.in-7.is refl c.read_zaslinky.ensures

pub returns-in-8 : goal.returns-in-8
unfolding fields_of field_counts
returns-in-8 c = read_by _ _ _ c.read_zasspoje.result c.requires.1 c.in-8.is refl c.read_zasspoje.ensures

pub returns-in-9 : goal.returns-in-9
unfolding fields_of field_counts
returns-in-9 c = read_by _ _ _ c.read_note.result c.requires.1 c.in-9.is refl c.read_note.ensures

pub returns-in-10 : goal.returns-in-10
unfolding fields_of field_counts
returns-in-10 c = read_by _ _ _ c.read_caskody.result c.requires.1 c.in-10.is refl c.read_caskody.ensures

pub returns-in-11 : goal.returns-in-11
unfolding fields_of field_counts
returns-in-11 c = read_by _ _ _ c.read_altdop.result c.requires.1 c.in-11.is refl c.read_altdop.ensures

pub returns-in-13 : goal.returns-in-13
unfolding fields_of field_counts
returns-in-13 c = read_by _ _ _ c.read_note-in-13.result c.requires.1 c.in-13.is refl c.read_note-in-13.ensures
