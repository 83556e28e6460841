-- `file::table::class_of` meets its contract: the checker computes the class of each byte and holds the source's table against it.
use Rattle.file.specs.Bytes.{class_of, plain, permitted_byte, undefined}
use Rattle.file.proofs.TableLaws.{classes}
use Rattle.file.proofs.table.class_of.Goals as goal

pub returns : goal.returns
unfolding class_of plain permitted_byte undefined
returns c = classes c.args.b c.ranges.b.fits
