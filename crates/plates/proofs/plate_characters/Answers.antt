-- The rule of the table, computed over all 256 entries.
use borrow.Author.Rules.{rules}
use Rattle.theory.specs.Table.{table_of, table_from}
use Rattle.plates.specs.Plate.{allowed}
use Rattle.plates.specs.laws.Plate.{allowed_mark, allowed_table}
use Rattle.plates.proofs.plate_characters.Goals as goal

pub admitted-requires : goal.admitted-requires
unfolding allowed_table allowed_mark table_of table_from allowed
admitted-requires c = search rules
