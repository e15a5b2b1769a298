-- What is handed over, as the functions of the code pass it on. Assumes nothing.
use Rattle.std.specs.Prelude.{List, ℕ}
use Rattle.offsets.specs.Ahead.{offset_of}
use Rattle.imports.specs.declared.Call.{Call}
use Rattle.imports.specs.Handed.{Handed, handed}

-- with the HGC's buffer
abbrev pub handed_in : Call → List ℕ → Handed
handed_in call hgc = handed call.mode call.reception.now (offset_of call.offset.ahead) call.rows.now call.hgv.now hgc
