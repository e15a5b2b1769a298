-- The invariant: the first with the key is not before i.
use Rattle.keys.specs.Keys.{key_of}
use Rattle.theory.specs.laws.Place.{Placing}
use Rattle.finding.specs.Places.{has_key}
use Rattle.finding.proofs.KeyedPartsSearch.find.Given as goal

abbrev pub invariant-loop-i : goal.invariant-loop-i
invariant-loop-i l = Placing (has_key (key_of l.self.keys) l.t) l.self.keys.width l.self.count l.self.block.now l.i
