-- What is sent back in each sequence that `proofs/Sides` runs: seven files of two providers, a full register that a sweep empties, and two
-- files with summer time between them.
use Rattle.std.specs.Prelude.{true, List, []}
use Rattle.imports.specs.Shown.{hgc_as}
use Rattle.demands.specs.History.{Event, acceptance, sweeping, empty, ◌▸◌}
use Rattle.witnesses.specs.Files as files
use Rattle.witnesses.specs.Computed.{buffer_after, counts4, file₁, file₂, file₄, file₆, register₁, register₂, register₄, file₈, file₁₀, begun, packed, emptied, went, file₁₁, file₁₂, register₁₁}

-- what was sent back of the seven files
abbrev pub events₁ : List Event
events₁ = [] ▸ acceptance file₁ (counts4 0 1 1 304) (buffer_after (empty 3) file₁)

abbrev pub events₂ : List Event
events₂ = events₁ ▸ acceptance file₂ (counts4 0 1 0 174) (buffer_after register₁ file₂)

abbrev pub events₄ : List Event
events₄ = events₂ ▸ acceptance file₄ (counts4 0 2 0 174) (buffer_after register₂ file₄)

abbrev pub events : List Event
events = events₄ ▸ acceptance file₆ (counts4 0 1 0 174) (buffer_after register₄ file₆)

-- what was told of the full register, and of the sweeps
abbrev pub told₈ : List Event
told₈ = [] ▸ acceptance file₈ (counts4 0 1 0 174) (buffer_after (empty 2) file₈)

abbrev pub told₂ : List Event
told₂ = told₈ ▸ acceptance file₂ (counts4 0 1 0 174) (buffer_after begun file₂)

abbrev pub told_swept : List Event
told_swept = told₂ ▸ sweeping files.reception packed (went 0 1) emptied ▸ sweeping files.unreal emptied (went 22 0) emptied

abbrev pub told : List Event
told = told_swept ▸ acceptance file₁₀ (counts4 0 1 0 174) (buffer_after emptied file₁₀)

-- and of the two files of the night
abbrev pub told₁₁ : List Event
told₁₁ = [] ▸ acceptance file₁₁ (counts4 0 1 0 174) (hgc_as true files.winter_shown file₁₁ (empty 2))

abbrev pub told₁₂ : List Event
told₁₂ = told₁₁ ▸ acceptance file₁₂ (counts4 0 1 0 174) (hgc_as true files.summer_shown file₁₂ register₁₁)
