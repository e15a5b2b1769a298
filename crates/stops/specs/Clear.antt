-- What was handed over where no stop from 21 to 32 is given. Assumes nothing.
use Rattle.std.specs.Prelude.{◌≡◌, Bool, true, false, List, ℕ}
use Rattle.issuers.specs.Rows.{rows_hold}
use Rattle.hgv.specs.Layout.{length_holds}
use Rattle.frames.specs.Frames.{footer_holds, frames_hold}
use Rattle.header.specs.Header.{header_holds}
use Rattle.claims.specs.Claims.{version_holds, count_holds}
use Rattle.register.specs.Register.{in_order}
use Rattle.stops.specs.Stops.{mode_holds, full_with220001, addressed}

pub record Clear (mode : ℕ) (timed : Bool) (register b h : List ℕ) : Type 0 where
  pub moded : mode_holds mode ≡ true
  pub received : timed ≡ true
  pub ordered : in_order register ≡ true
  pub rowed : rows_hold b ≡ true
  pub sized : length_holds h ≡ true
  pub headed : header_holds h ≡ true
  pub versioned : version_holds h ≡ true
  pub fitting : full_with220001 mode h ≡ false
  pub sent : addressed b h ≡ true
  pub counted : count_holds h ≡ true
  pub footed : footer_holds h ≡ true
  pub framed : frames_hold h ≡ true
