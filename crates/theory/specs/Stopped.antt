-- A call that may be stopped: what is done where no stop is given. Assumes nothing.
use Rattle.std.specs.Prelude.{cond, ℕ, eqb}

-- what is done on success, and what stays at a stop
unfoldable pub unless_stopped : {A : Type 0} → ℕ → A → A → A
unless_stopped number done stays = cond (eqb number 0) done stays
