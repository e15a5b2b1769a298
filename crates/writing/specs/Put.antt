-- A field written into a text. Assumes nothing.
use Rattle.std.specs.Prelude.{List, ◌++◌, ℕ, ◌+◌, ◌-◌, length, take, drop}

-- the text with f over its bytes from position `from` on, and all else as it was
unfoldable pub put_field : ℕ → List ℕ → List ℕ → List ℕ
put_field from f text = take (from - 1) text ++ (f ++ drop (from - 1 + length f) text)
